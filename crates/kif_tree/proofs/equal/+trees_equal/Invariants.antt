use Rattle.std.proofs.Common.{◌≡◌, ℕ, ◌<◌, get_or}
use Rattle.kif_tree.specs.declared.form.Form.{Form}
use Rattle.kif_tree.proofs.equal.+trees_equal.Given as goal

abbrev pub invariant-loop-at : goal.invariant-loop-at
invariant-loop-at l = (k : ℕ) (d : Form) → k < l.at → get_or l.a k d ≡ get_or l.b k d
