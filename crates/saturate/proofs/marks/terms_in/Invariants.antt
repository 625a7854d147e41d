use Rattle.std.proofs.Common.{◌≡◌, map, drop}
use Rattle.kif_tree.specs.declared.clause.Literal.{Literal}
use Rattle.kif_tree.specs.Names.{parts_in}
use Rattle.saturate.specs.Marks as spec
use Rattle.saturate.proofs.marks.terms_in.Given as goal

abbrev pub invariant-loop-literal : goal.invariant-loop-literal
invariant-loop-literal l = spec.joined l.marks (map (λ (literal : Literal). spec.inner_terms (parts_in literal.atom)) (drop l.literal-index l.literals)) ≡ spec.terms_in l.literals
