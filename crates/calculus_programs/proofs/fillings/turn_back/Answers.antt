use Rattle.std.proofs.Common.{◌≡◌, map, ap, ◌∙◌, arith}
use Rattle.kif_tree.specs.Terms.{distinct}
use Rattle.kif_tree.specs.Clauses.{clause_variables}
use Rattle.kif_tree.specs.Subst.{value_of}
use Rattle.calculus.specs.Tidy.{numbered, without_repeats}
use Rattle.calculus_programs.specs.Pairs.{fill_pair}
use Rattle.calculus_programs.proofs.PickLaws.{ok_map}
use Rattle.calculus_programs.proofs.FillingLaws.{turned_pairs}
use Rattle.calculus_programs.proofs.fillings.turn_back.Goals as goal

pub returns : goal.returns
returns c =
    let raw = c.args.conclusion.now in
    let renaming : c.items-3.result.now ≡ numbered 1 (distinct (clause_variables (without_repeats raw))) = grind arith in
    ok_map c.fill_pairs.result _ _ (λ pairs h. ap value_of (h ∙ ap (map (fill_pair (value_of c.args.filling.now))) renaming) ∙ turned_pairs raw (value_of c.args.filling.now)) c.fill_pairs.ensures
