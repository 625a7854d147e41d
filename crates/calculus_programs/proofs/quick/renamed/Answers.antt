use Rattle.std.proofs.Common.{◌≡◌, ap, sym, ◌∙◌, arith}
use Rattle.kif_tree.specs.Terms.{distinct}
use Rattle.kif_tree.specs.Clauses.{Literals, clause_variables}
use Rattle.calculus_programs.proofs.QuickLaws.{nothing_renamed, no_names}
use Rattle.calculus_programs.proofs.quick.renamed.Goals as goal

pub returns-then-is_empty : goal.returns-then-is_empty
returns-then-is_empty c =
    let is : c.items.result.now ≡ c.args.clause = c.items.ensures ∙ c.clause.view_is in
    nothing_renamed c.args.clause c.in_ok-names.names (c.in_ok-names.ensures ∙ ap (λ (ls : Literals). distinct (clause_variables ls)) is) (sym c.items-2.ensures ∙ no_names c.items-2.result.now (grind arith))
