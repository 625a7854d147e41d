use Rattle.std.proofs.Common.{◌≡◌, ◌↔◌, ◌⊎◌, inl, inr, Bool, true, false, IsTrue, sym, ◌∙◌}
use Rattle.calculus_programs.proofs.PickLaws.{ok_map}
use Rattle.saturate.specs.Covered.{is_tautology}
use Rattle.saturate.specs.Indexes.{UnderClause, listed}
use Rattle.saturate.specs.Runs.{clauses}
use Rattle.saturate.proofs.IndexLaws.{covered_found, found_covers}
use Rattle.saturate.proofs.covered.is_covered.Goals as goal

pub returns : goal.returns
returns c =
    let state = c.args.state.now in
    let r = state.reached in
    let clause = c.args.clause.now in
    let listing = listed state.listed in
    let proper : is_tautology clause ≡ false = sym c.is_tautology.ensures ∙ c.if-is_tautology.false in
    let only : (is_tautology clause ≡ true) ⊎ UnderClause listing (clauses r) clause → UnderClause listing (clauses r) clause = λ h. elim h [
      | inl e ↦ let no_way : true ≡ false = sym e ∙ proper in absurd (cc)
      | inr k ↦ k
    ] in
    ok_map c.is_under.result _ _
    (λ (answer : Bool) (under : IsTrue answer ↔ UnderClause listing (clauses r) clause). (
      λ h. found_covers listing r clause c.requires.indexed (under.0 h),
      λ h. under.1 (only (covered_found listing r clause c.requires.indexed h)),
    ))
    c.is_under.ensures
