use Rattle.std.proofs.Common.{◌≡◌, ◌↔◌, IsTrue, ◌∙◌, ap, sym, subst, inl, inr, refl, List, Bool}
use Rattle.sigma_base.specs.Lists.{Each}
use Rattle.calculus_programs.proofs.PickLaws.{ok_map}
use Rattle.saturate.specs.declared.fingerprint.Fingerprint.{Fingerprint}
use Rattle.saturate.specs.declared.fingerprint.Fingerprints.{Fingerprints}
use Rattle.saturate.specs.Fingerprints.{first_of, others_of}
use Rattle.saturate.specs.Indexes.{HasCodes, Under, UnderPrint, UnderAny, listed}
use Rattle.saturate.specs.Runs.{clauses}
use Rattle.saturate.proofs.IndexLaws.{first_has_codes, others_have_codes}
use Rattle.saturate.proofs.LookupLaws.{second_decides}
use Rattle.saturate.proofs.lookup.is_under.Goals as goal

pub under_head-requires-clause-codes : goal.under_head-requires-clause-codes
under_head-requires-clause-codes c = subst (λ (p : Fingerprint). HasCodes p) (sym (ap (λ (p : Fingerprints). p.first) c.requires.prints)) (first_has_codes c.args.clause.now)

pub under_any-requires-clause-codes : goal.under_any-requires-clause-codes
under_any-requires-clause-codes c =
    subst (λ (ps : List Fingerprint). Each HasCodes ps) (sym (c.items.ensures ∙ ap (λ (p : Fingerprints). p.others) c.requires.prints)) (others_have_codes c.args.clause.now)

pub returns-then-branch-3 : goal.returns-then-branch-3
returns-then-branch-3 c =
    let listing = listed c.args.state.now.listed in
    let all = clauses c.args.state.now.reached in
    let clause = c.args.clause.now in (
      λ _. inr (inr (inl (subst (λ (p : Fingerprint). UnderPrint listing all clause p) (ap (λ (p : Fingerprints). p.first) c.requires.prints)
          (c.in_ok-under_head.ensures.0 c.if-branch-3.true)))),
      λ _. refl,
    )

pub returns : goal.returns
returns c =
    let listing = listed c.args.state.now.listed in
    let all = clauses c.args.state.now.reached in
    let clause = c.args.clause.now in
    let first : c.args.prints.now.first ≡ first_of clause = ap (λ (p : Fingerprints). p.first) c.requires.prints in
    let others : c.items.result.now ≡ others_of clause = c.items.ensures ∙ ap (λ (p : Fingerprints). p.others) c.requires.prints in
    ok_map c.under_any.result _ _
    (λ (answer : Bool) last.
    second_decides c.in_ok-under.field-0 (subst (λ (p : Fingerprint). IsTrue c.in_ok-under.field-0 ↔ Under listing all clause p.positive p.head p.first p.second) c.without_parts.ensures c.in_ok-under.ensures) c.if-branch.false answer
    (second_decides c.in_ok-under-2.field-0 (subst (λ (p : Fingerprint). IsTrue c.in_ok-under-2.field-0 ↔ Under listing all clause p.positive p.head p.first p.second) c.without_parts-2.ensures c.in_ok-under-2.ensures) c.if-branch-2.false answer
    (second_decides c.in_ok-under_head.field-0 (subst (λ (p : Fingerprint). IsTrue c.in_ok-under_head.field-0 ↔ UnderPrint listing all clause p) first c.in_ok-under_head.ensures) c.if-branch-3.false answer
    (subst (λ (ps : List Fingerprint). IsTrue answer ↔ UnderAny listing all clause ps) others last))))
    c.under_any.ensures
