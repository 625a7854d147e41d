use Rattle.std.proofs.Common.{◌≡◌, true, false, sym, ap, ap₂, ◌∙◌}
use Rattle.kif_tree.specs.Clauses.{Literals}
use Rattle.calculus.specs.Evidence.{list_from}
use Rattle.infer.specs.Conclusions.{clause_at}
use Rattle.saturate.specs.Fingerprints.{fingerprints, may_subsume}
use Rattle.saturate.specs.Runs.{clauses}
use Rattle.saturate.proofs.FingerprintLaws.{subsumes_seen}
use Rattle.saturate.proofs.StateLaws.{prints_listed}
use Rattle.saturate.proofs.reached.State.may_subsume.Goals as goal

pub returns-in-Some : goal.returns-in-Some
returns-in-Some c = λ fails general special at prints subsumes.
    let found = c.in-Some.ensures.lookup in
    let there : clause_at (clauses c.args.self.now.reached) c.args.number ≡ general = ap (λ o. list_from o (λ (clause : Literals). clause)) at in
    let own = prints_listed c.args.self.now c.items.result.now c.args.number c.in-Some.own.now c.requires c.items.ensures found.3.0 found.1 ∙ ap fingerprints there in
    let no_way : true ≡ false = sym (subsumes_seen general special subsumes) ∙ sym (ap₂ may_subsume own prints) ∙ sym c.may_subsume.ensures ∙ fails in
    absurd (cc)
