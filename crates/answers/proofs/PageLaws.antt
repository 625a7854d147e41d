-- The page of an outcome, part by part.
use Rattle.std.proofs.Common.{◌≡◌, List, ◌++◌, Option, Some, None, codes, append_assoc, sym, ap, ◌∙◌}
use Rattle.kif_tree.specs.declared.place.LoadName.{LoadName}
use Rattle.kif_tree.specs.Terms.{Bytes}
use Rattle.answers.specs.declared.outcome.Outcome.{Outcome}
use Rattle.answers.specs.declared.proof.Proof.{Proof}
use Rattle.answers.specs.Pages.{answers_text, contradiction_text, proof_text, end_text, page}

joined : (a c p e : Bytes) → ((a ++ c) ++ p) ++ e ≡ a ++ ((c ++ p) ++ e)
joined a c p e = simp append_assoc

pub page_with : (names : List LoadName) (outcome : Outcome) (proof : Proof) (first second third last : Bytes) → outcome.contradiction ≡ Some proof
    → first ≡ answers_text names 0 outcome.answers → second ≡ first ++ codes "contradiction\n" → third ≡ second ++ proof_text names proof
    → last ≡ third ++ end_text outcome.ended outcome.turns → last ≡ page names outcome
unfolding page
page_with names outcome proof first second third last is one two three four =
    let e = end_text outcome.ended outcome.turns in
    four ∙ ap (λ (t : Bytes). t ++ e) (three ∙ ap (λ (t : Bytes). t ++ proof_text names proof) (two ∙ ap (λ (t : Bytes). t ++ codes "contradiction\n") one))
    ∙ joined (answers_text names 0 outcome.answers) (codes "contradiction\n") (proof_text names proof) e
    ∙ ap (λ (o : Option Proof). answers_text names 0 outcome.answers ++ (contradiction_text names o ++ e)) (sym is)

pub page_without : (names : List LoadName) (outcome : Outcome) (first last : Bytes) → outcome.contradiction ≡ None
    → first ≡ answers_text names 0 outcome.answers → last ≡ first ++ end_text outcome.ended outcome.turns → last ≡ page names outcome
unfolding page
page_without names outcome first last is one four =
    let e = end_text outcome.ended outcome.turns in
    four ∙ ap (λ (t : Bytes). t ++ e) one
    ∙ ap (λ (o : Option Proof). answers_text names 0 outcome.answers ++ (contradiction_text names o ++ e)) (sym is)
