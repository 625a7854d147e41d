use Rattle.std.proofs.Common.{◌++◌, List, ap, ◌∙◌}
use Rattle.answers.specs.declared.outcome.Answer.{Answer}
use Rattle.answers.specs.Pages.{answers_text}
use Rattle.answers.proofs.PageLaws.{page_with, page_without}
use Rattle.answers.proofs.page.print_outcome.Goals as goal
use Rattle.answers.proofs.page.print_outcome.Goals.{in-Some+in_ok-append+in_ok-append_proof, in_default}

pub returns : goal.returns
returns c =
    let names = c.args.names.now in let outcome = c.args.outcome.now in
    let first = c.in_ok-append_answers.ensures ∙ ap (λ out. out ++ answers_text names 0 c.items.result.now) c.new-out.ensures
    ∙ ap (λ (answers : List Answer). answers_text names 0 answers) c.items.ensures in
    elim c.match-outcome.branch [
      | in-Some+in_ok-append+in_ok-append_proof w ↦ page_with names outcome w.in-Some.proof _ _ c.match-outcome.out _ w.in-Some.is first w.in_ok-append.ensures.ok
          (w.out-is ∙ w.in_ok-append_proof.ensures) c.in_ok-append_end.ensures
      | in_default w ↦ page_without names outcome c.match-outcome.out _ w.in_default.is (w.out-is ∙ first) c.in_ok-append_end.ensures
    ]
