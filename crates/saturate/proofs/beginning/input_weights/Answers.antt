use Rattle.std.proofs.Common.{◌++◌, ◌∷◌, [], ◌<◌, List, ℕ, length, sym, ap₂, ◌∙◌, arith}
use Rattle.saturate.specs.Runs.{weight}
use Rattle.saturate.proofs.BeginningLaws.{clauses_more, there_is}
use Rattle.saturate.proofs.beginning.input_weights.Goals as goal
use Rattle.saturate.proofs.beginning.input_weights.Goals.{in-Some+in_ok-push, in_default}

pub loop-number-preserved : goal.loop-number-preserved
loop-number-preserved c =
    let inputs = c.args.inputs.now in
    elim c.match-get.branch [
      | in-Some+in_ok-push w ↦
          w.weights-is ∙ w.in_ok-push.ensures.ok
          ∙ ap₂ (λ (ns : List ℕ) (n : ℕ). ns ++ n ∷ []) c.loop-number.invariant w.weight.ensures
          ∙ sym (clauses_more weight inputs c.loop-number.number w.in-Some.input.now (sym w.in-Some.ensures))
      | in_default w ↦
          let below : c.loop-number.number < length inputs = omega (arith, c.count-number-end.ensures) in
          absurd (there_is inputs c.loop-number.number below (sym w.in_default.ensures))
    ]
