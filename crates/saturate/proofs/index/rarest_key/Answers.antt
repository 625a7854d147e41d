use Rattle.std.proofs.Common.{◌∷◌, map, ℕ, false, inr, sym, ◌∙◌, subst}
use Rattle.calculus.specs.Answers.{Among}
use Rattle.saturate.specs.declared.fingerprint.Fingerprint.{Fingerprint}
use Rattle.saturate.specs.Indexes.{key_of}
use Rattle.saturate.proofs.IndexLaws.{key_among}
use Rattle.saturate.proofs.index.rarest_key.Goals as goal
use Rattle.saturate.proofs.index.rarest_key.Goals.{then-count-fewest, else-count-fewest}

abbrev past : Fingerprint
past = record { positive = false; parts = 0; head = 0; first = 0; second = 0 }

pub loop-print-preserved : goal.loop-print-preserved
loop-print-preserved c =
    let prints = c.args.prints.now in
    elim c.if-count-fewest.branch [
      | then-count-fewest w ↦
          inr (key_among prints.others c.items-print-items.result.now c.loop-print.print-index past c.if-count-fewest.rarest c.items-print-items.ensures c.loop-print-test.true
          (w.rarest-is ∙ c.key-key.ensures))
      | else-count-fewest w ↦ subst (λ (n : ℕ). Among n (map key_of (prints.first ∷ prints.others))) (sym w.rarest-is) c.loop-print.invariant
    ]
