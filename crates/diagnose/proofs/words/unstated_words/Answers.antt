use Rattle.std.proofs.Common.{sym, ap, ◌∙◌}
use Rattle.signatures.specs.Tables.{arity_in}
use Rattle.diagnose.specs.WordFaults.{is_unstated}
use Rattle.diagnose.proofs.WordTableLaws.{unstated_skip, unstated_more}
use Rattle.diagnose.proofs.words.unstated_words.Goals as goal

pub loop-name-preserved-then-not-is_unstated : goal.loop-name-preserved-then-not-is_unstated
loop-name-preserved-then-not-is_unstated c =
    unstated_skip (λ word. is_unstated (arity_in c.args.signatures.now word)) c.relations-name-items.result.now c.loop-name.name-index c.name-item.result c.bytes.result.now c.loop-name.words
    c.loop-name-test.true c.name-item.is c.bytes.ensures (sym (c.is_unstated.ensures ∙ ap is_unstated c.arity.ensures) ∙ c.if-not-is_unstated.true) c.loop-name.invariant

pub loop-name-preserved : goal.loop-name-preserved
loop-name-preserved c =
    unstated_more (λ word. is_unstated (arity_in c.args.signatures.now word)) c.relations-name-items.result.now c.loop-name.name-index c.name-item.result c.bytes-in-loop-name.result.now c.loop-name.words c.add.new.self
    c.loop-name-test.true c.name-item.is c.bytes-in-loop-name.ensures
    (ap (λ word. is_unstated (arity_in c.args.signatures.now word)) (c.bytes-in-loop-name.ensures ∙ sym c.bytes.ensures) ∙ sym (c.is_unstated.ensures ∙ ap is_unstated c.arity.ensures) ∙ c.if-not-is_unstated.false) c.loop-name.invariant c.in_ok-add.ensures.has
