use Rattle.std.proofs.Common.{sym, ◌∙◌}
use Rattle.diagnose.proofs.ArgumentLaws.{no_count, adds_count, is_arity}
use Rattle.diagnose.proofs.FoundLaws.{adds_none}
use Rattle.diagnose.specs.OfLists.{IsOfCount}
use Rattle.diagnose.proofs.arguments.add_of_count.Goals as goal

pub returns-then-not-is_wrong_count : goal.returns-then-not-is_wrong_count
returns-then-not-is_wrong_count c = λ forms given.
    adds_none (IsOfCount forms c.args.place c.args.head.now c.args.arguments.now) c.args.found.now.items
    (no_count forms c.args.place c.args.head.now c.args.arguments.now c.arity-arity.result
    (is_arity forms c.args.given.signatures.now c.args.head.now c.bytes.result.now c.arity-arity.result given.signatures c.bytes.ensures c.arity-arity.ensures)
    (sym c.is_wrong_count.ensures ∙ c.if-not-is_wrong_count.true))

pub returns : goal.returns
returns c = λ forms given.
    adds_count forms c.args.place c.args.head.now c.args.arguments.now c.arity-arity.result
    (is_arity forms c.args.given.signatures.now c.args.head.now c.bytes.result.now c.arity-arity.result given.signatures c.bytes.ensures c.arity-arity.ensures)
    (sym c.is_wrong_count.ensures ∙ c.if-not-is_wrong_count.false) c.args.found.now.items c.push.new.self.items c.in_ok-term.term c.in_ok-term.ensures c.in_ok-push.ensures.items
