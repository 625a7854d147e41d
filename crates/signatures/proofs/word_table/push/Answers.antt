use Rattle.std.proofs.lemmas.Result.{on_ok_weaker}
use Rattle.signatures.proofs.WordTableLaws.{pushed_by}
use Rattle.signatures.proofs.word_table.push.Goals as goal

pub returns : goal.returns
returns g c =
    on_ok_weaker c.set.result
    (λ set. pushed_by c.args.table.now c.take-items.new.table c.set.new.table c.args.word.now c.take-items.result c.push.new.self c.args.item c.take-items.ensures.list c.take-items.ensures.others c.in_ok-push.ensures.ok set) c.set.ensures
