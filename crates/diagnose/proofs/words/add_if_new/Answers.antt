use Rattle.std.proofs.lemmas.Result.{on_ok_weaker}
use Rattle.kif_tree.specs.Shape.{is_among}
use Rattle.diagnose.specs.WordFaults.{IsFault}
use Rattle.diagnose.proofs.NewWordLaws.{new_one, was_new}
use Rattle.diagnose.proofs.words.add_if_new.Goals as goal

pub returns-clause-found : goal.returns-clause-found
returns-clause-found c =
    on_ok_weaker c.add_faults.result
    (new_one (IsFault c.args.taxonomy.now c.args.tables.now c.args.place) c.args.seen.now c.args.word.now c.args.found.now.items c.add_faults.new.found.items (was_new c.in_ok-add.field-0 (is_among c.args.seen.now c.args.word.now) c.in_ok-add.ensures.added c.if-not-branch.false))
    c.add_faults.ensures
