use Rattle.std.proofs.lemmas.Result.{on_ok_weaker}
use Rattle.diagnose.proofs.NewWordLaws.{faults_of}
use Rattle.diagnose.proofs.words.add_faults.Goals as goal

pub returns : goal.returns
returns c =
    on_ok_weaker c.add_if-3.result
    (faults_of c.args.taxonomy.now c.args.tables.now c.args.place c.args.word.now c.lacks_parent-no_parent.result c.lacks_documentation-no_documentation.result c.has-no_arity.result
    c.args.found.now.items c.add_if.new.found.items c.add_if-2.new.found.items c.add_if-3.new.found.items
    c.lacks_parent-no_parent.ensures c.lacks_documentation-no_documentation.ensures c.has-no_arity.ensures c.in_ok-add_if.ensures c.in_ok-add_if-2.ensures)
    c.add_if-3.ensures
