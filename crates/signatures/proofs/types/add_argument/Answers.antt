use Rattle.std.proofs.Common.{sym}
use Rattle.signatures.specs.Forms.{found_argument}
use Rattle.signatures.proofs.TypeLaws.{argument_none, argument_one}
use Rattle.signatures.proofs.types.add_argument.Goals as goal

pub returns-in_default : goal.returns-in_default
returns-in_default c = argument_none c.args.tables.now c.args.located.now (sym c.in_default.ensures)

pub returns : goal.returns
returns c =
    argument_one c.args.tables.now c.take_types-table.new.tables c.insert.new.self c.take_types-table.result c.add.new.table c.told_type.result (found_argument c.in-Some.found) c.args.located.now (sym c.in-Some.ensures) c.take_types-table.ensures.table
    c.take_types-table.ensures.others c.told_type.ensures c.in_ok-add.ensures c.in_ok-insert.ensures.updates.1 c.in_ok-insert.ensures.updates.2
