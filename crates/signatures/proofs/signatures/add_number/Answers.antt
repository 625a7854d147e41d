use Rattle.std.proofs.Common.{sym, ap}
use Rattle.signatures.specs.Forms.{found_argument}
use Rattle.signatures.specs.WordTables.{find}
use Rattle.signatures.proofs.ArgumentLaws.{number_none, number_there, number_added}
use Rattle.signatures.proofs.signatures.add_number.Goals as goal

pub returns-in_default : goal.returns-in_default
returns-in_default c = number_none c.args.forms.now c.args.own.now c.args.tables.now c.args.located.now (sym c.in_default.ensures)

pub returns-then-contains_key : goal.returns-then-contains_key
returns-then-contains_key c =
    number_there c.args.forms.now c.args.own.now c.args.tables.now c.args.located.now (found_argument c.in-Some.found) c.contains_key.result (sym c.in-Some.ensures) c.contains_key.ensures c.if-contains_key.true

pub returns : goal.returns
returns c =
    number_added c.args.forms.now c.args.own.now c.take_types-own_types.new.tables c.args.tables.now c.insert.new.self c.args.located.now (found_argument c.in-Some.found) c.take_types-own_types.result c.in_ok-types.types c.contains_key.result
    (sym c.in-Some.ensures) c.contains_key.ensures c.if-contains_key.false c.take_types-own_types.ensures.table c.take_types-own_types.ensures.others (λ word. ap (λ own. find own word) c.in_ok-types.ensures.own) c.in_ok-types.ensures.inherits
    c.in_ok-insert.ensures.updates.1 c.in_ok-insert.ensures.updates.2
