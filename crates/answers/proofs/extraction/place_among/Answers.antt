use Rattle.std.proofs.Common.{Ok, Err}
use Rattle.std.proofs.lemmas.List.Sorted.{searched}
use Rattle.answers.proofs.WantedLaws.{ascends, found_place, stands_among, stands_nowhere}
use Rattle.answers.proofs.extraction.place_among.Goals as goal

pub returns-in-Ok : goal.returns-in-Ok
returns-in-Ok c among =
    let found = searched c.args.numbers.now c.args.number (Ok c.in-Ok.place) c.in-Ok.ensures.position (ascends c.args.numbers.now c.requires.ascending) in
    found_place c.args.numbers.now c.requires.ascending c.in-Ok.place c.args.number found.0 found.1

pub returns-in-Err : goal.returns-in-Err
returns-in-Err c among =
    let parted = searched c.args.numbers.now c.args.number (Err c.in-Err.field-0) c.in-Err.ensures.position (ascends c.args.numbers.now c.requires.ascending) in
    let at = stands_among c.args.numbers.now c.args.number among in
    absurd (stands_nowhere c.args.numbers.now c.args.number c.in-Err.field-0 at.place at.within at.is parted.1 parted.2)
