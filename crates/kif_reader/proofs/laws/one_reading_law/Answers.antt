use Rattle.kif_reader.proofs.OneFaultLaws.{spells_no_fault, fault_unique}
use Rattle.kif_reader.proofs.ReadingIsOneLaws.{spells_unique}
use Rattle.kif_reader.proofs.ReadsOnLaws.{reads_front}
use Rattle.kif_reader.proofs.SomeReadingLaws.{some_reading}
use Rattle.kif_reader.proofs.laws.one_reading_law.Goals as goal

pub returns : goal.returns
returns c = record { some = some_reading; spelled = spells_unique; exclusive = spells_no_fault; fault = fault_unique; front = reads_front }
