use Rattle.translate.proofs.PlainFormLaws.{plain_gives_itself, plain_is_in_profile, plain_is_not_shown}
use Rattle.translate.proofs.laws.plain_form_law.Goals as goal

pub returns : goal.returns
returns c = record { itself = plain_gives_itself; profiled = plain_is_in_profile; shown = plain_is_not_shown }
