use Rattle.saturate.proofs.SoundLaws.{runs_are_sound}
use Rattle.saturate.proofs.laws.sound_law.Goals as goal

pub returns : goal.returns
returns c = runs_are_sound
