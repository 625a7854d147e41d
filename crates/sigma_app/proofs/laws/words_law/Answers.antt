use Rattle.sigma_app.proofs.RequestLaws.{means_one, nothing_meant, taken_meaning, usage_taken, two_modes, options_fit, sizes_fit}
use Rattle.sigma_app.proofs.RepeatLaws.{distinct_paths}
use Rattle.sigma_app.proofs.laws.words_law.Goals as goal

pub returns : goal.returns
returns c = record { one = means_one; none = nothing_meant; some = taken_meaning; taken = usage_taken; modes = two_modes; options = options_fit; sizes = sizes_fit; twice = distinct_paths }
