use Rattle.std.proofs.Common.{◌≡◌, take}
use Rattle.sigma_app.specs.Files.{load_names}
use Rattle.sigma_app.proofs.files.load_names.Given as goal

abbrev pub invariant-loop-part : goal.invariant-loop-part
invariant-loop-part l = l.names ≡ load_names (take l.part-index l.parts)
