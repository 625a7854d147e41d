use Rattle.std.proofs.Common.{◌≡◌, ◌*◌, ◌≤◌, take}
use Rattle.sigma_app.specs.Files.{byte_limit, live_size}
use Rattle.sigma_app.proofs.files.live_size.Given as goal

abbrev pub invariant-loop-part : goal.invariant-loop-part
invariant-loop-part l = record { sum : l.size ≡ live_size (take l.part-index l.parts); bound : l.size ≤ byte_limit * l.part-index }
