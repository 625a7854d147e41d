use Rattle.std.proofs.Common.{◌≡◌, drop}
use Rattle.sigma_app.specs.Requests.{texts, stand_twice}
use Rattle.sigma_app.proofs.RepeatLaws.{left_twice}
use Rattle.sigma_app.proofs.refusals.stand_twice.Given as goal

abbrev pub invariant-loop-path : goal.invariant-loop-path
invariant-loop-path l = stand_twice (texts l.paths) ≡ left_twice l.seen (drop l.path-index l.paths)
