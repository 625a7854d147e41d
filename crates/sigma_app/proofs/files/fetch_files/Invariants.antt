use Rattle.std.proofs.Common.{◌≡◌, map, take}
use Rattle.sigma_app.proofs.FileLaws.{Got}
use Rattle.sigma_app.proofs.files.fetch_files.Given as goal

abbrev pub invariant-loop-path : goal.invariant-loop-path
invariant-loop-path g l = record {
  counted : l.number ≡ l.path-index;
  told : g.F.Files.told l.files ≡ g.F.Files.told l.fn.files;
  got : Got (g.F.Files.told l.fn.files) (g.F.Files.faults l.fn.files) (g.F.Files.faults l.files) (map (λ s. s.now) (take l.path-index l.paths)) l.parts;
}
