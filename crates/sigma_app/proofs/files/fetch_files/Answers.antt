use Rattle.std.proofs.Common.{◌+◌, refl, arith, ◌∙◌}
use Rattle.sigma_app.proofs.FileLaws.{got_step, got_end}
use Rattle.sigma_app.proofs.files.fetch_files.Goals as goal

pub returns-in-Stopped-clause-found : goal.returns-in-Stopped-clause-found
returns-in-Stopped-clause-found g c =
    got_end (g.F.Files.told c.args.files.now) (g.F.Files.told c.loop-path.files) (g.F.Files.faults c.args.files.now) (g.F.Files.faults c.loop-path.files) (g.F.Files.faults c.fetch_one.new.files)
    c.args.paths.now c.loop-path.path-index _ c.loop-path.parts c.in-Stopped.reply c.loop-path-test.true c.requires.apart c.loop-path.invariant.told c.loop-path.invariant.got
    (rw c.in-Stopped.is at c.in_ok-text.ensures.body)

pub loop-path-preserved : goal.loop-path-preserved
loop-path-preserved g c = record {
  counted = omega (arith, c.loop-path.invariant.counted);
  told = c.in_ok-text.ensures.told ∙ c.loop-path.invariant.told;
  got =
      got_step (g.F.Files.told c.args.files.now) (g.F.Files.told c.loop-path.files) (g.F.Files.faults c.args.files.now) (g.F.Files.faults c.loop-path.files) (g.F.Files.faults c.fetch_one.new.files)
      c.args.paths.now c.loop-path.path-index c.loop-path.number _ c.loop-path.parts c.push.new.self
      (record { number = c.loop-path.number + 1; name = c.in_ok-of-in-Text.field-0; text = c.in-Text.text })
      c.loop-path-test.true c.loop-path.invariant.counted c.requires.apart c.loop-path.invariant.told c.loop-path.invariant.got
      (c.in_ok-of-in-Text.ensures ∙ c.as_bytes.ensures.value) refl (rw c.in-Text.is at c.in_ok-text.ensures.body) c.in_ok-push-in-Text.ensures.ok;
}
