use Rattle.std.proofs.Common.{◌≤◌, length, ap, arith}
use Rattle.sigma_app.specs.declared.files.Part.{Part}
use Rattle.sigma_app.specs.Files.{byte_limit}
use Rattle.sigma_app.proofs.ItemLaws.{each_at}
use Rattle.sigma_app.proofs.FileLaws.{live_step}
use Rattle.sigma_app.proofs.files.live_size.Goals as goal

pub loop-part-preserved : goal.loop-part-preserved
loop-part-preserved c =
    let short : length c.part-item.result.text ≤ byte_limit =
    each_at (λ (part : Part). length part.text ≤ byte_limit) c.args.parts.now c.loop-part.part-index c.part-item.result (c.loop-part-test.true, c.part-item.is) c.requires.short in
    record {
      sum =
          live_step c.args.parts.now c.loop-part.part-index c.part-item.result c.loop-part.size c.bytes.result.now (c.loop-part-test.true, c.part-item.is)
          c.loop-part.invariant.sum c.bytes.ensures;
      bound = omega (arith, short, c.loop-part.invariant.bound, ap length c.bytes.ensures);
    }
