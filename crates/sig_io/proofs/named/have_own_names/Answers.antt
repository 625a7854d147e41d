use Rattle.std.proofs.Common.{sym, ◌∙◌}
use Rattle.sigma_base.proofs.SliceLaws.{first_item}
use Rattle.sig_io.proofs.NamedLaws.{repeated, one_fewer}
use Rattle.sig_io.proofs.named.have_own_names.Goals as goal

pub returns-then-is_named : goal.returns-then-is_named
returns-then-is_named c =
    let split = first_item c.loop-files.files.now c.file-item.result c.in-len1-up.len_at_least c.file-item.is in
    (λ h. absurd (cc), λ apart. absurd (repeated c.loop-files.files.now c.file-item.result _ split (sym c.is_named.ensures ∙ c.if-is_named.true) (c.loop-files.invariant.0 apart)))

pub loop-files-preserved : goal.loop-files-preserved
loop-files-preserved c =
    let split = first_item c.loop-files.files.now c.file-item.result c.in-len1-up.len_at_least c.file-item.is in
    let fewer = one_fewer c.loop-files.files.now c.file-item.result _ split (sym c.is_named.ensures ∙ c.if-is_named.false) in
    (λ h. fewer.0 (c.loop-files.invariant.0 h), λ h. c.loop-files.invariant.1 (fewer.1 h))
