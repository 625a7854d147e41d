use Rattle.sigma_app.proofs.TranslationLaws.{have_translation, snapshot_full}
use Rattle.std.proofs.Common.{◌∙◌}
use Rattle.sigma_app.proofs.check.translation_of.Goals as goal

pub returns-in-Ok : goal.returns-in-Ok
returns-in-Ok c = have_translation c.args.forms.now c.args.taxonomy.now c.args.signatures.now c.in-Ok.translated c.requires.taxonomy c.requires.signatures c.in-Ok.ensures.translates

pub returns-in_ok-snapshot_reply-in-Err-SnapshotFull : goal.returns-in_ok-snapshot_reply-in-Err-SnapshotFull
returns-in_ok-snapshot_reply-in-Err-SnapshotFull c =
    snapshot_full c.args.parts.now c.args.forms.now c.args.taxonomy.now c.args.signatures.now c.in-Err-SnapshotFull.field-0 c.in-Err-SnapshotFull.place c.items.result.now
    c.in_ok-snapshot_reply-in-Err-SnapshotFull.field-0 c.requires.taxonomy c.requires.signatures c.in-Err-SnapshotFull.field-0-is c.in-Err-SnapshotFull.ensures.translates
    (c.items.ensures ∙ c.in_ok-names-in-Err-SnapshotFull.ensures) c.in_ok-snapshot_reply-in-Err-SnapshotFull.ensures
