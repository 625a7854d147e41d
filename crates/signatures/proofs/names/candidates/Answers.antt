use Rattle.signatures.proofs.CandidateLaws.{are_candidates}
use Rattle.signatures.proofs.names.candidates.Goals as goal

pub returns : goal.returns
returns c =
    are_candidates c.args.heads.now c.args.arities.now c.new-marks.result c.mark_keys.new.marks c.mark_keys-2.new.marks c.mark_keys-3.new.marks c.in_ok-mark_keys.ensures c.in_ok-mark_keys-2.ensures c.in_ok-mark_keys-3.ensures
