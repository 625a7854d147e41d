use Rattle.std.proofs.Common.{◌≡◌, refl, rules}
use Rattle.saturate.specs.declared.reached.Reached.{Reached}
use Rattle.saturate.specs.declared.reached.State.{State}
use Rattle.saturate.specs.Runs.{beginning}
use Rattle.saturate.proofs.BeginningLaws.{begins}
use Rattle.saturate.proofs.beginning.beginning.Goals as goal

pub returns-clause-consistent : goal.returns-clause-consistent
returns-clause-consistent c =
    let reached : Reached = record {
      inputs = c.args.inputs;
      derived = c.new.result;
      steps = c.in_ok-steps.steps;
      processed = c.in_ok-processed.processed;
      waiting = c.in_ok-waiting.waiting;
      aside = c.new-2.result;
      found = c.new-3.result;
    } in
    let state : State = record { reached = reached; weights = c.in_ok-weights.weights; fingerprints = c.in_ok-fingerprints.fingerprints; listed = c.in_ok-listed.listed; kept = 0 } in
    let is : reached ≡ beginning c.args.inputs c.args.mode = search rules in
    begins c.args.inputs c.args.mode state is c.in_ok-weights.ensures c.in_ok-fingerprints.ensures c.in_ok-listed.ensures refl c.requires.plain
