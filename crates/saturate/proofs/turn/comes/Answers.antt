use Rattle.std.proofs.Common.{◌≡◌, ◌+◌, arith}
use Rattle.std.proofs.lemmas.Grind.{common_steps}
use Rattle.saturate.proofs.StateLaws.{IsAdded, IsLonger, added_consistent, found_consistent, aside_consistent, waits_consistent}
use Rattle.saturate.proofs.turn.comes.Goals as goal

pub crowded-requires : goal.crowded-requires
crowded-requires c =
    let number = c.in_ok-aside-in-Aside.aside in
    let new = c.add-in-Aside.new.self in
    let added : IsAdded c.args.state.now new c.args.conclusion number = record {
      number = c.in_ok-aside-in-Aside.ensures.number;
      grows = c.in_ok-aside-in-Aside.ensures.grown;
      kept = c.in_ok-aside-in-Aside.ensures.kept;
      listed = c.in_ok-aside-in-Aside.ensures.listed;
      weights = c.in_ok-aside-in-Aside.ensures.weights;
      fingerprints = c.in_ok-aside-in-Aside.ensures.fingerprints;
    } in
    let longer = c.list-in-Aside.new.self in
    let is : IsLonger new longer number = record {
      lists = c.in_ok-list-in-Aside.ensures.listed;
      reached = c.in_ok-list-in-Aside.ensures.reached;
      weights = c.in_ok-list-in-Aside.ensures.weights;
      fingerprints = c.in_ok-list-in-Aside.ensures.fingerprints;
      kept = c.in_ok-list-in-Aside.ensures.kept;
    } in
    let more : c.in_ok-state-in-Aside.field-0 ≡ longer.kept + 1 = grind (arith, common_steps) in
    aside_consistent c.args.state.now new c.args.conclusion number c.requires.consistent c.requires.plain added longer is
    c.push-in-Aside.new.self c.in_ok-state-in-Aside.field-0 c.in_ok-push-in-Aside.ensures.ok more

pub crowded-requires-in-Waits : goal.crowded-requires-in-Waits
crowded-requires-in-Waits c =
    let number = c.in_ok-waits-in-Waits.waits in
    let new = c.add-in-Waits.new.self in
    let added : IsAdded c.args.state.now new c.args.conclusion number = record {
      number = c.in_ok-waits-in-Waits.ensures.number;
      grows = c.in_ok-waits-in-Waits.ensures.grown;
      kept = c.in_ok-waits-in-Waits.ensures.kept;
      listed = c.in_ok-waits-in-Waits.ensures.listed;
      weights = c.in_ok-waits-in-Waits.ensures.weights;
      fingerprints = c.in_ok-waits-in-Waits.ensures.fingerprints;
    } in
    let longer = c.list-in-Waits.new.self in
    let is : IsLonger new longer number = record {
      lists = c.in_ok-list-in-Waits.ensures.listed;
      reached = c.in_ok-list-in-Waits.ensures.reached;
      weights = c.in_ok-list-in-Waits.ensures.weights;
      fingerprints = c.in_ok-list-in-Waits.ensures.fingerprints;
      kept = c.in_ok-list-in-Waits.ensures.kept;
    } in
    let more : c.in_ok-state-in-Waits.field-0 ≡ longer.kept + 1 = grind (arith, common_steps) in
    waits_consistent c.args.state.now new c.args.conclusion number c.requires.consistent c.requires.plain added longer is
    c.push-in-Waits.new.self c.in_ok-state-in-Waits.field-0 c.in_ok-push-in-Waits.ensures.ok more

pub returns-in_ok-add-in-Contradiction-clause-consistent : goal.returns-in_ok-add-in-Contradiction-clause-consistent
returns-in_ok-add-in-Contradiction-clause-consistent c =
    let number = c.in_ok-add-in-Contradiction.field-0 in
    let added : IsAdded c.args.state.now c.add.new.self c.args.conclusion number = record {
      number = c.in_ok-add-in-Contradiction.ensures.number;
      grows = c.in_ok-add-in-Contradiction.ensures.grown;
      kept = c.in_ok-add-in-Contradiction.ensures.kept;
      listed = c.in_ok-add-in-Contradiction.ensures.listed;
      weights = c.in_ok-add-in-Contradiction.ensures.weights;
      fingerprints = c.in_ok-add-in-Contradiction.ensures.fingerprints;
    } in
    added_consistent c.args.state.now c.add.new.self c.args.conclusion number c.requires.consistent c.requires.plain added

pub returns-in_ok-push-in-Found-clause-consistent : goal.returns-in_ok-push-in-Found-clause-consistent
returns-in_ok-push-in-Found-clause-consistent c =
    let number = c.in_ok-found-in-Found.found in
    let new = c.add-in-Found.new.self in
    let added : IsAdded c.args.state.now new c.args.conclusion number = record {
      number = c.in_ok-found-in-Found.ensures.number;
      grows = c.in_ok-found-in-Found.ensures.grown;
      kept = c.in_ok-found-in-Found.ensures.kept;
      listed = c.in_ok-found-in-Found.ensures.listed;
      weights = c.in_ok-found-in-Found.ensures.weights;
      fingerprints = c.in_ok-found-in-Found.ensures.fingerprints;
    } in
    let longer = c.list.new.self in
    let is : IsLonger new longer number = record {
      lists = c.in_ok-list-in-Found.ensures.listed;
      reached = c.in_ok-list-in-Found.ensures.reached;
      weights = c.in_ok-list-in-Found.ensures.weights;
      fingerprints = c.in_ok-list-in-Found.ensures.fingerprints;
      kept = c.in_ok-list-in-Found.ensures.kept;
    } in
    found_consistent c.args.state.now new c.args.conclusion number c.requires.consistent c.requires.plain added longer is c.push.new.self c.in_ok-push-in-Found.ensures.ok

pub returns-in_ok-state-in-Aside-clause-consistent : goal.returns-in_ok-state-in-Aside-clause-consistent
returns-in_ok-state-in-Aside-clause-consistent c =
    let number = c.in_ok-aside-in-Aside.aside in
    let new = c.add-in-Aside.new.self in
    let added : IsAdded c.args.state.now new c.args.conclusion number = record {
      number = c.in_ok-aside-in-Aside.ensures.number;
      grows = c.in_ok-aside-in-Aside.ensures.grown;
      kept = c.in_ok-aside-in-Aside.ensures.kept;
      listed = c.in_ok-aside-in-Aside.ensures.listed;
      weights = c.in_ok-aside-in-Aside.ensures.weights;
      fingerprints = c.in_ok-aside-in-Aside.ensures.fingerprints;
    } in
    let longer = c.list-in-Aside.new.self in
    let is : IsLonger new longer number = record {
      lists = c.in_ok-list-in-Aside.ensures.listed;
      reached = c.in_ok-list-in-Aside.ensures.reached;
      weights = c.in_ok-list-in-Aside.ensures.weights;
      fingerprints = c.in_ok-list-in-Aside.ensures.fingerprints;
      kept = c.in_ok-list-in-Aside.ensures.kept;
    } in
    let more : c.in_ok-state-in-Aside.field-0 ≡ longer.kept + 1 = grind (arith, common_steps) in
    aside_consistent c.args.state.now new c.args.conclusion number c.requires.consistent c.requires.plain added longer is
    c.push-in-Aside.new.self c.in_ok-state-in-Aside.field-0 c.in_ok-push-in-Aside.ensures.ok more

pub returns-in_ok-state-in-Waits-clause-consistent : goal.returns-in_ok-state-in-Waits-clause-consistent
returns-in_ok-state-in-Waits-clause-consistent c =
    let number = c.in_ok-waits-in-Waits.waits in
    let new = c.add-in-Waits.new.self in
    let added : IsAdded c.args.state.now new c.args.conclusion number = record {
      number = c.in_ok-waits-in-Waits.ensures.number;
      grows = c.in_ok-waits-in-Waits.ensures.grown;
      kept = c.in_ok-waits-in-Waits.ensures.kept;
      listed = c.in_ok-waits-in-Waits.ensures.listed;
      weights = c.in_ok-waits-in-Waits.ensures.weights;
      fingerprints = c.in_ok-waits-in-Waits.ensures.fingerprints;
    } in
    let longer = c.list-in-Waits.new.self in
    let is : IsLonger new longer number = record {
      lists = c.in_ok-list-in-Waits.ensures.listed;
      reached = c.in_ok-list-in-Waits.ensures.reached;
      weights = c.in_ok-list-in-Waits.ensures.weights;
      fingerprints = c.in_ok-list-in-Waits.ensures.fingerprints;
      kept = c.in_ok-list-in-Waits.ensures.kept;
    } in
    let more : c.in_ok-state-in-Waits.field-0 ≡ longer.kept + 1 = grind (arith, common_steps) in
    waits_consistent c.args.state.now new c.args.conclusion number c.requires.consistent c.requires.plain added longer is
    c.push-in-Waits.new.self c.in_ok-state-in-Waits.field-0 c.in_ok-push-in-Waits.ensures.ok more
