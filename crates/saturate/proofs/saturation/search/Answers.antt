use Rattle.std.proofs.Common.{◌≡◌, ◌<◌, ◌^◌, ◌∙◌, List, length, ap, sym, subst}
use Rattle.sigma_base.specs.Lists.{Each}
use Rattle.kif_tree.specs.declared.clause.InputClause.{InputClause}
use Rattle.calculus_programs.proofs.PickLaws.{ok_map}
use Rattle.infer.specs.Checks.{clauses_of}
use Rattle.infer.specs.Plain.{IsPlain}
use Rattle.saturate.specs.Inputs.{search_inputs}
use Rattle.saturate.specs.Runs.{IsRun}
use Rattle.saturate.proofs.EndsHoldLaws.{ends_hold}
use Rattle.saturate.proofs.SoundLaws.{runs_are_sound}
use Rattle.saturate.proofs.SearchLaws.{inputs_plain, inputs_few, run_inputs, same_inputs, search_is_sound, search_end_holds}
use Rattle.saturate.proofs.saturation.search.Goals as goal

pub beginning-requires-clause-few : goal.beginning-requires-clause-few
beginning-requires-clause-few c =
    let set = c.args.set.now in
    let few = inputs_few set c.args.query.now.clauses c.of.ensures.set c.requires.few in
    subst (λ (inputs : List InputClause). length inputs < 2 ^ 32) (sym (c.in_ok-inputs.ensures.inputs ∙ ap (search_inputs set) c.items.ensures)) few

pub beginning-requires-clause-plain : goal.beginning-requires-clause-plain
beginning-requires-clause-plain c =
    let set = c.args.set.now in
    let plain = inputs_plain set (length c.args.query.now.asked) c.args.query.now.clauses c.of.ensures.set c.requires.query in
    subst (λ (inputs : List InputClause). Each IsPlain (clauses_of inputs)) (sym (c.in_ok-inputs.ensures.inputs ∙ ap (search_inputs set) c.items.ensures)) plain

-- with which inputs the run begins
begun : (c : goal.After-run) → c.in_ok-state.state.reached.inputs ≡ search_inputs c.args.set.now c.args.query.now.clauses
begun c =
    same_inputs c.in_ok-state.state.reached c.in_ok-inputs.inputs (search_inputs c.args.set.now c.args.query.now.clauses) c.args.limits c.in_ok-state.ensures.is
    (c.in_ok-inputs.ensures.inputs ∙ ap (search_inputs c.args.set.now) c.items.ensures)

pub returns-clause-inputs : goal.returns-clause-inputs
returns-clause-inputs c =
    ok_map c.run.result _ _
    (λ search run. run_inputs c.in_ok-state.state.reached.inputs (search_inputs c.args.set.now c.args.query.now.clauses) c.args.limits search (begun c) run)
    c.run.ensures

pub returns-clause-sound : goal.returns-clause-sound
returns-clause-sound c = ok_map c.run.result _ _ (λ search run. search_is_sound runs_are_sound c.in_ok-state.state.reached.inputs c.args.limits search run) c.run.ensures

pub returns-clause-end : goal.returns-clause-end
returns-clause-end c =
    ok_map c.run.result _ _
    (λ search run. search_end_holds ends_hold c.args.set.now (length c.args.query.now.asked) c.args.query.now.clauses c.args.limits search c.of.ensures.set
    c.requires.query c.requires.limits (subst (λ (inputs : List InputClause). IsRun inputs c.args.limits search) (begun c) run))
    c.run.ensures
