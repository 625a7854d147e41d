use Rattle.std.proofs.Common.{◌≡◌, ℕ, ◌++◌, ◌<◌, List, [], ◌∷◌, map, sym, ap, ◌∙◌, subst, vec_len, arith}
use Rattle.kif_tree.specs.declared.form.Form.TheVariants as form
use Rattle.kif_tree.specs.Terms.{depth}
use Rattle.calculus.specs.declared.step.Step.{Step}
use Rattle.infer.specs.Conclusions.{IsFoundAt, Adds}
use Rattle.infer.specs.Plain.{IsPlainConclusion}
use Rattle.infer.specs.Sites.{paths}
use Rattle.infer.proofs.ListLaws.{adds-none, adds-same}
use Rattle.infer.proofs.ParamodulateLaws.{site}
use Rattle.infer.proofs.PathLaws.{reached, reached_all, paths_other, adds_argument, leads_further, shallower, each_pushed, way_on, popped}
use Rattle.infer.proofs.paramodulation.+add_inside.Goals as goal

pub returns-in_default-clause-adds : goal.returns-in_default-clause-adds
returns-in_default-clause-adds t c = λ clauses source_at target_at.
    let equality = c.args.equality.now in
    let target = c.args.target.now in
    let at : List ℕ → Step = λ more.
    site equality.source.number equality.source.literal equality.flipped target.number target.literal (c.args.path.now.items ++ more) in
    adds-same clauses [] (map at (paths c.args.form.now)) c.args.found.now c.args.found.now
    (sym (ap (map at) (paths_other c.args.form.now c.in_default.not-List))) (adds-none clauses c.args.found.now)

pub paramodulant-requires-clause-leads : goal.paramodulant-requires-clause-leads
paramodulant-requires-clause-leads t c =
    let target = c.args.target.now in
    let is : c.args.form.now ≡ form.List c.items-parts.result.now = c.in-List.is ∙ ap form.List (sym c.items-parts.ensures) in
    leads_further target.clause.now target.literal c.args.path.now.items c.as_slice.result.now c.args.form.now c.items-parts.result.now c.loop-at.at
    c.index-parts-at.result c.requires.leads is
    c.loop-at.invariant.argument c.loop-at-test.true c.index-parts-at.is
    (subst (λ (path : List ℕ). path ≡ c.args.path.now.items ++ c.loop-at.at ∷ []) (sym c.as_slice.ensures.value)
    (way_on c.args.path.now.items c.loop-at.path.items c.push.new.self.items c.loop-at.at c.in_ok-push.ensures.items c.loop-at.invariant.path))

pub add_inside-requires : goal.add_inside-requires
add_inside-requires t c =
    let target = c.args.target.now in
    let is : c.args.form.now ≡ form.List c.items-parts.result.now = c.in-List.is ∙ ap form.List (sym c.items-parts.ensures) in
    let leads =
    leads_further target.clause.now target.literal c.args.path.now.items c.push.new.self.items c.args.form.now c.items-parts.result.now c.loop-at.at
    c.index-parts-at-in-loop-at.result c.requires.leads is
    c.loop-at.invariant.argument c.loop-at-test.true c.index-parts-at-in-loop-at.is
    (way_on c.args.path.now.items c.loop-at.path.items c.push.new.self.items c.loop-at.at c.in_ok-push.ensures.items c.loop-at.invariant.path) in
    let less = shallower c.args.form.now c.items-parts.result.now c.loop-at.at c.index-parts-at-in-loop-at.result is
    c.loop-at.invariant.argument c.loop-at-test.true c.index-parts-at-in-loop-at.is in
    let falls : depth c.index-parts-at-in-loop-at.result < t = omega (arith, less, c.decreases) in
    (falls, (c.requires.equation, (leads, c.requires.asserts)))

pub loop-at-preserved : goal.loop-at-preserved
loop-at-preserved t c = record {
  argument = omega arith;
  path = popped c.args.path.now.items c.add_inside.new.path.items c.pop.new.self.items c.loop-at.at (vec_len c.add_inside.new.path)
      (subst (λ (path : List ℕ). path ≡ c.args.path.now.items ++ c.loop-at.at ∷ []) (sym c.in_ok-add_inside.ensures.path)
      (way_on c.args.path.now.items c.loop-at.path.items c.push.new.self.items c.loop-at.at c.in_ok-push.ensures.items c.loop-at.invariant.path))
      c.add_inside.new.path.ok.0 c.pop.ensures.rest;
  adds = λ clauses source_at target_at.
      let equality = c.args.equality.now in
      let target = c.args.target.now in
      let here : List ℕ → Step = site equality.source.number equality.source.literal equality.flipped target.number target.literal in
      let pushed : c.push.new.self.items ≡ c.args.path.now.items ++ c.loop-at.at ∷ [] =
      way_on c.args.path.now.items c.loop-at.path.items c.push.new.self.items c.loop-at.at c.in_ok-push.ensures.items c.loop-at.invariant.path in
      let x = c.index-parts-at-in-loop-at.result in
      adds_argument here clauses c.args.path.now.items c.items-parts.result.now c.loop-at.at x c.in_ok-made.made c.args.found.now c.loop-at.found
      c.push_made.new.found c.add_inside.new.found
      c.loop-at.invariant.argument c.loop-at-test.true c.index-parts-at-in-loop-at.is (c.loop-at.invariant.adds clauses source_at target_at)
      (subst (λ (path : List ℕ). IsFoundAt clauses (here path) c.in_ok-made.made) (c.as_slice.ensures.value ∙ pushed)
      (c.in_ok-made.ensures.at clauses source_at target_at))
      c.in_ok-push_made.ensures
      (subst (λ (path : List ℕ). Adds clauses (map (λ (more : List ℕ). here (path ++ more)) (paths x)) c.push_made.new.found c.add_inside.new.found) pushed
      (c.in_ok-add_inside.ensures.adds clauses source_at target_at));
  plain = λ source target old.
      c.in_ok-add_inside.ensures.plain source target
      (each_pushed IsPlainConclusion c.in_ok-made.made c.loop-at.found c.push_made.new.found
      (c.in_ok-made.ensures.plain source target) c.in_ok-push_made.ensures (c.loop-at.invariant.plain source target old));
}

pub returns-clause-adds : goal.returns-clause-adds
returns-clause-adds t c = λ clauses source_at target_at.
    let equality = c.args.equality.now in
    let target = c.args.target.now in
    let is : c.args.form.now ≡ form.List c.items-parts.result.now = c.in-List.is ∙ ap form.List (sym c.items-parts.ensures) in
    let at : List ℕ → Step = λ more.
    site equality.source.number equality.source.literal equality.flipped target.number target.literal (c.args.path.now.items ++ more) in
    adds-same clauses (map at (reached c.items-parts.result.now c.loop-at.at)) (map at (paths c.args.form.now)) c.args.found.now c.loop-at.found
    (ap (map at) (reached_all c.args.form.now c.items-parts.result.now c.loop-at.at is c.loop-at-test.false))
    (c.loop-at.invariant.adds clauses source_at target_at)
