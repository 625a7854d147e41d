use Rattle.std.proofs.Common.{◌≡◌, ◌∷◌, ◌++◌, [], List, true, false, ℕ, take, get_or, sym, ◌∙◌}
use Rattle.saturate.specs.Runs.{IsLighter}
use Rattle.saturate.proofs.ChoiceLaws.{all_taken, first_stays, first_goes, one_more, lighter_chain, lighter_same, lighter_else}
use Rattle.saturate.proofs.choice.lighter_of_all.Goals as goal
use Rattle.saturate.proofs.choice.lighter_of_all.Goals.{then-is_lighter, else-is_lighter}

pub loop-other-preserved : goal.loop-other-preserved
loop-other-preserved c =
    let r = c.args.state.now.reached in
    let others = c.args.others.now in
    let i = c.loop-other.other-index in
    let best = c.loop-other.best in
    let numbers : List ℕ = c.args.first ∷ take i others in
    let other : ℕ = get_or others i 0 in
    one_more (IsLighter r) c.args.first others i c.if-is_lighter.best c.loop-other-test.true
    (elim c.if-is_lighter.branch [
      | then-is_lighter w ↦
          all_taken (IsLighter r) (numbers ++ other ∷ []) other c.if-is_lighter.best (sym w.best-is)
          (first_goes (IsLighter r) numbers best other (lighter_chain r) c.loop-other.invariant (c.is_lighter.ensures.0 w.if-is_lighter.true) (lighter_same r other))
      | else-is_lighter w ↦
          all_taken (IsLighter r) (numbers ++ other ∷ []) best c.if-is_lighter.best (sym w.best-is)
          (first_stays (IsLighter r) numbers best other c.loop-other.invariant
          (lighter_else r other best (λ lighter. let no_way : true ≡ false = sym (c.is_lighter.ensures.1 lighter) ∙ w.if-is_lighter.false in absurd (cc))))
    ])
