use Rattle.std.proofs.Common.{◌≡◌, ◌<◌, List, length, true, false, refl, sym, ap, ◌∙◌, subst, arith, below_more}
use Rattle.kif_tree.specs.declared.subst.Pair.{Pair}
use Rattle.calculus_programs.proofs.PickLaws.{apart, same_item, some_item}
use Rattle.unify.specs.Bindings.{AreConsistent, Grows}
use Rattle.unify.specs.Subsumption.{behind, SubsumesUnder, Placed}
use Rattle.unify.proofs.MatchLaws.{grows_not, grows_twice, kept_grown}
use Rattle.unify.proofs.StandLaws.{length-behind, behind_at, nothing_to_place, sends_alike}
use Rattle.unify.proofs.StandLaws.{placed_first, placed_back, sent_matched, matched_sent, not_sent}
use Rattle.unify.proofs.subsumption.+place_all.Goals as goal
use Rattle.unify.proofs.subsumption.+place_all.Goals.{place_at-then-branch+in_ok-others+in_ok-place_all+else-branch-2, place_at-else-branch}

-- ---- place_all

pub place_all-returns-then-is_empty-clause-answer : goal.place_all-returns-then-is_empty-clause-answer
place_all-returns-then-is_empty-clause-answer t c consistent = (
  λ _. nothing_to_place c.args.bindings.now c.args.unplaced.now (behind c.args.free.now) (grind (arith, c.is_empty.ensures, c.if-is_empty.true)) consistent,
  λ _. refl,
)

pub place_all-returns-then-branch-clause-answer : goal.place_all-returns-then-branch-clause-answer
place_all-returns-then-branch-clause-answer t c consistent =
    let all = behind c.args.unplaced.now in
    let free = behind c.args.free.now in
    let next = c.in_ok-next.next in
    let place = c.loop-place.place in
    let literal = c.index-unplaced-next.result in
    let below : next < length all = omega (arith, c.in_ok-next.ensures.number, length-behind c.args.unplaced.now) in
    let is = behind_at c.args.unplaced.now next literal c.in_ok-next.ensures.number c.index-unplaced-next.is in
    let rest = ap behind c.as_slice.ensures.value ∙ c.in_ok-rest.ensures in
    let same = c.loop-place.invariant.same ∙ c.in_ok-next.ensures.same in
    let sent = (c.in_ok-place_at.ensures.answer (subst AreConsistent (sym same) consistent)).0 c.if-branch.true in
    let at_first = sends_alike c.loop-place.bindings c.args.bindings.now literal.now literal.now (behind c.as_slice.result.now) (apart all next) free place
    same refl rest sent in
    (λ _. placed_back c.args.bindings.now all free next literal.now below is place at_first, λ _. refl)

pub place_all-loop-place-preserved : goal.place_all-loop-place-preserved
place_all-loop-place-preserved t c =
    let all = behind c.args.unplaced.now in
    let next = c.in_ok-next.next in
    let literal = c.index-unplaced-next.result in
    let below : next < length all = omega (arith, c.in_ok-next.ensures.number, length-behind c.args.unplaced.now) in
    let is = behind_at c.args.unplaced.now next literal c.in_ok-next.ensures.number c.index-unplaced-next.is in
    let rest = ap behind c.as_slice.ensures.value ∙ c.in_ok-rest.ensures in
    let same = c.loop-place.invariant.same in
    record {
      same = c.in_ok-place_at.ensures.same (λ e. let no_way : true ≡ false = sym e ∙ c.if-branch.false in absurd (cc)) ∙ same;
      none = λ consistent other there. below_more _ _ (c.loop-place.invariant.none consistent other there) (λ s.
          let here = sends_alike c.most_confined.new.bindings c.loop-place.bindings other literal.now (apart all next) (behind c.as_slice.result.now)
          (behind c.args.free.now) c.loop-place.place (sym same) (same_item all next other literal.now below there is) (sym rest) s in
          let done = (c.in_ok-place_at.ensures.answer (subst AreConsistent (sym same) consistent)).1 here in
          let no_way : true ≡ false = sym done ∙ c.if-branch.false in absurd (cc));
    }

pub place_all-returns-clause-answer : goal.place_all-returns-clause-answer
place_all-returns-clause-answer t c consistent =
    let all = behind c.args.unplaced.now in
    let next = c.in_ok-next.next in
    let below : next < length all = omega (arith, c.in_ok-next.ensures.number, length-behind c.args.unplaced.now) in
    let literal = some_item all next below in (
      λ e. let no_way : false ≡ true = e in absurd (cc),
      λ s.
          let start = sym c.in_ok-next.ensures.same in
          let under = subst (λ (pairs : List Pair). SubsumesUnder pairs all (behind c.args.free.now)) start s in
          let placed = placed_first c.most_confined.new.bindings all (behind c.args.free.now) next literal.0 below literal.1 under in
          let within = placed.1.0 in
          absurd (c.loop-place.invariant.none (subst AreConsistent start consistent) literal.0 literal.1 placed.0
          (omega (arith, within, c.loop-place-test.false, length-behind c.args.free.now)) placed.1.1),
    )

-- ---- place_at

pub place_at-returns-then-branch-2-clause-answer : goal.place_at-returns-then-branch-2-clause-answer
place_at-returns-then-branch-2-clause-answer t c consistent =
    let old = c.args.bindings.now in
    let new = c.match_literal.new.bindings in
    let rest = behind c.args.rest.now in
    let free = behind c.args.free.now in
    let other = c.index-free-place.result in
    let below : c.args.place < length free = omega (arith, c.requires, length-behind c.args.free.now) in
    let is = behind_at c.args.free.now c.args.place other c.requires c.index-free-place.is in
    let matched = subst (Placed old new c.args.literal.now other.now) c.if-branch.true (c.in_ok-match_literal.ensures.placed consistent) in
    let others = ap behind c.as_slice.ensures.value ∙ c.in_ok-others.ensures in
    let under = (c.in_ok-place_all.ensures.answer (c.in_ok-match_literal.ensures.consistent consistent)).0 c.if-branch-2.true in
    (λ _. sent_matched old new c.args.literal.now other.now rest free c.args.place below is matched (subst (SubsumesUnder new rest) others under), λ _. refl)

pub place_at-returns-clause-grows : goal.place_at-returns-clause-grows
place_at-returns-clause-grows t c =
    let old = c.args.bindings.now in
    let first = c.in_ok-match_literal.ensures.grows in
    let grown : Grows old c.if-branch.bindings = elim c.if-branch.branch [
      | place_at-then-branch+in_ok-others+in_ok-place_all+else-branch-2 w ↦
          subst (Grows old) (sym w.bindings-is) (grows_twice old c.match_literal.new.bindings w.place_all.new.bindings first w.in_ok-place_all.ensures.grows)
      | place_at-else-branch w ↦ subst (Grows old) (sym w.bindings-is) first
    ] in
    let kept = kept_grown old c.if-branch.bindings c.count-before.result grown c.count-before.ensures in
    subst (Grows old) (sym (c.truncate.ensures ∙ kept)) (grows_not old)

pub place_at-returns-clause-answer : goal.place_at-returns-clause-answer
place_at-returns-clause-answer t c consistent =
    let old = c.args.bindings.now in
    let new = c.match_literal.new.bindings in
    let rest = behind c.args.rest.now in
    let free = behind c.args.free.now in
    let other = c.index-free-place.result in
    let below : c.args.place < length free = omega (arith, c.requires, length-behind c.args.free.now) in
    let is = behind_at c.args.free.now c.args.place other c.requires c.index-free-place.is in
    let placed = c.in_ok-match_literal.ensures.placed consistent in (
      λ e. let no_way : false ≡ true = e in absurd (cc),
      λ s. elim c.if-branch.branch [
        | place_at-then-branch+in_ok-others+in_ok-place_all+else-branch-2 w ↦
            let matched = subst (Placed old new c.args.literal.now other.now) w.if-branch.true placed in
            let others = ap behind w.as_slice.ensures.value ∙ w.in_ok-others.ensures in
            let sent = matched_sent old new c.args.literal.now other.now rest free c.args.place below is matched s in
            let under = subst (SubsumesUnder new rest) (sym others) sent in
            sym w.if-branch-2.false ∙ (w.in_ok-place_all.ensures.answer (c.in_ok-match_literal.ensures.consistent consistent)).1 under
        | place_at-else-branch w ↦
            absurd (not_sent old new c.args.literal.now other.now rest free c.args.place below is
            (subst (Placed old new c.args.literal.now other.now) w.if-branch.false placed) s)
      ],
    )
