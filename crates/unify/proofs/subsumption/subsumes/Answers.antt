use Rattle.std.proofs.Common.{◌≡◌, ◌↔◌, List, [], Bool, IsTrue, sym, ap, ◌∙◌, subst}
use Rattle.kif_tree.specs.declared.subst.Pair.{Pair}
use Rattle.kif_tree.specs.Clauses.{Literals}
use Rattle.calculus_programs.proofs.PickLaws.{ok_map}
use Rattle.unify.specs.Bindings.{AreConsistent}
use Rattle.unify.specs.Subsumption.{behind, Subsumes, SubsumesUnder}
use Rattle.unify.proofs.StandLaws.{under_alike}
use Rattle.unify.proofs.subsumption.subsumes.Goals as goal

-- a search that began with no pair
from_nothing : (pairs : List Pair) (literals others general special : Literals) → pairs ≡ [] → literals ≡ general → others ≡ special
    → (answer : Bool) → (AreConsistent pairs → IsTrue answer ↔ SubsumesUnder pairs literals others) → IsTrue answer ↔ Subsumes general special
from_nothing pairs literals others general special none first second answer found =
    let tested = found (subst AreConsistent (sym none) tt) in (
      λ e.
          let s = subst (SubsumesUnder [] general) second (under_alike pairs [] literals general others none first (tested.0 e)) in
          record { by = s.by; sends = s.sends },
      λ s. tested.1 (under_alike [] pairs general literals others (sym none) (sym first)
          (subst (SubsumesUnder [] general) (sym second) (record { by = s.by; agrees = tt; sends = s.sends }))),
    )

pub returns : goal.returns
returns c =
    let unplaced = ap behind c.as_slice.ensures.value ∙ c.in_ok-unplaced.ensures ∙ c.items-literals.ensures ∙ c.general.view_is in
    let free = ap behind c.as_slice-2.ensures.value ∙ c.in_ok-free.ensures ∙ c.items-others.ensures ∙ c.special.view_is in
    ok_map c.place_all.result _ _
    (from_nothing c.new-bindings.result (behind c.as_slice.result.now) (behind c.as_slice-2.result.now) c.args.general.now c.args.special.now
    c.new-bindings.ensures unplaced free) c.place_all.ensures.answer
