-- The diagnostics of the forms that are left out come in order of the forms.
use Rattle.std.proofs.Common.{◌≡◌, ◌⊎◌, List, [], ◌∷◌, ◌++◌, Bool, true, false, if◌then◌else◌, refl, sym, ap, subst, inl, inr}
use Rattle.std.specs.Prelude.{Option, Some, None}
use Rattle.std.specs.List.{list_any}
use Rattle.sigma_base.specs.Lists.{Each, each_append, each_map}
use Rattle.kif_tree.specs.declared.place.Located.{Located}
use Rattle.kif_tree.specs.declared.place.Place.{Place}
use Rattle.kif_tree.specs.Profile.{is_in_profile}
use Rattle.taxonomy.specs.Told.{Link}
use Rattle.taxonomy.proofs.ChainLaws.{contains_head, contains_tail}
use Rattle.signatures.specs.Relations.{is_shown}
use Rattle.signatures.specs.declared.signatures.Signatures.{Signatures}
use Rattle.diagnose.specs.declared.diagnostic.Diagnostic.{Diagnostic}
use Rattle.diagnose.specs.Diagnostics.{StandsBefore, OtherBefore, ComesBefore, AreAscending}
use Rattle.diagnose.specs.Order.{IsFormPlace}
use Rattle.diagnose.specs.SoFar.{HasPlace}
use Rattle.diagnose.proofs.WholeLaws.{parts_at}
use Rattle.var_expand.specs.declared.expanded.Expanded.{Expanded}
use Rattle.var_expand.specs.declared.expanded.Expanded.TheVariants as expanded
use Rattle.translate.specs.Laws.{LeftOutAreAscending, LeftOutArePlaced}
use Rattle.translate.specs.Pieces.{IsPiece, IsPieceWhere, left_out, head_text, is_too_many, form_of, of_variants, of_expanded, guarded_variants}
use Rattle.translate.specs.Translation.{ArePieces, all_of}
use Rattle.translate.specs.declared.translated.Guarded.{Guarded}
use Rattle.translate.specs.declared.translated.Translated.{Translated}

-- ---- one form

-- a diagnostic of the form at its own place alone
pub record IsOf (located : Located) (d : Diagnostic) : Type 0 where
  pub at : d.place ≡ located.place
  pub alone : d.other ≡ None

-- at most one such diagnostic
abbrev pub IsAtMostOne : Located → List Diagnostic → Type 0
IsAtMostOne located list = (list ≡ []) ⊎ ((d : Diagnostic) × (list ≡ d ∷ []) × IsOf located d)

left_alone : (located : Located) (d : Diagnostic) → d.place ≡ located.place → d.other ≡ None → IsAtMostOne located (d ∷ [])
left_alone located d at alone = inr (d, refl, record { at = at; alone = alone })

variants_leave : (located : Located) (variants : List Guarded) → IsAtMostOne located (of_variants located variants).left_out
variants_leave located variants = go (list_any (λ (variant : Guarded). is_too_many (form_of variant)) variants) _ refl
  where
    go : (b : Bool) (kept : Translated) → kept.left_out ≡ [] → IsAtMostOne located (if b then left_out located 13 (head_text located) else kept).left_out
    go true kept e = left_alone located _ refl refl
    go false kept e = inl e

expanded_leaves : (signatures : Signatures) (located : Located) (outcome : Expanded) → IsAtMostOne located (of_expanded signatures located outcome).left_out
expanded_leaves signatures located (expanded.Variants variants) = variants_leave located (guarded_variants signatures located.place variants)
expanded_leaves signatures located expanded.NoLength = left_alone located _ refl refl
expanded_leaves signatures located expanded.NoRelation = left_alone located _ refl refl
expanded_leaves signatures located expanded.TooMany = left_alone located _ refl refl

module _ (links : List Link) (signatures : Signatures) where
  leaves_where : (shown in_profile : Bool) (located : Located) (piece : Translated) → IsPieceWhere shown in_profile links signatures located piece → IsAtMostOne located piece.left_out
  leaves_where true in_profile located piece x = inl (ap (λ (t : Translated). t.left_out) x)
  leaves_where false false located piece x = subst (λ (t : Translated). IsAtMostOne located t.left_out) (sym x) (left_alone located _ refl refl)
  leaves_where false true located piece x = subst (λ (t : Translated). IsAtMostOne located t.left_out) (sym x.is) (expanded_leaves signatures located x.outcome)

  piece_leaves : (located : Located) (piece : Translated) → IsPiece links signatures located piece → IsAtMostOne located piece.left_out
  piece_leaves located = leaves_where (is_shown located.form) (is_in_profile located.form) located

  -- ---- at the places of the forms

  abbrev pub Placed : List Located → Diagnostic → Type 0
  Placed forms d = HasPlace forms d.place × IsFormPlace forms d.other

  placed_alone : (forms : List Located) (d : Diagnostic) → d.other ≡ None → HasPlace forms d.place → Placed forms d
  placed_alone forms d alone at = (at, subst (IsFormPlace forms) (sym alone) tt)

  placed_at : (located : Located) (forms : List Located) (list : List Diagnostic) → IsAtMostOne located list → Each (Placed (located ∷ forms)) list
  placed_at located forms list (inl e) = subst (Each (Placed (located ∷ forms))) (sym e) tt
  placed_at located forms list (inr (d, e, is)) =
      subst (Each (Placed (located ∷ forms))) (sym e)
      (placed_alone (located ∷ forms) d is.alone (record { located = located; among = contains_head located forms; at = sym is.at }), tt)

  has_later : (first : Located) (forms : List Located) (place : Place) → HasPlace forms place → HasPlace (first ∷ forms) place
  has_later first forms place h = record { located = h.located; among = contains_tail first forms h.located h.among; at = h.at }

  form_later : (first : Located) (forms : List Located) (other : Option Place) → IsFormPlace forms other → IsFormPlace (first ∷ forms) other
  form_later first forms None h = tt
  form_later first forms (Some place) (located, among, at) = (located, contains_tail first forms located among, at)

  placed_later : (first : Located) (forms : List Located) (d : Diagnostic) → Placed forms d → Placed (first ∷ forms) d
  placed_later first forms d (at, other) = (has_later first forms d.place at, form_later first forms d.other other)

  pub are_placed : (forms : List Located) (pieces : List Translated) → ArePieces links signatures forms pieces → Each (Placed forms) (all_of pieces).left_out
  are_placed [] [] each = tt
  are_placed [] (piece ∷ pieces) each = absurd each
  are_placed (located ∷ forms) [] each = absurd each
  are_placed (located ∷ forms) (piece ∷ pieces) each =
      each_append (Placed (located ∷ forms)) piece.left_out (all_of pieces).left_out (placed_at located forms piece.left_out (piece_leaves located piece each.0))
      (each_map (Placed forms) (Placed (located ∷ forms)) (placed_later located forms) (all_of pieces).left_out (are_placed forms pieces each.1))

  -- ---- in their order

  stands_later : (first : Located) (forms : List Located) (one other : Place) → StandsBefore forms one other → StandsBefore (first ∷ forms) one other
  stands_later first forms one other s = record {
    before = first ∷ s.before;
    one = s.one;
    between = s.between;
    other = s.other;
    after = s.after;
    stand = ap (λ (ls : List Located). first ∷ ls) s.stand;
  }

  other_later : (first : Located) (forms : List Located) (one other : Option Place) → OtherBefore forms one other → OtherBefore (first ∷ forms) one other
  other_later first forms None (Some place) h = tt
  other_later first forms (Some one) (Some other) h = stands_later first forms one other h
  other_later first forms None None h = absurd h
  other_later first forms (Some one) None h = absurd h

  comes_later : (first : Located) (forms : List Located) (a b : Diagnostic) → ComesBefore forms a b → ComesBefore (first ∷ forms) a b
  comes_later first forms a b (inl s) = inl (stands_later first forms a.place b.place s)
  comes_later first forms a b (inr (at, inl less)) = inr (at, inl less)
  comes_later first forms a b (inr (at, inr (code, inl before))) = inr (at, inr (code, inl before))
  comes_later first forms a b (inr (at, inr (code, inr (term, other)))) = inr (at, inr (code, inr (term, other_later first forms a.other b.other other)))

  ascend_later : (first : Located) (forms : List Located) (list : List Diagnostic) → AreAscending forms list → AreAscending (first ∷ forms) list
  ascend_later first forms [] h = tt
  ascend_later first forms (d ∷ list) h =
      (each_map (ComesBefore forms d) (ComesBefore (first ∷ forms) d) (comes_later first forms d) list h.0, ascend_later first forms list h.1)

  stands_first : (first : Located) (forms : List Located) (one other : Place) → one ≡ first.place → HasPlace forms other → StandsBefore (first ∷ forms) one other
  stands_first first forms one other at h =
      let p = parts_at forms h.located h.among in
      subst (StandsBefore (first ∷ forms) one) h.at (subst (λ (q : Place). StandsBefore (first ∷ forms) q h.located.place) (sym at) (record {
        before = [];
        one = first.form;
        between = p.first;
        other = h.located.form;
        after = p.rest;
        stand = ap (λ (ls : List Located). first ∷ ls) p.are;
      }))

  one_more : (located : Located) (forms : List Located) (list rest : List Diagnostic) → IsAtMostOne located list → Each (Placed forms) rest → AreAscending forms rest → AreAscending (located ∷ forms) (list ++ rest)
  one_more located forms list rest (inl e) placed ascending =
      subst (λ (ds : List Diagnostic). AreAscending (located ∷ forms) (ds ++ rest)) (sym e) (ascend_later located forms rest ascending)
  one_more located forms list rest (inr (d, e, is)) placed ascending =
      subst (λ (ds : List Diagnostic). AreAscending (located ∷ forms) (ds ++ rest)) (sym e)
      (each_map (Placed forms) (ComesBefore (located ∷ forms) d) (λ next at. inl (stands_first located forms d.place next.place is.at at.0)) rest placed, ascend_later located forms rest ascending)

  pub are_ascending : (forms : List Located) (pieces : List Translated) → ArePieces links signatures forms pieces → AreAscending forms (all_of pieces).left_out
  are_ascending [] [] each = tt
  are_ascending [] (piece ∷ pieces) each = absurd each
  are_ascending (located ∷ forms) [] each = absurd each
  are_ascending (located ∷ forms) (piece ∷ pieces) each =
      one_more located forms piece.left_out (all_of pieces).left_out (piece_leaves located piece each.0) (are_placed forms pieces each.1) (are_ascending forms pieces each.1)

-- ---- all forms

pub left_out_are_ascending : LeftOutAreAscending
left_out_are_ascending links signatures forms translated x =
    subst (λ (t : Translated). AreAscending forms t.left_out) (sym x.is) (are_ascending links signatures forms x.pieces x.each)

pub left_out_are_placed : LeftOutArePlaced
left_out_are_placed links signatures forms translated x =
    subst (λ (t : Translated). Each (Placed links signatures forms) t.left_out) (sym x.is) (are_placed links signatures forms x.pieces x.each)
