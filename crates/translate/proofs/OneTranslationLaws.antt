-- Forms have one translation.
use Rattle.std.proofs.Common.{◌≡◌, ℕ, ◌+◌, ◌-◌, ◌<◌, ◌≤◌, List, [], ◌∷◌, ◌++◌, length, Bool, true, false, refl, sym, ap, ap₂, ◌∙◌, subst, arith, length-append}
use Rattle.kif_tree.specs.declared.place.Located.{Located}
use Rattle.kif_tree.specs.declared.place.Place.{Place}
use Rattle.kif_tree.specs.Profile.{is_in_profile}
use Rattle.taxonomy.specs.Told.{Link}
use Rattle.signatures.specs.OneTables.{SameTables, one_tables}
use Rattle.signatures.specs.Relations.{is_shown}
use Rattle.signatures.specs.declared.signatures.Signatures.{Signatures}
use Rattle.translate.specs.Laws.{TranslationsAreOne, WholesAreOne, FullAtOne, WholeIsNotFull}
use Rattle.translate.specs.Pieces.{IsPiece, IsPieceWhere, of_expanded}
use Rattle.translate.specs.Translation.{ArePieces, IsTranslation, IsFullAt, all_of}
use Rattle.translate.specs.declared.translated.Translated.{Translated}
use Rattle.translate.proofs.SameTableLaws.{expansion_once, expanded_same}

module _ (links : List Link) (first second : Signatures) (same : SameTables first second) where
  -- ---- one piece for each form

  piece_where : (shown in_profile : Bool) (located : Located) (a b : Translated)
      → IsPieceWhere shown in_profile links first located a → IsPieceWhere shown in_profile links second located b → a ≡ b
  piece_where true in_profile located a b x y = x ∙ sym y
  piece_where false false located a b x y = x ∙ sym y
  piece_where false true located a b x y =
      x.is ∙ ap (of_expanded first located) (expansion_once links first second same located.form x.outcome y.outcome x.expands y.expands)
      ∙ expanded_same first second same located y.outcome ∙ sym y.is

  pub piece_once : (located : Located) (a b : Translated) → IsPiece links first located a → IsPiece links second located b → a ≡ b
  piece_once located = piece_where (is_shown located.form) (is_in_profile located.form) located

  pub pieces_once : (forms : List Located) (ps qs : List Translated) → ArePieces links first forms ps → ArePieces links second forms qs → ps ≡ qs
  pieces_once [] [] [] x y = refl
  pieces_once [] [] (q ∷ qs) x y = absurd y
  pieces_once [] (p ∷ ps) qs x y = absurd x
  pieces_once (located ∷ forms) [] qs x y = absurd x
  pieces_once (located ∷ forms) (p ∷ ps) [] x y = absurd y
  pieces_once (located ∷ forms) (p ∷ ps) (q ∷ qs) x y = ap₂ ◌∷◌ (piece_once located p q x.0 y.0) (pieces_once forms ps qs x.1 y.1)

  pub translation_once : (forms : List Located) (a b : Translated) → IsTranslation links first forms a → IsTranslation links second forms b → a ≡ b
  translation_once forms a b x y = x.is ∙ ap all_of (pieces_once forms x.pieces y.pieces x.each y.each) ∙ sym y.is

  -- ---- the limit

  stand_alike : (x y : Located) (xs ys : List Located) → x ∷ xs ≡ y ∷ ys → (x ≡ y) × (xs ≡ ys)
  stand_alike x y xs ys e = (cc, cc)

  -- a beginning of the forms has no more clauses than all of them
  in_room : (room : ℕ) (piece : Translated) (pieces : List Translated) → length (all_of (piece ∷ pieces)).inputs ≤ room
      → (length piece.inputs ≤ room) × (length (all_of pieces).inputs ≤ room - length piece.inputs)
  in_room room piece pieces h =
      let sum = length-append piece.inputs (all_of pieces).inputs in
      (omega (arith, sum, h), omega (arith, sum, h))

  passed : (room more : ℕ) (piece : Translated) (pieces : List Translated) → length piece.inputs ≤ room
      → room < length (all_of (piece ∷ pieces)).inputs + more → room - length piece.inputs < length (all_of pieces).inputs + more
  passed room more piece pieces within h = let sum = length-append piece.inputs (all_of pieces).inputs in omega (arith, sum, within, h)

  -- what passes the limit isn't within it
  never_both : (room : ℕ) (p q : Translated) → room < 0 + length p.inputs → length q.inputs ≤ room → p ≡ q → ⊥
  never_both room p q h k e = let n = ap (λ (t : Translated). length t.inputs) e in absurd (omega (arith, n, h, k))

  pub full_once : (room : ℕ) (gone other : List Located) (x y : Located) (xs ys : List Located) (ps qs : List Translated) (p q : Translated)
      → gone ++ x ∷ xs ≡ other ++ y ∷ ys → ArePieces links first gone ps → ArePieces links second other qs → IsPiece links first x p → IsPiece links second y q
      → length (all_of ps).inputs ≤ room → length (all_of qs).inputs ≤ room → room < length (all_of ps).inputs + length p.inputs → room < length (all_of qs).inputs + length q.inputs → x ≡ y
  full_once room [] [] x y xs ys ps qs p q stand us vs u v h k a b = (stand_alike x y xs ys stand).0
  full_once room [] (z ∷ other) x y xs ys [] [] p q stand us vs u v h k a b = absurd vs
  full_once room [] (z ∷ other) x y xs ys [] (w ∷ qs) p q stand us vs u v h k a b =
      let e = (stand_alike x z xs (other ++ y ∷ ys) stand).0 in
      absurd (never_both room p w a (in_room room w qs k).0 (piece_once z p w (subst (λ (l : Located). IsPiece links first l p) e u) vs.0))
  full_once room [] (z ∷ other) x y xs ys (w ∷ ps) qs p q stand us vs u v h k a b = absurd us
  full_once room (z ∷ gone) [] x y xs ys [] qs p q stand us vs u v h k a b = absurd us
  full_once room (z ∷ gone) [] x y xs ys (w ∷ ps) [] p q stand us vs u v h k a b =
      let e = (stand_alike z y (gone ++ x ∷ xs) ys stand).0 in
      absurd (never_both room q w b (in_room room w ps h).0 (sym (piece_once z w q us.0 (subst (λ (l : Located). IsPiece links second l q) (sym e) v))))
  full_once room (z ∷ gone) [] x y xs ys (w ∷ ps) (t ∷ qs) p q stand us vs u v h k a b = absurd vs
  full_once room (z ∷ gone) (z' ∷ other) x y xs ys [] qs p q stand us vs u v h k a b = absurd us
  full_once room (z ∷ gone) (z' ∷ other) x y xs ys (w ∷ ps) [] p q stand us vs u v h k a b = absurd vs
  full_once room (z ∷ gone) (z' ∷ other) x y xs ys (w ∷ ps) (w' ∷ qs) p q stand us vs u v h k a b =
      let s = stand_alike z z' (gone ++ x ∷ xs) (other ++ y ∷ ys) stand in
      let e = piece_once z w w' us.0 (subst (λ (l : Located). IsPiece links second l w') (sym s.0) vs.0) in
      let less : length (all_of qs).inputs ≤ room - length w.inputs = subst (λ (t : Translated). length (all_of qs).inputs ≤ room - length t.inputs) (sym e) (in_room room w' qs k).1 in
      let more : room - length w.inputs < length (all_of qs).inputs + length q.inputs =
      subst (λ (t : Translated). room - length t.inputs < length (all_of qs).inputs + length q.inputs) (sym e) (passed room (length q.inputs) w' qs (in_room room w' qs k).0 b) in
      full_once (room - length w.inputs) gone other x y xs ys ps qs p q s.1 us.1 vs.1 u v (in_room room w ps h).1 less (passed room (length p.inputs) w ps (in_room room w ps h).0 a) more

  pub never_full : (room : ℕ) (gone : List Located) (y : Located) (ys : List Located) (ps qs : List Translated) (q : Translated)
      → ArePieces links first (gone ++ y ∷ ys) ps → ArePieces links second gone qs → IsPiece links second y q
      → length (all_of ps).inputs ≤ room → room < length (all_of qs).inputs + length q.inputs → ⊥
  never_full room [] y ys [] qs q us vs v h b = absurd us
  never_full room [] y ys (p ∷ ps) [] q us vs v h b = never_both room q p b (in_room room p ps h).0 (sym (piece_once y p q us.0 v))
  never_full room [] y ys (p ∷ ps) (t ∷ qs) q us vs v h b = absurd vs
  never_full room (z ∷ gone) y ys [] qs q us vs v h b = absurd us
  never_full room (z ∷ gone) y ys (p ∷ ps) [] q us vs v h b = absurd vs
  never_full room (z ∷ gone) y ys (p ∷ ps) (t ∷ qs) q us vs v h b =
      let e = piece_once z p t us.0 vs.0 in
      let more : room - length p.inputs < length (all_of qs).inputs + length q.inputs =
      passed room (length q.inputs) p qs (in_room room p ps h).0
      (subst (λ (s : Translated). room < length (all_of (s ∷ qs)).inputs + length q.inputs) (sym e) b) in
      never_full (room - length p.inputs) gone y ys ps qs q us.1 vs.1 v (in_room room p ps h).1 more

-- ---- by right tables of the same forms

pub translations_are_one : TranslationsAreOne
translations_are_one links told forms first second a b s t = translation_once links first second (one_tables told first second s t) forms a b

pub wholes_are_one : WholesAreOne
wholes_are_one links told forms first second a b s t x y = translations_are_one links told forms first second a b s t x.translation y.translation

pub full_at_one : FullAtOne
full_at_one links told forms first second p q s t x y =
    x.at
    ∙ ap (λ (located : Located). located.place)
    (full_once links first second (one_tables told first second s t) 400000 x.before y.before x.located y.located x.after y.after x.translated.pieces y.translated.pieces x.piece y.piece
    (sym x.stand ∙ y.stand) x.translated.each y.translated.each x.gives y.gives (room_of x) (room_of y) (passes_of x) (passes_of y))
    ∙ sym y.at
  where
    room_of : {signatures : Signatures} {place : Place} (z : IsFullAt links signatures forms place) → length (all_of z.translated.pieces).inputs ≤ 400000
    room_of z = subst (λ (t : Translated). length t.inputs ≤ 400000) z.translated.is z.room

    passes_of : {signatures : Signatures} {place : Place} (z : IsFullAt links signatures forms place) → 400000 < length (all_of z.translated.pieces).inputs + length z.piece.inputs
    passes_of z = subst (λ (t : Translated). 400000 < length t.inputs + length z.piece.inputs) z.translated.is z.passes

pub whole_is_not_full : WholeIsNotFull
whole_is_not_full links told forms first second translated place s t x y =
    never_full links first second (one_tables told first second s t) 400000 y.before y.located y.after x.translation.pieces y.translated.pieces y.piece
    (subst (λ (ls : List Located). ArePieces links first ls x.translation.pieces) y.stand x.translation.each) y.translated.each y.gives
    (subst (λ (t : Translated). length t.inputs ≤ 400000) x.translation.is x.within)
    (subst (λ (t : Translated). 400000 < length t.inputs + length y.piece.inputs) y.translated.is y.passes)
