-- Words and links whose numbers are given anew.
use Rattle.std.proofs.Common.{◌≡◌, ℕ, ◌+◌, ◌<◌, ◌≤◌, ◌⊎◌, List, [], ◌∷◌, ◌++◌, map, length, get_or, refl, sym, ap, ap₂, subst, ◌∙◌, arith, inl, inr}
use Rattle.std.specs.Prelude.{slice_set}
use Rattle.std.proofs.lemmas.Bool.{cases_order}
use Rattle.std.proofs.lemmas.List.{get_or-map, length-map, length-set, get_or_append_left, length-append}
use Rattle.kif_tree.specs.Terms.{Bytes}
use Rattle.sigma_base.specs.Lists.{Each}
use Rattle.taxonomy.specs.declared.numbered.NumberedLink.{NumberedLink}
use Rattle.taxonomy.specs.Names.{AreNumbered, key_of}
use Rattle.taxonomy.specs.Numbered.{named, LinksWithin, AreBelow}
use Rattle.taxonomy.specs.Reorder.{place, ArePlaces, AreSomePlaces, AreDistinctBelow, AreReordered, moved, AreMoved}
use Rattle.taxonomy.proofs.GraphLaws.{set_cases}
use Rattle.taxonomy.proofs.NameLaws.{Entries, place_below, get_or_last}

-- ---- places

pub no_places : (count : ℕ) (order places : List ℕ) → length places ≡ count → ((n : ℕ) → n < count → place places n ≡ count) → AreSomePlaces count 0 order places
no_places count order places each unknown = record {
  each = each;
  stands = λ n lt. inl (unknown n lt);
  placed = λ at lt. absurd (omega (arith, lt));
}

pub one_more_place : (count at number : ℕ) (order old new : List ℕ) → at < count → number < count → number ≡ get_or order at 0 → place old number ≡ count → new ≡ slice_set old number at → AreSomePlaces count at order old
    → AreSomePlaces count (at + 1) order new
one_more_place count at number order old new inside lt is unknown new_is h = subst (AreSomePlaces count (at + 1) order) (sym new_is) (record {
  each = length-set old number at ∙ h.each;
  stands = λ n below. stands n below (set_cases 0 old number n at within);
  placed = λ k less. placed k less (cases_order k at);
})
  where
    within : number < length old
    within = omega (arith, h.each, lt)

    new_place : ℕ → ℕ
    new_place n = place (slice_set old number at) n

    stands : (n : ℕ) → n < count → (((n ≡ number) × (new_place n ≡ at)) ⊎ ((n ≡ number → ⊥) × (new_place n ≡ place old n)))
        → (new_place n ≡ count) ⊎ ((new_place n < at + 1) × (get_or order (new_place n) 0 ≡ n))
    stands n below (inl (same, here)) = inr (omega (arith, here), ap (λ (k : ℕ). get_or order k 0) here ∙ (sym is ∙ sym same))
    stands n below (inr (apart, other)) = older (h.stands n below)
      where
        older : ((place old n ≡ count) ⊎ ((place old n < at) × (get_or order (place old n) 0 ≡ n))) → (new_place n ≡ count) ⊎ ((new_place n < at + 1) × (get_or order (new_place n) 0 ≡ n))
        older (inl none) = inl (other ∙ none)
        older (inr (less, back)) = inr (omega (arith, other, less), ap (λ (k : ℕ). get_or order k 0) other ∙ back)

    placed : (k : ℕ) → k < at + 1 → ((k ≡ at) ⊎ ((k < at) ⊎ (at < k))) → (get_or order k 0 < count) × (new_place (get_or order k 0) ≡ k)
    placed k less (inl same) = subst (λ (j : ℕ). (get_or order j 0 < count) × (new_place (get_or order j 0) ≡ j)) (sym same)
        (subst (λ (n : ℕ). (n < count) × (new_place n ≡ at)) is (lt, here (set_cases 0 old number number at within)))
      where
        here : (((number ≡ number) × (new_place number ≡ at)) ⊎ ((number ≡ number → ⊥) × (new_place number ≡ place old number))) → new_place number ≡ at
        here (inl (same, e)) = e
        here (inr (apart, e)) = absurd (apart refl)
    placed k less (inr (inl before)) =
        let old_one = h.placed k before in
        (old_one.0, kept (set_cases 0 old number (get_or order k 0) at within))
      where
        kept : (((get_or order k 0 ≡ number) × (new_place (get_or order k 0) ≡ at)) ⊎ ((get_or order k 0 ≡ number → ⊥) × (new_place (get_or order k 0) ≡ place old (get_or order k 0)))) → new_place (get_or order k 0) ≡ k
        kept (inl (same, e)) = absurd (omega (arith, before, inside, (h.placed k before).1, ap (place old) same, unknown))
        kept (inr (apart, e)) = e ∙ (h.placed k before).1
    placed k less (inr (inr after)) = absurd (omega (arith, less, after))

pub all_places : (count : ℕ) (order places : List ℕ) → length order ≡ count → AreBelow count places → AreSomePlaces count (length order) order places → ArePlaces count order places
all_places count order places long below h = record {
  long = long;
  each = h.each;
  stands = λ n lt. known n lt (h.stands n lt);
  placed = λ at lt. h.placed at (omega (arith, lt, long));
}
  where
    known : (n : ℕ) → n < count → ((place places n ≡ count) ⊎ ((place places n < length order) × (get_or order (place places n) 0 ≡ n))) → (place places n < count) × (get_or order (place places n) 0 ≡ n)
    known n lt (inl none) = absurd (omega (arith, none, place_below count places n below (omega (arith, lt, h.each))))
    known n lt (inr (less, back)) = (omega (arith, less, long), back)

pub distinct_order : (count : ℕ) (order places : List ℕ) → ArePlaces count order places → AreDistinctBelow count order
distinct_order count order places h = record {
  below = λ at lt. (h.placed at (omega (arith, lt, h.long))).0;
  distinct = λ at other lt less same. sym (h.placed at (omega (arith, lt, h.long))).1 ∙ (ap (place places) same ∙ (h.placed other (omega (arith, less, h.long))).1);
}

-- ---- words in the order

-- the words at the first places of the order were taken, and the others stand as before
pub record AreTaken (order : List ℕ) (many : ℕ) (first old new : List Bytes) : Type 0 where
  pub each : length old ≡ length first
  pub long : length new ≡ many
  pub are : (at : ℕ) → at < many → get_or new at [] ≡ get_or first (get_or order at 0) []
  pub left : (n : ℕ) → n < length first → ((at : ℕ) → at < many → get_or order at 0 ≡ n → ⊥) → get_or old n [] ≡ get_or first n []

pub none_taken : (order : List ℕ) (words : List Bytes) → AreTaken order 0 words words []
none_taken order words = record { each = refl; long = refl; are = λ at lt. absurd (omega (arith, lt)); left = λ n lt none. refl }

pub one_taken : (order : List ℕ) (at number : ℕ) (first old new : List Bytes) (word rest : Bytes) → AreDistinctBelow (length first) order → at < length order → number ≡ get_or order at 0 → word ≡ get_or old number []
    → AreTaken order at first old new → AreTaken order (at + 1) first (slice_set old number rest) (new ++ word ∷ [])
one_taken order at number first old new word rest d lt is word_is h = record {
  each = length-set old number rest ∙ h.each;
  long = length-append new (word ∷ []) ∙ ap (λ (k : ℕ). k + 1) h.long;
  are = λ k less. are k less (cases_order k at);
  left = λ n below none. left n below none (set_cases [] old number n rest within);
}
  where
    inside : number < length first
    inside = subst (λ (n : ℕ). n < length first) (sym is) (d.below at lt)

    within : number < length old
    within = omega (arith, inside, h.each)

    not_yet : (k : ℕ) → k < at → get_or order k 0 ≡ number → ⊥
    not_yet k less same = absurd (omega (arith, less, d.distinct k at (omega (arith, less, lt)) lt (same ∙ is)))

    are : (k : ℕ) → k < at + 1 → ((k ≡ at) ⊎ ((k < at) ⊎ (at < k))) → get_or (new ++ word ∷ []) k [] ≡ get_or first (get_or order k 0) []
    are k less (inl same) =
        subst (λ (j : ℕ). get_or (new ++ word ∷ []) j [] ≡ get_or first (get_or order j 0) []) (h.long ∙ sym same)
        (get_or_last new word [] ∙ (word_is ∙ (h.left number inside not_yet ∙ ap (λ (n : ℕ). get_or first n []) (is ∙ ap (λ (j : ℕ). get_or order j 0) (sym h.long)))))
    are k less (inr (inl before)) = get_or_append_left new (word ∷ []) [] k (omega (arith, before, h.long)) ∙ h.are k before
    are k less (inr (inr after)) = absurd (omega (arith, less, after))

    left : (n : ℕ) → n < length first → ((k : ℕ) → k < at + 1 → get_or order k 0 ≡ n → ⊥)
        → (((n ≡ number) × (get_or (slice_set old number rest) n [] ≡ rest)) ⊎ ((n ≡ number → ⊥) × (get_or (slice_set old number rest) n [] ≡ get_or old n [])))
        → get_or (slice_set old number rest) n [] ≡ get_or first n []
    left n below none (inl (same, e)) = absurd (none at (omega arith) (sym is ∙ sym same))
    left n below none (inr (apart, e)) = e ∙ h.left n below (λ k less. none k (omega (arith, less)))

pub all_taken : (order : List ℕ) (many : ℕ) (first old new : List Bytes) → length order ≤ many → many ≤ length order → AreTaken order many first old new → AreReordered order first new
all_taken order many first old new le ge h = record { long = omega (arith, le, ge, h.long); are = λ at lt. h.are at (omega (arith, lt, le)) }

-- ---- all together

each_over : {X Y : Type 0} (P : Y → Type 0) (f : X → Y) (Q : X → Type 0) → ((x : X) → Q x → P (f x)) → (xs : List X) → Each Q xs → Each P (map f xs)
each_over P f Q g [] h = tt
each_over P f Q g (x ∷ xs) h = (g x h.0, each_over P f Q g xs h.1)

-- the word at its new place
word_moves : (words new : List Bytes) (order places : List ℕ) (n : ℕ) → ArePlaces (length words) order places → AreReordered order words new → n < length words
    → (place places n < length new) × (get_or new (place places n) [] ≡ get_or words n [])
word_moves words new order places n p r lt =
    let there = p.stands n lt in
    (omega (arith, there.0, p.long, r.long), r.are (place places n) (omega (arith, there.0, p.long)) ∙ ap (λ (k : ℕ). get_or words k []) there.1)

pub numbered_anew : (keys : Entries) (old_places new_places : List ℕ) (words new : List Bytes) (order places : List ℕ) → AreNumbered keys old_places words → ArePlaces (length words) order places
    → AreReordered order words new → new_places ≡ map (place places) old_places → AreNumbered keys new_places new
numbered_anew keys old_places new_places words new order places h p r is = subst (λ (ps : List ℕ). AreNumbered keys ps new) (sym is) (record {
  within = each_over (λ (n : ℕ). n < length new) (place places) (λ (n : ℕ). n < length words) (λ n lt. (word_moves words new order places n p r lt).0) old_places h.within;
  found = λ word k e.
      let there = h.found word k e in (
        omega (arith, there.0, length-map old_places (place places)),
        ap (λ (n : ℕ). get_or new n []) (get_or-map (place places) old_places k 0 0 there.0)
            ∙ ((word_moves words new order places (get_or old_places k 0) p r (place_below (length words) old_places k h.within there.0)).1 ∙ there.1),
      );
  known = λ n lt.
      let at : n < length words = omega (arith, lt, r.long, p.long) in
      let stands = p.placed n at in
      let key = h.known (get_or order n 0) stands.0 in
      let same : get_or new n [] ≡ get_or words (get_or order n 0) [] = r.are n (omega (arith, at, p.long)) in (
        key.0,
        ap (key_of keys) same ∙ key.1,
        get_or-map (place places) old_places key.0 0 0 (h.found (get_or words (get_or order n 0) []) key.0 key.1).0 ∙ (ap (place places) key.2 ∙ stands.1),
      );
})

pub links_same : (words : List Bytes) (links : List NumberedLink) → LinksWithin (length words) links → AreMoved words words links links
links_same words links within = record { within = within; same = refl }

pub links_anew : (words new : List Bytes) (order places : List ℕ) (links moved_links : List NumberedLink) → ArePlaces (length words) order places → AreReordered order words new → LinksWithin (length words) links
    → moved_links ≡ map (moved places) links → AreMoved words new links moved_links
links_anew words new order places links moved_links p r within is = subst (AreMoved words new links) (sym is) (record {
  within = each_over (λ (l : NumberedLink). (l.low < length new) × (l.high < length new)) (moved places) (λ (l : NumberedLink). (l.low < length words) × (l.high < length words))
      (λ l w. ((word_moves words new order places l.low p r w.0).0, (word_moves words new order places l.high p r w.1).0)) links within;
  same = go links within;
})
  where
    go : (ls : List NumberedLink) → LinksWithin (length words) ls → map (named new) (map (moved places) ls) ≡ map (named words) ls
    go [] h = refl
    go (l ∷ ls) h =
        ap₂ ◌∷◌
        (ap₂ (λ (x y : Bytes). record { kind = l.kind; low = x; high = y; place = l.place }) (word_moves words new order places l.low p r h.0.0).1 (word_moves words new order places l.high p r h.0.1).1)
        (go ls h.1)
