-- A table of words and their numbers that gets one more word.
use Rattle.std.proofs.Common.{◌≡◌, ℕ, ◌+◌, ◌<◌, ◌⊎◌, List, [], ◌∷◌, ◌++◌, length, get_or, Bool, true, false, cond, refl, sym, ap, subst, ◌∙◌, arith, inl, inr}
use Rattle.std.specs.Prelude.{Contains, Some, None}
use Rattle.std.specs.Map.{lookup, KeepsOthers}
use Rattle.std.specs.Str.{bytes_eq}
use Rattle.std.specs.declared.alloc.Global.{Global}
use Rattle.std.specs.declared.vec.Vec.{Vec}
use Rattle.std.proofs.lemmas.Bool.{cases_order}
use Rattle.std.proofs.lemmas.List.{get_or_default, length-append, get_or_append_left}
use Rattle.std.proofs.lemmas.Slice.Eq.{bytes_eq-Decides}
use Rattle.kif_tree.specs.Terms.{Bytes}
use Rattle.sigma_base.specs.Lists.{Each, each_append, each_map}
use Rattle.taxonomy.specs.Names.{AreNumbered, key_of}
use Rattle.taxonomy.proofs.GraphLaws.{each_in, contains_at}

abbrev pub Key : Type 0
Key = Vec ℕ Global

abbrev pub Entries : Type 0
Entries = List (Key × ℕ)

abbrev at : Bytes → Key → Bool
at word key = bytes_eq word key.items

abbrev same_keys : Key → Key → Bool
same_keys x y = bytes_eq x.items y.items

at_same : (word : Bytes) (key : Key) → word ≡ key.items → at word key ≡ true
at_same word key e = (bytes_eq-Decides word key.items).1 e

at_true : (word : Bytes) (key : Key) → at word key ≡ true → word ≡ key.items
at_true word key e = (bytes_eq-Decides word key.items).0 e

others_stay : (old new : Entries) (key : Key) (word : Bytes) → KeepsOthers same_keys (same_keys key) old new → at word key ≡ false → lookup (at word) new ≡ lookup (at word) old
unfolding KeepsOthers
others_stay old new key word keeps apart =
    keeps (at word) (λ x y test. ap (λ (t : Bytes). bytes_eq t y.items) (at_true word x test))
    (λ other same. subst (λ (t : Bytes). bytes_eq word t ≡ false) ((bytes_eq-Decides key.items other.items).0 same) apart)

insert_lookup : (old new : Entries) (key : Key) (number : ℕ) (word : Bytes) → lookup (same_keys key) new ≡ Some number → KeepsOthers same_keys (same_keys key) old new
    → lookup (at word) new ≡ cond (at word key) (Some number) (lookup (at word) old)
insert_lookup old new key number word here keeps = go (at word key) refl
  where
    go : (b : Bool) → at word key ≡ b → lookup (at word) new ≡ cond b (Some number) (lookup (at word) old)
    go true test = subst (λ (t : Bytes). lookup (at t) new ≡ Some number) (sym (at_true word key test)) here
    go false test = others_stay old new key word keeps test

pub get_or_last : {X : Type 0} (xs : List X) (x d : X) → get_or (xs ++ x ∷ []) (length xs) d ≡ x
get_or_last [] x d = refl
get_or_last (y ∷ xs) x d = get_or_last xs x d

pub contains_word : (words : List Bytes) (n : ℕ) (word : Bytes) → n < length words → get_or words n [] ≡ word → Contains words word
contains_word words n word lt is = (n, lt, get_or_default words n word [] lt ∙ is)

-- a key has a number below the count
pub place_below : (count : ℕ) (places : List ℕ) (key : ℕ) → Each (λ (n : ℕ). n < count) places → key < length places → get_or places key 0 < count
place_below count places key within lt = each_in (λ (n : ℕ). n < count) places (get_or places key 0) (contains_at places key 0 lt) within

pub numbered_more : (old new : Entries) (places : List ℕ) (words : List Bytes) (key : Key) (word : Bytes) → AreNumbered old places words → (Contains words word → ⊥) → key.items ≡ word
    → lookup (same_keys key) new ≡ Some (length places) → KeepsOthers same_keys (same_keys key) old new → AreNumbered new (places ++ length words ∷ []) (words ++ word ∷ [])
numbered_more old new places words key word h fresh is here keeps = record {
  within = each_append (λ (n : ℕ). n < length (words ++ word ∷ [])) places (length words ∷ [])
      (each_map (λ (n : ℕ). n < length words) (λ (n : ℕ). n < length (words ++ word ∷ [])) (λ n lt. omega (arith, lt, longer)) places h.within) (omega (arith, longer), tt);
  found = λ text k e. found_in text k (at text key) refl (sym (looked text) ∙ e);
  known = λ n lt. known_in n lt (cases_order n (length words));
}
  where
    looked : (text : Bytes) → key_of new text ≡ cond (at text key) (Some (length places)) (key_of old text)
    looked text = insert_lookup old new key (length places) text here keeps

    longer : length (words ++ word ∷ []) ≡ length words + 1
    longer = length-append words (word ∷ [])

    more_places : length (places ++ length words ∷ []) ≡ length places + 1
    more_places = length-append places (length words ∷ [])

    found_in : (text : Bytes) (k : ℕ) (b : Bool) → at text key ≡ b → cond b (Some (length places)) (key_of old text) ≡ Some k
        → (k < length (places ++ length words ∷ [])) × (get_or (words ++ word ∷ []) (get_or (places ++ length words ∷ []) k 0) [] ≡ text)
    found_in text k true test e =
        let same : length places ≡ k = cc in (
          omega (arith, more_places),
          subst (λ (m : ℕ). get_or (words ++ word ∷ []) (get_or (places ++ length words ∷ []) m 0) [] ≡ text) same
              (ap (λ (m : ℕ). get_or (words ++ word ∷ []) m []) (get_or_last places (length words) 0) ∙ (get_or_last words word [] ∙ (sym is ∙ sym (at_true text key test)))),
        )
    found_in text k false test e =
        let there = h.found text k e in (
          omega (arith, more_places, there.0),
          ap (λ (m : ℕ). get_or (words ++ word ∷ []) m []) (get_or_append_left places (length words ∷ []) 0 k there.0)
              ∙ (get_or_append_left words (word ∷ []) [] (get_or places k 0) (place_below (length words) places k h.within there.0) ∙ there.1),
        )

    before : (n : ℕ) → n < length words → (k : ℕ) × (key_of new (get_or (words ++ word ∷ []) n []) ≡ Some k) × (get_or (places ++ length words ∷ []) k 0 ≡ n)
    before n lt =
        let old_key = h.known n lt in (
          old_key.0,
          subst (λ (text : Bytes). key_of new text ≡ Some old_key.0) (sym (get_or_append_left words (word ∷ []) [] n lt))
              (looked (get_or words n []) ∙ other old_key.0 old_key.1 (at (get_or words n []) key) refl),
          get_or_append_left places (length words ∷ []) 0 old_key.0 (h.found (get_or words n []) old_key.0 old_key.1).0 ∙ old_key.2,
        )
      where
        other : (k : ℕ) → key_of old (get_or words n []) ≡ Some k → (b : Bool) → at (get_or words n []) key ≡ b → cond b (Some (length places)) (key_of old (get_or words n [])) ≡ Some k
        other k old_is true test = absurd (fresh (contains_word words n word lt (at_true (get_or words n []) key test ∙ is)))
        other k old_is false test = old_is

    last : (n : ℕ) → n ≡ length words → (k : ℕ) × (key_of new (get_or (words ++ word ∷ []) n []) ≡ Some k) × (get_or (places ++ length words ∷ []) k 0 ≡ n)
    last n e = (
      length places,
      subst (λ (m : ℕ). key_of new (get_or (words ++ word ∷ []) m []) ≡ Some (length places)) (sym e)
          (subst (λ (text : Bytes). key_of new text ≡ Some (length places)) (sym (get_or_last words word []))
          (looked word ∙ ap (λ (b : Bool). cond b (Some (length places)) (key_of old word)) (at_same word key (sym is)))),
      get_or_last places (length words) 0 ∙ sym e,
    )

    known_in : (n : ℕ) → n < length (words ++ word ∷ []) → ((n ≡ length words) ⊎ ((n < length words) ⊎ (length words < n)))
        → (k : ℕ) × (key_of new (get_or (words ++ word ∷ []) n []) ≡ Some k) × (get_or (places ++ length words ∷ []) k 0 ≡ n)
    known_in n lt (inl same) = last n same
    known_in n lt (inr (inl below)) = before n below
    known_in n lt (inr (inr above)) = absurd (omega (arith, longer))

-- a word without a key isn't among the words
pub not_among : (keys : Entries) (places : List ℕ) (words : List Bytes) (word : Bytes) → AreNumbered keys places words → None ≡ key_of keys word → Contains words word → ⊥
not_among keys places words word h none (n, lt, is) =
    let stands : get_or words n [] ≡ word = get_or_default words n [] word lt ∙ is in
    let key = h.known n lt in
    let some : key_of keys word ≡ Some key.0 = subst (λ (text : Bytes). key_of keys text ≡ Some key.0) stands key.1 in
    absurd (cc)

pub numbered_by : (old new : Entries) (places more : List ℕ) (words longer : List Bytes) (key : Key) (word text : Bytes) (number place : ℕ) → AreNumbered old places words → (Contains words word → ⊥)
    → key.items ≡ word → text ≡ word → number ≡ length words → place ≡ length places → longer ≡ words ++ text ∷ [] → more ≡ places ++ number ∷ []
    → lookup (same_keys key) new ≡ Some place → KeepsOthers same_keys (same_keys key) old new → AreNumbered new more longer
numbered_by old new places more words longer key word text number place h fresh is same last last_place longer_is more_is here keeps =
    subst (λ (ps : List ℕ). AreNumbered new ps longer) (sym (more_is ∙ ap (λ (n : ℕ). places ++ n ∷ []) last))
    (subst (AreNumbered new (places ++ length words ∷ [])) (sym (longer_is ∙ ap (λ (x : Bytes). words ++ x ∷ []) same))
    (numbered_more old new places words key word h fresh is (here ∙ ap (λ (n : ℕ). Some n) last_place) keeps))

-- different numbers have different words
pub distinct_words : (keys : Entries) (places : List ℕ) (words : List Bytes) → AreNumbered keys places words → (n m : ℕ) → n < length words → m < length words → get_or words n [] ≡ get_or words m [] → n ≡ m
distinct_words keys places words h n m lt below same =
    let first = h.known n lt in
    let second = h.known m below in
    let both : Some first.0 ≡ Some second.0 = sym first.1 ∙ (ap (key_of keys) same ∙ second.1) in
    let same_key : first.0 ≡ second.0 = cc in
    sym first.2 ∙ (ap (λ (k : ℕ). get_or places k 0) same_key ∙ second.2)
