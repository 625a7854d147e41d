-- Notes that are passed on layer by layer are of the nearest words.
use Rattle.std.proofs.Common.{◌≡◌, ℕ, ◌+◌, ◌<◌, ◌≤◌, ◌⊎◌, List, [], ◌∷◌, ◌++◌, length, get_or, take, Bool, true, false, if◌then◌else◌, refl, sym, ap, subst, ◌∙◌, arith, inl, inr}
use Rattle.std.specs.Prelude.{Option, Some, None, is_some, nat_lt}
use Rattle.std.specs.HashMap.{HashMap}
use Rattle.std.specs.Cmp.Lexicographic.{slice_cmp, nat_list_cmp_total}
use Rattle.std.specs.Ordering.{nat_cmp, is_lt, ordering_reverse}
use Rattle.std.specs.declared.cmp.Ordering.{Ordering}
use Rattle.std.specs.declared.cmp.Ordering.TheVariants.{Less, Equal, Greater}
use Rattle.std.specs.Str.{bytes_eq}
use Rattle.std.proofs.lemmas.Bool.Decides.{nat_tests}
use Rattle.std.proofs.lemmas.List.{take_more}
use Rattle.std.proofs.lemmas.Map.Lookups.{exact_bytes}
use Rattle.kif_tree.specs.Terms.{Bytes}
use Rattle.sigma_base.specs.Lists.{each_append, each_left, each_right, each_map}
use Rattle.signatures.specs.declared.nearest.Need.TheVariants.{First, Better, Nothing}
use Rattle.signatures.specs.declared.nearest.Note.{Note}
use Rattle.signatures.specs.Layers.{Among, Leads, as_note, IsNoFarther, IsSettled, need_of, IsRight, AreNotes, StaysSettled, IsPassed, Passes}
use Rattle.signatures.specs.Nearest.{IsBefore}
use Rattle.signatures.specs.WordTables.{Key, find, Has, IsSet}
use Rattle.signatures.proofs.WordLaws.{true_false, same_word, word_same, among_here, among_left, among_right, among_split, among_one, has_by}

lower : (m n : ℕ) → nat_lt m n ≡ true → m < n
lower m n h = grind (arith, nat_tests)

higher : (m n : ℕ) → nat_lt m n ≡ false → n ≤ m
higher m n h = grind (arith, nat_tests)

-- ---- order

pub order_of : (a b : Bytes) → is_lt (slice_cmp nat_cmp a b) ≡ false → (b ≡ a) ⊎ IsBefore b a
order_of a b h = go (slice_cmp nat_cmp a b) refl h
  where
    go : (o : Ordering) → slice_cmp nat_cmp a b ≡ o → is_lt o ≡ false → (b ≡ a) ⊎ IsBefore b a
    go Less e k = absurd (cc)
    go Equal e k = inl (sym (exact_bytes a b e))
    go Greater e k = inr (nat_list_cmp_total.antisymm b a ∙ ap ordering_reverse e)

pub is_less : (o : Ordering) → is_lt o ≡ true → o ≡ Less
is_less Less h = refl
is_less Equal h = absurd (cc)
is_less Greater h = absurd (cc)

abbrev NotBehind : Bytes → Bytes → Type 0
NotBehind near other = (near ≡ other) ⊎ IsBefore near other

not_behind : (a b c : Bytes) → NotBehind a b → NotBehind b c → NotBehind a c
not_behind a b c (inl e) h = subst (λ (w : Bytes). NotBehind w c) (sym e) h
not_behind a b c (inr k) (inl e) = inr (subst (IsBefore a) e k)
not_behind a b c (inr k) (inr h) = inr (nat_list_cmp_total.trans a b c k h)

-- what is no farther than one that is no farther
pub no_farther : (note : Note) (m n : ℕ) (first second : Bytes) → IsNoFarther note m first → (m < n) ⊎ ((m ≡ n) × NotBehind first second) → IsNoFarther note n second
no_farther note m n first second (inl lt) (inl more) = inl (omega (arith, lt, more))
no_farther note m n first second (inl lt) (inr same) = let e : m ≡ n = same.0 in inl (omega (arith, lt, e))
no_farther note m n first second (inr h) (inl more) = let e : note.distance ≡ m = h.0 in inl (omega (arith, e, more))
no_farther note m n first second (inr h) (inr same) = inr (h.0 ∙ same.0, not_behind note.near first second h.1 same.1)

-- ---- a value in a table

module _ {V S : Type 0} (old new : HashMap Key V S) (word : Bytes) (value : V) (set : IsSet old new word value) where
  pub set_here : find new word ≡ Some value
  set_here = set word ∙ ap (λ (b : Bool). if b then Some value else find old word) (word_same word word refl)

  pub set_there : (other : Bytes) → (other ≡ word → ⊥) → find new other ≡ find old other
  set_there other apart = set other ∙ go (bytes_eq other word) refl
    where
      go : (b : Bool) → bytes_eq other word ≡ b → (if b then Some value else find old other) ≡ find old other
      go true e = absurd (apart (same_word other word e))
      go false e = refl

  pub set_cases : (other : Bytes) (found : V) → find new other ≡ Some found → ((other ≡ word) × (found ≡ value)) ⊎ ((other ≡ word → ⊥) × (find old other ≡ Some found))
  set_cases other found e = go (bytes_eq other word) refl (sym (set other) ∙ e)
    where
      go : (b : Bool) → bytes_eq other word ≡ b → (if b then Some value else find old other) ≡ Some found → ((other ≡ word) × (found ≡ value)) ⊎ ((other ≡ word → ⊥) × (find old other ≡ Some found))
      go true is h = inl (same_word other word is, cc)
      go false is h = inr ((λ same. true_false (bytes_eq other word) (word_same other word same) is), h)

-- ---- one word that is passed a near word

module _ {V S : Type 0} (own : HashMap Key V S) (distance : ℕ) (near : Bytes) where
  settled_one : (lows : Bytes → List Bytes) (start old new : HashMap Key Note S) (next : List Bytes) (low : Bytes) → AreNotes lows own start new next distance → StaysSettled own old new → IsSettled own new distance near low → IsPassed lows own start old new next distance near (low ∷ [])
  settled_one lows start old new next low notes stays settled = record { notes = notes; stays = stays; settled = (settled, tt) }

  -- nothing is changed
  unchanged : (notes : HashMap Key Note S) (next : List Bytes) (low : Bytes) → IsSettled own notes distance near low → Passes own notes notes next next distance near (low ∷ [])
  unchanged notes next low settled = λ lows start has some leads h. settled_one lows start notes notes next low h (λ d n w k. k) settled

  pub passes_own : (notes : HashMap Key Note S) (next : List Bytes) (low : Bytes) (b : Bool) → b ≡ is_some (find own low) → b ≡ true → Passes own notes notes next next distance near (low ∷ [])
  passes_own notes next low b is h = unchanged notes next low (inl (has_by own low b is h))

-- ---- what a word needs

needs_nothing : (o : Option Note) (distance : ℕ) (near : Bytes) → need_of o distance near ≡ Nothing → (note : Note) × (o ≡ Some note) × ((note.distance < distance) ⊎ ((distance ≤ note.distance) × NotBehind note.near near))
needs_nothing None distance near h = absurd (cc)
needs_nothing (Some note) distance near h = go (nat_lt note.distance distance) refl (is_lt (slice_cmp nat_cmp near note.near)) refl h
  where
    go : (a : Bool) → nat_lt note.distance distance ≡ a → (b : Bool) → is_lt (slice_cmp nat_cmp near note.near) ≡ b → (if a then Nothing else if b then Better else Nothing) ≡ Nothing
        → (n : Note) × (Some note ≡ Some n) × ((n.distance < distance) ⊎ ((distance ≤ n.distance) × NotBehind n.near near))
    go true is b order h = (note, refl, inl (lower note.distance distance is))
    go false is true order h = absurd (cc)
    go false is false order h = (note, refl, inr (higher note.distance distance is, order_of near note.near order))

needs_better : (o : Option Note) (distance : ℕ) (near : Bytes) → need_of o distance near ≡ Better → (note : Note) × (o ≡ Some note) × (distance ≤ note.distance) × IsBefore near note.near
needs_better None distance near h = absurd (cc)
needs_better (Some note) distance near h = go (nat_lt note.distance distance) refl (is_lt (slice_cmp nat_cmp near note.near)) refl h
  where
    go : (a : Bool) → nat_lt note.distance distance ≡ a → (b : Bool) → is_lt (slice_cmp nat_cmp near note.near) ≡ b → (if a then Nothing else if b then Better else Nothing) ≡ Better
        → (n : Note) × (Some note ≡ Some n) × (distance ≤ n.distance) × IsBefore near n.near
    go true is b order h = absurd (cc)
    go false is true order h = (note, refl, higher note.distance distance is, is_less (slice_cmp nat_cmp near note.near) order)
    go false is false order h = absurd (cc)

needs_first : (o : Option Note) (distance : ℕ) (near : Bytes) → need_of o distance near ≡ First → o ≡ None
needs_first None distance near h = refl
needs_first (Some note) distance near h = go (nat_lt note.distance distance) (is_lt (slice_cmp nat_cmp near note.near)) h
  where
    go : (a b : Bool) → (if a then Nothing else if b then Better else Nothing) ≡ First → Some note ≡ None
    go true b h = absurd (cc)
    go false true h = absurd (cc)
    go false false h = absurd (cc)

pub passes_nothing : {V S : Type 0} (own : HashMap Key V S) (distance : ℕ) (near : Bytes) (notes : HashMap Key Note S) (next : List Bytes) (low : Bytes) → Nothing ≡ need_of (find notes low) distance near → Passes own notes notes next next distance near (low ∷ [])
passes_nothing own distance near notes next low h = λ lows start has some leads are.
    let found = needs_nothing (find notes low) distance near (sym h) in
    settled_one own distance near lows start notes notes next low are (λ d n w k. k) (inr (found.0, found.1, case found.0 (are.within low found.0 found.1) found.2))
  where
    case : (note : Note) → note.distance ≤ distance → ((note.distance < distance) ⊎ ((distance ≤ note.distance) × NotBehind note.near near)) → IsNoFarther note distance near
    case note le (inl lt) = inl lt
    case note le (inr far) = let ge : distance ≤ note.distance = far.0 in inr (omega (arith, le, ge), far.1)

-- the note is set
module _ {V S : Type 0} (own : HashMap Key V S) (distance : ℕ) (near : Bytes) (old new : HashMap Key Note S) (low : Bytes) (set : IsSet old new low (as_note distance near)) (apart : Has own low → ⊥) where
  noted : (lows : Bytes → List Bytes) (start : HashMap Key Note S) (next longer : List Bytes) → Has own near → 0 < distance → Leads lows distance low near → AreNotes lows own start old next distance
      → ((note : Note) → find old low ≡ Some note → (note.distance ≡ distance) × NotBehind near note.near) → Among longer low → ((word : Bytes) → Among next word → Among longer word) → ((word : Bytes) → Among longer word → Among next word ⊎ (word ≡ low))
      → find start low ≡ None → IsPassed lows own start old new longer distance near (low ∷ [])
  noted lows start next longer has some leads are known there grown only fresh = settled_one own distance near lows start old new longer low notes stays (inr (as_note distance near, here, inr (refl, inl refl)))
    where
      here : find new low ≡ Some (as_note distance near)
      here = set_here old new low (as_note distance near) set

      is_right : IsRight lows own low (as_note distance near)
      is_right = record { without = apart; has = has; some = some; leads = leads }

      decide : (word : Bytes) → (word ≡ low) ⊎ (word ≡ low → ⊥)
      decide word = go (bytes_eq word low) refl
        where
          go : (b : Bool) → bytes_eq word low ≡ b → (word ≡ low) ⊎ (word ≡ low → ⊥)
          go true e = inl (same_word word low e)
          go false e = inr (λ same. true_false (bytes_eq word low) (word_same word low same) e)

      exact : (word : Bytes) → ((word ≡ low) ⊎ (word ≡ low → ⊥)) → Among longer word → (Among next word ⊎ (word ≡ low)) → (note : Note) × (find new word ≡ Some note) × (note.distance ≡ distance)
      exact word (inl same) h part = (as_note distance near, subst (λ (w : Bytes). find new w ≡ Some (as_note distance near)) (sym same) here, refl)
      exact word (inr other) h (inr same) = absurd (other same)
      exact word (inr other) h (inl k) = let e = are.exact word k in (e.0, set_there old new low (as_note distance near) set word other ∙ e.1, e.2)

      notes : AreNotes lows own start new longer distance
      notes = record {
        right = λ word note e. right word note (set_cases old new low (as_note distance near) set word note e);
        within = λ word note e. within word note (set_cases old new low (as_note distance near) set word note e);
        older = are.older;
        listed = λ word note e. listed word note (set_cases old new low (as_note distance near) set word note e);
        exact = λ word h. exact word (decide word) h (only word h);
        fresh = λ word h. is_fresh word (only word h);
        kept = λ word note e. set_there old new low (as_note distance near) set word (λ same. absurd (has_none_now word note e same)) ∙ are.kept word note e;
      }
        where
          right : (word : Bytes) (note : Note) → (((word ≡ low) × (note ≡ as_note distance near)) ⊎ ((word ≡ low → ⊥) × (find old word ≡ Some note))) → IsRight lows own word note
          right word note (inl e) = subst (λ (n : Note). IsRight lows own word n) (sym e.1) (subst (λ (w : Bytes). IsRight lows own w (as_note distance near)) (sym e.0) is_right)
          right word note (inr e) = are.right word note e.1

          within : (word : Bytes) (note : Note) → (((word ≡ low) × (note ≡ as_note distance near)) ⊎ ((word ≡ low → ⊥) × (find old word ≡ Some note))) → note.distance ≤ distance
          within word note (inl e) = let d : note.distance ≡ distance = ap (λ (n : Note). n.distance) e.1 in omega (arith, d)
          within word note (inr e) = are.within word note e.1

          listed : (word : Bytes) (note : Note) → (((word ≡ low) × (note ≡ as_note distance near)) ⊎ ((word ≡ low → ⊥) × (find old word ≡ Some note))) → (find start word ≡ Some note) ⊎ Among longer word
          listed word note (inl e) = inr (subst (Among longer) (sym e.0) there)
          listed word note (inr e) = still (are.listed word note e.1)
            where
              still : ((find start word ≡ Some note) ⊎ Among next word) → (find start word ≡ Some note) ⊎ Among longer word
              still (inl k) = inl k
              still (inr k) = inr (grown word k)

          is_fresh : (word : Bytes) → (Among next word ⊎ (word ≡ low)) → find start word ≡ None
          is_fresh word (inl h) = are.fresh word h
          is_fresh word (inr same) = ap (find start) same ∙ fresh

          has_none_now : (word : Bytes) (note : Note) → find start word ≡ Some note → word ≡ low → ⊥
          has_none_now word note e same = let none : find start word ≡ None = ap (find start) same ∙ fresh in absurd (cc)

      stays : StaysSettled own old new
      stays d n w (inl k) = inl k
      stays d n w (inr k) = go (decide w)
        where
          closer : (note : Note) → ((note.distance ≡ distance) × NotBehind near note.near) → IsNoFarther note d n → IsNoFarther (as_note distance near) d n
          closer note is (inl lt) = let e : note.distance ≡ distance = is.0 in inl (omega (arith, lt, e))
          closer note is (inr h) = inr (sym is.0 ∙ h.0, not_behind near note.near n is.1 h.1)

          go : ((w ≡ low) ⊎ (w ≡ low → ⊥)) → IsSettled own new d n w
          go (inl same) = inr (as_note distance near, ap (find new) same ∙ here, closer k.0 (known k.0 (ap (find old) (sym same) ∙ k.1)) k.2)
          go (inr other) = inr (k.0, set_there old new low (as_note distance near) set w other ∙ k.1, k.2)

  pub passes_better : (next : List Bytes) → Better ≡ need_of (find old low) distance near → Passes own old new next next distance near (low ∷ [])
  passes_better next h = λ lows start has some leads are.
      let found = needs_better (find old low) distance near (sym h) in
      let d : found.0.distance ≡ distance = equal found.0.distance (are.within low found.0 found.1) found.2 in
      let there : Among next low = newer found.0 d (λ e. are.older low found.0 e) next (are.listed low found.0 found.1) in
      noted lows start next next has some leads.0 are (λ note e. same_note found.0 note (sym found.1 ∙ e) (d, inr found.3)) there (λ word k. k) (λ word k. inl k) (are.fresh low there)
    where
      equal : (n : ℕ) → n ≤ distance → distance ≤ n → n ≡ distance
      equal n le ge = omega (arith, le, ge)

      newer : {P : Type 0} (note : Note) → note.distance ≡ distance → (P → note.distance < distance) → (next : List Bytes) → (P ⊎ Among next low) → Among next low
      newer note d less next (inl k) = let lt : note.distance < distance = less k in absurd (omega (arith, d, lt))
      newer note d less next (inr k) = k

      same_note : (first second : Note) → Some first ≡ Some second → ((first.distance ≡ distance) × NotBehind near first.near) → (second.distance ≡ distance) × NotBehind near second.near
      same_note first second e h = let is : first ≡ second = cc in subst (λ (n : Note). (n.distance ≡ distance) × NotBehind near n.near) is h

  pub passes_first : (next longer : List Bytes) → First ≡ need_of (find old low) distance near → longer ≡ next ++ low ∷ [] → Passes own old new next longer distance near (low ∷ [])
  passes_first next longer h is = λ lows start has some leads are.
      let none : find old low ≡ None = needs_first (find old low) distance near (sym h) in
      subst (λ (ws : List Bytes). IsPassed lows own start old new ws distance near (low ∷ [])) (sym is)
      (noted lows start next (next ++ low ∷ []) has some leads.0 are (λ note e. absurd (no_note note none e)) (among_right next (low ∷ []) low (among_here [] low low refl)) (λ word k. among_left next (low ∷ []) word k) (λ word k. part word (among_split next (low ∷ []) word k))
      (fresh (find start low) refl (λ note e. no_note note none (are.kept low note e))))
    where
      no_note : (note : Note) → find old low ≡ None → find old low ≡ Some note → ⊥
      no_note note none e = absurd (cc)

      part : (word : Bytes) → (Among next word ⊎ Among (low ∷ []) word) → Among next word ⊎ (word ≡ low)
      part word (inl k) = inl k
      part word (inr k) = inr (among_one word low k)

      fresh : (o : Option Note) → o ≡ o → ((note : Note) → o ≡ Some note → ⊥) → o ≡ None
      fresh None e h = refl
      fresh (Some note) e h = absurd (h note refl)

-- ---- more words

pub passes_none : {V S : Type 0} (own : HashMap Key V S) (notes : HashMap Key Note S) (next : List Bytes) (distance : ℕ) (near : Bytes) → Passes own notes notes next next distance near []
passes_none own notes next distance near = λ lows start has some leads are. record { notes = are; stays = λ d n w k. k; settled = tt }

passes_append : {V S : Type 0} (own : HashMap Key V S) (old mid new : HashMap Key Note S) (first second third : List Bytes) (distance : ℕ) (near : Bytes) (xs ys : List Bytes) → Passes own old mid first second distance near xs → Passes own mid new second third distance near ys
    → Passes own old new first third distance near (xs ++ ys)
passes_append own old mid new first second third distance near xs ys f g = λ lows start has some leads are.
    let one = f lows start has some (each_left (λ low. Leads lows distance low near) xs ys leads) are in
    let two = g lows start has some (each_right (λ low. Leads lows distance low near) xs ys leads) one.notes in
    record {
      notes = two.notes;
      stays = λ d n w k. two.stays d n w (one.stays d n w k);
      settled = each_append (IsSettled own new distance near) xs ys (each_map (IsSettled own mid distance near) (IsSettled own new distance near) (λ w k. two.stays distance near w k) xs one.settled) two.settled;
    }

pub passes_more : {V S : Type 0} (own : HashMap Key V S) (old mid new : HashMap Key Note S) (first second third : List Bytes) (distance : ℕ) (near : Bytes) (words : List Bytes) (i : ℕ) (word : Bytes) → i < length words → word ≡ get_or words i word
    → Passes own old mid first second distance near (take i words) → Passes own mid new second third distance near (word ∷ []) → Passes own old new first third distance near (take (i + 1) words)
passes_more own old mid new first second third distance near words i word lt is f g =
    subst (Passes own old new first third distance near) (sym (take_more words i word lt ∙ ap (λ (w : Bytes). take i words ++ w ∷ []) (sym is))) (passes_append own old mid new first second third distance near (take i words) (word ∷ []) f g)

-- ---- as the code meets it

pub need_is : (o : Option Note) (note : Note) (distance : ℕ) (near text : Bytes) (b : Bool) → o ≡ Some note → distance ≤ note.distance → text ≡ note.near → is_lt (slice_cmp nat_cmp near text) ≡ b → (if b then Better else Nothing) ≡ need_of o distance near
need_is o note distance near text b is le same order =
    sym
    (ap (λ (o : Option Note). need_of o distance near) is ∙ ap (λ (a : Bool). if a then Nothing else if is_lt (slice_cmp nat_cmp near note.near) then Better else Nothing) (not_lower note.distance distance le)
    ∙ ap (λ (d : Bool). if d then Better else Nothing) (ap (λ (t : Bytes). is_lt (slice_cmp nat_cmp near t)) (sym same) ∙ order))
  where
    not_lower : (m n : ℕ) → n ≤ m → nat_lt m n ≡ false
    not_lower m n h = grind (arith, nat_tests)
