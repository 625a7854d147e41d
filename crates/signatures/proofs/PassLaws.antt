-- Layers of notes: the first one, and those that follow.
use Rattle.std.proofs.Common.{◌≡◌, ℕ, suc, ◌+◌, ◌<◌, List, [], ◌∷◌, ◌++◌, length, get_or, take, refl, sym, ap, subst, ◌∙◌, arith, inl}
use Rattle.std.specs.Prelude.{Some, None}
use Rattle.std.specs.HashMap.{HashMap, keys}
use Rattle.std.proofs.lemmas.List.{take_more}
use Rattle.kif_tree.specs.Terms.{Bytes}
use Rattle.sigma_base.specs.Lists.{Each, each_append, each_left, each_right, each_map}
use Rattle.signatures.specs.declared.nearest.Note.{Note}
use Rattle.signatures.specs.Layers.{Leads, IsSettled, IsRight, AreNotes, Passes, OwnSettled, BeginsLayers, NoteSettled, NotesPassed, PassesNotes}
use Rattle.signatures.specs.WordTables.{Key, find, Has}
use Rattle.signatures.proofs.KeyLaws.{has_key, of_keys}
use Rattle.signatures.proofs.WordLaws.{each_if_among}

leads_more : (lows : Bytes → List Bytes) (n distance : ℕ) (word near : Bytes) → distance ≡ n + 1 → Leads lows n word near → Each (λ low. Leads lows distance low near) (lows word)
leads_more lows n distance word near is leads =
    let e : suc n ≡ distance = omega (arith, is) in
    each_if_among (λ low. Leads lows distance low near) (lows word) (λ low below. subst (λ (k : ℕ). Leads lows k low near) e (record { high = word; below = below; from = leads }))

-- ---- the first layer

abbrev pub KeysGone : {V S : Type 0} → (Bytes → List Bytes) → HashMap Key V S → HashMap Key Note S → HashMap Key Note S → List Bytes → List Key → Type 0
KeysGone lows own start notes next rest =
    ((word : Bytes) → find start word ≡ None) → (done : List Key) × (done ++ rest ≡ keys own) × AreNotes lows own start notes next 1 × Each (λ (key : Key). OwnSettled lows own notes key.items) done

module _ {V S : Type 0} (lows : Bytes → List Bytes) (own : HashMap Key V S) (start : HashMap Key Note S) where
  pub keys_none : (rest : List Key) → rest ≡ keys own → KeysGone lows own start start [] rest
  keys_none rest is = λ empty. (
    [],
    is,
    record {
      right = λ word note e. absurd (nothing word note (empty word) e);
      within = λ word note e. absurd (nothing word note (empty word) e);
      older = λ word note e. absurd (nothing word note (empty word) e);
      listed = λ word note e. inl e;
      exact = λ word h. absurd (cc);
      fresh = λ word h. empty word;
      kept = λ word note e. e;
    },
    tt,
  )
    where
      nothing : (word : Bytes) (note : Note) → find start word ≡ None → find start word ≡ Some note → ⊥
      nothing word note none e = absurd (cc)

  pub keys_more : (mid new : HashMap Key Note S) (next longer : List Bytes) (rest more : List Key) (key : Key) (word : Bytes) → rest ≡ key ∷ more → word ≡ key.items → KeysGone lows own start mid next rest
      → Passes own mid new next longer 1 word (lows word) → KeysGone lows own start new longer more
  keys_more mid new next longer rest more key word is same gone passes = λ empty.
      let g = gone empty in
      let whole : g.0 ++ key ∷ more ≡ keys own = ap (λ (ks : List Key). g.0 ++ ks) (sym is) ∙ g.1 in
      let passed = passes lows start (subst (Has own) (sym same) (has_key own g.0 more key whole)) (omega arith) (leads_more lows 0 1 word word refl refl) g.2 in (
        g.0 ++ key ∷ [],
        append_one g.0 key more ∙ whole,
        passed.notes,
        each_append (λ (k : Key). OwnSettled lows own new k.items) g.0 (key ∷ [])
            (each_map (λ (k : Key). OwnSettled lows own mid k.items) (λ (k : Key). OwnSettled lows own new k.items)
            (λ k h. each_map (IsSettled own mid 1 k.items) (IsSettled own new 1 k.items) (λ w s. passed.stays 1 k.items w s) (lows k.items) h) g.0 g.3)
            (subst (λ (w : Bytes). OwnSettled lows own new w) same passed.settled, tt),
      )
    where
      append_one : (ks : List Key) (key : Key) (more : List Key) → (ks ++ key ∷ []) ++ more ≡ ks ++ key ∷ more
      append_one [] key more = refl
      append_one (k ∷ ks) key more = ap (λ (xs : List Key). k ∷ xs) (append_one ks key more)

  pub keys_all : (notes : HashMap Key Note S) (next : List Bytes) (rest : List Key) → rest ≡ [] → KeysGone lows own start notes next rest → BeginsLayers lows own start notes next
  keys_all notes next rest is gone = λ empty.
      let g = gone empty in
      let whole : g.0 ≡ keys own = sym (append_none g.0) ∙ ap (λ (ks : List Key). g.0 ++ ks) (sym is) ∙ g.1 in
      record {
        first = g.2;
        settled = λ high has. of_keys (OwnSettled lows own notes) own high has (subst (Each (λ (key : Key). OwnSettled lows own notes key.items)) whole g.3);
      }
    where
      append_none : (ks : List Key) → ks ++ [] ≡ ks
      append_none [] = refl
      append_none (k ∷ ks) = ap (λ (xs : List Key). k ∷ xs) (append_none ks)

-- ---- what is noted is passed on

module _ {V S : Type 0} (lows : Bytes → List Bytes) (own : HashMap Key V S) where
  pub note_missing : (notes : HashMap Key Note S) (next : List Bytes) (distance : ℕ) (word : Bytes) → find notes word ≡ None → PassesNotes lows own notes notes next next distance (word ∷ [])
  note_missing notes next distance word none = λ start noted are. absurd (no_way noted.0.0 (are.kept word noted.0.0 noted.0.1))
    where
      no_way : (note : Note) → find notes word ≡ Some note → ⊥
      no_way note e = absurd (cc)

  pub note_passed : (old new : HashMap Key Note S) (next longer : List Bytes) (distance : ℕ) (word near : Bytes) (note : Note) → find old word ≡ Some note → near ≡ note.near → Passes own old new next longer distance near (lows word)
      → PassesNotes lows own old new next longer distance (word ∷ [])
  note_passed old new next longer distance word near note is same passes = λ start noted are. go start noted.0.0 noted.0.1 noted.0.2 are
    where
      go : (start : HashMap Key Note S) (other : Note) → find start word ≡ Some other → distance ≡ other.distance + 1 → AreNotes lows own start old next distance → NotesPassed lows own start old new longer distance (word ∷ [])
      go start other e d are =
          let there : find old word ≡ Some other = are.kept word other e in
          let equal : note ≡ other = cc in
          let far : distance ≡ note.distance + 1 = d ∙ ap (λ (n : Note). n.distance + 1) (sym equal) in
          let right : IsRight lows own word note = are.right word note is in
          let passed = passes lows start (subst (Has own) (sym same) right.has) (omega (arith, far)) (leads_more lows note.distance distance word near far (subst (Leads lows note.distance word) (sym same) right.leads)) are in
          record {
            notes = passed.notes;
            stays = passed.stays;
            settled = (λ n h. settled n (noted_same n h e equal) passed.settled far, tt);
          }
        where
          noted_same : (n : Note) → find start word ≡ Some n → find start word ≡ Some other → note ≡ other → note ≡ n
          noted_same n h e equal = cc

          settled : (n : Note) → note ≡ n → Each (IsSettled own new distance near) (lows word) → distance ≡ note.distance + 1 → NoteSettled lows own new word n
          settled n is each far = subst (λ (m : Note). NoteSettled lows own new word m) is (subst (λ (k : ℕ). Each (IsSettled own new k note.near) (lows word)) far (subst (λ (w : Bytes). Each (IsSettled own new distance w) (lows word)) same each))

  pub notes_none : (notes : HashMap Key Note S) (next : List Bytes) (distance : ℕ) → PassesNotes lows own notes notes next next distance []
  notes_none notes next distance = λ start noted are. record { notes = are; stays = λ d n w k. k; settled = tt }

  notes_append : (old mid new : HashMap Key Note S) (first second third : List Bytes) (distance : ℕ) (xs ys : List Bytes) → PassesNotes lows own old mid first second distance xs → PassesNotes lows own mid new second third distance ys
      → PassesNotes lows own old new first third distance (xs ++ ys)
  notes_append old mid new first second third distance xs ys f g = λ start noted are.
      let one = f start (each_left (λ word. (note : Note) × (find start word ≡ Some note) × (distance ≡ note.distance + 1)) xs ys noted) are in
      let two = g start (each_right (λ word. (note : Note) × (find start word ≡ Some note) × (distance ≡ note.distance + 1)) xs ys noted) one.notes in
      record {
        notes = two.notes;
        stays = λ d n w k. two.stays d n w (one.stays d n w k);
        settled = each_append (λ word. (note : Note) → find start word ≡ Some note → NoteSettled lows own new word note) xs ys
            (each_map (λ word. (note : Note) → find start word ≡ Some note → NoteSettled lows own mid word note) (λ word. (note : Note) → find start word ≡ Some note → NoteSettled lows own new word note)
            (λ word h note e. each_map (IsSettled own mid (note.distance + 1) note.near) (IsSettled own new (note.distance + 1) note.near) (λ w s. two.stays (note.distance + 1) note.near w s) (lows word) (h note e)) xs one.settled) two.settled;
      }

  pub notes_more : (old mid new : HashMap Key Note S) (first second third : List Bytes) (distance : ℕ) (words : List Bytes) (i : ℕ) (word text : Bytes) → i < length words → word ≡ get_or words i word → text ≡ word
      → PassesNotes lows own old mid first second distance (take i words) → PassesNotes lows own mid new second third distance (text ∷ []) → PassesNotes lows own old new first third distance (take (i + 1) words)
  notes_more old mid new first second third distance words i word text lt is same f g =
      subst (PassesNotes lows own old new first third distance) (sym (take_more words i word lt ∙ ap (λ (w : Bytes). take i words ++ w ∷ []) (sym is)))
      (notes_append old mid new first second third distance (take i words) (word ∷ []) f (subst (λ (w : Bytes). PassesNotes lows own mid new second third distance (w ∷ [])) same g))
