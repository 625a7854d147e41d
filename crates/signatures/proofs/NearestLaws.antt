-- The search ends, and where it ends the nearest words are noted.
use Rattle.std.proofs.Common.{◌≡◌, ℕ, suc, zero, ◌+◌, ◌<◌, ◌≤◌, ◌⊎◌, ◌||◌, ◌&&◌, List, [], ◌∷◌, length, Bool, true, false, if◌then◌else◌, refl, sym, ap, subst, ◌∙◌, arith, inl, inr}
use Rattle.std.specs.Prelude.{◌==◌, Option, Some, None, Contains, MatchOption, is_none}
use Rattle.std.specs.Map.{lookup}
use Rattle.std.proofs.lemmas.Bool.Decides.{nat_tests}
use Rattle.std.specs.HashMap.{HashMap}
use Rattle.std.specs.List.{list_any, cons_option}
use Rattle.std.specs.Str.{bytes_eq}
use Rattle.std.proofs.lemmas.Bool.{cases_order}
use Rattle.kif_tree.specs.Terms.{Bytes}
use Rattle.kif_tree.specs.Shape.{is_among}
use Rattle.kif_tree.specs.declared.place.Located.{Located}
use Rattle.sigma_base.specs.Lists.{Each, each_map}
use Rattle.taxonomy.specs.declared.told.ChainKind.{ChainKind}
use Rattle.taxonomy.specs.declared.told.ChainKind.TheVariants as kinds
use Rattle.taxonomy.specs.Chains.{Joins, IsChain, OfKind, Chain, IsDistance}
use Rattle.taxonomy.specs.Told.{Link, links, told_link}
use Rattle.signatures.specs.declared.nearest.Note.{Note}
use Rattle.signatures.specs.Forms.{low_of_relation, relation_of, relation_word}
use Rattle.signatures.specs.Layers.{Among, Leads, IsNoFarther, IsSettled, IsRight, AreNotes, BeginsLayers, NoteSettled, NotesPassed, PassesNotes, AreLayers, near_of, AreNearest}
use Rattle.signatures.specs.Lowers.{is_relation, lower_by, is_lower, lows_of, AreLowers}
use Rattle.signatures.specs.Nearest.{IsBefore, IsNearest, NoneReached}
use Rattle.signatures.specs.Search.{lacks_note, without_note, left_over}
use Rattle.signatures.specs.WordTables.{Key, find, Has}
use Rattle.signatures.proofs.LayerLaws.{no_farther}
use Rattle.signatures.proofs.WordLaws.{true_false, same_word, word_same, each_among, each_if_among, has_none}

-- ---- links and words below words

both : (a b : Bool) → (a && b) ≡ true → (a ≡ true) × (b ≡ true)
both true b h = (refl, h)
both false b h = absurd (cc)

relation_kind : (kind : ChainKind) → is_relation kind ≡ true → kind ≡ kinds.Relation
relation_kind kinds.Class h = absurd (cc)
relation_kind kinds.Instance h = absurd (cc)
relation_kind kinds.Relation h = refl

record TellsLower (ls : List Link) (low high : Bytes) : Type 0 where
  link : Link
  told : Contains ls link
  kind : link.kind ≡ kinds.Relation
  from : link.low ≡ low
  to : link.high ≡ high

by_link : (low high : Bytes) (link : Link) → lower_by low high (Some link) ≡ true → (link.kind ≡ kinds.Relation) × (link.low ≡ low) × (link.high ≡ high)
by_link low high link h =
    let one = both (is_relation link.kind) (bytes_eq high link.high && bytes_eq low link.low) h in
    let two = both (bytes_eq high link.high) (bytes_eq low link.low) one.1 in
    (relation_kind link.kind one.0, sym (same_word low link.low two.1), sym (same_word high link.high two.0))

link_of : (forms : List Located) (low high : Bytes) → list_any (is_lower low high) forms ≡ true → TellsLower (links forms) low high
link_of [] low high h = absurd (cc)
link_of (located ∷ forms) low high h = go (told_link located) (λ k. link_of forms low high k) h
  where
    go : (o : Option Link) → (list_any (is_lower low high) forms ≡ true → TellsLower (links forms) low high) → (lower_by low high o || list_any (is_lower low high) forms) ≡ true → TellsLower (cons_option o (links forms)) low high
    go None more h = more h
    go (Some link) more h = by_head (lower_by low high (Some link)) refl h
      where
        later : TellsLower (links forms) low high → TellsLower (link ∷ links forms) low high
        later t = record { link = t.link; told = (suc t.told.0, omega (arith, t.told.1), t.told.2); kind = t.kind; from = t.from; to = t.to }

        by_head : (b : Bool) → lower_by low high (Some link) ≡ b → (b || list_any (is_lower low high) forms) ≡ true → TellsLower (link ∷ links forms) low high
        by_head true e k = let is = by_link low high link e in record { link = link; told = (zero, omega arith, refl); kind = is.0; from = is.1; to = is.2 }
        by_head false e k = later (more k)

lower_of : (forms : List Located) (link : Link) → Contains (links forms) link → link.kind ≡ kinds.Relation → list_any (is_lower link.low link.high) forms ≡ true
lower_of [] link (n, lt, is) kind = absurd (omega (arith, lt))
lower_of (located ∷ forms) link told kind = go (told_link located) told (λ k. lower_of forms link k kind)
  where
    or_true : (b : Bool) → (b || true) ≡ true
    or_true true = refl
    or_true false = refl

    here : lower_by link.low link.high (Some link) ≡ true
    here = ap (λ (k : ChainKind). is_relation k && (bytes_eq link.high link.high && bytes_eq link.low link.low)) kind ∙ ap (λ b. b && bytes_eq link.low link.low) (word_same link.high link.high refl) ∙ word_same link.low link.low refl

    later : (b d : Bool) → d ≡ true → (b || d) ≡ true
    later b d e = ap (λ x. b || x) e ∙ or_true b

    go : (o : Option Link) → Contains (cons_option o (links forms)) link → (Contains (links forms) link → list_any (is_lower link.low link.high) forms ≡ true) → (lower_by link.low link.high o || list_any (is_lower link.low link.high) forms) ≡ true
    go None told more = more told
    go (Some first) (zero, lt, is) more = ap (λ (l : Link). lower_by link.low link.high (Some l) || list_any (is_lower link.low link.high) forms) is ∙ ap (λ b. b || list_any (is_lower link.low link.high) forms) here
    go (Some first) (suc n, lt, is) more = later (lower_by link.low link.high (Some first)) (list_any (is_lower link.low link.high) forms) (more (n, omega (arith, lt), is))

word_of_lower : (low high : Bytes) (located : Located) → is_lower low high located ≡ true → relation_word located ≡ Some low
word_of_lower low high located h = go (told_link located) h
  where
    go : (o : Option Link) → lower_by low high o ≡ true → relation_of o ≡ Some low
    go None h = absurd (cc)
    go (Some link) h = let is = by_link low high link h in ap (λ (k : ChainKind). low_of_relation k link.low) is.0 ∙ ap (λ (w : Bytes). Some w) is.1

-- ---- fewer words without a note

abbrev one_if : Bool → ℕ
one_if b = if b then 1 else 0

module _ {S : Type 0} (old new : HashMap Key Note S) (still : (word : Bytes) → find new word ≡ None → find old word ≡ None) where
  lacks_less : (o : Option Bytes) → (if lacks_note new o then 1 else 0) ≤ (if lacks_note old o then 1 else 0)
  lacks_less None = omega arith
  lacks_less (Some word) = go (find new word) refl (find old word) refl
    where
      go : (a : Option Note) → find new word ≡ a → (b : Option Note) → find old word ≡ b → (if is_none a then 1 else 0) ≤ (if is_none b then 1 else 0)
      go (Some note) e b f = omega arith
      go None e None f = omega arith
      go None e (Some note) f = let none : find old word ≡ None = still word e in absurd (cc)

  pub without_less : (forms : List Located) → without_note forms new ≤ without_note forms old
  without_less [] = omega arith
  without_less (located ∷ forms) = omega (arith, lacks_less (relation_word located), without_less forms)

  fewer : (forms : List Located) (low high : Bytes) → list_any (is_lower low high) forms ≡ true → find old low ≡ None → (note : Note) → find new low ≡ Some note → without_note forms new < without_note forms old
  fewer [] low high h none note some = absurd (cc)
  fewer (located ∷ forms) low high h none note some = go (is_lower low high located) refl h (λ k. fewer forms low high k none note some)
    where
      here : relation_word located ≡ Some low → (one_if (lacks_note new (relation_word located)) ≡ 0) × (one_if (lacks_note old (relation_word located)) ≡ 1)
      here is =
          (ap (λ (o : Option Bytes). one_if (lacks_note new o)) is ∙ ap (λ (o : Option Note). one_if (is_none o)) some, ap (λ (o : Option Bytes). one_if (lacks_note old o)) is ∙ ap (λ (o : Option Note). one_if (is_none o)) none)

      go : (b : Bool) → is_lower low high located ≡ b → (b || list_any (is_lower low high) forms) ≡ true → (list_any (is_lower low high) forms ≡ true → without_note forms new < without_note forms old)
          → without_note (located ∷ forms) new < without_note (located ∷ forms) old
      go true e h more = let two = here (word_of_lower low high located e) in omega (arith, two.0, two.1, without_less forms)
      go false e h more = omega (arith, lacks_less (relation_word located), more h)

pub without_all : {S : Type 0} (notes : HashMap Key Note S) (forms : List Located) → without_note forms notes ≤ length forms
without_all notes [] = omega arith
without_all notes (located ∷ forms) = omega (arith, one (lacks_note notes (relation_word located)), without_all notes forms)
  where
    one : (b : Bool) → (if b then 1 else 0) ≤ 1
    one true = omega arith
    one false = omega arith

-- ---- all layers so far

module _ {V S : Type 0} (forms : List Located) (lowers : HashMap Key (List Bytes) S) (own : HashMap Key V S) (are_lowers : AreLowers forms lowers) where
  -- a word that is noted for the first time is the lower one of a form
  first_noted : (old new : HashMap Key Note S) → ((word : Bytes) → find new word ≡ None → find old word ≡ None) → (word : Bytes) (note : Note) → find old word ≡ None → find new word ≡ Some note → IsRight (lows_of lowers) own word note
      → without_note forms new < without_note forms old
  first_noted old new still word note none some right = go note.distance right.some right.leads
    where
      go : (n : ℕ) → 0 < n → Leads (lows_of lowers) n word note.near → without_note forms new < without_note forms old
      go zero lt leads = absurd (omega (arith, lt))
      go (suc n) lt leads = fewer old new still forms word leads.high (sym (are_lowers word leads.high) ∙ leads.below) none note some

  less_left : (start notes : HashMap Key Note S) (next : List Bytes) (distance : ℕ) → AreNotes (lows_of lowers) own start notes next distance → left_over forms notes next ≤ without_note forms start
  less_left start notes next distance are = go next (λ word h. (are.exact word h, are.fresh word h))
    where
      still : (word : Bytes) → find notes word ≡ None → find start word ≡ None
      still word none = none_before (find start word) (λ note e. are.kept word note e)
        where
          none_before : (o : Option Note) → ((note : Note) → o ≡ Some note → find notes word ≡ Some note) → o ≡ None
          none_before None h = refl
          none_before (Some note) h = let e : find notes word ≡ Some note = h note refl in absurd (cc)

      go : (words : List Bytes) → ((word : Bytes) → Among words word → ((note : Note) × (find notes word ≡ Some note) × (note.distance ≡ distance)) × (find start word ≡ None)) → left_over forms notes words ≤ without_note forms start
      go [] h = without_less start notes still forms
      go (word ∷ words) h =
          let there = h word (ap (λ b. b || is_among words word) (word_same word word refl)) in
          let less = first_noted start notes still word there.0.0 there.1 there.0.1 (are.right word there.0.0 there.0.1) in
          omega (arith, less)

  pub left_at_first : (start notes : HashMap Key Note S) (next : List Bytes) → ((word : Bytes) → find start word ≡ None) → BeginsLayers (lows_of lowers) own start notes next → 1 + left_over forms notes next ≤ length forms + 1
  left_at_first start notes next empty begins = omega (arith, less_left start notes next 1 (begins empty).first, without_all start forms)

  pub layers_at_first : (start notes : HashMap Key Note S) (next : List Bytes) → ((word : Bytes) → find start word ≡ None) → BeginsLayers (lows_of lowers) own start notes next → AreLayers (lows_of lowers) own notes next 1
  layers_at_first start notes next empty begins = record {
    right = are.right;
    within = are.within;
    listed = λ word note e d. there word note (empty word) (are.listed word note e);
    exact = are.exact;
    begun = (begins empty).settled;
    passed = λ high note e lt. let some : 0 < note.distance = (are.right high note e).some in absurd (omega (arith, lt, some));
  }
    where
      are : AreNotes (lows_of lowers) own start notes next 1
      are = (begins empty).first

      there : (word : Bytes) (note : Note) → find start word ≡ None → ((find start word ≡ Some note) ⊎ Among next word) → Among next word
      there word note none (inl e) = absurd (cc)
      there word note none (inr h) = h

  module _ (old new : HashMap Key Note S) (layer words next : List Bytes) (distance : ℕ) (same : words ≡ layer) (layers : AreLayers (lows_of lowers) own old layer distance) (passes : PassesNotes (lows_of lowers) own old new [] next (distance + 1) words) where
    passed : NotesPassed (lows_of lowers) own old old new next (distance + 1) words
    passed = passes old (subst (Each (λ word. (note : Note) × (find old word ≡ Some note) × (distance + 1 ≡ note.distance + 1))) (sym same) (each_if_among (λ word. (note : Note) × (find old word ≡ Some note) × (distance + 1 ≡ note.distance + 1)) layer (λ word h. let e = layers.exact word h in (e.0, e.1, ap (λ n. n + 1) (sym e.2)))))
        (record {
          right = layers.right;
          within = λ word note e. let le : note.distance ≤ distance = layers.within word note e in omega (arith, le);
          older = λ word note e. let le : note.distance ≤ distance = layers.within word note e in omega (arith, le);
          listed = λ word note e. inl e;
          exact = λ word h. absurd (cc);
          fresh = λ word h. absurd (cc);
          kept = λ word note e. e;
        })

    pub left_after : (layer ≡ [] → ⊥) → left_over forms new next < left_over forms old layer
    left_after some = go layer some (less_left old new next (distance + 1) passed.notes)
      where
        go : (ws : List Bytes) → (ws ≡ [] → ⊥) → left_over forms new next ≤ without_note forms old → left_over forms new next < left_over forms old ws
        go [] some le = absurd (some refl)
        go (w ∷ ws) some le = omega (arith, le)

    pub layers_after : AreLayers (lows_of lowers) own new next (distance + 1)
    layers_after = record {
      right = passed.notes.right;
      within = passed.notes.within;
      listed = λ word note e d. newer word note d (passed.notes.listed word note e);
      exact = passed.notes.exact;
      begun = λ high has. each_map (IsSettled own old 1 high) (IsSettled own new 1 high) (λ w s. passed.stays 1 high w s) (lows_of lowers high) (layers.begun high has);
      passed = λ high note e lt. by_age high note e lt (passed.notes.listed high note e);
    }
      where
        newer : (word : Bytes) (note : Note) → note.distance ≡ distance + 1 → ((find old word ≡ Some note) ⊎ Among next word) → Among next word
        newer word note d (inl e) = let le : note.distance ≤ distance = layers.within word note e in absurd (omega (arith, le, d))
        newer word note d (inr h) = h

        by_age : (high : Bytes) (note : Note) → find new high ≡ Some note → note.distance < distance + 1 → ((find old high ≡ Some note) ⊎ Among next high) → NoteSettled (lows_of lowers) own new high note
        by_age high note e lt (inr h) = late (passed.notes.exact high h)
          where
            late : ((other : Note) × (find new high ≡ Some other) × (other.distance ≡ distance + 1)) → NoteSettled (lows_of lowers) own new high note
            late x = let equal : x.0 ≡ note = same_note x.0 note x.1 e in let d : note.distance ≡ distance + 1 = ap (λ (n : Note). n.distance) (sym equal) ∙ x.2 in absurd (omega (arith, lt, d))
              where
                same_note : (a b : Note) → find new high ≡ Some a → find new high ≡ Some b → a ≡ b
                same_note a b e f = cc
        by_age high note e lt (inl before) = by_order (cases_order note.distance distance)
          where
            at_last : note.distance ≡ distance → NoteSettled (lows_of lowers) own new high note
            at_last d = each_among (λ word. (note : Note) → find old word ≡ Some note → NoteSettled (lows_of lowers) own new word note) layer high (subst (Each (λ word. (note : Note) → find old word ≡ Some note → NoteSettled (lows_of lowers) own new word note)) same passed.settled) (layers.listed high note before d) note before

            earlier : note.distance < distance → NoteSettled (lows_of lowers) own new high note
            earlier less =
                each_map (IsSettled own old (note.distance + 1) note.near) (IsSettled own new (note.distance + 1) note.near) (λ w s. passed.stays (note.distance + 1) note.near w s) (lows_of lowers high) (layers.passed high note before less)

            by_order : ((note.distance ≡ distance) ⊎ ((note.distance < distance) ⊎ (distance < note.distance))) → NoteSettled (lows_of lowers) own new high note
            by_order (inl d) = at_last d
            by_order (inr (inl less)) = earlier less
            by_order (inr (inr more)) = absurd (omega (arith, lt, more))

  -- ---- no layer is left

  module _ (notes : HashMap Key Note S) (layer : List Bytes) (distance : ℕ) (none : layer ≡ []) (layers : AreLayers (lows_of lowers) own notes layer distance) where
    before : (word : Bytes) (note : Note) → find notes word ≡ Some note → note.distance < distance
    before word note e = by_order (layers.within word note e) (cases_order note.distance distance)
      where
        by_order : note.distance ≤ distance → ((note.distance ≡ distance) ⊎ ((note.distance < distance) ⊎ (distance < note.distance))) → note.distance < distance
        by_order le (inl d) = let h : Among [] word = subst (λ (ws : List Bytes). Among ws word) none (layers.listed word note e d) in absurd (cc)
        by_order le (inr (inl less)) = less
        by_order le (inr (inr more)) = absurd (omega (arith, le, more))

    weaker : (m n : ℕ) (first second word : Bytes) → IsSettled own notes m first word → (m < n) ⊎ ((m ≡ n) × ((first ≡ second) ⊎ IsBefore first second)) → IsSettled own notes n second word
    weaker m n first second word (inl has) h = inl has
    weaker m n first second word (inr s) h = inr (s.0, s.1, no_farther s.0 m n first second s.2 h)

    reached : (n : ℕ) (word near : Bytes) → Has own near → Leads (lows_of lowers) n word near → IsSettled own notes n near word
    reached zero word near has leads = inl (subst (Has own) (sym leads) has)
    reached (suc n) word near has leads = go n leads.from (reached n leads.high near has leads.from)
      where
        far : (n : ℕ) → Leads (lows_of lowers) n leads.high near → (1 < suc n) ⊎ ((1 ≡ suc n) × ((leads.high ≡ near) ⊎ IsBefore leads.high near))
        far zero from = inr (refl, inl from)
        far (suc n) from = inl (omega arith)

        next : (note : Note) (n : ℕ) → IsNoFarther note n near → (note.distance + 1 < suc n) ⊎ ((note.distance + 1 ≡ suc n) × ((note.near ≡ near) ⊎ IsBefore note.near near))
        next note n (inl lt) = inl (omega (arith, lt))
        next note n (inr h) = let e : note.distance ≡ n = h.0 in inr (omega (arith, e), h.1)

        go : (n : ℕ) → Leads (lows_of lowers) n leads.high near → IsSettled own notes n near leads.high → IsSettled own notes (suc n) near word
        go n from (inl own_high) = weaker 1 (suc n) leads.high near word (each_among (IsSettled own notes 1 leads.high) (lows_of lowers leads.high) word (layers.begun leads.high own_high) leads.below) (far n from)
        go n from (inr s) =
            weaker (s.0.distance + 1) (suc n) s.0.near near word
            (each_among (IsSettled own notes (s.0.distance + 1) s.0.near) (lows_of lowers leads.high) word (layers.passed leads.high s.0 s.1 (before leads.high s.0 s.1)) leads.below) (next s.0 n s.2)

    -- chains and steps
    leads_of : (low high : Bytes) (chain : List Link) → Each (λ (link : Link). Contains (links forms) link) chain → OfKind kinds.Relation chain → Joins chain low high → Leads (lows_of lowers) (length chain) low high
    leads_of low high [] told kind joins = joins
    leads_of low high (link ∷ chain) told kind joins = record {
      high = link.high;
      below = subst (λ (w : Bytes). Among (lows_of lowers link.high) w) joins.0 (are_lowers link.low link.high ∙ lower_of forms link told.0 kind.0);
      from = leads_of link.high high chain told.1 kind.1 joins.1;
    }

    of_chain : (low high : Bytes) (chain : Chain (links forms) kinds.Relation low high) → Leads (lows_of lowers) (length chain.chain) low high
    of_chain low high c = leads_of low high c.chain c.told (all c.chain c.is) c.joins
      where
        all : (chain : List Link) → IsChain kinds.Relation chain → OfKind kinds.Relation chain
        all [] is = absurd is
        all (link ∷ chain) is = is

    chain_of : (n : ℕ) (low high : Bytes) → Leads (lows_of lowers) n low high → (chain : List Link) × Each (λ (link : Link). Contains (links forms) link) chain × OfKind kinds.Relation chain × Joins chain low high × (length chain ≡ n)
    chain_of zero low high leads = ([], tt, tt, leads, refl)
    chain_of (suc n) low high leads =
        let first = link_of forms low leads.high (sym (are_lowers low leads.high) ∙ leads.below) in
        let rest = chain_of n leads.high high leads.from in
        (first.link ∷ rest.0, (first.told, rest.1), (first.kind, rest.2), (first.from, subst (λ (w : Bytes). Joins rest.0 w high) (sym first.to) rest.3), ap (λ k. suc k) rest.4)

    pub nearest_noted : AreNearest (links forms) own notes
    nearest_noted word without = go (find notes word) refl
      where
        no_own : Has own word → ⊥
        no_own = has_none own word without

        go : (o : Option Note) → find notes word ≡ o → MatchOption (near_of o) (NoneReached (links forms) (Has own) word) (IsNearest (links forms) (Has own) word)
        go None e = λ other has chain. not_settled (reached (length chain.chain) word other has (of_chain word other chain))
          where
            not_settled : {n : ℕ} {other : Bytes} → IsSettled own notes n other word → ⊥
            not_settled (inl has) = no_own has
            not_settled (inr s) = let f : find notes word ≡ Some s.0 = s.1 in absurd (cc)
        go (Some note) e = record {
          has = right.has;
          distance = note.distance;
          reached = record { shortest = shortest; long = made.4; least = λ other. least other };
          no_nearer = λ other n has d. no_nearer other n has d;
          first = λ other has d. first other has d;
        }
          where
            right : IsRight (lows_of lowers) own word note
            right = layers.right word note e

            nearer : (n : ℕ) (other : Bytes) → IsSettled own notes n other word → IsNoFarther note n other
            nearer n other (inl has) = absurd (no_own has)
            nearer n other (inr s) = let equal : s.0 ≡ note = same_note s.0 s.1 in subst (λ (m : Note). IsNoFarther m n other) equal s.2
              where
                same_note : (m : Note) → find notes word ≡ Some m → m ≡ note
                same_note m f = cc

            least_of : (n : ℕ) (other : Bytes) → IsNoFarther note n other → note.distance ≤ n
            least_of n other (inl lt) = omega (arith, lt)
            least_of n other (inr h) = let d : note.distance ≡ n = h.0 in omega (arith, d)

            by_chain : (other : Bytes) → Has own other → (c : Chain (links forms) kinds.Relation word other) → IsNoFarther note (length c.chain) other
            by_chain other has c = nearer (length c.chain) other (reached (length c.chain) word other has (of_chain word other c))

            least : (c : Chain (links forms) kinds.Relation word note.near) → note.distance ≤ length c.chain
            least c = least_of (length c.chain) note.near (by_chain note.near right.has c)

            at_distance : (other : Bytes) (n : ℕ) → Has own other → IsDistance (links forms) kinds.Relation word other n → IsNoFarther note n other
            at_distance other n has d = subst (λ k. IsNoFarther note k other) d.long (by_chain other has d.shortest)

            no_nearer : (other : Bytes) (n : ℕ) → Has own other → IsDistance (links forms) kinds.Relation word other n → note.distance ≤ n
            no_nearer other n has d = least_of n other (at_distance other n has d)

            first : (other : Bytes) → Has own other → IsDistance (links forms) kinds.Relation word other note.distance → (note.near ≡ other) ⊎ IsBefore note.near other
            first other has d = same_far (at_distance other note.distance has d)
              where
                same_far : IsNoFarther note note.distance other → (note.near ≡ other) ⊎ IsBefore note.near other
                same_far (inl lt) = absurd (omega (arith, lt))
                same_far (inr h) = h.1

            made : (chain : List Link) × Each (λ (link : Link). Contains (links forms) link) chain × OfKind kinds.Relation chain × Joins chain word note.near × (length chain ≡ note.distance)
            made = chain_of note.distance word note.near right.leads

            is_chain : (ls : List Link) → OfKind kinds.Relation ls → length ls ≡ note.distance → IsChain kinds.Relation ls
            is_chain [] kind long = let some : 0 < note.distance = right.some in absurd (omega (arith, long, some))
            is_chain (link ∷ ls) kind long = kind

            shortest : Chain (links forms) kinds.Relation word note.near
            shortest = record { chain = made.0; told = made.1; is = is_chain made.0 made.2 made.4; joins = made.3 }

-- ---- as the search meets them

pub nothing_noted : {S : Type 0} (notes : HashMap Key Note S) → notes.entries ≡ [] → (word : Bytes) → find notes word ≡ None
nothing_noted notes empty = λ word. ap (λ (es : List (Key × Note)). lookup (λ (key : Key). bytes_eq word key.items) es) empty

pub some_layer : (layer items : List Bytes) (b : Bool) → b ≡ (length items == 0) → b ≡ false → items ≡ layer → layer ≡ [] → ⊥
some_layer layer items b is h same e = let k : (length items == 0) ≡ true = ap (λ (ws : List Bytes). length ws == 0) (same ∙ e) in true_false (length items == 0) k (sym is ∙ h)

zero_of : (n : ℕ) → (n == 0) ≡ true → n ≡ 0
zero_of n h = grind (arith, nat_tests)

pub no_layer : (layer items : List Bytes) (b : Bool) → b ≡ (length items == 0) → b ≡ true → items ≡ layer → layer ≡ []
no_layer layer items b is h same = sym same ∙ go items (sym is ∙ h)
  where
    go : (items : List Bytes) → (length items == 0) ≡ true → items ≡ []
    go [] e = refl
    go (x ∷ xs) e = let k : length (x ∷ xs) ≡ 0 = zero_of (length (x ∷ xs)) e in absurd (omega (arith, k))
