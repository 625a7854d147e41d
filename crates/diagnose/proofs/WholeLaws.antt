-- All diagnostics of forms, form by form.
use Rattle.std.proofs.Common.{◌≡◌, ℕ, ◌+◌, ◌<◌, ◌⊎◌, ◌↔◌, ◌||◌, ◌&&◌, not, zero, suc, List, [], ◌∷◌, ◌++◌, length, get_or, take, drop, Bool, true, false, refl, sym, ap, subst, ◌∙◌, inl, inr, arith}
use Rattle.std.specs.Prelude.{Option, None, Contains}
use Rattle.std.specs.List.{list_any}
use Rattle.std.proofs.lemmas.List.Elements.{Contains-append_left, Contains-append_right, Contains-append_cases}
use Rattle.std.proofs.lemmas.List.{take-append-drop, take_more}
use Rattle.sigma_base.specs.Lists.{Each, each_append}
use Rattle.kif_tree.specs.declared.form.Form.{Form}
use Rattle.kif_tree.specs.declared.place.Located.{Located}
use Rattle.kif_tree.specs.declared.place.Place.{Place}
use Rattle.kif_tree.specs.Terms.{Bytes}
use Rattle.kif_tree.specs.Places.{PlacesDiffer}
use Rattle.kif_tree.specs.Shape.{has_word}
use Rattle.taxonomy.proofs.ChainLaws.{contains_head, contains_tail}
use Rattle.signatures.specs.Relations.{is_shown, is_snapshot_word}
use Rattle.diagnose.specs.declared.diagnostic.Diagnostic.{Diagnostic}
use Rattle.diagnose.specs.Found.{Adds}
use Rattle.diagnose.specs.Diagnostics.{IsOfWord, IsOfArguments, IsOfVariables, IsOfForm, IsDiagnostic, StandsBefore, ComesBefore, AreAscending, AreDiagnostics}
use Rattle.diagnose.specs.Order.{IsFormPlace, AreKnown, Appends}
use Rattle.diagnose.specs.SoFar.{IsAt, HasPlace, AreSoFar}
use Rattle.diagnose.specs.WordTables.{AreSeen}
use Rattle.diagnose.proofs.StandLaws.{one_at_place, middle, IsOn, first_is_on}
use Rattle.diagnose.proofs.PlaceLaws.{parent_is_on, disjoint_known, type_known}

-- ---- what is found at one form

pub found_all : (P Q R : Diagnostic → Type 0) (none one two three : List Diagnostic) → none ≡ [] → Adds P none one → Adds Q one two → Adds R two three → (d : Diagnostic) → Contains three d ↔ (P d ⊎ (Q d ⊎ R d))
found_all P Q R none one two three empty p q r d = (there, back)
  where
    nothing : Contains none d → ⊥
    nothing h = let (k, lt, is) = subst (λ (ds : List Diagnostic). Contains ds d) empty h in omega (arith, lt)

    from_one : (Contains none d ⊎ P d) → P d ⊎ (Q d ⊎ R d)
    from_one (inl h) = absurd (nothing h)
    from_one (inr h) = inl h

    from_two : (Contains one d ⊎ Q d) → P d ⊎ (Q d ⊎ R d)
    from_two (inl h) = from_one (p.only d h)
    from_two (inr h) = inr (inl h)

    from_three : (Contains two d ⊎ R d) → P d ⊎ (Q d ⊎ R d)
    from_three (inl h) = from_two (q.only d h)
    from_three (inr h) = inr (inr h)

    there : Contains three d → P d ⊎ (Q d ⊎ R d)
    there h = from_three (r.only d h)

    back : (P d ⊎ (Q d ⊎ R d)) → Contains three d
    back (inl h) = r.kept d (q.kept d (p.added d h))
    back (inr (inl h)) = r.kept d (q.added d h)
    back (inr (inr h)) = r.added d h

pub grouped : (A P Q R : Type 0) → ((A × P) ⊎ ((A × Q) ⊎ (A × R))) ↔ (A × (P ⊎ (Q ⊎ R)))
grouped A P Q R = (there, back)
  where
    there : ((A × P) ⊎ ((A × Q) ⊎ (A × R))) → A × (P ⊎ (Q ⊎ R))
    there (inl (a, p)) = (a, inl p)
    there (inr (inl (a, q))) = (a, inr (inl q))
    there (inr (inr (a, r))) = (a, inr (inr r))

    back : (A × (P ⊎ (Q ⊎ R))) → (A × P) ⊎ ((A × Q) ⊎ (A × R))
    back (a, inl p) = inl (a, p)
    back (a, inr (inl q)) = inr (inl (a, q))
    back (a, inr (inr r)) = inr (inr (a, r))

pub found_here : (forms : List Located) (located : Located) (none one two three : List Diagnostic) → none ≡ [] → Adds (λ d. (d.place ≡ located.place) × IsOfWord forms d) none one
    → Adds (λ d. (d.place ≡ located.place) × IsOfArguments forms located.form d) one two → Adds (λ d. (d.place ≡ located.place) × IsOfVariables located.form d) two three
    → (d : Diagnostic) → Contains three d ↔ IsAt forms located d
found_here forms located none one two three empty p q r d =
    let all = found_all (λ d. (d.place ≡ located.place) × IsOfWord forms d) (λ d. (d.place ≡ located.place) × IsOfArguments forms located.form d) (λ d. (d.place ≡ located.place) × IsOfVariables located.form d) none one two three empty p q r d in
    let group = grouped (d.place ≡ located.place) (IsOfWord forms d) (IsOfArguments forms located.form d) (IsOfVariables located.form d) in
    (λ h. group.0 (all.0 h), λ h. all.1 (group.1 h))

-- ---- where diagnostics stand, and what they name

pub is_on : (forms : List Located) (d : Diagnostic) → IsDiagnostic forms d → IsOn forms d.place
is_on forms d (inl (inl (e, h))) = first_is_on forms d.term d.place h.first
is_on forms d (inl (inr (inl (e, h)))) = first_is_on forms d.term d.place h.first
is_on forms d (inl (inr (inr (inl (e, h))))) = subst (IsOn forms) (sym h.at) (parent_is_on forms d.term h.told h.more h.has_parent)
is_on forms d (inl (inr (inr (inr (e, h))))) = first_is_on forms d.term d.place h.first
is_on forms d (inr h) = record { located = record { form = h.f; place = d.place }; among = h.among; at = refl; not_shown = h.not_shown }

none_known : (forms : List Located) (other : Option Place) → other ≡ None → IsFormPlace forms other
none_known forms other e = subst (IsFormPlace forms) (sym e) tt

pub names_form : (forms : List Located) (located : Located) (d : Diagnostic) → IsAt forms located d → IsFormPlace forms d.other
names_form forms located d (at, inl (inl (e, h))) = none_known forms d.other h.alone
names_form forms located d (at, inl (inr (inl (e, h)))) = none_known forms d.other h.alone
names_form forms located d (at, inl (inr (inr (inl (e, h))))) = subst (IsFormPlace forms) (sym h.names) (disjoint_known forms d.term d.term h.by h.disjoint)
names_form forms located d (at, inl (inr (inr (inr (e, h))))) = none_known forms d.other h.alone
names_form forms located d (at, inr (inl (inl (e, h)))) = subst (IsFormPlace forms) (sym h.names) (type_known forms h.head (length h.before + 1) h.types h.type h.are_types h.among)
names_form forms located d (at, inr (inl (inr (e, h)))) = none_known forms d.other h.alone
names_form forms located d (at, inr (inr (inl (e, h)))) = none_known forms d.other h.alone
names_form forms located d (at, inr (inr (inr (e, h)))) = none_known forms d.other h.alone

-- at the place of a form that isn't only shown stand its diagnostics
pub at_form : (forms : List Located) (located : Located) (d : Diagnostic) → PlacesDiffer forms → Contains forms located → IsDiagnostic forms d → d.place ≡ located.place → IsAt forms located d
at_form forms located d differ among (inl w) at = (at, inl w)
at_form forms located d differ among (inr h) at =
    let same = one_at_place forms (record { form = h.f; place = d.place }) located differ h.among among at in
    (at, inr (subst (λ (f : Form). IsOfForm forms f d) (ap (λ (l : Located). l.form) same) h.of_form))

pub of_form : (forms : List Located) (located : Located) (d : Diagnostic) → Contains forms located → is_shown located.form ≡ false → IsAt forms located d → IsDiagnostic forms d
of_form forms located d among shown (at, inl w) = inl w
of_form forms located d among shown (at, inr h) = inr (record {
  f = located.form;
  among = subst (λ (p : Place). Contains forms (record { form = located.form; place = p })) (sym at) among;
  not_shown = shown;
  of_form = h;
})

pub no_shown : (forms : List Located) (located : Located) (d : Diagnostic) → PlacesDiffer forms → Contains forms located → is_shown located.form ≡ true → IsDiagnostic forms d → d.place ≡ located.place → ⊥
no_shown forms located d differ among shown diag at =
    let on = is_on forms d diag in
    let same = one_at_place forms on.located located differ on.among among (on.at ∙ at) in
    let no_way : true ≡ false = sym shown ∙ sym (ap (λ (l : Located). is_shown l.form) same) ∙ on.not_shown in absurd (cc)

-- ---- one form more

list_any_push : {X : Type 0} (p : X → Bool) (xs : List X) (x : X) → list_any p (xs ++ x ∷ []) ≡ (list_any p xs || p x)
list_any_push p [] x = go (p x)
  where
    go : (b : Bool) → (b || false) ≡ b
    go true = refl
    go false = refl
list_any_push p (y ∷ xs) x = ap (λ b. p y || b) (list_any_push p xs x) ∙ go (p y) (list_any p xs) (p x)
  where
    go : (a b c : Bool) → (a || (b || c)) ≡ ((a || b) || c)
    go true b c = refl
    go false b c = refl

seen_shown : (before : List Located) (located : Located) (seen : List Bytes) → is_shown located.form ≡ true → AreSeen before seen → AreSeen (before ++ located ∷ []) seen
seen_shown before located seen shown h = λ word. (λ k. same word ∙ (h word).0 k, λ k. (h word).1 (sym (same word) ∙ k))
  where
    or_false : (b : Bool) → (b || false) ≡ b
    or_false true = refl
    or_false false = refl

    same : (word : Bytes) → is_snapshot_word (before ++ located ∷ []) word ≡ is_snapshot_word before word
    same word =
        list_any_push (λ (l : Located). not (is_shown l.form) && has_word word l.form) before located
        ∙ ap (λ b. is_snapshot_word before word || (not b && has_word word located.form)) shown ∙ or_false (is_snapshot_word before word)

pub place_before : (before : List Located) (located : Located) (place : Place) → HasPlace before place → HasPlace (before ++ located ∷ []) place
place_before before located place h = record { located = h.located; among = Contains-append_left before (located ∷ []) h.located h.among; at = h.at }

pub place_last : (before : List Located) (located : Located) (place : Place) → place ≡ located.place → HasPlace (before ++ located ∷ []) place
place_last before located place e = record { located = located; among = Contains-append_right before (located ∷ []) located (contains_head located []); at = sym e }

which_place : (before : List Located) (located : Located) (place : Place) → HasPlace (before ++ located ∷ []) place → HasPlace before place ⊎ (place ≡ located.place)
which_place before located place h = go (Contains-append_cases before (located ∷ []) h.located h.among)
  where
    go : (Contains before h.located ⊎ Contains (located ∷ []) h.located) → HasPlace before place ⊎ (place ≡ located.place)
    go (inl k) = inl (record { located = h.located; among = k; at = h.at })
    go (inr (zero, lt, is)) = inr (sym h.at ∙ ap (λ (l : Located). l.place) (sym is))
    go (inr (suc k, lt, is)) = absurd (omega (arith, lt))

pub shown_form : (forms before : List Located) (located : Located) (after : List Located) (seen : List Bytes) (list : List Diagnostic) → forms ≡ before ++ located ∷ after → PlacesDiffer forms → is_shown located.form ≡ true
    → AreSoFar forms before seen list → AreSoFar forms (before ++ located ∷ []) seen list
shown_form forms before located after seen list stand differ shown so_far = record {
  words = seen_shown before located seen shown so_far.words;
  ascending = so_far.ascending;
  exactly = λ d. (λ h. let k = (so_far.exactly d).0 h in (k.0, place_before before located d.place k.1), λ h. back d h.0 (which_place before located d.place h.1));
}
  where
    back : (d : Diagnostic) → IsDiagnostic forms d → (HasPlace before d.place ⊎ (d.place ≡ located.place)) → Contains list d
    back d diag (inl k) = (so_far.exactly d).1 (diag, k)
    back d diag (inr e) = absurd (no_shown forms located d differ (subst (λ (ls : List Located). Contains ls located) (sym stand) (middle before located after)) shown diag e)

pub record Parts (before : List Located) (one : Located) : Type 0 where
  pub first : List Located
  pub rest : List Located
  pub are : before ≡ first ++ one ∷ rest

pub parts_at : (before : List Located) (one : Located) → Contains before one → Parts before one
parts_at [] one (k, lt, is) = absurd (omega (arith, lt))
parts_at (x ∷ before) one (zero, lt, is) = record { first = []; rest = before; are = ap (λ (l : Located). l ∷ before) is }
parts_at (x ∷ before) one (suc k, lt, is) = let p = parts_at before one (k, omega (arith, lt), is) in record { first = x ∷ p.first; rest = p.rest; are = ap (λ (ls : List Located). x ∷ ls) p.are }

append_again : {X : Type 0} (xs ys zs : List X) → (xs ++ ys) ++ zs ≡ xs ++ (ys ++ zs)
append_again [] ys zs = refl
append_again (x ∷ xs) ys zs = ap (λ ws. x ∷ ws) (append_again xs ys zs)

pub earlier : (forms before : List Located) (located : Located) (after : List Located) (place : Place) → forms ≡ before ++ located ∷ after → HasPlace before place → StandsBefore forms place located.place
earlier forms before located after place stand h =
    let p = parts_at before h.located h.among in
    subst (λ (q : Place). StandsBefore forms q located.place) h.at (record {
      before = p.first;
      one = h.located.form;
      between = p.rest;
      other = located.form;
      after = after;
      stand = stand ∙ ap (λ (ls : List Located). ls ++ located ∷ after) p.are ∙ append_again p.first (h.located ∷ p.rest) (located ∷ after);
    })

pub ascending_append : (forms : List Located) (xs ys : List Diagnostic) → AreAscending forms xs → AreAscending forms ys → Each (λ (x : Diagnostic). Each (ComesBefore forms x) ys) xs → AreAscending forms (xs ++ ys)
ascending_append forms [] ys a b c = b
ascending_append forms (x ∷ xs) ys a b c = (each_append (ComesBefore forms x) xs ys a.0 c.0, ascending_append forms xs ys a.1 b c.1)

pub each_of : {X : Type 0} (P : X → Type 0) (xs : List X) → ((x : X) → Contains xs x → P x) → Each P xs
each_of P [] h = tt
each_of P (x ∷ xs) h = (h x (contains_head x xs), each_of P xs (λ y k. h y (contains_tail x xs y k)))

pub more_known : (forms : List Located) (located : Located) (found : List Diagnostic) → ((d : Diagnostic) → Contains found d ↔ IsAt forms located d) → AreKnown forms located.place found
more_known forms located found are = each_of (λ (d : Diagnostic). (d.place ≡ located.place) × IsFormPlace forms d.other) found (λ d h. let at = (are d).0 h in (at.0, names_form forms located d at))

pub one_more : (forms before : List Located) (located : Located) (after : List Located) (old new : List Bytes) (found list longer : List Diagnostic) → forms ≡ before ++ located ∷ after → PlacesDiffer forms → is_shown located.form ≡ false
    → AreSoFar forms before old list → AreSeen (before ++ located ∷ []) new → ((d : Diagnostic) → Contains found d ↔ IsAt forms located d) → Appends forms found list longer → AreSoFar forms (before ++ located ∷ []) new longer
one_more forms before located after old new found list longer stand differ shown so_far words are appended = record {
  words = words;
  ascending =
      subst (AreAscending forms) (sym appended.is)
      (ascending_append forms list appended.sorted so_far.ascending appended.ascending
      (each_of (λ (x : Diagnostic). Each (ComesBefore forms x) appended.sorted) list (λ x h. each_of (ComesBefore forms x) appended.sorted (λ y k.
      inl (subst (StandsBefore forms x.place) (sym ((are y).0 ((appended.same y).0 k)).0) (earlier forms before located after x.place stand ((so_far.exactly x).0 h).1))))));
  exactly = λ d. (λ h. there d (Contains-append_cases list appended.sorted d (subst (λ (ds : List Diagnostic). Contains ds d) appended.is h)), λ h. subst (λ (ds : List Diagnostic). Contains ds d) (sym appended.is) (back d h.0 (which_place before located d.place h.1)));
}
  where
    there : (d : Diagnostic) → (Contains list d ⊎ Contains appended.sorted d) → IsDiagnostic forms d × HasPlace (before ++ located ∷ []) d.place
    there d (inl h) = let k = (so_far.exactly d).0 h in (k.0, place_before before located d.place k.1)
    there d (inr h) = let at = (are d).0 ((appended.same d).0 h) in (of_form forms located d (subst (λ (ls : List Located). Contains ls located) (sym stand) (middle before located after)) shown at, place_last before located d.place at.0)

    back : (d : Diagnostic) → IsDiagnostic forms d → (HasPlace before d.place ⊎ (d.place ≡ located.place)) → Contains (list ++ appended.sorted) d
    back d diag (inl k) = Contains-append_left list appended.sorted d ((so_far.exactly d).1 (diag, k))
    back d diag (inr e) = Contains-append_right list appended.sorted d ((appended.same d).1 ((are d).1 (at_form forms located d differ (subst (λ (ls : List Located). Contains ls located) (sym stand) (middle before located after)) diag e)))

-- ---- all forms

pub none_so_far : (forms : List Located) → AreSoFar forms [] [] []
none_so_far forms = record {
  words = λ word. (λ h. h, λ h. h);
  ascending = tt;
  exactly = λ d. (λ (k, lt, is). absurd (omega (arith, lt)), λ h. let (k, lt, is) = h.1.among in absurd (omega (arith, lt)));
}

pub all_so_far : (forms : List Located) (seen : List Bytes) (list : List Diagnostic) → AreSoFar forms forms seen list → AreDiagnostics forms list
all_so_far forms seen list so_far = record {
  ascending = so_far.ascending;
  exactly = λ d. (λ h. ((so_far.exactly d).0 h).0, λ diag. let on = is_on forms d diag in (so_far.exactly d).1 (diag, record { located = on.located; among = on.among; at = on.at }));
}

dropped : {X : Type 0} (xs : List X) (i : ℕ) (x : X) → i < length xs → x ≡ get_or xs i x → (rest : List X) × (drop i xs ≡ x ∷ rest)
dropped [] i x lt e = absurd (omega (arith, lt))
dropped {X = X} (y ∷ xs) zero x lt e = (xs, ap (λ (z : X). z ∷ xs) (sym e))
dropped (y ∷ xs) (suc i) x lt e = dropped xs i x (omega (arith, lt)) e

pub one_taken : {X : Type 0} (xs : List X) (i : ℕ) (x : X) → i < length xs → x ≡ get_or xs i x → (rest : List X) × (xs ≡ take i xs ++ x ∷ rest) × (take (i + 1) xs ≡ take i xs ++ x ∷ [])
one_taken {X = X} xs i x lt e =
    let r = dropped xs i x lt e in
    (r.0, sym (take-append-drop i xs) ∙ ap (λ (zs : List X). take i xs ++ zs) r.1, take_more xs i x lt ∙ ap (λ (z : X). take i xs ++ z ∷ []) (sym e))
