-- Two lists of diagnostics in one.
use Rattle.std.proofs.Common.{◌≡◌, ◌≢◌, ℕ, ◌+◌, ◌<◌, ◌≤◌, ◌⊎◌, zero, suc, List, [], ◌∷◌, ◌++◌, length, get_or, take, drop, refl, sym, ap, subst, ◌∙◌, inl, inr, arith}
use Rattle.std.specs.Prelude.{Contains}
use Rattle.std.proofs.lemmas.List.{take-append-drop}
use Rattle.std.proofs.lemmas.List.Elements.{Contains-append_left, Contains-append_right, Contains-append_cases}
use Rattle.sigma_base.specs.Lists.{Each, each_append, each_left, each_right, each_map}
use Rattle.kif_tree.specs.declared.place.Located.{Located}
use Rattle.kif_tree.specs.declared.place.Place.{Place}
use Rattle.kif_tree.specs.Places.{PlacesDiffer}
use Rattle.taxonomy.proofs.GraphLaws.{each_in}
use Rattle.diagnose.specs.declared.diagnostic.Diagnostic.{Diagnostic}
use Rattle.diagnose.specs.Diagnostics.{StandsBefore, ComesBefore, AreAscending, AreDiagnostics}
use Rattle.diagnose.specs.Merged.{ArePlaced, AreMerged, BeginElsewhere, AreParted, AreMergedSoFar}
use Rattle.diagnose.specs.Order.{IsFormPlace, AreKnown, Appends}
use Rattle.diagnose.specs.SoFar.{HasPlace}
use Rattle.diagnose.proofs.FoundLaws.{contains_nothing, contains_cases}
use Rattle.diagnose.proofs.OneListLaws.{stands_once, same_lists}
use Rattle.diagnose.proofs.WholeLaws.{is_on, names_form, at_form, place_before, place_last, parts_at, earlier, ascending_append, each_of, one_taken}

nothing_dropped : {X : Type 0} (xs : List X) (i : ℕ) → length xs ≤ i → drop i xs ≡ []
nothing_dropped [] zero end = refl
nothing_dropped [] (suc i) end = refl
nothing_dropped (x ∷ xs) zero end = absurd (omega (arith, end))
nothing_dropped (x ∷ xs) (suc i) end = nothing_dropped xs i (omega (arith, end))

-- ---- those of one form

ascending_left : (forms : List Located) (xs ys : List Diagnostic) → AreAscending forms (xs ++ ys) → AreAscending forms xs
ascending_left forms [] ys h = tt
ascending_left forms (x ∷ xs) ys h = (each_left (ComesBefore forms x) xs ys h.0, ascending_left forms xs ys h.1)

ascending_right : (forms : List Located) (xs ys : List Diagnostic) → AreAscending forms (xs ++ ys) → AreAscending forms ys
ascending_right forms [] ys h = h
ascending_right forms (x ∷ xs) ys h = ascending_right forms xs ys h.1

pub front_ascending : (forms : List Located) (place : Place) (list front rest : List Diagnostic) → AreParted place list front rest → AreAscending forms list → AreAscending forms front
front_ascending forms place list front rest parted up = ascending_left forms front rest (subst (AreAscending forms) parted.parts up)

abbrev Stands : List Located → List Located → Diagnostic → Type 0
Stands forms ahead d = HasPlace ahead d.place × IsFormPlace forms d.other

known_of : (forms ahead : List Located) (place : Place) (front : List Diagnostic) → Each (λ (d : Diagnostic). d.place ≡ place) front → Each (Stands forms ahead) front → AreKnown forms place front
known_of forms ahead place [] at stands = tt
known_of forms ahead place (d ∷ front) at stands = ((at.0, stands.0.1), known_of forms ahead place front at.1 stands.1)

front_known : (forms ahead : List Located) (place : Place) (list front rest : List Diagnostic) → AreParted place list front rest → Each (Stands forms ahead) list → AreKnown forms place front
front_known forms ahead place list front rest parted stands = known_of forms ahead place front parted.here (each_left (Stands forms ahead) front rest (subst (Each (Stands forms ahead)) parted.parts stands))

pub both_known : (forms ahead : List Located) (place : Place) (left right first_here second_here first_later second_later : List Diagnostic) → AreParted place left first_here first_later → AreParted place right second_here second_later
    → Each (Stands forms ahead) left → Each (Stands forms ahead) right → AreKnown forms place (first_here ++ second_here)
both_known forms ahead place left right first_here second_here first_later second_later first second stands stands_too =
    each_append (λ (d : Diagnostic). (d.place ≡ place) × IsFormPlace forms d.other) first_here second_here (front_known forms ahead place left first_here first_later first stands) (front_known forms ahead place right second_here second_later second stands_too)

-- ---- one form more

module _ (forms gone : List Located) (located : Located) (ahead : List Located) (stand : forms ≡ gone ++ located ∷ ahead) where
  behind : (place : Place) → HasPlace ahead place → StandsBefore forms located.place place
  behind place h =
      let p = parts_at ahead h.located h.among in
      subst (StandsBefore forms located.place) h.at (record {
        before = gone;
        one = located.form;
        between = p.first;
        other = h.located.form;
        after = p.rest;
        stand = stand ∙ ap (λ (ls : List Located). gone ++ located ∷ ls) p.are;
      })

  which : (place : Place) → HasPlace (located ∷ ahead) place → (place ≡ located.place) ⊎ HasPlace ahead place
  which place h = go (contains_cases located ahead h.located h.among)
    where
      go : (located ≡ h.located) ⊎ Contains ahead h.located → (place ≡ located.place) ⊎ HasPlace ahead place
      go (inl e) = inl (sym h.at ∙ ap (λ (l : Located). l.place) (sym e))
      go (inr k) = inr (record { located = h.located; among = k; at = h.at })

  module _ (differ : PlacesDiffer forms) where
    -- what comes after one that stands further ahead stands there too
    further : (d e : Diagnostic) → d.place ≢ located.place → HasPlace ahead d.place → ComesBefore forms d e → HasPlace (located ∷ ahead) e.place → HasPlace ahead e.place
    further d e apart there before h = go before (which e.place h)
      where
        go : ComesBefore forms d e → (e.place ≡ located.place) ⊎ HasPlace ahead e.place → HasPlace ahead e.place
        go before (inr k) = k
        go (inl s) (inl at) = absurd (stands_once forms located.place d.place differ (behind d.place there) (subst (StandsBefore forms d.place) at s))
        go (inr (same, k)) (inl at) = absurd (apart (same ∙ at))

    all_further : (d : Diagnostic) (list : List Diagnostic) → d.place ≢ located.place → HasPlace ahead d.place → Each (ComesBefore forms d) list → Each (Stands forms (located ∷ ahead)) list → Each (Stands forms ahead) list
    all_further d [] apart there before h = tt
    all_further d (e ∷ list) apart there before h = ((further d e apart there before.0 h.0.0, h.0.1), all_further d list apart there before.1 h.1)

    rest_stands : (rest : List Diagnostic) → BeginElsewhere located.place rest → AreAscending forms rest → Each (Stands forms (located ∷ ahead)) rest → Each (Stands forms ahead) rest
    rest_stands [] elsewhere up h = tt
    rest_stands (d ∷ rest) apart up h = let there = go (which d.place h.0.0) in ((there, h.0.1), all_further d rest apart there up.0 h.1)
      where
        go : (d.place ≡ located.place) ⊎ HasPlace ahead d.place → HasPlace ahead d.place
        go (inl at) = absurd (apart at)
        go (inr k) = k

    left_ascending : (list front rest : List Diagnostic) → AreParted located.place list front rest → AreAscending forms list → AreAscending forms rest
    left_ascending list front rest parted up = ascending_right forms front rest (subst (AreAscending forms) parted.parts up)

    left_stands : (list front rest : List Diagnostic) → AreParted located.place list front rest → AreAscending forms list → Each (Stands forms (located ∷ ahead)) list → Each (Stands forms ahead) rest
    left_stands list front rest parted up h =
        rest_stands rest parted.elsewhere (left_ascending list front rest parted up) (each_right (Stands forms (located ∷ ahead)) front rest (subst (Each (Stands forms (located ∷ ahead))) parted.parts h))

    module _ (first second left right first_here second_here first_later second_later list longer : List Diagnostic) (so_far : AreMergedSoFar forms gone (located ∷ ahead) first second left right list)
        (parted : AreParted located.place left first_here first_later) (parted_too : AreParted located.place right second_here second_later) (appended : Appends forms (first_here ++ second_here) list longer) where
      at_place : (d : Diagnostic) → Contains appended.sorted d → d.place ≡ located.place
      at_place d h =
          each_in (λ (e : Diagnostic). e.place ≡ located.place) (first_here ++ second_here) d ((appended.same d).0 h) (each_append (λ (e : Diagnostic). e.place ≡ located.place) first_here second_here parted.here parted_too.here)

      before_those : (d : Diagnostic) → Contains list d → Each (ComesBefore forms d) appended.sorted
      before_those d h = each_of (ComesBefore forms d) appended.sorted (λ e k.
          inl (subst (StandsBefore forms d.place) (sym (at_place e k)) (earlier forms gone located ahead d.place stand (each_in (λ (x : Diagnostic). HasPlace gone x.place) list d h so_far.placed))))

      longer_ascending : AreAscending forms longer
      longer_ascending =
          subst (AreAscending forms) (sym appended.is)
          (ascending_append forms list appended.sorted so_far.ascending appended.ascending (each_of (λ (d : Diagnostic). Each (ComesBefore forms d) appended.sorted) list before_those))

      longer_placed : Each (λ (d : Diagnostic). HasPlace (gone ++ located ∷ []) d.place) longer
      longer_placed =
          subst (Each (λ (d : Diagnostic). HasPlace (gone ++ located ∷ []) d.place)) (sym appended.is)
          (each_append (λ (d : Diagnostic). HasPlace (gone ++ located ∷ []) d.place) list appended.sorted
          (each_map (λ (d : Diagnostic). HasPlace gone d.place) (λ (d : Diagnostic). HasPlace (gone ++ located ∷ []) d.place) (λ d h. place_before gone located d.place h) list so_far.placed)
          (each_of (λ (d : Diagnostic). HasPlace (gone ++ located ∷ []) d.place) appended.sorted (λ d h. place_last gone located d.place (at_place d h))))

      in_longer : (d : Diagnostic) → Contains list d ⊎ Contains (first_here ++ second_here) d → Contains longer d
      in_longer d (inl h) = subst (λ (ds : List Diagnostic). Contains ds d) (sym appended.is) (Contains-append_left list appended.sorted d h)
      in_longer d (inr h) = subst (λ (ds : List Diagnostic). Contains ds d) (sym appended.is) (Contains-append_right list appended.sorted d ((appended.same d).1 h))

      of_longer : (d : Diagnostic) → Contains longer d → Contains list d ⊎ Contains (first_here ++ second_here) d
      of_longer d h = go (Contains-append_cases list appended.sorted d (subst (λ (ds : List Diagnostic). Contains ds d) appended.is h))
        where
          go : Contains list d ⊎ Contains appended.sorted d → Contains list d ⊎ Contains (first_here ++ second_here) d
          go (inl k) = inl k
          go (inr k) = inr ((appended.same d).0 k)

      there : (d : Diagnostic) → Contains list d ⊎ (Contains left d ⊎ Contains right d) → Contains longer d ⊎ (Contains first_later d ⊎ Contains second_later d)
      there d (inl h) = inl (in_longer d (inl h))
      there d (inr (inl h)) = go (Contains-append_cases first_here first_later d (subst (λ (ds : List Diagnostic). Contains ds d) parted.parts h))
        where
          go : Contains first_here d ⊎ Contains first_later d → Contains longer d ⊎ (Contains first_later d ⊎ Contains second_later d)
          go (inl k) = inl (in_longer d (inr (Contains-append_left first_here second_here d k)))
          go (inr k) = inr (inl k)
      there d (inr (inr h)) = go (Contains-append_cases second_here second_later d (subst (λ (ds : List Diagnostic). Contains ds d) parted_too.parts h))
        where
          go : Contains second_here d ⊎ Contains second_later d → Contains longer d ⊎ (Contains first_later d ⊎ Contains second_later d)
          go (inl k) = inl (in_longer d (inr (Contains-append_right first_here second_here d k)))
          go (inr k) = inr (inr k)

      of_left : (d : Diagnostic) → Contains first_here d ⊎ Contains first_later d → Contains left d
      of_left d (inl h) = subst (λ (ds : List Diagnostic). Contains ds d) (sym parted.parts) (Contains-append_left first_here first_later d h)
      of_left d (inr h) = subst (λ (ds : List Diagnostic). Contains ds d) (sym parted.parts) (Contains-append_right first_here first_later d h)

      of_right : (d : Diagnostic) → Contains second_here d ⊎ Contains second_later d → Contains right d
      of_right d (inl h) = subst (λ (ds : List Diagnostic). Contains ds d) (sym parted_too.parts) (Contains-append_left second_here second_later d h)
      of_right d (inr h) = subst (λ (ds : List Diagnostic). Contains ds d) (sym parted_too.parts) (Contains-append_right second_here second_later d h)

      back : (d : Diagnostic) → Contains longer d ⊎ (Contains first_later d ⊎ Contains second_later d) → Contains list d ⊎ (Contains left d ⊎ Contains right d)
      back d (inl h) = go (of_longer d h)
        where
          both : Contains first_here d ⊎ Contains second_here d → Contains list d ⊎ (Contains left d ⊎ Contains right d)
          both (inl k) = inr (inl (of_left d (inl k)))
          both (inr k) = inr (inr (of_right d (inl k)))

          go : Contains list d ⊎ Contains (first_here ++ second_here) d → Contains list d ⊎ (Contains left d ⊎ Contains right d)
          go (inl k) = inl k
          go (inr k) = both (Contains-append_cases first_here second_here d k)
      back d (inr (inl h)) = inr (inl (of_left d (inr h)))
      back d (inr (inr h)) = inr (inr (of_right d (inr h)))

      pub one_form_more : AreMergedSoFar forms (gone ++ located ∷ []) ahead first second first_later second_later longer
      one_form_more = record {
        ascending = longer_ascending;
        placed = longer_placed;
        left_ascending = left_ascending left first_here first_later parted so_far.left_ascending;
        right_ascending = left_ascending right second_here second_later parted_too so_far.right_ascending;
        left_placed = left_stands left first_here first_later parted so_far.left_ascending so_far.left_placed;
        right_placed = left_stands right second_here second_later parted_too so_far.right_ascending so_far.right_placed;
        exactly = λ d. (λ h. there d ((so_far.exactly d).0 h), λ h. (so_far.exactly d).1 (back d h));
      }

-- ---- all forms

pub none_merged : (forms : List Located) (first second : List Diagnostic) → AreAscending forms first → AreAscending forms second → ArePlaced forms first → ArePlaced forms second → AreMergedSoFar forms [] forms first second first second []
none_merged forms first second up up_too stands stands_too = record {
  ascending = tt;
  placed = tt;
  left_ascending = up;
  right_ascending = up_too;
  left_placed = stands;
  right_placed = stands_too;
  exactly = λ d. (λ h. inr h, λ h. go d h);
}
  where
    go : (d : Diagnostic) → Contains [] d ⊎ (Contains first d ⊎ Contains second d) → Contains first d ⊎ Contains second d
    go d (inl h) = absurd (contains_nothing d h)
    go d (inr h) = h

nowhere : (forms : List Located) (list : List Diagnostic) (d : Diagnostic) → Each (Stands forms []) list → Contains list d → ⊥
nowhere forms list d h k = let at = each_in (Stands forms []) list d k h in contains_nothing at.0.located at.0.among

pub all_merged : (forms gone ahead : List Located) (first second left right list : List Diagnostic) → ahead ≡ [] → AreMergedSoFar forms gone ahead first second left right list → AreMerged forms first second list
all_merged forms gone ahead first second left right list none so_far = record {
  ascending = so_far.ascending;
  exactly = λ d. (λ h. (so_far.exactly d).1 (inl h), λ h. go d ((so_far.exactly d).0 h));
}
  where
    go : (d : Diagnostic) → Contains list d ⊎ (Contains left d ⊎ Contains right d) → Contains list d
    go d (inl h) = h
    go d (inr (inl h)) = absurd (nowhere forms left d (subst (λ (ls : List Located). Each (Stands forms ls) left) none so_far.left_placed) h)
    go d (inr (inr h)) = absurd (nowhere forms right d (subst (λ (ls : List Located). Each (Stands forms ls) right) none so_far.right_placed) h)

pub at_end : (forms : List Located) (i : ℕ) (first second left right list : List Diagnostic) → length forms ≤ i → AreMergedSoFar forms (take i forms) (drop i forms) first second left right list → AreMerged forms first second list
at_end forms i first second left right list end so_far = all_merged forms (take i forms) (drop i forms) first second left right list (nothing_dropped forms i end) so_far

next : {X : Type 0} (xs : List X) (i : ℕ) (x : X) → i < length xs → x ≡ get_or xs i x → drop i xs ≡ x ∷ drop (i + 1) xs
next [] i x lt is = absurd (omega (arith, lt))
next {X = X} (y ∷ xs) zero x lt is = ap (λ (z : X). z ∷ xs) (sym is)
next {X = X} (y ∷ xs) (suc i) x lt is = next xs i x (omega (arith, lt)) is ∙ ap (λ (n : ℕ). x ∷ drop n (y ∷ xs)) (let e : suc (i + 1) ≡ suc i + 1 = omega arith in e)

pub one_form_at : (forms : List Located) (i : ℕ) (located : Located) (first second left right first_here second_here first_later second_later list longer : List Diagnostic) → i < length forms → located ≡ get_or forms i located → PlacesDiffer forms
    → AreMergedSoFar forms (take i forms) (drop i forms) first second left right list → AreParted located.place left first_here first_later → AreParted located.place right second_here second_later → Appends forms (first_here ++ second_here) list longer
    → AreMergedSoFar forms (take (i + 1) forms) (drop (i + 1) forms) first second first_later second_later longer
one_form_at forms i located first second left right first_here second_here first_later second_later list longer lt is differ so_far parted parted_too appended =
    let ahead = next forms i located lt is in
    subst (λ (gone : List Located). AreMergedSoFar forms gone (drop (i + 1) forms) first second first_later second_later longer) (sym (one_taken forms i located lt is).2)
    (one_form_more forms (take i forms) located (drop (i + 1) forms) (sym (take-append-drop i forms) ∙ ap (λ (ls : List Located). take i forms ++ ls) ahead) differ first second left right first_here second_here first_later second_later list longer
    (subst (λ (ls : List Located). AreMergedSoFar forms (take i forms) ls first second left right list) ahead so_far) parted parted_too appended)

-- ---- for callers

-- two lists have one merged list
pub one_merged : (forms : List Located) (first second a b : List Diagnostic) → PlacesDiffer forms → AreMerged forms first second a → AreMerged forms first second b → a ≡ b
one_merged forms first second a b differ h k = same_lists forms differ a b h.ascending k.ascending (λ d c. (k.exactly d).1 ((h.exactly d).0 c)) (λ d c. (h.exactly d).1 ((k.exactly d).0 c))

-- the diagnostics of the forms stand where the forms do
pub diagnostics_placed : (forms : List Located) (list : List Diagnostic) → PlacesDiffer forms → AreDiagnostics forms list → ArePlaced forms list
diagnostics_placed forms list differ are = each_of (λ (d : Diagnostic). HasPlace forms d.place × IsFormPlace forms d.other) list (λ d h.
    let diag = (are.exactly d).0 h in
    let on = is_on forms d diag in
    (record { located = on.located; among = on.among; at = on.at }, names_form forms on.located d (at_form forms on.located d differ on.among diag (sym on.at))))
