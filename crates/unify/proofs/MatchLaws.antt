-- What is matched at each kind of form, and part by part.
use Rattle.std.proofs.Common.{◌≡◌, ◌↔◌, ℕ, ◌+◌, ◌<◌, List, [], ◌∷◌, ◌++◌, map, take, length, get_or, Bool, true, false, IsTrue, refl, sym, ap, ap₂, ◌∙◌, subst, append_assoc, arith}
use Rattle.std.proofs.lemmas.List.{map_more, take_more, map-append, take-map, get_or-map, length-map, length-take-le}
use Rattle.std.proofs.Math.Seq.{take-append_seam}
use Rattle.sigma_base.specs.Lists.{each_append, each_left, each_right}
use Rattle.kif_tree.specs.declared.form.Form.{Form}
use Rattle.kif_tree.specs.declared.form.Form.TheVariants as form
use Rattle.kif_tree.specs.declared.subst.Pair.{Pair}
use Rattle.kif_tree.specs.Terms.{Bytes, variables, joined_once}
use Rattle.kif_tree.specs.Subst.{Filling, bind, lookup}
use Rattle.kif_tree.proofs.SubstLaws.{bind-Variable, bind-List, bind_other}
use Rattle.kif_tree.proofs.TermLaws.{variables-Variable, variables-List, variables_other}
use Rattle.kif_tree.proofs.VariableLaws.{joined_once-start, joined_once-none, joined_once-found, joined_once-new, joined_once_more}
use Rattle.calculus.proofs.RenamingLaws.{list_same}
use Rattle.unify.specs.Bindings.{Agrees, AreConsistent, Grows, names_of}
use Rattle.unify.specs.Matching.{IsMatch, Matched, Tried, GivesForm, GivesForms, variables_of_all}
use Rattle.unify.proofs.BindingLaws.{is_named, agreed}

pub grows_not : (old : List Pair) → Grows old old
grows_not old = record { more = []; is = nothing_more old }
  where
    nothing_more : (pairs : List Pair) → pairs ≡ pairs ++ []
    nothing_more [] = refl
    nothing_more (pair ∷ pairs) = ap (λ (ps : List Pair). pair ∷ ps) (nothing_more pairs)

pub grows_twice : (old mid new : List Pair) → Grows old mid → Grows mid new → Grows old new
grows_twice old mid new first second =
    record {
      more = first.more ++ second.more;
      is = second.is ∙ ap (λ (ps : List Pair). ps ++ second.more) first.is
          ∙ append_assoc old first.more second.more;
    }

-- the old pairs are the first ones of the new pairs
pub kept_grown : (old new : List Pair) (n : ℕ) → Grows old new → n ≡ length old → take n new ≡ old
kept_grown old new n grows is = ap (λ (k : ℕ). take k new) is ∙ ap (take (length old)) grows.is ∙ take-append_seam old grows.more

-- goals that say the same
pub tried_alike : (old new : List Pair) (G H : Filling → Type 0) → ((g : Filling) → G g → H g) → ((g : Filling) → H g → G g)
    → (names others : List Bytes) → names ≡ others → (done : Bool) → Tried old new G names done → Tried old new H others done
tried_alike old new G H there back names others same true m = record {
  agrees = m.agrees;
  gives = λ g agrees. there g (m.gives g agrees);
  whole = λ g agrees h. m.whole g agrees (back g h);
  named = m.named ∙ ap (joined_once (names_of old)) same;
}
tried_alike old new G H there back names others same false none = λ g agrees h. none g agrees (back g h)

-- ---- a variable

-- a test of equality decides a goal that needs no pair
tried_test : (pairs : List Pair) (G : Filling → Type 0) (names : List Bytes) (E : Type 0) → ((g : Filling) → Agrees g pairs → E → G g)
    → ((g : Filling) → Agrees g pairs → G g → E)
    → joined_once (names_of pairs) names ≡ names_of pairs → (done : Bool) → (IsTrue done ↔ E) → Tried pairs pairs G names done
tried_test pairs G names E there back same true test = record {
  agrees = λ g agrees. agrees;
  gives = λ g agrees. there g agrees (test.0 refl);
  whole = λ g agrees h. agrees;
  named = sym same;
}
tried_test pairs G names E there back same false test = λ g agrees h. let no_way : false ≡ true = test.1 (back g agrees h) in absurd (cc)

pub variable_bound : (pairs : List Pair) (name : Bytes) (term target : Form) (done : Bool) → is_named name pairs ≡ true → lookup pairs name ≡ term
    → (IsTrue done ↔ (term ≡ target)) → Tried pairs pairs (GivesForm (form.Variable name) target) (variables (form.Variable name)) done
variable_bound pairs name term target done here is test =
    tried_test pairs (GivesForm (form.Variable name) target) (variables (form.Variable name)) (term ≡ target)
    (λ g agrees same. bind-Variable g name ∙ agreed g name pairs agrees here ∙ is ∙ same)
    (λ g agrees h. sym is ∙ sym (agreed g name pairs agrees here) ∙ sym (bind-Variable g name) ∙ h)
    (ap (joined_once (names_of pairs)) (variables-Variable name) ∙ joined_once-found (names_of pairs) name here)
    done test

pub variable_new : (old : List Pair) (name : Bytes) (target : Form) → is_named name old ≡ false
    → Matched old (old ++ record { variable = name; term = target } ∷ []) (GivesForm (form.Variable name) target) (variables (form.Variable name))
variable_new old name target absent =
    let pair : Pair = record { variable = name; term = target } in
    record {
      agrees = λ g agrees. each_left (λ (p : Pair). g p.variable ≡ p.term) old (pair ∷ []) agrees;
      gives = λ g agrees. bind-Variable g name ∙ (each_right (λ (p : Pair). g p.variable ≡ p.term) old (pair ∷ []) agrees).0;
      whole = λ g agrees h. each_append (λ (p : Pair). g p.variable ≡ p.term) old (pair ∷ []) agrees (sym (bind-Variable g name) ∙ h, tt);
      named = map-append (λ (p : Pair). p.variable) old (pair ∷ [])
          ∙ sym (ap (joined_once (names_of old)) (variables-Variable name) ∙ joined_once-new (names_of old) name absent);
    }

-- ---- forms of other kinds

pub other_kind : (pairs : List Pair) (pattern target : Form) (done : Bool) → ((name : Bytes) → pattern ≡ form.Variable name → ⊥)
    → ((parts : List Form) → pattern ≡ form.List parts → ⊥) → (IsTrue done ↔ (pattern ≡ target))
    → Tried pairs pairs (GivesForm pattern target) (variables pattern) done
other_kind pairs pattern target done no_variable no_list test =
    tried_test pairs (GivesForm pattern target) (variables pattern) (pattern ≡ target)
    (λ g agrees same. bind_other g pattern no_variable no_list ∙ same)
    (λ g agrees h. sym (bind_other g pattern no_variable no_list) ∙ h)
    (ap (joined_once (names_of pairs)) (variables_other pattern no_variable no_list) ∙ joined_once-none (names_of pairs))
    done test

-- two lists, by their parts
pub tried_list : (old new : List Pair) (patterns targets : List Form) (done : Bool)
    → Tried old new (GivesForms patterns targets) (variables_of_all patterns) done
    → Tried old new (GivesForm (form.List patterns) (form.List targets)) (variables (form.List patterns)) done
tried_list old new patterns targets done tried =
    tried_alike old new (GivesForms patterns targets) (GivesForm (form.List patterns) (form.List targets))
    (λ g h. bind-List g patterns ∙ ap form.List h)
    (λ g h. list_same (map (bind g) patterns) targets (sym (bind-List g patterns) ∙ h))
    (variables_of_all patterns) (variables (form.List patterns)) (sym (variables-List patterns)) done tried

-- a list becomes nothing but a list
pub no_list : (patterns : List Form) (target : Form) → ((parts : List Form) → target ≡ form.List parts → ⊥) → (g : Filling)
    → bind g (form.List patterns) ≡ target → ⊥
no_list patterns target other g h = other (map (bind g) patterns) (sym h ∙ bind-List g patterns)

-- ---- part by part

last_same : {X : Type 0} (xs ys : List X) (x y : X) → length xs ≡ length ys → xs ++ x ∷ [] ≡ ys ++ y ∷ [] → (xs ≡ ys) × (x ≡ y)
last_same [] [] x y lengths e = (refl, cc)
last_same [] (b ∷ ys) x y lengths e = absurd (cc)
last_same (a ∷ xs) [] x y lengths e = absurd (cc)
last_same (a ∷ xs) (b ∷ ys) x y lengths e = let rest = last_same xs ys x y (cc) (cc) in (ap₂ ◌∷◌ (cc) rest.0, rest.1)

-- one more part matches
pub one_more_matched : (old mid new : List Pair) (patterns targets : List Form) (i : ℕ) (pattern target : Form) → i < length patterns → i < length targets
    → pattern ≡ get_or patterns i pattern → target ≡ get_or targets i target
    → Matched old mid (GivesForms (take i patterns) (take i targets)) (variables_of_all (take i patterns))
    → Matched mid new (GivesForm pattern target) (variables pattern)
    → Matched old new (GivesForms (take (i + 1) patterns) (take (i + 1) targets)) (variables_of_all (take (i + 1) patterns))
one_more_matched old mid new patterns targets i pattern target below within is_pattern is_target before here = record {
  agrees = λ g agrees. before.agrees g (here.agrees g agrees);
  gives = λ g agrees. map_more (bind g) patterns i pattern below
      ∙ ap₂ (λ (forms : List Form) (f : Form). forms ++ f ∷ []) (before.gives g (here.agrees g agrees))
      (ap (bind g) (sym is_pattern) ∙ here.gives g agrees ∙ is_target)
      ∙ sym (take_more targets i target within);
  whole = λ g agrees h.
      let split = parted g h in
      here.whole g (before.whole g agrees split.0) split.1;
  named = here.named ∙ ap (λ (names : List Bytes). joined_once names (variables pattern)) before.named
      ∙ sym (joined_once_more variables (names_of old) patterns i pattern below is_pattern);
}
  where
    parted : (g : Filling) → GivesForms (take (i + 1) patterns) (take (i + 1) targets) g
        → GivesForms (take i patterns) (take i targets) g × GivesForm pattern target g
    parted g h =
        let split = last_same (map (bind g) (take i patterns)) (take i targets) (bind g (get_or patterns i pattern)) (get_or targets i target)
        (length-map (take i patterns) (bind g) ∙ length-take-le i patterns (omega (arith, below)) ∙ sym (length-take-le i targets (omega (arith, within))))
        (sym (map_more (bind g) patterns i pattern below) ∙ h ∙ take_more targets i target within) in
        (split.0, ap (bind g) is_pattern ∙ split.1 ∙ sym is_target)

-- and where a part doesn't, nothing does
pub part_unmatched : (old mid : List Pair) (patterns targets : List Form) (i : ℕ) (pattern target : Form) → i < length patterns
    → pattern ≡ get_or patterns i pattern → target ≡ get_or targets i target
    → Matched old mid (GivesForms (take i patterns) (take i targets)) (variables_of_all (take i patterns))
    → ((g : Filling) → Agrees g mid → GivesForm pattern target g → ⊥)
    → (g : Filling) → Agrees g old → GivesForms patterns targets g → ⊥
part_unmatched old mid patterns targets i pattern target below is_pattern is_target before none g agrees h =
    none g (before.whole g agrees (sym (take-map (bind g) i patterns) ∙ ap (take i) h))
    (ap (bind g) is_pattern ∙ sym (get_or-map (bind g) patterns i pattern target below) ∙ ap (λ (forms : List Form). get_or forms i target) h ∙ sym is_target)

pub lengths_differ : (patterns targets : List Form) → (length patterns ≡ length targets → ⊥) → (g : Filling) → GivesForms patterns targets g → ⊥
lengths_differ patterns targets differ g h = differ (sym (length-map patterns (bind g)) ∙ ap length h)

-- ---- what an answer says

pub reached : (old new : List Pair) (G : Filling → Type 0) (names : List Bytes) (done : Bool) → done ≡ true → Tried old new G names done
    → Matched old new G names
reached old new G names true is tried = tried
reached old new G names false is tried = let no_way : false ≡ true = is in absurd (cc)

pub missed : (old new : List Pair) (G : Filling → Type 0) (names : List Bytes) (done : Bool) → done ≡ false → Tried old new G names done → (g : Filling)
    → Agrees g old → G g → ⊥
missed old new G names true is tried = let no_way : true ≡ false = is in absurd (cc)
missed old new G names false is tried = tried

-- with no pairs before, the new ones are a match
pub match_of : (old new : List Pair) (pattern target : Form) → old ≡ [] → (AreConsistent old → AreConsistent new)
    → (AreConsistent old → Matched old new (GivesForm pattern target) (variables pattern)) → IsMatch new pattern target
match_of old new pattern target none consistent matched =
    let start : AreConsistent old = subst AreConsistent (sym none) tt in
    record {
      gives = (matched start).gives (lookup new) (consistent start);
      names = (matched start).named ∙ ap (λ (pairs : List Pair). joined_once (names_of pairs) (variables pattern)) none
          ∙ joined_once-start (variables pattern);
    }
