-- The variables of a form's problem, and its outcome.
use Rattle.std.proofs.Common.{◌≡◌, ℕ, zero, suc, min, ◌≤◌, List, [], ◌∷◌, ◌++◌, map, filter, length, take, drop, Bool, true, false, not, ◌&&◌, ◌||◌, nat_lt, if◌then◌else◌, refl, sym, ap, ap₂, subst, ◌∙◌, arith}
use Rattle.std.proofs.lemmas.Bool.Decides.{nat_tests}
use Rattle.std.proofs.lemmas.List.{length-take, take_all}
use Rattle.std.specs.List.{list_any}
use Rattle.kif_tree.specs.declared.form.Form.{Form, out-Form}
use Rattle.kif_tree.specs.Names.{free, free_names, each_once}
use Rattle.kif_tree.specs.declared.form.Form.TheOpen.{Form-F}
use Rattle.kif_tree.specs.declared.form.Form.TheVariants as form
use Rattle.kif_tree.specs.Profile.{compounds, is_variable_layer, is_row_layer}
use Rattle.kif_tree.specs.SameLaws.{same-Decides}
use Rattle.kif_tree.specs.Terms.{Bytes, same}
use Rattle.sigma_base.specs.Lists.{Each}
use Rattle.signatures.specs.Tables.{relations_in}
use Rattle.signatures.specs.declared.signatures.Signatures.{Signatures}
use Rattle.taxonomy.specs.Told.{Link}
use Rattle.var_expand.specs.Choices.{Choice, choices, chosen_for, predicate_variables, row_variables, is_variable, is_row, begins_with, heads_a_list, relation_options}
use Rattle.var_expand.specs.Expansion.{IsExpansion, outcome, variants_by, nothing_fits}
use Rattle.var_expand.specs.Fitting.{varies}
use Rattle.var_expand.specs.Offered.{Offered}
use Rattle.var_expand.specs.Problems.{IsProblem, passing, answer, answer_by, is_predicate}
use Rattle.var_expand.specs.Search.{AreOffers, IsOffer, IsHopeless, IsBegun, AreDistinct, offered, offered_variable, filled, fitting, passes, relations_of}
use Rattle.var_expand.specs.Tested.{fits_by}
use Rattle.var_expand.specs.declared.expanded.Expanded.{Expanded}
use Rattle.var_expand.specs.declared.expanded.Expanded.TheVariants.{TooMany}
use Rattle.var_expand.specs.declared.fitting.Problem.{Problem}
use Rattle.var_expand.proofs.ExactLaws.{fits_tells, passes_exact}
use Rattle.var_expand.proofs.GrowLaws.{choices_for, hopeless_fitting, fitting_all}
use Rattle.var_expand.proofs.MemberLaws.{each_has, each_where, each_mapped, kept_alike, filled_nothing}

-- ---- the variables that head a list, and the row variables

false_true : false ≡ true → ⊥
false_true e = cc

any_filter : {X : Type 0} (p q : X → Bool) → ((x : X) → p x ≡ true → q x ≡ true) → (xs : List X) → list_any p (filter q xs) ≡ list_any p xs
any_filter p q f [] = refl
any_filter {X = X} p q f (x ∷ xs) = go (p x) (q x) (f x) (any_filter p q f xs) refl
  where
    go : (a b : Bool) → (a ≡ true → b ≡ true) → list_any p (filter q xs) ≡ list_any p xs → p x ≡ a → list_any p (if b then x ∷ filter q xs else filter q xs) ≡ (a || list_any p xs)
    go a true h e is = ap₂ ◌||◌ is e
    go true false h e is = absurd (false_true (h refl))
    go false false h e is = e

begins_varies : (name : Form) → is_variable name ≡ true → (parts : List Form) → begins_with name parts ≡ true → varies parts ≡ true
begins_varies name e [] h = absurd (cc)
begins_varies name e (head ∷ arguments) h = ap (λ b. b || list_any is_row arguments) (sym (ap is_variable ((same-Decides name head).0 h)) ∙ e)

predicate_exact : (f name : Form) → is_predicate (filter varies (compounds f)) name ≡ (is_variable name && heads_a_list f name)
unfolding is_predicate
predicate_exact f name = go (is_variable name) refl
  where
    go : (b : Bool) → is_variable name ≡ b → (b && list_any (begins_with name) (filter varies (compounds f))) ≡ (b && list_any (begins_with name) (compounds f))
    go true e = any_filter (begins_with name) varies (begins_varies name e) (compounds f)
    go false e = refl

each_of : {X : Type 0} (P : X → Type 0) → ((x : X) → P x) → (xs : List X) → Each P xs
each_of P f [] = tt
each_of P f (x ∷ xs) = (f x, each_of P f xs)

pub predicates_exact : (f : Form) → filter (is_predicate (filter varies (compounds f))) (free_names f) ≡ predicate_variables f
predicates_exact f = kept_alike (is_predicate (filter varies (compounds f))) (λ name. is_variable name && heads_a_list f name) (free_names f) (each_of _ (predicate_exact f) (free_names f))

-- ---- each stands once

or_false : (a b : Bool) → a ≡ false → b ≡ false → (a || b) ≡ false
or_false a b e h = ap (λ x. x || b) e ∙ h

or_both : (a b : Bool) → (a || b) ≡ false → (a ≡ false) × (b ≡ false)
or_both false b e = (refl, e)
or_both true b e = absurd (cc)

none_filter : {X : Type 0} (p q : X → Bool) (xs : List X) → list_any p xs ≡ false → list_any p (filter q xs) ≡ false
none_filter p q [] e = refl
none_filter {X = X} p q (x ∷ xs) e = go (q x) (or_both (p x) (list_any p xs) e).0 (none_filter p q xs (or_both (p x) (list_any p xs) e).1)
  where
    go : (b : Bool) → p x ≡ false → list_any p (filter q xs) ≡ false → list_any p (if b then x ∷ filter q xs else filter q xs) ≡ false
    go true here rest = ap (λ z. z || list_any p (filter q xs)) here ∙ rest
    go false here rest = rest

distinct_filter : (q : Form → Bool) (fs : List Form) → AreDistinct fs → AreDistinct (filter q fs)
distinct_filter q [] h = tt
distinct_filter q (f ∷ fs) h = go (q f) (none_filter (same f) q fs h.0) (distinct_filter q fs h.1)
  where
    go : (b : Bool) → list_any (same f) (filter q fs) ≡ false → AreDistinct (filter q fs) → AreDistinct (if b then f ∷ filter q fs else filter q fs)
    go true none rest = (none, rest)
    go false none rest = rest

none_left : {X : Type 0} (p : X → Bool) (xs : List X) → list_any p (filter (λ x. not (p x)) xs) ≡ false
none_left p [] = refl
none_left {X = X} p (x ∷ xs) = go (p x) refl (none_left p xs)
  where
    go : (b : Bool) → p x ≡ b → list_any p (filter (λ y. not (p y)) xs) ≡ false → list_any p (if not b then x ∷ filter (λ y. not (p y)) xs else filter (λ y. not (p y)) xs) ≡ false
    go true e h = h
    go false e h = ap (λ z. z || list_any p (filter (λ y. not (p y)) xs)) e ∙ h

once_distinct : (fs : List Form) → AreDistinct (each_once fs)
once_distinct [] = tt
once_distinct (f ∷ fs) = (none_left (same f) (each_once fs), distinct_filter (λ other. not (same f other)) (each_once fs) (once_distinct fs))

-- two tests that never pass together keep different forms
apart : (p q : Form → Bool) (f : Form) → p f ≡ true → ((g : Form) → p g ≡ true → q g ≡ true → ⊥) → (gs : List Form) → list_any (same f) (filter q gs) ≡ false
apart p q f e never [] = refl
apart p q f e never (g ∷ gs) = go (q g) refl (apart p q f e never gs)
  where
    go : (b : Bool) → q g ≡ b → list_any (same f) (filter q gs) ≡ false → list_any (same f) (if b then g ∷ filter q gs else filter q gs) ≡ false
    go true is h = or_false (same f g) (list_any (same f) (filter q gs)) (differs (same f g) refl) h
      where
        differs : (b : Bool) → same f g ≡ b → b ≡ false
        differs true x = absurd (never g (sym (ap p ((same-Decides f g).0 x)) ∙ e) is)
        differs false x = refl
    go false is h = h

none_joined : {X : Type 0} (p : X → Bool) (xs ys : List X) → list_any p xs ≡ false → list_any p ys ≡ false → list_any p (xs ++ ys) ≡ false
none_joined p [] ys e h = h
none_joined p (x ∷ xs) ys e h = let b = or_both (p x) (list_any p xs) e in or_false (p x) (list_any p (xs ++ ys)) b.0 (none_joined p xs ys b.1 h)

distinct_joined : (p q : Form → Bool) → ((g : Form) → p g ≡ true → q g ≡ true → ⊥) → (fs gs : List Form) → AreDistinct fs → AreDistinct gs → AreDistinct (filter p fs ++ filter q gs)
distinct_joined p q never [] gs h k = distinct_filter q gs k
distinct_joined p q never (f ∷ fs) gs h k = go (p f) refl (distinct_joined p q never fs gs h.1 k)
  where
    go : (b : Bool) → p f ≡ b → AreDistinct (filter p fs ++ filter q gs) → AreDistinct ((if b then f ∷ filter p fs else filter p fs) ++ filter q gs)
    go true e rest = (none_joined (same f) (filter p fs) (filter q gs) (none_filter (same f) p fs h.0) (apart p q f e never gs), rest)
    go false e rest = rest

and_first : (a b : Bool) → (a && b) ≡ true → a ≡ true
and_first true b e = refl
and_first false b e = absurd (cc)

never_both : (f g : Form) → (is_variable g && heads_a_list f g) ≡ true → is_row g ≡ true → ⊥
never_both f g e h = layers (out-Form g) (and_first (is_variable g) (heads_a_list f g) e) h
  where
    layers : (layer : Form-F Form) → is_variable_layer layer ≡ true → is_row_layer layer ≡ true → ⊥
    layers (Form-F.Word text) e h = false_true e
    layers (Form-F.Variable text) e h = false_true h
    layers (Form-F.Row text) e h = false_true e
    layers (Form-F.Numeral text) e h = false_true e
    layers (Form-F.Quoted text) e h = false_true e
    layers (Form-F.List parts) e h = false_true e

pub chosen_distinct : (f : Form) → AreDistinct (chosen_for f)
chosen_distinct f = distinct_joined (λ name. is_variable name && heads_a_list f name) is_row (never_both f) (free_names f) (free_names f) (once_distinct (free f)) (once_distinct (free f))

-- ---- offers

pub are_offers : (problem : Problem) (offers : List Offered) → offers ≡ map (offered problem) problem.variables → AreOffers problem offers
are_offers problem offers e = subst (AreOffers problem) (sym e)
    (each_mapped (IsOffer problem) (offered problem) problem.variables (each_where (λ v. IsOffer problem (offered problem v)) problem.variables (λ v has. record { is_variable = has; allows = refl })))

pub each_take : {X : Type 0} (P : X → Type 0) (n : ℕ) (xs : List X) → Each P xs → Each P (take n xs)
each_take P zero [] h = tt
each_take P zero (x ∷ xs) h = tt
each_take P (suc n) [] h = tt
each_take P (suc n) (x ∷ xs) h = (h.0, each_take P n xs h.1)

pub each_drop : {X : Type 0} (P : X → Type 0) (n : ℕ) (xs : List X) → Each P xs → Each P (drop n xs)
each_drop P zero [] h = tt
each_drop P zero (x ∷ xs) h = h
each_drop P (suc n) [] h = tt
each_drop P (suc n) (x ∷ xs) h = each_drop P n xs h.1

offered_back : (problem : Problem) (vs : List Form) → map offered_variable (map (offered problem) vs) ≡ vs
offered_back problem [] = refl
offered_back problem (v ∷ vs) = ap (λ ys. v ∷ ys) (offered_back problem vs)

pub offers_back : (problem : Problem) (offers : List Offered) → offers ≡ map (offered problem) problem.variables → map offered_variable offers ≡ problem.variables
offers_back problem offers e = ap (map offered_variable) e ∙ offered_back problem problem.variables

pub begun_first : (problem : Problem) (offers : List Offered) → offers ≡ map (offered problem) problem.variables → AreDistinct problem.variables → IsBegun problem [] (map offered_variable offers)
begun_first problem offers e distinct = record { covers = offers_back problem offers e; distinct = distinct; drawn = tt }

pub found_all : (problem : Problem) (offers : List Offered) → offers ≡ map (offered problem) problem.variables → fitting problem [] (map offered_variable offers) ≡ passing problem
found_all problem offers e = ap (fitting problem []) (offers_back problem offers e) ∙ fitting_all problem problem.variables

pub found_none : (problem : Problem) (offers : List Offered) (found : List Choice) → offers ≡ map (offered problem) problem.variables → AreDistinct problem.variables → IsHopeless problem [] → found ≡ filled found (passing problem)
found_none problem offers found e distinct hopeless = sym (filled_nothing found (passing problem)
    (sym (found_all problem offers e) ∙ hopeless_fitting problem [] (map offered_variable offers) (begun_first problem offers e distinct) hopeless))

-- ---- the outcome

more_than : (n : ℕ) (b : Bool) → nat_lt 20000 n ≡ b → nat_lt 20000 (min 20001 n) ≡ b
more_than n b e = grind (arith, nat_tests)

no_more : (n : ℕ) → nat_lt 20000 n ≡ false → n ≤ 20001
no_more n e = grind (arith, nat_tests)

answer_same : (f : Form) (predicates : List Form) (fits : List Choice) → predicates ≡ predicate_variables f → answer_by f predicates fits ≡ variants_by f fits
answer_same f predicates [] e = ap nothing_fits e
answer_same f predicates (choice ∷ more) e = refl

pub answer_outcome : (f : Form) (predicates : List Form) (all : List Choice) → predicates ≡ predicate_variables f → answer f predicates (take 20001 all) ≡ outcome f all
answer_outcome f predicates all e = go (nat_lt 20000 (length all)) refl
  where
    go : (b : Bool) → nat_lt 20000 (length all) ≡ b → answer f predicates (take 20001 all) ≡ (if b then TooMany else variants_by f all)
    go b is = ap (λ x. if x then TooMany else answer_by f predicates (take 20001 all)) (ap (nat_lt 20000) (length-take 20001 all) ∙ more_than (length all) b is) ∙ rest b is
      where
        rest : (b : Bool) → nat_lt 20000 (length all) ≡ b → (if b then TooMany else answer_by f predicates (take 20001 all)) ≡ (if b then TooMany else variants_by f all)
        rest true is = refl
        rest false is = ap (answer_by f predicates) (take_all 20001 all (no_more (length all) is)) ∙ answer_same f predicates all e

pub expansion_is : (links : List Link) (signatures : Signatures) (f : Form) (predicates rows : List Form) (problem : Problem) (expanded : Expanded)
    → IsProblem f (filter varies (compounds f)) predicates rows signatures links problem → predicates ≡ predicate_variables f → rows ≡ row_variables f
    → expanded ≡ answer f predicates (take 20001 (passing problem)) → IsExpansion links signatures f expanded
expansion_is links signatures f predicates rows problem expanded is first second e =
    let told : IsProblem f (filter varies (compounds f)) (predicate_variables f) rows signatures links problem = subst (λ names. IsProblem f (filter varies (compounds f)) names rows signatures links problem) first is in
    let relations : relations_of problem ≡ relations_in signatures = ap relations_in is.signatures in
    let variables : problem.variables ≡ chosen_for f = is.variables ∙ ap₂ ◌++◌ first second in
    let all = choices (relations_of problem) problem.variables in
    record {
      test = fits_by links signatures f;
      tells = fits_tells links signatures f;
      is = e ∙ answer_outcome f predicates (passing problem) first
          ∙ ap (outcome f) (kept_alike (passes problem false) (fits_by links signatures f) all
          (each_where _ all (λ choice has. passes_exact problem f rows signatures links choice told (each_has _ all choice (choices_for (relations_of problem) problem.variables) has).drawn))
          ∙ ap₂ (λ names vs. filter (fits_by links signatures f) (choices names vs)) relations variables);
    }

pub problem_distinct : (f : Form) (predicates rows : List Form) (signatures : Signatures) (links : List Link) (problem : Problem)
    → IsProblem f (filter varies (compounds f)) predicates rows signatures links problem → predicates ≡ predicate_variables f → rows ≡ row_variables f → AreDistinct problem.variables
problem_distinct f predicates rows signatures links problem is first second = subst AreDistinct (sym (is.variables ∙ ap₂ ◌++◌ first second)) (chosen_distinct f)

each_named : (relations : List Bytes) → map (λ (f : Form). f ∷ []) (map form.Word relations) ≡ relation_options relations
each_named [] = refl
each_named (relation ∷ relations) = ap (λ all. (form.Word relation ∷ []) ∷ all) (each_named relations)

pub names_of : (relations : List Bytes) (words : List Form) (all : List (List Form)) → all ≡ map (λ f. f ∷ []) words → words ≡ map form.Word relations → all ≡ relation_options relations
names_of relations words all e h = e ∙ ap (map (λ (f : Form). f ∷ [])) h ∙ each_named relations

pub predicates_of : (f : Form) (lists : List (List Form)) (free_ones predicates : List Form) → lists ≡ filter varies (compounds f) → free_ones ≡ free_names f
    → predicates ≡ filter (is_predicate lists) free_ones → predicates ≡ predicate_variables f
predicates_of f lists free_ones predicates e h is = is ∙ ap₂ (λ ls ns. filter (is_predicate ls) ns) e h ∙ predicates_exact f

pub rows_of : (f : Form) (free_ones rows : List Form) → free_ones ≡ free_names f → rows ≡ filter is_row free_ones → rows ≡ row_variables f
rows_of f free_ones rows h is = is ∙ ap (filter is_row) h
