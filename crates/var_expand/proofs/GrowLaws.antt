-- The choices that fit and begin so, by what the next variable becomes.
use Rattle.std.proofs.Common.{◌≡◌, List, [], ◌∷◌, ◌++◌, map, filter, Bool, true, false, ◌||◌, if◌then◌else◌, Option, Some, None, refl, sym, ap, ap₂, subst, ◌∙◌, append_assoc}
use Rattle.std.specs.List.{list_any, flat_map}
use Rattle.std.proofs.lemmas.List.{map-append}
use Rattle.kif_tree.specs.declared.form.Form.{Form}
use Rattle.kif_tree.specs.SameLaws.{same-Decides}
use Rattle.kif_tree.specs.Terms.{Bytes, same}
use Rattle.sigma_base.specs.Lists.{Each}
use Rattle.var_expand.specs.Choices.{Setting, Choice, sets, options, choices, becomes_by}
use Rattle.var_expand.specs.Chosen.{set_to}
use Rattle.var_expand.specs.Offered.{Offered}
use Rattle.var_expand.specs.Search.{Has, IsDrawn, IsWhole, Agrees, IsHopeless, IsOffer, IsBegun, AreDistinct, keeps, fitting, variable_of, relations_of, passes}
use Rattle.var_expand.specs.declared.fitting.Problem.{Problem}
use Rattle.var_expand.proofs.AgreeLaws.{agrees_longer, agrees_more, agrees_none}
use Rattle.var_expand.proofs.GatherLaws.{filter-append}
use Rattle.var_expand.proofs.MemberLaws.{each_has, each_where, each_mapped, each_joined, each_flat, none_kept, only_kept, append_none}
use Rattle.var_expand.proofs.SoundLaws.{hopeless_now}

-- ---- all choices for some variables are drawn, one for each

pub record IsFor (relations : List Bytes) (variables : List Form) (choice : Choice) : Type 0 where
  pub covers : map variable_of choice ≡ variables
  pub drawn : IsDrawn relations choice

pub choices_for : (relations : List Bytes) (variables : List Form) → Each (IsFor relations variables) (choices relations variables)
choices_for relations [] = (record { covers = refl; drawn = tt }, tt)
choices_for relations (v ∷ vs) = each_flat (IsFor relations (v ∷ vs)) (λ b. map (λ choice. sets v b ∷ choice) (choices relations vs)) (options relations v)
    (each_where (λ b. Each (IsFor relations (v ∷ vs)) (map (λ choice. sets v b ∷ choice) (choices relations vs))) (options relations v)
    (λ b has. each_mapped (IsFor relations (v ∷ vs)) (λ choice. sets v b ∷ choice) (choices relations vs)
    (each_where (λ choice. IsFor relations (v ∷ vs) (sets v b ∷ choice)) (choices relations vs)
    (λ choice h. let is = each_has (IsFor relations vs) (choices relations vs) choice (choices_for relations vs) h in
    record { covers = ap (λ ys. v ∷ ys) is.covers; drawn = (has, is.drawn) }))))

whole_of : (problem : Problem) (p : Choice) (vs : List Form) (choice : Choice) → IsBegun problem p vs → IsFor (relations_of problem) vs choice → IsWhole problem (p ++ choice)
whole_of problem p vs choice begun is = record {
  covers = map-append variable_of p choice ∙ ap (λ ys. map variable_of p ++ ys) is.covers ∙ begun.covers;
  drawn = each_joined _ p choice begun.drawn is.drawn;
}

-- where no choice that fits agrees, none that begins so fits
pub nothing_fits : (problem : Problem) (p q : Choice) (vs : List Form) → IsBegun problem p vs → IsHopeless problem q → ((choice : Choice) → Agrees q (p ++ choice)) → fitting problem p vs ≡ []
nothing_fits problem p q vs begun hopeless agrees = none_kept (passes problem false) (map (λ choice. p ++ choice) (choices (relations_of problem) vs))
    (each_mapped (λ whole. passes problem false whole ≡ false) (λ choice. p ++ choice) (choices (relations_of problem) vs)
    (each_where (λ choice. passes problem false (p ++ choice) ≡ false) (choices (relations_of problem) vs)
    (λ choice h. hopeless.none (p ++ choice) (whole_of problem p vs choice begun (each_has (IsFor (relations_of problem) vs) (choices (relations_of problem) vs) choice (choices_for (relations_of problem) vs) h)) (agrees choice))))

pub hopeless_fitting : (problem : Problem) (p : Choice) (vs : List Form) → IsBegun problem p vs → IsHopeless problem p → fitting problem p vs ≡ []
hopeless_fitting problem p vs begun hopeless = nothing_fits problem p p vs begun hopeless (λ choice. agrees_longer p choice)

-- ---- one variable more

map_both : {X Y Z : Type 0} (f : X → Y) (g : Y → Z) (h : X → Z) → ((x : X) → g (f x) ≡ h x) → (xs : List X) → map g (map f xs) ≡ map h xs
map_both f g h e [] = refl
map_both f g h e (x ∷ xs) = ap₂ ◌∷◌ (e x) (map_both f g h e xs)

one_option : (problem : Problem) (p : Choice) (v : Form) (b : List Form) (cs : List Choice)
    → map (λ choice. p ++ choice) (map (λ choice. sets v b ∷ choice) cs) ≡ map (λ choice. (p ++ sets v b ∷ []) ++ choice) cs
one_option problem p v b cs = map_both (λ choice. sets v b ∷ choice) (λ choice. p ++ choice) (λ choice. (p ++ sets v b ∷ []) ++ choice) (λ choice. sym (append_assoc p (sets v b ∷ []) choice)) cs

each_option : (problem : Problem) (p : Choice) (v : Form) (cs : List Choice) (bs : List (List Form))
    → filter (passes problem false) (map (λ choice. p ++ choice) (flat_map (λ b. map (λ choice. sets v b ∷ choice) cs) bs))
    ≡ flat_map (λ b. filter (passes problem false) (map (λ choice. (p ++ sets v b ∷ []) ++ choice) cs)) bs
each_option problem p v cs [] = refl
each_option problem p v cs (b ∷ bs) =
    ap (filter (passes problem false)) (map-append (λ choice. p ++ choice) (map (λ choice. sets v b ∷ choice) cs) (flat_map (λ x. map (λ choice. sets v x ∷ choice) cs) bs))
    ∙ filter-append (passes problem false) (map (λ choice. p ++ choice) (map (λ choice. sets v b ∷ choice) cs)) (map (λ choice. p ++ choice) (flat_map (λ x. map (λ choice. sets v x ∷ choice) cs) bs))
    ∙ ap₂ ◌++◌ (ap (filter (passes problem false)) (one_option problem p v b cs)) (each_option problem p v cs bs)

-- ---- variables stand once

or_false : (a b : Bool) → (a || b) ≡ false → (a ≡ false) × (b ≡ false)
or_false false b e = (refl, e)
or_false true b e = absurd (cc)

true_false : true ≡ false → ⊥
true_false e = cc

any_here : (x : Form) (xs ys : List Form) (v : Form) → list_any (same x) (xs ++ v ∷ ys) ≡ false → same x v ≡ false
any_here x [] ys v e = (or_false (same x v) (list_any (same x) ys) e).0
any_here x (z ∷ xs) ys v e = any_here x xs ys v (or_false (same x z) (list_any (same x) (xs ++ v ∷ ys)) e).1

unset_step : (s : Setting) (v : Form) (set : Option (List Form)) (here : Bool) → here ≡ false → set ≡ None → (if here then Some s.becomes else set) ≡ None
unset_step s v set true e h = absurd (true_false e)
unset_step s v set false e h = h

unset_before : (p : Choice) (v : Form) (vs : List Form) → AreDistinct (map variable_of p ++ v ∷ vs) → set_to p v ≡ None
unset_before [] v vs h = refl
unset_before (s ∷ p) v vs h = unset_step s v (set_to p v) (same s.variable v) (any_here s.variable (map variable_of p) vs v h.0) (unset_before p v vs h.1)

-- what is set last counts where nothing was set before
set_last_step : (f : Form) (b early late target : List Form) (set : Option (List Form)) (here : Bool) → (if here then Some b else set) ≡ None → (set ≡ None → late ≡ target) → (if here then b else late) ≡ target
set_last_step f b early late target set true e h = absurd (cc)
set_last_step f b early late target set false e h = h e

set_last : (p : Choice) (v : Form) (b : List Form) (choice : Choice) → set_to p v ≡ None → becomes_by (p ++ sets v b ∷ choice) v ≡ b
set_last [] v b choice e = ap (λ here. if here then b else becomes_by choice v) ((same-Decides v v).1 refl)
set_last (s ∷ p) v b choice e = set_last_step v s.becomes [] (becomes_by (p ++ sets v b ∷ choice) v) b (set_to p v) (same s.variable v) e (set_last p v b choice)

pub begun_more : (problem : Problem) (p : Choice) (v : Form) (b : List Form) (vs : List Form) → IsBegun problem p (v ∷ vs) → Has (options (relations_of problem) v) b → IsBegun problem (p ++ sets v b ∷ []) vs
begun_more problem p v b vs begun has = record {
  covers = ap (λ ys. ys ++ vs) (map-append variable_of p (sets v b ∷ [])) ∙ append_assoc (map variable_of p) (v ∷ []) vs ∙ begun.covers;
  distinct = begun.distinct;
  drawn = each_joined _ p (sets v b ∷ []) begun.drawn (has, tt);
}

-- an option that the variable's own lists don't allow leads to nothing
left_out : (problem : Problem) (p : Choice) (v : Form) (b : List Form) (vs : List Form) → IsBegun problem p (v ∷ vs) → Has (options (relations_of problem) v) b
    → keeps problem v b ≡ false → fitting problem (p ++ sets v b ∷ []) vs ≡ []
left_out problem p v b vs begun has e = nothing_fits problem (p ++ sets v b ∷ []) (sets v b ∷ []) vs (begun_more problem p v b vs begun has) (hopeless_now problem (sets v b ∷ []) e)
    (λ choice. agrees_more [] ((p ++ sets v b ∷ []) ++ choice) v b (agrees_none _)
    (ap (λ whole. becomes_by whole v) (append_assoc p (sets v b ∷ []) choice) ∙ set_last p v b choice (unset_before p v vs (subst AreDistinct (sym begun.covers) begun.distinct))))

-- the choices that fit, by what the next variable becomes
pub fitting_next : (problem : Problem) (p : Choice) (offer : Offered) (vs : List Form) → IsBegun problem p (offer.variable ∷ vs) → IsOffer problem offer
    → flat_map (λ b. fitting problem (p ++ sets offer.variable b ∷ []) vs) offer.allowed ≡ fitting problem p (offer.variable ∷ vs)
fitting_next problem p offer vs begun is =
    ap (flat_map (λ b. fitting problem (p ++ sets offer.variable b ∷ []) vs)) is.allows
    ∙ only_kept (keeps problem offer.variable) (λ b. fitting problem (p ++ sets offer.variable b ∷ []) vs) (options (relations_of problem) offer.variable)
    (each_where _ (options (relations_of problem) offer.variable) (λ b has. left_out problem p offer.variable b vs begun has))
    ∙ sym (each_option problem p offer.variable (choices (relations_of problem) vs) (options (relations_of problem) offer.variable))

-- nothing is left to choose
pub fitting_whole : (problem : Problem) (p : Choice) → fitting problem p [] ≡ filter (passes problem false) (p ∷ [])
fitting_whole problem p = ap (λ whole. filter (passes problem false) (whole ∷ [])) (append_none p)

pub fitting_all : (problem : Problem) (vs : List Form) → fitting problem [] vs ≡ filter (passes problem false) (choices (relations_of problem) vs)
fitting_all problem vs = ap (filter (passes problem false)) (itself (choices (relations_of problem) vs))
  where
    itself : (cs : List Choice) → map (λ choice. [] ++ choice) cs ≡ cs
    itself [] = refl
    itself (c ∷ cs) = ap (λ ds. c ∷ ds) (itself cs)
