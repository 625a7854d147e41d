-- A form in which nothing is chosen is its own one variant.
use Rattle.std.proofs.Common.{◌≡◌, List, [], ◌∷◌, ◌++◌, map, filter, Bool, true, false, not, ◌&&◌, ◌||◌, if◌then◌else◌, refl, sym, ap, ap₂, subst, ◌∙◌}
use Rattle.std.specs.Prelude.{codes}
use Rattle.std.specs.List.{list_any, list_all, flat_map}
use Rattle.std.specs.Str.{bytes_eq}
use Rattle.kif_tree.specs.declared.form.Form.{Form}
use Rattle.kif_tree.specs.declared.form.Form.TheVariants as form
use Rattle.kif_tree.specs.CompoundLaws.{compounds_other}
use Rattle.kif_tree.specs.FormLaws.{induction, fold-Row, fold-List}
use Rattle.kif_tree.specs.NameLaws.{free-Word, free-Variable, free-Numeral, free-Quoted, free-List}
use Rattle.kif_tree.specs.Names.{free, free_names, each_once, parts_in, parts_layer, bound, is_other}
use Rattle.kif_tree.specs.Profile.{compounds, operands, without_first, lists_variables, is_row_layer, is_logical, begins}
use Rattle.kif_tree.specs.Terms.{Bytes, same, clean, clean_step, has_no_row, after_head}
use Rattle.sigma_base.specs.Lists.{Each, each_filter}
use Rattle.signatures.specs.Tables.{relations_in}
use Rattle.signatures.specs.declared.signatures.Signatures.{Signatures}
use Rattle.taxonomy.specs.Told.{Link}
use Rattle.var_expand.specs.Choices.{choices, predicate_variables, row_variables, is_variable, is_row}
use Rattle.var_expand.specs.Conditions.{conditions, conjuncts, antecedents, is_condition, is_side}
use Rattle.var_expand.specs.Expansion.{IsExpansion, outcome}
use Rattle.var_expand.specs.Fitting.{varies, has_variable_head, arguments_fit, sentences_fit, counts_fit}
use Rattle.var_expand.specs.Gathered.{if_varies, if_applied, applied_below, is_as}
use Rattle.var_expand.specs.Problems.{is_predicate}
use Rattle.var_expand.specs.Search.{name_passes, count_passes}
use Rattle.var_expand.specs.Tested.{fits_by, conditions_fit}
use Rattle.var_expand.specs.declared.expanded.Expanded.{Expanded}
use Rattle.var_expand.specs.declared.expanded.Expanded.TheVariants.{Variants}
use Rattle.var_expand.proofs.ExactLaws.{fits_tells, arguments_exact, sentences_exact, counts_exact}
use Rattle.var_expand.proofs.FinalLaws.{predicates_exact}
use Rattle.var_expand.proofs.GatherLaws.{lists_of, applied_of}
use Rattle.var_expand.proofs.MemberLaws.{each_flat, none_kept}
use Rattle.var_expand.proofs.ReplacedLaws.{replaced_nothing}

false_true : false ≡ true → ⊥
false_true e = cc

and_both : (a b : Bool) → (a && b) ≡ true → (a ≡ true) × (b ≡ true)
and_both true true e = (refl, refl)
and_both true false e = absurd (cc)
and_both false b e = absurd (cc)

or_both : (a b : Bool) → (a || b) ≡ false → (a ≡ false) × (b ≡ false)
or_both false b e = (refl, e)
or_both true b e = absurd (cc)

-- ---- no row variable is free

clean-Row : (text : Bytes) → clean true (form.Row text) ≡ false
unfolding clean
clean-Row text = fold-Row Bool (clean_step true) text

clean-List : (parts : List Form) → clean true (form.List parts) ≡ list_all (λ part. part) (map (clean true) parts)
unfolding clean
clean-List parts = fold-List Bool (clean_step true) parts

abbrev NoRow : Form → Type 0
NoRow name = is_row name ≡ false

rowless_parts : (parts : List Form) → Each (λ f. clean true f ≡ true → Each NoRow (free f)) parts → list_all (λ part. part) (map (clean true) parts) ≡ true → Each (λ f. Each NoRow (free f)) parts
rowless_parts [] each e = tt
rowless_parts (f ∷ parts) each e = let b = and_both (clean true f) (list_all (λ part. part) (map (clean true) parts)) e in (each.0 b.0, rowless_parts parts each.1 b.1)

rowless : (f : Form) → clean true f ≡ true → Each NoRow (free f)
rowless = induction (λ f. clean true f ≡ true → Each NoRow (free f)) (record {
  word = λ text e. subst (Each NoRow) (sym (free-Word text)) tt;
  variable = λ text e. subst (Each NoRow) (sym (free-Variable text)) (ap is_row_layer (form.outs-Variable text), tt);
  row = λ text e. absurd (false_true (sym (clean-Row text) ∙ e));
  numeral = λ text e. subst (Each NoRow) (sym (free-Numeral text)) tt;
  quoted = λ text e. subst (Each NoRow) (sym (free-Quoted text)) tt;
  list = λ parts each e. subst (Each NoRow) (sym (free-List parts))
      (each_filter NoRow (is_other (bound parts)) (flat_map free parts) (each_flat NoRow free parts (rowless_parts parts each (sym (clean-List parts) ∙ e))));
})

once_rowless : (names : List Form) → Each NoRow names → Each NoRow (each_once names)
once_rowless [] h = tt
once_rowless (f ∷ names) h = (h.0, each_filter NoRow (λ other. not (same f other)) (each_once names) (once_rowless names h.1))

no_rows : (f : Form) → has_no_row f ≡ true → row_variables f ≡ []
no_rows f e = none_kept is_row (free_names f) (once_rowless (free f) (rowless f e))

-- ---- no variable heads a list

nil_left : {X : Type 0} (xs ys : List X) → xs ++ ys ≡ [] → xs ≡ []
nil_left [] ys e = refl
nil_left (x ∷ xs) ys e = absurd (cc)

nil_right : {X : Type 0} (xs ys : List X) → xs ++ ys ≡ [] → ys ≡ []
nil_right [] ys e = e
nil_right (x ∷ xs) ys e = absurd (cc)

each_nothing : {X Y : Type 0} (f : X → List Y) (xs : List X) → flat_map f xs ≡ [] → Each (λ x. f x ≡ []) xs
each_nothing f [] e = tt
each_nothing f (x ∷ xs) e = (nil_left (f x) (flat_map f xs) e, each_nothing f xs (nil_right (f x) (flat_map f xs) e))

flat_nothing : {X Y : Type 0} (f : X → List Y) (xs : List X) → Each (λ x. f x ≡ []) xs → flat_map f xs ≡ []
flat_nothing f [] h = refl
flat_nothing f (x ∷ xs) h = ap₂ ◌++◌ h.0 (flat_nothing f xs h.1)

pub record IsBare (f : Form) : Type 0 where
  pub itself : if_applied f ≡ []
  pub inside : (logical : Bool) → flat_map (applied_below logical) (compounds f) ≡ []

no_head : (f : Form) (parts : List Form) → parts_in f ≡ parts → has_variable_head parts ≡ false → if_applied f ≡ []
no_head f parts is e = ap (λ ps. if has_variable_head ps then ps ∷ [] else []) is ∙ ap (λ b. if b then parts ∷ [] else []) e

leaf : (f : Form) → parts_in f ≡ [] → compounds f ≡ [] → IsBare f
leaf f e h = record { itself = no_head f [] e refl; inside = λ logical. ap (flat_map (applied_below logical)) h }

still : (parts : List Form) → if_varies parts ≡ [] → has_variable_head parts ≡ false
still [] e = refl
still (head ∷ arguments) e = go (has_variable_head (head ∷ arguments)) (list_any is_row arguments) e
  where
    go : (a b : Bool) → (if a || b then (head ∷ arguments) ∷ [] else []) ≡ [] → a ≡ false
    go true b e = absurd (cc)
    go false b e = refl

each_after : {X : Type 0} (P : X → Type 0) (xs : List X) → Each P xs → Each P (after_head xs)
each_after P [] h = tt
each_after P (x ∷ xs) h = h.1

each_operand : (P : Form → Type 0) (parts : List Form) → Each P parts → Each P (operands parts)
each_operand P parts h = go (lists_variables parts) (each_after P parts h)
  where
    go : (b : Bool) → Each P (after_head parts) → Each P (without_first b (after_head parts))
    go true h = each_after P (after_head parts) h
    go false h = h

bare_parts : (fs : List Form) → Each (λ f. filter varies (compounds f) ≡ [] → IsBare f) fs → Each (λ f. filter varies (compounds f) ≡ []) fs → Each IsBare fs
bare_parts [] each h = tt
bare_parts (f ∷ fs) each h = (each.0 h.0, bare_parts fs each.1 h.1)

each_itself : (fs : List Form) → Each IsBare fs → Each (λ f. if_applied f ≡ []) fs
each_itself [] h = tt
each_itself (f ∷ fs) h = (h.0.itself, each_itself fs h.1)

each_inside : (logical : Bool) (fs : List Form) → Each IsBare fs → Each (λ f. flat_map (applied_below logical) (compounds f) ≡ []) fs
each_inside logical [] h = tt
each_inside logical (f ∷ fs) h = (h.0.inside logical, each_inside logical fs h.1)

below_nothing : (logical : Bool) (parts : List Form) → flat_map if_applied (operands parts) ≡ [] → applied_below logical parts ≡ []
below_nothing logical parts e = go (is_as logical (is_logical parts))
  where
    go : (b : Bool) → (if b then flat_map if_applied (operands parts) else []) ≡ []
    go true = e
    go false = refl

bare_list : (parts : List Form) → Each (λ f. filter varies (compounds f) ≡ [] → IsBare f) parts → filter varies (compounds (form.List parts)) ≡ [] → IsBare (form.List parts)
bare_list parts each e =
    let none = sym (lists_of parts) ∙ e in
    let all = bare_parts (operands parts) (each_operand _ parts each) (each_nothing (λ part. filter varies (compounds part)) (operands parts) (nil_right (if_varies parts) _ none)) in
    record {
      itself = no_head (form.List parts) parts (ap parts_layer (form.outs-List parts)) (still parts (nil_left (if_varies parts) _ none));
      inside = λ logical. applied_of logical parts ∙ ap₂ ◌++◌ (below_nothing logical parts (flat_nothing if_applied (operands parts) (each_itself (operands parts) all)))
          (flat_nothing (λ part. flat_map (applied_below logical) (compounds part)) (operands parts) (each_inside logical (operands parts) all));
    }

bare : (f : Form) → filter varies (compounds f) ≡ [] → IsBare f
bare = induction (λ f. filter varies (compounds f) ≡ [] → IsBare f) (record {
  word = λ text e. leaf (form.Word text) (ap parts_layer (form.outs-Word text)) (compounds_other (form.Word text) (λ parts h. absurd (cc)));
  variable = λ text e. leaf (form.Variable text) (ap parts_layer (form.outs-Variable text)) (compounds_other (form.Variable text) (λ parts h. absurd (cc)));
  row = λ text e. leaf (form.Row text) (ap parts_layer (form.outs-Row text)) (compounds_other (form.Row text) (λ parts h. absurd (cc)));
  numeral = λ text e. leaf (form.Numeral text) (ap parts_layer (form.outs-Numeral text)) (compounds_other (form.Numeral text) (λ parts h. absurd (cc)));
  quoted = λ text e. leaf (form.Quoted text) (ap parts_layer (form.outs-Quoted text)) (compounds_other (form.Quoted text) (λ parts h. absurd (cc)));
  list = bare_list;
})

-- ---- nothing is asked

never : (b : Bool) → (b && false) ≡ false
never true = refl
never false = refl

none_heads : (name : Form) → is_predicate [] name ≡ false
unfolding is_predicate
none_heads name = never (is_variable name)

no_predicate : (names : List Form) → filter (is_predicate []) names ≡ []
no_predicate [] = refl
no_predicate (name ∷ names) = ap (λ b. if b then name ∷ filter (is_predicate []) names else filter (is_predicate []) names) (none_heads name) ∙ no_predicate names

no_predicates : (f : Form) → filter varies (compounds f) ≡ [] → predicate_variables f ≡ []
no_predicates f e = sym (predicates_exact f) ∙ ap (λ lists. filter (is_predicate lists) (free_names f)) e ∙ no_predicate (free_names f)

no_condition : (a b c : Bool) → ((a && false) || (b && (c && false))) ≡ false
no_condition true true true = refl
no_condition true true false = refl
no_condition true false c = refl
no_condition false true true = refl
no_condition false true false = refl
no_condition false false c = refl

nobody_asks : (parts : List Form) → is_condition [] parts ≡ false
nobody_asks [] = refl
nobody_asks (a ∷ []) = refl
nobody_asks (a ∷ b ∷ []) = refl
nobody_asks (head ∷ low ∷ high ∷ []) = no_condition (begins (bytes_eq (codes "instance")) (head ∷ [])) (begins (bytes_eq (codes "subrelation")) (head ∷ [])) (is_side [] low && is_side [] high)
nobody_asks (a ∷ b ∷ c ∷ d ∷ more) = refl

nothing_asked : (lists : List (List Form)) → filter (is_condition []) lists ≡ []
nothing_asked [] = refl
nothing_asked (parts ∷ lists) = ap (λ b. if b then parts ∷ filter (is_condition []) lists else filter (is_condition []) lists) (nobody_asks parts) ∙ nothing_asked lists

no_conditions : (f : Form) → predicate_variables f ≡ [] → conditions f ≡ []
no_conditions f e = ap (λ predicates. filter (is_condition predicates) (map parts_in (flat_map conjuncts (antecedents (parts_in f))))) e
    ∙ nothing_asked (map parts_in (flat_map conjuncts (antecedents (parts_in f))))

nothing_passes : (links : List Link) (signatures : Signatures) (f : Form) → filter varies (compounds f) ≡ [] → fits_by links signatures f [] ≡ true
nothing_passes links signatures f e =
    let is = bare f e in
    let arguments : arguments_fit f [] ≡ true = sym (arguments_exact [] f [] tt) ∙ ap (list_all (name_passes false true [])) (is.inside false) in
    let sentences : sentences_fit f [] ≡ true = sym (sentences_exact [] f [] tt) ∙ ap₂ (λ xs ys. list_all (name_passes false false []) (xs ++ ys)) is.itself (is.inside true) in
    let asked : conditions_fit links f [] ≡ true = ap (list_all _) (no_conditions f (no_predicates f e)) in
    let counts : counts_fit signatures f [] ≡ true = sym (counts_exact [] signatures f [] tt) ∙ ap (list_all (count_passes signatures false [])) e in
    ap₂ ◌&&◌ arguments (ap₂ ◌&&◌ sentences (ap₂ ◌&&◌ asked counts))

pub nothing_chosen : (links : List Link) (signatures : Signatures) (f : Form) (expanded : Expanded) → filter varies (compounds f) ≡ [] → has_no_row f ≡ true
    → expanded ≡ Variants (f ∷ []) → IsExpansion links signatures f expanded
nothing_chosen links signatures f expanded e no_row is = record {
  test = fits_by links signatures f;
  tells = fits_tells links signatures f;
  is = is ∙ sym (ap (λ g. Variants (g ∷ [])) (replaced_nothing f))
      ∙ sym (ap (λ b. outcome f (if b then [] ∷ [] else [])) (nothing_passes links signatures f e))
      ∙ sym (ap (λ vs. outcome f (filter (fits_by links signatures f) (choices (relations_in signatures) vs))) (ap₂ ◌++◌ (no_predicates f e) (no_rows f no_row)));
}
