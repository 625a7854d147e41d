-- A plain form is its own expansion, guarded form and clause.
use Rattle.std.proofs.Common.{◌≡◌, List, [], ◌∷◌, ◌++◌, map, filter, Bool, true, false, not, ◌&&◌, ◌||◌, if◌then◌else◌, codes, refl, sym, ap, ap₂, ◌∙◌, subst}
use Rattle.std.specs.Prelude.{Some, None}
use Rattle.std.specs.List.{list_all, list_any, flat_map}
use Rattle.std.specs.Str.{bytes_eq}
use Rattle.std.proofs.lemmas.Slice.Eq.{bytes_eq-Decides}
use Rattle.sigma_base.specs.Lists.{Each, each_append, each_map}
use Rattle.kif_tree.specs.declared.form.Form.{Form, out-Form, roll-Form, roll-out-Form}
use Rattle.kif_tree.specs.declared.form.Form.TheOpen.{Form-F}
use Rattle.kif_tree.specs.declared.form.Form.TheVariants as form
use Rattle.kif_tree.specs.declared.place.Located.{Located}
use Rattle.kif_tree.specs.Clauses.{is_word, heads_layer, is_headed}
use Rattle.kif_tree.specs.CompoundLaws.{compounds-List, compounds_other}
use Rattle.kif_tree.specs.NameLaws.{free-Word, free-Numeral, free-Quoted, free-List}
use Rattle.kif_tree.specs.Names.{parts_in, parts_layer, bound, free, each_once, is_other, is_function_word}
use Rattle.kif_tree.specs.Profile.{operands, compounds, begins, passes, is_logical, is_variable_layer, is_row_layer, arguments_in, sentences, is_in_profile, is_formula, is_function_list, lists_row, applies_own, begins_with_one}
use Rattle.kif_tree.specs.Shape.{is_among, logical_words, quantifiers, is_list, is_list_layer, is_quantifier, lists_names_layer}
use Rattle.kif_tree.specs.Subst.{Filling, bind, lookup}
use Rattle.kif_tree.specs.Terms.{Bytes}
use Rattle.kif_tree.proofs.SubstLaws.{bind-Word, bind-Numeral, bind-Quoted, bind-List}
use Rattle.taxonomy.specs.Told.{Link}
use Rattle.signatures.specs.Arities.{shown_heads}
use Rattle.signatures.specs.Relations.{is_shown}
use Rattle.signatures.specs.Tables.{relations_in}
use Rattle.signatures.specs.declared.signatures.Signatures.{Signatures}
use Rattle.calculus.specs.Equality.{yes}
use Rattle.calculus.specs.Tidy.{tidy, renaming}
use Rattle.calculus.proofs.TruthLaws.{false_true}
use Rattle.clause_form.specs.ClauseForms.{clause_form, clauses_within, skolem_prefix}
use Rattle.clause_form.specs.Connectives.{connective_named}
use Rattle.clause_form.specs.Matrices.{distribution}
use Rattle.clause_form.specs.MatrixLaws.{distribution-Literal}
use Rattle.clause_form.specs.ReadingLaws.{reading_plain}
use Rattle.clause_form.specs.Readings.{matrix_of, outermost, nothing}
use Rattle.clause_form.specs.declared.conversion.ClauseForm.TheVariants.{Clauses}
use Rattle.clause_form.specs.declared.conversion.SkolemBase.{SkolemBase}
use Rattle.clause_form.specs.declared.matrix.Matrix.TheVariants as matrix
use Rattle.clause_form.proofs.AtomLaws.{each_of_true}
use Rattle.clause_form.proofs.ProfiledLaws.{by_word, connective-Word, quantifier-Word, logical-Word, operands_plain}
use Rattle.var_expand.specs.Choices.{is_variable, is_row, heads_a_list, predicate_variables, chosen_for, choices, after}
use Rattle.var_expand.specs.Conditions.{antecedents, conjuncts, conditions, is_condition, IsMet}
use Rattle.var_expand.specs.Expansion.{IsExpansion, outcome}
use Rattle.var_expand.specs.Fitting.{Fits, has_variable_head, varies, has_count, is_application, becomes_term}
use Rattle.var_expand.specs.declared.expanded.Expanded.{Expanded}
use Rattle.var_expand.specs.declared.expanded.Expanded.TheVariants as expanded
use Rattle.var_expand.proofs.MemberLaws.{none_kept}
use Rattle.var_expand.proofs.ReplacedLaws.{replaced_nothing}
use Rattle.type_guard.specs.Guarded.{closed, closed_over, guarded}
use Rattle.type_guard.specs.GuardedLaws.{guarded_plain, guarded_other}
use Rattle.translate.specs.Laws.{PlainGivesItself, PlainIsInProfile, PlainIsNotShown}
use Rattle.translate.specs.Pieces.{IsPieceWhere, left_out, head_text, form_of, is_too_many, clauses_in, of_variants, of_expanded}
use Rattle.translate.specs.PlainForms.{is_constant, is_constant_layer, itself}
use Rattle.translate.specs.declared.translated.Guarded.{Guarded}
use Rattle.translate.proofs.GuardLaws.{no_list}

-- ---- lists in which nothing is found

flat_none : {X Y : Type 0} (f : X → List Y) (xs : List X) → Each (λ x. f x ≡ []) xs → flat_map f xs ≡ []
flat_none f [] each = refl
flat_none f (x ∷ xs) each = ap₂ ◌++◌ each.0 (flat_none f xs each.1)

any_none : {X : Type 0} (p : X → Bool) (xs : List X) → Each (λ x. p x ≡ false) xs → list_any p xs ≡ false
any_none p [] each = refl
any_none p (x ∷ xs) each = ap₂ ◌||◌ each.0 (any_none p xs each.1)

map_kept : {X : Type 0} (f : X → X) (xs : List X) → Each (λ x. f x ≡ x) xs → map f xs ≡ xs
map_kept f [] each = refl
map_kept f (x ∷ xs) each = ap₂ ◌∷◌ each.0 (map_kept f xs each.1)

-- ---- words, numerals and strings

record IsLeaf (f : Form) : Type 0 where
  pub list : is_list f ≡ false
  pub row : is_row f ≡ false
  pub parts : parts_in f ≡ []
  pub names : lists_names_layer (out-Form f) ≡ false
  pub closed : free f ≡ []
  pub stays : (g : Filling) → bind g f ≡ f

word_leaf : (text : Bytes) → IsLeaf (form.Word text)
word_leaf text = record {
  list = ap is_list_layer (form.outs-Word text);
  row = ap is_row_layer (form.outs-Word text);
  parts = ap parts_layer (form.outs-Word text);
  names = ap lists_names_layer (form.outs-Word text);
  closed = free-Word text;
  stays = λ g. bind-Word g text;
}

numeral_leaf : (text : Bytes) → IsLeaf (form.Numeral text)
numeral_leaf text = record {
  list = ap is_list_layer (form.outs-Numeral text);
  row = ap is_row_layer (form.outs-Numeral text);
  parts = ap parts_layer (form.outs-Numeral text);
  names = ap lists_names_layer (form.outs-Numeral text);
  closed = free-Numeral text;
  stays = λ g. bind-Numeral g text;
}

quoted_leaf : (text : Bytes) → IsLeaf (form.Quoted text)
quoted_leaf text = record {
  list = ap is_list_layer (form.outs-Quoted text);
  row = ap is_row_layer (form.outs-Quoted text);
  parts = ap parts_layer (form.outs-Quoted text);
  names = ap lists_names_layer (form.outs-Quoted text);
  closed = free-Quoted text;
  stays = λ g. bind-Quoted g text;
}

constant_layer : (layer : Form-F Form) → is_constant_layer layer ≡ true → IsLeaf (roll-Form layer)
constant_layer (Form-F.Word text) h = subst IsLeaf (sym (form.rolls-Word text)) (word_leaf text)
constant_layer (Form-F.Variable text) h = absurd (false_true h)
constant_layer (Form-F.Row text) h = absurd (false_true h)
constant_layer (Form-F.Numeral text) h = subst IsLeaf (sym (form.rolls-Numeral text)) (numeral_leaf text)
constant_layer (Form-F.Quoted text) h = subst IsLeaf (sym (form.rolls-Quoted text)) (quoted_leaf text)
constant_layer (Form-F.List parts) h = absurd (false_true h)

constant_leaf : (f : Form) → is_constant f ≡ true → IsLeaf f
constant_leaf f h = subst IsLeaf (roll-out-Form f) (constant_layer (out-Form f) h)

-- ---- words that aren't logical

record IsPlainHead (word : Bytes) : Type 0 where
  pub named : connective_named word ≡ None
  pub quantifies : is_among quantifiers word ≡ false
  pub implies : bytes_eq (codes "=>") word ≡ false

or_false : (b c : Bool) → (b || c) ≡ false → (b ≡ false) × (c ≡ false)
or_false true c h = absurd (false_true (sym h))
or_false false c h = (refl, h)

no_implication : (word : Bytes) → is_among logical_words word ≡ false → bytes_eq (codes "=>") word ≡ false
no_implication word h = go (bytes_eq (codes "=>") word) refl
  where
    go : (b : Bool) → bytes_eq (codes "=>") word ≡ b → b ≡ false
    go true e = absurd (false_true (sym (ap (is_among logical_words) ((bytes_eq-Decides (codes "=>") word).0 e) ∙ h)))
    go false e = refl

plain_head : (word : Bytes) → is_among logical_words word ≡ false → IsPlainHead word
plain_head = by_word (λ word. is_among logical_words word ≡ false → IsPlainHead word) (record {
  negation = λ h. absurd (false_true (sym h));
  conjunction = λ h. absurd (false_true (sym h));
  disjunction = λ h. absurd (false_true (sym h));
  implication = λ h. absurd (false_true (sym h));
  equivalence = λ h. absurd (false_true (sym h));
  universal = λ h. absurd (false_true (sym h));
  existential = λ h. absurd (false_true (sym h));
  plain = λ word is h. record { named = is.named; quantifies = is.quantifies; implies = no_implication word h };
})

-- ---- a plain form

module _ (head : Bytes) (arguments : List Form) (plain : is_among logical_words head ≡ false) (constant : list_all is_constant arguments ≡ true) where
  abbrev parts : List Form
  parts = form.Word head ∷ arguments

  abbrev f : Form
  f = form.List parts

  leaves : Each IsLeaf arguments
  leaves = each_map (λ g. is_constant g ≡ true) IsLeaf constant_leaf arguments (each_of_true is_constant arguments constant)

  -- ---- its lists and names

  parts_are : parts_in f ≡ parts
  parts_are = ap parts_layer (form.outs-List parts)

  operands_are : operands parts ≡ arguments
  operands_are = operands_plain head arguments (plain_head head plain).quantifies

  compounds_are : compounds f ≡ parts ∷ []
  compounds_are =
      compounds-List parts ∙ ap (λ fs. parts ∷ flat_map compounds fs) operands_are
      ∙ ap (λ ls. parts ∷ ls) (flat_none compounds arguments (each_map IsLeaf (λ g. compounds g ≡ []) (λ g leaf. compounds_other g (no_list g leaf.list)) arguments leaves))

  no_free : free f ≡ []
  no_free =
      free-List parts
      ∙ ap (filter (is_other (bound parts))) (flat_none free parts (free-Word head, each_map IsLeaf (λ g. free g ≡ []) (λ g leaf. leaf.closed) arguments leaves))

  none_chosen : chosen_for f ≡ []
  none_chosen = ap (λ names. filter (λ name. is_variable name && heads_a_list f name) (each_once names) ++ filter is_row (each_once names)) no_free

  stays : (g : Filling) → bind g f ≡ f
  stays g = bind-List g parts ∙ ap form.List (map_kept (bind g) parts (bind-Word g head, each_map IsLeaf (λ x. bind g x ≡ x) (λ x leaf. leaf.stays g) arguments leaves))

  -- ---- it fits with nothing chosen

  not_logical : is_logical parts ≡ false
  not_logical = logical-Word head arguments ∙ plain

  no_variable : is_variable (form.Word head) ≡ false
  no_variable = ap is_variable_layer (form.outs-Word head)

  nothing_varies : varies parts ≡ false
  nothing_varies = ap₂ ◌||◌ no_variable (any_none is_row arguments (each_map IsLeaf (λ g. is_row g ≡ false) (λ g leaf. leaf.row) arguments leaves))

  arguments_are : arguments_in f ≡ arguments ++ []
  arguments_are =
      ap (λ ls. flat_map operands (filter (λ ps. not (is_logical ps)) ls)) compounds_are
      ∙ ap (λ b. flat_map operands (if not b then parts ∷ [] else [])) not_logical
      ∙ ap (λ fs. fs ++ []) operands_are

  sentences_are : sentences f ≡ f ∷ []
  sentences_are =
      ap (λ ls. f ∷ flat_map operands (filter is_logical ls)) compounds_are
      ∙ ap (λ b. f ∷ flat_map operands (if b then parts ∷ [] else [])) not_logical

  each_argument : (p : Form → Bool) → ((g : Form) → IsLeaf g → p g ≡ false) → Each (λ g. p g ≡ false) (arguments ++ [])
  each_argument p h = each_append (λ g. p g ≡ false) arguments [] (each_map IsLeaf (λ g. p g ≡ false) h arguments leaves) tt

  none_applied : filter is_application (arguments_in f) ≡ []
  none_applied = ap (filter is_application) arguments_are ∙ none_kept is_application (arguments ++ []) (each_argument is_application (λ g leaf. ap has_variable_head leaf.parts))

  not_applied : filter is_application (sentences f) ≡ []
  not_applied = ap (filter is_application) sentences_are ∙ none_kept is_application (f ∷ []) (ap has_variable_head parts_are ∙ no_variable, tt)

  no_antecedent : (fs : List Form) → antecedents (form.Word head ∷ fs) ≡ []
  no_antecedent [] = refl
  no_antecedent (a ∷ []) = refl
  no_antecedent (a ∷ b ∷ []) =
      ap (λ named. if named then a ∷ [] else []) (ap (passes (bytes_eq (codes "=>"))) (form.outs-Word head) ∙ (plain_head head plain).implies)
  no_antecedent (a ∷ b ∷ c ∷ fs) = refl

  no_conditions : conditions f ≡ []
  no_conditions = ap (λ fs. filter (is_condition (predicate_variables f)) (map parts_in (flat_map conjuncts fs))) (ap antecedents parts_are ∙ no_antecedent arguments)

  fits_unchanged : (links : List Link) (signatures : Signatures) → Fits links signatures f []
  fits_unchanged links signatures = record {
    counts =
        ap (λ ls. list_all (λ ps. has_count signatures (after [] ps)) (filter varies ls)) compounds_are
        ∙ ap (λ b. list_all (λ ps. has_count signatures (after [] ps)) (if b then parts ∷ [] else [])) nothing_varies;
    arguments = ap (list_all (becomes_term [])) none_applied;
    sentences = ap (list_all (λ part. not (becomes_term [] part))) not_applied;
    conditions = subst (Each (λ ps. IsMet links (after [] ps))) (sym no_conditions) tt;
  }

  expands : (links : List Link) (signatures : Signatures) (made : Expanded) → IsExpansion links signatures f made → made ≡ expanded.Variants (f ∷ [])
  expands links signatures made x =
      x.is ∙ ap (λ vs. outcome f (filter x.test (choices (relations_in signatures) vs))) none_chosen
      ∙ ap (λ b. outcome f (if b then [] ∷ [] else [])) ((x.tells []).1 (fits_unchanged links signatures))
      ∙ ap (λ g. expanded.Variants (g ∷ [])) (replaced_nothing f)

  -- ---- it has no guards and one clause

  not_quantified : (a names body : Form) → parts ≡ a ∷ names ∷ body ∷ [] → (is_quantifier a && lists_names_layer (out-Form names)) ≡ false
  not_quantified a names body e =
      let same : form.Word head ≡ a = cc in
      ap (λ b. b && lists_names_layer (out-Form names)) (ap is_quantifier (sym same) ∙ quantifier-Word head ∙ (plain_head head plain).quantifies)

  unguarded : (signatures : Signatures) → guarded signatures (closed f) ≡ f
  unguarded signatures =
      ap (λ names. guarded signatures (closed_over (filter is_variable (each_once names)) f)) no_free
      ∙ guarded_plain signatures parts not_quantified
      ∙ ap form.List (map_kept (guarded signatures) parts (unchanged (form.Word head) (word_leaf head), each_map IsLeaf (λ g. guarded signatures g ≡ g) unchanged arguments leaves))
    where
      unchanged : (g : Form) → IsLeaf g → guarded signatures g ≡ g
      unchanged g leaf = guarded_other signatures g (no_list g leaf.list)

  reads : (prefix : Bytes) → matrix_of prefix f ≡ matrix.Literal (yes f)
  reads prefix =
      ap (λ read. (read true outermost nothing).matrix) (reading_plain prefix (form.Word head) arguments (connective-Word head ∙ (plain_head head plain).named))
      ∙ ap (λ g. matrix.Literal (yes g)) (stays (lookup []))

  tidied : tidy (yes f ∷ []) ≡ yes f ∷ []
  unfolding tidy
  tidied = ap (λ g. yes g ∷ []) (stays (renaming (yes f ∷ [])))

  one_clause : (base : SkolemBase) → clause_form base f ≡ Clauses ((yes f ∷ []) ∷ [])
  one_clause base =
      ap (λ m. clauses_within (distribution m)) (reads (skolem_prefix base)) ∙ ap clauses_within (distribution-Literal (yes f)) ∙ ap (λ clause. Clauses (clause ∷ [])) tidied

  -- ---- the piece

  one_variant : (located : Located) (variant : Guarded) → form_of variant ≡ Clauses ((yes f ∷ []) ∷ [])
      → of_variants located (variant ∷ []) ≡ record { inputs = record { clause = yes f ∷ []; place = Some variant.place; variant = variant.variant } ∷ []; guarded = variant ∷ []; left_out = [] }
  one_variant located variant e =
      ap (λ made. if is_too_many made || false then left_out located 13 (head_text located) else record {
        inputs = map (λ clause. record { clause = clause; place = Some variant.place; variant = variant.variant }) (clauses_in made) ++ [];
        guarded = variant ∷ [];
        left_out = [];
      }) e

  of_itself : (links : List Link) (signatures : Signatures) (located : Located) (outcome : Expanded) → located.form ≡ f → IsExpansion links signatures f outcome → of_expanded signatures located outcome ≡ itself located
  of_itself links signatures located outcome at x =
      ap (of_expanded signatures located) (expands links signatures outcome x)
      ∙ ap (λ g. of_variants located (record { form = g; place = located.place; variant = 1 } ∷ [])) (unguarded signatures)
      ∙ one_variant located (record { form = f; place = located.place; variant = 1 }) (one_clause _)
      ∙ ap (λ g. itself (record { form = g; place = located.place })) (sym at)

  bound_none : (fs : List Form) → bound (form.Word head ∷ fs) ≡ []
  bound_none [] = refl
  bound_none (a ∷ []) = refl
  bound_none (a ∷ b ∷ []) = ap (λ q. if q && lists_names_layer (out-Form a) then parts_in a else []) (quantifier-Word head ∙ (plain_head head plain).quantifies)
  bound_none (a ∷ b ∷ c ∷ fs) = refl

  none_applies : applies_own parts ≡ false
  none_applies =
      ap (λ fs. list_any (begins_with_one (bound parts)) (flat_map compounds fs)) operands_are
      ∙ ap (list_any (begins_with_one (bound parts))) (flat_none compounds arguments (each_map IsLeaf (λ g. compounds g ≡ []) (λ g leaf. compounds_other g (no_list g leaf.list)) arguments leaves))

  profiled : is_function_word head ≡ false → is_in_profile f ≡ true
  unfolding is_in_profile
  profiled h = ap₂ ◌&&◌ (ap₂ ◌&&◌ (ap₂ ◌&&◌ (ap₂ ◌&&◌ no_formula no_leaf) no_term) no_row) (ap not (ap (list_any applies_own) compounds_are ∙ ap (λ b. b || false) none_applies))
    where
      no_formula : not (list_any is_formula (arguments_in f)) ≡ true
      no_formula =
          ap not (ap (list_any is_formula) arguments_are
          ∙ any_none is_formula (arguments ++ []) (each_argument is_formula (λ g leaf. ap (begins (λ word. not (is_function_word word))) leaf.parts)))

      no_leaf : not (list_any (λ part. not (is_list part)) (sentences f)) ≡ true
      no_leaf = ap not (ap (list_any (λ part. not (is_list part))) sentences_are ∙ ap (λ b. not b || false) (ap is_list_layer (form.outs-List parts)))

      no_term : not (list_any is_function_list (sentences f)) ≡ true
      no_term =
          ap not (ap (list_any is_function_list) sentences_are
          ∙ ap (λ b. b || false) (ap (begins is_function_word) parts_are ∙ ap (passes is_function_word) (form.outs-Word head) ∙ h))

      no_row : not (list_any lists_row (compounds f)) ≡ true
      no_row = ap not (ap (list_any lists_row) compounds_are ∙ ap (λ names. list_any (λ name. is_row_layer (out-Form name)) names || false) (bound_none arguments))

  headed_by : (name : Bytes) → is_headed name f ≡ bytes_eq name head
  unfolding is_headed
  headed_by name = ap (heads_layer name) (form.outs-List parts) ∙ ap (is_word name) (form.outs-Word head)

  not_headed : (name : Bytes) → bytes_eq head name ≡ false → is_headed name f ≡ false
  not_headed name h = headed_by name ∙ go (bytes_eq name head) refl
    where
      go : (b : Bool) → bytes_eq name head ≡ b → b ≡ false
      go true e = absurd (false_true (sym h ∙ (bytes_eq-Decides head name).1 (sym ((bytes_eq-Decides name head).0 e))))
      go false e = refl

  not_shown : (heads : List Bytes) → is_among heads head ≡ false → list_any (λ name. is_headed name f) heads ≡ false
  not_shown [] h = refl
  not_shown (name ∷ heads) h = let hs = or_false (bytes_eq head name) (is_among heads head) h in ap₂ ◌||◌ (not_headed name hs.0) (not_shown heads hs.1)

-- ---- plain forms

pub plain_gives_itself : PlainGivesItself
plain_gives_itself links signatures located piece plain shown profile gives = go (is_shown located.form) (is_in_profile located.form) shown profile gives
  where
    go : (b c : Bool) → b ≡ false → c ≡ true → IsPieceWhere b c links signatures located piece → piece ≡ itself located
    go true c h k x = absurd (false_true (sym h))
    go false false h k x = absurd (false_true k)
    go false true h k x =
        x.is ∙ of_itself plain.head plain.arguments plain.plain plain.constant links signatures located x.outcome plain.is (subst (λ g. IsExpansion links signatures g x.outcome) plain.is x.expands)

pub plain_is_in_profile : PlainIsInProfile
plain_is_in_profile f plain h = ap is_in_profile plain.is ∙ profiled plain.head plain.arguments plain.plain plain.constant h

pub plain_is_not_shown : PlainIsNotShown
plain_is_not_shown f plain h = ap is_shown plain.is ∙ not_shown plain.head plain.arguments plain.plain plain.constant shown_heads h
