-- What is wrong with the arguments of one list.
use Rattle.std.proofs.Common.{◌≡◌, ◌≢◌, ℕ, zero, suc, ◌+◌, ◌-◌, ◌<◌, ◌≤◌, ◌⊎◌, List, [], ◌∷◌, ◌++◌, length, get_or, take, drop, length-drop, Bool, true, false, not, refl, sym, ap, subst, ◌∙◌, arith, inl, inr}
use Rattle.std.specs.Prelude.{Option, Some, None, ◌&&◌, nat_eq, nat_lt, codes, min, MatchOption, IsTrue, ◌↔◌}
use Rattle.std.specs.List.{list_any}
use Rattle.std.specs.Str.{bytes_eq}
use Rattle.std.proofs.lemmas.Slice.Eq.{bytes_eq-Decides}
use Rattle.std.proofs.lemmas.List.{get_or_default, take_all}
use Rattle.std.proofs.lemmas.Bool.Decides.{nat_tests}
use Rattle.kif_tree.specs.Names.{is_function_word}
use Rattle.kif_tree.specs.Shape.{is_among, logical_words}
use Rattle.kif_tree.specs.Terms.{Bytes}
use Rattle.kif_tree.specs.declared.form.Form.{Form, out-Form}
use Rattle.kif_tree.specs.declared.form.Form.TheOpen.{Form-F}
use Rattle.kif_tree.specs.declared.form.Form.TheVariants as form
use Rattle.kif_tree.specs.declared.place.Located.{Located}
use Rattle.kif_tree.specs.declared.place.Place.{Place}
use Rattle.taxonomy.proofs.FormLaws.{word_text-Word, parts_of-List}
use Rattle.signatures.specs.Arities.{IsArity}
use Rattle.signatures.specs.Tables.{AreSignatures, arity_in, types_in}
use Rattle.signatures.specs.Types.{AreTypes}
use Rattle.signatures.specs.declared.signatures.Signatures.{Signatures}
use Rattle.signatures.specs.declared.told.Arity.{Arity}
use Rattle.signatures.specs.declared.told.Arity.TheVariants.{Exactly, Any, Unstated}
use Rattle.signatures.specs.declared.told.TypeTold.{TypeTold}
use Rattle.signatures.proofs.NameLaws.{arity_one}
use Rattle.diagnose.specs.Arguments.{is_row, IsWrongWord, IsWrongValue}
use Rattle.diagnose.specs.Found.{Adds, OfSome}
use Rattle.diagnose.specs.OfLists.{is_wrong_count, IsUnfitWord, IsUnfitFunction, IsMisfit, IsWrongParts, IsOfCount, IsOfType, IsOfArgument, IsOfTypes, IsOfHeaded, IsOfParts}
use Rattle.diagnose.specs.declared.diagnostic.Diagnostic.{Diagnostic}
use Rattle.diagnose.proofs.FoundLaws.{adds_one, adds_same, adds_both, adds_all, none_of_none}
use Rattle.diagnose.proofs.NumberLaws.{no_types, types_one}

-- ---- one diagnostic

abbrev diagnostic : ℕ → Place → Bytes → Option Place → Diagnostic
diagnostic code place term other = record { code = code; place = place; term = term; other = other }

same_diagnostic : (a b : Diagnostic) → a.code ≡ b.code → a.place ≡ b.place → a.term ≡ b.term → a.other ≡ b.other → a ≡ b
same_diagnostic a b p q r s =
    ap (λ (x : ℕ). diagnostic x a.place a.term a.other) p ∙ ap (λ (x : Place). diagnostic b.code x a.term a.other) q
    ∙ ap (λ (x : Bytes). diagnostic b.code b.place x a.other) r ∙ ap (λ (x : Option Place). diagnostic b.code b.place b.term x) s

-- ---- kinds of forms

same_word : (f : Form) (a b : Bytes) → f ≡ form.Word a → f ≡ form.Word b → a ≡ b
same_word f a b h k = let e : Some a ≡ Some b = word_text-Word f a h ∙ sym (word_text-Word f b k) in cc

pub word_no_list : (f : Form) (a : Bytes) (parts : List Form) → f ≡ form.Word a → f ≡ form.List parts → ⊥
word_no_list f a parts h k =
    let e : Form-F.Word a ≡ Form-F.List parts = sym (form.outs-Word a) ∙ ap (λ (x : Form). out-Form x) (sym h ∙ k) ∙ form.outs-List parts in absurd (cc)

same_list : (f : Form) (a b : List Form) → f ≡ form.List a → f ≡ form.List b → a ≡ b
same_list f a b h k = parts_of-List f a h ∙ sym (parts_of-List f b k)

first_part : (x y : Form) (xs ys : List Form) → x ∷ xs ≡ y ∷ ys → x ≡ y
first_part x y xs ys e = cc

same_rest : (x y : Form) (xs ys : List Form) → x ∷ xs ≡ y ∷ ys → xs ≡ ys
same_rest x y xs ys e = cc

same_head : (a b : Bytes) (xs ys : List Form) → form.Word a ∷ xs ≡ form.Word b ∷ ys → a ≡ b
same_head a b xs ys e = same_word (form.Word b) a b (sym (first_part (form.Word a) (form.Word b) xs ys e)) refl

pub begins_with_first : (parts : List Form) (head : Form) → 1 ≤ length parts → head ≡ get_or parts 0 head → parts ≡ head ∷ drop 1 parts
begins_with_first [] head low is = absurd (omega (arith, low))
begins_with_first (part ∷ parts) head low is = ap (λ (x : Form). x ∷ parts) (sym is)

-- the rest of the parts as a pattern of a slice has it
pub begins_with_rest : (parts : List Form) (head : Form) → 1 ≤ length parts → head ≡ get_or parts 0 head → parts ≡ head ∷ take (length parts - 1) (drop 1 parts)
begins_with_rest parts head low is =
    begins_with_first parts head low is
    ∙ ap (λ (xs : List Form). head ∷ xs) (sym (take_all (length parts - 1) (drop 1 parts) (omega (arith, length-drop 1 parts))))

pub no_parts : (parts : List Form) → length parts < 1 → parts ≡ []
no_parts [] lt = refl
no_parts (part ∷ parts) lt = absurd (omega (arith, lt))

-- ---- the tables

pub is_arity : (forms : List Located) (tables : Signatures) (head bytes : Bytes) (arity : Arity) → AreSignatures forms tables → bytes ≡ head → arity ≡ arity_in tables bytes → IsArity forms head arity
is_arity forms tables head bytes arity are same is =
    subst (IsArity forms head) (sym is) (subst (λ (word : Bytes). IsArity forms word (arity_in tables bytes)) same (are.arities bytes))

pub these_types : (forms : List Located) (tables : Signatures) (head bytes : Bytes) (number : ℕ) (types : List TypeTold) → AreSignatures forms tables → bytes ≡ head → types ≡ types_in tables bytes number → AreTypes forms head number types
these_types forms tables head bytes number types are same is =
    subst (AreTypes forms head number) (sym is) (subst (λ (word : Bytes). AreTypes forms word number (types_in tables bytes number)) same (are.types bytes number))

-- ---- the count

both : (a b : Bool) → (not a && not b) ≡ true → (a ≡ false) × (b ≡ false)
both false false h = (refl, refl)
both true b h = absurd (cc)
both false true h = absurd (cc)

differ : (a b : ℕ) → nat_eq a b ≡ false → a ≢ b
differ a b h e = grind (arith, nat_tests, h, e)

equal_no : (a b : ℕ) → a ≢ b → nat_eq a b ≡ false
equal_no a b h = go (nat_eq a b) refl
  where
    go : (t : Bool) → nat_eq a b ≡ t → t ≡ false
    go true e = absurd (h (grind (arith, nat_tests, e)))
    go false e = refl

module _ (forms : List Located) (place : Place) (head : Bytes) (arguments : List Form) where
  pub no_count : (arity : Arity) → IsArity forms head arity → is_wrong_count arity arguments ≡ false → (d : Diagnostic) → IsOfCount forms place head arguments d → ⊥
  no_count arity is right d h = go (subst (λ (a : Arity). is_wrong_count a arguments ≡ false) (arity_one forms head arity (Exactly h.count) is h.arity) right)
    where
      go : (not (nat_eq (length arguments) h.count) && not (list_any is_row arguments)) ≡ false → ⊥
      go e =
          let t : true ≡ false = ap (λ (b : Bool). not b && true) (sym (equal_no (length arguments) h.count h.apart)) ∙ ap (λ (b : Bool). not (nat_eq (length arguments) h.count) && not b) (sym h.no_row) ∙ e in
          absurd (cc)

  one_count : (arity : Arity) → IsArity forms head arity → is_wrong_count arity arguments ≡ true → (one : Diagnostic) → one.code ≡ 5 → one.place ≡ place → one.term ≡ head → one.other ≡ None → IsOfCount forms place head arguments one
  one_count (Exactly count) is wrong one code at term alone =
      let p = both (nat_eq (length arguments) count) (list_any is_row arguments) wrong in
      record { at = at; code = code; no_row = p.1; count = count; arity = is; apart = differ (length arguments) count p.0; term = term; alone = alone }
  one_count Any is wrong one code at term alone = absurd (cc)
  one_count Unstated is wrong one code at term alone = absurd (cc)

  pub adds_count : (arity : Arity) → IsArity forms head arity → is_wrong_count arity arguments ≡ true → (old new : List Diagnostic) (term : Bytes)
      → term ≡ head → new ≡ old ++ record { code = 5; place = place; term = term; other = None } ∷ [] → Adds (IsOfCount forms place head arguments) old new
  adds_count arity is wrong old new term same pushed =
      adds_one (IsOfCount forms place head arguments) old new (record { code = 5; place = place; term = term; other = None }) pushed
      (one_count arity is wrong (record { code = 5; place = place; term = term; other = None }) refl refl same refl)
      (λ d h. same_diagnostic (record { code = 5; place = place; term = term; other = None }) d (sym h.code) (sym h.at) (same ∙ sym h.term) (sym h.alone))

-- ---- one type of an argument

module _ (forms : List Located) (type : TypeTold) (argument : Form) where
  misfit_one : (a b : Bytes) → IsMisfit forms type argument a → IsMisfit forms type argument b → a ≡ b
  misfit_one a b h k = go h.wrong k.wrong
    where
      go : IsWrongWord forms type argument a ⊎ IsWrongValue forms type argument a → IsWrongWord forms type argument b ⊎ IsWrongValue forms type argument b → a ≡ b
      go (inl u) (inl v) = same_word argument a b u.is v.is
      go (inl u) (inr v) = absurd (word_no_list argument a (form.Word b ∷ v.arguments) u.is v.is)
      go (inr u) (inl v) = absurd (word_no_list argument b (form.Word a ∷ u.arguments) v.is u.is)
      go (inr u) (inr v) = same_head a b u.arguments v.arguments (same_list argument (form.Word a ∷ u.arguments) (form.Word b ∷ v.arguments) u.is v.is)

  pub adds_type : (place : Place) (old new : List Diagnostic) (blamed term : Bytes) → IsMisfit forms type argument blamed → term ≡ blamed
      → new ≡ old ++ record { code = 4; place = place; term = term; other = Some type.place } ∷ [] → Adds (IsOfType forms place argument type) old new
  adds_type place old new blamed term misfit same pushed =
      adds_one (IsOfType forms place argument type) old new (record { code = 4; place = place; term = term; other = Some type.place }) pushed
      (record { at = refl; code = refl; misfit = subst (IsMisfit forms type argument) (sym same) misfit; names = refl })
      (λ d h. same_diagnostic (record { code = 4; place = place; term = term; other = Some type.place }) d (sym h.code) (sym h.at) (same ∙ misfit_one blamed d.term misfit h.misfit) (sym h.names))

  pub word_misfit : (word : Bytes) → argument ≡ form.Word word → (type.class ≢ codes "Entity") → IsUnfitWord forms type word → IsMisfit forms type argument word
  word_misfit word is apart h = record { not_entity = apart; wrong = inl (record { is = is; has_parent = h.has_parent; unfit = h.unfit }) }

  pub word_fits : (word : Bytes) → argument ≡ form.Word word → (IsUnfitWord forms type word → ⊥) → (term : Bytes) → IsMisfit forms type argument term → ⊥
  word_fits word is fits term h = go h.wrong
    where
      go : IsWrongWord forms type argument term ⊎ IsWrongValue forms type argument term → ⊥
      go (inl u) = fits (subst (IsUnfitWord forms type) (same_word argument term word u.is is) (record { has_parent = u.has_parent; unfit = u.unfit }))
      go (inr v) = word_no_list argument word (form.Word term ∷ v.arguments) is v.is

  pub list_misfit : (parts : List Form) (term : Bytes) → argument ≡ form.List parts → (type.class ≢ codes "Entity") → IsWrongParts forms type parts term → IsMisfit forms type argument term
  list_misfit parts term is apart h = record { not_entity = apart; wrong = inr (subst (λ (f : Form). IsWrongValue forms type f term) (sym is) h) }

  pub list_fits : (parts : List Form) → argument ≡ form.List parts → ((term : Bytes) → IsWrongParts forms type parts term → ⊥) → (term : Bytes) → IsMisfit forms type argument term → ⊥
  list_fits parts is fits term h = go h.wrong
    where
      go : IsWrongWord forms type argument term ⊎ IsWrongValue forms type argument term → ⊥
      go (inl u) = word_no_list argument term parts u.is is
      go (inr v) = fits term (subst (λ (f : Form). IsWrongValue forms type f term) is v)

  -- what is found in the list is to blame for the argument
  pub list_found : {X : Type 0} (view : X → Bytes) (o : Option X) (parts items : List Form) → argument ≡ form.List parts → items ≡ parts → (type.class ≢ codes "Entity")
      → MatchOption o ((term : Bytes) → IsWrongParts forms type items term → ⊥) (λ x. IsWrongParts forms type items (view x))
      → MatchOption o ((term : Bytes) → IsMisfit forms type argument term → ⊥) (λ x. IsMisfit forms type argument (view x))
  list_found view None parts items is same apart h = list_fits items (is ∙ ap form.List (sym same)) h
  list_found view (Some x) parts items is same apart h = list_misfit items (view x) (is ∙ ap form.List (sym same)) apart h

pub apart_from : (class bytes slice literal : Bytes) (b : Bool) → bytes ≡ class → slice ≡ literal → b ≡ bytes_eq bytes slice → b ≡ false → class ≢ literal
apart_from class bytes slice literal b one other test fails same =
    let e : true ≡ false = sym ((bytes_eq-Decides bytes slice).1 (one ∙ same ∙ sym other)) ∙ sym test ∙ fails in absurd (cc)

-- what a test tells
pub holds_if : (P : Type 0) (b : Bool) → IsTrue b ↔ P → b ≡ true → P
holds_if P b h e = h.0 e

pub fails_if : (P : Type 0) (b : Bool) → IsTrue b ↔ P → b ≡ false → P → ⊥
fails_if P b h e p = let is : false ≡ true = sym e ∙ h.1 p in absurd (cc)

-- ---- functions

module _ (forms : List Located) (type : TypeTold) (parts : List Form) where
  -- the parts begin with the function
  begins : (term : Bytes) (h : IsWrongParts forms type parts term) → parts ≡ form.Word term ∷ h.arguments
  begins term h = same_list (form.List parts) parts (form.Word term ∷ h.arguments) refl h.is

  pub none_empty : parts ≡ [] → (term : Bytes) → IsWrongParts forms type parts term → ⊥
  none_empty is term h = let e : [] ≡ form.Word term ∷ h.arguments = sym is ∙ begins term h in absurd (cc)

  pub none_headed : (head : Form) (rest : List Form) → parts ≡ head ∷ rest → ((text : Bytes) → head ≡ form.Word text → ⊥) → (term : Bytes) → IsWrongParts forms type parts term → ⊥
  none_headed head rest is other term h = other term (first_part head (form.Word term) rest h.arguments (sym is ∙ begins term h))

  named_so : (head : Form) (rest : List Form) (function term : Bytes) → parts ≡ head ∷ rest → head ≡ form.Word function → IsWrongParts forms type parts term → term ≡ function
  named_so head rest function term is word h = same_word head term function (first_part head (form.Word term) rest h.arguments (sym is ∙ begins term h)) word

  pub none_named : (head : Form) (rest : List Form) (function : Bytes) → parts ≡ head ∷ rest → head ≡ form.Word function → is_function_word function ≡ false → (term : Bytes) → IsWrongParts forms type parts term → ⊥
  none_named head rest function is word plain term h =
      let e : true ≡ false = sym h.is_function ∙ ap (λ (w : Bytes). is_function_word w) (named_so head rest function term is word h) ∙ plain in absurd (cc)

  pub none_unfit : (head : Form) (rest : List Form) (function : Bytes) → parts ≡ head ∷ rest → head ≡ form.Word function → (IsUnfitFunction forms type function → ⊥) → (term : Bytes) → IsWrongParts forms type parts term → ⊥
  none_unfit head rest function is word fits term h = fits (subst (IsUnfitFunction forms type) (named_so head rest function term is word h) (record {
    range = h.range;
    more = h.more;
    has_range = h.has_range;
    of_instances = h.of_instances;
    wants_instances = h.wants_instances;
    unfit = h.unfit;
  }))

-- ---- the types of an argument

pub adds_argument : (forms : List Located) (place : Place) (head : Bytes) (number : ℕ) (argument : Form) (types items : List TypeTold) (i : ℕ) (old new : List Diagnostic) → AreTypes forms head number types → items ≡ types → length items ≤ i
    → Adds (OfSome (IsOfType forms place argument) (take i items)) old new → Adds (IsOfArgument forms place head number argument) old new
adds_argument forms place head number argument types items i old new are same end h =
    adds_same (OfSome (IsOfType forms place argument) items) (IsOfArgument forms place head number argument) old new
    (λ d o. record { types = items; are_types = subst (AreTypes forms head number) (sym same) are; of_type = o })
    (λ d o. subst (λ (ts : List TypeTold). OfSome (IsOfType forms place argument) ts d) (types_one forms head number o.types types o.are_types are ∙ sym same) o.of_type)
    (adds_all (IsOfType forms place argument) items i old new end h)

small_or_great : (n m : ℕ) → n ≡ min m 4294967295 → (n ≡ m) ⊎ ((1000000000 ≤ n) × (1000000000 ≤ m))
small_or_great n m e = go (nat_lt m 4294967296) refl
  where
    go : (b : Bool) → nat_lt m 4294967296 ≡ b → (n ≡ m) ⊎ ((1000000000 ≤ n) × (1000000000 ≤ m))
    go true t = inl (let lt : m < 4294967296 = grind (arith, nat_tests, t) in omega (arith, e, lt))
    go false t = inr (let ge : 4294967296 ≤ m = grind (arith, nat_tests, t) in (omega (arith, e, ge), omega (arith, ge)))

before_or_last : (k i : ℕ) → k < i + 1 → (k < i) ⊎ (i ≡ k)
before_or_last zero zero lt = inr refl
before_or_last zero (suc i) lt = inl (omega arith)
before_or_last (suc k) zero lt = absurd (omega (arith, lt))
before_or_last (suc k) (suc i) lt = go (before_or_last k i (omega (arith, lt)))
  where
    go : (k < i) ⊎ (i ≡ k) → (suc k < suc i) ⊎ (suc i ≡ suc k)
    go (inl h) = inl (omega (arith, h))
    go (inr e) = inr (ap (λ (n : ℕ). suc n) e)

module _ (forms : List Located) (place : Place) (head : Bytes) where
  great_none : (number : ℕ) (argument : Form) (d : Diagnostic) → 1000000000 ≤ number → IsOfArgument forms place head number argument d → ⊥
  great_none number argument d great h = none_of_none (IsOfType forms place argument) d (subst (λ (ts : List TypeTold). OfSome (IsOfType forms place argument) ts d) (no_types forms head number h.types great h.are_types) h.of_type)

  -- a number that the code's numbers don't reach is as good as the greatest of them
  capped_to : (number index : ℕ) (argument : Form) (d : Diagnostic) → number ≡ min index 4294967295 → IsOfArgument forms place head number argument d → IsOfArgument forms place head index argument d
  capped_to number index argument d capped h = go (small_or_great number index capped)
    where
      go : (number ≡ index) ⊎ ((1000000000 ≤ number) × (1000000000 ≤ index)) → IsOfArgument forms place head index argument d
      go (inl e) = subst (λ (n : ℕ). IsOfArgument forms place head n argument d) e h
      go (inr g) = absurd (great_none number argument d g.0 h)

  capped_from : (number index : ℕ) (argument : Form) (d : Diagnostic) → number ≡ min index 4294967295 → IsOfArgument forms place head index argument d → IsOfArgument forms place head number argument d
  capped_from number index argument d capped h = go (small_or_great number index capped)
    where
      go : (number ≡ index) ⊎ ((1000000000 ≤ number) × (1000000000 ≤ index)) → IsOfArgument forms place head number argument d
      go (inl e) = subst (λ (n : ℕ). IsOfArgument forms place head n argument d) (sym e) h
      go (inr g) = absurd (great_none index argument d g.1 h)

  -- ---- the types of all arguments

  pub types_more : (arguments : List Form) (i number : ℕ) (argument : Form) (old mid new : List Diagnostic) → i < length arguments → argument ≡ get_or arguments i argument → number ≡ min (i + 1) 4294967295
      → Adds (IsOfTypes forms place head arguments i) old mid → Adds (IsOfArgument forms place head number argument) mid new → Adds (IsOfTypes forms place head arguments (i + 1)) old new
  types_more arguments i number argument old mid new lt is capped first second =
      adds_same (λ d. IsOfTypes forms place head arguments i d ⊎ IsOfArgument forms place head number argument d) (IsOfTypes forms place head arguments (i + 1)) old new to back
      (adds_both (IsOfTypes forms place head arguments i) (IsOfArgument forms place head number argument) old mid new first second)
    where
      to : (d : Diagnostic) → IsOfTypes forms place head arguments i d ⊎ IsOfArgument forms place head number argument d → IsOfTypes forms place head arguments (i + 1) d
      to d (inl h) = record { index = h.index; argument = h.argument; within = h.within; before_end = (let b : h.index < i = h.before_end in omega (arith, b)); stands = h.stands; of_argument = h.of_argument }
      to d (inr p) = record { index = i; argument = argument; within = lt; before_end = omega arith; stands = sym is; of_argument = capped_to number (i + 1) argument d capped p }

      which : (d : Diagnostic) (h : IsOfTypes forms place head arguments (i + 1) d) → (h.index < i) ⊎ (i ≡ h.index) → IsOfTypes forms place head arguments i d ⊎ IsOfArgument forms place head number argument d
      which d h (inl b) = inl (record { index = h.index; argument = h.argument; within = h.within; before_end = b; stands = h.stands; of_argument = h.of_argument })
      which d h (inr e) =
          let same : h.argument ≡ argument =
          sym h.stands ∙ get_or_default arguments h.index h.argument argument h.within ∙ ap (λ (n : ℕ). get_or arguments n argument) (sym e) ∙ sym is in
          inr (capped_from number (i + 1) argument d capped
          (subst (λ (n : ℕ). IsOfArgument forms place head (n + 1) argument d) (sym e) (subst (λ (f : Form). IsOfArgument forms place head (h.index + 1) f d) same h.of_argument)))

      back : (d : Diagnostic) → IsOfTypes forms place head arguments (i + 1) d → IsOfTypes forms place head arguments i d ⊎ IsOfArgument forms place head number argument d
      back d h = which d h (before_or_last h.index i h.before_end)

  pub types_all : (arguments : List Form) (i : ℕ) (old new : List Diagnostic) → length arguments ≤ i → Adds (IsOfTypes forms place head arguments i) old new → Adds (IsOfTypes forms place head arguments (length arguments)) old new
  types_all arguments i old new end h =
      adds_same (IsOfTypes forms place head arguments i) (IsOfTypes forms place head arguments (length arguments)) old new
      (λ d t. record { index = t.index; argument = t.argument; within = t.within; before_end = t.within; stands = t.stands; of_argument = t.of_argument })
      (λ d t. record { index = t.index; argument = t.argument; within = t.within; before_end = (let b : t.index < length arguments = t.within in omega (arith, b, end)); stands = t.stands; of_argument = t.of_argument })
      h

-- ---- a list of parts

module _ (forms : List Located) (place : Place) (parts : List Form) where
  pub adds_headed : (head : Form) (arguments : List Form) (word : Bytes) → parts ≡ head ∷ arguments → head ≡ form.Word word → is_among logical_words word ≡ false → (old mid new : List Diagnostic)
      → Adds (IsOfCount forms place word arguments) old mid → Adds (IsOfTypes forms place word arguments (length arguments)) mid new → Adds (IsOfParts forms place parts) old new
  adds_headed head arguments word is headed plain old mid new first second =
      adds_same (IsOfHeaded forms place word arguments) (IsOfParts forms place parts) old new
      (λ d h. record { head = word; arguments = arguments; is = is ∙ ap (λ (x : Form). x ∷ arguments) headed; not_logical = plain; of_headed = h })
      (λ d h.
      let same : h.head ≡ word = same_word head h.head word (first_part head (form.Word h.head) arguments h.arguments (sym is ∙ h.is)) headed in
      let rest : h.arguments ≡ arguments = sym (same_rest head (form.Word h.head) arguments h.arguments (sym is ∙ h.is)) in
      subst (λ (xs : List Form). IsOfHeaded forms place word xs d) rest (subst (λ (w : Bytes). IsOfHeaded forms place w h.arguments d) same h.of_headed))
      (adds_both (IsOfCount forms place word arguments) (IsOfTypes forms place word arguments (length arguments)) old mid new first second)
