-- What tables with the same of each word make of a form is the same.
use Rattle.std.proofs.Common.{◌≡◌, ℕ, List, [], ◌∷◌, ◌++◌, map, filter, length, Bool, true, false, ◌&&◌, if◌then◌else◌, refl, sym, ap, ap₂, ◌∙◌}
use Rattle.std.specs.List.{list_all, flat_map}
use Rattle.sigma_base.specs.Lists.{Each, each_of_all, map_each}
use Rattle.kif_tree.specs.declared.form.Form.{Form, out-Form}
use Rattle.kif_tree.specs.declared.form.Form.TheOpen.{Form-F}
use Rattle.kif_tree.specs.declared.form.Form.TheVariants as form
use Rattle.kif_tree.specs.declared.place.Located.{Located}
use Rattle.kif_tree.specs.declared.place.Place.{Place}
use Rattle.kif_tree.specs.FormLaws.{induction}
use Rattle.kif_tree.specs.NameLaws.{filter_alike}
use Rattle.kif_tree.specs.Names.{each_once, parts_in}
use Rattle.kif_tree.specs.Profile.{compounds}
use Rattle.kif_tree.specs.Shape.{is_list_layer}
use Rattle.taxonomy.specs.Told.{Link}
use Rattle.signatures.specs.OneTables.{SameTables}
use Rattle.signatures.specs.declared.signatures.Signatures.{Signatures}
use Rattle.var_expand.specs.Choices.{Choice, chosen_for, choices, after}
use Rattle.var_expand.specs.Expansion.{IsExpansion, outcome}
use Rattle.var_expand.specs.Fitting.{Fits, takes, head_takes, has_count, counts_fit, varies}
use Rattle.var_expand.specs.declared.expanded.Expanded.{Expanded}
use Rattle.var_expand.specs.declared.expanded.Expanded.TheVariants as expanded
use Rattle.type_guard.specs.Guarded.{closed, guarded, guarded_parts, each_guarded, under}
use Rattle.type_guard.specs.GuardedLaws.{quantifies, with_guards, guarded-List, guarded_other}
use Rattle.type_guard.specs.Guards.{guards, guards_at, guards_for, is_of}
use Rattle.type_guard.specs.Occurrences.{Occurrence, occurrences}
use Rattle.translate.specs.Pieces.{numbered, guarded_variants, of_variants, of_expanded}
use Rattle.translate.proofs.GuardLaws.{no_list}

pub turned : (first second : Signatures) → SameTables first second → SameTables second first
turned first second same = record {
  arities = λ word. sym (same.arities word);
  types = λ word number. sym (same.types word number);
  are_ranges = λ word. sym (same.are_ranges word);
  relations = sym same.relations;
}

flat_alike : {X Y : Type 0} (f g : X → List Y) → ((x : X) → f x ≡ g x) → (xs : List X) → flat_map f xs ≡ flat_map g xs
flat_alike f g h [] = refl
flat_alike f g h (x ∷ xs) = ap₂ ◌++◌ (h x) (flat_alike f g h xs)

all_alike : {X : Type 0} (p q : X → Bool) → ((x : X) → p x ≡ q x) → (xs : List X) → list_all p xs ≡ list_all q xs
all_alike p q h [] = refl
all_alike p q h (x ∷ xs) = ap₂ ◌&&◌ (h x) (all_alike p q h xs)

told_alike : (a b : Bool) → (a ≡ true → b ≡ true) → (b ≡ true → a ≡ true) → a ≡ b
told_alike true b to from = sym (to refl)
told_alike false true to from = from refl
told_alike false false to from = refl

-- ---- guards

guards_same : (first second : Signatures) → SameTables first second → (names : List Form) (body : Form) → guards first names body ≡ guards second names body
guards_same first second same names body =
    ap each_once (flat_alike (guards_at first) (guards_at second)
    (λ (occurrence : Occurrence). ap (guards_for occurrence.variable) (same.types occurrence.head occurrence.argument)) (filter (is_of names) (occurrences body)))

abbrev GuardsSame : Signatures → Signatures → Form → Type 0
GuardsSame first second f = guarded first f ≡ guarded second f

each_same : (first second : Signatures) (parts : List Form) → Each (GuardsSame first second) parts
    → each_guarded (map (with_guards first) parts) ≡ each_guarded (map (with_guards second) parts)
each_same first second [] each = refl
each_same first second (part ∷ parts) each = ap₂ ◌∷◌ each.0 (each_same first second parts each.1)

parts_same : (first second : Signatures) → SameTables first second → (parts : List Form) → Each (GuardsSame first second) parts
    → guarded_parts first (map (with_guards first) parts) ≡ guarded_parts second (map (with_guards second) parts)
parts_same first second same [] each = refl
parts_same first second same (a ∷ []) each = each_same first second (a ∷ []) each
parts_same first second same (a ∷ b ∷ []) each = each_same first second (a ∷ b ∷ []) each
parts_same first second same (a ∷ b ∷ c ∷ []) each =
    ap₂ (λ (body : Form) (parts : List Form). if quantifies a b then a ∷ b ∷ body ∷ [] else parts)
    (ap₂ (under a) (guards_same first second same (parts_in b) c) each.1.1.0) (each_same first second (a ∷ b ∷ c ∷ []) each)
parts_same first second same (a ∷ b ∷ c ∷ d ∷ parts) each = each_same first second (a ∷ b ∷ c ∷ d ∷ parts) each

leaf_same : (first second : Signatures) (f : Form) → ((parts : List Form) → f ≡ form.List parts → ⊥) → GuardsSame first second f
leaf_same first second f leaf = guarded_other first f leaf ∙ sym (guarded_other second f leaf)

pub guarded_same : (first second : Signatures) → SameTables first second → (f : Form) → GuardsSame first second f
guarded_same first second same = induction (GuardsSame first second) (record {
  word = λ text. leaf_same first second (form.Word text) (no_list (form.Word text) (ap is_list_layer (form.outs-Word text)));
  variable = λ text. leaf_same first second (form.Variable text) (no_list (form.Variable text) (ap is_list_layer (form.outs-Variable text)));
  row = λ text. leaf_same first second (form.Row text) (no_list (form.Row text) (ap is_list_layer (form.outs-Row text)));
  numeral = λ text. leaf_same first second (form.Numeral text) (no_list (form.Numeral text) (ap is_list_layer (form.outs-Numeral text)));
  quoted = λ text. leaf_same first second (form.Quoted text) (no_list (form.Quoted text) (ap is_list_layer (form.outs-Quoted text)));
  list = λ parts each. guarded-List first parts ∙ ap form.List (parts_same first second same parts each) ∙ sym (guarded-List second parts);
})

-- ---- choices that fit

head_same : (first second : Signatures) → SameTables first second → (layer : Form-F Form) (count : ℕ) → head_takes first layer count ≡ head_takes second layer count
head_same first second same (Form-F.Word text) count = ap (λ arity. takes arity count) (same.arities text)
head_same first second same (Form-F.Variable text) count = refl
head_same first second same (Form-F.Row text) count = refl
head_same first second same (Form-F.Numeral text) count = refl
head_same first second same (Form-F.Quoted text) count = refl
head_same first second same (Form-F.List parts) count = refl

count_same : (first second : Signatures) → SameTables first second → (parts : List Form) → has_count first parts ≡ has_count second parts
count_same first second same [] = refl
count_same first second same (head ∷ arguments) = head_same first second same (out-Form head) (length arguments)

counts_same : (first second : Signatures) → SameTables first second → (f : Form) (choice : Choice) → counts_fit first f choice ≡ counts_fit second f choice
counts_same first second same f choice =
    all_alike (λ parts. has_count first (after choice parts)) (λ parts. has_count second (after choice parts))
    (λ parts. count_same first second same (after choice parts)) (filter varies (compounds f))

fits_same : (links : List Link) (first second : Signatures) → SameTables first second → (f : Form) (choice : Choice) → Fits links first f choice → Fits links second f choice
fits_same links first second same f choice fits = record {
  counts = sym (counts_same first second same f choice) ∙ fits.counts;
  arguments = fits.arguments;
  sentences = fits.sentences;
  conditions = fits.conditions;
}

-- two tests that tell what fits keep the same choices
pub expansion_once : (links : List Link) (first second : Signatures) → SameTables first second → (f : Form) (a b : Expanded)
    → IsExpansion links first f a → IsExpansion links second f b → a ≡ b
expansion_once links first second same f a b x y =
    x.is ∙ ap (outcome f) (filter_alike x.test y.test alike (choices _ (chosen_for f)) ∙ ap (λ relations. filter y.test (choices relations (chosen_for f))) same.relations) ∙ sym y.is
  where
    alike : (choice : Choice) → x.test choice ≡ y.test choice
    alike choice =
        told_alike (x.test choice) (y.test choice)
        (λ e. (y.tells choice).1 (fits_same links first second same f choice ((x.tells choice).0 e)))
        (λ e. (x.tells choice).1 (fits_same links second first (turned first second same) f choice ((y.tells choice).0 e)))

-- ---- pieces

variants_same : (first second : Signatures) → SameTables first second → (place : Place) (variants : List Form) → guarded_variants first place variants ≡ guarded_variants second place variants
variants_same first second same place variants =
    ap (numbered place 1) (map_each (λ (variant : Form). guarded first (closed variant)) (λ (variant : Form). guarded second (closed variant)) variants
    (each_of_all (λ (variant : Form). guarded first (closed variant) ≡ guarded second (closed variant)) (λ variant. guarded_same first second same (closed variant)) variants))

pub expanded_same : (first second : Signatures) → SameTables first second → (located : Located) (outcome : Expanded) → of_expanded first located outcome ≡ of_expanded second located outcome
expanded_same first second same located (expanded.Variants variants) = ap (of_variants located) (variants_same first second same located.place variants)
expanded_same first second same located expanded.NoLength = refl
expanded_same first second same located expanded.NoRelation = refl
expanded_same first second same located expanded.TooMany = refl
