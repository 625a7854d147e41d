-- What a set of variables and row variables has.
use Rattle.std.proofs.Common.{◌≡◌, List, [], ◌∷◌, map, Bool, true, false, not, ◌&&◌, ◌||◌, refl, sym, ap, ap₂, ◌∙◌}
use Rattle.std.specs.List.{list_any}
use Rattle.std.specs.Str.{bytes_eq}
use Rattle.std.proofs.lemmas.List.Folds.{list_any-append}
use Rattle.sigma_base.specs.Lists.{list_any-map}
use Rattle.kif_tree.specs.declared.form.Form.{Form, out-Form}
use Rattle.kif_tree.specs.declared.form.Form.TheVariants as form
use Rattle.kif_tree.specs.declared.form.Form.TheOpen.{Form-F}
use Rattle.kif_tree.specs.Shape.{is_among, is_name, is_name_layer}
use Rattle.kif_tree.specs.Terms.{Bytes, same, same_layer}
use Rattle.kif_tree.specs.FormLaws.{induction}
use Rattle.kif_tree.specs.NameLaws.{same_turned}
use Rattle.kif_tree.specs.NameSets.{names_of}
use Rattle.kif_tree.specs.SameLaws.{same-Variable, same-Row, same-Decides}
use Rattle.kif_tree.proofs.VariableLaws.{flipped}

abbrev pub variable_layer : (Bytes → Bool) → Form-F Form → Bool
variable_layer test (Form-F.Word text) = false
variable_layer test (Form-F.Variable text) = test text
variable_layer test (Form-F.Row text) = false
variable_layer test (Form-F.Numeral text) = false
variable_layer test (Form-F.Quoted text) = false
variable_layer test (Form-F.List parts) = false

abbrev pub row_layer : (Bytes → Bool) → Form-F Form → Bool
row_layer test (Form-F.Word text) = false
row_layer test (Form-F.Variable text) = false
row_layer test (Form-F.Row text) = test text
row_layer test (Form-F.Numeral text) = false
row_layer test (Form-F.Quoted text) = false
row_layer test (Form-F.List parts) = false

same_variable : (f : Form) (text : Bytes) → same f (form.Variable text) ≡ variable_layer (λ name. bytes_eq name text) (out-Form f)
same_variable f text = same_turned f (form.Variable text) ∙ same-Variable text f ∙ go (out-Form f)
  where
    go : (layer : Form-F Form) → same_layer (Form-F.Variable text) layer ≡ variable_layer (λ name. bytes_eq name text) layer
    go (Form-F.Variable name) = flipped text name
    go _ = refl

same_row : (f : Form) (text : Bytes) → same f (form.Row text) ≡ row_layer (λ name. bytes_eq name text) (out-Form f)
same_row f text = same_turned f (form.Row text) ∙ same-Row text f ∙ go (out-Form f)
  where
    go : (layer : Form-F Form) → same_layer (Form-F.Row text) layer ≡ row_layer (λ name. bytes_eq name text) layer
    go (Form-F.Row name) = flipped text name
    go _ = refl

any_alike : {X : Type 0} (p q : X → Bool) → ((x : X) → p x ≡ q x) → (xs : List X) → list_any p xs ≡ list_any q xs
any_alike p q e [] = refl
any_alike p q e (x ∷ xs) = ap₂ ◌||◌ (e x) (any_alike p q e xs)

any_never : {X : Type 0} (xs : List X) → list_any (λ x. false) xs ≡ false
any_never [] = refl
any_never (x ∷ xs) = any_never xs

-- what the set has, by the kind of the form
pub has_names : (variables rows : List Bytes) (f : Form)
    → list_any (same f) (names_of variables rows) ≡ (variable_layer (is_among variables) (out-Form f) || row_layer (is_among rows) (out-Form f))
has_names variables rows f =
    list_any-append (same f) (map form.Variable variables) (map form.Row rows)
    ∙ ap₂ ◌||◌
    (list_any-map (same f) form.Variable variables ∙ any_alike (λ text. same f (form.Variable text)) (λ text. variable_layer (λ name. bytes_eq name text) (out-Form f)) (same_variable f) variables ∙ of_variables (out-Form f))
    (list_any-map (same f) form.Row rows ∙ any_alike (λ text. same f (form.Row text)) (λ text. row_layer (λ name. bytes_eq name text) (out-Form f)) (same_row f) rows ∙ of_rows (out-Form f))
  where
    of_variables : (layer : Form-F Form) → list_any (λ text. variable_layer (λ name. bytes_eq name text) layer) variables ≡ variable_layer (is_among variables) layer
    of_variables (Form-F.Variable name) = refl
    of_variables _ = any_never variables

    of_rows : (layer : Form-F Form) → list_any (λ text. row_layer (λ name. bytes_eq name text) layer) rows ≡ row_layer (is_among rows) layer
    of_rows (Form-F.Row name) = refl
    of_rows _ = any_never rows

or_none : (b : Bool) → (b || false) ≡ b
or_none true = refl
or_none false = refl

-- ---- the set, where the form is of one kind

abbrev has_layer : List Bytes → List Bytes → Form-F Form → Bool
has_layer variables rows layer = variable_layer (is_among variables) layer || row_layer (is_among rows) layer

pub has_variable : (set : List Form) (variables rows : List Bytes) (f : Form) (text : Bytes) → names_of variables rows ≡ set → f ≡ form.Variable text → list_any (same f) set ≡ is_among variables text
has_variable set variables rows f text view is =
    ap (list_any (same f)) (sym view) ∙ has_names variables rows f ∙ ap (has_layer variables rows) (ap out-Form is ∙ form.outs-Variable text) ∙ or_none (is_among variables text)

pub has_row : (set : List Form) (variables rows : List Bytes) (f : Form) (text : Bytes) → names_of variables rows ≡ set → f ≡ form.Row text → list_any (same f) set ≡ is_among rows text
has_row set variables rows f text view is =
    ap (list_any (same f)) (sym view) ∙ has_names variables rows f ∙ ap (has_layer variables rows) (ap out-Form is ∙ form.outs-Row text)

no_name : (f : Form) → ((text : Bytes) → f ≡ form.Variable text → ⊥) → ((text : Bytes) → f ≡ form.Row text → ⊥) → is_name f ≡ false
no_name = induction (λ f. ((text : Bytes) → f ≡ form.Variable text → ⊥) → ((text : Bytes) → f ≡ form.Row text → ⊥) → is_name f ≡ false) (record {
  word = λ text _ _. ap is_name_layer (form.outs-Word text);
  variable = λ text other _. absurd (other text refl);
  row = λ text _ other. absurd (other text refl);
  numeral = λ text _ _. ap is_name_layer (form.outs-Numeral text);
  quoted = λ text _ _. ap is_name_layer (form.outs-Quoted text);
  list = λ parts each _ _. ap is_name_layer (form.outs-List parts);
})

has_no_other : (variables rows : List Bytes) (f : Form) → is_name f ≡ false → list_any (same f) (names_of variables rows) ≡ false
has_no_other variables rows f none = has_names variables rows f ∙ go (out-Form f) none
  where
    go : (layer : Form-F Form) → is_name_layer layer ≡ false → has_layer variables rows layer ≡ false
    go (Form-F.Variable text) e = absurd (cc)
    go (Form-F.Row text) e = absurd (cc)
    go _ e = refl

pub has_other : (set : List Form) (variables rows : List Bytes) (f : Form) → names_of variables rows ≡ set
    → ((text : Bytes) → f ≡ form.Variable text → ⊥) → ((text : Bytes) → f ≡ form.Row text → ⊥) → list_any (same f) set ≡ false
has_other set variables rows f view no_variable no_row = ap (list_any (same f)) (sym view) ∙ has_no_other variables rows f (no_name f no_variable no_row)

-- ---- a name is added

pub adds_variable : (set : List Form) (old new rows : List Bytes) (name : Form) (text : Bytes) → names_of old rows ≡ set → name ≡ form.Variable text
    → ((other : Bytes) → is_among new other ≡ (is_among old other || bytes_eq other text))
    → (f : Form) → list_any (same f) (names_of new rows) ≡ (list_any (same f) set || (is_name name && same f name))
adds_variable set old new rows name text view is more f =
    has_names new rows f ∙ go (out-Form f)
    ∙ sym (ap₂ (λ a b. a || b) (ap (list_any (same f)) (sym view) ∙ has_names old rows f)
    (ap₂ ◌&&◌ (ap is_name is ∙ ap is_name_layer (form.outs-Variable text)) (ap (same f) is ∙ same_variable f text)))
  where
    grown : (a b : Bool) → ((a || b) || false) ≡ ((a || false) || b)
    grown true b = refl
    grown false b = or_none b

    go : (layer : Form-F Form) → has_layer new rows layer ≡ (has_layer old rows layer || variable_layer (λ other. bytes_eq other text) layer)
    go (Form-F.Variable other) = ap (λ b. b || false) (more other) ∙ grown (is_among old other) (bytes_eq other text)
    go (Form-F.Row other) = sym (or_none (is_among rows other))
    go _ = refl

pub adds_row : (set : List Form) (variables old new : List Bytes) (name : Form) (text : Bytes) → names_of variables old ≡ set → name ≡ form.Row text
    → ((other : Bytes) → is_among new other ≡ (is_among old other || bytes_eq other text))
    → (f : Form) → list_any (same f) (names_of variables new) ≡ (list_any (same f) set || (is_name name && same f name))
adds_row set variables old new name text view is more f =
    has_names variables new f ∙ go (out-Form f)
    ∙ sym (ap₂ (λ a b. a || b) (ap (list_any (same f)) (sym view) ∙ has_names variables old f)
    (ap₂ ◌&&◌ (ap is_name is ∙ ap is_name_layer (form.outs-Row text)) (ap (same f) is ∙ same_row f text)))
  where
    go : (layer : Form-F Form) → has_layer variables new layer ≡ (has_layer variables old layer || row_layer (λ other. bytes_eq other text) layer)
    go (Form-F.Variable other) = sym (or_none (is_among variables other || false))
    go (Form-F.Row other) = more other
    go _ = refl

-- ---- a name is taken out

pub drops_variable : (set : List Form) (old new rows : List Bytes) (name : Form) (text : Bytes) → names_of old rows ≡ set → name ≡ form.Variable text
    → ((other : Bytes) → is_among new other ≡ (is_among old other && not (bytes_eq other text)))
    → (f : Form) → list_any (same f) (names_of new rows) ≡ (list_any (same f) set && not (same f name))
drops_variable set old new rows name text view is less f =
    has_names new rows f ∙ go (out-Form f)
    ∙ sym (ap₂ (λ a b. a && not b) (ap (list_any (same f)) (sym view) ∙ has_names old rows f) (ap (same f) is ∙ same_variable f text))
  where
    and_all : (b : Bool) → b ≡ (b && true)
    and_all true = refl
    and_all false = refl

    go : (layer : Form-F Form) → has_layer new rows layer ≡ (has_layer old rows layer && not (variable_layer (λ other. bytes_eq other text) layer))
    go (Form-F.Variable other) = or_none (is_among new other) ∙ less other ∙ ap (λ b. b && not (bytes_eq other text)) (sym (or_none (is_among old other)))
    go (Form-F.Row other) = and_all (is_among rows other)
    go _ = refl

pub drops_row : (set : List Form) (variables old new : List Bytes) (name : Form) (text : Bytes) → names_of variables old ≡ set → name ≡ form.Row text
    → ((other : Bytes) → is_among new other ≡ (is_among old other && not (bytes_eq other text)))
    → (f : Form) → list_any (same f) (names_of variables new) ≡ (list_any (same f) set && not (same f name))
drops_row set variables old new name text view is less f =
    has_names variables new f ∙ go (out-Form f)
    ∙ sym (ap₂ (λ a b. a && not b) (ap (list_any (same f)) (sym view) ∙ has_names variables old f) (ap (same f) is ∙ same_row f text))
  where
    and_all : (b : Bool) → b ≡ (b && true)
    and_all true = refl
    and_all false = refl

    go : (layer : Form-F Form) → has_layer variables new layer ≡ (has_layer variables old layer && not (row_layer (λ other. bytes_eq other text) layer))
    go (Form-F.Variable other) = and_all (is_among variables other || false)
    go (Form-F.Row other) = less other
    go _ = refl

pub drops_other : (set : List Form) (variables rows : List Bytes) (name : Form) → names_of variables rows ≡ set
    → ((text : Bytes) → name ≡ form.Variable text → ⊥) → ((text : Bytes) → name ≡ form.Row text → ⊥)
    → (f : Form) → list_any (same f) set ≡ (list_any (same f) set && not (same f name))
drops_other set variables rows name view no_variable no_row f = go (same f name) refl
  where
    and_all : (b : Bool) → b ≡ (b && true)
    and_all true = refl
    and_all false = refl

    go : (b : Bool) → same f name ≡ b → list_any (same f) set ≡ (list_any (same f) set && not b)
    go true e =
        let none : list_any (same f) set ≡ false = has_other set variables rows f view
        (λ text is. no_variable text (sym ((same-Decides f name).0 e) ∙ is)) (λ text is. no_row text (sym ((same-Decides f name).0 e) ∙ is)) in
        none ∙ sym (ap (λ b. b && false) none)
    go false e = and_all (list_any (same f) set)
