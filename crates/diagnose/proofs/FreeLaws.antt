-- What `free` and `lists` give at each kind of form.
use Rattle.std.proofs.Common.{◌≡◌, ℕ, ◌+◌, ◌<◌, ◌≤◌, ◌⊎◌, ◌||◌, ◌&&◌, not, List, [], ◌∷◌, ◌++◌, length, get_or, take, if◌then◌else◌, Bool, true, false, refl, sym, ap, ap₂, subst, ◌∙◌, arith, inl, inr}
use Rattle.std.specs.Prelude.{Contains}
use Rattle.std.specs.List.{flat_map}
use Rattle.std.specs.Str.{bytes_eq}
use Rattle.std.proofs.lemmas.List.{take_more}
use Rattle.std.proofs.lemmas.List.Concat.{flat_map-cons}
use Rattle.std.proofs.lemmas.List.Folds.{list_any-append}
use Rattle.std.proofs.lemmas.List.Elements.{Contains-append_left, Contains-append_right, Contains-append_cases}
use Rattle.std.proofs.lemmas.Map.Views.{any-filter_same, list_any-from_Contains}
use Rattle.kif_tree.specs.FormLaws.{induction, fold-Variable}
use Rattle.kif_tree.specs.NameLaws.{free-Word, free-Variable, free-Row, free-Numeral, free-Quoted, free-List, lists-List, lists_other}
use Rattle.kif_tree.specs.Names.{parts_in, parts_layer, bound, is_other, free, lists}
use Rattle.kif_tree.specs.SameLaws.{same-Decides, same_equivalence}
use Rattle.kif_tree.specs.Shape.{is_quantifier, is_quantifier_layer, is_name, is_name_layer, lists_names, lists_names_layer}
use Rattle.kif_tree.specs.Terms.{Bytes, same, same_layer}
use Rattle.kif_tree.specs.declared.form.Form.{Form, out-Form, roll-Form, roll-out-Form}
use Rattle.kif_tree.specs.declared.form.Form.TheOpen.{Form-F}
use Rattle.kif_tree.specs.declared.form.Form.TheVariants as form
use Rattle.diagnose.proofs.FoundLaws.{contains_nothing, contains_first, contains_later, contains_cases}
use Rattle.diagnose.specs.VariableWalk.{is_listed, is_free, is_free_in}

pub or_none : (b : Bool) → (b || false) ≡ b
or_none true = refl
or_none false = refl

false_true : false ≡ true → ⊥
false_true e = cc

-- ---- a variable is the same as another form

abbrev same_step : Form-F (Form → Bool) → Form → Bool
same_step layer other = same_layer layer (out-Form other)

same_at : (name : Bytes) (f : Form) → same (form.Variable name) f ≡ same_layer (Form-F.Variable name) (out-Form f)
unfolding same
same_at name f = ap (λ (test : Form → Bool). test f) (fold-Variable (Form → Bool) same_step name)

pub same_variable : (name : Bytes) (f : Form) (text : Bytes) → f ≡ form.Variable text → same (form.Variable name) f ≡ bytes_eq name text
same_variable name f text is = ap (same (form.Variable name)) is ∙ same_at name (form.Variable text) ∙ ap (same_layer (Form-F.Variable name)) (form.outs-Variable text)

pub same_other : (name : Bytes) (f : Form) → ((text : Bytes) → f ≡ form.Variable text → ⊥) → same (form.Variable name) f ≡ false
same_other name = induction (λ f. ((text : Bytes) → f ≡ form.Variable text → ⊥) → same (form.Variable name) f ≡ false) (record {
  word = λ text _. same_at name (form.Word text) ∙ ap (same_layer (Form-F.Variable name)) (form.outs-Word text);
  variable = λ text other. absurd (other text refl);
  row = λ text _. same_at name (form.Row text) ∙ ap (same_layer (Form-F.Variable name)) (form.outs-Row text);
  numeral = λ text _. same_at name (form.Numeral text) ∙ ap (same_layer (Form-F.Variable name)) (form.outs-Numeral text);
  quoted = λ text _. same_at name (form.Quoted text) ∙ ap (same_layer (Form-F.Variable name)) (form.outs-Quoted text);
  list = λ parts each _. same_at name (form.List parts) ∙ ap (same_layer (Form-F.Variable name)) (form.outs-List parts);
})

-- ---- a variable among others

pub listed_one : (f : Form) (name : Bytes) → is_listed (f ∷ []) name ≡ same (form.Variable name) f
listed_one f name = or_none (same (form.Variable name) f)

pub listed_more : (names : List Form) (i : ℕ) (f : Form) → i < length names → f ≡ get_or names i f → (name : Bytes)
    → is_listed (take (i + 1) names) name ≡ (is_listed (take i names) name || same (form.Variable name) f)
listed_more names i f lt is name =
    ap (λ fs. is_listed fs name) (take_more names i f lt ∙ ap (λ g. take i names ++ g ∷ []) (sym is))
    ∙ list_any-append (same (form.Variable name)) (take i names) (f ∷ [])
    ∙ ap (λ b. is_listed (take i names) name || b) (listed_one f name)

pub contains_listed : (names : List Form) (name : Bytes) → is_listed names name ≡ true → Contains names (form.Variable name)
contains_listed [] name h = absurd (false_true h)
contains_listed (f ∷ names) name h = go (contains_listed names name) (same (form.Variable name) f) refl h
  where
    go : (is_listed names name ≡ true → Contains names (form.Variable name)) → (b : Bool) → same (form.Variable name) f ≡ b → (b || is_listed names name) ≡ true → Contains (f ∷ names) (form.Variable name)
    go later true e k = subst (λ (g : Form). Contains (f ∷ names) g) (sym ((same-Decides (form.Variable name) f).0 e)) (contains_first f names)
    go later false e k = contains_later f names (form.Variable name) (later k)

pub listed_contains : (names : List Form) (name : Bytes) → Contains names (form.Variable name) → is_listed names name ≡ true
listed_contains names name h = list_any-from_Contains same_equivalence (form.Variable name) names h

pub not_listed : (names : List Form) (name : Bytes) → is_listed names name ≡ false → Contains names (form.Variable name) → ⊥
not_listed names name h k = false_true (sym h ∙ listed_contains names name k)

pub listed_not : (names : List Form) (name : Bytes) → (Contains names (form.Variable name) → ⊥) → is_listed names name ≡ false
listed_not names name apart = go (is_listed names name) refl
  where
    go : (b : Bool) → is_listed names name ≡ b → b ≡ false
    go true e = absurd (apart (contains_listed names name e))
    go false e = refl

-- ---- free names

pub is_free_variable : (f : Form) (text : Bytes) → f ≡ form.Variable text → (name : Bytes) → is_free f name ≡ bytes_eq name text
is_free_variable f text is name =
    ap (λ fs. is_listed fs name) (ap free is ∙ free-Variable text) ∙ listed_one (form.Variable text) name ∙ same_variable name (form.Variable text) text refl

-- the variables that are free in what is no list are that form itself
pub is_free_leaf : (f : Form) → ((parts : List Form) → f ≡ form.List parts → ⊥) → (name : Bytes) → is_free f name ≡ same (form.Variable name) f
is_free_leaf f no_list name = induction (λ g. ((parts : List Form) → g ≡ form.List parts → ⊥) → is_free g name ≡ same (form.Variable name) g) (record {
  word = λ text _. ap (λ fs. is_listed fs name) (free-Word text) ∙ sym (same_other name (form.Word text) (λ other e. cc));
  variable = λ text _. ap (λ fs. is_listed fs name) (free-Variable text) ∙ listed_one (form.Variable text) name;
  row = λ text _. ap (λ fs. is_listed fs name) (free-Row text) ∙ listed_one (form.Row text) name;
  numeral = λ text _. ap (λ fs. is_listed fs name) (free-Numeral text) ∙ sym (same_other name (form.Numeral text) (λ other e. cc));
  quoted = λ text _. ap (λ fs. is_listed fs name) (free-Quoted text) ∙ sym (same_other name (form.Quoted text) (λ other e. cc));
  list = λ parts each apart. absurd (apart parts refl);
}) f no_list

pub is_free_other : (f : Form) → ((text : Bytes) → f ≡ form.Variable text → ⊥) → ((parts : List Form) → f ≡ form.List parts → ⊥) → (name : Bytes) → is_free f name ≡ false
is_free_other f no_variable no_list name = is_free_leaf f no_list name ∙ same_other name f no_variable

free_among : (parts : List Form) (name : Bytes) → is_listed (flat_map free parts) name ≡ is_free_in parts name
free_among [] name = refl
free_among (f ∷ parts) name =
    ap (λ fs. is_listed fs name) (flat_map-cons free f parts) ∙ list_any-append (same (form.Variable name)) (free f) (flat_map free parts)
    ∙ ap (λ b. is_free f name || b) (free_among parts name)

other_same : (names : List Form) (v f : Form) → same v f ≡ true → is_other names f ≡ is_other names v
other_same names v f h = ap (is_other names) (sym ((same-Decides v f).0 h))

pub is_free_list : (parts : List Form) (name : Bytes) → is_free (form.List parts) name ≡ (not (is_listed (bound parts) name) && is_free_in parts name)
is_free_list parts name =
    ap (λ fs. is_listed fs name) (free-List parts)
    ∙ any-filter_same (same (form.Variable name)) (is_other (bound parts)) (is_other (bound parts) (form.Variable name)) (λ f h. other_same (bound parts) (form.Variable name) f h) (flat_map free parts)
    ∙ ap (λ b. not (is_listed (bound parts) name) && b) (free_among parts name)

-- ---- names that are listed

abbrev pub quantifies : Form → Form → Bool
quantifies head names = is_quantifier head && lists_names_layer (out-Form names)

both : (a b : Bool) → (a && b) ≡ true → (a ≡ true) × (b ≡ true)
both true b h = (refl, h)
both false b h = absurd (false_true h)

pub bound_quantified : (head names body : Form) → quantifies head names ≡ true → bound (head ∷ names ∷ body ∷ []) ≡ parts_in names
bound_quantified head names body h = ap (λ (b : Bool). if b then parts_in names else []) h

pub bound_unquantified : (head names body : Form) → quantifies head names ≡ false → bound (head ∷ names ∷ body ∷ []) ≡ []
bound_unquantified head names body h = ap (λ (b : Bool). if b then parts_in names else []) h

pub bound_short : (parts : List Form) → length parts < 3 → bound parts ≡ []
bound_short [] h = refl
bound_short (a ∷ []) h = refl
bound_short (a ∷ b ∷ []) h = refl
bound_short (a ∷ b ∷ c ∷ parts) h = absurd (omega arith)

pub bound_long : (parts : List Form) → 4 ≤ length parts → bound parts ≡ []
bound_long [] h = refl
bound_long (a ∷ []) h = refl
bound_long (a ∷ b ∷ []) h = refl
bound_long (a ∷ b ∷ c ∷ []) h = absurd (omega arith)
bound_long (a ∷ b ∷ c ∷ d ∷ parts) h = refl

-- a name is no list, and no quantifier
name_no_list : (f : Form) → is_name f ≡ true → (parts : List Form) → f ≡ form.List parts → ⊥
name_no_list f h parts is = false_true (sym (ap is_name is ∙ ap is_name_layer (form.outs-List parts)) ∙ h)

layer_name : (layer : Form-F Form) → is_name_layer layer ≡ true → is_quantifier_layer layer ≡ false
layer_name (Form-F.Word text) h = absurd (false_true h)
layer_name (Form-F.Variable text) h = refl
layer_name (Form-F.Row text) h = refl
layer_name (Form-F.Numeral text) h = refl
layer_name (Form-F.Quoted text) h = refl
layer_name (Form-F.List parts) h = refl

layer_word : (layer : Form-F Form) (parts : List Form) → is_quantifier_layer layer ≡ true → layer ≡ Form-F.List parts → ⊥
layer_word layer parts h is = false_true (sym (ap is_quantifier_layer is) ∙ h)

pub quantifier_no_list : (f : Form) → is_quantifier f ≡ true → (parts : List Form) → f ≡ form.List parts → ⊥
quantifier_no_list f h parts is = layer_word (out-Form f) parts h (ap out-Form is ∙ form.outs-List parts)

quantifier_no_variable : (f : Form) → is_quantifier f ≡ true → (text : Bytes) → f ≡ form.Variable text → ⊥
quantifier_no_variable f h text is = false_true (sym (ap is_quantifier is ∙ ap is_quantifier_layer (form.outs-Variable text)) ∙ h)

pub bound_names : (names : List Form) → lists_names names ≡ true → bound names ≡ []
bound_names [] h = refl
bound_names (a ∷ []) h = refl
bound_names (a ∷ b ∷ []) h = refl
bound_names (a ∷ b ∷ c ∷ d ∷ names) h = refl
bound_names (a ∷ b ∷ c ∷ []) h =
    bound_unquantified a b c (ap (λ q. q && lists_names_layer (out-Form b)) (layer_name (out-Form a) (both (is_name a) (lists_names (b ∷ c ∷ [])) h).0))

free_in_names : (names : List Form) → lists_names names ≡ true → (name : Bytes) → is_free_in names name ≡ is_listed names name
free_in_names [] h name = refl
free_in_names (f ∷ names) h name =
    let p = both (is_name f) (lists_names names) h in
    ap₂ (λ a b. a || b) (is_free_leaf f (name_no_list f p.0) name) (free_in_names names p.1 name)

pub parts_of : (parts : List Form) → parts_in (form.List parts) ≡ parts
parts_of parts = ap parts_layer (form.outs-List parts)

-- what lists names is the list of them
layer_lists : (names : Form) (layer : Form-F Form) → roll-Form layer ≡ names → out-Form names ≡ layer → lists_names_layer layer ≡ true → (names ≡ form.List (parts_in names)) × (lists_names (parts_in names) ≡ true)
layer_lists names (Form-F.Word text) is out h = absurd (false_true h)
layer_lists names (Form-F.Variable text) is out h = absurd (false_true h)
layer_lists names (Form-F.Row text) is out h = absurd (false_true h)
layer_lists names (Form-F.Numeral text) is out h = absurd (false_true h)
layer_lists names (Form-F.Quoted text) is out h = absurd (false_true h)
layer_lists names (Form-F.List parts) is out h =
    let whole : names ≡ form.List parts = sym is ∙ form.rolls-List parts in
    let inside : parts_in names ≡ parts = ap parts_in whole ∙ parts_of parts in
    (whole ∙ ap form.List (sym inside), ap lists_names inside ∙ h)

pub listing : (names : Form) → lists_names_layer (out-Form names) ≡ true → (names ≡ form.List (parts_in names)) × (lists_names (parts_in names) ≡ true)
listing names h = layer_lists names (out-Form names) (roll-out-Form names) refl h

is_free_names : (names : Form) → lists_names_layer (out-Form names) ≡ true → (name : Bytes) → is_free names name ≡ is_listed (parts_in names) name
is_free_names names h name =
    let l = listing names h in
    ap (λ f. is_free f name) l.0 ∙ is_free_list (parts_in names) name
    ∙ ap₂ (λ a b. not (is_listed a name) && b) (bound_names (parts_in names) l.1) (free_in_names (parts_in names) l.1 name)

without : (a b : Bool) → (not a && (a || b)) ≡ (b && not a)
without true true = refl
without true false = refl
without false true = refl
without false false = refl

-- the variables that are free in a quantifier's list: those of the body that it doesn't list
pub is_free_quantified : (head names body : Form) → quantifies head names ≡ true → (name : Bytes)
    → is_free (form.List (head ∷ names ∷ body ∷ [])) name ≡ (is_free body name && not (is_listed (parts_in names) name))
is_free_quantified head names body h name =
    let p = both (is_quantifier head) (lists_names_layer (out-Form names)) h in
    let first : is_free head name ≡ false = is_free_other head (quantifier_no_variable head p.0) (quantifier_no_list head p.0) name in
    is_free_list (head ∷ names ∷ body ∷ []) name
    ∙ ap₂ (λ a b. not (is_listed a name) && b) (bound_quantified head names body h)
    (ap₂ (λ a b. a || b) first (ap₂ (λ a b. a || b) (is_free_names names p.1 name) (or_none (is_free body name))))
    ∙ without (is_listed (parts_in names) name) (is_free body name)

-- and in another list
pub is_free_parts : (parts : List Form) → bound parts ≡ [] → (name : Bytes) → is_free (form.List parts) name ≡ is_free_in parts name
is_free_parts parts h name = is_free_list parts name ∙ ap (λ fs. not (is_listed fs name) && is_free_in parts name) h

-- ---- lists

-- a list at any depth of one of the forms
pub record IsWithin (parts : List Form) (list : List Form) : Type 0 where
  pub part : Form
  pub among : Contains parts part
  pub has : Contains (lists part) list

pub lists_within : (parts : List Form) (list : List Form) → Contains (flat_map lists parts) list → IsWithin parts list
lists_within [] list h = absurd (contains_nothing list h)
lists_within (f ∷ parts) list h = go (lists_within parts list) (Contains-append_cases (lists f) (flat_map lists parts) list (subst (λ (ls : List (List Form)). Contains ls list) (flat_map-cons lists f parts) h))
  where
    go : (Contains (flat_map lists parts) list → IsWithin parts list) → Contains (lists f) list ⊎ Contains (flat_map lists parts) list → IsWithin (f ∷ parts) list
    go later (inl k) = record { part = f; among = contains_first f parts; has = k }
    go later (inr k) = let w : IsWithin parts list = later k in record { part = w.part; among = contains_later f parts w.part w.among; has = w.has }

pub within_lists : (parts : List Form) (part : Form) (list : List Form) → Contains parts part → Contains (lists part) list → Contains (flat_map lists parts) list
within_lists [] part list h k = absurd (contains_nothing part h)
within_lists (f ∷ parts) part list h k = subst (λ (ls : List (List Form)). Contains ls list) (sym (flat_map-cons lists f parts)) (go (λ c. within_lists parts part list c k) (contains_cases f parts part h))
  where
    go : (Contains parts part → Contains (flat_map lists parts) list) → (f ≡ part) ⊎ Contains parts part → Contains (lists f ++ flat_map lists parts) list
    go later (inl e) = Contains-append_left (lists f) (flat_map lists parts) list (subst (λ (g : Form). Contains (lists g) list) (sym e) k)
    go later (inr c) = Contains-append_right (lists f) (flat_map lists parts) list (later c)

pub no_lists : (f : Form) (list : List Form) → ((parts : List Form) → f ≡ form.List parts → ⊥) → Contains (lists f) list → ⊥
no_lists f list apart h = contains_nothing list (subst (λ (ls : List (List Form)). Contains ls list) (lists_other f apart) h)

pub name_among : (names : List Form) (f : Form) → lists_names names ≡ true → Contains names f → is_name f ≡ true
name_among [] f h c = absurd (contains_nothing f c)
name_among (g ∷ names) f h c = let p = both (is_name g) (lists_names names) h in go p.0 (name_among names f p.1) (contains_cases g names f c)
  where
    go : is_name g ≡ true → (Contains names f → is_name f ≡ true) → (g ≡ f) ⊎ Contains names f → is_name f ≡ true
    go here later (inl e) = subst (λ (x : Form). is_name x ≡ true) e here
    go here later (inr k) = later k

-- the list of names has no list but itself
pub lists_of_names : (names : Form) → lists_names_layer (out-Form names) ≡ true → (list : List Form) → Contains (lists names) list → list ≡ parts_in names
lists_of_names names h list c =
    let l = listing names h in
    go (contains_cases (parts_in names) (flat_map lists (parts_in names)) list (subst (λ (ls : List (List Form)). Contains ls list) (ap lists l.0 ∙ lists-List (parts_in names)) c)) l.1
  where
    go : (parts_in names ≡ list) ⊎ Contains (flat_map lists (parts_in names)) list → lists_names (parts_in names) ≡ true → list ≡ parts_in names
    go (inl e) k = sym e
    go (inr d) k = let w = lists_within (parts_in names) list d in absurd (no_lists w.part list (name_no_list w.part (name_among (parts_in names) w.part k w.among)) w.has)
