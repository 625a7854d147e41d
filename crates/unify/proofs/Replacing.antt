-- What replacing one variable does to a form.
use Rattle.std.proofs.Common.{◌≡◌, List, [], ◌∷◌, map, Bool, true, false, ◌||◌, if◌then◌else◌, refl, sym, ap, ◌∙◌}
use Rattle.std.specs.List.{list_any}
use Rattle.std.specs.Str.{bytes_eq}
use Rattle.std.proofs.lemmas.Slice.Eq.{bytes_eq-Decides}
use Rattle.sigma_base.specs.Lists.{Each, map_each, map_twice, list_any-map}
use Rattle.kif_tree.specs.declared.form.Form.{Form}
use Rattle.kif_tree.specs.declared.form.Form.TheVariants as form
use Rattle.kif_tree.specs.declared.subst.Pair.{Pair}
use Rattle.kif_tree.specs.Terms.{Bytes, occurs}
use Rattle.kif_tree.specs.Subst.{Filling, bind, apply, lookup}
use Rattle.kif_tree.specs.FormLaws.{induction}
use Rattle.kif_tree.proofs.SubstLaws.{bind-Word, bind-Variable, bind-Row, bind-Numeral, bind-Quoted, bind-List}
use Rattle.kif_tree.proofs.TermLaws.{occurs-Word, occurs-Variable, occurs-Row, occurs-Numeral, occurs-Quoted, occurs-List}

-- the substitution of one variable
abbrev pub one : Bytes → Form → List Pair
one name term = record { variable = name; term = term } ∷ []

-- ---- a filling that gives the variable what it gives the term absorbs the replacement

absorbed_at : (b : Bool) (u : Filling) (name other : Bytes) (term : Form) → (b ≡ true → name ≡ other) → u name ≡ bind u term
    → u other ≡ bind u (if b then term else form.Variable other)
absorbed_at true u name other term same forced = ap u (sym (same refl)) ∙ forced
absorbed_at false u name other term same forced = sym (bind-Variable u other)

pub absorbed : (u : Filling) (name : Bytes) (term : Form) → u name ≡ bind u term → (f : Form) → bind u f ≡ bind u (apply (one name term) f)
absorbed u name term forced = induction (λ f. bind u f ≡ bind u (apply (one name term) f)) (record {
  word = λ text. sym (ap (bind u) (bind-Word (lookup (one name term)) text));
  variable = λ text.
      bind-Variable u text
      ∙ absorbed_at (bytes_eq name text) u name text term (bytes_eq-Decides name text).0 forced
      ∙ sym (ap (bind u) (bind-Variable (lookup (one name term)) text));
  row = λ text. sym (ap (bind u) (bind-Row (lookup (one name term)) text));
  numeral = λ text. sym (ap (bind u) (bind-Numeral (lookup (one name term)) text));
  quoted = λ text. sym (ap (bind u) (bind-Quoted (lookup (one name term)) text));
  list = λ parts each.
      bind-List u parts
      ∙ ap form.List (map_each (bind u) (λ f. bind u (apply (one name term) f)) parts each ∙ map_twice (apply (one name term)) (bind u) parts)
      ∙ sym (ap (bind u) (bind-List (lookup (one name term)) parts) ∙ bind-List u (map (apply (one name term)) parts));
})

-- ---- the variable is gone, if it does not occur in the term

none_of : {X : Type 0} (p : X → Bool) (xs : List X) → Each (λ x. p x ≡ false) xs → list_any p xs ≡ false
none_of p [] h = refl
none_of p (x ∷ xs) h = rw (h.0, none_of p xs h.1) refl

gone_at : (b : Bool) (name other : Bytes) (term : Form) → (name ≡ other → b ≡ true) → occurs name term ≡ false
    → occurs name (if b then term else form.Variable other) ≡ false
gone_at true name other term same apart = apart
gone_at false name other term same apart =
    occurs-Variable name other ∙ differs (bytes_eq name other) (λ e. absurd (clash (same ((bytes_eq-Decides name other).0 e))))
  where
    clash : false ≡ true → ⊥
    clash e = cc

    differs : (b : Bool) → (b ≡ true → b ≡ false) → b ≡ false
    differs true h = h refl
    differs false h = refl

pub gone : (name : Bytes) (term : Form) → occurs name term ≡ false → (f : Form) → occurs name (apply (one name term) f) ≡ false
gone name term apart = induction (λ f. occurs name (apply (one name term) f) ≡ false) (record {
  word = λ text. ap (occurs name) (bind-Word (lookup (one name term)) text) ∙ occurs-Word name text;
  variable = λ text.
      ap (occurs name) (bind-Variable (lookup (one name term)) text)
      ∙ gone_at (bytes_eq name text) name text term (bytes_eq-Decides name text).1 apart;
  row = λ text. ap (occurs name) (bind-Row (lookup (one name term)) text) ∙ occurs-Row name text;
  numeral = λ text. ap (occurs name) (bind-Numeral (lookup (one name term)) text) ∙ occurs-Numeral name text;
  quoted = λ text. ap (occurs name) (bind-Quoted (lookup (one name term)) text) ∙ occurs-Quoted name text;
  list = λ parts each.
      ap (occurs name) (bind-List (lookup (one name term)) parts)
      ∙ occurs-List name (map (apply (one name term)) parts)
      ∙ list_any-map (occurs name) (apply (one name term)) parts
      ∙ none_of (λ f. occurs name (apply (one name term) f)) parts each;
})

-- ---- no other variable comes in but those of the term

within_any : {X : Type 0} (p q : X → Bool) (b : Bool) (xs : List X) → Each (λ x. p x ≡ true → (q x || b) ≡ true) xs
    → list_any p xs ≡ true → (list_any q xs || b) ≡ true
within_any p q b [] each h = absurd (false_true h)
  where
    false_true : false ≡ true → ⊥
    false_true e = cc
within_any p q b (x ∷ xs) each h = go (p x) (q x) (list_any p xs) (list_any q xs) b each.0 (within_any p q b xs each.1) h
  where
    go : (px qx ps qs b : Bool) → (px ≡ true → (qx || b) ≡ true) → (ps ≡ true → (qs || b) ≡ true) → (px || ps) ≡ true → ((qx || qs) || b) ≡ true
    go px true ps qs b here rest h = refl
    go true false ps true b here rest h = refl
    go true false ps false b here rest h = here refl
    go false false ps qs b here rest h = rest h

within_at : (c : Bool) (name other text : Bytes) (term : Form) → occurs other (if c then term else form.Variable text) ≡ true
    → (occurs other (form.Variable text) || occurs other term) ≡ true
within_at true name other text term h = rw h (or_true (occurs other (form.Variable text)))
  where
    or_true : (b : Bool) → (b || true) ≡ true
    or_true true = refl
    or_true false = refl
within_at false name other text term h = rw h refl

false_any : (b : Bool) → false ≡ true → (false || b) ≡ true
false_any true e = refl
false_any false e = e

pub within : (name other : Bytes) (term f : Form) → occurs other (apply (one name term) f) ≡ true → (occurs other f || occurs other term) ≡ true
within name other term = induction (λ f. occurs other (apply (one name term) f) ≡ true → (occurs other f || occurs other term) ≡ true) (record {
  word = λ text h. plain (form.Word text) (bind-Word (lookup (one name term)) text) h;
  variable = λ text h. within_at (bytes_eq name text) name other text term (ap (occurs other) (sym (bind-Variable (lookup (one name term)) text)) ∙ h);
  row = λ text h. plain (form.Row text) (bind-Row (lookup (one name term)) text) h;
  numeral = λ text h. plain (form.Numeral text) (bind-Numeral (lookup (one name term)) text) h;
  quoted = λ text h. plain (form.Quoted text) (bind-Quoted (lookup (one name term)) text) h;
  list = λ parts each h.
      let inside : list_any (λ f. occurs other (apply (one name term) f)) parts ≡ true =
      sym (ap (occurs other) (bind-List (lookup (one name term)) parts) ∙ occurs-List other (map (apply (one name term)) parts)
      ∙ list_any-map (occurs other) (apply (one name term)) parts) ∙ h in
      rw occurs-List (within_any (λ f. occurs other (apply (one name term) f)) (occurs other) (occurs other term) parts each inside);
})
  where
    plain : (f : Form) → apply (one name term) f ≡ f → occurs other (apply (one name term) f) ≡ true → (occurs other f || occurs other term) ≡ true
    plain f e h = let k : occurs other f ≡ true = ap (occurs other) (sym e) ∙ h in rw k refl
