-- What filling in variables gives at each kind of form, and the laws of composition and agreement.
use Rattle.std.proofs.Common.{◌≡◌, List, [], ◌∷◌, map, Bool, true, false, ◌&&◌, if◌then◌else◌, refl, sym, ap, ap₂, ◌∙◌, subst}
use Rattle.std.specs.Str.{bytes_eq}
use Rattle.sigma_base.specs.Lists.{Each, each_append, each_left, each_right, map_each, map_twice}
use Rattle.kif_tree.specs.declared.form.Form.{Form, out-Form}
use Rattle.kif_tree.specs.declared.form.Form.TheVariants as form
use Rattle.kif_tree.specs.declared.form.Form.TheOpen.{Form-F}
use Rattle.kif_tree.specs.declared.subst.Pair.{Pair}
use Rattle.kif_tree.specs.declared.subst.Unnamed.{Unnamed}
use Rattle.kif_tree.specs.declared.subst.Unnamed.TheVariants.{Stays, BecomesAny}
use Rattle.kif_tree.specs.Terms.{Bytes, variables, joined, clean}
use Rattle.kif_tree.specs.Subst.{Filling, bind, bind_step, via, lookup, apply, value_of, filling_of, compose}
use Rattle.kif_tree.specs.FormLaws.{induction, fold-Word, fold-Variable, fold-Row, fold-Numeral, fold-Quoted, fold-List}
use Rattle.kif_tree.proofs.TermLaws.{variables-Word, variables-Variable, variables-Row, variables-Numeral, variables-Quoted, variables-List, clean-Word, clean-Row, clean-Numeral, clean-Quoted, clean-List, clean_all}

pub bind-Word : (g : Filling) (text : Bytes) → bind g (form.Word text) ≡ form.Word text
unfolding bind
bind-Word g text = fold-Word Form (bind_step g) text

pub bind-Variable : (g : Filling) (text : Bytes) → bind g (form.Variable text) ≡ g text
unfolding bind
bind-Variable g text = fold-Variable Form (bind_step g) text

pub bind-Row : (g : Filling) (text : Bytes) → bind g (form.Row text) ≡ form.Row text
unfolding bind
bind-Row g text = fold-Row Form (bind_step g) text

pub bind-Numeral : (g : Filling) (text : Bytes) → bind g (form.Numeral text) ≡ form.Numeral text
unfolding bind
bind-Numeral g text = fold-Numeral Form (bind_step g) text

pub bind-Quoted : (g : Filling) (text : Bytes) → bind g (form.Quoted text) ≡ form.Quoted text
unfolding bind
bind-Quoted g text = fold-Quoted Form (bind_step g) text

pub bind-List : (g : Filling) (parts : List Form) → bind g (form.List parts) ≡ form.List (map (bind g) parts)
unfolding bind
bind-List g parts = fold-List Form (bind_step g) parts

-- a form that is no variable and no list
pub bind_other : (g : Filling) (f : Form) → ((name : Bytes) → f ≡ form.Variable name → ⊥) → ((parts : List Form) → f ≡ form.List parts → ⊥) → bind g f ≡ f
bind_other g = induction (λ f. ((name : Bytes) → f ≡ form.Variable name → ⊥) → ((parts : List Form) → f ≡ form.List parts → ⊥) → bind g f ≡ f) (record {
  word = λ text _ _. bind-Word g text;
  variable = λ text other _. absurd (other text refl);
  row = λ text _ _. bind-Row g text;
  numeral = λ text _ _. bind-Numeral g text;
  quoted = λ text _ _. bind-Quoted g text;
  list = λ parts each _ other. absurd (other parts refl);
})

pub ruleset bind_laws = (bind-Word, bind-Variable, bind-Row, bind-Numeral, bind-Quoted, bind-List, bind_other)

-- one filling and then another
pub bind-via : (f g : Filling) (x : Form) → bind (via f g) x ≡ bind g (bind f x)
bind-via f g = induction (λ x. bind (via f g) x ≡ bind g (bind f x)) (record {
  word = λ text. bind-Word (via f g) text ∙ sym (ap (bind g) (bind-Word f text) ∙ bind-Word g text);
  variable = λ text. bind-Variable (via f g) text ∙ sym (ap (bind g) (bind-Variable f text));
  row = λ text. bind-Row (via f g) text ∙ sym (ap (bind g) (bind-Row f text) ∙ bind-Row g text);
  numeral = λ text. bind-Numeral (via f g) text ∙ sym (ap (bind g) (bind-Numeral f text) ∙ bind-Numeral g text);
  quoted = λ text. bind-Quoted (via f g) text ∙ sym (ap (bind g) (bind-Quoted f text) ∙ bind-Quoted g text);
  list = λ parts each.
      bind-List (via f g) parts
      ∙ ap form.List (map_each (bind (via f g)) (λ x. bind g (bind f x)) parts each ∙ map_twice (bind f) (bind g) parts)
      ∙ sym (ap (bind g) (bind-List f parts) ∙ bind-List g (map (bind f) parts));
})

-- ---- fillings that agree on the variables of a form agree on the form

abbrev pub Agree : Filling → Filling → Bytes → Type 0
Agree f g name = f name ≡ g name

agree_parts : (f g : Filling) (parts : List Form) → Each (λ x. Each (Agree f g) (variables x) → bind f x ≡ bind g x) parts
    → Each (Agree f g) (joined (map variables parts)) → map (bind f) parts ≡ map (bind g) parts
agree_parts f g [] each h = refl
agree_parts f g (x ∷ parts) each h =
    ap₂ ◌∷◌ (each.0 (each_left (Agree f g) (variables x) (joined (map variables parts)) h))
    (agree_parts f g parts each.1 (each_right (Agree f g) (variables x) (joined (map variables parts)) h))

pub agree : (f g : Filling) (x : Form) → Each (Agree f g) (variables x) → bind f x ≡ bind g x
agree f g = induction (λ x. Each (Agree f g) (variables x) → bind f x ≡ bind g x) (record {
  word = λ text h. bind-Word f text ∙ sym (bind-Word g text);
  variable = λ text h. bind-Variable f text ∙ (subst (Each (Agree f g)) (variables-Variable text) h).0 ∙ sym (bind-Variable g text);
  row = λ text h. bind-Row f text ∙ sym (bind-Row g text);
  numeral = λ text h. bind-Numeral f text ∙ sym (bind-Numeral g text);
  quoted = λ text h. bind-Quoted f text ∙ sym (bind-Quoted g text);
  list = λ parts each h.
      bind-List f parts ∙ ap form.List (agree_parts f g parts each (subst (Each (Agree f g)) (variables-List parts) h)) ∙ sym (bind-List g parts);
})

-- and where the form becomes the same, they agree

agree_back_parts : (f g : Filling) (parts : List Form) → Each (λ x. bind f x ≡ bind g x → Each (Agree f g) (variables x)) parts
    → map (bind f) parts ≡ map (bind g) parts → Each (Agree f g) (joined (map variables parts))
agree_back_parts f g [] each h = tt
agree_back_parts f g (x ∷ parts) each h =
    each_append (Agree f g) (variables x) (joined (map variables parts)) (each.0 (cc)) (agree_back_parts f g parts each.1 (cc))

pub agree_back : (f g : Filling) (x : Form) → bind f x ≡ bind g x → Each (Agree f g) (variables x)
agree_back f g = induction (λ x. bind f x ≡ bind g x → Each (Agree f g) (variables x)) (record {
  word = λ text h. subst (Each (Agree f g)) (sym (variables-Word text)) tt;
  variable = λ text h. subst (Each (Agree f g)) (sym (variables-Variable text)) (sym (bind-Variable f text) ∙ h ∙ bind-Variable g text, tt);
  row = λ text h. subst (Each (Agree f g)) (sym (variables-Row text)) tt;
  numeral = λ text h. subst (Each (Agree f g)) (sym (variables-Numeral text)) tt;
  quoted = λ text h. subst (Each (Agree f g)) (sym (variables-Quoted text)) tt;
  list = λ parts each h.
      let lists : form.List (map (bind f) parts) ≡ form.List (map (bind g) parts) = sym (bind-List f parts) ∙ h ∙ bind-List g parts in
      let layers : Form-F.List (map (bind f) parts) ≡ Form-F.List (map (bind g) parts) =
      sym (form.outs-List (map (bind f) parts)) ∙ ap out-Form lists ∙ form.outs-List (map (bind g) parts) in
      subst (Each (Agree f g)) (sym (variables-List parts)) (agree_back_parts f g parts each (cc));
})

-- ---- a filling whose forms are clean makes a form without row variables clean

both : (a b : Bool) → (a && b) ≡ true → (a ≡ true) × (b ≡ true)
both true b h = (refl, h)
both false b h = let no_way : false ≡ true = h in absurd (cc)

clean_parts : (v : Bool) (g : Filling) (parts : List Form) → Each (λ x. clean true x ≡ true → clean v (bind g x) ≡ true) parts
    → clean_all true parts ≡ true → clean_all v (map (bind g) parts) ≡ true
clean_parts v g [] each h = refl
clean_parts v g (x ∷ parts) each h =
    let split = both (clean true x) (clean_all true parts) h in
    ap₂ ◌&&◌ (each.0 split.0) (clean_parts v g parts each.1 split.1)

pub clean-bind : (v : Bool) (g : Filling) → ((name : Bytes) → clean v (g name) ≡ true) → (x : Form) → clean true x ≡ true → clean v (bind g x) ≡ true
clean-bind v g fills = induction (λ x. clean true x ≡ true → clean v (bind g x) ≡ true) (record {
  word = λ text h. ap (clean v) (bind-Word g text) ∙ clean-Word v text;
  variable = λ text h. ap (clean v) (bind-Variable g text) ∙ fills text;
  row = λ text h. let no_way : false ≡ true = sym (clean-Row true text) ∙ h in absurd (cc);
  numeral = λ text h. ap (clean v) (bind-Numeral g text) ∙ clean-Numeral v text;
  quoted = λ text h. ap (clean v) (bind-Quoted g text) ∙ clean-Quoted v text;
  list = λ parts each h.
      ap (clean v) (bind-List g parts) ∙ clean-List v (map (bind g) parts) ∙ clean_parts v g parts each (sym (clean-List true parts) ∙ h);
})

-- ---- substitutions by pairs

choice : (b : Bool) (t : List Pair) (f g h : Form) → g ≡ apply t h → (if b then apply t f else g) ≡ apply t (if b then f else h)
choice true t f g h e = refl
choice false t f g h e = e

pub lookup-compose : (s t : List Pair) (name : Bytes) → lookup (compose s t) name ≡ apply t (lookup s name)
lookup-compose [] t name = sym (bind-Variable (lookup t) name)
lookup-compose (pair ∷ s) t name = choice (bytes_eq pair.variable name) t pair.term _ (lookup s name) (lookup-compose s t name)

pub apply-compose : (s t : List Pair) (f : Form) → apply (compose s t) f ≡ apply t (apply s f)
apply-compose s t f =
    agree (lookup (compose s t)) (via (lookup s) (lookup t)) f (everywhere (variables f)) ∙ bind-via (lookup s) (lookup t) f
  where
    everywhere : (names : List Bytes) → Each (Agree (lookup (compose s t)) (via (lookup s) (lookup t))) names
    everywhere [] = tt
    everywhere (name ∷ names) = (lookup-compose s t name, everywhere names)

-- ---- the look-up of the code

pub filling-first : (u : Unnamed) (pair : Pair) (pairs : List Pair) (name : Bytes) → bytes_eq pair.variable name ≡ true → filling_of u (pair ∷ pairs) name ≡ pair.term
filling-first Stays pair pairs name e = ap (λ (b : Bool). if b then pair.term else lookup pairs name) e
filling-first BecomesAny pair pairs name e = ap (λ (b : Bool). if b then pair.term else value_of pairs name) e

pub filling-later : (u : Unnamed) (pair : Pair) (pairs : List Pair) (name : Bytes) → bytes_eq pair.variable name ≡ false → filling_of u (pair ∷ pairs) name ≡ filling_of u pairs name
filling-later Stays pair pairs name e = ap (λ (b : Bool). if b then pair.term else lookup pairs name) e
filling-later BecomesAny pair pairs name e = ap (λ (b : Bool). if b then pair.term else value_of pairs name) e

pub ruleset filling_laws = (filling-first, filling-later)
