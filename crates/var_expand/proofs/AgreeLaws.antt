-- Choices of some variables, and the whole choices that agree with them.
use Rattle.std.proofs.Common.{◌≡◌, ◌⊎◌, List, [], ◌∷◌, ◌++◌, map, length, Bool, true, false, if◌then◌else◌, Option, Some, None, is_some, refl, sym, ap, subst, ◌∙◌, inl, inr}
use Rattle.std.specs.Prelude.{codes}
use Rattle.kif_tree.specs.declared.form.Form.{Form, out-Form}
use Rattle.kif_tree.specs.declared.form.Form.TheVariants as form
use Rattle.kif_tree.specs.declared.form.Form.TheOpen.{Form-F}
use Rattle.kif_tree.specs.SameLaws.{same-Decides}
use Rattle.kif_tree.specs.Terms.{Bytes, same}
use Rattle.taxonomy.specs.Told.{word_text, word_layer}
use Rattle.var_expand.specs.Choices.{Setting, Choice, sets, options, options_layer, beginnings, row_part, becomes_by, is_row}
use Rattle.kif_tree.specs.Profile.{is_row_layer as row_layer}
use Rattle.var_expand.specs.Chosen.{set_to, is_set}
use Rattle.var_expand.specs.Search.{Has, IsDrawn, Agrees, variable_of}
use Rattle.var_expand.proofs.MemberLaws.{has_map}

-- ---- what a longer choice sets

grown_step : (f : Form) (b old new : List Form) (set : Option (List Form)) (here : Bool) → (is_some set ≡ true → old ≡ new)
    → is_some (if here then Some b else set) ≡ true → (if here then b else old) ≡ (if here then b else new)
grown_step f b old new set true ih h = refl
grown_step f b old new set false ih h = ih h

grown : (p q : Choice) (f : Form) → is_set p f ≡ true → becomes_by p f ≡ becomes_by (p ++ q) f
grown [] q f h = absurd (cc)
grown (s ∷ p) q f h = grown_step f s.becomes (becomes_by p f) (becomes_by (p ++ q) f) (set_to p f) (same s.variable f) (grown p q f) h

pub agrees_longer : (p q : Choice) → Agrees p (p ++ q)
agrees_longer p q = record { alike = grown p q }

one_more : (w : Choice) (v : Form) (b : List Form) (f : Form) (here : Bool) → same v f ≡ here → becomes_by w v ≡ b
    → is_some (if here then Some b else None) ≡ true → (if here then b else f ∷ []) ≡ becomes_by w f
one_more w v b f true e is h = sym is ∙ ap (becomes_by w) ((same-Decides v f).0 e)
one_more w v b f false e is h = absurd (cc)

more_step : (here : Bool) (b old new target : List Form) (old_set new_set : Option (List Form))
    → (is_some (if here then Some b else old_set) ≡ true → (if here then b else old) ≡ target)
    → ((is_some old_set ≡ true → old ≡ target) → is_some new_set ≡ true → new ≡ target)
    → is_some (if here then Some b else new_set) ≡ true → (if here then b else new) ≡ target
more_step true b old new target old_set new_set h ih x = h refl
more_step false b old new target old_set new_set h ih x = ih h x

more : (p w : Choice) (v : Form) (b : List Form) (f : Form) → becomes_by w v ≡ b → (is_set p f ≡ true → becomes_by p f ≡ becomes_by w f)
    → is_set (p ++ sets v b ∷ []) f ≡ true → becomes_by (p ++ sets v b ∷ []) f ≡ becomes_by w f
more [] w v b f is h x = one_more w v b f (same v f) refl is x
more (s ∷ p) w v b f is h x =
    more_step (same s.variable f) s.becomes (becomes_by p f) (becomes_by (p ++ sets v b ∷ []) f) (becomes_by w f) (set_to p f) (set_to (p ++ sets v b ∷ []) f) h (more p w v b f is) x

pub agrees_more : (p w : Choice) (v : Form) (b : List Form) → Agrees p w → becomes_by w v ≡ b → Agrees (p ++ sets v b ∷ []) w
agrees_more p w v b agrees is = record { alike = λ f. more p w v b f is (agrees.alike f) }

pub agrees_none : (w : Choice) → Agrees [] w
agrees_none w = record { alike = λ f h. absurd (cc) }

-- ---- what options are

-- a word alone, or forms the first of which is no word
pub record IsShaped (becomes : List Form) : Type 0 where
  pub first : Form
  pub later : List Form
  pub is : becomes ≡ first ∷ later
  pub word : (later ≡ []) ⊎ (word_text first ≡ None)

pub record IsOption (variable : Form) (becomes : List Form) : Type 0 where
  pub shaped : IsShaped becomes
  pub single : is_row variable ≡ false → length becomes ≡ 1
  pub no_word : word_text variable ≡ None

begins : (x : Form) (xs b : List Form) → Has (beginnings (x ∷ xs)) b → (more : List Form) × (b ≡ x ∷ more)
begins x xs b (inl e) = ([], sym e)
begins x xs b (inr h) = let r = has_map (λ ys. x ∷ ys) (beginnings xs) b h in (r.0, sym r.2)

variable_text : (text : Bytes) → word_text (form.Variable text) ≡ None
unfolding word_text
variable_text text = ap word_layer (form.outs-Variable text)

by_layer : (v : Form) (layer : Form-F Form) → out-Form v ≡ layer → word_layer layer ≡ None → word_text v ≡ None
unfolding word_text
by_layer v layer e h = ap word_layer e ∙ h

true_false : true ≡ false → ⊥
true_false e = cc

option_by : (relations : List Bytes) (v : Form) (b : List Form) (layer : Form-F Form) → out-Form v ≡ layer → Has (options_layer relations layer) b → IsOption v b
option_by relations v b (Form-F.Word text) e h = absurd h
option_by relations v b (Form-F.Variable text) e h =
    let r = has_map (λ relation. form.Word relation ∷ []) relations b h in record {
      shaped = record { first = form.Word r.0; later = []; is = sym r.2; word = inl refl };
      single = λ x. ap length (sym r.2);
      no_word = by_layer v (Form-F.Variable text) e refl;
    }
option_by relations v b (Form-F.Row text) e h =
    let r = begins (row_part text (codes "1")) (map (row_part text) (codes "2" ∷ codes "3" ∷ codes "4" ∷ codes "5" ∷ [])) b h in record {
      shaped = record { first = row_part text (codes "1"); later = r.0; is = r.1; word = inr (variable_text _) };
      single = λ x. absurd (true_false (sym (ap row_layer e) ∙ x));
      no_word = by_layer v (Form-F.Row text) e refl;
    }
option_by relations v b (Form-F.Numeral text) e h = absurd h
option_by relations v b (Form-F.Quoted text) e h = absurd h
option_by relations v b (Form-F.List parts) e h = absurd h

pub option_is : (relations : List Bytes) (v : Form) (b : List Form) → Has (options relations v) b → IsOption v b
option_is relations v b h = option_by relations v b (out-Form v) refl h

-- ---- what drawn choices make of forms

-- what a drawn choice makes of a form: it stays, or becomes an option of its own
pub record Becomes (relations : List Bytes) (choice : Choice) (f : Form) : Type 0 where
  pub cases : ((set_to choice f ≡ None) × (becomes_by choice f ≡ f ∷ [])) ⊎ (Has (options relations f) (becomes_by choice f))

becomes_step : (relations : List Bytes) (s : Setting) (choice : Choice) (f : Form) (here : Bool) → same s.variable f ≡ here → Has (options relations s.variable) s.becomes → Becomes relations choice f
    → (((if here then Some s.becomes else set_to choice f) ≡ None) × ((if here then s.becomes else becomes_by choice f) ≡ f ∷ [])) ⊎ (Has (options relations f) (if here then s.becomes else becomes_by choice f))
becomes_step relations s choice f true e h ih = inr (subst (λ v. Has (options relations v) s.becomes) ((same-Decides s.variable f).0 e) h)
becomes_step relations s choice f false e h ih = ih.cases

pub becomes_of : (relations : List Bytes) (choice : Choice) (f : Form) → IsDrawn relations choice → Becomes relations choice f
becomes_of relations [] f drawn = record { cases = inl (refl, refl) }
becomes_of relations (s ∷ choice) f drawn = record { cases = becomes_step relations s choice f (same s.variable f) refl drawn.0 (becomes_of relations choice f drawn.1) }

-- a variable of the choice becomes one of its options
chosen_step : (relations : List Bytes) (s : Setting) (choice : Choice) (f : Form) (here : Bool) → same s.variable f ≡ here → Has (options relations s.variable) s.becomes
    → (Has (map variable_of choice) f → Has (options relations f) (becomes_by choice f)) → (s.variable ≡ f) ⊎ Has (map variable_of choice) f
    → Has (options relations f) (if here then s.becomes else becomes_by choice f)
chosen_step relations s choice f true e h ih x = subst (λ v. Has (options relations v) s.becomes) ((same-Decides s.variable f).0 e) h
chosen_step relations s choice f false e h ih (inl x) = absurd (true_false (sym ((same-Decides s.variable f).1 x) ∙ e))
chosen_step relations s choice f false e h ih (inr x) = ih x

pub chosen_of : (relations : List Bytes) (choice : Choice) (f : Form) → IsDrawn relations choice → Has (map variable_of choice) f → Has (options relations f) (becomes_by choice f)
chosen_of relations [] f drawn h = absurd h
chosen_of relations (s ∷ choice) f drawn h = chosen_step relations s choice f (same s.variable f) refl drawn.0 (λ x. chosen_of relations choice f drawn.1 x) h

shaped_by : (relations : List Bytes) (f : Form) (b : List Form) (set : Option (List Form)) → ((set ≡ None) × (b ≡ f ∷ [])) ⊎ (Has (options relations f) b) → IsShaped b
shaped_by relations f b set (inl e) = record { first = f; later = []; is = e.1; word = inl refl }
shaped_by relations f b set (inr h) = (option_is relations f b h).shaped

pub shaped_of : (relations : List Bytes) (choice : Choice) (f : Form) → IsDrawn relations choice → IsShaped (becomes_by choice f)
shaped_of relations choice f drawn = shaped_by relations f (becomes_by choice f) (set_to choice f) (becomes_of relations choice f drawn).cases

some_none : (text : Bytes) → Some text ≡ None → ⊥
some_none text e = cc

stays_by : (relations : List Bytes) (f : Form) (text : Bytes) (b : List Form) (set : Option (List Form)) → word_text f ≡ Some text
    → ((set ≡ None) × (b ≡ f ∷ [])) ⊎ (Has (options relations f) b) → b ≡ f ∷ []
stays_by relations f text b set e (inl h) = h.1
stays_by relations f text b set e (inr h) = absurd (some_none text (sym e ∙ (option_is relations f b h).no_word))

-- a word stays
pub word_stays : (relations : List Bytes) (choice : Choice) (f : Form) (text : Bytes) → IsDrawn relations choice → word_text f ≡ Some text → becomes_by choice f ≡ f ∷ []
word_stays relations choice f text drawn e = stays_by relations f text (becomes_by choice f) (set_to choice f) e (becomes_of relations choice f drawn).cases

length_by : (relations : List Bytes) (f : Form) (b : List Form) (set : Option (List Form)) → ((set ≡ None) × (b ≡ f ∷ [])) ⊎ (Has (options relations f) b) → is_row f ≡ false → length b ≡ 1
length_by relations f b set (inl e) h = ap length e.1
length_by relations f b set (inr has) h = (option_is relations f b has).single h

pub length_of : (relations : List Bytes) (choice : Choice) (f : Form) → IsDrawn relations choice → is_row f ≡ false → length (becomes_by choice f) ≡ 1
length_of relations choice f drawn h = length_by relations f (becomes_by choice f) (set_to choice f) (becomes_of relations choice f drawn).cases h
