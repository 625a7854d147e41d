-- Each kind of form with its guards.
use Rattle.std.proofs.Common.{◌≡◌, List, [], ◌∷◌, map, Bool, true, false, ◌&&◌, if◌then◌else◌, refl, sym, ap, ◌∙◌}
use Rattle.kif_tree.specs.declared.form.Form.{Form, para-Form, para-roll-Form, out-Form}
use Rattle.kif_tree.specs.declared.form.Form.TheVariants as form
use Rattle.kif_tree.specs.declared.form.Form.TheOpen.{Form-F}
use Rattle.kif_tree.specs.FormLaws.{induction}
use Rattle.kif_tree.specs.Names.{parts_in}
use Rattle.kif_tree.specs.Shape.{is_quantifier, lists_names_layer}
use Rattle.kif_tree.specs.Terms.{Bytes}
use Rattle.sigma_base.specs.Lists.{map_twice}
use Rattle.signatures.specs.declared.signatures.Signatures.{Signatures}
use Rattle.type_guard.specs.Guards.{guards}
use Rattle.type_guard.specs.Guarded.{Part, each_guarded, guarded, guarded_step, guarded_parts, under}

guarded-Word : (signatures : Signatures) (text : Bytes) → guarded signatures (form.Word text) ≡ form.Word text
unfolding guarded
guarded-Word signatures text = ap (para-Form Form (guarded_step signatures)) (sym (form.rolls-Word text)) ∙ para-roll-Form Form (guarded_step signatures) (Form-F.Word text)

guarded-Variable : (signatures : Signatures) (text : Bytes) → guarded signatures (form.Variable text) ≡ form.Variable text
unfolding guarded
guarded-Variable signatures text = ap (para-Form Form (guarded_step signatures)) (sym (form.rolls-Variable text)) ∙ para-roll-Form Form (guarded_step signatures) (Form-F.Variable text)

guarded-Row : (signatures : Signatures) (text : Bytes) → guarded signatures (form.Row text) ≡ form.Row text
unfolding guarded
guarded-Row signatures text = ap (para-Form Form (guarded_step signatures)) (sym (form.rolls-Row text)) ∙ para-roll-Form Form (guarded_step signatures) (Form-F.Row text)

guarded-Numeral : (signatures : Signatures) (text : Bytes) → guarded signatures (form.Numeral text) ≡ form.Numeral text
unfolding guarded
guarded-Numeral signatures text = ap (para-Form Form (guarded_step signatures)) (sym (form.rolls-Numeral text)) ∙ para-roll-Form Form (guarded_step signatures) (Form-F.Numeral text)

guarded-Quoted : (signatures : Signatures) (text : Bytes) → guarded signatures (form.Quoted text) ≡ form.Quoted text
unfolding guarded
guarded-Quoted signatures text = ap (para-Form Form (guarded_step signatures)) (sym (form.rolls-Quoted text)) ∙ para-roll-Form Form (guarded_step signatures) (Form-F.Quoted text)

-- a form beside itself with its guards
abbrev pub with_guards : Signatures → Form → Part
with_guards signatures f = (f, guarded signatures f)

pub guarded-List : (signatures : Signatures) (parts : List Form) → guarded signatures (form.List parts) ≡ form.List (guarded_parts signatures (map (with_guards signatures) parts))
unfolding guarded
guarded-List signatures parts = ap (para-Form Form (guarded_step signatures)) (sym (form.rolls-List parts)) ∙ para-roll-Form Form (guarded_step signatures) (Form-F.List parts)

pub guarded_other : (signatures : Signatures) (f : Form) → ((parts : List Form) → f ≡ form.List parts → ⊥) → guarded signatures f ≡ f
guarded_other signatures = induction (λ f. ((parts : List Form) → f ≡ form.List parts → ⊥) → guarded signatures f ≡ f) (record {
  word = λ text _. guarded-Word signatures text;
  variable = λ text _. guarded-Variable signatures text;
  row = λ text _. guarded-Row signatures text;
  numeral = λ text _. guarded-Numeral signatures text;
  quoted = λ text _. guarded-Quoted signatures text;
  list = λ parts each other. absurd (other parts refl);
})

-- ---- lists

abbrev pub quantifies : Form → Form → Bool
quantifies head names = is_quantifier head && lists_names_layer (out-Form names)

pub guarded_quantifier : (signatures : Signatures) (head names body : Form) → quantifies head names ≡ true
    → guarded signatures (form.List (head ∷ names ∷ body ∷ [])) ≡ form.List (head ∷ names ∷ under head (guards signatures (parts_in names) body) (guarded signatures body) ∷ [])
guarded_quantifier signatures head names body h =
    guarded-List signatures (head ∷ names ∷ body ∷ [])
    ∙ ap (λ (b : Bool). form.List (if b then head ∷ names ∷ under head (guards signatures (parts_in names) body) (guarded signatures body) ∷ [] else each_guarded (map (with_guards signatures) (head ∷ names ∷ body ∷ [])))) h

each_of : (signatures : Signatures) (parts : List Form) → each_guarded (map (with_guards signatures) parts) ≡ map (guarded signatures) parts
each_of signatures parts = sym (map_twice (with_guards signatures) (λ (part : Part). part.1) parts)

pub guarded_plain : (signatures : Signatures) (parts : List Form) → ((head names body : Form) → parts ≡ head ∷ names ∷ body ∷ [] → quantifies head names ≡ false)
    → guarded signatures (form.List parts) ≡ form.List (map (guarded signatures) parts)
guarded_plain signatures parts h = guarded-List signatures parts ∙ ap form.List (go parts h)
  where
    go : (fs : List Form) → ((head names body : Form) → fs ≡ head ∷ names ∷ body ∷ [] → quantifies head names ≡ false) → guarded_parts signatures (map (with_guards signatures) fs) ≡ map (guarded signatures) fs
    go [] k = refl
    go (a ∷ []) k = refl
    go (a ∷ b ∷ []) k = refl
    go (a ∷ b ∷ c ∷ []) k =
        ap (λ (q : Bool). if q then a ∷ b ∷ under a (guards signatures (parts_in b) c) (guarded signatures c) ∷ [] else each_guarded (map (with_guards signatures) (a ∷ b ∷ c ∷ []))) (k a b c refl)
    go (a ∷ b ∷ c ∷ d ∷ fs) k = each_of signatures (a ∷ b ∷ c ∷ d ∷ fs)
