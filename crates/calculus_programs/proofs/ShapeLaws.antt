-- What the tests of a form's shape give at each kind of form, and proper clauses by those tests.
use Rattle.std.proofs.Common.{◌≡◌, List, [], ◌∷◌, map, Bool, true, false, not, ◌&&◌, ◌↔◌, refl, sym, ap, ap₂, ◌∙◌}
use Rattle.std.specs.Bool.{IsTrue}
use Rattle.std.specs.List.{list_all, list_any}
use Rattle.kif_tree.specs.declared.form.Form.{Form, para-Form, para-roll-Form}
use Rattle.kif_tree.specs.declared.form.Form.TheVariants as form
use Rattle.kif_tree.specs.declared.form.Form.TheOpen.{Form-F}
use Rattle.kif_tree.specs.declared.clause.Literal.{Literal}
use Rattle.kif_tree.specs.Terms.{Bytes, has_no_row}
use Rattle.kif_tree.specs.FormLaws.{induction}
use Rattle.kif_tree.specs.Clauses.{Literals, is_answer}
use Rattle.kif_tree.specs.Shape.{is_list}
use Rattle.calculus.specs.Closed.{rowless_clause}
use Rattle.calculus.specs.Tidy.{IsTidy}
use Rattle.calculus.specs.Proper.{is_word_layer, Part, begins_with_word, heads_step, has_word_heads, IsProper}
use Rattle.calculus.proofs.TruthLaws.{both}
use Rattle.calculus_programs.specs.Shape.{is_any_word, begins_with_any_word, fits}

-- ---- words

pub is_word-Word : (text : Bytes) → is_any_word (form.Word text) ≡ true
is_word-Word text = ap is_word_layer (form.outs-Word text)

pub is_word_other : (f : Form) → ((text : Bytes) → f ≡ form.Word text → ⊥) → is_any_word f ≡ false
is_word_other = induction (λ f. ((text : Bytes) → f ≡ form.Word text → ⊥) → is_any_word f ≡ false) (record {
  word = λ text other. absurd (other text refl);
  variable = λ text other. ap is_word_layer (form.outs-Variable text);
  row = λ text other. ap is_word_layer (form.outs-Row text);
  numeral = λ text other. ap is_word_layer (form.outs-Numeral text);
  quoted = λ text other. ap is_word_layer (form.outs-Quoted text);
  list = λ parts each other. ap is_word_layer (form.outs-List parts);
})

pub ruleset word_laws = (is_word-Word, is_word_other)

-- ---- heads

part_of : Form → Part
part_of f = (f, has_word_heads f)

begins : (parts : List Form) → begins_with_word (map (λ f. (f, para-Form Bool heads_step f)) parts) ≡ begins_with_any_word parts
begins [] = refl
begins (head ∷ parts) = refl

all_heads : (parts : List Form) → list_all (λ (part : Part). part.1) (map (λ f. (f, para-Form Bool heads_step f)) parts) ≡ list_all (para-Form Bool heads_step) parts
all_heads [] = refl
all_heads (f ∷ parts) = ap (λ (b : Bool). para-Form Bool heads_step f && b) (all_heads parts)

pub heads-List : (parts : List Form) → has_word_heads (form.List parts) ≡ (begins_with_any_word parts && list_all has_word_heads parts)
unfolding has_word_heads
heads-List parts =
    ap (para-Form Bool heads_step) (sym (form.rolls-List parts)) ∙ para-roll-Form Bool heads_step (Form-F.List parts) ∙ ap₂ ◌&&◌ (begins parts) (all_heads parts)

pub heads_other : (f : Form) → ((parts : List Form) → f ≡ form.List parts → ⊥) → has_word_heads f ≡ true
unfolding has_word_heads
heads_other = induction (λ f. ((parts : List Form) → f ≡ form.List parts → ⊥) → para-Form Bool heads_step f ≡ true) (record {
  word = λ text other. ap (para-Form Bool heads_step) (sym (form.rolls-Word text)) ∙ para-roll-Form Bool heads_step (Form-F.Word text);
  variable = λ text other. ap (para-Form Bool heads_step) (sym (form.rolls-Variable text)) ∙ para-roll-Form Bool heads_step (Form-F.Variable text);
  row = λ text other. ap (para-Form Bool heads_step) (sym (form.rolls-Row text)) ∙ para-roll-Form Bool heads_step (Form-F.Row text);
  numeral = λ text other. ap (para-Form Bool heads_step) (sym (form.rolls-Numeral text)) ∙ para-roll-Form Bool heads_step (Form-F.Numeral text);
  quoted = λ text other. ap (para-Form Bool heads_step) (sym (form.rolls-Quoted text)) ∙ para-roll-Form Bool heads_step (Form-F.Quoted text);
  list = λ parts each other. absurd (other parts refl);
})

pub ruleset heads_laws = (heads-List, heads_other)

-- ---- proper clauses

record Fits (c : Literals) : Type 0 where
  pub lists : list_all (λ (literal : Literal). is_list literal.atom) c ≡ true
  pub headed : list_all (λ (literal : Literal). has_word_heads literal.atom) c ≡ true
  pub rowless : rowless_clause c ≡ true

fits_each : (c : Literals) → list_all (λ (literal : Literal). fits literal.atom) c ≡ true → Fits c
fits_each [] h = record { lists = refl; headed = refl; rowless = refl }
fits_each (l ∷ ls) h =
    let hs = both (fits l.atom) (list_all (λ (literal : Literal). fits literal.atom) ls) h in
    let outer = both (is_list l.atom && has_word_heads l.atom) (has_no_row l.atom) hs.0 in
    let inner = both (is_list l.atom) (has_word_heads l.atom) outer.0 in
    let rest = fits_each ls hs.1 in
    record { lists = ap₂ ◌&&◌ inner.0 rest.lists; headed = ap₂ ◌&&◌ inner.1 rest.headed; rowless = ap₂ ◌&&◌ outer.1 rest.rowless }

each_fits : (c : Literals) → list_all (λ (literal : Literal). is_list literal.atom) c ≡ true → list_all (λ (literal : Literal). has_word_heads literal.atom) c ≡ true → rowless_clause c ≡ true
    → list_all (λ (literal : Literal). fits literal.atom) c ≡ true
each_fits [] h k r = refl
each_fits (l ∷ ls) h k r =
    let hs = both (is_list l.atom) (list_all (λ (literal : Literal). is_list literal.atom) ls) h in
    let ks = both (has_word_heads l.atom) (list_all (λ (literal : Literal). has_word_heads literal.atom) ls) k in
    let rs = both (has_no_row l.atom) (rowless_clause ls) r in
    ap₂ ◌&&◌ (ap₂ ◌&&◌ (ap₂ ◌&&◌ hs.0 ks.0) rs.0) (each_fits ls hs.1 ks.1 rs.1)

pub proper_by_tests : (tidy : Bool) (c : Literals) → IsTrue tidy ↔ IsTidy c
    → IsTrue ((tidy && list_any (λ (literal : Literal). not (is_answer literal.atom)) c) && list_all (λ (literal : Literal). fits literal.atom) c) ↔ IsProper c
proper_by_tests tidy c decides = (
  (λ h.
      let outer = both (tidy && list_any (λ (literal : Literal). not (is_answer literal.atom)) c) (list_all (λ (literal : Literal). fits literal.atom) c) h in
      let inner = both tidy (list_any (λ (literal : Literal). not (is_answer literal.atom)) c) outer.0 in
      let rest = fits_each c outer.1 in
      record { is_tidy = decides.0 inner.0; asserts = inner.1; lists = rest.lists; headed = rest.headed; rowless = rest.rowless }),
  (λ p. ap₂ ◌&&◌ (ap₂ ◌&&◌ (decides.1 p.is_tidy) p.asserts) (each_fits c p.lists p.headed p.rowless)),
)
