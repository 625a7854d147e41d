-- Words and heads of lists that are marked.
use Rattle.std.proofs.Common.{◌≡◌, ℕ, ◌≤◌, ◌||◌, List, [], ◌∷◌, length, map, take, Bool, true, false, refl, sym, ap, ap₂, ◌∙◌}
use Rattle.std.specs.List.{list_any}
use Rattle.std.specs.Str.{bytes_eq}
use Rattle.std.proofs.lemmas.List.{take_all}
use Rattle.std.proofs.lemmas.Slice.Eq.{bytes_eq-Decides}
use Rattle.sigma_base.specs.Lists.{list_any-map}
use Rattle.kif_tree.specs.Clauses.{begins_with}
use Rattle.kif_tree.specs.FormLaws.{induction}
use Rattle.kif_tree.specs.Shape.{has_word}
use Rattle.kif_tree.specs.Terms.{Bytes}
use Rattle.kif_tree.specs.declared.form.Form.{Form, para-Form, para-roll-Form}
use Rattle.kif_tree.specs.declared.form.Form.TheOpen.{Form-F}
use Rattle.kif_tree.specs.declared.form.Form.TheVariants as form
use Rattle.kif_tree.proofs.ShapeLaws.{has_word-Word, has_word-List, has_word_other}
use Rattle.signatures.specs.Marks.{Marks, has, Marked, is_word, begins, heads_in}
use Rattle.signatures.specs.Names.{occurs_in}
use Rattle.signatures.specs.Relations.{heads, heads_step}

or_none : (b : Bool) → (b || false) ≡ b
or_none true = refl
or_none false = refl

or_twice : (a b c : Bool) → ((a || b) || c) ≡ (a || (b || c))
or_twice true b c = refl
or_twice false b c = refl

begins_same : (name : Bytes) (parts : List Form) → begins_with name (map (λ (part : Form × Bool). part.0) (map (λ (part : Form). (part, heads name part)) parts)) ≡ begins_with name parts
begins_same name [] = refl
begins_same name (part ∷ parts) = refl

pub heads-List : (name : Bytes) (parts : List Form) → heads name (form.List parts) ≡ (begins_with name parts || list_any (heads name) parts)
unfolding heads
heads-List name parts =
    ap (para-Form Bool (heads_step name)) (sym (form.rolls-List parts)) ∙ para-roll-Form Bool (heads_step name) (Form-F.List parts)
    ∙ ap₂ (λ a b. a || b) (begins_same name parts) (list_any-map (λ (part : Form × Bool). part.1) (λ (part : Form). (part, heads name part)) parts)

pub heads_other : (name : Bytes) (f : Form) → ((parts : List Form) → f ≡ form.List parts → ⊥) → heads name f ≡ false
unfolding heads
heads_other name = induction (λ f. ((parts : List Form) → f ≡ form.List parts → ⊥) → heads name f ≡ false) (record {
  word = λ text _. ap (para-Form Bool (heads_step name)) (sym (form.rolls-Word text)) ∙ para-roll-Form Bool (heads_step name) (Form-F.Word text);
  variable = λ text _. ap (para-Form Bool (heads_step name)) (sym (form.rolls-Variable text)) ∙ para-roll-Form Bool (heads_step name) (Form-F.Variable text);
  row = λ text _. ap (para-Form Bool (heads_step name)) (sym (form.rolls-Row text)) ∙ para-roll-Form Bool (heads_step name) (Form-F.Row text);
  numeral = λ text _. ap (para-Form Bool (heads_step name)) (sym (form.rolls-Numeral text)) ∙ para-roll-Form Bool (heads_step name) (Form-F.Numeral text);
  quoted = λ text _. ap (para-Form Bool (heads_step name)) (sym (form.rolls-Quoted text)) ∙ para-roll-Form Bool (heads_step name) (Form-F.Quoted text);
  list = λ parts each other. absurd (other parts refl);
})

pub occurs_in_word : (f : Form) (text word other : Bytes) → f ≡ form.Word text → word ≡ text → is_word word other ≡ occurs_in f other
occurs_in_word f text word other is same = ap (bytes_eq other) same ∙ sym (has_word-Word other text) ∙ ap (has_word other) (sym is)

pub occurs_in_parts : (f : Form) (parts items : List Form) (i : ℕ) (other : Bytes) → f ≡ form.List parts → items ≡ parts → length items ≤ i → list_any (has_word other) (take i items) ≡ occurs_in f other
occurs_in_parts f parts items i other is same end = ap (list_any (has_word other)) (take_all i items end ∙ same) ∙ sym (has_word-List other parts) ∙ ap (has_word other) (sym is)

pub occurs_in_other : (f : Form) (other : Bytes) → ((text : Bytes) → f ≡ form.Word text → ⊥) → ((parts : List Form) → f ≡ form.List parts → ⊥) → occurs_in f other ≡ false
occurs_in_other f other no_word no_list = has_word_other other f no_word no_list

pub marked_before : {S : Type 0} (marks : Marks S) (word : Bytes) (b : Bool) → b ≡ has marks word → b ≡ true → Marked (is_word word) marks marks
marked_before marks word b is known = λ other. go other (bytes_eq other word) refl
  where
    go : (other : Bytes) (d : Bool) → bytes_eq other word ≡ d → has marks other ≡ (has marks other || d)
    go other true e = let here : has marks other ≡ true = ap (has marks) ((bytes_eq-Decides other word).0 e) ∙ sym is ∙ known in here ∙ sym (ap (λ c. c || true) here)
    go other false e = sym (or_none (has marks other))

pub heads_of_other : {S : Type 0} (f : Form) (marks : Marks S) → ((parts : List Form) → f ≡ form.List parts → ⊥) → Marked (heads_in f) marks marks
heads_of_other f marks no_list = λ word. sym (ap (λ b. has marks word || b) (heads_other word f no_list) ∙ or_none (has marks word))

pub heads_of_parts : {S : Type 0} (f : Form) (parts first items : List Form) (i : ℕ) (old mid new : Marks S) → f ≡ form.List parts → first ≡ parts → items ≡ parts → length items ≤ i → Marked (begins first) old mid
    → ((word : Bytes) → has new word ≡ (has mid word || list_any (heads word) (take i items))) → Marked (heads_in f) old new
heads_of_parts f parts first items i old mid new is one same end begun h = λ word.
    h word ∙ ap₂ (λ a b. a || b) (begun word ∙ ap (λ ps. has old word || begins_with word ps) one) (ap (list_any (heads word)) (take_all i items end ∙ same))
    ∙ or_twice (has old word) (begins_with word parts) (list_any (heads word) parts) ∙ ap (λ b. has old word || b) (sym (heads-List word parts) ∙ ap (heads word) (sym is))
