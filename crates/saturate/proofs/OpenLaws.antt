-- Clauses with a literal that is no answer literal, whatever its variables become. None of them subsumes a clause of answer literals alone.
use Rattle.std.proofs.Common.{◌≡◌, List, [], ◌∷◌, map, Bool, true, false, not, ◌&&◌, ◌||◌, refl, sym, ap, ◌∙◌, subst, inl, inr}
use Rattle.std.specs.List.{list_all, list_any}
use Rattle.sigma_base.specs.Lists.{Each, each_append, each_left, each_right, each_map}
use Rattle.kif_tree.specs.declared.form.Form.{Form}
use Rattle.kif_tree.specs.declared.form.Form.TheVariants as form
use Rattle.kif_tree.specs.declared.clause.Literal.{Literal}
use Rattle.kif_tree.specs.Terms.{has_no_row}
use Rattle.kif_tree.specs.Shape.{is_list}
use Rattle.kif_tree.specs.Subst.{Filling, bind}
use Rattle.kif_tree.specs.Clauses.{Literals, is_answer, bind_literal, bind_clause}
use Rattle.calculus.specs.Rules.{others}
use Rattle.calculus.specs.Answers.{Among}
use Rattle.calculus.specs.Equality.{equal, reflexivity}
use Rattle.calculus.specs.Proper.{has_word_heads, IsProper}
use Rattle.calculus.proofs.AnswerLaws.{no-answer}
use Rattle.calculus.proofs.MemberLaws.{among-map, each_at}
use Rattle.calculus.proofs.PlaceLaws.{picked, bind-equal}
use Rattle.calculus.proofs.TruthLaws.{both, false_true}
use Rattle.calculus_programs.specs.Shape.{begins_with_any_word}
use Rattle.calculus_programs.proofs.ShapeLaws.{heads-List}
use Rattle.unify.specs.Subsumption.{Stand, Subsumes}
use Rattle.unify.specs.Unifiers.{is_plain}
use Rattle.infer.specs.Plain.{IsPlain}
use Rattle.infer.proofs.PlainClauseLaws.{plain-each}
use Rattle.clause_form.proofs.AtomLaws.{each_of_true, list_of, word_of, answer-List, bind-applied}
use Rattle.saturate.specs.Runs.{has_answers_alone}

abbrev pub StaysOpen : Literal → Type 0
StaysOpen literal = (g : Filling) → is_answer (bind g literal.atom) ≡ false

pub record IsOpen (clause : Literals) : Type 0 where
  pub literal : Literal
  pub stands : Among literal clause
  pub open_still : StaysOpen literal

-- a list keeps the word at its head
stays_open : (f : Form) → is_list f ≡ true → has_word_heads f ≡ true → is_answer f ≡ false → (g : Filling) → is_answer (bind g f) ≡ false
stays_open f list heads other g = let l = list_of f list in go l.parts l.is
  where
    go : (parts : List Form) → f ≡ form.List parts → is_answer (bind g f) ≡ false
    go [] e =
        let hs = both (begins_with_any_word []) (list_all has_word_heads []) (sym (heads-List []) ∙ sym (ap has_word_heads e) ∙ heads) in
        absurd (false_true hs.0)
    go (head ∷ rest) e =
        let hs = both (begins_with_any_word (head ∷ rest)) (list_all has_word_heads (head ∷ rest))
        (sym (heads-List (head ∷ rest)) ∙ sym (ap has_word_heads e) ∙ heads) in
        let word = word_of head hs.0 in
        let whole : f ≡ form.List (form.Word word.text ∷ rest) = e ∙ ap (λ x. form.List (x ∷ rest)) word.is in
        ap is_answer (ap (bind g) whole ∙ bind-applied g word.text rest) ∙ answer-List word.text (map (bind g) rest)
        ∙ sym (answer-List word.text rest) ∙ sym (ap is_answer whole) ∙ other

abbrev HasHead : Literal → Type 0
HasHead literal = (is_list literal.atom ≡ true) × (has_word_heads literal.atom ≡ true)

open_from : (clause : Literals) → Each HasHead clause → has_answers_alone clause ≡ false → IsOpen clause
open_from [] each e = absurd (false_true (sym e))
open_from (l ∷ ls) each e = go (is_answer l.atom) refl e (λ rest. open_from ls each.1 rest)
  where
    go : (b : Bool) → is_answer l.atom ≡ b → (b && has_answers_alone ls) ≡ false → (has_answers_alone ls ≡ false → IsOpen ls) → IsOpen (l ∷ ls)
    go true is none later = let rest = later none in record { literal = rest.literal; stands = inr rest.stands; open_still = rest.open_still }
    go false is none later = record { literal = l; stands = inl refl; open_still = stays_open l.atom each.0.0 each.0.1 is }

-- a plain clause that has not answer literals alone
pub plain_open : (clause : Literals) → IsPlain clause → has_answers_alone clause ≡ false → IsOpen clause
plain_open clause plain e =
    open_from clause (each_map (λ (l : Literal). (is_list l.atom ≡ true) × (is_plain l.atom ≡ true)) HasHead
    (λ l h. let hs = both (has_no_row l.atom) (has_word_heads l.atom) h.1 in (h.0, hs.1)) clause (plain-each clause plain)) e

not_alone : (clause : Literals) → list_any (λ literal. not (is_answer literal.atom)) clause ≡ true → has_answers_alone clause ≡ false
not_alone [] e = absurd (false_true e)
not_alone (l ∷ ls) e = go (is_answer l.atom) e (not_alone ls)
  where
    go : (b : Bool) → (not b || list_any (λ literal. not (is_answer literal.atom)) ls) ≡ true
        → (list_any (λ literal. not (is_answer literal.atom)) ls ≡ true → has_answers_alone ls ≡ false) → (b && has_answers_alone ls) ≡ false
    go true h later = later h
    go false h later = refl

headed_each : (clause : Literals) → list_all (λ literal. is_list literal.atom) clause ≡ true → list_all (λ literal. has_word_heads literal.atom) clause ≡ true
    → Each HasHead clause
headed_each [] lists heads = tt
headed_each (l ∷ ls) lists heads =
    let first = both (is_list l.atom) (list_all (λ literal. is_list literal.atom) ls) lists in
    let second = both (has_word_heads l.atom) (list_all (λ literal. has_word_heads literal.atom) ls) heads in
    ((first.0, second.0), headed_each ls first.1 second.1)

pub proper_open : (clause : Literals) → IsProper clause → IsOpen clause
proper_open clause proper = open_from clause (headed_each clause proper.lists proper.headed) (not_alone clause proper.asserts)

pub equality_open : (a : Form) → IsOpen (reflexivity a)
equality_open a = record {
  literal = record { positive = true; atom = equal a a };
  stands = inl refl;
  open_still = λ g. ap is_answer (bind-equal g a a) ∙ no-answer (bind g a) (bind g a);
}

-- ---- subsumption

stand_each : (P : Literal → Type 0) (literals clause : Literals) → Stand literals clause → Each P clause → Each P literals
stand_each P [] clause h each = tt
stand_each P (l ∷ ls) clause h each =
    let whole = subst (Each P) (picked clause h.place h.found h.at) each in
    let right = each_right P h.found.before (h.found.chosen ∷ h.found.following) whole in (
      subst P h.is right.0,
      stand_each P ls (others h.found) h.rest
          (each_append P h.found.before h.found.following (each_left P h.found.before (h.found.chosen ∷ h.found.following) whole) right.1),
    )

pub never_subsumes : (general special : Literals) → IsOpen general → has_answers_alone special ≡ true → Subsumes general special → ⊥
never_subsumes general special is_open alone h =
    let sent = stand_each (λ (l : Literal). is_answer l.atom ≡ true) (bind_clause h.by general) special h.sends
    (each_of_true (λ (l : Literal). is_answer l.atom) special alone) in
    let answer : is_answer (bind h.by is_open.literal.atom) ≡ true =
    each_at (λ (l : Literal). is_answer l.atom ≡ true) (bind_clause h.by general) (bind_literal h.by is_open.literal)
    (among-map (bind_literal h.by) is_open.literal general is_open.stands) sent in
    false_true (sym (is_open.open_still h.by) ∙ answer)
