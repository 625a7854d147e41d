-- What a search begins with, clause by clause, and that it keeps its inputs.
use Rattle.std.proofs.Common.{◌≡◌, inl, inr, ℕ, ◌+◌, List, [], ◌∷◌, ◌++◌, Bool, true, false, not, codes, Some, None, refl, sym, ap, ◌∙◌, subst}
use Rattle.std.proofs.lemmas.Slice.Eq.{bytes_eq-Decides}
use Rattle.std.specs.List.{list_all}
use Rattle.std.specs.Str.{bytes_eq}
use Rattle.sigma_base.specs.Lists.{Each, each_append, each_map}
use Rattle.kif_tree.specs.declared.form.Form.{Form}
use Rattle.kif_tree.specs.declared.form.Form.TheVariants as form
use Rattle.kif_tree.specs.declared.clause.InputClause.{InputClause}
use Rattle.kif_tree.specs.declared.clause.Literal.{Literal}
use Rattle.kif_tree.specs.declared.place.Place.{Place}
use Rattle.kif_tree.specs.Terms.{Bytes, clean}
use Rattle.kif_tree.specs.FormLaws.{induction}
use Rattle.kif_tree.specs.Shape.{is_list, is_list_layer}
use Rattle.kif_tree.specs.Clauses.{Literals, is_answer}
use Rattle.kif_tree.proofs.TermLaws.{clean-Variable}
use Rattle.calculus.specs.Closed.{rowless_clause}
use Rattle.calculus.specs.Equality.{yes, equal}
use Rattle.calculus.specs.Answers.{Among, answer_atom, reflexivity_input, IsSearchInput, HasAnswer}
use Rattle.calculus.specs.Proper.{is_word_layer, has_word_heads}
use Rattle.calculus.proofs.TruthLaws.{both, false_true, negated}
use Rattle.calculus.proofs.ClosedLaws.{joined_true, clean-equal}
use Rattle.calculus.proofs.PathLaws.{all_parted}
use Rattle.calculus.proofs.MemberLaws.{among-right, among-map, each_at}
use Rattle.calculus_programs.specs.Shape.{is_any_word, begins_with_any_word}
use Rattle.calculus_programs.proofs.ShapeLaws.{heads-List}
use Rattle.clause_form.specs.Sentences.{IsQueryClause}
use Rattle.unify.specs.ClauseSets.{IsSetInput, IsClauseSet}
use Rattle.infer.specs.Checks.{clauses_of}
use Rattle.saturate.specs.declared.ended.Ended.{Ended}
use Rattle.saturate.specs.declared.limits.Limits.{Limits}
use Rattle.saturate.specs.declared.reached.Reached.{Reached}
use Rattle.saturate.specs.Inputs.{reflexivity_inputs, numbered_inputs, needs_reflexivity, search_inputs}
use Rattle.saturate.specs.Runs.{Runs}
use Rattle.saturate.proofs.StepLaws.{Invariant, always}
use Rattle.answers.proofs.RestLaws.{each_among}
use Rattle.answers.proofs.ShownLaws.{mark, answer-List, IsShaped, AreShaped}

-- ---- the literals of proper clauses

record IsWord (f : Form) : Type 0 where
  name : Bytes
  is : f ≡ form.Word name

word_of : (f : Form) → is_any_word f ≡ true → IsWord f
word_of = induction (λ f. is_any_word f ≡ true → IsWord f) (record {
  word = λ text h. record { name = text; is = refl };
  variable = λ text h. absurd (false_true (sym (ap is_word_layer (form.outs-Variable text)) ∙ h));
  row = λ text h. absurd (false_true (sym (ap is_word_layer (form.outs-Row text)) ∙ h));
  numeral = λ text h. absurd (false_true (sym (ap is_word_layer (form.outs-Numeral text)) ∙ h));
  quoted = λ text h. absurd (false_true (sym (ap is_word_layer (form.outs-Quoted text)) ∙ h));
  list = λ parts each h. absurd (false_true (sym (ap is_word_layer (form.outs-List parts)) ∙ h));
})

record IsHeaded (f : Form) : Type 0 where
  name : Bytes
  parts : List Form
  is : f ≡ form.List (form.Word name ∷ parts)

headed_parts : (parts : List Form) → begins_with_any_word parts ≡ true → IsHeaded (form.List parts)
headed_parts [] h = absurd (false_true h)
headed_parts (head ∷ parts) h = let w = word_of head h in record { name = w.name; parts = parts; is = ap (λ (x : Form). form.List (x ∷ parts)) w.is }

headed_of : (f : Form) → is_list f ≡ true → has_word_heads f ≡ true → IsHeaded f
headed_of = induction (λ f. is_list f ≡ true → has_word_heads f ≡ true → IsHeaded f) (record {
  word = λ text h k. absurd (false_true (sym (ap is_list_layer (form.outs-Word text)) ∙ h));
  variable = λ text h k. absurd (false_true (sym (ap is_list_layer (form.outs-Variable text)) ∙ h));
  row = λ text h k. absurd (false_true (sym (ap is_list_layer (form.outs-Row text)) ∙ h));
  numeral = λ text h k. absurd (false_true (sym (ap is_list_layer (form.outs-Numeral text)) ∙ h));
  quoted = λ text h k. absurd (false_true (sym (ap is_list_layer (form.outs-Quoted text)) ∙ h));
  list = λ parts each h k. headed_parts parts (both (begins_with_any_word parts) (list_all has_word_heads parts) (sym (heads-List parts) ∙ k)).0;
})

answerless_shaped : (count : ℕ) (clause : Literals) → list_all (λ literal. is_list literal.atom) clause ≡ true → list_all (λ literal. has_word_heads literal.atom) clause ≡ true
    → list_all (λ literal. not (is_answer literal.atom)) clause ≡ true → AreShaped count clause
answerless_shaped count [] lists headed answerless = tt
answerless_shaped count (literal ∷ clause) lists headed answerless =
    let l = both (is_list literal.atom) (list_all (λ (l : Literal). is_list l.atom) clause) lists in
    let h = both (has_word_heads literal.atom) (list_all (λ (l : Literal). has_word_heads l.atom) clause) headed in
    let a = both (not (is_answer literal.atom)) (list_all (λ (l : Literal). not (is_answer l.atom)) clause) answerless in
    let f = headed_of literal.atom l.0 h.0 in (
      record {
        name = f.name;
        parts = f.parts;
        is = f.is;
        shown = λ e. absurd (false_true (sym (negated (is_answer literal.atom) a.0) ∙ ap is_answer f.is ∙ answer-List f.name f.parts ∙ (bytes_eq-Decides mark f.name).1 (sym e)));
      },
      answerless_shaped count clause l.1 h.1 a.1,
    )

reflexivity_shaped : (count : ℕ) → AreShaped count reflexivity_input
reflexivity_shaped count = (
  record {
    name = codes "equal";
    parts = form.Variable (codes "X1") ∷ form.Variable (codes "X1") ∷ [];
    is = refl;
    shown = λ e. let same : bytes_eq mark (codes "equal") ≡ true = (bytes_eq-Decides mark (codes "equal")).1 (sym e) in absurd (false_true same);
  },
  tt,
)

query_shaped : (count : ℕ) (clause : Literals) → IsQueryClause count clause → AreShaped count clause
query_shaped count clause q =
    let last = yes (answer_atom q.arguments) in
    let lists = all_parted (λ (l : Literal). is_list l.atom) q.front (last ∷ []) (ap (list_all (λ (l : Literal). is_list l.atom)) (sym q.is) ∙ q.proper.lists) in
    let headed = all_parted (λ (l : Literal). has_word_heads l.atom) q.front (last ∷ []) (ap (list_all (λ (l : Literal). has_word_heads l.atom)) (sym q.is) ∙ q.proper.headed) in
    subst (AreShaped count) (sym q.is)
    (each_append (IsShaped count) q.front (last ∷ []) (answerless_shaped count q.front lists.0 headed.0 q.answerless)
    (record { name = mark; parts = q.arguments; is = refl; shown = λ e. (refl, q.counted) }, tt))

has_answer : (count : ℕ) (clause : Literals) → IsQueryClause count clause → HasAnswer clause
has_answer count clause q = record {
  literal = yes (answer_atom q.arguments);
  stands = subst (Among (yes (answer_atom q.arguments))) (sym q.is) (among-right (yes (answer_atom q.arguments)) q.front (yes (answer_atom q.arguments) ∷ []) (inl refl));
  answers = answer-List mark q.arguments ∙ (bytes_eq-Decides mark mark).1 refl;
  positive = refl;
}

pub have_answers : (count : ℕ) (query : List Literals) → Each (IsQueryClause count) query → Each HasAnswer query
have_answers count query are = each_map (IsQueryClause count) HasAnswer (has_answer count) query are

-- ---- inputs

pub record IsInputOf (set : List InputClause) (query : List Literals) (count : ℕ) (input : InputClause) : Type 0 where
  pub shaped : AreShaped count input.clause
  pub rowless : rowless_clause input.clause ≡ true
  pub searched : IsSearchInput (clauses_of set) query input.clause
  pub cited : (place : Place) → input.place ≡ Some place → Among input set

module _ (set : List InputClause) (is_set : IsClauseSet set) (query : List Literals) (count : ℕ) (are : Each (IsQueryClause count) query) where
  of_set : Each (IsInputOf set query count) set
  of_set = each_among (IsInputOf set query count) set (λ input there.
      let s = each_at IsSetInput set input there is_set.each in
      record {
        shaped = answerless_shaped count input.clause s.proper.lists s.proper.headed s.answerless;
        rowless = s.proper.rowless;
        searched = inl (among-map (λ (i : InputClause). i.clause) input set there);
        cited = λ place e. there;
      })

  of_reflexivity : (needed : Bool) → Each (IsInputOf set query count) (reflexivity_inputs needed)
  of_reflexivity false = tt
  of_reflexivity true =
      let x = form.Variable (codes "X1") in (
        record {
          shaped = reflexivity_shaped count;
          rowless = joined_true (clean true (equal x x)) true (clean-equal true x x (clean-Variable true (codes "X1")) (clean-Variable true (codes "X1"))) refl;
          searched = inr (inl refl);
          cited = λ place e. absurd (let none : None ≡ Some place = e in cc);
        },
        tt,
      )

  of_query : (n : ℕ) (list : List Literals) → ((clause : Literals) → Among clause list → Among clause query) → Each (IsInputOf set query count) (numbered_inputs n list)
  of_query n [] within = tt
  of_query n (clause ∷ list) within =
      let there = within clause (inl refl) in
      let q = each_at (IsQueryClause count) query clause there are in (
        record {
          shaped = query_shaped count clause q;
          rowless = q.proper.rowless;
          searched = inr (inr there);
          cited = λ place e. absurd (let none : None ≡ Some place = e in cc);
        },
        of_query (n + 1) list (λ other more. within other (inr more)),
      )

  pub inputs_of : Each (IsInputOf set query count) (search_inputs set query)
  inputs_of =
      each_append (IsInputOf set query count) set (reflexivity_inputs (needs_reflexivity set query) ++ numbered_inputs 1 query) of_set
      (each_append (IsInputOf set query count) (reflexivity_inputs (needs_reflexivity set query)) (numbered_inputs 1 query) (of_reflexivity (needs_reflexivity set query))
      (of_query 1 query (λ clause there. there)))

-- ---- their clauses

pub each_clause : (P : Literals → Type 0) (Q : InputClause → Type 0) → ((input : InputClause) → Q input → P input.clause) → (inputs : List InputClause) → Each Q inputs → Each P (clauses_of inputs)
each_clause P Q h [] each = tt
each_clause P Q h (input ∷ inputs) each = (h input each.0, each_clause P Q h inputs each.1)

pub all_clauses : (p : Literals → Bool) (Q : InputClause → Type 0) → ((input : InputClause) → Q input → p input.clause ≡ true) → (inputs : List InputClause) → Each Q inputs
    → list_all p (clauses_of inputs) ≡ true
all_clauses p Q h [] each = refl
all_clauses p Q h (input ∷ inputs) each = joined_true (p input.clause) (list_all p (clauses_of inputs)) (h input each.0) (all_clauses p Q h inputs each.1)

-- ---- a run keeps its inputs

pub run_inputs : (inputs : List InputClause) (limits : Limits) (turns : ℕ) (r : Reached) (end : Ended) → Runs inputs limits turns r end → r.inputs ≡ inputs
run_inputs inputs limits turns r end runs = (always inputs limits (λ s. Unit {0}) nothing turns r end runs).stands.stay
  where
    nothing : Invariant inputs limits (λ s. Unit {0})
    nothing = record {
      begins = tt;
      takes = λ s given stands holds waits. tt;
      gives = λ s given stands holds waits. tt;
      comes = λ s given partner list conclusion a stands holds parents among is. tt;
    }
