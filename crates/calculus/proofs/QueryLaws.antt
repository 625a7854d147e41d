-- The evidence of a clause of answer literals alone is evidence for the query.
use Rattle.std.proofs.Common.{◌≡◌, List, [], ◌∷◌, Bool, true, false, not, if◌then◌else◌, codes, refl, sym, ap, ◌∙◌, inl, inr}
use Rattle.std.specs.List.{list_all}
use Rattle.sigma_base.specs.Lists.{Each, each_map}
use Rattle.kif_tree.specs.declared.form.Form.{Form, out-Form, roll-Form, roll-out-Form}
use Rattle.kif_tree.specs.declared.form.Form.TheVariants as form
use Rattle.kif_tree.specs.declared.form.Form.TheOpen.{Form-F}
use Rattle.kif_tree.specs.declared.clause.Literal.{Literal}
use Rattle.kif_tree.specs.Terms.{clean}
use Rattle.kif_tree.specs.Subst.{Filling, bind}
use Rattle.kif_tree.specs.Clauses.{Literals, bind_literal, bare, without_answers, is_answer, heads_layer}
use Rattle.kif_tree.proofs.SubstLaws.{bind-Variable}
use Rattle.calculus.specs.Truth.{satisfies, satisfies_all}
use Rattle.calculus.specs.Closed.{ground_clause}
use Rattle.calculus.specs.Equality.{yes, equal, reflexivity, IsEqualityInstance}
use Rattle.calculus.specs.Evidence.{evidence, Use, uses}
use Rattle.calculus.specs.Answers.{Among, answer_atom, arguments, arguments_in, answers_of, shown_bindings, IsEvidence, IsEvidenceMember, reflexivity_input, IsSearchInput, HasAnswer, UseAnswers, IsUsed, IsOfUses}
use Rattle.calculus.specs.Laws.{EvidenceRefutes, QueryEvidence, ContradictionEvidence}
use Rattle.calculus.proofs.TruthLaws.{both, false_true}
use Rattle.calculus.proofs.PlaceLaws.{word_is, bind-equal}
use Rattle.calculus.proofs.ClosedLaws.{joined_true, clean-equal}
use Rattle.calculus.proofs.EvidenceLaws.{evidence_holds}
use Rattle.calculus.proofs.InstanceLaws.{evidence_is_of_uses, nth-among}
use Rattle.calculus.proofs.MemberLaws.{among-map, among-filter, each_at}
use Rattle.calculus.proofs.AnswerLaws.{headed-bind, layer_of, no-answer, answers_stay}

-- ---- nothing is left of a clause of answer literals

no_literals : (clause : Literals) (g : Filling) → list_all (λ literal. is_answer literal.atom) clause ≡ true → bare clause g ≡ []
no_literals [] g h = refl
no_literals (l ∷ ls) g h =
    let hs = both (is_answer l.atom) (list_all (λ literal. is_answer literal.atom) ls) h in
    ap (λ (b : Bool). if not b then bind_literal g l ∷ bare ls g else bare ls g) (headed-bind (codes "!answer") g l.atom hs.0) ∙ no_literals ls g hs.1

pub evidence_refutes : EvidenceRefutes
evidence_refutes inputs steps clauses derivation n clause is answers g atoms = go (satisfies_all atoms (evidence inputs steps clauses n g)) refl
  where
    go : (b : Bool) → satisfies_all atoms (evidence inputs steps clauses n g) ≡ b → satisfies_all atoms (evidence inputs steps clauses n g) ≡ false
    go false e = e
    go true e = absurd (false_true (sym (ap (satisfies atoms) (no_literals clause g answers)) ∙ evidence_holds inputs steps clauses derivation n clause is g atoms e))

-- ---- members

answer_layer : (layer : Form-F Form) → heads_layer (codes "!answer") layer ≡ true → roll-Form layer ≡ answer_atom (arguments_in layer)
answer_layer (Form-F.List []) h = absurd (false_true h)
answer_layer (Form-F.List (head ∷ parts)) h = form.rolls-List (head ∷ parts) ∙ ap (λ x. form.List (x ∷ parts)) (word_is (codes "!answer") head h)
answer_layer (Form-F.Word text) h = absurd (false_true h)
answer_layer (Form-F.Variable text) h = absurd (false_true h)
answer_layer (Form-F.Row text) h = absurd (false_true h)
answer_layer (Form-F.Numeral text) h = absurd (false_true h)
answer_layer (Form-F.Quoted text) h = absurd (false_true h)

pub answer-whole : (f : Form) → is_answer f ≡ true → f ≡ answer_atom (arguments f)
answer-whole f h = sym (roll-out-Form f) ∙ answer_layer (out-Form f) (layer_of (codes "!answer") f h)

reflexive-bare : (g : Filling) → bare reflexivity_input g ≡ reflexivity (g (codes "X1"))
reflexive-bare g =
    let x = form.Variable (codes "X1") in
    let a = g (codes "X1") in
    ap (λ (atom : Form). without_answers (yes atom ∷ [])) (bind-equal g x x ∙ ap (λ y. equal y y) (bind-Variable g (codes "X1")))
    ∙ ap (λ (b : Bool). if not b then yes (equal a a) ∷ [] else []) (no-answer a a)

reflexive-instance : (c : Literals) (a : Form) → clean false a ≡ true → c ≡ reflexivity a → IsEqualityInstance c
reflexive-instance c a h e = record {
  is_closed = ap ground_clause e ∙ joined_true (clean false (equal a a)) true (clean-equal false a a h h) refl;
  shape = inl (record { a = a; is = e });
}

positive_one : (l : Literal) (atom : Form) → l.positive ≡ true → (let made : Literal = record { positive = l.positive; atom = atom } in made) ≡ yes atom
positive_one l atom h = ap (λ (p : Bool). let made : Literal = record { positive = p; atom = atom } in made) h

module _ (inputs query_clauses search_inputs : List Literals) (placed : Each (IsSearchInput inputs query_clauses) search_inputs) (asked : Each HasAnswer query_clauses)
    (clause : Literals) (g : Filling) (used : List Use) (stay : Each (UseAnswers search_inputs clause g) used) where
  negates : (c : Literals) (u : IsUsed search_inputs used c) → HasAnswer u.input → Among u.input query_clauses → IsEvidenceMember inputs query_clauses (shown_bindings clause g) c
  negates c u has there =
      let shown = each_at (UseAnswers search_inputs clause g) used u.of u.stands stay u.input u.at has.literal has.stands has.answers in
      let m = shown.literal in
      let binding = arguments (bind g m.atom) in
      let atom_is : bind u.of.filling has.literal.atom ≡ answer_atom binding =
      ap (λ (l : Literal). l.atom) (sym shown.is) ∙ answer-whole (bind g m.atom) (headed-bind (codes "!answer") g m.atom shown.answers) in
      inr (inr (record {
        binding = binding;
        shown = among-map (λ (l : Literal). arguments (bind g l.atom)) m (answers_of clause) (among-filter (λ (l : Literal). is_answer l.atom) m shown.answers clause shown.stands);
        negates = record {
          input = u.input;
          filling = u.of.filling;
          stands = there;
          closes = u.closes;
          answers = record {
            literal = has.literal;
            stands = has.stands;
            answers = has.answers;
            is = positive_one has.literal (bind u.of.filling has.literal.atom) has.positive ∙ ap yes atom_is;
          };
          is = u.is;
        };
      }))

  member_of : (c : Literals) (u : IsUsed search_inputs used c) → IsSearchInput inputs query_clauses u.input → IsEvidenceMember inputs query_clauses (shown_bindings clause g) c
  member_of c u (inl there) = inl (record { input = u.input; filling = u.of.filling; stands = there; closes = u.closes; is = u.is })
  member_of c u (inr (inl e)) = inr (inl (reflexive-instance c (u.of.filling (codes "X1")) (u.closes (codes "X1")) (u.is ∙ ap (λ (d : Literals). bare d u.of.filling) e ∙ reflexive-bare u.of.filling)))
  member_of c u (inr (inr there)) = negates c u (each_at HasAnswer query_clauses u.input there asked) there

  member : (c : Literals) → IsOfUses search_inputs used c → IsEvidenceMember inputs query_clauses (shown_bindings clause g) c
  member c (inr is) = inr (inl is)
  member c (inl u) = member_of c u (each_at (IsSearchInput inputs query_clauses) search_inputs u.input (nth-among search_inputs u.of.input u.input u.at) placed)

pub query_evidence : QueryEvidence
query_evidence inputs query_clauses search_inputs steps clauses derivation placed asked rowless clean n clause is answers g closes = record {
  members = each_map (IsOfUses search_inputs (uses steps clauses n g)) (IsEvidenceMember inputs query_clauses (shown_bindings clause g))
      (member inputs query_clauses search_inputs placed asked clause g (uses steps clauses n g) (answers_stay search_inputs steps clauses derivation n clause is g))
      (evidence search_inputs steps clauses n g)
      (evidence_is_of_uses search_inputs steps clauses derivation rowless clean n g closes);
  refutes = evidence_refutes search_inputs steps clauses derivation n clause is answers g;
}

of_inputs : (inputs query_clauses : List Literals) (c : Literals) → IsEvidenceMember inputs query_clauses [] c → IsEvidence inputs c
of_inputs inputs query_clauses c (inl is) = inl is
of_inputs inputs query_clauses c (inr (inl is)) = inr is
of_inputs inputs query_clauses c (inr (inr is)) = absurd is.shown

pub contradiction_evidence : ContradictionEvidence
contradiction_evidence inputs query_clauses search_inputs steps clauses derivation placed asked rowless clean n is g closes =
    let given_ones = query_evidence inputs query_clauses search_inputs steps clauses derivation placed asked rowless clean n [] is refl g closes in
    record {
      members = each_map (IsEvidenceMember inputs query_clauses []) (IsEvidence inputs) (of_inputs inputs query_clauses) (evidence search_inputs steps clauses n g) given_ones.members;
      refutes = given_ones.refutes;
    }
