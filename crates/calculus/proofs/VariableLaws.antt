-- Evidence depends on what the clause's own variables become, and on nothing else.
use Rattle.std.proofs.Common.{◌≡◌, ℕ, List, [], ◌∷◌, ◌++◌, map, take, Bool, true, false, ◌||◌, if◌then◌else◌, Option, Some, refl, sym, ap, ◌∙◌, subst}
use Rattle.std.specs.List.{list_any, list_all}
use Rattle.std.specs.Str.{bytes_eq}
use Rattle.std.proofs.lemmas.Slice.Eq.{bytes_eq-Decides}
use Rattle.sigma_base.specs.Lists.{Each, each_append}
use Rattle.kif_tree.specs.declared.form.Form.{Form}
use Rattle.kif_tree.specs.declared.clause.Literal.{Literal}
use Rattle.kif_tree.specs.declared.subst.Pair.{Pair}
use Rattle.kif_tree.specs.Terms.{Bytes, variables, joined, is_ground}
use Rattle.kif_tree.specs.FormLaws.{induction}
use Rattle.kif_tree.specs.Subst.{Filling, bind, via, lookup, value_of, any_word}
use Rattle.kif_tree.specs.Clauses.{Literals, bind_literal, bind_clause, bare, without_answers, clause_variables}
use Rattle.kif_tree.proofs.TermLaws.{variables-Word, variables-Variable, variables-Row, variables-Numeral, variables-Quoted, variables-List, clean-Word}
use Rattle.kif_tree.proofs.SubstLaws.{bind-Variable, bind-List, Agree}
use Rattle.calculus.specs.declared.step.Step.{Step}
use Rattle.calculus.specs.Tidy.{tidy, renaming, renamed, without_repeats, back_over, turned_back}
use Rattle.calculus.specs.Rules.{after, nth, untidy, replacement, clause_of}
use Rattle.calculus.specs.Evidence.{list_from, equalities, step_evidence, evidence}
use Rattle.calculus.specs.Laws.{EvidenceIsOfVariables, GroundPairsClose}
use Rattle.calculus.proofs.TruthLaws.{both, false_true}
use Rattle.calculus.proofs.PlaceLaws.{through, some_same}
use Rattle.calculus.proofs.PairLaws.{clause-agree}
use Rattle.calculus.proofs.RenamingLaws.{list_same, clause-via}
use Rattle.calculus.proofs.StepLaws.{alike_from, evidence_steps}

-- ---- fillings that agree on a form agree on its variables

agreed_parts : (f g : Filling) (parts : List Form) → Each (λ x. bind f x ≡ bind g x → Each (Agree f g) (variables x)) parts → map (bind f) parts ≡ map (bind g) parts → Each (Agree f g) (joined (map variables parts))
agreed_parts f g [] each e = tt
agreed_parts f g (x ∷ parts) each e =
    let here : bind f x ≡ bind g x = cc in
    let rest : map (bind f) parts ≡ map (bind g) parts = cc in
    each_append (Agree f g) (variables x) (joined (map variables parts)) (each.0 here) (agreed_parts f g parts each.1 rest)

agreed : (f g : Filling) (x : Form) → bind f x ≡ bind g x → Each (Agree f g) (variables x)
agreed f g = induction (λ x. bind f x ≡ bind g x → Each (Agree f g) (variables x)) (record {
  word = λ text e. subst (Each (Agree f g)) (sym (variables-Word text)) tt;
  variable = λ text e. subst (Each (Agree f g)) (sym (variables-Variable text)) (sym (bind-Variable f text) ∙ e ∙ bind-Variable g text, tt);
  row = λ text e. subst (Each (Agree f g)) (sym (variables-Row text)) tt;
  numeral = λ text e. subst (Each (Agree f g)) (sym (variables-Numeral text)) tt;
  quoted = λ text e. subst (Each (Agree f g)) (sym (variables-Quoted text)) tt;
  list = λ parts each e.
      subst (Each (Agree f g)) (sym (variables-List parts)) (agreed_parts f g parts each (list_same (map (bind f) parts) (map (bind g) parts) (sym (bind-List f parts) ∙ e ∙ bind-List g parts)));
})

agreed_clause : (f g : Filling) (c : Literals) → bind_clause f c ≡ bind_clause g c → Each (Agree f g) (clause_variables c)
agreed_clause f g [] e = tt
agreed_clause f g (l ∷ ls) e =
    let here : bind_literal f l ≡ bind_literal g l = cc in
    let rest : bind_clause f ls ≡ bind_clause g ls = cc in
    each_append (Agree f g) (variables l.atom) (clause_variables ls) (agreed f g l.atom (ap (λ (m : Literal). m.atom) here)) (agreed_clause f g ls rest)

at_member : (P : Bytes → Type 0) (names : List Bytes) (v : Bytes) → list_any (bytes_eq v) names ≡ true → Each P names → P v
at_member P [] v h each = absurd (false_true h)
at_member P (name ∷ names) v h each = go (bytes_eq v name) refl h (at_member P names v)
  where
    go : (b : Bool) → bytes_eq v name ≡ b → (b || list_any (bytes_eq v) names) ≡ true → (list_any (bytes_eq v) names ≡ true → Each P names → P v) → P v
    go true e k rest = subst P (sym ((bytes_eq-Decides v name).0 e)) each.0
    go false e k rest = rest k each.1

-- ---- what the conclusion before tidying is under

fun_ext : (f g : Filling) → ((name : Bytes) → f name ≡ g name) → f ≡ g
fun_ext f g h = λ i name. h name i

back_same : (c : Literals) (f g : Filling) → Each (Agree f g) (clause_variables (renamed c)) → (name : Bytes) → back_over c f name ≡ back_over c g name
back_same c f g h name = go (list_any (bytes_eq name) (clause_variables c)) refl
  where
    each : Each (Agree (via (renaming c) f) (via (renaming c) g)) (clause_variables c)
    each = agreed_clause (via (renaming c) f) (via (renaming c) g) c (sym (clause-via (renaming c) f c) ∙ clause-agree f g (renamed c) h ∙ clause-via (renaming c) g c)

    go : (b : Bool) → list_any (bytes_eq name) (clause_variables c) ≡ b → (if b then via (renaming c) f name else any_word) ≡ (if b then via (renaming c) g name else any_word)
    go true e = at_member (Agree (via (renaming c) f) (via (renaming c) g)) (clause_variables c) name e each
    go false e = refl

turned_same : (raw : Literals) (f g : Filling) → Each (Agree f g) (clause_variables (tidy raw)) → turned_back raw f ≡ turned_back raw g
unfolding tidy turned_back
turned_same raw f g h = fun_ext (back_over (without_repeats raw) f) (back_over (without_repeats raw) g) (back_same (without_repeats raw) f g h)

-- ---- one step

made_of : (o : Option Literals) (raw c : Literals) → o ≡ Some raw → after o (λ r. Some (tidy r)) ≡ Some c → tidy raw ≡ c
made_of o raw c is e = some_same (tidy raw) c (ap (λ q. after q (λ r. Some (tidy r))) (sym is) ∙ e)

module _ (inputs clauses : List Literals) (earlier : ℕ → Filling → List Literals) (c : Literals) (f g : Filling) (agree_on : Each (Agree f g) (clause_variables c)) where
  turned_alike : (o : Option Literals) (raw : Literals) → o ≡ Some raw → after o (λ d. Some (tidy d)) ≡ Some c → turned_back raw f ≡ turned_back raw g
  turned_alike o raw is e = turned_same raw f g (subst (λ (d : Literals). Each (Agree f g) (clause_variables d)) (sym (made_of o raw c is e)) agree_on)

  step_same : (step : Step) → clause_of inputs step clauses ≡ Some c → step_evidence inputs clauses earlier step f ≡ step_evidence inputs clauses earlier step g
  step_same (Step.Input i) e =
      alike_from (nth inputs i) (λ d. bare d f ∷ []) (λ d. bare d g ∷ []) (λ d is.
      ap (λ (ls : Literals). without_answers ls ∷ []) (clause-agree f g d (subst (λ (x : Literals). Each (Agree f g) (clause_variables x)) (some_same c d (sym e ∙ is)) agree_on)))
  step_same (Step.Resolve left i p right j q) e =
      let step = Step.Resolve left i p right j q in
      alike_from (untidy step clauses) (λ d. earlier left (via (lookup p.pairs) (turned_back d f)) ++ earlier right (via (lookup q.pairs) (turned_back d f)))
      (λ d. earlier left (via (lookup p.pairs) (turned_back d g)) ++ earlier right (via (lookup q.pairs) (turned_back d g)))
      (λ raw is. ap (λ (t : Filling). earlier left (via (lookup p.pairs) t) ++ earlier right (via (lookup q.pairs) t)) (turned_alike (untidy step clauses) raw is e))
  step_same (Step.Factor parent i j p) e =
      let step = Step.Factor parent i j p in
      alike_from (untidy step clauses) (λ d. earlier parent (via (lookup p.pairs) (turned_back d f))) (λ d. earlier parent (via (lookup p.pairs) (turned_back d g)))
      (λ raw is. ap (λ (t : Filling). earlier parent (via (lookup p.pairs) t)) (turned_alike (untidy step clauses) raw is e))
  step_same (Step.Paramodulate source i flipped p target j path q) e =
      let step = Step.Paramodulate source i flipped p target j path q in
      alike_from (replacement step clauses)
      (λ w. (earlier source (via (lookup p.pairs) (turned_back w.conclusion f)) ++ earlier target (via (lookup q.pairs) (turned_back w.conclusion f))) ++ equalities w (turned_back w.conclusion f))
      (λ w. (earlier source (via (lookup p.pairs) (turned_back w.conclusion g)) ++ earlier target (via (lookup q.pairs) (turned_back w.conclusion g))) ++ equalities w (turned_back w.conclusion g))
      (λ w is. ap (λ (t : Filling). (earlier source (via (lookup p.pairs) t) ++ earlier target (via (lookup q.pairs) t)) ++ equalities w t)
      (turned_alike (untidy step clauses) w.conclusion (ap (λ o. after o (λ v. Some v.conclusion)) is) e))

pub evidence_is_of_variables : EvidenceIsOfVariables
evidence_is_of_variables inputs steps clauses derivation n c is f g agree_on =
    let s = through (nth steps n) (λ step. clause_of inputs step (take n clauses)) c (sym (derivation.each n) ∙ is) in
    evidence_steps inputs steps clauses n f
    ∙ ap (λ o. list_from o (λ step. step_evidence inputs (take n clauses) (evidence inputs steps clauses) step f)) s.is
    ∙ step_same inputs (take n clauses) (evidence inputs steps clauses) c f g agree_on s.at s.gives
    ∙ sym (evidence_steps inputs steps clauses n g ∙ ap (λ o. list_from o (λ step. step_evidence inputs (take n clauses) (evidence inputs steps clauses) step g)) s.is)

-- ---- fillings by pairs of ground forms

pub ground_pairs_close : GroundPairsClose
ground_pairs_close [] h name = clean-Word false _
ground_pairs_close (pair ∷ pairs) h name =
    let hs = both (is_ground pair.term) (list_all (λ (p : Pair). is_ground p.term) pairs) h in
    go (bytes_eq pair.variable name) (value_of pairs name) hs.0 (ground_pairs_close pairs hs.1 name)
  where
    go : (b : Bool) (other : Form) → is_ground pair.term ≡ true → is_ground other ≡ true → is_ground (if b then pair.term else other) ≡ true
    go true other h k = h
    go false other h k = k
