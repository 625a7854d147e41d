-- The answer literals of the inputs that are used stay.
use Rattle.calculus.proofs.MemberLaws.{among-filter, among-map, among-right, among-left, among-parted}
use Rattle.std.proofs.Common.{◌≡◌, ℕ, zero, suc, ◌<◌, List, [], ◌∷◌, ◌++◌, map, filter, take, Bool, true, false, not, codes, Option, Some, refl, sym, ap, ◌∙◌, subst, inl, inr, ◌⊎◌, arith}
use Rattle.std.specs.List.{list_any}
use Rattle.std.specs.Str.{bytes_eq}
use Rattle.std.proofs.lemmas.Slice.Eq.{bytes_eq-Decides}
use Rattle.kif_tree.specs.declared.form.Form.{Form, out-Form, roll-Form, roll-out-Form}
use Rattle.kif_tree.specs.declared.form.Form.TheVariants as form
use Rattle.kif_tree.specs.declared.form.Form.TheOpen.{Form-F}
use Rattle.kif_tree.specs.declared.clause.Literal.{Literal}
use Rattle.kif_tree.specs.Terms.{Bytes, variables}
use Rattle.kif_tree.specs.Subst.{lookup, Filling, bind, via}
use Rattle.sigma_base.specs.Lists.{Each, each_left, each_right, each_map, each_append}
use Rattle.calculus.specs.declared.step.Step.{Step}
use Rattle.kif_tree.specs.Clauses.{Literals, bind_literal, bind_clause, is_word, begins_with, heads_layer, is_headed, is_answer, clause_variables, same_sign, same_literal}
use Rattle.calculus.specs.Tidy.{without_repeats, renaming, tidy, back_over, turned_back}
use Rattle.calculus.specs.declared.places.Replaced.{Replaced}
use Rattle.calculus.specs.Rules.{after, given, nth, Picked, pick, others, opened, sides, resolves, resolved, merges, factored, to_side, replaces, changed, replacement_by, replaced_by, replaced, replacement, untidy, clause_of, Derivation}
use Rattle.calculus.specs.Equality.{equal}
use Rattle.calculus.specs.Evidence.{Use, step_uses, uses_within, uses}
use Rattle.calculus.specs.Answers.{Among, Answers, UseAnswers}
use Rattle.calculus.specs.Laws.{AnswersStay}
use Rattle.kif_tree.proofs.SubstLaws.{bind-via, bind-List, bind-Word, agree, Agree}
use Rattle.calculus.proofs.TruthLaws.{both, false_true, negated, literals, members, turns}
use Rattle.calculus.proofs.PlaceLaws.{some_same, through, allowed, nth_take, picked, sides-whole, word_is}
use Rattle.calculus.proofs.InstanceLaws.{each_from}

-- ---- the head of an answer literal stays

headed-List : (name : Bytes) (parts : List Form) → is_headed name (form.List parts) ≡ begins_with name parts
unfolding is_headed
headed-List name parts = ap (heads_layer name) (form.outs-List parts)

word-Word : (name text : Bytes) → is_word name (out-Form (form.Word text)) ≡ bytes_eq name text
word-Word name text = ap (is_word name) (form.outs-Word text)

parts_headed : (name : Bytes) (g : Filling) (parts : List Form) → begins_with name parts ≡ true → begins_with name (map (bind g) parts) ≡ true
parts_headed name g [] h = absurd (false_true h)
parts_headed name g (head ∷ parts) h =
    ap (λ x. is_word name (out-Form (bind g x))) (word_is name head h) ∙ ap (λ x. is_word name (out-Form x)) (bind-Word g name) ∙ word-Word name name ∙ (bytes_eq-Decides name name).1 refl

layer_headed : (name : Bytes) (g : Filling) (layer : Form-F Form) → heads_layer name layer ≡ true → is_headed name (bind g (roll-Form layer)) ≡ true
layer_headed name g (Form-F.List parts) h =
    ap (λ x. is_headed name (bind g x)) (form.rolls-List parts) ∙ ap (is_headed name) (bind-List g parts) ∙ headed-List name (map (bind g) parts) ∙ parts_headed name g parts h
layer_headed name g (Form-F.Word text) h = absurd (false_true h)
layer_headed name g (Form-F.Variable text) h = absurd (false_true h)
layer_headed name g (Form-F.Row text) h = absurd (false_true h)
layer_headed name g (Form-F.Numeral text) h = absurd (false_true h)
layer_headed name g (Form-F.Quoted text) h = absurd (false_true h)

pub layer_of : (name : Bytes) (f : Form) → is_headed name f ≡ true → heads_layer name (out-Form f) ≡ true
unfolding is_headed
layer_of name f h = h

pub headed-bind : (name : Bytes) (g : Filling) (f : Form) → is_headed name f ≡ true → is_headed name (bind g f) ≡ true
headed-bind name g f h = ap (λ x. is_headed name (bind g x)) (sym (roll-out-Form f)) ∙ layer_headed name g (out-Form f) (layer_of name f h)

pub no-answer : (a b : Form) → is_answer (equal a b) ≡ false
no-answer a b = headed-List (codes "!answer") (form.Word (codes "equal") ∷ a ∷ b ∷ []) ∙ word-Word (codes "!answer") (codes "equal")

-- ---- members

among-without : (m : Literal) (ls : Literals) → Among m ls → Among m (without_repeats ls)
among-without m [] h = absurd h
among-without m (l ∷ ls) (inl e) = inl e
among-without m (l ∷ ls) (inr h) = go (same_literal l m) refl (among-without m ls h)
  where
    go : (b : Bool) → same_literal l m ≡ b → Among m (without_repeats ls) → Among m (l ∷ filter (λ n. not (same_literal l n)) (without_repeats ls))
    go true e k = inl (sym (literals l m e))
    go false e k = inr (among-filter (λ n. not (same_literal l n)) m (ap not e) (without_repeats ls) k)

each_of_among : (P : Bytes → Type 0) (m : Literal) (ls : Literals) → Among m ls → Each P (clause_variables ls) → Each P (variables m.atom)
each_of_among P m [] h each = absurd h
each_of_among P m (l ∷ ls) (inl e) each = subst (λ (n : Literal). Each P (variables n.atom)) (sym e) (each_left P (variables l.atom) (clause_variables ls) each)
each_of_among P m (l ∷ ls) (inr h) each = each_of_among P m ls h (each_right P (variables l.atom) (clause_variables ls) each)

-- ---- answers

with_atom : (l : Literal) (a b : Form) → a ≡ b → (let made : Literal = record { positive = l.positive; atom = a } in made) ≡ (let other : Literal = record { positive = l.positive; atom = b } in other)
with_atom l a b e = ap (λ (x : Form). let made : Literal = record { positive = l.positive; atom = x } in made) e

answers-bind : (c : Literals) (f t : Filling) (x : Literal) → Answers c (via f t) x → Answers (bind_clause f c) t x
answers-bind c f t x a = record {
  literal = bind_literal f a.literal;
  stands = among-map (bind_literal f) a.literal c a.stands;
  answers = headed-bind (codes "!answer") f a.literal.atom a.answers;
  is = with_atom a.literal (bind t (bind f a.literal.atom)) (bind (via f t) a.literal.atom) (sym (bind-via f t a.literal.atom)) ∙ a.is;
}

answers-moved : (c d : Literals) (g : Filling) (x : Literal) → ((l : Literal) → is_answer l.atom ≡ true → Among l c → Among l d) → Answers c g x → Answers d g x
answers-moved c d g x move a = record { literal = a.literal; stands = move a.literal a.answers a.stands; answers = a.answers; is = a.is }

among-others : (c : Literals) (i : ℕ) (p : Picked Literal) → pick c i ≡ Some p → is_answer p.chosen.atom ≡ false → (l : Literal) → is_answer l.atom ≡ true → Among l c → Among l (others p)
among-others c i p e apart l answer h = go (among-parted l p.before (p.chosen ∷ p.following) (subst (Among l) (picked c i p e) h))
  where
    go : Among l p.before ⊎ Among l (p.chosen ∷ p.following) → Among l (others p)
    go (inl k) = among-left l p.before p.following k
    go (inr (inl is)) = absurd (false_true (sym apart ∙ ap (λ (m : Literal). is_answer m.atom) (sym is) ∙ answer))
    go (inr (inr k)) = among-right l p.before p.following k

answers-others : (c : Literals) (i : ℕ) (p : Picked Literal) (f t : Filling) (x : Literal) → pick c i ≡ Some p → is_answer p.chosen.atom ≡ false → Answers c (via f t) x → Answers (bind_clause f (others p)) t x
answers-others c i p f t x e apart a = answers-bind (others p) f t x (answers-moved c (others p) (via f t) x (among-others c i p e apart) a)

answers-tidy : (c : Literals) (g : Filling) (x : Literal) → Answers c (turned_back c g) x → Answers (tidy c) g x
unfolding tidy turned_back
answers-tidy c g x a =
    let d = without_repeats c in
    let stands = among-without a.literal c a.stands in
    let agreed = agree (back_over d g) (via (renaming d) g) a.literal.atom (each_of_among (Agree (back_over d g) (via (renaming d) g)) a.literal d stands
    (each_map (λ v. list_any (bytes_eq v) (clause_variables d) ≡ true) (Agree (back_over d g) (via (renaming d) g)) (turns d g) (clause_variables d) (members (clause_variables d)))) in
    answers-bind d (renaming d) g x (record { literal = a.literal; stands = stands; answers = a.answers; is = with_atom a.literal (bind (via (renaming d) g) a.literal.atom) (bind (back_over d g) a.literal.atom) (sym agreed) ∙ a.is })

abbrev FromBoth : Filling → Literals → Filling → Literals → Filling → Literals → Type 0
FromBoth t left f right g raw = ((x : Literal) → Answers left (via f t) x → Answers raw t x) × ((x : Literal) → Answers right (via g t) x → Answers raw t x)

resolved-answers : (t : Filling) (left : Literals) (i : ℕ) (f : Filling) (right : Literals) (j : ℕ) (g : Filling) (raw : Literals) → resolved left i f right j g ≡ Some raw → FromBoth t left f right g raw
resolved-answers t left i f right j g raw e =
    let l = through (pick left i) (λ l. after (pick right j) (λ r. given (resolves f g l.chosen r.chosen) (Some (bind_clause f (others l) ++ bind_clause g (others r))))) raw e in
    let r = through (pick right j) (λ r. given (resolves f g l.at.chosen r.chosen) (Some (bind_clause f (others l.at) ++ bind_clause g (others r)))) raw l.gives in
    let made = allowed (resolves f g l.at.chosen r.at.chosen) (Some (bind_clause f (others l.at) ++ bind_clause g (others r.at))) raw r.gives in
    let is = some_same (bind_clause f (others l.at) ++ bind_clause g (others r.at)) raw made.1 in
    let c1 = (both l.at.chosen.positive _ made.0).1 in
    let c2 = both (not (is_answer l.at.chosen.atom)) _ (both (not r.at.chosen.positive) _ c1).1 in
    let c3 = both (not (is_answer r.at.chosen.atom)) _ c2.1 in (
      λ x a. subst (λ (d : Literals). Answers d t x) is (answers-moved (bind_clause f (others l.at)) (bind_clause f (others l.at) ++ bind_clause g (others r.at)) t x (λ m _ h. among-left m (bind_clause f (others l.at)) (bind_clause g (others r.at)) h)
          (answers-others left i l.at f t x l.is (negated (is_answer l.at.chosen.atom) c2.0) a)),
      λ x a. subst (λ (d : Literals). Answers d t x) is (answers-moved (bind_clause g (others r.at)) (bind_clause f (others l.at) ++ bind_clause g (others r.at)) t x (λ m _ h. among-right m (bind_clause f (others l.at)) (bind_clause g (others r.at)) h)
          (answers-others right j r.at g t x r.is (negated (is_answer r.at.chosen.atom) c3.0) a)),
    )

factored-answers : (t : Filling) (c : Literals) (i j : ℕ) (f : Filling) (raw : Literals) → factored c i j f ≡ Some raw → (x : Literal) → Answers c (via f t) x → Answers raw t x
factored-answers t c i j f raw e x a =
    let d = through (pick c j) (λ d. after (pick d.before i) (λ k. given (merges f k.chosen d.chosen) (Some (bind_clause f (others d))))) raw e in
    let k = through (pick d.at.before i) (λ k. given (merges f k.chosen d.at.chosen) (Some (bind_clause f (others d.at)))) raw d.gives in
    let made = allowed (merges f k.at.chosen d.at.chosen) (Some (bind_clause f (others d.at))) raw k.gives in
    let c1 = both (not (is_answer k.at.chosen.atom)) _ (both (same_sign k.at.chosen.positive d.at.chosen.positive) _ made.0).1 in
    let c2 = both (not (is_answer d.at.chosen.atom)) _ c1.1 in
    subst (λ (r : Literals). Answers r t x) (some_same (bind_clause f (others d.at)) raw made.1) (answers-others c j d.at f t x d.is (negated (is_answer d.at.chosen.atom) c2.0) a)

replaced-answers : (t : Filling) (source : Literals) (i : ℕ) (flipped : Bool) (f : Filling) (target : Literals) (j : ℕ) (path : List ℕ) (g : Filling) (w : Replaced)
    → replaced source i flipped f target j path g ≡ Some w → FromBoth t source f target g w.conclusion
replaced-answers t source i flipped f target j path g w is =
    let s = through (pick source i) (λ s. after (sides s.chosen.atom) (λ e. after (pick target j) (λ m. after (opened path m.chosen.atom) (replaced_by f flipped s e g m)))) w is in
    let e = through (sides s.at.chosen.atom) (λ e. after (pick target j) (λ m. after (opened path m.chosen.atom) (replaced_by f flipped s.at e g m))) w s.gives in
    let m = through (pick target j) (λ m. after (opened path m.chosen.atom) (replaced_by f flipped s.at e.at g m)) w e.gives in
    let o = through (opened path m.at.chosen.atom) (replaced_by f flipped s.at e.at g m.at) w m.gives in
    let made = allowed (replaces f flipped e.at g s.at.chosen m.at.chosen o.at) (Some (replacement_by f flipped s.at e.at g m.at o.at)) w o.gives in
    let is = ap (λ (v : Replaced). v.conclusion) (some_same (replacement_by f flipped s.at e.at g m.at o.at) w made.1) in
    let c1 = both (not (is_answer m.at.chosen.atom)) _ (both s.at.chosen.positive _ made.0).1 in
    let apart : is_answer s.at.chosen.atom ≡ false = ap is_answer (sides-whole s.at.chosen.atom e.at e.is) ∙ no-answer e.at.left e.at.right in
    let first = bind_clause f (others s.at) in
    let middle = changed f (to_side flipped e.at) g m.at.chosen o.at in
    let second = bind_clause g m.at.before ++ middle ∷ bind_clause g m.at.following in
    let into : (l : Literal) → is_answer l.atom ≡ true → Among l (bind_clause g (others m.at)) → Among l (first ++ second) =
    λ l _ h. among-right l first second (widened l middle m.at.before m.at.following h) in (
      λ x a. subst (λ (d : Literals). Answers d t x) is (answers-moved first (first ++ second) t x (λ l _ h. among-left l first second h) (answers-others source i s.at f t x s.is apart a)),
      λ x a. subst (λ (d : Literals). Answers d t x) is (answers-moved (bind_clause g (others m.at)) (first ++ second) t x into (answers-others target j m.at g t x m.is (negated (is_answer m.at.chosen.atom) c1.0) a)),
    )
  where
    widened : (l x : Literal) (xs ys : Literals) → Among l (bind_clause g (xs ++ ys)) → Among l (bind_clause g xs ++ x ∷ bind_clause g ys)
    widened l x [] ys h = inr h
    widened l x (y ∷ xs) ys (inl e) = inl e
    widened l x (y ∷ xs) ys (inr h) = inr (widened l x xs ys h)

-- ---- the whole

module _ (inputs clauses : List Literals) (earlier : ℕ → Filling → List Use)
    (good : (p : ℕ) (c : Literals) → nth clauses p ≡ Some c → (h : Filling) → Each (UseAnswers inputs c h) (earlier p h)) (g : Filling) where
  passed : (f : Filling) (raw c : Literals) (p : ℕ) (parent : Literals) → nth clauses p ≡ Some parent → tidy raw ≡ c → ((x : Literal) → Answers parent (via f (turned_back raw g)) x → Answers raw (turned_back raw g) x)
      → Each (UseAnswers inputs c g) (earlier p (via f (turned_back raw g)))
  passed f raw c p parent is made carry =
      each_map (UseAnswers inputs parent (via f (turned_back raw g))) (UseAnswers inputs c g)
      (λ u held input at l there answer. subst (λ (d : Literals). Answers d g (bind_literal u.filling l)) made (answers-tidy raw g (bind_literal u.filling l) (carry (bind_literal u.filling l) (held input at l there answer))))
      (earlier p (via f (turned_back raw g))) (good p parent is (via f (turned_back raw g)))

  made_of : (o : Option Literals) (raw c : Literals) → o ≡ Some raw → after o (λ r. Some (tidy r)) ≡ Some c → tidy raw ≡ c
  made_of o raw c is e = some_same (tidy raw) c (ap (λ q. after q (λ r. Some (tidy r))) (sym is) ∙ e)

  step-answers : (step : Step) (c : Literals) → clause_of inputs step clauses ≡ Some c → Each (UseAnswers inputs c g) (step_uses clauses earlier step g)
  step-answers (Step.Input i) c e =
      ((λ input at l there answer. record { literal = l; stands = subst (Among l) (some_same input c (sym at ∙ e)) there; answers = answer; is = refl }), tt)
  step-answers (Step.Resolve left i f right j k) c e =
      each_from (UseAnswers inputs c g) (untidy (Step.Resolve left i f right j k) clauses) (λ d. earlier left (via (lookup f.pairs) (turned_back d g)) ++ earlier right (via (lookup k.pairs) (turned_back d g))) (λ raw is.
      let t = turned_back raw g in
      let l = through (nth clauses left) (λ l. after (nth clauses right) (λ r. resolved l i (lookup f.pairs) r j (lookup k.pairs))) raw is in
      let r = through (nth clauses right) (λ r. resolved l.at i (lookup f.pairs) r j (lookup k.pairs)) raw l.gives in
      let carry = resolved-answers t l.at i (lookup f.pairs) r.at j (lookup k.pairs) raw r.gives in
      let made = made_of (untidy (Step.Resolve left i f right j k) clauses) raw c is e in
      each_append (UseAnswers inputs c g) (earlier left (via (lookup f.pairs) t)) (earlier right (via (lookup k.pairs) t))
      (passed (lookup f.pairs) raw c left l.at l.is made carry.0) (passed (lookup k.pairs) raw c right r.at r.is made carry.1))
  step-answers (Step.Factor parent i j f) c e =
      each_from (UseAnswers inputs c g) (untidy (Step.Factor parent i j f) clauses) (λ d. earlier parent (via (lookup f.pairs) (turned_back d g))) (λ raw is.
      let p = through (nth clauses parent) (λ p. factored p i j (lookup f.pairs)) raw is in
      passed (lookup f.pairs) raw c parent p.at p.is (made_of (untidy (Step.Factor parent i j f) clauses) raw c is e) (factored-answers (turned_back raw g) p.at i j (lookup f.pairs) raw p.gives))
  step-answers (Step.Paramodulate source i flipped f target j path k) c e =
      each_from (UseAnswers inputs c g) (replacement (Step.Paramodulate source i flipped f target j path k) clauses)
      (λ v. earlier source (via (lookup f.pairs) (turned_back v.conclusion g)) ++ earlier target (via (lookup k.pairs) (turned_back v.conclusion g))) (λ w is.
      let t = turned_back w.conclusion g in
      let s = through (nth clauses source) (λ s. after (nth clauses target) (λ m. replaced s i flipped (lookup f.pairs) m j path (lookup k.pairs))) w is in
      let m = through (nth clauses target) (λ m. replaced s.at i flipped (lookup f.pairs) m j path (lookup k.pairs)) w s.gives in
      let carry = replaced-answers t s.at i flipped (lookup f.pairs) m.at j path (lookup k.pairs) w m.gives in
      let made = made_of (untidy (Step.Paramodulate source i flipped f target j path k) clauses) w.conclusion c (ap (λ q. after q (λ v. Some v.conclusion)) is) e in
      each_append (UseAnswers inputs c g) (earlier source (via (lookup f.pairs) t)) (earlier target (via (lookup k.pairs) t))
      (passed (lookup f.pairs) w.conclusion c source s.at s.is made carry.0) (passed (lookup k.pairs) w.conclusion c target m.at m.is made carry.1))

module _ (inputs : List Literals) (steps : List Step) (clauses : List Literals) (derivation : Derivation inputs steps clauses) where
  within-answers : (k n : ℕ) → n < k → (c : Literals) → nth clauses n ≡ Some c → (g : Filling) → Each (UseAnswers inputs c g) (uses_within steps clauses k n g)
  within-answers zero n below c is g = tt
  within-answers (suc k) n below c is g =
      each_from (UseAnswers inputs c g) (nth steps n) (λ step. step_uses (take n clauses) (uses_within steps clauses k) step g) (λ step e.
      step-answers inputs (take n clauses) (uses_within steps clauses k)
      (λ p d found h. let found_at = nth_take n clauses p d found in within-answers k p (let less : p < n = found_at.1 in omega arith) d found_at.0 h)
      g step c (ap (λ q. after q (λ s. clause_of inputs s (take n clauses))) (sym e) ∙ sym (derivation.each n) ∙ is))

pub answers_stay : AnswersStay
unfolding uses
answers_stay inputs steps clauses derivation n c is g = within-answers inputs steps clauses derivation (suc n) n (omega arith) c is g
