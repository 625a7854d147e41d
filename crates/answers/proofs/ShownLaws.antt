-- Each answer literal of a derivation is positive and has as many arguments as those of its inputs, so bindings show all of it.
use Rattle.std.proofs.Common.{◌≡◌, ◌≢◌, ◌<◌, ℕ, zero, suc, List, [], ◌∷◌, ◌++◌, map, length, take, Bool, true, false, not, ◌&&◌, if◌then◌else◌, codes, Option, Some, refl, sym, ap, ap₂, ◌∙◌, subst, arith}
use Rattle.std.proofs.lemmas.List.{length-map}
use Rattle.std.proofs.lemmas.Slice.Eq.{bytes_eq-Decides}
use Rattle.std.specs.List.{list_all}
use Rattle.std.specs.Str.{bytes_eq}
use Rattle.sigma_base.specs.Lists.{Each, each_append, each_left, each_right}
use Rattle.kif_tree.specs.declared.form.Form.{Form, out-Form}
use Rattle.kif_tree.specs.declared.form.Form.TheVariants as form
use Rattle.kif_tree.specs.declared.form.Form.TheOpen.{Form-F}
use Rattle.kif_tree.specs.declared.subst.Pair.{Pair}
use Rattle.kif_tree.specs.declared.clause.Literal.{Literal}
use Rattle.kif_tree.specs.Terms.{Bytes, same}
use Rattle.kif_tree.specs.Subst.{Filling, bind, lookup}
use Rattle.kif_tree.specs.Clauses.{Literals, bind_literal, bind_clause, is_word, heads_layer, is_headed, is_answer}
use Rattle.kif_tree.proofs.SubstLaws.{bind-List, bind-Word}
use Rattle.calculus.specs.declared.places.Frame.{Frame}
use Rattle.calculus.specs.declared.places.Opened.{Opened}
use Rattle.calculus.specs.declared.places.Replaced.{Replaced}
use Rattle.calculus.specs.declared.step.Step.{Step}
use Rattle.calculus.specs.Tidy.{without_repeats, renaming, tidy}
use Rattle.calculus.specs.Rules.{after, given, nth, Picked, pick, others, is_empty, is_variable, bind_frame, plugged, opened, sides, resolves, resolved, merges, factored, from_side, to_side, replaces, changed, replacement_by, replaced_by, replaced, replacement, untidy, clause_of, Derivation}
use Rattle.calculus.specs.Equality.{yes}
use Rattle.calculus.specs.Answers.{answer_atom, arguments, arguments_in, answers_of, shown_bindings}
use Rattle.calculus.proofs.TruthLaws.{both, false_true, negated}
use Rattle.calculus.proofs.PlaceLaws.{none_some, some_same, through, allowed, nth_take, picked, opened-whole}
use Rattle.calculus.proofs.RepeatLaws.{each-without}
use Rattle.calculus.proofs.QueryLaws.{answer-whole}
use Rattle.answers.specs.declared.outcome.Binding.{Binding}
use Rattle.answers.specs.Outcomes.{bound, binding_of, bindings_of}
use Rattle.answers.specs.Questions.{terms_of, names_of, answer_literal, filled}

-- ---- heads

abbrev pub mark : Bytes
mark = codes "!answer"

pub answer-List : (name : Bytes) (parts : List Form) → is_answer (form.List (form.Word name ∷ parts)) ≡ bytes_eq mark name
unfolding is_headed
answer-List name parts = ap (heads_layer mark) (form.outs-List (form.Word name ∷ parts)) ∙ ap (is_word mark) (form.outs-Word name)

pub answer-answers : (terms : List Form) → is_answer (answer_atom terms) ≡ true
answer-answers terms = answer-List mark terms ∙ (bytes_eq-Decides mark mark).1 refl

pub arguments-List : (head : Form) (parts : List Form) → arguments (form.List (head ∷ parts)) ≡ parts
arguments-List head parts = ap arguments_in (form.outs-List (head ∷ parts))

bind-headed : (g : Filling) (name : Bytes) (parts : List Form) → bind g (form.List (form.Word name ∷ parts)) ≡ form.List (form.Word name ∷ map (bind g) parts)
bind-headed g name parts = bind-List g (form.Word name ∷ parts) ∙ ap (λ (x : Form). form.List (x ∷ map (bind g) parts)) (bind-Word g name)

-- ---- literals

-- A list with a word at its head. Where it is an answer literal, it is positive and has so many arguments.
pub record IsShaped (count : ℕ) (literal : Literal) : Type 0 where
  pub name : Bytes
  pub parts : List Form
  pub is : literal.atom ≡ form.List (form.Word name ∷ parts)
  pub shown : name ≡ mark → (literal.positive ≡ true) × (length parts ≡ count)

abbrev pub AreShaped : ℕ → Literals → Type 0
AreShaped count = Each (IsShaped count)

module _ (count : ℕ) where
  shaped_bind : (g : Filling) (literal : Literal) → IsShaped count literal → IsShaped count (bind_literal g literal)
  shaped_bind g literal s = record {
    name = s.name;
    parts = map (bind g) s.parts;
    is = ap (bind g) s.is ∙ bind-headed g s.name s.parts;
    shown = λ e. let h = s.shown e in (h.0, length-map s.parts (bind g) ∙ h.1);
  }

  shaped_filled : (g : Filling) (clause : Literals) → AreShaped count clause → AreShaped count (bind_clause g clause)
  shaped_filled g [] each = tt
  shaped_filled g (literal ∷ clause) each = (shaped_bind g literal each.0, shaped_filled g clause each.1)

  shaped_tidy : (clause : Literals) → AreShaped count clause → AreShaped count (tidy clause)
  unfolding tidy
  shaped_tidy clause each = shaped_filled (renaming (without_repeats clause)) (without_repeats clause) (each-without (IsShaped count) clause each)

  record ShapedPick (p : Picked Literal) : Type 0 where
    before : AreShaped count p.before
    chosen : IsShaped count p.chosen
    following : AreShaped count p.following

  shaped_pick : (c : Literals) (i : ℕ) (p : Picked Literal) → pick c i ≡ Some p → AreShaped count c → ShapedPick p
  shaped_pick c i p e each =
      let whole = subst (AreShaped count) (picked c i p e) each in
      let rest = each_right (IsShaped count) p.before (p.chosen ∷ p.following) whole in
      record { before = each_left (IsShaped count) p.before (p.chosen ∷ p.following) whole; chosen = rest.0; following = rest.1 }

  shaped_others : (f : Filling) (c : Literals) (i : ℕ) (p : Picked Literal) → pick c i ≡ Some p → AreShaped count c → AreShaped count (bind_clause f (others p))
  shaped_others f c i p e each =
      let s = shaped_pick c i p e each in
      shaped_filled f (others p) (each_append (IsShaped count) p.before p.following s.before s.following)

  -- ---- the rules

  shaped_resolved : (left : Literals) (i : ℕ) (f : Filling) (right : Literals) (j : ℕ) (g : Filling) (raw : Literals) → resolved left i f right j g ≡ Some raw
      → AreShaped count left → AreShaped count right → AreShaped count raw
  shaped_resolved left i f right j g raw e hl hr =
      let l = through (pick left i) (λ l. after (pick right j) (λ r. given (resolves f g l.chosen r.chosen) (Some (bind_clause f (others l) ++ bind_clause g (others r))))) raw e in
      let r = through (pick right j) (λ r. given (resolves f g l.at.chosen r.chosen) (Some (bind_clause f (others l.at) ++ bind_clause g (others r)))) raw l.gives in
      let made = allowed (resolves f g l.at.chosen r.at.chosen) (Some (bind_clause f (others l.at) ++ bind_clause g (others r.at))) raw r.gives in
      subst (AreShaped count) (some_same (bind_clause f (others l.at) ++ bind_clause g (others r.at)) raw made.1)
      (each_append (IsShaped count) (bind_clause f (others l.at)) (bind_clause g (others r.at)) (shaped_others f left i l.at l.is hl) (shaped_others g right j r.at r.is hr))

  shaped_factored : (c : Literals) (i j : ℕ) (f : Filling) (raw : Literals) → factored c i j f ≡ Some raw → AreShaped count c → AreShaped count raw
  shaped_factored c i j f raw e h =
      let d = through (pick c j) (λ d. after (pick d.before i) (λ k. given (merges f k.chosen d.chosen) (Some (bind_clause f (others d))))) raw e in
      let k = through (pick d.at.before i) (λ k. given (merges f k.chosen d.at.chosen) (Some (bind_clause f (others d.at)))) raw d.gives in
      let made = allowed (merges f k.at.chosen d.at.chosen) (Some (bind_clause f (others d.at))) raw k.gives in
      subst (AreShaped count) (some_same (bind_clause f (others d.at)) raw made.1) (shaped_others f c j d.at d.is h)

  one_head : (first second : Form) (xs ys : List Form) → form.List (first ∷ xs) ≡ form.List (second ∷ ys) → first ≡ second
  one_head first second xs ys e =
      let layers : Form-F.List (first ∷ xs) ≡ Form-F.List (second ∷ ys) = sym (form.outs-List (first ∷ xs)) ∙ ap out-Form e ∙ form.outs-List (second ∷ ys) in
      cc

  -- what is replaced stands inside the atom, so its head stays
  shaped_changed : (f : Filling) (to : Form) (g : Filling) (target : Literal) (frames : List Frame) (inner : Form)
      → target.atom ≡ plugged frames inner → is_empty frames ≡ false → is_answer target.atom ≡ false → IsShaped count target
      → (place : Opened) → place.frames ≡ frames → IsShaped count (changed f to g target place)
  shaped_changed f to g target [] inner whole some apart s place framing = absurd (false_true (sym some))
  shaped_changed f to g target (frame ∷ frames) inner whole some apart s place framing =
      let head : frame.head ≡ form.Word s.name = one_head frame.head (form.Word s.name) (frame.before ++ plugged frames inner ∷ frame.following) s.parts (sym whole ∙ s.is) in
      let b = bind_frame g frame in
      let inside = plugged (map (bind_frame g) frames) (bind f to) in
      record {
        name = s.name;
        parts = b.before ++ inside ∷ b.following;
        is = ap (λ (fs : List Frame). plugged (map (bind_frame g) fs) (bind f to)) framing
            ∙ ap (λ (x : Form). form.List (x ∷ (b.before ++ inside ∷ b.following))) (ap (bind g) head ∙ bind-Word g s.name);
        shown = λ e. absurd (false_true (sym apart ∙ ap is_answer s.is ∙ answer-List s.name s.parts ∙ (bytes_eq-Decides mark s.name).1 (sym e)));
      }

  shaped_replaced : (source : Literals) (i : ℕ) (flipped : Bool) (f : Filling) (target : Literals) (j : ℕ) (path : List ℕ) (g : Filling) (w : Replaced)
      → replaced source i flipped f target j path g ≡ Some w → AreShaped count source → AreShaped count target → AreShaped count w.conclusion
  shaped_replaced source i flipped f target j path g w is hs ht =
      let s = through (pick source i) (λ s. after (sides s.chosen.atom) (λ e. after (pick target j) (λ m. after (opened path m.chosen.atom) (replaced_by f flipped s e g m)))) w is in
      let e = through (sides s.at.chosen.atom) (λ e. after (pick target j) (λ m. after (opened path m.chosen.atom) (replaced_by f flipped s.at e g m))) w s.gives in
      let m = through (pick target j) (λ m. after (opened path m.chosen.atom) (replaced_by f flipped s.at e.at g m)) w e.gives in
      let o = through (opened path m.at.chosen.atom) (replaced_by f flipped s.at e.at g m.at) w m.gives in
      let made = allowed (replaces f flipped e.at g s.at.chosen m.at.chosen o.at) (Some (replacement_by f flipped s.at e.at g m.at o.at)) w o.gives in
      let is = ap (λ (v : Replaced). v.conclusion) (some_same (replacement_by f flipped s.at e.at g m.at o.at) w made.1) in
      let meet = not (is_variable (out-Form o.at.inner)) && same (bind g o.at.inner) (bind f (from_side flipped e.at)) in
      let inside = not (is_empty o.at.frames) && meet in
      let c1 = both (not (is_answer m.at.chosen.atom)) inside (both s.at.chosen.positive (not (is_answer m.at.chosen.atom) && inside) made.0).1 in
      let c2 = both (not (is_empty o.at.frames)) meet c1.1 in
      let p = shaped_pick target j m.at m.is ht in
      let middle = changed f (to_side flipped e.at) g m.at.chosen o.at in
      let here = shaped_changed f (to_side flipped e.at) g m.at.chosen o.at.frames o.at.inner (opened-whole path m.at.chosen.atom o.at o.is)
      (negated (is_empty o.at.frames) c2.0) (negated (is_answer m.at.chosen.atom) c1.0) p.chosen o.at refl in
      subst (AreShaped count) is
      (each_append (IsShaped count) (bind_clause f (others s.at)) (bind_clause g m.at.before ++ middle ∷ bind_clause g m.at.following)
      (shaped_others f source i s.at s.is hs)
      (each_append (IsShaped count) (bind_clause g m.at.before) (middle ∷ bind_clause g m.at.following)
      (shaped_filled g m.at.before p.before) (here, shaped_filled g m.at.following p.following)))

  -- ---- steps

  module _ (inputs : List Literals) (shaped : Each (AreShaped count) inputs) where
    input_shaped : (list : List Literals) → Each (AreShaped count) list → (i : ℕ) (clause : Literals) → nth list i ≡ Some clause → AreShaped count clause
    input_shaped [] each i clause e = absurd (none_some clause e)
    input_shaped (c ∷ list) each zero clause e = subst (AreShaped count) (some_same c clause e) each.0
    input_shaped (c ∷ list) each (suc i) clause e = input_shaped list each.1 i clause e

    tidied : (o : Option Literals) (clause : Literals) → after o (λ c. Some (tidy c)) ≡ Some clause → ((raw : Literals) → o ≡ Some raw → AreShaped count raw)
        → AreShaped count clause
    tidied o clause e raw_shaped =
        let raw = through o (λ c. Some (tidy c)) clause e in
        subst (AreShaped count) (some_same (tidy raw.at) clause raw.gives) (shaped_tidy raw.at (raw_shaped raw.at raw.is))

    module _ (clauses : List Literals) (good : (p : ℕ) (c : Literals) → nth clauses p ≡ Some c → AreShaped count c) where
      step_shaped : (step : Step) (clause : Literals) → clause_of inputs step clauses ≡ Some clause → AreShaped count clause
      step_shaped (Step.Input i) clause e = input_shaped inputs shaped i clause e
      step_shaped (Step.Resolve left i f right j g) clause e =
          tidied (untidy (Step.Resolve left i f right j g) clauses) clause e (λ raw is.
          let l = through (nth clauses left) (λ l. after (nth clauses right) (λ r. resolved l i (lookup f.pairs) r j (lookup g.pairs))) raw is in
          let r = through (nth clauses right) (λ r. resolved l.at i (lookup f.pairs) r j (lookup g.pairs)) raw l.gives in
          shaped_resolved l.at i (lookup f.pairs) r.at j (lookup g.pairs) raw r.gives (good left l.at l.is) (good right r.at r.is))
      step_shaped (Step.Factor parent i j f) clause e =
          tidied (untidy (Step.Factor parent i j f) clauses) clause e (λ raw is.
          let p = through (nth clauses parent) (λ p. factored p i j (lookup f.pairs)) raw is in
          shaped_factored p.at i j (lookup f.pairs) raw p.gives (good parent p.at p.is))
      step_shaped (Step.Paramodulate source i flipped f target j path g) clause e =
          tidied (untidy (Step.Paramodulate source i flipped f target j path g) clauses) clause e (λ raw is.
          let w = through (replacement (Step.Paramodulate source i flipped f target j path g) clauses) (λ (w : Replaced). Some w.conclusion) raw is in
          let s = through (nth clauses source) (λ s. after (nth clauses target) (λ t. replaced s i flipped (lookup f.pairs) t j path (lookup g.pairs))) w.at w.is in
          let t = through (nth clauses target) (λ t. replaced s.at i flipped (lookup f.pairs) t j path (lookup g.pairs)) w.at s.gives in
          subst (AreShaped count) (some_same w.at.conclusion raw w.gives)
          (shaped_replaced s.at i flipped (lookup f.pairs) t.at j path (lookup g.pairs) w.at t.gives (good source s.at s.is) (good target t.at t.is)))

    module _ (steps : List Step) (clauses : List Literals) (derivation : Derivation inputs steps clauses) where
      shaped_below : (k n : ℕ) → n < k → (clause : Literals) → nth clauses n ≡ Some clause → AreShaped count clause
      shaped_below zero n below clause is = absurd (omega arith)
      shaped_below (suc k) n below clause is =
          let s = through (nth steps n) (λ step. clause_of inputs step (take n clauses)) clause (sym (derivation.each n) ∙ is) in
          step_shaped (take n clauses)
          (λ p c found. let at = nth_take n clauses p c found in shaped_below k p (let less : p < n = at.1 in omega (arith, less, below)) c at.0)
          s.at clause s.gives

      pub derived_shaped : (n : ℕ) (clause : Literals) → nth clauses n ≡ Some clause → AreShaped count clause
      derived_shaped n = shaped_below (suc n) n (omega arith)

-- ---- bindings

terms_bound : (names : List Bytes) (forms : List Form) → length forms ≡ length names → map (λ (pair : Pair). pair.term) (bound names forms) ≡ forms
terms_bound [] [] e = refl
terms_bound [] (form ∷ forms) e = absurd (omega (arith, e))
terms_bound (name ∷ names) [] e = absurd (omega (arith, e))
terms_bound (name ∷ names) (form ∷ forms) e = ap (λ (fs : List Form). form ∷ fs) (terms_bound names forms (omega (arith, e)))

names_bound : (names : List Bytes) (forms : List Form) → length forms ≡ length names → map (λ (pair : Pair). pair.variable) (bound names forms) ≡ names
names_bound [] [] e = refl
names_bound [] (form ∷ forms) e = refl
names_bound (name ∷ names) [] e = absurd (omega (arith, e))
names_bound (name ∷ names) (form ∷ forms) e = ap (λ (ns : List Bytes). name ∷ ns) (names_bound names forms (omega (arith, e)))

pub record IsShown (count : ℕ) (literal : Literal) : Type 0 where
  pub is : literal ≡ yes (answer_atom (arguments literal.atom))
  pub counted : length (arguments literal.atom) ≡ count

literal_is : (literal : Literal) (atom : Form) → literal.positive ≡ true → literal.atom ≡ atom → literal ≡ yes atom
literal_is literal atom positive e = ap₂ (λ (p : Bool) (a : Form). let made : Literal = record { positive = p; atom = a } in made) positive e

pub shown_of : (count : ℕ) (literal : Literal) → IsShaped count literal → is_answer literal.atom ≡ true → IsShown count literal
shown_of count literal s answers =
    let named : s.name ≡ mark = sym ((bytes_eq-Decides mark s.name).0 (sym (answer-List s.name s.parts) ∙ ap is_answer (sym s.is) ∙ answers)) in
    let h = s.shown named in
    record {
      is = literal_is literal (answer_atom (arguments literal.atom)) h.0 (answer-whole literal.atom answers);
      counted = ap length (ap arguments s.is ∙ arguments-List (form.Word s.name) s.parts) ∙ h.1;
    }

module _ (asked : List Bytes) where
  literal_shown : (literal : Literal) → IsShown (length asked) literal → answer_literal (binding_of asked literal.atom) ≡ literal
  literal_shown literal s = ap (λ (terms : List Form). yes (answer_atom terms)) (terms_bound asked (arguments literal.atom) s.counted) ∙ sym s.is

  pub clause_shown : (clause : Literals) → AreShaped (length asked) clause → list_all (λ literal. is_answer literal.atom) clause ≡ true
      → map answer_literal (bindings_of asked clause) ≡ clause
  clause_shown [] shaped answers = refl
  clause_shown (literal ∷ clause) shaped answers =
      let hs = both (is_answer literal.atom) (list_all (λ literal. is_answer literal.atom) clause) answers in
      ap₂ ◌∷◌ (literal_shown literal (shown_of (length asked) literal shaped.0 hs.0)) (clause_shown clause shaped.1 hs.1)

  pub names_shown : (clause : Literals) → AreShaped (length asked) clause → list_all (λ literal. is_answer literal.atom) clause ≡ true
      → Each (λ (binding : Binding). names_of binding ≡ asked) (bindings_of asked clause)
  names_shown [] shaped answers = tt
  names_shown (literal ∷ clause) shaped answers =
      let hs = both (is_answer literal.atom) (list_all (λ literal. is_answer literal.atom) clause) answers in
      (names_bound asked (arguments literal.atom) (shown_of (length asked) literal shaped.0 hs.0).counted, names_shown clause shaped.1 hs.1)

  pub some_shown : (clause : Literals) → clause ≢ [] → bindings_of asked clause ≢ []
  some_shown [] some e = some refl
  some_shown (literal ∷ clause) some e = cc

-- what the literals of bindings show under a filling are the bindings filled in
pub filled_shown : (g : Filling) (bindings : List Binding) → shown_bindings (map answer_literal bindings) g ≡ filled g bindings
filled_shown g [] = refl
filled_shown g (binding ∷ bindings) =
    let terms = terms_of binding in
    ap (λ (b : Bool). map (λ (literal : Literal). arguments (bind g literal.atom)) (if b then answer_literal binding ∷ answers_of (map answer_literal bindings) else answers_of (map answer_literal bindings)))
    (answer-answers terms)
    ∙ ap₂ ◌∷◌ (ap arguments (bind-headed g mark terms) ∙ arguments-List (form.Word mark) (map (bind g) terms)) (filled_shown g bindings)

pub all_shown : (bindings : List Binding) → list_all (λ (literal : Literal). is_answer literal.atom) (map answer_literal bindings) ≡ true
all_shown [] = refl
all_shown (binding ∷ bindings) = ap₂ ◌&&◌ (answer-answers (terms_of binding)) (all_shown bindings)
