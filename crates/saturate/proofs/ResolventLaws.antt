-- What is concluded from a clause of two literals has literals. A unit clause and a query of one atom that unify give a clause of one answer literal.
use Rattle.std.proofs.Common.{◌≡◌, ◌≢◌, ◌≤◌, ◌+◌, ℕ, List, [], ◌∷◌, ◌++◌, map, length, Bool, true, false, not, ◌&&◌, ◌||◌, if◌then◌else◌, Option, Some, None, codes, refl, sym, ap, ap₂, ◌∙◌, subst, inl, inr, ◌⊎◌, arith}
use Rattle.std.specs.List.{list_any}
use Rattle.std.specs.Str.{bytes_eq}
use Rattle.std.proofs.lemmas.List.{length-append, length-map}
use Rattle.std.proofs.lemmas.Slice.Eq.{bytes_eq-Decides}
use Rattle.sigma_base.specs.Lists.{Each, each_append, each_map}
use Rattle.kif_tree.specs.declared.form.Form.{Form}
use Rattle.kif_tree.specs.declared.clause.Literal.{Literal}
use Rattle.kif_tree.specs.declared.subst.Subst.{Subst}
use Rattle.kif_tree.specs.Terms.{Bytes, same, variables}
use Rattle.kif_tree.specs.SameLaws.{same-Decides}
use Rattle.kif_tree.specs.Subst.{Filling, bind, lookup}
use Rattle.kif_tree.specs.Clauses.{Literals, is_answer, bind_literal, bind_clause}
use Rattle.kif_tree.proofs.SubstLaws.{agree, Agree}
use Rattle.calculus.specs.declared.places.Replaced.{Replaced}
use Rattle.calculus.specs.declared.step.Step.{Step}
use Rattle.calculus.specs.Answers.{Among, answer_atom}
use Rattle.calculus.specs.Closed.{pairs_of}
use Rattle.calculus.specs.Equality.{yes, no}
use Rattle.calculus.specs.Evidence.{list_from}
use Rattle.calculus.specs.Tidy.{tidy, renaming}
use Rattle.calculus.specs.Rules.{Picked, nth, pick, after, given, others, sides, to_side, opened, resolves, resolved, merges, factored, changed, replaces, replacement_by, replaced_by, replaced, replacement, untidy, concluded, Concludes}
use Rattle.calculus.proofs.AnswerLaws.{headed-bind}
use Rattle.calculus.proofs.PlaceLaws.{none_some, some_same, through, allowed, picked}
use Rattle.calculus.proofs.TruthLaws.{false_true, members}
use Rattle.infer.specs.declared.conclusion.Conclusion.{Conclusion}
use Rattle.infer.specs.Sites.{unset, site_of, each_below, resolution_sites, resolutions, paramodulation_sites, paramodulations_by, paramodulations, conclusion_sites, factor_sites, paths}
use Rattle.infer.specs.Conclusions.{IsConclusionAt, GivesNothing, AreAt, AreConclusions, AreFactors}
use Rattle.infer.proofs.ListLaws.{each_below-each}
use Rattle.clause_form.proofs.AtomLaws.{answer-List}
use Rattle.saturate.specs.Laws.{UnifiesApart}

-- ---- lengths

pick_length : (xs : Literals) (n : ℕ) (p : Picked Literal) → pick xs n ≡ Some p → length xs ≡ length (others p) + 1
pick_length xs n p e =
    omega (arith, ap length (picked xs n p e), length-append p.before (p.chosen ∷ p.following), length-append p.before p.following)

bind_length : (f : Filling) (clause : Literals) → length (bind_clause f clause) ≡ length clause
bind_length f clause = length-map clause (bind_literal f)

some_length : (clause : Literals) (n : ℕ) → length clause ≡ n → 1 ≤ n → clause ≢ []
some_length clause n e h none = let k = ap length none in omega (arith, e, k)

resolved_some : (left : Literals) (i : ℕ) (f : Filling) (right : Literals) (j : ℕ) (g : Filling) (c : Literals) → resolved left i f right j g ≡ Some c
    → (2 ≤ length left) ⊎ (2 ≤ length right) → c ≢ []
resolved_some left i f right j g c e long =
    let l = through (pick left i)
    (λ l. after (pick right j) (λ r. given (resolves f g l.chosen r.chosen) (Some (bind_clause f (others l) ++ bind_clause g (others r))))) c e in
    let r = through (pick right j) (λ r. given (resolves f g l.at.chosen r.chosen) (Some (bind_clause f (others l.at) ++ bind_clause g (others r)))) c l.gives in
    let made = allowed (resolves f g l.at.chosen r.at.chosen) (Some (bind_clause f (others l.at) ++ bind_clause g (others r.at))) c r.gives in
    let is = some_same (bind_clause f (others l.at) ++ bind_clause g (others r.at)) c made.1 in
    let size : length c ≡ length (others l.at) + length (others r.at) =
    sym (ap length is) ∙ length-append (bind_clause f (others l.at)) (bind_clause g (others r.at))
    ∙ ap₂ ◌+◌ (bind_length f (others l.at)) (bind_length g (others r.at)) in
    some_length c (length (others l.at) + length (others r.at)) size
    (go (length (others l.at)) (length (others r.at)) long (pick_length left i l.at l.is) (pick_length right j r.at r.is))
  where
    go : (a b : ℕ) → (2 ≤ length left) ⊎ (2 ≤ length right) → length left ≡ a + 1 → length right ≡ b + 1 → 1 ≤ a + b
    go a b (inl h) x y = omega arith
    go a b (inr h) x y = omega arith

factored_some : (clause : Literals) (i j : ℕ) (f : Filling) (c : Literals) → factored clause i j f ≡ Some c → 2 ≤ length clause → c ≢ []
factored_some clause i j f c e long =
    let p = through (pick clause j) (λ d. after (pick d.before i) (λ k. given (merges f k.chosen d.chosen) (Some (bind_clause f (others d))))) c e in
    let k = through (pick p.at.before i) (λ k. given (merges f k.chosen p.at.chosen) (Some (bind_clause f (others p.at)))) c p.gives in
    let made = allowed (merges f k.at.chosen p.at.chosen) (Some (bind_clause f (others p.at))) c k.gives in
    let is = some_same (bind_clause f (others p.at)) c made.1 in
    some_length c (length (others p.at)) (sym (ap length is) ∙ bind_length f (others p.at)) (omega (arith, pick_length clause j p.at p.is))

middle_some : (xs ys : Literals) (z : Literal) (zs : Literals) → xs ++ (ys ++ z ∷ zs) ≢ []
middle_some [] [] z zs e = absurd (cc)
middle_some [] (y ∷ ys) z zs e = absurd (cc)
middle_some (x ∷ xs) ys z zs e = absurd (cc)

still_some : (v w : Replaced) → v ≡ w → v.conclusion ≢ [] → w.conclusion ≢ []
still_some v w e h none = h (ap (λ (r : Replaced). r.conclusion) e ∙ none)

replaced_some : (source : Literals) (i : ℕ) (flipped : Bool) (f : Filling) (target : Literals) (j : ℕ) (path : List ℕ) (g : Filling) (w : Replaced)
    → replaced source i flipped f target j path g ≡ Some w → w.conclusion ≢ []
replaced_some source i flipped f target j path g w e =
    let s = through (pick source i)
    (λ s. after (sides s.chosen.atom) (λ e. after (pick target j) (λ m. after (opened path m.chosen.atom) (replaced_by f flipped s e g m)))) w e in
    let q = through (sides s.at.chosen.atom) (λ e. after (pick target j) (λ m. after (opened path m.chosen.atom) (replaced_by f flipped s.at e g m))) w s.gives in
    let m = through (pick target j) (λ m. after (opened path m.chosen.atom) (replaced_by f flipped s.at q.at g m)) w q.gives in
    let o = through (opened path m.at.chosen.atom) (replaced_by f flipped s.at q.at g m.at) w m.gives in
    let made = allowed (replaces f flipped q.at g s.at.chosen m.at.chosen o.at) (Some (replacement_by f flipped s.at q.at g m.at o.at)) w o.gives in
    let is = some_same (replacement_by f flipped s.at q.at g m.at o.at) w made.1 in
    let some = middle_some (bind_clause f (others s.at)) (bind_clause g m.at.before) (changed f (to_side flipped q.at) g m.at.chosen o.at)
    (bind_clause g m.at.following) in
    still_some (replacement_by f flipped s.at q.at g m.at o.at) w is some

tidy_some : (clause : Literals) → clause ≢ [] → tidy clause ≢ []
unfolding tidy
tidy_some [] h e = h refl
tidy_some (l ∷ ls) h e = absurd (cc)

-- ---- sites

-- of two clauses the first one takes part
abbrev HasFirst : Step → Type 0
HasFirst (Step.Input i) = ⊥
HasFirst (Step.Resolve left i f right j g) = (left ≡ 0) ⊎ (right ≡ 0)
HasFirst (Step.Factor parent i j f) = parent ≡ 0
HasFirst (Step.Paramodulate source i flipped f target j path g) = Unit {0}

first_of_site : (step : Step) → HasFirst (site_of step) → HasFirst step
first_of_site (Step.Input i) h = h
first_of_site (Step.Resolve left i f right j g) h = h
first_of_site (Step.Factor parent i j f) h = h
first_of_site (Step.Paramodulate source i flipped f target j path g) h = h

-- a step by a clause of two literals
concluded_some : (first : Literals) (more : List Literals) (step : Step) (c : Literals) → 2 ≤ length first → HasFirst step
    → Concludes step (first ∷ more) c → c ≢ []
concluded_some first more (Step.Input i) c long h e = absurd h
concluded_some first more (Step.Resolve left i f right j g) c long h e =
    let list = first ∷ more in
    let whole = through (untidy (Step.Resolve left i f right j g) list) (λ c. Some (tidy c)) c e in
    let l = through (nth list left) (λ l. after (nth list right) (λ r. resolved l i (lookup f.pairs) r j (lookup g.pairs))) whole.at whole.is in
    let r = through (nth list right) (λ r. resolved l.at i (lookup f.pairs) r j (lookup g.pairs)) whole.at l.gives in
    subst (λ (d : Literals). d ≢ []) (some_same (tidy whole.at) c whole.gives)
    (tidy_some whole.at (resolved_some l.at i (lookup f.pairs) r.at j (lookup g.pairs) whole.at r.gives (go l.at r.at l.is r.is h)))
  where
    go : (l r : Literals) → nth (first ∷ more) left ≡ Some l → nth (first ∷ more) right ≡ Some r → (left ≡ 0) ⊎ (right ≡ 0) → (2 ≤ length l) ⊎ (2 ≤ length r)
    go l r is is_2 (inl z) =
        let same : first ≡ l = some_same first l (sym (ap (nth (first ∷ more)) z) ∙ is) in
        inl (subst (λ (d : Literals). 2 ≤ length d) same long)
    go l r is is_2 (inr z) =
        let same : first ≡ r = some_same first r (sym (ap (nth (first ∷ more)) z) ∙ is_2) in
        inr (subst (λ (d : Literals). 2 ≤ length d) same long)
concluded_some first more (Step.Factor parent i j f) c long h e =
    let list = first ∷ more in
    let whole = through (untidy (Step.Factor parent i j f) list) (λ c. Some (tidy c)) c e in
    let p = through (nth list parent) (λ p. factored p i j (lookup f.pairs)) whole.at whole.is in
    let same : first ≡ p.at = some_same first p.at (sym (ap (nth list) h) ∙ p.is) in
    subst (λ (d : Literals). d ≢ []) (some_same (tidy whole.at) c whole.gives)
    (tidy_some whole.at (factored_some p.at i j (lookup f.pairs) whole.at p.gives (subst (λ (d : Literals). 2 ≤ length d) same long)))
concluded_some first more (Step.Paramodulate source i flipped f target j path g) c long h e =
    let list = first ∷ more in
    let whole = through (untidy (Step.Paramodulate source i flipped f target j path g) list) (λ c. Some (tidy c)) c e in
    let made = through (replacement (Step.Paramodulate source i flipped f target j path g) list) (λ w. Some w.conclusion) whole.at whole.is in
    let s = through (nth list source) (λ s. after (nth list target) (λ t. replaced s i flipped (lookup f.pairs) t j path (lookup g.pairs))) made.at made.is in
    let t = through (nth list target) (λ t. replaced s.at i flipped (lookup f.pairs) t j path (lookup g.pairs)) made.at s.gives in
    let some = replaced_some s.at i flipped (lookup f.pairs) t.at j path (lookup g.pairs) made.at t.gives in
    subst (λ (d : Literals). d ≢ []) (some_same (tidy whole.at) c whole.gives)
    (tidy_some whole.at (subst (λ (d : Literals). d ≢ []) (some_same made.at.conclusion whole.at made.gives) some))

at_each : (clauses : List Literals) (P : Step → Type 0) (Q : Conclusion → Type 0)
    → ((site : Step) (c : Conclusion) → P site → IsConclusionAt clauses site c → Q c)
    → (sites : List Step) (list : List Conclusion) → Each P sites → AreAt clauses sites list → Each Q list
at_each clauses P Q f [] list each h = subst (Each Q) (sym h) tt
at_each clauses P Q f (site ∷ sites) list each (inl h) = at_each clauses P Q f sites list each.1 h.1
at_each clauses P Q f (site ∷ sites) list each (inr h) =
    subst (Each Q) (sym h.is) (f site h.first each.0 h.concludes, at_each clauses P Q f sites h.rest each.1 h.more)

abbrev pub HasLiterals : Conclusion → Type 0
HasLiterals conclusion = conclusion.clause ≢ []

some_at : (first : Literals) (more : List Literals) (sites : List Step) (list : List Conclusion) → 2 ≤ length first → Each HasFirst sites
    → AreAt (first ∷ more) sites list → Each HasLiterals list
some_at first more sites list long each h =
    at_each (first ∷ more) HasFirst HasLiterals (λ site c has at. concluded_some first more c.step c.clause long
    (first_of_site c.step (subst HasFirst (sym at.at) has)) at.concludes) sites list each h

each_from : {A B : Type 0} (P : B → Type 0) (o : Option A) (f : A → List B) → ((a : A) → Each P (f a)) → Each P (list_from o f)
each_from P None f h = tt
each_from P (Some a) f h = h a

each_mapped : {A B : Type 0} (P : B → Type 0) (f : A → B) → ((a : A) → P (f a)) → (xs : List A) → Each P (map f xs)
each_mapped P f h [] = tt
each_mapped P f h (x ∷ xs) = (h x, each_mapped P f h xs)

paramodulations_first : (source : ℕ) (from : Literals) (target : ℕ) (into : Literals) → Each HasFirst (paramodulations source from target into)
paramodulations_first source from target into =
    each_below-each HasFirst (length from) (λ i. paramodulations_by source i false target into ++ paramodulations_by source i true target into)
    (λ i below. each_append HasFirst (paramodulations_by source i false target into) (paramodulations_by source i true target into) (by i false) (by i true))
  where
    by : (i : ℕ) (flipped : Bool) → Each HasFirst (paramodulations_by source i flipped target into)
    by i flipped =
        each_below-each HasFirst (length into) (paramodulation_sites source i flipped target into) (λ j below.
        each_from HasFirst (nth into j) (λ literal. map (λ (path : List ℕ). Step.Paramodulate source i flipped unset target j path unset) (paths literal.atom))
        (λ literal. each_mapped HasFirst (λ (path : List ℕ). Step.Paramodulate source i flipped unset target j path unset) (λ path. tt) (paths literal.atom)))

sites_first : (first second : Literals) (same : Bool) → Each HasFirst (conclusion_sites first second same)
sites_first first second same =
    each_append HasFirst (resolutions first second) (paramodulations 0 first 1 second ++ (if same then [] else paramodulations 1 second 0 first))
    (each_below-each HasFirst (length first) (λ i. each_below (length second) (resolution_sites i)) (λ i below.
    each_below-each HasFirst (length second) (resolution_sites i) (λ j below. (inl refl, (inr refl, tt)))))
    (each_append HasFirst (paramodulations 0 first 1 second) (if same then [] else paramodulations 1 second 0 first)
    (paramodulations_first 0 first 1 second) (back same))
  where
    back : (b : Bool) → Each HasFirst (if b then [] else paramodulations 1 second 0 first)
    back true = tt
    back false = paramodulations_first 1 second 0 first

pub conclusions_some : (first second : Literals) (same : Bool) (list : List Conclusion) → 2 ≤ length first → AreConclusions first second same list
    → Each HasLiterals list
conclusions_some first second same list long h = some_at first (second ∷ []) (conclusion_sites first second same) list long (sites_first first second same) h

pub factors_some : (first : Literals) (list : List Conclusion) → 2 ≤ length first → AreFactors first list → Each HasLiterals list
factors_some first list long h =
    some_at first [] (factor_sites first) list long
    (each_below-each HasFirst (length first) (λ i. each_below (length first) (λ j. Step.Factor 0 i j unset ∷ [])) (λ i below.
    each_below-each HasFirst (length first) (λ j. Step.Factor 0 i j unset ∷ []) (λ j below. (refl, tt)))) h

-- ---- the resolvent of a unit clause

record FoundAt (clauses : List Literals) (site : Step) (list : List Conclusion) : Type 0 where
  conclusion : Conclusion
  among : Among conclusion list
  at : IsConclusionAt clauses site conclusion

at_site : (clauses : List Literals) (site : Step) (sites : List Step) (list : List Conclusion) → AreAt clauses sites list → Among site sites
    → GivesNothing clauses site ⊎ FoundAt clauses site list
at_site clauses site [] list h among = absurd among
at_site clauses site (s ∷ ss) list (inl h) (inl e) = inl (subst (GivesNothing clauses) (sym e) h.0)
at_site clauses site (s ∷ ss) list (inl h) (inr among) = at_site clauses site ss list h.1 among
at_site clauses site (s ∷ ss) list (inr h) (inl e) =
    inr (record {
      conclusion = h.first;
      among = subst (Among h.first) (sym h.is) (inl refl);
      at = subst (λ (s : Step). IsConclusionAt clauses s h.first) (sym e) h.concludes;
    })
at_site clauses site (s ∷ ss) list (inr h) (inr among) = go (at_site clauses site ss h.rest h.more among)
  where
    go : GivesNothing clauses site ⊎ FoundAt clauses site h.rest → GivesNothing clauses site ⊎ FoundAt clauses site list
    go (inl none) = inl none
    go (inr there) = inr (record { conclusion = there.conclusion; among = subst (Among there.conclusion) (sym h.is) (inr there.among); at = there.at })

lookup_pairs : (g : Filling) (names : List Bytes) (v : Bytes) → list_any (bytes_eq v) names ≡ true → lookup (pairs_of g names) v ≡ g v
lookup_pairs g [] v h = absurd (false_true h)
lookup_pairs g (x ∷ names) v h = go (bytes_eq x v) refl (lookup_pairs g names v)
  where
    flipped : bytes_eq v x ≡ true → bytes_eq x v ≡ true
    flipped e = (bytes_eq-Decides x v).1 (sym ((bytes_eq-Decides v x).0 e))

    rest : (b : Bool) → bytes_eq v x ≡ b → bytes_eq x v ≡ false → (b || list_any (bytes_eq v) names) ≡ true → list_any (bytes_eq v) names ≡ true
    rest true e no any = absurd (false_true (sym no ∙ flipped e))
    rest false e no any = any

    go : (b : Bool) → bytes_eq x v ≡ b → (list_any (bytes_eq v) names ≡ true → lookup (pairs_of g names) v ≡ g v) → (if b then g x else lookup (pairs_of g names) v) ≡ g v
    go true e k = ap g ((bytes_eq-Decides x v).0 e)
    go false e k = k (rest (bytes_eq v x) refl e h)

-- the filling as a substitution
abbrev made_of : Filling → Form → Subst
made_of g f = record { pairs = pairs_of g (variables f) }

bind_made : (g : Filling) (f : Form) → bind (lookup (made_of g f).pairs) f ≡ bind g f
bind_made g f = agree (lookup (pairs_of g (variables f))) g f
    (each_map (λ v. list_any (bytes_eq v) (variables f) ≡ true) (Agree (lookup (pairs_of g (variables f))) g) (lookup_pairs g (variables f))
    (variables f) (members (variables f)))

-- one literal, which is an answer literal
pub record IsAnswer (clause : Literals) : Type 0 where
  pub literal : Literal
  pub is : clause ≡ literal ∷ []
  pub answers : is_answer literal.atom ≡ true

tidy_answer : (clause : Literals) → IsAnswer clause → IsAnswer (tidy clause)
unfolding tidy
tidy_answer clause h =
    let new = renaming (h.literal ∷ []) in
    record { literal = bind_literal new h.literal; is = ap tidy h.is; answers = headed-bind (codes "!answer") new h.literal.atom h.answers }

module _ (atom : Form) (arguments : List Form) (unit : Form) where
  abbrev query : Literals
  query = no atom ∷ yes (answer_atom arguments) ∷ []

  abbrev site : Step
  site = Step.Resolve 1 0 unset 0 0 unset

  is_answer_atom : is_answer (answer_atom arguments) ≡ true
  is_answer_atom = answer-List (codes "!answer") arguments ∙ (bytes_eq-Decides (codes "!answer") (codes "!answer")).1 refl

  unit_site : (alone : Bool) → Among site (conclusion_sites query (yes unit ∷ []) alone)
  unit_site alone = inr (inl refl)

  unit_resolves : UnifiesApart atom unit → is_answer atom ≡ false → is_answer unit ≡ false → GivesNothing (query ∷ (yes unit ∷ []) ∷ []) site → ⊥
  unit_resolves h a u none =
      let f = lookup (made_of h.right unit).pairs in
      let g = lookup (made_of h.left atom).pairs in
      let same_atoms : bind f unit ≡ bind g atom = bind_made h.right unit ∙ sym h.equal ∙ sym (bind_made h.left atom) in
      let test : resolves f g (yes unit) (no atom) ≡ true =
      ap₂ ◌&&◌ (ap not u) (ap₂ ◌&&◌ (ap not a) ((same-Decides (bind f unit) (bind g atom)).1 same_atoms)) in
      let step = Step.Resolve 1 0 (made_of h.right unit) 0 0 (made_of h.left atom) in
      let some : concluded step (query ∷ (yes unit ∷ []) ∷ []) ≡ Some (tidy (bind_clause g (yes (answer_atom arguments) ∷ []))) =
      ap (λ (b : Bool). after (given b (Some (bind_clause g (yes (answer_atom arguments) ∷ [])))) (λ c. Some (tidy c))) test in
      none_some (tidy (bind_clause g (yes (answer_atom arguments) ∷ []))) (sym (none step refl) ∙ some)

  resolvent : (step : Step) (c : Literals) → site_of step ≡ site → Concludes step (query ∷ (yes unit ∷ []) ∷ []) c → IsAnswer c
  resolvent (Step.Input i) c e h = absurd (cc)
  resolvent (Step.Factor parent i j f) c e h = absurd (cc)
  resolvent (Step.Paramodulate source i flipped f target j path g) c e h = absurd (cc)
  resolvent (Step.Resolve left i f right j g) c e h =
      let left_is : left ≡ 1 = cc in
      let i_is : i ≡ 0 = cc in
      let right_is : right ≡ 0 = cc in
      let j_is : j ≡ 0 = cc in
      let list = query ∷ (yes unit ∷ []) ∷ [] in
      let there : Concludes (Step.Resolve 1 0 f 0 0 g) list c =
      ap₂ (λ (l r : ℕ). concluded (Step.Resolve l 0 f r 0 g) list) (sym left_is) (sym right_is)
      ∙ ap₂ (λ (n m : ℕ). concluded (Step.Resolve left n f right m g) list) (sym i_is) (sym j_is) ∙ h in
      go there
    where
      go : Concludes (Step.Resolve 1 0 f 0 0 g) (query ∷ (yes unit ∷ []) ∷ []) c → IsAnswer c
      go there =
          let left_one = lookup f.pairs in
          let right_one = lookup g.pairs in
          let whole = through (untidy (Step.Resolve 1 0 f 0 0 g) (query ∷ (yes unit ∷ []) ∷ [])) (λ c. Some (tidy c)) c there in
          let made = allowed (resolves left_one right_one (yes unit) (no atom)) (Some (bind_clause right_one (yes (answer_atom arguments) ∷ []))) whole.at whole.is in
          let is = some_same (bind_clause right_one (yes (answer_atom arguments) ∷ [])) whole.at made.1 in
          let answer : IsAnswer whole.at = record {
            literal = bind_literal right_one (yes (answer_atom arguments));
            is = sym is;
            answers = headed-bind (codes "!answer") right_one (answer_atom arguments) is_answer_atom;
          } in
          subst IsAnswer (some_same (tidy whole.at) c whole.gives) (tidy_answer whole.at answer)

  -- among the conclusions of the query's clause and the unit clause
  pub record FindsAnswer (list : List Conclusion) : Type 0 where
    pub conclusion : Conclusion
    pub among : Among conclusion list
    pub answers : IsAnswer conclusion.clause

  pub unit_found : UnifiesApart atom unit → is_answer atom ≡ false → is_answer unit ≡ false → (alone : Bool) (list : List Conclusion)
      → AreConclusions (no atom ∷ yes (answer_atom arguments) ∷ []) (yes unit ∷ []) alone list → FindsAnswer list
  unit_found h a u alone list are =
      go (at_site (query ∷ (yes unit ∷ []) ∷ []) site (conclusion_sites query (yes unit ∷ []) alone) list are (unit_site alone))
    where
      go : GivesNothing (query ∷ (yes unit ∷ []) ∷ []) site ⊎ FoundAt (query ∷ (yes unit ∷ []) ∷ []) site list → FindsAnswer list
      go (inl none) = absurd (unit_resolves h a u none)
      go (inr there) = record {
        conclusion = there.conclusion;
        among = there.among;
        answers = resolvent there.conclusion.step there.conclusion.clause there.at.at there.at.concludes;
      }
