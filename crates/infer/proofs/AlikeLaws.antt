-- Steps at one site that are each other under fillings conclude one clause.
use Rattle.std.proofs.Common.{◌≡◌, ℕ, List, [], ◌∷◌, ◌++◌, map, Bool, true, false, Option, Some, None, refl, sym, ap, ap₂, ◌∙◌, subst, inl, inr}
use Rattle.sigma_base.specs.Lists.{Each, each_append, each_left, each_right}
use Rattle.kif_tree.specs.declared.form.Form.{Form}
use Rattle.kif_tree.specs.declared.clause.Literal.{Literal}
use Rattle.kif_tree.specs.Terms.{Bytes, variables}
use Rattle.kif_tree.specs.Subst.{Filling, bind, via, lookup}
use Rattle.kif_tree.specs.Clauses.{Literals, bind_literal, bind_clause, clause_variables}
use Rattle.kif_tree.proofs.SubstLaws.{Agree, agree, bind-via, bind-List}
use Rattle.calculus.specs.declared.places.Frame.{Frame}
use Rattle.calculus.specs.declared.places.Opened.{Opened}
use Rattle.calculus.specs.declared.places.Sides.{Sides}
use Rattle.calculus.specs.declared.places.Replaced.{Replaced}
use Rattle.calculus.specs.declared.step.Step.{Step}
use Rattle.calculus.specs.Equality.{equal}
use Rattle.calculus.specs.Tidy.{tidy}
use Rattle.calculus.specs.Rules.{Picked, nth, pick, after, given, others, bind_frame, plugged, opened, sides, to_side, resolves, resolved, merges, factored, changed, replaces, replacement_by, replaced_by, replaced, replacement, untidy}
use Rattle.calculus.specs.Evidence.{list_from}
use Rattle.calculus.proofs.PlaceLaws.{through, allowed, none_some, some_same, picked, opened-whole, bind-plugged, sides-whole, bind-equal}
use Rattle.calculus.proofs.PairLaws.{clause-agree}
use Rattle.calculus.proofs.RenamingLaws.{list_same, clause-via, tidies_alike}
use Rattle.calculus_programs.proofs.PickLaws.{bind-append}
use Rattle.infer.specs.declared.conclusion.Conclusion.{Conclusion}
use Rattle.infer.specs.Sites.{site_of}
use Rattle.infer.specs.Conclusions.{clause_at, AreTurned, Generalizes, IsConclusionAt}
use Rattle.infer.specs.Laws.{AreAlike, EachTwo, OneList}

-- ---- clauses under a filling that is another one and then a third

-- the second filling gives the variables of the clause what the first one and then the next do
abbrev IsNext : Filling → Filling → Filling → Literals → Type 0
IsNext next f f_2 clause = Each (Agree f_2 (via f next)) (clause_variables clause)

next_clause : (next f f_2 : Filling) (clause : Literals) → IsNext next f f_2 clause → bind_clause next (bind_clause f clause) ≡ bind_clause f_2 clause
next_clause next f f_2 clause h = clause-via f next clause ∙ sym (clause-agree f_2 (via f next) clause h)

variables-append : (P : Bytes → Type 0) (xs ys : Literals) → Each P (clause_variables (xs ++ ys)) → Each P (clause_variables xs) × Each P (clause_variables ys)
variables-append P [] ys h = (tt, h)
variables-append P (x ∷ xs) ys h =
    let rest = variables-append P xs ys (each_right P (variables x.atom) (clause_variables (xs ++ ys)) h) in
    (each_append P (variables x.atom) (clause_variables xs) (each_left P (variables x.atom) (clause_variables (xs ++ ys)) h) rest.0, rest.1)

record Parted (P : Bytes → Type 0) (p : Picked Literal) : Type 0 where
  before : Each P (clause_variables p.before)
  chosen : Each P (variables p.chosen.atom)
  following : Each P (clause_variables p.following)

parted : (P : Bytes → Type 0) (clause : Literals) (n : ℕ) (p : Picked Literal) → pick clause n ≡ Some p → Each P (clause_variables clause) → Parted P p
parted P clause n p e h =
    let whole = subst (λ (ls : Literals). Each P (clause_variables ls)) (picked clause n p e) h in
    let two = variables-append P p.before (p.chosen ∷ p.following) whole in
    record {
      before = two.0;
      chosen = each_left P (variables p.chosen.atom) (clause_variables p.following) two.1;
      following = each_right P (variables p.chosen.atom) (clause_variables p.following) two.1;
    }

next_others : (next f f_2 : Filling) (clause : Literals) (n : ℕ) (p : Picked Literal) → pick clause n ≡ Some p → IsNext next f f_2 clause
    → bind_clause next (bind_clause f (others p)) ≡ bind_clause f_2 (others p)
next_others next f f_2 clause n p e h =
    let parts = parted (Agree f_2 (via f next)) clause n p e h in
    ap (bind_clause next) (bind-append f p.before p.following)
    ∙ bind-append next (bind_clause f p.before) (bind_clause f p.following)
    ∙ ap₂ ◌++◌ (next_clause next f f_2 p.before parts.before) (next_clause next f f_2 p.following parts.following)
    ∙ sym (bind-append f_2 p.before p.following)

-- ---- resolution and factoring

resolved_next : (next f f_2 g g_2 : Filling) (left right : Literals) (i j : ℕ) (c d : Literals) → IsNext next f f_2 left → IsNext next g g_2 right
    → resolved left i f right j g ≡ Some c → resolved left i f_2 right j g_2 ≡ Some d → bind_clause next c ≡ d
resolved_next next f f_2 g g_2 left right i j c d on_left on_right first second =
    let l = through (pick left i)
    (λ l. after (pick right j) (λ r. given (resolves f g l.chosen r.chosen) (Some (bind_clause f (others l) ++ bind_clause g (others r))))) c first in
    let r = through (pick right j) (λ r. given (resolves f g l.at.chosen r.chosen) (Some (bind_clause f (others l.at) ++ bind_clause g (others r)))) c l.gives in
    let made = allowed (resolves f g l.at.chosen r.at.chosen) (Some (bind_clause f (others l.at) ++ bind_clause g (others r.at))) c r.gives in
    let there : given (resolves f_2 g_2 l.at.chosen r.at.chosen) (Some (bind_clause f_2 (others l.at) ++ bind_clause g_2 (others r.at))) ≡ Some d =
    sym (ap₂ (λ (o p : Option (Picked Literal)). after o (λ l. after p (λ r. given (resolves f_2 g_2 l.chosen r.chosen)
    (Some (bind_clause f_2 (others l) ++ bind_clause g_2 (others r)))))) l.is r.is) ∙ second in
    let made_2 = allowed (resolves f_2 g_2 l.at.chosen r.at.chosen) (Some (bind_clause f_2 (others l.at) ++ bind_clause g_2 (others r.at))) d there in
    ap (bind_clause next) (sym (some_same _ c made.1))
    ∙ bind-append next (bind_clause f (others l.at)) (bind_clause g (others r.at))
    ∙ ap₂ ◌++◌ (next_others next f f_2 left i l.at l.is on_left) (next_others next g g_2 right j r.at r.is on_right)
    ∙ some_same _ d made_2.1

factored_next : (next f f_2 : Filling) (clause : Literals) (i j : ℕ) (c d : Literals) → IsNext next f f_2 clause
    → factored clause i j f ≡ Some c → factored clause i j f_2 ≡ Some d → bind_clause next c ≡ d
factored_next next f f_2 clause i j c d on first second =
    let p = through (pick clause j) (λ d. after (pick d.before i) (λ k. given (merges f k.chosen d.chosen) (Some (bind_clause f (others d))))) c first in
    let k = through (pick p.at.before i) (λ k. given (merges f k.chosen p.at.chosen) (Some (bind_clause f (others p.at)))) c p.gives in
    let made = allowed (merges f k.at.chosen p.at.chosen) (Some (bind_clause f (others p.at))) c k.gives in
    let there : after (pick p.at.before i) (λ k. given (merges f_2 k.chosen p.at.chosen) (Some (bind_clause f_2 (others p.at)))) ≡ Some d =
    sym (ap (λ (o : Option (Picked Literal)). after o (λ d. after (pick d.before i) (λ k. given (merges f_2 k.chosen d.chosen) (Some (bind_clause f_2 (others d)))))) p.is)
    ∙ second in
    let k_2 = through (pick p.at.before i) (λ k. given (merges f_2 k.chosen p.at.chosen) (Some (bind_clause f_2 (others p.at)))) d there in
    let made_2 = allowed (merges f_2 k_2.at.chosen p.at.chosen) (Some (bind_clause f_2 (others p.at))) d k_2.gives in
    ap (bind_clause next) (sym (some_same _ c made.1)) ∙ next_others next f f_2 clause j p.at p.is on ∙ some_same _ d made_2.1

-- ---- paramodulation

-- fillings that make a form equal make the sides of an equation equal
sides_agree : (f g : Filling) (flipped : Bool) (atom : Form) (e : Sides) → sides atom ≡ Some e → bind f atom ≡ bind g atom
    → bind f (to_side flipped e) ≡ bind g (to_side flipped e)
sides_agree f g flipped atom e is h =
    let whole = sides-whole atom e is in
    let lists : equal (bind f e.left) (bind f e.right) ≡ equal (bind g e.left) (bind g e.right) =
    sym (ap (bind f) whole ∙ bind-equal f e.left e.right) ∙ h ∙ ap (bind g) whole ∙ bind-equal g e.left e.right in
    let parts = list_same _ _ lists in
    let left : bind f e.left ≡ bind g e.left = cc in
    let right : bind f e.right ≡ bind g e.right = cc in
    go left right flipped
  where
    go : bind f e.left ≡ bind g e.left → bind f e.right ≡ bind g e.right → (flipped : Bool) → bind f (to_side flipped e) ≡ bind g (to_side flipped e)
    go left right true = left
    go left right false = right

record SplitSame (f g : Filling) (before : List Form) (x : Form) (following : List Form) : Type 0 where
  before_same : map (bind f) before ≡ map (bind g) before
  here : bind f x ≡ bind g x
  following_same : map (bind f) following ≡ map (bind g) following

split_same : (f g : Filling) (before : List Form) (x : Form) (following : List Form)
    → map (bind f) (before ++ x ∷ following) ≡ map (bind g) (before ++ x ∷ following) → SplitSame f g before x following
split_same f g [] x following h = record { before_same = refl; here = cc; following_same = cc }
split_same f g (y ∷ before) x following h =
    let first : bind f y ≡ bind g y = cc in
    let rest : map (bind f) (before ++ x ∷ following) ≡ map (bind g) (before ++ x ∷ following) = cc in
    let split = split_same f g before x following rest in
    record { before_same = ap₂ ◌∷◌ first split.before_same; here = split.here; following_same = split.following_same }

-- and so it is with the lists around a place
frames_agree : (f g : Filling) (frames : List Frame) (x : Form) → bind f (plugged frames x) ≡ bind g (plugged frames x)
    → map (bind_frame f) frames ≡ map (bind_frame g) frames
frames_agree f g [] x h = refl
frames_agree f g (frame ∷ frames) x h =
    let parts = list_same _ _ (sym (bind-List f (frame.head ∷ (frame.before ++ plugged frames x ∷ frame.following)))
    ∙ h ∙ bind-List g (frame.head ∷ (frame.before ++ plugged frames x ∷ frame.following))) in
    let head : bind f frame.head ≡ bind g frame.head = cc in
    let rest : map (bind f) (frame.before ++ plugged frames x ∷ frame.following) ≡ map (bind g) (frame.before ++ plugged frames x ∷ frame.following) = cc in
    let split = split_same f g frame.before (plugged frames x) frame.following rest in
    let here : bind_frame f frame ≡ bind_frame g frame = λ i. record { head = head i; before = split.before_same i; following = split.following_same i } in
    ap₂ ◌∷◌ here (frames_agree f g frames x split.here)

map_via : (f next : Filling) (xs : List Form) → map (bind next) (map (bind f) xs) ≡ map (bind (via f next)) xs
map_via f next [] = refl
map_via f next (x ∷ xs) = ap₂ ◌∷◌ (sym (bind-via f next x)) (map_via f next xs)

frames_via : (f next : Filling) (frames : List Frame) → map (bind_frame next) (map (bind_frame f) frames) ≡ map (bind_frame (via f next)) frames
frames_via f next [] = refl
frames_via f next (frame ∷ frames) =
    let here : bind_frame next (bind_frame f frame) ≡ bind_frame (via f next) frame =
    λ i. record { head = sym (bind-via f next frame.head) i; before = map_via f next frame.before i; following = map_via f next frame.following i } in
    ap₂ ◌∷◌ here (frames_via f next frames)

module _ (next f f_2 g g_2 : Filling) where
  changed_next : (flipped : Bool) (source : Literal) (e : Sides) (target : Literal) (path : List ℕ) (o : Opened) → sides source.atom ≡ Some e
      → opened path target.atom ≡ Some o
      → Each (Agree f_2 (via f next)) (variables source.atom) → Each (Agree g_2 (via g next)) (variables target.atom)
      → bind_literal next (changed f (to_side flipped e) g target o) ≡ changed f_2 (to_side flipped e) g_2 target o
  changed_next flipped source e target path o e_is o_is on_source on_target =
      let side : bind f_2 (to_side flipped e) ≡ bind next (bind f (to_side flipped e)) =
      sides_agree f_2 (via f next) flipped source.atom e e_is (agree f_2 (via f next) source.atom on_source) ∙ bind-via f next (to_side flipped e) in
      let whole = opened-whole path target.atom o o_is in
      let frames : map (bind_frame g_2) o.frames ≡ map (bind_frame next) (map (bind_frame g) o.frames) =
      frames_agree g_2 (via g next) o.frames o.inner
      (ap (bind g_2) (sym whole) ∙ agree g_2 (via g next) target.atom on_target ∙ ap (bind (via g next)) whole) ∙ sym (frames_via g next o.frames) in
      ap (λ (atom : Form). let made : Literal = record { positive = target.positive; atom = atom } in made)
      (bind-plugged next (map (bind_frame g) o.frames) (bind f (to_side flipped e)) ∙ sym (ap₂ plugged frames side))

  conclusion_next : (source : Literals) (i : ℕ) (flipped : Bool) (target : Literals) (j : ℕ) (path : List ℕ) (s : Picked Literal) (e : Sides) (m : Picked Literal) (o : Opened)
      → IsNext next f f_2 source → IsNext next g g_2 target
      → pick source i ≡ Some s → sides s.chosen.atom ≡ Some e → pick target j ≡ Some m → opened path m.chosen.atom ≡ Some o
      → bind_clause next (replacement_by f flipped s e g m o).conclusion ≡ (replacement_by f_2 flipped s e g_2 m o).conclusion
  conclusion_next source i flipped target j path s e m o on_source on_target s_is e_is m_is o_is =
      let to = to_side flipped e in
      let in_source = parted (Agree f_2 (via f next)) source i s s_is on_source in
      let in_target = parted (Agree g_2 (via g next)) target j m m_is on_target in
      bind-append next (bind_clause f (others s)) (bind_clause g m.before ++ changed f to g m.chosen o ∷ bind_clause g m.following)
      ∙ ap₂ ◌++◌ (next_others next f f_2 source i s s_is on_source)
      (bind-append next (bind_clause g m.before) (changed f to g m.chosen o ∷ bind_clause g m.following)
      ∙ ap₂ ◌++◌ (next_clause next g g_2 m.before in_target.before)
      (ap₂ ◌∷◌ (changed_next flipped s.chosen e m.chosen path o e_is o_is in_source.chosen in_target.chosen) (next_clause next g g_2 m.following in_target.following)))

  replaced_next : (source : Literals) (i : ℕ) (flipped : Bool) (target : Literals) (j : ℕ) (path : List ℕ) (w v : Replaced) → IsNext next f f_2 source
      → IsNext next g g_2 target
      → replaced source i flipped f target j path g ≡ Some w → replaced source i flipped f_2 target j path g_2 ≡ Some v
      → bind_clause next w.conclusion ≡ v.conclusion
  replaced_next source i flipped target j path w v on_source on_target = go (pick source i) refl
    where
      at_place : (s : Picked Literal) (e : Sides) (m : Picked Literal) (o : Option Opened) → pick source i ≡ Some s → sides s.chosen.atom ≡ Some e
          → pick target j ≡ Some m → opened path m.chosen.atom ≡ o
          → after o (replaced_by f flipped s e g m) ≡ Some w → after o (replaced_by f_2 flipped s e g_2 m) ≡ Some v → bind_clause next w.conclusion ≡ v.conclusion
      at_place s e m None s_is e_is m_is o_is first second = absurd (none_some w first)
      at_place s e m (Some o) s_is e_is m_is o_is first second =
          let made = allowed (replaces f flipped e g s.chosen m.chosen o) (Some (replacement_by f flipped s e g m o)) w first in
          let made_2 = allowed (replaces f_2 flipped e g_2 s.chosen m.chosen o) (Some (replacement_by f_2 flipped s e g_2 m o)) v second in
          ap (λ (r : Replaced). bind_clause next r.conclusion) (sym (some_same (replacement_by f flipped s e g m o) w made.1))
          ∙ conclusion_next source i flipped target j path s e m o on_source on_target s_is e_is m_is o_is
          ∙ ap (λ (r : Replaced). r.conclusion) (some_same (replacement_by f_2 flipped s e g_2 m o) v made_2.1)

      in_target : (s : Picked Literal) (e : Sides) (m : Option (Picked Literal)) → pick source i ≡ Some s → sides s.chosen.atom ≡ Some e → pick target j ≡ m
          → after m (λ m. after (opened path m.chosen.atom) (replaced_by f flipped s e g m)) ≡ Some w
          → after m (λ m. after (opened path m.chosen.atom) (replaced_by f_2 flipped s e g_2 m)) ≡ Some v
          → bind_clause next w.conclusion ≡ v.conclusion
      in_target s e None s_is e_is m_is first second = absurd (none_some w first)
      in_target s e (Some m) s_is e_is m_is first second = at_place s e m (opened path m.chosen.atom) s_is e_is m_is refl first second

      with_sides : (s : Picked Literal) (e : Option Sides) → pick source i ≡ Some s → sides s.chosen.atom ≡ e
          → after e (λ e. after (pick target j) (λ m. after (opened path m.chosen.atom) (replaced_by f flipped s e g m))) ≡ Some w
          → after e (λ e. after (pick target j) (λ m. after (opened path m.chosen.atom) (replaced_by f_2 flipped s e g_2 m))) ≡ Some v
          → bind_clause next w.conclusion ≡ v.conclusion
      with_sides s None s_is e_is first second = absurd (none_some w first)
      with_sides s (Some e) s_is e_is first second = in_target s e (pick target j) s_is e_is refl first second

      go : (s : Option (Picked Literal)) → pick source i ≡ s
          → after s (λ s. after (sides s.chosen.atom) (λ e. after (pick target j) (λ m. after (opened path m.chosen.atom) (replaced_by f flipped s e g m)))) ≡ Some w
          → after s (λ s. after (sides s.chosen.atom) (λ e. after (pick target j) (λ m. after (opened path m.chosen.atom) (replaced_by f_2 flipped s e g_2 m)))) ≡ Some v
          → bind_clause next w.conclusion ≡ v.conclusion
      go None s_is first second = absurd (none_some w first)
      go (Some s) s_is first second = with_sides s (sides s.chosen.atom) s_is refl first second

-- ---- steps

resolve_next : (clauses : List Literals) (next f f_2 g g_2 : Filling) (left i right j : ℕ) (c d : Literals)
    → IsNext next f f_2 (clause_at clauses left) → IsNext next g g_2 (clause_at clauses right)
    → after (nth clauses left) (λ l. after (nth clauses right) (λ r. resolved l i f r j g)) ≡ Some c
    → after (nth clauses left) (λ l. after (nth clauses right) (λ r. resolved l i f_2 r j g_2)) ≡ Some d → bind_clause next c ≡ d
resolve_next clauses next f f_2 g g_2 left i right j c d on_left on_right = go (nth clauses left) (nth clauses right) on_left on_right
  where
    go : (o p : Option Literals) → IsNext next f f_2 (list_from o (λ c. c)) → IsNext next g g_2 (list_from p (λ c. c))
        → after o (λ l. after p (λ r. resolved l i f r j g)) ≡ Some c → after o (λ l. after p (λ r. resolved l i f_2 r j g_2)) ≡ Some d → bind_clause next c ≡ d
    go None p h k first second = absurd (none_some c first)
    go (Some l) None h k first second = absurd (none_some c first)
    go (Some l) (Some r) h k first second = resolved_next next f f_2 g g_2 l r i j c d h k first second

factor_next : (clauses : List Literals) (next f f_2 : Filling) (parent i j : ℕ) (c d : Literals) → IsNext next f f_2 (clause_at clauses parent)
    → after (nth clauses parent) (λ p. factored p i j f) ≡ Some c → after (nth clauses parent) (λ p. factored p i j f_2) ≡ Some d → bind_clause next c ≡ d
factor_next clauses next f f_2 parent i j c d on = go (nth clauses parent) on
  where
    go : (o : Option Literals) → IsNext next f f_2 (list_from o (λ c. c)) → after o (λ p. factored p i j f) ≡ Some c
        → after o (λ p. factored p i j f_2) ≡ Some d → bind_clause next c ≡ d
    go None h first second = absurd (none_some c first)
    go (Some p) h first second = factored_next next f f_2 p i j c d h first second

replacement_next : (clauses : List Literals) (next f f_2 g g_2 : Filling) (source i : ℕ) (flipped : Bool) (target j : ℕ) (path : List ℕ) (w v : Replaced)
    → IsNext next f f_2 (clause_at clauses source) → IsNext next g g_2 (clause_at clauses target)
    → after (nth clauses source) (λ s. after (nth clauses target) (λ t. replaced s i flipped f t j path g)) ≡ Some w
    → after (nth clauses source) (λ s. after (nth clauses target) (λ t. replaced s i flipped f_2 t j path g_2)) ≡ Some v
    → bind_clause next w.conclusion ≡ v.conclusion
replacement_next clauses next f f_2 g g_2 source i flipped target j path w v on_source on_target = go (nth clauses source) (nth clauses target) on_source on_target
  where
    go : (o p : Option Literals) → IsNext next f f_2 (list_from o (λ c. c)) → IsNext next g g_2 (list_from p (λ c. c))
        → after o (λ s. after p (λ t. replaced s i flipped f t j path g)) ≡ Some w → after o (λ s. after p (λ t. replaced s i flipped f_2 t j path g_2)) ≡ Some v
        → bind_clause next w.conclusion ≡ v.conclusion
    go None p h k first second = absurd (none_some w first)
    go (Some s) None h k first second = absurd (none_some w first)
    go (Some s) (Some t) h k first second = replaced_next next f f_2 g g_2 s i flipped t j path w v h k first second

conclude_next : (next : Filling) (o p : Option Replaced) (c d : Literals)
    → ((w v : Replaced) → o ≡ Some w → p ≡ Some v → bind_clause next w.conclusion ≡ v.conclusion)
    → after o (λ w. Some w.conclusion) ≡ Some c → after p (λ v. Some v.conclusion) ≡ Some d → bind_clause next c ≡ d
conclude_next next None p c d each first second = absurd (none_some c first)
conclude_next next (Some w) None c d each first second = absurd (none_some d second)
conclude_next next (Some w) (Some v) c d each first second =
    ap (bind_clause next) (sym (some_same w.conclusion c first)) ∙ each w v refl refl ∙ some_same v.conclusion d second

-- what a step concludes before it is tidied is what another one at its site concludes, under the filling that turns the other's substitutions into its own
step_next : (clauses : List Literals) (next : Filling) (first second : Step) → site_of first ≡ site_of second → AreTurned clauses next first second
    → (c d : Literals) → untidy first clauses ≡ Some c → untidy second clauses ≡ Some d → bind_clause next c ≡ d
step_next clauses next (Step.Resolve left i f right j g) (Step.Resolve left_2 i_2 f_2 right_2 j_2 g_2) site turned c d first second =
    let left_same : left_2 ≡ left = cc in
    let i_same : i_2 ≡ i = cc in
    let right_same : right_2 ≡ right = cc in
    let j_same : j_2 ≡ j = cc in
    let there : untidy (Step.Resolve left i f_2 right j g_2) clauses ≡ Some d =
    ap₂ (λ (l r : ℕ). untidy (Step.Resolve l i f_2 r j g_2) clauses) (sym left_same) (sym right_same)
    ∙ ap₂ (λ (n m : ℕ). untidy (Step.Resolve left_2 n f_2 right_2 m g_2) clauses) (sym i_same) (sym j_same) ∙ second in
    resolve_next clauses next (lookup f.pairs) (lookup f_2.pairs) (lookup g.pairs) (lookup g_2.pairs) left i right j c d turned.0 turned.1 first there
step_next clauses next (Step.Factor parent i j f) (Step.Factor parent_2 i_2 j_2 f_2) site turned c d first second =
    let parent_same : parent_2 ≡ parent = cc in
    let i_same : i_2 ≡ i = cc in
    let j_same : j_2 ≡ j = cc in
    let there : untidy (Step.Factor parent i j f_2) clauses ≡ Some d =
    ap (λ (p : ℕ). untidy (Step.Factor p i j f_2) clauses) (sym parent_same)
    ∙ ap₂ (λ (n m : ℕ). untidy (Step.Factor parent_2 n m f_2) clauses) (sym i_same) (sym j_same) ∙ second in
    factor_next clauses next (lookup f.pairs) (lookup f_2.pairs) parent i j c d turned first there
step_next clauses next (Step.Paramodulate source i flipped f target j path g) (Step.Paramodulate source_2 i_2 flipped_2 f_2 target_2 j_2 path_2 g_2) site turned c d first second =
    let source_same : source_2 ≡ source = cc in
    let i_same : i_2 ≡ i = cc in
    let flipped_same : flipped_2 ≡ flipped = cc in
    let target_same : target_2 ≡ target = cc in
    let j_same : j_2 ≡ j = cc in
    let path_same : path_2 ≡ path = cc in
    let there : untidy (Step.Paramodulate source i flipped f_2 target j path g_2) clauses ≡ Some d =
    ap₂ (λ (s t : ℕ). untidy (Step.Paramodulate s i flipped f_2 t j path g_2) clauses) (sym source_same) (sym target_same)
    ∙ ap₂ (λ (n m : ℕ). untidy (Step.Paramodulate source_2 n flipped f_2 target_2 m path g_2) clauses) (sym i_same) (sym j_same)
    ∙ ap₂ (λ (b : Bool) (p : List ℕ). untidy (Step.Paramodulate source_2 i_2 b f_2 target_2 j_2 p g_2) clauses) (sym flipped_same) (sym path_same) ∙ second in
    conclude_next next (replacement (Step.Paramodulate source i flipped f target j path g) clauses)
    (replacement (Step.Paramodulate source i flipped f_2 target j path g_2) clauses) c d
    (λ w v. replacement_next clauses next (lookup f.pairs) (lookup f_2.pairs) (lookup g.pairs) (lookup g_2.pairs)
    source i flipped target j path w v turned.0 turned.1) first there
step_next clauses next _ _ site turned c d first second = absurd turned

-- ---- lists

alike : (clauses : List Literals) (site : Step) (first second : Conclusion) → IsConclusionAt clauses site first → IsConclusionAt clauses site second
    → AreAlike clauses first second
alike clauses site first second a b =
    let there : Generalizes clauses first.step second.step = a.general second.step second.clause b.at b.concludes in
    let back : Generalizes clauses second.step first.step = b.general first.step first.clause a.at a.concludes in
    let one_site : site_of first.step ≡ site_of second.step = a.at ∙ sym b.at in
    let c = through (untidy first.step clauses) (λ c. Some (tidy c)) first.clause a.concludes in
    let d = through (untidy second.step clauses) (λ c. Some (tidy c)) second.clause b.concludes in
    let one_clause : tidy c.at ≡ tidy d.at = tidies_alike c.at d.at there.next back.next
    (step_next clauses there.next first.step second.step one_site there.turned c.at d.at c.is d.is)
    (step_next clauses back.next second.step first.step (sym one_site) back.turned d.at c.at d.is c.is) in
    record {
      clause = sym (some_same (tidy c.at) first.clause c.gives) ∙ one_clause ∙ some_same (tidy d.at) second.clause d.gives;
      steps = record { site = one_site; there = there; back = back };
    }

pub one_list : OneList
one_list clauses [] first second a b =
    subst (λ (xs : List Conclusion). EachTwo (AreAlike clauses) xs second) (sym a) (subst (λ (ys : List Conclusion). EachTwo (AreAlike clauses) [] ys) (sym b) tt)
one_list clauses (site ∷ sites) first second (inl a) (inl b) = one_list clauses sites first second a.1 b.1
one_list clauses (site ∷ sites) first second (inl a) (inr b) =
    absurd (none_some b.first.clause (sym (a.0 b.first.step b.concludes.at) ∙ b.concludes.concludes))
one_list clauses (site ∷ sites) first second (inr a) (inl b) =
    absurd (none_some a.first.clause (sym (b.0 a.first.step a.concludes.at) ∙ a.concludes.concludes))
one_list clauses (site ∷ sites) first second (inr a) (inr b) =
    subst (λ (xs : List Conclusion). EachTwo (AreAlike clauses) xs second) (sym a.is)
    (subst (λ (ys : List Conclusion). EachTwo (AreAlike clauses) (a.first ∷ a.rest) ys) (sym b.is)
    (alike clauses site a.first b.first a.concludes b.concludes, one_list clauses sites a.rest b.rest a.more b.more))
