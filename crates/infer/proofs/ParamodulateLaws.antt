-- What paramodulation concludes at one site.
use Rattle.std.proofs.Common.{◌≡◌, ℕ, zero, suc, ◌<◌, List, [], ◌∷◌, ◌++◌, map, length, get_or, Bool, true, false, not, ◌&&◌, ◌||◌, Option, Some, refl, sym, ap, ap₂, ◌∙◌, subst, codes, arith}
use Rattle.std.specs.List.{list_any}
use Rattle.std.specs.Str.{bytes_eq}
use Rattle.std.proofs.lemmas.Slice.Eq.{bytes_eq-Decides}
use Rattle.sigma_base.specs.Lists.{Each, each_map, each_left, each_right}
use Rattle.kif_tree.specs.declared.form.Form.{Form, out-Form}
use Rattle.kif_tree.specs.declared.form.Form.TheVariants as form
use Rattle.kif_tree.specs.declared.clause.Literal.{Literal}
use Rattle.kif_tree.specs.declared.subst.Subst.{Subst}
use Rattle.kif_tree.specs.Terms.{Bytes, same, variables, joined}
use Rattle.kif_tree.specs.SameLaws.{same-Decides}
use Rattle.kif_tree.specs.Subst.{Filling, bind, lookup}
use Rattle.kif_tree.specs.Clauses.{Literals, clause_variables, is_answer}
use Rattle.kif_tree.proofs.TermLaws.{variables-List}
use Rattle.calculus.specs.declared.places.Frame.{Frame}
use Rattle.calculus.specs.declared.places.Opened.{Opened}
use Rattle.calculus.specs.declared.places.Replaced.{Replaced}
use Rattle.calculus.specs.declared.step.Step.{Step}
use Rattle.calculus.specs.Tidy.{tidy}
use Rattle.calculus.specs.Equality.{equal}
use Rattle.calculus.specs.Rules.{after, given, nth, argument, put_around, opened, is_empty, plugged, from_side, changed, replaces, replacement_by, replaced, concluded, Concludes}
use Rattle.calculus.specs.Evidence.{list_from}
use Rattle.calculus.proofs.PlaceLaws.{through, none_some, some_same, allowed, opened-whole, sides-whole}
use Rattle.calculus.proofs.TruthLaws.{both}
use Rattle.calculus_programs.specs.Picks.{picked, exchanged, is_any_variable}
use Rattle.calculus_programs.proofs.OpenLaws.{replaced_sides, placed_at, variable-Variable, variable_other}
use Rattle.unify.specs.Unifiers.{HasNoneApart}
use Rattle.infer.specs.declared.apart.Apart.{Apart}
use Rattle.infer.specs.Fillings.{IsOf, Meet}
use Rattle.infer.specs.Inside.{IsEquation, LeadsTo}
use Rattle.infer.specs.Sites.{site_of, unset}
use Rattle.infer.specs.Conclusions.{clause_at, IsTurned, Generalizes, IsConclusionAt, GivesNothing}

-- ---- numbers of items

pub nth_index : {X : Type 0} (xs : List X) (n : ℕ) (x : X) → nth xs n ≡ Some x → (n < length xs) × (x ≡ get_or xs n x)
nth_index [] n x e = absurd (none_some x e)
nth_index (y ∷ xs) zero x e = (omega arith, sym (some_same y x e))
nth_index (y ∷ xs) (suc n) x e = let rest = nth_index xs n x e in ((let below = rest.0 in omega (arith, below)), rest.1)

-- a path that isn't empty leads into some list
pub frames_some : (path : List ℕ) (f : Form) (place : Opened) → 0 < length path → opened path f ≡ Some place → is_empty place.frames ≡ false
frames_some [] f place some e = absurd (omega arith)
frames_some (k ∷ path) f place some e =
    let t = through (argument (out-Form f) k) (λ a. after (opened path a.inner) (λ o. Some (put_around a.frame o))) place e in
    let u = through (opened path t.at.inner) (λ o. Some (put_around t.at.frame o)) place t.gives in
    ap (λ (o : Opened). is_empty o.frames) (sym (some_same (put_around t.at.frame u.at) place u.gives))

-- ---- the step of a site

abbrev pub site : ℕ → ℕ → Bool → ℕ → ℕ → List ℕ → Step
site source i flipped target j path = Step.Paramodulate source i flipped unset target j path unset

pub record StandsAt (source i : ℕ) (flipped : Bool) (target j : ℕ) (path : List ℕ) (step : Step) : Type 0 where
  pub first : Subst
  pub second : Subst
  pub is : step ≡ Step.Paramodulate source i flipped first target j path second

pub stands_at : (source i : ℕ) (flipped : Bool) (target j : ℕ) (path : List ℕ) (step : Step) → site_of step ≡ site source i flipped target j path
    → StandsAt source i flipped target j path step
stands_at source i flipped target j path (Step.Input k) e = absurd (cc)
stands_at source i flipped target j path (Step.Resolve l k f r m g) e = absurd (cc)
stands_at source i flipped target j path (Step.Factor p k m f) e = absurd (cc)
stands_at source i flipped target j path (Step.Paramodulate s k turned f t m way g) e = record { first = f; second = g; is = cc }

-- ---- what is concluded there

-- the rule's test, and then the conclusion made tidy
passed : (test : Bool) (w : Replaced)
    → after (after (given test (Some w)) (λ v. Some v.conclusion)) (λ c. Some (tidy c)) ≡ given test (Some (tidy w.conclusion))
passed true w = refl
passed false w = refl

tests : (positive answer empty variable alike : Bool) → positive ≡ true → answer ≡ false → empty ≡ false
    → (positive && (not answer && (not empty && (not variable && alike)))) ≡ (not variable && alike)
tests positive answer empty variable alike p a e = ap₂ (λ (x y : Bool). x && (not y && (not empty && (not variable && alike)))) p a
    ∙ ap (λ (z : Bool). not z && (not variable && alike)) e

-- the place becomes equal to the side that is replaced
abbrev pub fits : Filling → Form → Filling → Form → Bool
fits f from g inner = not (is_any_variable inner) && same (bind g inner) (bind f from)

module _ (clauses : List Literals) (source : Literals) (source_number i : ℕ) (flipped : Bool) (from to : Form) (target : Literals) (target_number j : ℕ)
    (path : List ℕ) (inner : Form)
    (source_at : nth clauses source_number ≡ Some source) (target_at : nth clauses target_number ≡ Some target)
    (equation : IsEquation source i flipped from to) (leads : LeadsTo target j path inner)
    (inside : 0 < length path) (asserts : (literal : Literal) → nth target j ≡ Some literal → is_answer literal.atom ≡ false) where
  abbrev pub made_by : Filling → Filling → Literals
  made_by f g = exchanged source i f target j g (changed f to g leads.literal leads.place)

  -- what a step at that site concludes
  concluded-is : (f g : Subst) → concluded (Step.Paramodulate source_number i flipped f target_number j path g) clauses
      ≡ given (fits (lookup f.pairs) from (lookup g.pairs) inner) (Some (tidy (made_by (lookup f.pairs) (lookup g.pairs))))
  concluded-is f g =
      let F = lookup f.pairs in
      let G = lookup g.pairs in
      let s = equation.literal in
      let e = equation.equality in
      let m = leads.literal in
      let o = leads.place in
      let s_at = nth_index source i s equation.at in
      let m_at = nth_index target j m leads.at in
      let w = replacement_by F flipped (picked source i s) e G (picked target j m) o in
      let ends : Option Replaced → Option Literals = λ (r : Option Replaced). after (after r (λ v. Some v.conclusion)) (λ c. Some (tidy c)) in
      let alike : same (bind G o.inner) (bind F (from_side flipped e)) ≡ same (bind G inner) (bind F from) =
      ap₂ (λ (x y : Form). same (bind G x) (bind F y)) leads.is (sym equation.from_is) in
      let test : replaces F flipped e G s m o ≡ fits F from G inner =
      tests s.positive (is_answer m.atom) (is_empty o.frames) (is_any_variable o.inner)
      (same (bind G o.inner) (bind F (from_side flipped e))) equation.positive (asserts m leads.at) (frames_some path m.atom o inside leads.opens)
      ∙ ap₂ (λ (x y : Bool). not x && y) (ap is_any_variable leads.is) alike in
      ap₂ (λ (a b : Option Literals). ends (after a (λ x. after b (λ y. replaced x i flipped F y j path G)))) source_at target_at
      ∙ ap ends (replaced_sides source i flipped F target j path G s e s_at.0 s_at.1 equation.equal
      ∙ placed_at F flipped (picked source i s) e target j path G m o m_at.0 m_at.1 leads.opens)
      ∙ passed (replaces F flipped e G s m o) w
      ∙ ap₂ (λ (t : Bool) (x : Form). given t (Some (tidy (exchanged source i F target j G (changed F x G m o))))) test (sym equation.to_is)

  nothing : ((f g : Filling) → fits f from g inner ≡ false) → GivesNothing clauses (site source_number i flipped target_number j path)
  nothing none step e =
      let at = stands_at source_number i flipped target_number j path step e in
      ap (λ (t : Step). concluded t clauses) at.is ∙ concluded-is at.first at.second
      ∙ ap (λ (t : Bool). given t (Some (tidy (made_by (lookup at.first.pairs) (lookup at.second.pairs)))))
      (none (lookup at.first.pairs) (lookup at.second.pairs))

  pub nothing_at_variable : (text : Bytes) → inner ≡ form.Variable text → GivesNothing clauses (site source_number i flipped target_number j path)
  nothing_at_variable text is =
      nothing (λ f g. ap (λ (v : Bool). not v && same (bind g inner) (bind f from)) (ap is_any_variable is ∙ variable-Variable text))

  pub nothing_apart : HasNoneApart from inner → GivesNothing clauses (site source_number i flipped target_number j path)
  nothing_apart none =
      nothing (λ f g. go (not (is_any_variable inner)) (same (bind g inner) (bind f from))
      (λ h. none f g (sym ((same-Decides (bind g inner) (bind f from)).0 h))))
    where
      go : (a b : Bool) → (b ≡ true → ⊥) → (a && b) ≡ false
      go false b h = refl
      go true false h = refl
      go true true h = absurd (h refl)

  -- the conclusion under most general substitutions
  module _ (other : (text : Bytes) → inner ≡ form.Variable text → ⊥) (apart : Apart) (meet : Meet source from target inner apart) where
    abbrev step : Step
    step = Step.Paramodulate source_number i flipped apart.left target_number j path apart.right

    fits_there : fits (lookup apart.left.pairs) from (lookup apart.right.pairs) inner ≡ true
    fits_there =
        ap₂ (λ (v b : Bool). not v && b) (variable_other inner other)
        ((same-Decides (bind (lookup apart.right.pairs) inner) (bind (lookup apart.left.pairs) from)).1 (sym meet.equal))

    concludes : Concludes step clauses (tidy (made_by (lookup apart.left.pairs) (lookup apart.right.pairs)))
    concludes = concluded-is apart.left apart.right
        ∙ ap (λ (t : Bool). given t (Some (tidy (made_by (lookup apart.left.pairs) (lookup apart.right.pairs))))) fits_there

    here : (n : ℕ) (clause : Literals) → nth clauses n ≡ Some clause → clause ≡ clause_at clauses n
    here n clause e = sym (ap (λ (o : Option Literals). list_from o (λ c. c)) e)

    turned : (next : Filling) (n : ℕ) (clause : Literals) (first second : Subst) → nth clauses n ≡ Some clause
        → Each (λ name. lookup second.pairs name ≡ bind next (lookup first.pairs name)) (clause_variables clause)
        → IsTurned next (clause_at clauses n) first second
    turned next n clause first second e each = subst (λ (c : Literals). IsTurned next c first second) (here n clause e) each

    general : (next_step : Step) (clause : Literals) → site_of next_step ≡ site source_number i flipped target_number j path
        → Concludes next_step clauses clause → Generalizes clauses step next_step
    general next_step clause e gives =
        let at = stands_at source_number i flipped target_number j path next_step e in
        let F = lookup at.first.pairs in
        let G = lookup at.second.pairs in
        let test = allowed (fits F from G inner) (Some (tidy (made_by F G))) clause
        (sym (ap (λ (t : Step). concluded t clauses) at.is ∙ concluded-is at.first at.second) ∙ gives) in
        let alike = both (not (is_any_variable inner)) (same (bind G inner) (bind F from)) test.0 in
        let by = meet.general F G (sym ((same-Decides (bind G inner) (bind F from)).0 alike.1)) in
        subst (λ (t : Step). Generalizes clauses step t) (sym at.is) (record {
          next = by.next;
          turned = (
            turned by.next source_number source apart.left at.first source_at by.left,
            turned by.next target_number target apart.right at.second target_at by.right,
          );
        })

    pub conclusion_at : (clause : Literals) (way : List ℕ) → clause ≡ tidy (made_by (lookup apart.left.pairs) (lookup apart.right.pairs)) → way ≡ path
        → IsConclusionAt clauses (site source_number i flipped target_number j path)
        (record { clause = clause; step = Step.Paramodulate source_number i flipped apart.left target_number j way apart.right })
    conclusion_at clause way is same_way =
        subst (λ (way : List ℕ). IsConclusionAt clauses (site source_number i flipped target_number j path)
        (record { clause = clause; step = Step.Paramodulate source_number i flipped apart.left target_number j way apart.right })) (sym same_way)
        (record { at = refl; concludes = concludes ∙ ap Some (sym is); general = general })

-- ---- variables

abbrev Stands : List Bytes → Bytes → Type 0
Stands names name = list_any (bytes_eq name) names ≡ true

or_right : (a b : Bool) → b ≡ true → (a || b) ≡ true
or_right true b h = refl
or_right false b h = h

own : (names : List Bytes) → Each (Stands names) names
own [] = tt
own (name ∷ names) = (
  ap (λ (b : Bool). b || list_any (bytes_eq name) names) ((bytes_eq-Decides name name).1 refl),
  each_map (Stands names) (Stands (name ∷ names)) (λ other h. or_right (bytes_eq other name) (list_any (bytes_eq other) names) h) names (own names),
)

-- what holds of the variables of a clause holds of those of its literals, and so of the parts of their atoms
of_literal : (P : Bytes → Type 0) (clause : Literals) (n : ℕ) (literal : Literal) → nth clause n ≡ Some literal → Each P (clause_variables clause)
    → Each P (variables literal.atom)
of_literal P [] n literal e each = absurd (none_some literal e)
of_literal P (l ∷ clause) zero literal e each =
    subst (λ (m : Literal). Each P (variables m.atom)) (some_same l literal e) (each_left P (variables l.atom) (clause_variables clause) each)
of_literal P (l ∷ clause) (suc n) literal e each = of_literal P clause n literal e (each_right P (variables l.atom) (clause_variables clause) each)

of_atom : (clause : Literals) (n : ℕ) (literal : Literal) → nth clause n ≡ Some literal → IsOf clause literal.atom
of_atom clause n literal e = of_literal (Stands (clause_variables clause)) clause n literal e (own (clause_variables clause))

of_part : (P : Bytes → Type 0) (before : List Form) (f : Form) (following : List Form) → Each P (joined (map variables (before ++ f ∷ following)))
    → Each P (variables f)
of_part P [] f following each = each_left P (variables f) (joined (map variables following)) each
of_part P (x ∷ before) f following each = of_part P before f following (each_right P (variables x) (joined (map variables (before ++ f ∷ following))) each)

of_list : (P : Bytes → Type 0) (before : List Form) (f : Form) (following : List Form) → Each P (variables (form.List (before ++ f ∷ following)))
    → Each P (variables f)
of_list P before f following each = of_part P before f following (subst (Each P) (variables-List (before ++ f ∷ following)) each)

of_plugged : (P : Bytes → Type 0) (frames : List Frame) (f : Form) → Each P (variables (plugged frames f)) → Each P (variables f)
of_plugged P [] f each = each
of_plugged P (frame ∷ frames) f each = of_plugged P frames f (of_list P (frame.head ∷ frame.before) (plugged frames f) frame.following each)

-- the variables of a place are variables of the clause
pub inner_of : (clause : Literals) (n : ℕ) (path : List ℕ) (inner : Form) → LeadsTo clause n path inner → IsOf clause inner
inner_of clause n path inner leads =
    let P = Stands (clause_variables clause) in
    subst (λ (f : Form). Each P (variables f)) leads.is
    (of_plugged P leads.place.frames leads.place.inner
    (subst (λ (f : Form). Each P (variables f)) (opened-whole path leads.literal.atom leads.place leads.opens) (of_atom clause n leads.literal leads.at)))

-- and so are those of a side of an equality literal
pub from_of : (clause : Literals) (n : ℕ) (flipped : Bool) (from to : Form) → IsEquation clause n flipped from to → IsOf clause from
from_of clause n flipped from to equation =
    let P = Stands (clause_variables clause) in
    let e = equation.equality in
    let whole =
    subst (λ (f : Form). Each P (variables f)) (sides-whole equation.literal.atom e equation.equal) (of_atom clause n equation.literal equation.at) in
    subst (λ (f : Form). Each P (variables f)) (sym equation.from_is) (go flipped whole)
  where
    go : (b : Bool) → Each (Stands (clause_variables clause)) (variables (equal equation.equality.left equation.equality.right))
        → Each (Stands (clause_variables clause)) (variables (from_side b equation.equality))
    go false each = of_list (Stands (clause_variables clause)) (form.Word (codes "equal") ∷ []) equation.equality.left (equation.equality.right ∷ []) each
    go true each = of_list (Stands (clause_variables clause)) (form.Word (codes "equal") ∷ equation.equality.left ∷ []) equation.equality.right [] each
