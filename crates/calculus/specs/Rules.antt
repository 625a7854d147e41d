-- The rules of derivations: what a step concludes from earlier clauses.
use Rattle.std.specs.Prelude.{◌≡◌, ℕ, zero, suc, List, [], ◌∷◌, ◌++◌, map, take, length, Bool, true, false, not, ◌&&◌, if◌then◌else◌, codes, Option, Some, None}
use Rattle.kif_tree.specs.declared.form.Form.{Form, out-Form}
use Rattle.kif_tree.specs.declared.form.Form.TheVariants as form
use Rattle.kif_tree.specs.declared.form.Form.TheOpen.{Form-F}
use Rattle.kif_tree.specs.declared.clause.Literal.{Literal}
use Rattle.kif_tree.specs.Terms.{same}
use Rattle.kif_tree.specs.Subst.{lookup, Filling, bind}
use Rattle.calculus.specs.declared.places.Frame.{Frame}
use Rattle.calculus.specs.declared.places.Opened.{Opened}
use Rattle.calculus.specs.declared.places.Sides.{Sides}
use Rattle.calculus.specs.declared.places.Replaced.{Replaced}
use Rattle.calculus.specs.declared.step.Step.{Step}
use Rattle.kif_tree.specs.Clauses.{Literals, bind_clause, is_word, is_answer, same_sign}
use Rattle.calculus.specs.Tidy.{tidy}

-- ---- what may not be there

-- what follows from something that may not be there
abbrev pub after : {A B : Type 0} → Option A → (A → Option B) → Option B
after None f = None
after (Some a) f = f a

-- only where the test is passed
abbrev pub given : {B : Type 0} → Bool → Option B → Option B
given true o = o
given false o = None

-- the item of that number, counted from 0
abbrev pub nth : {X : Type 0} → List X → ℕ → Option X
nth [] n = None
nth (x ∷ xs) zero = Some x
nth (x ∷ xs) (suc n) = nth xs n

-- an item of a list, between those before it and those after it
pub record Picked (X : Type 0) : Type 0 where
  pub before : List X
  pub chosen : X
  pub following : List X

abbrev pub put_first : {X : Type 0} → X → Picked X → Picked X
put_first x p = record { before = x ∷ p.before; chosen = p.chosen; following = p.following }

-- the item of that number, apart from the others
abbrev pub pick : {X : Type 0} → List X → ℕ → Option (Picked X)
pick [] n = None
pick (x ∷ xs) zero = Some (record { before = []; chosen = x; following = xs })
pick (x ∷ xs) (suc n) = after (pick xs n) (λ p. Some (put_first x p))

abbrev pub others : {X : Type 0} → Picked X → List X
others p = p.before ++ p.following

-- ---- places in forms

-- the list with the argument
abbrev pub framed : Frame → Form → Form
framed frame f = form.List (frame.head ∷ (frame.before ++ f ∷ frame.following))

-- the list with its forms under the filling
abbrev pub bind_frame : Filling → Frame → Frame
bind_frame g frame = record { head = bind g frame.head; before = map (bind g) frame.before; following = map (bind g) frame.following }

-- the form inside lists, the outermost first
abbrev pub plugged : List Frame → Form → Form
plugged [] f = f
plugged (frame ∷ frames) f = framed frame (plugged frames f)

pub record Argument : Type 0 where
  pub frame : Frame
  pub inner : Form

abbrev pub argument_of : List Form → ℕ → Option Argument
argument_of [] k = None
argument_of (head ∷ args) zero = None
argument_of (head ∷ args) (suc n) =
    after (pick args n) (λ p. Some (record { frame = record { head = head; before = p.before; following = p.following }; inner = p.chosen }))

-- an argument place of a form, counted from 1
abbrev pub argument : Form-F Form → ℕ → Option Argument
argument (Form-F.Word text) k = None
argument (Form-F.Variable text) k = None
argument (Form-F.Row text) k = None
argument (Form-F.Numeral text) k = None
argument (Form-F.Quoted text) k = None
argument (Form-F.List parts) k = argument_of parts k

abbrev pub put_around : Frame → Opened → Opened
put_around frame o = record { frames = frame ∷ o.frames; inner = o.inner }

-- the form at a path of argument places, and the lists that it stands in
abbrev pub opened : List ℕ → Form → Option Opened
opened [] f = Some (record { frames = []; inner = f })
opened (k ∷ path) f = after (argument (out-Form f) k) (λ a. after (opened path a.inner) (λ o. Some (put_around a.frame o)))

abbrev pub is_empty : {X : Type 0} → List X → Bool
is_empty [] = true
is_empty (x ∷ xs) = false

abbrev pub is_variable : Form-F Form → Bool
is_variable (Form-F.Word text) = false
is_variable (Form-F.Variable text) = true
is_variable (Form-F.Row text) = false
is_variable (Form-F.Numeral text) = false
is_variable (Form-F.Quoted text) = false
is_variable (Form-F.List parts) = false

-- ---- equalities

abbrev pub sides_of : List Form → Option Sides
sides_of (head ∷ a ∷ b ∷ []) = given (is_word (codes "equal") (out-Form head)) (Some (record { left = a; right = b }))
sides_of _ = None

abbrev pub sides_in : Form-F Form → Option Sides
sides_in (Form-F.Word text) = None
sides_in (Form-F.Variable text) = None
sides_in (Form-F.Row text) = None
sides_in (Form-F.Numeral text) = None
sides_in (Form-F.Quoted text) = None
sides_in (Form-F.List parts) = sides_of parts

-- the sides of (equal s t)
abbrev pub sides : Form → Option Sides
sides f = sides_in (out-Form f)

-- ---- the three rules, before the conclusion is tidied

-- a positive literal of the left clause and a negative one of the right, neither an answer literal, whose atoms become equal
abbrev pub resolves : Filling → Filling → Literal → Literal → Bool
resolves f g l r = l.positive && (not r.positive && (not (is_answer l.atom) && (not (is_answer r.atom) && same (bind f l.atom) (bind g r.atom))))

-- the left clause's other literals, then the right's
abbrev pub resolved : Literals → ℕ → Filling → Literals → ℕ → Filling → Option Literals
resolved left i f right j g = after (pick left i) (λ l. after (pick right j) (λ r.
    given (resolves f g l.chosen r.chosen) (Some (bind_clause f (others l) ++ bind_clause g (others r)))))

-- two literals of one sign, neither an answer literal, that become equal
abbrev pub merges : Filling → Literal → Literal → Bool
merges f k d = same_sign k.positive d.positive && (not (is_answer k.atom) && (not (is_answer d.atom) && same (bind f k.atom) (bind f d.atom)))

-- literal i stands before literal j, and j is dropped
abbrev pub factored : Literals → ℕ → ℕ → Filling → Option Literals
factored clause i j f = after (pick clause j) (λ d. after (pick d.before i) (λ k.
    given (merges f k.chosen d.chosen) (Some (bind_clause f (others d)))))

-- the side that is replaced
abbrev pub from_side : Bool → Sides → Form
from_side flipped e = if flipped then e.right else e.left

-- the side that comes in its place
abbrev pub to_side : Bool → Sides → Form
to_side flipped e = if flipped then e.left else e.right

-- a positive equality, a literal that is no answer literal, and a place inside its atom, no variable, that becomes equal to the replaced side
abbrev pub replaces : Filling → Bool → Sides → Filling → Literal → Literal → Opened → Bool
replaces f flipped e g source target o =
    source.positive && (not (is_answer target.atom) && (not (is_empty o.frames) && (not (is_variable (out-Form o.inner)) && same (bind g o.inner) (bind f (from_side flipped e)))))

-- the target's literal with the other side at that place
abbrev pub changed : Filling → Form → Filling → Literal → Opened → Literal
changed f to g target o = record { positive = target.positive; atom = plugged (map (bind_frame g) o.frames) (bind f to) }

-- the source's other literals, then the target's with the one that is changed in its place
abbrev pub replacement_by : Filling → Bool → Picked Literal → Sides → Filling → Picked Literal → Opened → Replaced
replacement_by f flipped s e g m o = record {
  conclusion = bind_clause f (others s) ++ (bind_clause g m.before ++ changed f (to_side flipped e) g m.chosen o ∷ bind_clause g m.following);
  left = bind f e.left;
  right = bind f e.right;
  frames = map (bind_frame g) o.frames;
}

abbrev pub replaced_by : Filling → Bool → Picked Literal → Sides → Filling → Picked Literal → Opened → Option Replaced
replaced_by f flipped s e g m o = given (replaces f flipped e g s.chosen m.chosen o) (Some (replacement_by f flipped s e g m o))

abbrev pub replaced : Literals → ℕ → Bool → Filling → Literals → ℕ → List ℕ → Filling → Option Replaced
replaced source i flipped f target j path g =
    after (pick source i) (λ s. after (sides s.chosen.atom) (λ e. after (pick target j) (λ m. after (opened path m.chosen.atom) (replaced_by f flipped s e g m))))

-- ---- steps

-- what a paramodulation replaces
abbrev pub replacement : Step → List Literals → Option Replaced
replacement (Step.Paramodulate source i flipped f target j path g) clauses =
    after (nth clauses source) (λ s. after (nth clauses target) (λ t. replaced s i flipped (lookup f.pairs) t j path (lookup g.pairs)))
replacement _ clauses = None

-- the conclusion before it is tidied
abbrev pub untidy : Step → List Literals → Option Literals
untidy (Step.Input i) clauses = None
untidy (Step.Resolve left i f right j g) clauses =
    after (nth clauses left) (λ l. after (nth clauses right) (λ r. resolved l i (lookup f.pairs) r j (lookup g.pairs)))
untidy (Step.Factor parent i j f) clauses = after (nth clauses parent) (λ p. factored p i j (lookup f.pairs))
untidy (Step.Paramodulate source i flipped f target j path g) clauses =
    after (replacement (Step.Paramodulate source i flipped f target j path g) clauses) (λ w. Some w.conclusion)

-- the clause that a step concludes, where its rule allows it
abbrev pub concluded : Step → List Literals → Option Literals
concluded step clauses = after (untidy step clauses) (λ c. Some (tidy c))

abbrev pub Concludes : Step → List Literals → Literals → Type 0
Concludes step clauses c = concluded step clauses ≡ Some c

-- the clause of a step after those clauses
abbrev pub clause_of : List Literals → Step → List Literals → Option Literals
clause_of inputs (Step.Input i) clauses = nth inputs i
clause_of inputs (Step.Resolve left i f right j g) clauses = concluded (Step.Resolve left i f right j g) clauses
clause_of inputs (Step.Factor parent i j f) clauses = concluded (Step.Factor parent i j f) clauses
clause_of inputs (Step.Paramodulate source i flipped f target j path g) clauses = concluded (Step.Paramodulate source i flipped f target j path g) clauses

-- the clauses are those of the steps, each from earlier ones
pub record Derivation (inputs : List Literals) (steps : List Step) (clauses : List Literals) : Type 0 where
  pub same_length : length clauses ≡ length steps
  pub each : (n : ℕ) → nth clauses n ≡ after (nth steps n) (λ step. clause_of inputs step (take n clauses))
