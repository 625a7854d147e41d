-- Ground instances of equality, in each shape.
use Rattle.std.specs.Prelude.{◌≡◌, List, [], ◌∷◌, ◌++◌, true, false, codes, ◌⊎◌}
use Rattle.kif_tree.specs.declared.form.Form.{Form}
use Rattle.kif_tree.specs.declared.form.Form.TheVariants as form
use Rattle.kif_tree.specs.declared.clause.Literal.{Literal}
use Rattle.kif_tree.specs.Clauses.{Literals}
use Rattle.calculus.specs.declared.places.Frame.{Frame}
use Rattle.calculus.specs.Rules.{framed, plugged}
use Rattle.calculus.specs.Closed.{ground_clause}

abbrev pub yes : Form → Literal
yes atom = record { positive = true; atom = atom }

abbrev pub no : Form → Literal
no atom = record { positive = false; atom = atom }

-- (equal a b)
abbrev pub equal : Form → Form → Form
equal a b = form.List (form.Word (codes "equal") ∷ a ∷ b ∷ [])

abbrev pub reflexivity : Form → Literals
reflexivity a = yes (equal a a) ∷ []

abbrev pub symmetry : Form → Form → Literals
symmetry a b = no (equal a b) ∷ yes (equal b a) ∷ []

abbrev pub transitivity : Form → Form → Form → Literals
transitivity a b c = no (equal a b) ∷ no (equal b c) ∷ yes (equal a c) ∷ []

-- equal arguments make equal lists
abbrev pub congruence : Frame → Form → Form → Literals
congruence frame a b = no (equal a b) ∷ yes (equal (framed frame a) (framed frame b)) ∷ []

-- equal arguments make atoms of one truth
abbrev pub replacing : Frame → Form → Form → Literals
replacing frame a b = no (equal a b) ∷ no (framed frame a) ∷ yes (framed frame b) ∷ []

pub record IsReflexive (clause : Literals) : Type 0 where
  pub a : Form
  pub is : clause ≡ reflexivity a

pub record IsSymmetric (clause : Literals) : Type 0 where
  pub a : Form
  pub b : Form
  pub is : clause ≡ symmetry a b

pub record IsTransitive (clause : Literals) : Type 0 where
  pub a : Form
  pub b : Form
  pub c : Form
  pub is : clause ≡ transitivity a b c

pub record IsCongruent (clause : Literals) : Type 0 where
  pub frame : Frame
  pub a : Form
  pub b : Form
  pub is : clause ≡ congruence frame a b

pub record IsReplacing (clause : Literals) : Type 0 where
  pub frame : Frame
  pub a : Form
  pub b : Form
  pub is : clause ≡ replacing frame a b

pub record IsEqualityInstance (clause : Literals) : Type 0 where
  pub is_closed : ground_clause clause ≡ true
  pub shape : IsReflexive clause ⊎ (IsSymmetric clause ⊎ (IsTransitive clause ⊎ (IsCongruent clause ⊎ IsReplacing clause)))

-- both directions at each list inside the atom, from the replaced place outwards
abbrev pub inside : List Frame → Form → Form → List Literals
inside [] a b = []
inside (frame ∷ frames) a b =
    inside frames a b ++ congruence frame (plugged frames a) (plugged frames b) ∷ congruence frame (plugged frames b) (plugged frames a) ∷ []

-- and at the atom itself
abbrev pub congruences : List Frame → Form → Form → List Literals
congruences [] a b = []
congruences (frame ∷ frames) a b =
    inside frames a b ++ replacing frame (plugged frames a) (plugged frames b) ∷ replacing frame (plugged frames b) (plugged frames a) ∷ []
