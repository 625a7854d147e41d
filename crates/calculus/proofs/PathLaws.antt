-- Instances of congruence along a path give the atom before and after a replacement one truth.
use Rattle.std.proofs.Common.{◌≡◌, List, [], ◌∷◌, ◌++◌, Bool, true, false, not, ◌||◌, ◌&&◌, refl, sym, ap₂}
use Rattle.std.specs.List.{list_all}
use Rattle.kif_tree.specs.declared.form.Form.{Form}
use Rattle.calculus.specs.Truth.{is_true, satisfies}
use Rattle.calculus.specs.declared.places.Frame.{Frame}
use Rattle.calculus.specs.Rules.{framed, plugged, is_empty}
use Rattle.calculus.specs.Equality.{equal, symmetry, congruence, replacing, inside, congruences}
use Rattle.calculus.proofs.TruthLaws.{both, false_true}

pub all_parted : {X : Type 0} (p : X → Bool) (xs ys : List X) → list_all p (xs ++ ys) ≡ true → (list_all p xs ≡ true) × (list_all p ys ≡ true)
all_parted p [] ys h = (refl, h)
all_parted p (x ∷ xs) ys h =
    let here = both (p x) (list_all p (xs ++ ys)) h in
    let rest = all_parted p xs ys here.1 in
    (ap₂ ◌&&◌ here.0 rest.0, rest.1)

follows : (a b : Bool) → (not a || (b || false)) ≡ true → a ≡ true → b ≡ true
follows true true h e = refl
follows true false h e = h
follows false b h e = absurd (false_true e)

moves : (a b c : Bool) → (not a || (not b || (c || false))) ≡ true → a ≡ true → b ≡ true → c ≡ true
moves true true c h e k = follows true c h refl
moves true false c h e k = absurd (false_true k)
moves false b c h e k = absurd (false_true e)

pub record Equated (atoms : List Form) (a b : Form) : Type 0 where
  pub there : is_true atoms (equal a b) ≡ true
  pub back : is_true atoms (equal b a) ≡ true

pub turned : (atoms : List Form) (a b : Form) → Equated atoms a b → Equated atoms b a
turned atoms a b e = record { there = e.back; back = e.there }

pub symmetric : (atoms : List Form) (a b : Form) → satisfies atoms (symmetry a b) ≡ true → is_true atoms (equal a b) ≡ true → Equated atoms a b
symmetric atoms a b h e = record { there = e; back = follows (is_true atoms (equal a b)) (is_true atoms (equal b a)) h e }

-- the two instances at one list
lifted : (atoms : List Form) (frame : Frame) (a b : Form) → list_all (satisfies atoms) (congruence frame a b ∷ congruence frame b a ∷ []) ≡ true
    → Equated atoms a b → Equated atoms (framed frame a) (framed frame b)
lifted atoms frame a b h e =
    let first = both (satisfies atoms (congruence frame a b)) (list_all (satisfies atoms) (congruence frame b a ∷ [])) h in
    let second = both (satisfies atoms (congruence frame b a)) true first.1 in
    record {
      there = follows (is_true atoms (equal a b)) (is_true atoms (equal (framed frame a) (framed frame b))) first.0 e.there;
      back = follows (is_true atoms (equal b a)) (is_true atoms (equal (framed frame b) (framed frame a))) second.0 e.back;
    }

-- equal parts make equal forms
pub within : (atoms : List Form) (frames : List Frame) (a b : Form) → list_all (satisfies atoms) (inside frames a b) ≡ true
    → Equated atoms a b → Equated atoms (plugged frames a) (plugged frames b)
within atoms [] a b h e = e
within atoms (frame ∷ frames) a b h e =
    let parts = all_parted (satisfies atoms) (inside frames a b) (congruence frame (plugged frames a) (plugged frames b) ∷ congruence frame (plugged frames b) (plugged frames a) ∷ []) h in
    lifted atoms frame (plugged frames a) (plugged frames b) parts.1 (within atoms frames a b parts.0 e)

pub alike : (a b : Bool) → (a ≡ true → b ≡ true) → (b ≡ true → a ≡ true) → a ≡ b
alike true true f g = refl
alike true false f g = sym (f refl)
alike false true f g = g refl
alike false false f g = refl

-- the atom before and after the replacement has one truth
pub replaced-truth : (atoms : List Form) (frames : List Frame) (a b : Form) → is_empty frames ≡ false → list_all (satisfies atoms) (congruences frames a b) ≡ true
    → Equated atoms a b → is_true atoms (plugged frames a) ≡ is_true atoms (plugged frames b)
replaced-truth atoms [] a b some h e = absurd (false_true (sym some))
replaced-truth atoms (frame ∷ frames) a b some h e =
    let x = plugged frames a in
    let y = plugged frames b in
    let parts = all_parted (satisfies atoms) (inside frames a b) (replacing frame x y ∷ replacing frame y x ∷ []) h in
    let first = both (satisfies atoms (replacing frame x y)) (list_all (satisfies atoms) (replacing frame y x ∷ [])) parts.1 in
    let second = both (satisfies atoms (replacing frame y x)) true first.1 in
    let equated = within atoms frames a b parts.0 e in
    alike (is_true atoms (framed frame x)) (is_true atoms (framed frame y))
    (λ k. moves (is_true atoms (equal x y)) (is_true atoms (framed frame x)) (is_true atoms (framed frame y)) first.0 equated.there k)
    (λ k. moves (is_true atoms (equal y x)) (is_true atoms (framed frame y)) (is_true atoms (framed frame x)) second.0 equated.back k)
