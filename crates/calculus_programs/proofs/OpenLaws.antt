-- Places and sides of forms as the code reads them.
use Rattle.std.proofs.Common.{◌≡◌, ℕ, zero, suc, ◌+◌, ◌-◌, ◌<◌, ◌≤◌, List, [], ◌∷◌, take, drop, length, get_or, Bool, true, false, Option, Some, None, codes, sym, refl, ap, ap₂, ◌∙◌, arith}
use Rattle.kif_tree.specs.declared.form.Form.{Form, out-Form}
use Rattle.kif_tree.specs.declared.form.Form.TheVariants as form
use Rattle.kif_tree.specs.declared.form.Form.TheOpen.{Form-F}
use Rattle.kif_tree.specs.Terms.{Bytes}
use Rattle.kif_tree.specs.FormLaws.{induction}
use Rattle.kif_tree.specs.declared.clause.Literal.{Literal}
use Rattle.kif_tree.specs.Subst.{Filling}
use Rattle.kif_tree.specs.Clauses.{Literals, heads_layer, is_headed}
use Rattle.calculus.specs.declared.places.Replaced.{Replaced}
use Rattle.calculus.specs.declared.places.Frame.{Frame}
use Rattle.calculus.specs.declared.places.Opened.{Opened}
use Rattle.calculus.specs.declared.places.Sides.{Sides}
use Rattle.calculus.specs.Rules.{after, given, Picked, pick, Argument, argument_of, argument, put_around, opened, sides_of, sides_in, sides, is_variable, replaced_by, replaced}
use Rattle.calculus_programs.specs.Picks.{picked, placed, is_any_variable}
use Rattle.calculus_programs.proofs.PickLaws.{pick-some, pick-none, some_item}
use Rattle.sigma_base.proofs.SliceLaws.{first_item}

-- ---- variables

pub variable-Variable : (text : Bytes) → is_any_variable (form.Variable text) ≡ true
variable-Variable text = ap is_variable (form.outs-Variable text)

pub variable_other : (f : Form) → ((text : Bytes) → f ≡ form.Variable text → ⊥) → is_any_variable f ≡ false
variable_other = induction (λ f. ((text : Bytes) → f ≡ form.Variable text → ⊥) → is_any_variable f ≡ false) (record {
  word = λ text other. ap is_variable (form.outs-Word text);
  variable = λ text other. absurd (other text refl);
  row = λ text other. ap is_variable (form.outs-Row text);
  numeral = λ text other. ap is_variable (form.outs-Numeral text);
  quoted = λ text other. ap is_variable (form.outs-Quoted text);
  list = λ parts each other. ap is_variable (form.outs-List parts);
})

pub ruleset variable_laws = (variable-Variable, variable_other)

-- ---- sides

pub sides_other : (f : Form) → ((parts : List Form) → f ≡ form.List parts → ⊥) → sides f ≡ None
sides_other = induction (λ f. ((parts : List Form) → f ≡ form.List parts → ⊥) → sides f ≡ None) (record {
  word = λ text other. ap sides_in (form.outs-Word text);
  variable = λ text other. ap sides_in (form.outs-Variable text);
  row = λ text other. ap sides_in (form.outs-Row text);
  numeral = λ text other. ap sides_in (form.outs-Numeral text);
  quoted = λ text other. ap sides_in (form.outs-Quoted text);
  list = λ parts each other. absurd (other parts refl);
})

sides-List : (f : Form) (parts : List Form) → f ≡ form.List parts → sides f ≡ sides_of parts
sides-List f parts e = ap sides e ∙ ap sides_in (form.outs-List parts)

count : (parts : List Form) → (length parts ≡ 3 → ⊥) → sides_of parts ≡ None
count [] h = refl
count (a ∷ []) h = refl
count (a ∷ b ∷ []) h = refl
count (a ∷ b ∷ c ∷ []) h = absurd (h refl)
count (a ∷ b ∷ c ∷ d ∷ parts) h = refl

pub sides_count : (f : Form) (parts : List Form) → f ≡ form.List parts → (length parts ≡ 3 → ⊥) → sides f ≡ None
sides_count f parts e h = sides-List f parts e ∙ count parts h

headed : (f : Form) (parts : List Form) (b : Bool) → f ≡ form.List parts → is_headed (codes "equal") f ≡ b → heads_layer (codes "equal") (Form-F.List parts) ≡ b
unfolding is_headed
headed f parts b e h = sym (ap (heads_layer (codes "equal")) (ap out-Form e ∙ form.outs-List parts)) ∙ h

unheaded : (parts : List Form) → heads_layer (codes "equal") (Form-F.List parts) ≡ false → sides_of parts ≡ None
unheaded [] h = refl
unheaded (a ∷ []) h = refl
unheaded (a ∷ b ∷ []) h = refl
unheaded (a ∷ b ∷ c ∷ []) h = ap (λ (t : Bool). given t (Some (record { left = b; right = c }))) h
unheaded (a ∷ b ∷ c ∷ d ∷ parts) h = refl

pub sides_unheaded : (f : Form) (parts : List Form) → f ≡ form.List parts → is_headed (codes "equal") f ≡ false → sides f ≡ None
sides_unheaded f parts e h = sides-List f parts e ∙ unheaded parts (headed f parts false e h)

three : (parts : List Form) (a b : Form) → length parts ≡ 3 → a ≡ get_or parts 1 a → b ≡ get_or parts 2 b → heads_layer (codes "equal") (Form-F.List parts) ≡ true → sides_of parts ≡ Some (record { left = a; right = b })
three [] a b n ea eb h = absurd (omega (arith, n))
three (x ∷ []) a b n ea eb h = absurd (omega (arith, n))
three (x ∷ y ∷ []) a b n ea eb h = absurd (omega (arith, n))
three (x ∷ y ∷ z ∷ []) a b n ea eb h =
    ap (λ (t : Bool). given t (Some (record { left = y; right = z }))) h ∙ ap₂ (λ (l r : Form). let made : Sides = record { left = l; right = r } in Some made) (sym ea) (sym eb)
three (x ∷ y ∷ z ∷ w ∷ parts) a b n ea eb h = absurd (omega (arith, n))

pub sides_some : (f : Form) (parts : List Form) (a b : Form) → f ≡ form.List parts → length parts ≡ 3 → a ≡ get_or parts 1 a → b ≡ get_or parts 2 b → is_headed (codes "equal") f ≡ true
    → sides f ≡ Some (record { left = a; right = b })
sides_some f parts a b e n ea eb h = sides-List f parts e ∙ three parts a b n ea eb (headed f parts true e h)

-- ---- places

pub argument_some : (parts : List Form) (at : ℕ) (head inner : Form) → 0 < at → at < length parts → head ≡ get_or parts 0 head → inner ≡ get_or parts at inner
    → argument_of parts at ≡ Some (record { frame = record { head = head; before = take (at - 1) (drop 1 parts); following = drop (at + 1) parts }; inner = inner })
argument_some [] at head inner some h eh ei = absurd (omega arith)
argument_some (x ∷ parts) zero head inner some h eh ei = absurd (omega arith)
argument_some (x ∷ parts) (suc n) head inner some h eh ei =
    let made : Form → List Form → List Form → Option Argument =
    λ y before following. (let frame : Frame = record { head = y; before = before; following = following } in let argument : Argument = record { frame = frame; inner = inner } in Some argument) in
    let less : n ≡ suc n - 1 = omega arith in
    let more : suc (n + 1) ≡ suc n + 1 = omega arith in
    let there : pick parts n ≡ Some (record { before = take n parts; chosen = inner; following = drop (n + 1) parts }) = pick-some parts n inner (omega arith) ei in
    let first : argument_of (x ∷ parts) (suc n) ≡ made x (take n parts) (drop (n + 1) parts) =
    ap (λ (o : Option (Picked Form)). after o (λ (p : Picked Form). made_of x p)) there in
    first ∙ ap (λ (y : Form). made y (take n parts) (drop (n + 1) parts)) (sym eh) ∙ ap (λ (m : ℕ). made head (take m parts) (drop (n + 1) parts)) less
    ∙ ap (λ (m : ℕ). made head (take (suc n - 1) parts) (drop m (x ∷ parts))) more
  where
    made_of : Form → Picked Form → Option Argument
    made_of y p = Some (record { frame = record { head = y; before = p.before; following = p.following }; inner = p.chosen })

argument_none : (parts : List Form) (at : ℕ) → length parts ≤ at → argument_of parts at ≡ None
argument_none [] at h = refl
argument_none (x ∷ parts) zero h = absurd (omega arith)
argument_none (x ∷ parts) (suc n) h = ap (λ o. after o (λ p. Some (record { frame = record { head = x; before = p.before; following = p.following }; inner = p.chosen }))) (pick-none parts n (omega arith))

argument_zero : (parts : List Form) → argument_of parts 0 ≡ None
argument_zero [] = refl
argument_zero (x ∷ parts) = refl

abbrev continued : List ℕ → Argument → Option Opened
continued path a = after (opened path a.inner) (λ o. Some (put_around a.frame o))

opened-cons : (path rest : List ℕ) (k : ℕ) (f : Form) → path ≡ k ∷ rest → opened path f ≡ after (argument (out-Form f) k) (continued rest)
opened-cons path rest k f e = ap (λ p. opened p f) e

argument_other : (f : Form) → ((parts : List Form) → f ≡ form.List parts → ⊥) → (k : ℕ) → argument (out-Form f) k ≡ None
argument_other = induction (λ f. ((parts : List Form) → f ≡ form.List parts → ⊥) → (k : ℕ) → argument (out-Form f) k ≡ None) (record {
  word = λ text other k. ap (λ (y : Form-F Form). argument y k) (form.outs-Word text);
  variable = λ text other k. ap (λ (y : Form-F Form). argument y k) (form.outs-Variable text);
  row = λ text other k. ap (λ (y : Form-F Form). argument y k) (form.outs-Row text);
  numeral = λ text other k. ap (λ (y : Form-F Form). argument y k) (form.outs-Numeral text);
  quoted = λ text other k. ap (λ (y : Form-F Form). argument y k) (form.outs-Quoted text);
  list = λ parts each other k. absurd (other parts refl);
})

pub opened_end : (path : List ℕ) (f : Form) → path ≡ [] → opened path f ≡ Some (record { frames = []; inner = f })
opened_end path f e = ap (λ p. opened p f) e

pub opened_other : (path rest : List ℕ) (k : ℕ) (f : Form) → path ≡ k ∷ rest → ((parts : List Form) → f ≡ form.List parts → ⊥) → opened path f ≡ None
opened_other path rest k f e other = opened-cons path rest k f e ∙ ap (λ o. after o (continued rest)) (argument_other f other k)

in_list : (f : Form) (parts : List Form) (k : ℕ) → f ≡ form.List parts → argument (out-Form f) k ≡ argument_of parts k
in_list f parts k e = ap (λ (y : Form-F Form). argument y k) (ap out-Form e ∙ form.outs-List parts)

pub opened_zero : (path rest : List ℕ) (k : ℕ) (f : Form) (parts : List Form) → path ≡ k ∷ rest → f ≡ form.List parts → k ≡ 0 → opened path f ≡ None
opened_zero path rest k f parts e is z = opened-cons path rest k f e ∙ ap (λ o. after o (continued rest)) (in_list f parts k is ∙ ap (argument_of parts) z ∙ argument_zero parts)

pub opened_outside : (path rest : List ℕ) (k : ℕ) (f : Form) (parts : List Form) → path ≡ k ∷ rest → f ≡ form.List parts → length parts ≤ k → opened path f ≡ None
opened_outside path rest k f parts e is h = opened-cons path rest k f e ∙ ap (λ o. after o (continued rest)) (in_list f parts k is ∙ argument_none parts k h)

pub opened_inside : (path rest : List ℕ) (k : ℕ) (f : Form) (parts : List Form) (a : Argument) → path ≡ k ∷ rest → f ≡ form.List parts → argument_of parts k ≡ Some a
    → opened path f ≡ after (opened rest a.inner) (λ o. Some (put_around a.frame o))
opened_inside path rest k f parts a e is there = opened-cons path rest k f e ∙ ap (λ o. after o (continued rest)) (in_list f parts k is ∙ there)

pub absent : {A : Type 0} (o : Option A) → ((a : A) → o ≡ Some a → ⊥) → o ≡ None
absent None h = refl
absent (Some a) h = absurd (h a refl)

-- ---- paramodulation

abbrev by_sides : Bool → Filling → Literals → ℕ → List ℕ → Filling → Picked Literal → Option Replaced
by_sides flipped f target j path g s = after (sides s.chosen.atom) (λ e. placed f flipped s e target j path g)

pub replaced_no_source : (source : Literals) (i : ℕ) (flipped : Bool) (f : Filling) (target : Literals) (j : ℕ) (path : List ℕ) (g : Filling) → length source ≤ i → replaced source i flipped f target j path g ≡ None
replaced_no_source source i flipped f target j path g h = ap (λ o. after o (by_sides flipped f target j path g)) (pick-none source i h)

pub replaced_no_sides : (source : Literals) (i : ℕ) (flipped : Bool) (f : Filling) (target : Literals) (j : ℕ) (path : List ℕ) (g : Filling) (s : Literal) → i < length source → s ≡ get_or source i s
    → sides s.atom ≡ None → replaced source i flipped f target j path g ≡ None
replaced_no_sides source i flipped f target j path g s h is none =
    ap (λ o. after o (by_sides flipped f target j path g)) (pick-some source i s h is) ∙ ap (λ o. after o (λ e. placed f flipped (picked source i s) e target j path g)) none

pub replaced_sides : (source : Literals) (i : ℕ) (flipped : Bool) (f : Filling) (target : Literals) (j : ℕ) (path : List ℕ) (g : Filling) (s : Literal) (e : Sides) → i < length source → s ≡ get_or source i s
    → sides s.atom ≡ Some e → replaced source i flipped f target j path g ≡ placed f flipped (picked source i s) e target j path g
replaced_sides source i flipped f target j path g s e h is some =
    ap (λ o. after o (by_sides flipped f target j path g)) (pick-some source i s h is) ∙ ap (λ o. after o (λ e. placed f flipped (picked source i s) e target j path g)) some

pub placed_no_target : (f : Filling) (flipped : Bool) (s : Picked Literal) (e : Sides) (target : Literals) (j : ℕ) (path : List ℕ) (g : Filling) → length target ≤ j → placed f flipped s e target j path g ≡ None
placed_no_target f flipped s e target j path g h = ap (λ o. after o (λ m. after (opened path m.chosen.atom) (replaced_by f flipped s e g m))) (pick-none target j h)

pub placed_no_place : (f : Filling) (flipped : Bool) (s : Picked Literal) (e : Sides) (target : Literals) (j : ℕ) (path : List ℕ) (g : Filling) (m : Literal) → j < length target → m ≡ get_or target j m
    → opened path m.atom ≡ None → placed f flipped s e target j path g ≡ None
placed_no_place f flipped s e target j path g m h is none =
    ap (λ o. after o (λ m. after (opened path m.chosen.atom) (replaced_by f flipped s e g m))) (pick-some target j m h is) ∙ ap (λ o. after o (replaced_by f flipped s e g (picked target j m))) none

pub placed_at : (f : Filling) (flipped : Bool) (s : Picked Literal) (e : Sides) (target : Literals) (j : ℕ) (path : List ℕ) (g : Filling) (m : Literal) (o : Opened) → j < length target → m ≡ get_or target j m
    → opened path m.atom ≡ Some o → placed f flipped s e target j path g ≡ replaced_by f flipped s e g (picked target j m) o
placed_at f flipped s e target j path g m o h is some =
    ap (λ o. after o (λ m. after (opened path m.chosen.atom) (replaced_by f flipped s e g m))) (pick-some target j m h is) ∙ ap (λ o. after o (replaced_by f flipped s e g (picked target j m))) some

-- ---- after `[place, rest @ ..]`

first_default : (xs : List ℕ) → 1 ≤ length xs → get_or xs 0 0 ≡ get_or xs 0 (get_or xs 0 0)
first_default [] h = refl
first_default (x ∷ xs) h = refl

pub first_number : (xs : List ℕ) → 1 ≤ length xs → xs ≡ get_or xs 0 0 ∷ take (length xs - 1) (drop 1 xs)
first_number xs h = first_item xs (get_or xs 0 0) h (first_default xs h)

pub opened_no_inside : (path rest : List ℕ) (k : ℕ) (f : Form) (parts : List Form) (inner : Form) → path ≡ k ∷ rest → f ≡ form.List parts → 0 < k → k < length parts → inner ≡ get_or parts k inner
    → opened rest inner ≡ None → opened path f ≡ None
opened_no_inside path rest k f parts inner e is some h at none =
    let head = some_item parts 0 (omega arith) in
    opened_inside path rest k f parts (record { frame = record { head = head.0; before = take (k - 1) (drop 1 parts); following = drop (k + 1) parts }; inner = inner }) e is
    (argument_some parts k head.0 inner some h head.1 at)
    ∙ ap (λ o. after o (λ p. Some (put_around (record { head = head.0; before = take (k - 1) (drop 1 parts); following = drop (k + 1) parts }) p))) none

pub opened_some : (path rest : List ℕ) (k : ℕ) (f : Form) (parts : List Form) (frame : Frame) (inner : Form) (inside : Opened) → path ≡ k ∷ rest → f ≡ form.List parts
    → argument_of parts k ≡ Some (record { frame = frame; inner = inner }) → opened rest inner ≡ Some inside → opened path f ≡ Some (put_around frame inside)
opened_some path rest k f parts frame inner inside e is there some =
    opened_inside path rest k f parts (record { frame = frame; inner = inner }) e is there ∙ ap (λ o. after o (λ p. Some (put_around frame p))) some
