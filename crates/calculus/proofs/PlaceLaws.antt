-- Picked items, opened forms and the sides of equalities put together again.
use Rattle.std.proofs.Common.{◌≡◌, ℕ, zero, suc, List, [], ◌∷◌, ◌++◌, map, take, Bool, true, false, Option, Some, None, codes, refl, sym, ap, ◌∙◌, ◌<◌, arith}
use Rattle.std.proofs.lemmas.Slice.Eq.{bytes_eq-Decides}
use Rattle.kif_tree.specs.declared.form.Form.{Form, out-Form, roll-Form, roll-out-Form}
use Rattle.kif_tree.specs.declared.form.Form.TheVariants as form
use Rattle.kif_tree.specs.declared.form.Form.TheOpen.{Form-F}
use Rattle.kif_tree.specs.Terms.{Bytes}
use Rattle.kif_tree.specs.Subst.{Filling, bind}
use Rattle.kif_tree.specs.Clauses.{is_word}
use Rattle.calculus.specs.declared.places.Frame.{Frame}
use Rattle.calculus.specs.declared.places.Opened.{Opened}
use Rattle.calculus.specs.declared.places.Sides.{Sides}
use Rattle.calculus.specs.Rules.{after, given, nth, Picked, put_first, pick, framed, bind_frame, plugged, Argument, argument_of, argument, put_around, opened, sides_of, sides_in, sides}
use Rattle.calculus.specs.Equality.{equal}
use Rattle.kif_tree.proofs.SubstLaws.{bind-List, bind-Word}

-- ---- what is there

pub none_some : {X : Type 0} (x : X) → None ≡ Some x → ⊥
none_some x e = cc

pub some_same : {X : Type 0} (x y : X) → Some x ≡ Some y → x ≡ y
some_same x y e = cc

pub record Through {A B : Type 0} (o : Option A) (f : A → Option B) (b : B) : Type 0 where
  pub at : A
  pub is : o ≡ Some at
  pub gives : f at ≡ Some b

pub through : {A B : Type 0} (o : Option A) (f : A → Option B) (b : B) → after o f ≡ Some b → Through o f b
through None f b e = absurd (none_some b e)
through (Some a) f b e = record { at = a; is = refl; gives = e }

pub allowed : {B : Type 0} (t : Bool) (o : Option B) (b : B) → given t o ≡ Some b → (t ≡ true) × (o ≡ Some b)
allowed true o b e = (refl, e)
allowed false o b e = absurd (none_some b e)

pub nth_take : {X : Type 0} (n : ℕ) (xs : List X) (p : ℕ) (x : X) → nth (take n xs) p ≡ Some x → (nth xs p ≡ Some x) × (p < n)
nth_take zero xs p x e = absurd (none_some x e)
nth_take (suc n) [] p x e = absurd (none_some x e)
nth_take (suc n) (y ∷ xs) zero x e = (e, omega arith)
nth_take (suc n) (y ∷ xs) (suc p) x e = let rest = nth_take n xs p x e in (rest.0, (let below = rest.1 in omega (arith, below)))

-- ---- places

pub picked : {X : Type 0} (xs : List X) (n : ℕ) (p : Picked X) → pick xs n ≡ Some p → xs ≡ p.before ++ p.chosen ∷ p.following
picked [] n p e = absurd (none_some p e)
picked {X = X} (x ∷ xs) zero p e = ap (λ (q : Picked X). q.before ++ q.chosen ∷ q.following) (some_same _ p e)
picked {X = X} (x ∷ xs) (suc n) p e =
    let t = through (pick xs n) (λ q. Some (put_first x q)) p e in
    ap (λ ys. x ∷ ys) (picked xs n t.at t.is) ∙ ap (λ (q : Picked X). q.before ++ q.chosen ∷ q.following) (some_same (put_first x t.at) p t.gives)

rolled : (f : Form) (layer : Form-F Form) → out-Form f ≡ layer → f ≡ roll-Form layer
rolled f layer e = sym (roll-out-Form f) ∙ ap roll-Form e

argument-of : (parts : List Form) (k : ℕ) (a : Argument) → argument_of parts k ≡ Some a → form.List parts ≡ framed a.frame a.inner
argument-of [] k a e = absurd (none_some a e)
argument-of (head ∷ args) zero a e = absurd (none_some a e)
argument-of (head ∷ args) (suc n) a e =
    let t = through (pick args n) (λ p. Some (record { frame = record { head = head; before = p.before; following = p.following }; inner = p.chosen })) a e in
    ap (λ ys. form.List (head ∷ ys)) (picked args n t.at t.is) ∙ ap (λ (b : Argument). framed b.frame b.inner) (some_same _ a t.gives)

argument-in : (layer : Form-F Form) (k : ℕ) (a : Argument) → argument layer k ≡ Some a → roll-Form layer ≡ framed a.frame a.inner
argument-in (Form-F.List parts) k a e = form.rolls-List parts ∙ argument-of parts k a e
argument-in (Form-F.Word text) k a e = absurd (none_some a e)
argument-in (Form-F.Variable text) k a e = absurd (none_some a e)
argument-in (Form-F.Row text) k a e = absurd (none_some a e)
argument-in (Form-F.Numeral text) k a e = absurd (none_some a e)
argument-in (Form-F.Quoted text) k a e = absurd (none_some a e)

pub opened-whole : (path : List ℕ) (f : Form) (o : Opened) → opened path f ≡ Some o → f ≡ plugged o.frames o.inner
opened-whole [] f o e = ap (λ (p : Opened). plugged p.frames p.inner) (some_same _ o e)
opened-whole (k ∷ path) f o e =
    let t = through (argument (out-Form f) k) (λ a. after (opened path a.inner) (λ p. Some (put_around a.frame p))) o e in
    let u = through (opened path t.at.inner) (λ p. Some (put_around t.at.frame p)) o t.gives in
    sym (roll-out-Form f) ∙ argument-in (out-Form f) k t.at t.is ∙ ap (framed t.at.frame) (opened-whole path t.at.inner u.at u.is)
    ∙ ap (λ (p : Opened). plugged p.frames p.inner) (some_same _ o u.gives)

map-append : {X Y : Type 0} (f : X → Y) (xs ys : List X) → map f (xs ++ ys) ≡ map f xs ++ map f ys
map-append f [] ys = refl
map-append f (x ∷ xs) ys = ap (λ zs. f x ∷ zs) (map-append f xs ys)

bind-framed : (g : Filling) (frame : Frame) (f : Form) → bind g (framed frame f) ≡ framed (bind_frame g frame) (bind g f)
bind-framed g frame f =
    bind-List g (frame.head ∷ (frame.before ++ f ∷ frame.following))
    ∙ ap (λ ys. form.List (bind g frame.head ∷ ys)) (map-append (bind g) frame.before (f ∷ frame.following))

pub bind-plugged : (g : Filling) (frames : List Frame) (f : Form) → bind g (plugged frames f) ≡ plugged (map (bind_frame g) frames) (bind g f)
bind-plugged g [] f = refl
bind-plugged g (frame ∷ frames) f = bind-framed g frame (plugged frames f) ∙ ap (framed (bind_frame g frame)) (bind-plugged g frames f)

-- ---- equalities

word_in : (name : Bytes) (layer : Form-F Form) → is_word name layer ≡ true → layer ≡ Form-F.Word name
word_in name (Form-F.Word text) h = ap Form-F.Word (sym ((bytes_eq-Decides name text).0 h))
word_in name (Form-F.Variable text) h = absurd (let k : false ≡ true = h in cc)
word_in name (Form-F.Row text) h = absurd (let k : false ≡ true = h in cc)
word_in name (Form-F.Numeral text) h = absurd (let k : false ≡ true = h in cc)
word_in name (Form-F.Quoted text) h = absurd (let k : false ≡ true = h in cc)
word_in name (Form-F.List parts) h = absurd (let k : false ≡ true = h in cc)

pub word_is : (name : Bytes) (f : Form) → is_word name (out-Form f) ≡ true → f ≡ form.Word name
word_is name f h = rolled f (Form-F.Word name) (word_in name (out-Form f) h) ∙ form.rolls-Word name

sides-of : (parts : List Form) (e : Sides) → sides_of parts ≡ Some e → form.List parts ≡ equal e.left e.right
sides-of (head ∷ a ∷ b ∷ []) e h =
    let t = allowed (is_word (codes "equal") (out-Form head)) (Some (record { left = a; right = b })) e h in
    ap (λ x. form.List (x ∷ a ∷ b ∷ [])) (word_is (codes "equal") head t.0) ∙ ap (λ (s : Sides). equal s.left s.right) (some_same _ e t.1)
sides-of _ e h = absurd (none_some e h)

sides-in : (layer : Form-F Form) (e : Sides) → sides_in layer ≡ Some e → roll-Form layer ≡ equal e.left e.right
sides-in (Form-F.List parts) e h = form.rolls-List parts ∙ sides-of parts e h
sides-in (Form-F.Word text) e h = absurd (none_some e h)
sides-in (Form-F.Variable text) e h = absurd (none_some e h)
sides-in (Form-F.Row text) e h = absurd (none_some e h)
sides-in (Form-F.Numeral text) e h = absurd (none_some e h)
sides-in (Form-F.Quoted text) e h = absurd (none_some e h)

pub sides-whole : (f : Form) (e : Sides) → sides f ≡ Some e → f ≡ equal e.left e.right
sides-whole f e h = sym (roll-out-Form f) ∙ sides-in (out-Form f) e h

pub bind-equal : (g : Filling) (a b : Form) → bind g (equal a b) ≡ equal (bind g a) (bind g b)
bind-equal g a b = bind-List g (form.Word (codes "equal") ∷ a ∷ b ∷ []) ∙ ap (λ x. form.List (x ∷ bind g a ∷ bind g b ∷ [])) (bind-Word g (codes "equal"))
