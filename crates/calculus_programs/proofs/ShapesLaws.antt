-- The tests of the shapes of instances of equality decide them.
use Rattle.std.proofs.Common.{◌≡◌, List, [], ◌∷◌, ◌++◌, Bool, true, false, not, ◌&&◌, ◌||◌, ◌↔◌, Option, Some, None, codes, refl, sym, ap, ap₂, ◌∙◌, inl, inr, ◌⊎◌}
use Rattle.std.specs.Bool.{IsTrue}
use Rattle.kif_tree.specs.declared.form.Form.{Form, out-Form, roll-Form, roll-out-Form}
use Rattle.kif_tree.specs.declared.form.Form.TheVariants as form
use Rattle.kif_tree.specs.declared.form.Form.TheOpen.{Form-F}
use Rattle.kif_tree.specs.declared.clause.Literal.{Literal}
use Rattle.kif_tree.specs.Terms.{same}
use Rattle.kif_tree.specs.SameLaws.{same-Decides}
use Rattle.kif_tree.specs.FormLaws.{induction}
use Rattle.kif_tree.specs.Clauses.{Literals, is_word, same_sign}
use Rattle.calculus.specs.declared.places.Frame.{Frame}
use Rattle.calculus.specs.declared.places.Sides.{Sides}
use Rattle.calculus.specs.Rules.{given, framed, sides, sides_in}
use Rattle.calculus.specs.Closed.{ground_clause}
use Rattle.calculus.specs.Equality.{yes, no, equal, IsReflexive, IsSymmetric, IsTransitive, IsCongruent, IsReplacing, IsEqualityInstance}
use Rattle.calculus.proofs.TruthLaws.{both, false_true, negated, signs}
use Rattle.calculus.proofs.PlaceLaws.{allowed, sides-whole}
use Rattle.calculus.proofs.MemberLaws.{later}
use Rattle.calculus_programs.specs.Shapes.{told, all_same, swaps, parts_swap, parts_in, parts_of, swapped, signed_sides, reflexive_test, symmetric_test, pair_test, transitive_test, chain_test, replacing_test, triple_test, shape_test}

pub parts-List : (parts : List Form) → parts_of (form.List parts) ≡ parts
parts-List parts = ap parts_in (form.outs-List parts)

pub parts_other : (f : Form) → ((parts : List Form) → f ≡ form.List parts → ⊥) → parts_of f ≡ []
parts_other = induction (λ f. ((parts : List Form) → f ≡ form.List parts → ⊥) → parts_of f ≡ []) (record {
  word = λ text other. ap parts_in (form.outs-Word text);
  variable = λ text other. ap parts_in (form.outs-Variable text);
  row = λ text other. ap parts_in (form.outs-Row text);
  numeral = λ text other. ap parts_in (form.outs-Numeral text);
  quoted = λ text other. ap parts_in (form.outs-Quoted text);
  list = λ parts each other. absurd (other parts refl);
})

pub ruleset parts_laws = (parts-List, parts_other)

eq : (f g : Form) → same f g ≡ true → f ≡ g
eq f g = (same-Decides f g).0

itself : (f : Form) → same f f ≡ true
itself f = (same-Decides f f).1 refl

equals : (f g : Form) → f ≡ g → same f g ≡ true
equals f g = (same-Decides f g).1

split : (a b : Bool) → (a || b) ≡ true → (a ≡ true) ⊎ (b ≡ true)
split true b h = inl refl
split false b h = inr h

first : (a b : Bool) → a ≡ true → (a || b) ≡ true
first true b h = refl
first false b h = absurd (false_true h)

-- ---- lists that differ at one place

all_same-sound : (xs ys : List Form) → all_same xs ys ≡ true → xs ≡ ys
all_same-sound [] [] h = refl
all_same-sound [] (y ∷ ys) h = absurd (false_true h)
all_same-sound (x ∷ xs) [] h = absurd (false_true h)
all_same-sound (x ∷ xs) (y ∷ ys) h = let hs = both (same x y) (all_same xs ys) h in ap₂ ◌∷◌ (eq x y hs.0) (all_same-sound xs ys hs.1)

all_same-itself : (xs : List Form) → all_same xs xs ≡ true
all_same-itself [] = refl
all_same-itself (x ∷ xs) = ap₂ ◌&&◌ (itself x) (all_same-itself xs)

record Swaps (a b : Form) (xs ys : List Form) : Type 0 where
  pub before : List Form
  pub following : List Form
  pub first_is : xs ≡ before ++ a ∷ following
  pub second_is : ys ≡ before ++ b ∷ following

swaps-sound : (a b : Form) (xs ys : List Form) → swaps a b xs ys ≡ true → Swaps a b xs ys
swaps-sound a b [] ys h = absurd (false_true h)
swaps-sound a b (x ∷ xs) [] h = absurd (false_true h)
swaps-sound a b (x ∷ xs) (y ∷ ys) h = go (split ((same x a && same y b) && all_same xs ys) (same x y && swaps a b xs ys) h) (swaps-sound a b xs ys)
  where
    go : (((same x a && same y b) && all_same xs ys) ≡ true) ⊎ ((same x y && swaps a b xs ys) ≡ true) → (swaps a b xs ys ≡ true → Swaps a b xs ys) → Swaps a b (x ∷ xs) (y ∷ ys)
    go (inl k) rest =
        let outer = both (same x a && same y b) (all_same xs ys) k in
        let inner = both (same x a) (same y b) outer.0 in
        record {
          before = [];
          following = xs;
          first_is = ap (λ z. z ∷ xs) (eq x a inner.0);
          second_is = ap₂ ◌∷◌ (eq y b inner.1) (sym (all_same-sound xs ys outer.1));
        }
    go (inr k) rest =
        let hs = both (same x y) (swaps a b xs ys) k in
        let there = rest hs.1 in
        record {
          before = x ∷ there.before;
          following = there.following;
          first_is = ap (λ zs. x ∷ zs) there.first_is;
          second_is = ap₂ ◌∷◌ (sym (eq x y hs.0)) there.second_is;
        }

swaps-there : (a b : Form) (before following : List Form) → swaps a b (before ++ a ∷ following) (before ++ b ∷ following) ≡ true
swaps-there a b [] following = first _ _ (ap₂ ◌&&◌ (ap₂ ◌&&◌ (itself a) (itself b)) (all_same-itself following))
swaps-there a b (x ∷ before) following =
    later ((same x a && same x b) && all_same (before ++ a ∷ following) (before ++ b ∷ following)) (same x x && swaps a b (before ++ a ∷ following) (before ++ b ∷ following))
    (ap₂ ◌&&◌ (itself x) (swaps-there a b before following))

record Swapped (a b f g : Form) : Type 0 where
  pub frame : Frame
  pub first_is : f ≡ framed frame a
  pub second_is : g ≡ framed frame b

layer_of : (layer : Form-F Form) (head : Form) (parts : List Form) → parts_in layer ≡ head ∷ parts → roll-Form layer ≡ form.List (head ∷ parts)
layer_of (Form-F.List ps) head parts e = form.rolls-List ps ∙ ap form.List e
layer_of (Form-F.Word text) head parts e = absurd (cc)
layer_of (Form-F.Variable text) head parts e = absurd (cc)
layer_of (Form-F.Row text) head parts e = absurd (cc)
layer_of (Form-F.Numeral text) head parts e = absurd (cc)
layer_of (Form-F.Quoted text) head parts e = absurd (cc)

list_of : (f : Form) (head : Form) (parts : List Form) → parts_of f ≡ head ∷ parts → f ≡ form.List (head ∷ parts)
list_of f head parts e = sym (roll-out-Form f) ∙ layer_of (out-Form f) head parts e

swapped-parts : (a b f g : Form) (ps qs : List Form) → parts_of f ≡ ps → parts_of g ≡ qs → parts_swap a b ps qs ≡ true → Swapped a b f g
swapped-parts a b f g [] qs ef eg h = absurd (false_true h)
swapped-parts a b f g (head ∷ xs) [] ef eg h = absurd (false_true h)
swapped-parts a b f g (head ∷ xs) (other ∷ ys) ef eg h =
    let hs = both (same head other) (swaps a b xs ys) h in
    let there = swaps-sound a b xs ys hs.1 in
    record {
      frame = record { head = head; before = there.before; following = there.following };
      first_is = list_of f head xs ef ∙ ap (λ zs. form.List (head ∷ zs)) there.first_is;
      second_is = list_of g other ys eg ∙ ap₂ (λ (z : Form) (zs : List Form). form.List (z ∷ zs)) (sym (eq head other hs.0)) there.second_is;
    }

swapped-sound : (a b f g : Form) → swapped a b f g ≡ true → Swapped a b f g
swapped-sound a b f g h = swapped-parts a b f g (parts_of f) (parts_of g) refl refl h

swapped-there : (a b : Form) (frame : Frame) → swapped a b (framed frame a) (framed frame b) ≡ true
swapped-there a b frame =
    ap₂ (parts_swap a b) (parts-List (frame.head ∷ (frame.before ++ a ∷ frame.following))) (parts-List (frame.head ∷ (frame.before ++ b ∷ frame.following)))
    ∙ ap₂ ◌&&◌ (itself frame.head) (swaps-there a b frame.before frame.following)

-- ---- sides

record Told {A : Type 0} (o : Option A) (test : A → Bool) : Type 0 where
  pub at : A
  pub is : o ≡ Some at
  pub passes : test at ≡ true

told-sound : {A : Type 0} (o : Option A) (test : A → Bool) → told o test ≡ true → Told o test
told-sound None test h = absurd (false_true h)
told-sound (Some a) test h = record { at = a; is = refl; passes = h }

told-there : {A : Type 0} (o : Option A) (test : A → Bool) (a : A) → o ≡ Some a → test a ≡ true → told o test ≡ true
told-there o test a e h = ap (λ p. told p test) e ∙ h

signed : (positive : Bool) (l : Literal) (e : Sides) → signed_sides positive l ≡ Some e → l ≡ (let made : Literal = record { positive = positive; atom = equal e.left e.right } in made)
signed positive l e h =
    let hs = allowed (same_sign positive l.positive) (sides l.atom) e h in
    ap₂ (λ (p : Bool) (a : Form). let made : Literal = record { positive = p; atom = a } in made) (sym (signs positive l.positive hs.0)) (sides-whole l.atom e hs.1)

sides-equal : (a b : Form) → sides (equal a b) ≡ Some (record { left = a; right = b })
sides-equal a b =
    ap sides_in (form.outs-List (form.Word (codes "equal") ∷ a ∷ b ∷ []))
    ∙ ap (λ (y : Form-F Form). given (is_word (codes "equal") y) (Some (record { left = a; right = b }))) (form.outs-Word (codes "equal"))

yes-sides : (a b : Form) → signed_sides true (yes (equal a b)) ≡ Some (record { left = a; right = b })
yes-sides a b = sides-equal a b

no-sides : (a b : Form) → signed_sides false (no (equal a b)) ≡ Some (record { left = a; right = b })
no-sides a b = sides-equal a b

-- ---- shapes are found

abbrev Shape : Literals → Type 0
Shape c = IsReflexive c ⊎ (IsSymmetric c ⊎ (IsTransitive c ⊎ (IsCongruent c ⊎ IsReplacing c)))

one-sound : (l : Literal) → reflexive_test l ≡ true → Shape (l ∷ [])
one-sound l h =
    let t = told-sound (signed_sides true l) (λ e. same e.left e.right) h in
    inl (record { a = t.at.left; is = ap (λ (m : Literal). m ∷ []) (signed true l t.at t.is ∙ ap (λ b. yes (equal t.at.left b)) (sym (eq t.at.left t.at.right t.passes))) })

two : (l m k n : Literal) → l ≡ k → m ≡ n → l ∷ m ∷ [] ≡ k ∷ n ∷ []
two l m k n e h = ap₂ (λ (x y : Literal). x ∷ y ∷ []) e h

two-sound : (l m : Literal) → pair_test l m ≡ true → Shape (l ∷ m ∷ [])
two-sound l m h = go (split (symmetric_test t.at d.at) (swapped t.at.left t.at.right d.at.left d.at.right) d.passes)
  where
    t : Told (signed_sides false l) (λ e. told (signed_sides true m) (λ d. symmetric_test e d || swapped e.left e.right d.left d.right))
    t = told-sound (signed_sides false l) (λ e. told (signed_sides true m) (λ d. symmetric_test e d || swapped e.left e.right d.left d.right)) h

    d : Told (signed_sides true m) (λ d. symmetric_test t.at d || swapped t.at.left t.at.right d.left d.right)
    d = told-sound (signed_sides true m) (λ d. symmetric_test t.at d || swapped t.at.left t.at.right d.left d.right) t.passes

    go : (symmetric_test t.at d.at ≡ true) ⊎ (swapped t.at.left t.at.right d.at.left d.at.right ≡ true) → Shape (l ∷ m ∷ [])
    go (inl k) =
        let hs = both (same d.at.left t.at.right) (same d.at.right t.at.left) k in
        inr (inl (record {
          a = t.at.left;
          b = t.at.right;
          is = two l m (no (equal t.at.left t.at.right)) (yes (equal t.at.right t.at.left)) (signed false l t.at t.is)
              (signed true m d.at d.is ∙ ap₂ (λ (x y : Form). yes (equal x y)) (eq d.at.left t.at.right hs.0) (eq d.at.right t.at.left hs.1));
        }))
    go (inr k) =
        let s = swapped-sound t.at.left t.at.right d.at.left d.at.right k in
        inr (inr (inr (inl (record {
          frame = s.frame;
          a = t.at.left;
          b = t.at.right;
          is = two l m (no (equal t.at.left t.at.right)) (yes (equal (framed s.frame t.at.left) (framed s.frame t.at.right))) (signed false l t.at t.is)
              (signed true m d.at d.is ∙ ap₂ (λ (x y : Form). yes (equal x y)) s.first_is s.second_is);
        }))))

three : (l m n i j k : Literal) → l ≡ i → m ≡ j → n ≡ k → l ∷ m ∷ n ∷ [] ≡ i ∷ j ∷ k ∷ []
three l m n i j k e h g = ap₂ ◌∷◌ e (two m n j k h g)

chain-sound : (l m n : Literal) (e : Sides) → signed_sides false l ≡ Some e → chain_test e m n ≡ true → Shape (l ∷ m ∷ n ∷ [])
chain-sound l m n e l_is h =
    let d = told-sound (signed_sides false m) (λ d. told (signed_sides true n) (transitive_test e d)) h in
    let c = told-sound (signed_sides true n) (transitive_test e d.at) d.passes in
    let hs = both (same d.at.left e.right) (same c.at.left e.left && same c.at.right d.at.right) c.passes in
    let ks = both (same c.at.left e.left) (same c.at.right d.at.right) hs.1 in
    inr (inr (inl (record {
      a = e.left;
      b = e.right;
      c = d.at.right;
      is = three l m n (no (equal e.left e.right)) (no (equal e.right d.at.right)) (yes (equal e.left d.at.right)) (signed false l e l_is)
          (signed false m d.at d.is ∙ ap (λ x. no (equal x d.at.right)) (eq d.at.left e.right hs.0))
          (signed true n c.at c.is ∙ ap₂ (λ (x y : Form). yes (equal x y)) (eq c.at.left e.left ks.0) (eq c.at.right d.at.right ks.1));
    })))

literal_is : (l : Literal) (p : Bool) (a : Form) → l.positive ≡ p → l.atom ≡ a → l ≡ (let made : Literal = record { positive = p; atom = a } in made)
literal_is l p a e h = ap₂ (λ (q : Bool) (x : Form). let made : Literal = record { positive = q; atom = x } in made) e h

replacing-sound : (l m n : Literal) (e : Sides) → signed_sides false l ≡ Some e → replacing_test e m n ≡ true → Shape (l ∷ m ∷ n ∷ [])
replacing-sound l m n e l_is h =
    let hs = both (not m.positive) (n.positive && swapped e.left e.right m.atom n.atom) h in
    let ks = both n.positive (swapped e.left e.right m.atom n.atom) hs.1 in
    let s = swapped-sound e.left e.right m.atom n.atom ks.1 in
    inr (inr (inr (inr (record {
      frame = s.frame;
      a = e.left;
      b = e.right;
      is = three l m n (no (equal e.left e.right)) (no (framed s.frame e.left)) (yes (framed s.frame e.right)) (signed false l e l_is)
          (literal_is m false (framed s.frame e.left) (negated m.positive hs.0) s.first_is) (literal_is n true (framed s.frame e.right) ks.0 s.second_is);
    }))))

three-sound : (l m n : Literal) → triple_test l m n ≡ true → Shape (l ∷ m ∷ n ∷ [])
three-sound l m n h = go (split (chain_test t.at m n) (replacing_test t.at m n) t.passes)
  where
    t : Told (signed_sides false l) (λ e. chain_test e m n || replacing_test e m n)
    t = told-sound (signed_sides false l) (λ e. chain_test e m n || replacing_test e m n) h

    go : (chain_test t.at m n ≡ true) ⊎ (replacing_test t.at m n ≡ true) → Shape (l ∷ m ∷ n ∷ [])
    go (inl k) = chain-sound l m n t.at t.is k
    go (inr k) = replacing-sound l m n t.at t.is k

shape-sound : (c : Literals) → shape_test c ≡ true → Shape c
shape-sound [] h = absurd (false_true h)
shape-sound (l ∷ []) h = one-sound l h
shape-sound (l ∷ m ∷ []) h = two-sound l m h
shape-sound (l ∷ m ∷ n ∷ []) h = three-sound l m n h
shape-sound (l ∷ m ∷ n ∷ k ∷ more) h = absurd (false_true h)

-- ---- each shape passes

shape-there : (c : Literals) → Shape c → shape_test c ≡ true
shape-there c (inl s) = ap shape_test s.is ∙ told-there (signed_sides true (yes (equal s.a s.a))) (λ e. same e.left e.right) (record { left = s.a; right = s.a }) (yes-sides s.a s.a) (itself s.a)
shape-there c (inr (inl s)) =
    ap shape_test s.is
    ∙ told-there (signed_sides false (no (equal s.a s.b))) (λ e. told (signed_sides true (yes (equal s.b s.a))) (λ d. symmetric_test e d || swapped e.left e.right d.left d.right)) (record { left = s.a; right = s.b }) (no-sides s.a s.b)
    (told-there (signed_sides true (yes (equal s.b s.a))) (λ d. symmetric_test (record { left = s.a; right = s.b }) d || swapped s.a s.b d.left d.right) (record { left = s.b; right = s.a }) (yes-sides s.b s.a)
    (first (same s.b s.b && same s.a s.a) (swapped s.a s.b s.b s.a) (ap₂ ◌&&◌ (itself s.b) (itself s.a))))
shape-there c (inr (inr (inl s))) =
    ap shape_test s.is
    ∙ told-there (signed_sides false (no (equal s.a s.b))) (λ e. chain_test e (no (equal s.b s.c)) (yes (equal s.a s.c)) || replacing_test e (no (equal s.b s.c)) (yes (equal s.a s.c))) (record { left = s.a; right = s.b }) (no-sides s.a s.b)
    (first (chain_test (record { left = s.a; right = s.b }) (no (equal s.b s.c)) (yes (equal s.a s.c))) (replacing_test (record { left = s.a; right = s.b }) (no (equal s.b s.c)) (yes (equal s.a s.c)))
    (told-there (signed_sides false (no (equal s.b s.c))) (λ d. told (signed_sides true (yes (equal s.a s.c))) (transitive_test (record { left = s.a; right = s.b }) d)) (record { left = s.b; right = s.c }) (no-sides s.b s.c)
    (told-there (signed_sides true (yes (equal s.a s.c))) (transitive_test (record { left = s.a; right = s.b }) (record { left = s.b; right = s.c })) (record { left = s.a; right = s.c }) (yes-sides s.a s.c)
    (ap₂ ◌&&◌ (itself s.b) (ap₂ ◌&&◌ (itself s.a) (itself s.c))))))
shape-there c (inr (inr (inr (inl s)))) =
    let x = framed s.frame s.a in
    let y = framed s.frame s.b in
    ap shape_test s.is
    ∙ told-there (signed_sides false (no (equal s.a s.b))) (λ e. told (signed_sides true (yes (equal x y))) (λ d. symmetric_test e d || swapped e.left e.right d.left d.right)) (record { left = s.a; right = s.b }) (no-sides s.a s.b)
    (told-there (signed_sides true (yes (equal x y))) (λ d. symmetric_test (record { left = s.a; right = s.b }) d || swapped s.a s.b d.left d.right) (record { left = x; right = y }) (yes-sides x y)
    (later (symmetric_test (record { left = s.a; right = s.b }) (record { left = x; right = y })) (swapped s.a s.b x y) (swapped-there s.a s.b s.frame)))
shape-there c (inr (inr (inr (inr s)))) =
    let x = framed s.frame s.a in
    let y = framed s.frame s.b in
    ap shape_test s.is
    ∙ told-there (signed_sides false (no (equal s.a s.b))) (λ e. chain_test e (no x) (yes y) || replacing_test e (no x) (yes y)) (record { left = s.a; right = s.b }) (no-sides s.a s.b)
    (later (chain_test (record { left = s.a; right = s.b }) (no x) (yes y)) (replacing_test (record { left = s.a; right = s.b }) (no x) (yes y)) (swapped-there s.a s.b s.frame))

pub equality_by_tests : (c : Literals) → ground_clause c ≡ true → IsTrue (shape_test c) ↔ IsEqualityInstance c
equality_by_tests c is_ground_here = (
  (λ h. record { is_closed = is_ground_here; shape = shape-sound c h }),
  (λ i. shape-there c i.shape),
)

pub not_closed : (c : Literals) → ground_clause c ≡ false → IsTrue false ↔ IsEqualityInstance c
not_closed c open_here = ((λ h. absurd (false_true h)), (λ i. absurd (false_true (sym open_here ∙ i.is_closed))))
