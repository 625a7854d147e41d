-- The argument places of a form, as a loop over its arguments comes to them.
use Rattle.std.proofs.Common.{◌≡◌, ℕ, zero, suc, ◌+◌, ◌-◌, ◌<◌, ◌≤◌, List, [], ◌∷◌, ◌++◌, map, take, drop, length, get_or, Option, Some, None, MatchOption, refl, sym, ap, ap₂, ◌∙◌, append_assoc, subst, arith}
use Rattle.std.proofs.lemmas.List.{append-nil, map-append, take_more, take_all, length-take-le}
use Rattle.sigma_base.specs.Lists.{Each, each_append}
use Rattle.kif_tree.specs.declared.form.Form.{Form, out-Form}
use Rattle.kif_tree.specs.declared.form.Form.TheVariants as form
use Rattle.kif_tree.specs.Terms.{after_head, depth, greatest}
use Rattle.kif_tree.specs.FormLaws.{induction, fold-Word, fold-Variable, fold-Row, fold-Numeral, fold-Quoted, fold-List}
use Rattle.kif_tree.specs.Clauses.{Literals}
use Rattle.kif_tree.proofs.TermLaws.{depth-List}
use Rattle.calculus.specs.declared.places.Frame.{Frame}
use Rattle.calculus.specs.declared.places.Opened.{Opened}
use Rattle.calculus.specs.declared.step.Step.{Step}
use Rattle.calculus.specs.Rules.{after, Argument, argument, put_around, opened}
use Rattle.calculus.proofs.PlaceLaws.{through, some_same}
use Rattle.calculus_programs.proofs.OpenLaws.{argument_some, opened_inside}
use Rattle.calculus_programs.proofs.PickLaws.{some_item}
use Rattle.infer.specs.declared.conclusion.Conclusion.{Conclusion}
use Rattle.infer.specs.Inside.{LeadsTo}
use Rattle.infer.specs.Sites.{argument_paths, paths_step, paths}
use Rattle.infer.specs.Conclusions.{IsFoundAt, Adds}
use Rattle.infer.proofs.ListLaws.{adds-one, adds-append, adds-same}

-- ---- the places of a form

pub paths_other : (f : Form) → ((parts : List Form) → f ≡ form.List parts → ⊥) → paths f ≡ []
unfolding paths
paths_other = induction (λ f. ((parts : List Form) → f ≡ form.List parts → ⊥) → paths f ≡ []) (record {
  word = λ text other. fold-Word (List (List ℕ)) paths_step text;
  variable = λ text other. fold-Variable (List (List ℕ)) paths_step text;
  row = λ text other. fold-Row (List (List ℕ)) paths_step text;
  numeral = λ text other. fold-Numeral (List (List ℕ)) paths_step text;
  quoted = λ text other. fold-Quoted (List (List ℕ)) paths_step text;
  list = λ parts each other. absurd (other parts refl);
})

paths-List : (parts : List Form) → paths (form.List parts) ≡ argument_paths 1 (after_head (map paths parts))
unfolding paths
paths-List parts = fold-List (List (List ℕ)) paths_step parts

-- the place of an argument and those inside it
abbrev pub argument_at : ℕ → Form → List (List ℕ)
argument_at at f = (at ∷ []) ∷ map (λ (path : List ℕ). at ∷ path) (paths f)

-- the places in the parts before that one
abbrev pub reached : List Form → ℕ → List (List ℕ)
reached parts at = argument_paths 1 (after_head (map paths (take at parts)))

pub reached_first : (parts : List Form) → reached parts 1 ≡ []
reached_first [] = refl
reached_first (head ∷ args) = refl

pub reached_all : (f : Form) (parts : List Form) (at : ℕ) → f ≡ form.List parts → length parts ≤ at → reached parts at ≡ paths f
reached_all f parts at is past =
    ap (λ (xs : List Form). argument_paths 1 (after_head (map paths xs))) (take_all at parts past) ∙ sym (paths-List parts) ∙ ap paths (sym is)

argument_paths-push : (n : ℕ) (xs : List (List (List ℕ))) (inside : List (List ℕ))
    → argument_paths n (xs ++ inside ∷ [])
    ≡ argument_paths n xs ++ ((n + length xs) ∷ []) ∷ map (λ (path : List ℕ). (n + length xs) ∷ path) inside
argument_paths-push n [] inside =
    ap (λ (ps : List (List ℕ)). (n ∷ []) ∷ ps) (append-nil (map (λ (path : List ℕ). n ∷ path) inside))
    ∙ ap (λ (m : ℕ). (m ∷ []) ∷ map (λ (path : List ℕ). m ∷ path) inside) (let e : n ≡ n + 0 = omega arith in e)
argument_paths-push n (x ∷ xs) inside =
    let e : (n + 1) + length xs ≡ n + length (x ∷ xs) = omega arith in
    let first = map (λ (path : List ℕ). n ∷ path) x in
    ap (λ (ps : List (List ℕ)). (n ∷ []) ∷ ps)
    (ap (λ (ps : List (List ℕ)). first ++ ps)
    (argument_paths-push (n + 1) xs inside ∙ ap (λ (m : ℕ). argument_paths (n + 1) xs ++ (m ∷ []) ∷ map (λ (path : List ℕ). m ∷ path) inside) e)
    ∙ sym (append_assoc first (argument_paths (n + 1) xs) (((n + length (x ∷ xs)) ∷ []) ∷ map (λ (path : List ℕ). (n + length (x ∷ xs)) ∷ path) inside)))

length_paths : (xs : List Form) → length (map paths xs) ≡ length xs
length_paths [] = refl
length_paths (x ∷ xs) = let rest = length_paths xs in omega (arith, rest)

reached_more : (parts : List Form) (at : ℕ) (x : Form) → 0 < at → at < length parts → x ≡ get_or parts at x
    → reached parts (at + 1) ≡ reached parts at ++ argument_at at x
reached_more [] at x some below is = absurd (omega arith)
reached_more (head ∷ args) zero x some below is = absurd (omega arith)
reached_more (head ∷ args) (suc n) x some below is =
    let front = map paths (take n args) in
    let count : 1 + length front ≡ suc n = omega (arith, length_paths (take n args), length-take-le n args (omega arith)) in
    ap (λ (xs : List Form). argument_paths 1 (after_head (map paths xs))) (take_more (head ∷ args) (suc n) x below)
    ∙ ap (argument_paths 1) (map-append paths (take n args) (get_or (head ∷ args) (suc n) x ∷ []))
    ∙ argument_paths-push 1 front (paths (get_or (head ∷ args) (suc n) x))
    ∙ ap₂ (λ (m : ℕ) (y : Form). argument_paths 1 front ++ argument_at m y) count (sym is)

-- ---- what is found at them

module _ (site : List ℕ → Step) (clauses : List Literals) (entry : List ℕ) where
  abbrev after_entry : List ℕ → Step
  after_entry more = site (entry ++ more)

  moved : (at : ℕ) (inside : List (List ℕ))
      → map (λ (more : List ℕ). site ((entry ++ at ∷ []) ++ more)) inside ≡ map after_entry (map (λ (path : List ℕ). at ∷ path) inside)
  moved at [] = refl
  moved at (path ∷ inside) = ap₂ (λ (p : List ℕ) (ps : List Step). site p ∷ ps) (append_assoc entry (at ∷ []) path) (moved at inside)

  -- one round of the loop
  pub adds_argument : (parts : List Form) (at : ℕ) (x : Form) (made : Option Conclusion) (first old pushed new : List Conclusion) → 0 < at
      → at < length parts → x ≡ get_or parts at x
      → Adds clauses (map after_entry (reached parts at)) first old
      → IsFoundAt clauses (site (entry ++ at ∷ [])) made → MatchOption made (pushed ≡ old) (λ conclusion. pushed ≡ old ++ conclusion ∷ [])
      → Adds clauses (map (λ (more : List ℕ). site ((entry ++ at ∷ []) ++ more)) (paths x)) pushed new
      → Adds clauses (map after_entry (reached parts (at + 1))) first new
  adds_argument parts at x made first old pushed new some below is before found push inside =
      let here = adds-one clauses (site (entry ++ at ∷ [])) made old pushed found push in
      let deeper =
      adds-same clauses (map (λ (more : List ℕ). site ((entry ++ at ∷ []) ++ more)) (paths x))
      (map after_entry (map (λ (path : List ℕ). at ∷ path) (paths x))) pushed new (moved at (paths x)) inside in
      adds-same clauses (map after_entry (reached parts at) ++ map after_entry (argument_at at x)) (map after_entry (reached parts (at + 1))) first new
      (sym (ap (map after_entry) (reached_more parts at x some below is) ∙ map-append after_entry (reached parts at) (argument_at at x)))
      (adds-append clauses (map after_entry (reached parts at)) (map after_entry (argument_at at x)) first old new before
      (adds-append clauses (site (entry ++ at ∷ []) ∷ []) (map after_entry (map (λ (path : List ℕ). at ∷ path) (paths x))) old pushed new here deeper))

-- ---- one argument further

record Further (path : List ℕ) (f x : Form) : Type 0 where
  place : Opened
  opens : opened path f ≡ Some place
  is : place.inner ≡ x

further : (path : List ℕ) (k : ℕ) (f : Form) (place : Opened) (parts : List Form) (x : Form) → opened path f ≡ Some place
    → place.inner ≡ form.List parts → 0 < k → k < length parts → x ≡ get_or parts k x → Further (path ++ k ∷ []) f x
further [] k f place parts x opens is some below at =
    let head = some_item parts 0 (omega arith) in
    let frame : Frame = record { head = head.0; before = take (k - 1) (drop 1 parts); following = drop (k + 1) parts } in
    let whole : f ≡ form.List parts = ap (λ (o : Opened). o.inner) (some_same (record { frames = []; inner = f }) place opens) ∙ is in
    record {
      place = put_around frame (record { frames = []; inner = x });
      opens = opened_inside (k ∷ []) [] k f parts (record { frame = frame; inner = x }) refl whole (argument_some parts k head.0 x some below head.1 at);
      is = refl;
    }
further (j ∷ path) k f place parts x opens is some below at =
    let t = through (argument (out-Form f) j) (λ a. after (opened path a.inner) (λ o. Some (put_around a.frame o))) place opens in
    let u = through (opened path t.at.inner) (λ o. Some (put_around t.at.frame o)) place t.gives in
    let inner : u.at.inner ≡ form.List parts = ap (λ (o : Opened). o.inner) (some_same (put_around t.at.frame u.at) place u.gives) ∙ is in
    let rest = further path k t.at.inner u.at parts x u.is inner some below at in
    record {
      place = put_around t.at.frame rest.place;
      opens = ap (λ (o : Option Argument). after o (λ a. after (opened (path ++ k ∷ []) a.inner) (λ p. Some (put_around a.frame p)))) t.is
          ∙ ap (λ (o : Option Opened). after o (λ p. Some (put_around t.at.frame p))) rest.opens;
      is = rest.is;
    }

-- a path that leads to a list leads on to each of its arguments
pub leads_further : (clause : Literals) (n : ℕ) (path way : List ℕ) (f : Form) (parts : List Form) (k : ℕ) (x : Form) → LeadsTo clause n path f
    → f ≡ form.List parts → 0 < k → k < length parts → x ≡ get_or parts k x
    → way ≡ path ++ k ∷ [] → LeadsTo clause n way x
leads_further clause n path way f parts k x leads is some below at same =
    let more = further path k leads.literal.atom leads.place parts x leads.opens (leads.is ∙ is) some below at in
    subst (λ (p : List ℕ). LeadsTo clause n p x) (sym same)
    (record { literal = leads.literal; at = leads.at; place = more.place; opens = more.opens; is = more.is })

-- ---- sizes, and plain conclusions

greatest_at : (xs : List Form) (n : ℕ) (x : Form) → n < length xs → x ≡ get_or xs n x → depth x ≤ greatest (map depth xs)
greatest_at [] n x below is = absurd (omega arith)
greatest_at (y ∷ xs) zero x below is = let same = ap depth is in omega (arith, same)
greatest_at (y ∷ xs) (suc n) x below is = let rest = greatest_at xs n x (omega arith) is in omega (arith, rest)

-- an argument nests less deep than its list
pub shallower : (f : Form) (parts : List Form) (at : ℕ) (x : Form) → f ≡ form.List parts → 0 < at → at < length parts → x ≡ get_or parts at x
    → depth x < depth f
shallower f [] at x whole some below is = absurd (omega arith)
shallower f (head ∷ args) zero x whole some below is = absurd (omega arith)
shallower f (head ∷ args) (suc n) x whole some below is =
    let all = ap depth whole ∙ depth-List head args in
    let one = greatest_at args n x (omega arith) is in
    omega (arith, all, one)

-- after `push_made`
pub each_pushed : {X : Type 0} (P : X → Type 0) (made : Option X) (old new : List X) → MatchOption made (Unit {0}) P
    → MatchOption made (new ≡ old) (λ x. new ≡ old ++ x ∷ []) → Each P old → Each P new
each_pushed P None old new here is each = subst (Each P) (sym is) each
each_pushed P (Some x) old new here is each = subst (Each P) (sym is) (each_append P old (x ∷ []) each (here, tt))

front_of : (xs : List ℕ) (x : ℕ) → (take (length xs) (xs ++ x ∷ []) ≡ xs) × (length (xs ++ x ∷ []) ≡ length xs + 1)
front_of [] x = (refl, omega arith)
front_of (y ∷ xs) x = let rest = front_of xs x in (ap (λ (ys : List ℕ). y ∷ ys) rest.0, (let e = rest.1 in omega (arith, e)))

-- after `push`
pub way_on : (entry now items : List ℕ) (at : ℕ) → items ≡ now ++ at ∷ [] → now ≡ entry → items ≡ entry ++ at ∷ []
way_on entry now items at is same = is ∙ ap (λ (path : List ℕ). path ++ at ∷ []) same

-- after `push` and `pop`
pub popped : (entry items left : List ℕ) (x n : ℕ) → items ≡ entry ++ x ∷ [] → n ≡ length items → left ≡ take (n - 1) items → left ≡ entry
popped entry items left x n is count rest =
    let front = front_of entry x in
    let less : n - 1 ≡ length entry = (let e = front.1 in let h = ap length is in omega (arith, e, h, count)) in
    rest ∙ ap₂ (λ (m : ℕ) (ys : List ℕ). take m ys) less is ∙ front.0
