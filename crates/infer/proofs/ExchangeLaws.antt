-- A form under a substitution, but for another form at the end of a path.
use Rattle.std.proofs.Common.{◌≡◌, ℕ, zero, suc, ◌+◌, ◌-◌, ◌<◌, ◌≤◌, List, [], ◌∷◌, ◌++◌, map, take, drop, length, get_or, Bool, true, false, ◌&&◌, Some, codes, refl, sym, ap, ap₂, ◌∙◌, append_assoc, arith}
use Rattle.std.specs.List.{list_all}
use Rattle.kif_tree.specs.declared.form.Form.{Form}
use Rattle.kif_tree.specs.declared.form.Form.TheVariants as form
use Rattle.kif_tree.specs.declared.clause.Literal.{Literal}
use Rattle.kif_tree.specs.Terms.{Bytes, has_no_row}
use Rattle.kif_tree.specs.Shape.{is_list, is_list_layer}
use Rattle.kif_tree.specs.Subst.{Filling, bind}
use Rattle.kif_tree.specs.Clauses.{Literals, bind_clause}
use Rattle.kif_tree.proofs.TermLaws.{clean-parts}
use Rattle.calculus.specs.declared.places.Frame.{Frame}
use Rattle.calculus.specs.declared.places.Opened.{Opened}
use Rattle.calculus.specs.declared.places.Sides.{Sides}
use Rattle.calculus.specs.Equality.{equal}
use Rattle.calculus.specs.Proper.{has_word_heads}
use Rattle.calculus.specs.Rules.{opened, is_empty, plugged, framed, bind_frame, put_around, changed, from_side, to_side}
use Rattle.calculus.proofs.PlaceLaws.{through, none_some, some_same, bind-plugged}
use Rattle.calculus.proofs.TruthLaws.{both, false_true}
use Rattle.calculus_programs.specs.Picks.{exchanged}
use Rattle.calculus_programs.specs.Shape.{is_any_word}
use Rattle.calculus_programs.proofs.OpenLaws.{argument_some, opened_zero, opened_outside, opened_inside}
use Rattle.calculus_programs.proofs.PickLaws.{some_item}
use Rattle.calculus_programs.proofs.ShapeLaws.{heads-List}
use Rattle.unify.specs.Unifiers.{is_plain}
use Rattle.unify.proofs.PlainLaws.{plain-part, plain-bind}
use Rattle.infer.specs.Plain.{IsPlain}
use Rattle.infer.proofs.PlainClauseLaws.{IsPlainLiteral, plain-each, each-plain, plain-append, plain-take, plain-drop, plain-others, plain-filled}

abbrev frame_of : Form → List Form → ℕ → Frame
frame_of head parts k = record { head = head; before = take (k - 1) (drop 1 parts); following = drop (k + 1) parts }

-- the list as the code puts it together
in_frame : (g : Filling) (parts : List Form) (k : ℕ) (head inside : Form) → 0 < k → k < length parts → head ≡ get_or parts 0 head
    → form.List ((map (bind g) (take k parts) ++ inside ∷ []) ++ map (bind g) (drop (k + 1) parts)) ≡ framed (bind_frame g (frame_of head parts k)) inside
in_frame g [] k head inside some below is = absurd (omega arith)
in_frame g (x ∷ args) zero head inside some below is = absurd (omega arith)
in_frame g (x ∷ args) (suc n) head inside some below is =
    let less : n ≡ suc n - 1 = omega arith in
    let rest = map (bind g) (drop (suc n + 1) (x ∷ args)) in
    ap form.List (ap₂ (λ (y : Form) (m : ℕ). bind g y ∷ ((map (bind g) (take m args) ++ inside ∷ []) ++ rest)) (sym is) less
    ∙ ap (λ (ys : List Form). bind g head ∷ ys) (append_assoc (map (bind g) (take (suc n - 1) args)) (inside ∷ []) rest))

-- a path that leads somewhere doesn't lead to the head
not_zero : (path rest : List ℕ) (k : ℕ) (f : Form) (parts : List Form) (place : Opened) → path ≡ k ∷ rest
    → f ≡ form.List parts → opened path f ≡ Some place → 0 < k
not_zero path rest zero f parts place e is there = absurd (none_some place (sym (opened_zero path rest 0 f parts e is refl) ∙ there))
not_zero path rest (suc n) f parts place e is there = omega arith

-- the list that the path leads into, with its argument exchanged
pub exchanged_in : (g : Filling) (path rest : List ℕ) (k : ℕ) (f : Form) (parts : List Form) (place : Opened) (inner inside other : Form)
    → path ≡ k ∷ rest → f ≡ form.List parts → k < length parts → inner ≡ get_or parts k inner → opened path f ≡ Some place
    → ((p : Opened) → opened rest inner ≡ Some p → inside ≡ plugged (map (bind_frame g) p.frames) other)
    → form.List ((map (bind g) (take k parts) ++ inside ∷ []) ++ map (bind g) (drop (k + 1) parts)) ≡ plugged (map (bind_frame g) place.frames) other
exchanged_in g path rest k f parts place inner inside other e is below at there within =
    let some = not_zero path rest k f parts place e is there in
    let head = some_item parts 0 (omega arith) in
    let frame = frame_of head.0 parts k in
    let step = opened_inside path rest k f parts (record { frame = frame; inner = inner }) e is (argument_some parts k head.0 inner some below head.1 at) in
    let t = through (opened rest inner) (λ o. Some (put_around frame o)) place (sym step ∙ there) in
    in_frame g parts k head.0 inside some below head.1
    ∙ ap (framed (bind_frame g frame)) (within t.at t.is)
    ∙ ap (λ (p : Opened). plugged (map (bind_frame g) p.frames) other) (some_same (put_around frame t.at) place t.gives)

-- nothing is there past the end
pub exchanged_outside : (path rest : List ℕ) (k : ℕ) (f : Form) (parts : List Form) (place : Opened) → path ≡ k ∷ rest → f ≡ form.List parts
    → length parts ≤ k → opened path f ≡ Some place → ⊥
exchanged_outside path rest k f parts place e is past there = none_some place (sym (opened_outside path rest k f parts e is past) ∙ there)

-- the target's literal, as the code makes it
pub changed_is : (f : Filling) (to : Form) (g : Filling) (literal same : Literal) (place : Opened) (other atom : Form)
    → literal ≡ same → other ≡ bind f to → atom ≡ plugged (map (bind_frame g) place.frames) other
    → ◌≡◌ {A = Literal} (record { positive = same.positive; atom = atom }) (changed f to g literal place)
changed_is f to g literal same place other atom is filled plugs =
    ap₂ (λ (l : Literal) (a : Form). let made : Literal = record { positive = l.positive; atom = a } in made) (sym is)
    (plugs ∙ ap (plugged (map (bind_frame g) place.frames)) filled)

-- ---- plain forms

stands : (before : List Form) (x : Form) (following : List Form)
    → (length before < length (before ++ x ∷ following)) × (x ≡ get_or (before ++ x ∷ following) (length before) x)
stands [] x following = (omega arith, refl)
stands (y ∷ before) x following = let rest = stands before x following in ((let below = rest.0 in omega (arith, below)), rest.1)

plain_part : (before : List Form) (x : Form) (following : List Form) → is_plain (form.List (before ++ x ∷ following)) ≡ true → is_plain x ≡ true
plain_part before x following plain = let at = stands before x following in plain-part (before ++ x ∷ following) (length before) x at.0 at.1 plain

-- the form at a place of a plain form
pub plain_inside : (frames : List Frame) (f : Form) → is_plain (plugged frames f) ≡ true → is_plain f ≡ true
plain_inside [] f plain = plain
plain_inside (frame ∷ frames) f plain = plain_inside frames f (plain_part (frame.head ∷ frame.before) (plugged frames f) frame.following plain)

all_but_one : (p : Form → Bool) (before : List Form) (x y : Form) (following : List Form) → list_all p (before ++ x ∷ following) ≡ true → p y ≡ true
    → list_all p (before ++ y ∷ following) ≡ true
all_but_one p [] x y following all here = ap₂ ◌&&◌ here (both (p x) (list_all p following) all).1
all_but_one p (z ∷ before) x y following all here =
    let hs = both (p z) (list_all p (before ++ x ∷ following)) all in
    ap₂ ◌&&◌ hs.0 (all_but_one p before x y following hs.1 here)

-- one argument of a plain list becomes another plain form
plain_argument : (frame : Frame) (x y : Form) → is_plain (framed frame x) ≡ true → is_plain y ≡ true → is_plain (framed frame y) ≡ true
plain_argument frame x y plain here =
    let parts : Form → List Form = λ (z : Form). frame.head ∷ (frame.before ++ z ∷ frame.following) in
    let whole = both (has_no_row (framed frame x)) (has_word_heads (framed frame x)) plain in
    let new = both (has_no_row y) (has_word_heads y) here in
    let rowless = all_but_one has_no_row (frame.head ∷ frame.before) x y frame.following (sym (clean-parts true (parts x)) ∙ whole.0) new.0 in
    let headed = both (is_any_word frame.head) (list_all has_word_heads (parts x)) (sym (heads-List (parts x)) ∙ whole.1) in
    ap₂ ◌&&◌ (clean-parts true (parts y) ∙ rowless)
    (heads-List (parts y) ∙ ap₂ ◌&&◌ headed.0 (all_but_one has_word_heads (frame.head ∷ frame.before) x y frame.following headed.1 new.1))

-- a plain form filled in, with another plain form at one of its places
pub plain_plugged : (g : Filling) → ((name : Bytes) → is_plain (g name) ≡ true) → (frames : List Frame) (f other : Form)
    → is_plain (plugged frames f) ≡ true → is_plain other ≡ true
    → is_plain (plugged (map (bind_frame g) frames) other) ≡ true
plain_plugged g fills [] f other plain here = here
plain_plugged g fills (frame ∷ frames) f other plain here =
    let inner = plugged frames f in
    let filled : is_plain (framed (bind_frame g frame) (bind g inner)) ≡ true = ap is_plain (sym (bind-plugged g (frame ∷ []) inner))
    ∙ plain-bind g fills (framed frame inner) plain in
    plain_argument (bind_frame g frame) (bind g inner) (plugged (map (bind_frame g) frames) other) filled
    (plain_plugged g fills frames f other (plain_part (frame.head ∷ frame.before) inner frame.following plain) here)

list_plugged : (frames : List Frame) (f : Form) → is_empty frames ≡ false → is_list (plugged frames f) ≡ true
list_plugged [] f some = absurd (false_true (sym some))
list_plugged (frame ∷ frames) f some = ap is_list_layer (form.outs-List (frame.head ∷ (frame.before ++ plugged frames f ∷ frame.following)))

some_framed : (g : Filling) (frames : List Frame) → is_empty frames ≡ false → is_empty (map (bind_frame g) frames) ≡ false
some_framed g [] some = some
some_framed g (frame ∷ frames) some = refl

pub plain_changed : (f : Filling) (to : Form) (g : Filling) (literal : Literal) (place : Opened) → ((name : Bytes) → is_plain (f name) ≡ true)
    → ((name : Bytes) → is_plain (g name) ≡ true)
    → is_empty place.frames ≡ false → is_plain (plugged place.frames place.inner) ≡ true → is_plain to ≡ true → IsPlainLiteral (changed f to g literal place)
plain_changed f to g literal place of_f of_g some plain here = (
  list_plugged (map (bind_frame g) place.frames) (bind f to) (some_framed g place.frames some),
  plain_plugged g of_g place.frames place.inner (bind f to) plain (plain-bind f of_f to here),
)

pub plain_exchanged : (source : Literals) (i : ℕ) (f : Filling) (target : Literals) (j : ℕ) (g : Filling) (literal : Literal)
    → ((name : Bytes) → is_plain (f name) ≡ true) → ((name : Bytes) → is_plain (g name) ≡ true)
    → IsPlain source → IsPlain target → IsPlainLiteral literal → IsPlain (exchanged source i f target j g literal)
plain_exchanged source i f target j g literal of_f of_g first second here =
    let before = bind_clause g (take j target) in
    let following = bind_clause g (drop (j + 1) target) in
    plain-append (bind_clause f (take i source ++ drop (i + 1) source)) (before ++ literal ∷ following)
    (plain-filled f (take i source ++ drop (i + 1) source) of_f (plain-others i source first))
    (plain-append before (literal ∷ following) (plain-filled g (take j target) of_g (plain-take j target second))
    (each-plain (literal ∷ following) (here, plain-each following (plain-filled g (drop (j + 1) target) of_g (plain-drop (j + 1) target second)))))

-- a side of an equality
pub plain_side : (flipped : Bool) (e : Sides) → is_plain (equal e.left e.right) ≡ true
    → (is_plain (from_side flipped e) ≡ true) × (is_plain (to_side flipped e) ≡ true)
plain_side flipped e plain = go flipped (plain_part (word ∷ []) e.left (e.right ∷ []) plain) (plain_part (word ∷ e.left ∷ []) e.right [] plain)
  where
    word : Form
    word = form.Word (codes "equal")

    go : (b : Bool) → is_plain e.left ≡ true → is_plain e.right ≡ true → (is_plain (from_side b e) ≡ true) × (is_plain (to_side b e) ≡ true)
    go false left right = (left, right)
    go true left right = (right, left)
