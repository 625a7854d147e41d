-- Marks of terms: what each kind of form has, that a form at a path has its bits among those of the whole, and that forms that become one
-- share a bit.
use Rattle.std.proofs.Common.{◌≡◌, ◌⊎◌, inl, inr, ◌<◌, ◌≤◌, ℕ, zero, suc, ◌+◌, ◌^◌, ◌%◌, ◌-◌, nat_eq, List, [], ◌∷◌, map, length, take, drop, Bool, true, false, if◌then◌else◌, Some, refl, sym, ap, ap₂, ◌∙◌, subst, eq-eqb, arith}
use Rattle.std.proofs.lemmas.Bool.{eqb-true}
use Rattle.std.proofs.lemmas.List.{take_all}
use Rattle.kif_tree.specs.declared.form.Form.{Form, out-Form, para-Form, para-roll-Form, roll-Form, roll-out-Form}
use Rattle.kif_tree.specs.declared.form.Form.TheVariants as form
use Rattle.kif_tree.specs.declared.form.Form.TheOpen.{Form-F}
use Rattle.kif_tree.specs.Terms.{Bytes, after_head}
use Rattle.kif_tree.specs.Subst.{Filling, bind}
use Rattle.kif_tree.specs.Names.{parts_layer, parts_in}
use Rattle.kif_tree.specs.NameLaws.{beside_forms}
use Rattle.kif_tree.specs.FormLaws.{induction}
use Rattle.calculus.specs.declared.places.Opened.{Opened}
use Rattle.calculus.specs.Rules.{after, pick, Argument, argument_of, argument, put_around, opened, is_empty, is_variable}
use Rattle.calculus.specs.Answers.{Among}
use Rattle.calculus.proofs.PlaceLaws.{none_some, some_same, through, picked}
use Rattle.calculus.proofs.MemberLaws.{among-right, among-map}
use Rattle.calculus.proofs.TruthLaws.{false_true}
use Rattle.saturate.specs.Fingerprints.{code_of_parts, code, agree}
use Rattle.saturate.specs.Marks.{all_marks, joined, place_mark, list_mark, mark_by, term_mark, terms, terms_step, inner_terms}
use Rattle.saturate.proofs.BitLaws.{HasBit, HasSome, Share, all_set, power_set, joined_keeps, joined_has, either}
use Rattle.saturate.proofs.CodeLaws.{kept, code-Word, code-Numeral, code-Quoted, code-List}
use Rattle.saturate.proofs.FingerprintLaws.{agree_met, parts-bind}

-- ---- each kind of form

pub terms-Word : (text : Bytes) → terms (form.Word text) ≡ terms_step (Form-F.Word text)
unfolding terms
terms-Word text = ap (para-Form ℕ terms_step) (sym (form.rolls-Word text)) ∙ para-roll-Form ℕ terms_step (Form-F.Word text)

pub terms-Variable : (text : Bytes) → terms (form.Variable text) ≡ 0
unfolding terms
terms-Variable text = ap (para-Form ℕ terms_step) (sym (form.rolls-Variable text)) ∙ para-roll-Form ℕ terms_step (Form-F.Variable text)

pub terms-Row : (text : Bytes) → terms (form.Row text) ≡ all_marks
unfolding terms
terms-Row text = ap (para-Form ℕ terms_step) (sym (form.rolls-Row text)) ∙ para-roll-Form ℕ terms_step (Form-F.Row text)

pub terms-Numeral : (text : Bytes) → terms (form.Numeral text) ≡ terms_step (Form-F.Numeral text)
unfolding terms
terms-Numeral text = ap (para-Form ℕ terms_step) (sym (form.rolls-Numeral text)) ∙ para-roll-Form ℕ terms_step (Form-F.Numeral text)

pub terms-Quoted : (text : Bytes) → terms (form.Quoted text) ≡ terms_step (Form-F.Quoted text)
unfolding terms
terms-Quoted text = ap (para-Form ℕ terms_step) (sym (form.rolls-Quoted text)) ∙ para-roll-Form ℕ terms_step (Form-F.Quoted text)

beside_arguments : (parts : List Form) → map (λ (part : Form × ℕ). part.1) (after_head (map (λ f. (f, terms f)) parts)) ≡ map terms (after_head parts)
beside_arguments [] = refl
beside_arguments (head ∷ parts) = go parts
  where
    go : (parts : List Form) → map (λ (part : Form × ℕ). part.1) (map (λ f. (f, terms f)) parts) ≡ map terms parts
    go [] = refl
    go (f ∷ parts) = ap (λ more. terms f ∷ more) (go parts)

pub terms-List : (parts : List Form) → terms (form.List parts) ≡ joined (list_mark parts) (map terms (after_head parts))
unfolding terms
terms-List parts =
    ap (para-Form ℕ terms_step) (sym (form.rolls-List parts)) ∙ para-roll-Form ℕ terms_step (Form-F.List parts)
    ∙ ap₂ (λ (fs : List Form) (numbers : List ℕ). joined (list_mark fs) numbers) (beside_forms terms parts) (beside_arguments parts)

-- by the arguments that a loop goes over
pub terms-arguments : (parts : List Form) → 1 ≤ length parts
    → joined (list_mark parts) (map terms (take (length parts - 1) (drop 1 parts))) ≡ terms (form.List parts)
terms-arguments [] some = absurd (omega (arith, some))
terms-arguments (head ∷ args) some =
    ap (λ (fs : List Form). joined (list_mark (head ∷ args)) (map terms fs)) (take_all (length (head ∷ args) - 1) args (omega arith)) ∙ sym (terms-List (head ∷ args))

pub ruleset terms_laws = (terms-Word, terms-Variable, terms-Row, terms-Numeral, terms-Quoted, terms-List)

-- ---- bits

-- all bits of the first are in the second
abbrev pub Within : ℕ → ℕ → Type 0
Within n m = (i : ℕ) → i < 64 → HasBit n i → HasBit m i

equal_within : (n m : ℕ) → n ≡ m → Within n m
equal_within n m e i below h = subst (λ (k : ℕ). HasBit k i) e h

within_parts : (marks : ℕ) (f : Form) (parts : List Form) → Among f parts → Within (terms f) (joined marks (map terms parts))
within_parts marks f parts there i below h = joined_has marks (map terms parts) (terms f) i (among-map terms f parts there) h

-- ---- the form at a path

argument_stands : (parts : List Form) (k : ℕ) (a : Argument) → argument_of parts k ≡ Some a → Among a.inner (after_head parts)
argument_stands [] k a e = absurd (none_some a e)
argument_stands (head ∷ args) zero a e = absurd (none_some a e)
argument_stands (head ∷ args) (suc n) a e =
    let t = through (pick args n) (λ p. Some (record { frame = record { head = head; before = p.before; following = p.following }; inner = p.chosen })) a e in
    let there : Among t.at.chosen args =
    subst (Among t.at.chosen) (sym (picked args n t.at t.is)) (among-right t.at.chosen t.at.before (t.at.chosen ∷ t.at.following) (inl refl)) in
    subst (λ (f : Form). Among f args) (ap (λ (b : Argument). b.inner) (some_same _ a t.gives)) there

argument_of_atom : (layer : Form-F Form) (k : ℕ) (a : Argument) → argument layer k ≡ Some a → Within (terms a.inner) (inner_terms (parts_layer layer))
argument_of_atom (Form-F.List parts) k a e = within_parts 0 a.inner (after_head parts) (argument_stands parts k a e)
argument_of_atom (Form-F.Word text) k a e = absurd (none_some a e)
argument_of_atom (Form-F.Variable text) k a e = absurd (none_some a e)
argument_of_atom (Form-F.Row text) k a e = absurd (none_some a e)
argument_of_atom (Form-F.Numeral text) k a e = absurd (none_some a e)
argument_of_atom (Form-F.Quoted text) k a e = absurd (none_some a e)

argument_of_term : (f : Form) (layer : Form-F Form) (k : ℕ) (a : Argument) → out-Form f ≡ layer → argument layer k ≡ Some a → Within (terms a.inner) (terms f)
argument_of_term f (Form-F.List parts) k a is e = λ i below h.
    let whole : f ≡ form.List parts = sym (roll-out-Form f) ∙ ap roll-Form is ∙ form.rolls-List parts in
    subst (λ (n : ℕ). HasBit n i) (sym (ap terms whole ∙ terms-List parts))
    (within_parts (list_mark parts) a.inner (after_head parts) (argument_stands parts k a e) i below h)
argument_of_term f (Form-F.Word text) k a is e = absurd (none_some a e)
argument_of_term f (Form-F.Variable text) k a is e = absurd (none_some a e)
argument_of_term f (Form-F.Row text) k a is e = absurd (none_some a e)
argument_of_term f (Form-F.Numeral text) k a is e = absurd (none_some a e)
argument_of_term f (Form-F.Quoted text) k a is e = absurd (none_some a e)

opened_within : (path : List ℕ) (f : Form) (o : Opened) → opened path f ≡ Some o → Within (terms o.inner) (terms f)
opened_within [] f o e = equal_within (terms o.inner) (terms f) (ap (λ (p : Opened). terms p.inner) (sym (some_same _ o e)))
opened_within (k ∷ path) f o e = λ i below h.
    let t = through (argument (out-Form f) k) (λ a. after (opened path a.inner) (λ p. Some (put_around a.frame p))) o e in
    let u = through (opened path t.at.inner) (λ p. Some (put_around t.at.frame p)) o t.gives in
    argument_of_term f (out-Form f) k t.at refl t.is i below
    (opened_within path t.at.inner u.at u.is i below
    (subst (λ (g : Form). HasBit (terms g) i) (sym (ap (λ (p : Opened). p.inner) (some_same (put_around t.at.frame u.at) o u.gives))) h))

-- inside an atom, and not the atom itself
pub opened_inside : (path : List ℕ) (atom : Form) (o : Opened) → opened path atom ≡ Some o → is_empty o.frames ≡ false
    → Within (terms o.inner) (inner_terms (parts_in atom))
opened_inside [] atom o e inside = absurd (false_true (sym inside ∙ ap (λ (p : Opened). is_empty p.frames) (sym (some_same _ o e))))
opened_inside (k ∷ path) atom o e inside = λ i below h.
    let t = through (argument (out-Form atom) k) (λ a. after (opened path a.inner) (λ p. Some (put_around a.frame p))) o e in
    let u = through (opened path t.at.inner) (λ p. Some (put_around t.at.frame p)) o t.gives in
    argument_of_atom (out-Form atom) k t.at t.is i below
    (opened_within path t.at.inner u.at u.is i below
    (subst (λ (g : Form). HasBit (terms g) i) (sym (ap (λ (p : Opened). p.inner) (some_same (put_around t.at.frame u.at) o u.gives))) h))

-- ---- the mark of a form that is no variable

pub own_within : (f : Form) → is_variable (out-Form f) ≡ false → Within (term_mark f) (terms f)
own_within = induction (λ f. is_variable (out-Form f) ≡ false → Within (term_mark f) (terms f)) (record {
  word = λ text other. equal_within (term_mark (form.Word text)) (terms (form.Word text))
      (ap₂ mark_by (code-Word text) (ap parts_layer (form.outs-Word text)) ∙ sym (terms-Word text));
  variable = λ text other. absurd (false_true (sym other ∙ ap is_variable (form.outs-Variable text)));
  row = λ text other i below h. subst (λ (n : ℕ). HasBit n i) (sym (terms-Row text)) (all_set i below);
  numeral = λ text other. equal_within (term_mark (form.Numeral text)) (terms (form.Numeral text))
      (ap₂ mark_by (code-Numeral text) (ap parts_layer (form.outs-Numeral text)) ∙ sym (terms-Numeral text));
  quoted = λ text other. equal_within (term_mark (form.Quoted text)) (terms (form.Quoted text))
      (ap₂ mark_by (code-Quoted text) (ap parts_layer (form.outs-Quoted text)) ∙ sym (terms-Quoted text));
  list = λ parts each other i below h. subst (λ (n : ℕ). HasBit n i) (sym (terms-List parts))
      (joined_keeps (list_mark parts) (map terms (after_head parts)) i (subst (λ (n : ℕ). HasBit n i) (list_marked parts) h));
})
  where
    list_marked : (parts : List Form) → term_mark (form.List parts) ≡ list_mark parts
    list_marked parts = ap₂ mark_by (code-List parts) (ap parts_layer (form.outs-List parts)) ∙ go parts
      where
        go : (parts : List Form) → mark_by (code_of_parts 4 (map code parts)) parts ≡ list_mark parts
        go [] = refl
        go (head ∷ args) = refl

-- ---- forms that become one

place_some : (from code : ℕ) → from < 33 → HasSome (place_mark from code)
place_some from code low = go (nat_eq code 0)
  where
    go : (b : Bool) → HasSome (if b then all_marks else 2 ^ (from + code % 32))
    go true = record { place = 0; below = omega arith; set = all_set 0 (omega arith) }
    go false = record { place = from + code % 32; below = omega (arith, low); set = power_set (from + code % 32) }

place_unknown : (from code i : ℕ) → code ≡ 0 → i < 64 → HasBit (place_mark from code) i
place_unknown from code i none below =
    subst (λ (b : Bool). HasBit (if b then all_marks else 2 ^ (from + code % 32)) i) (sym (eq-eqb code 0 none)) (all_set i below)

mark_some : (code : ℕ) (parts : List Form) → HasSome (mark_by code parts)
mark_some code [] = place_some 0 code (omega arith)
mark_some number (head ∷ args) = place_some 32 (code head) (omega arith)

place_shared : (from first second : ℕ) → from < 33 → agree first second ≡ true → Share (place_mark from first) (place_mark from second)
place_shared from first second low agrees =
    elim (either (nat_eq second 0) _ agrees) [
      | inl e ↦
          let one = place_some from first low in
          record { place = one.place; below = one.below; first = one.set; second = place_unknown from second one.place (eqb-true second 0 e) one.below }
      | inr h ↦ elim (either (nat_eq first 0) _ h) [
        | inl e ↦
            let one = place_some from second low in
            record { place = one.place; below = one.below; first = place_unknown from first one.place (eqb-true first 0 e) one.below; second = one.set }
        | inr e ↦
            let one = place_some from first low in
            record {
              place = one.place;
              below = one.below;
              first = one.set;
              second = subst (λ (n : ℕ). HasBit (place_mark from n) one.place) (eqb-true first second e) one.set;
            }
      ]
    ]

parts_bound : (g : Filling) (y head : Form) (args : List Form) → parts_in y ≡ head ∷ args → parts_in (bind g y) ≡ bind g head ∷ map (bind g) args
parts_bound g y head args is = go (parts-bind g y)
  where
    go : (parts_in y ≡ []) ⊎ (parts_in (bind g y) ≡ map (bind g) (parts_in y)) → parts_in (bind g y) ≡ bind g head ∷ map (bind g) args
    go (inl none) = let no_way : [] ≡ head ∷ args = sym none ∙ is in absurd (cc)
    go (inr are) = are ∙ ap (map (bind g)) is

-- a form that is no list with a head has no code, or doesn't become such a list
no_list : (f g : Filling) (x y head : Form) (args : List Form) → bind f x ≡ bind g y → parts_in x ≡ [] → parts_in y ≡ head ∷ args → code x ≡ 0
no_list f g x y head args meet none is = go (kept f x)
  where
    go : (code x ≡ 0) ⊎ (bind f x ≡ x) → code x ≡ 0
    go (inl e) = e
    go (inr stays) =
        let no_way : [] ≡ bind g head ∷ map (bind g) args = sym none ∙ ap parts_in (sym stays ∙ meet) ∙ parts_bound g y head args is in absurd (cc)

pub term_marks_met : (f g : Filling) (x y : Form) → bind f x ≡ bind g y → Share (term_mark x) (term_mark y)
term_marks_met f g x y meet = go (parts_in x) (parts_in y) refl refl
  where
    go : (xs ys : List Form) → parts_in x ≡ xs → parts_in y ≡ ys → Share (mark_by (code x) xs) (mark_by (code y) ys)
    go [] [] x_is y_is = place_shared 0 (code x) (code y) (omega arith) (agree_met f g x y meet)
    go [] (head ∷ args) x_is y_is =
        let one = mark_some (code y) (head ∷ args) in
        record { place = one.place; below = one.below; first = place_unknown 0 (code x) one.place (no_list f g x y head args meet x_is y_is) one.below; second = one.set }
    go (head ∷ args) [] x_is y_is =
        let one = mark_some (code x) (head ∷ args) in
        record { place = one.place; below = one.below; first = one.set; second = place_unknown 0 (code y) one.place (no_list g f y x head args (sym meet) y_is x_is) one.below }
    go (p ∷ ps) (q ∷ qs) x_is y_is =
        let same : bind f p ∷ map (bind f) ps ≡ bind g q ∷ map (bind g) qs = sym (parts_bound f x p ps x_is) ∙ ap parts_in meet ∙ parts_bound g y q qs y_is in
        place_shared 32 (code p) (code q) (omega arith) (agree_met f g p q (cc))
