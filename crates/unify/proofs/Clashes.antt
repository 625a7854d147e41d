-- Where nothing makes two forms equal, and differences of lists.
use Rattle.std.proofs.Common.{◌≡◌, ℕ, ◌+◌, ◌≤◌, ◌<◌, length, get_or, List, [], ◌∷◌, map, Bool, true, false, ◌||◌, refl, sym, ap, ◌∙◌, arith}
use Rattle.std.specs.List.{list_any}
use Rattle.std.proofs.lemmas.Slice.Eq.{bytes_eq-Decides}
use Rattle.std.proofs.lemmas.List.{get_or-map, length-map}
use Rattle.std.proofs.lemmas.List.Folds.{list_any_at}
use Rattle.sigma_base.specs.Lists.{Each, each_of_all, map_twice}
use Rattle.kif_tree.specs.declared.form.Form.{Form, fold-Form}
use Rattle.kif_tree.specs.declared.form.Form.TheVariants as form
use Rattle.kif_tree.specs.declared.form.Form.TheOpen.{Form-F}
use Rattle.kif_tree.specs.Terms.{Bytes, occurs}
use Rattle.kif_tree.specs.Subst.{Filling, bind}
use Rattle.kif_tree.specs.FormLaws.{induction, fold-List}
use Rattle.kif_tree.proofs.SubstLaws.{bind-Variable, bind-List, bind_other}
use Rattle.kif_tree.proofs.TermLaws.{occurs-Word, occurs-Variable, occurs-Row, occurs-Numeral, occurs-Quoted, occurs-List}
use Rattle.calculus.proofs.TruthLaws.{false_true}
use Rattle.calculus.proofs.RenamingLaws.{list_same}
use Rattle.unify.specs.declared.difference.Difference.{Difference}
use Rattle.unify.specs.declared.difference.Difference.TheVariants.{Same, Clash, Bind}
use Rattle.unify.specs.Unifiers.{HasNone, HasNoneApart}
use Rattle.unify.specs.Difference.{Binds, Differs}
use Rattle.unify.proofs.PlainLaws.{plain-part}

-- ---- sizes: a variable in a list is no part of what the list becomes

abbrev total : List ℕ → ℕ
total [] = 0
total (x ∷ xs) = x + total xs

abbrev nodes_step : Form-F ℕ → ℕ
nodes_step (Form-F.Word text) = 1
nodes_step (Form-F.Variable text) = 1
nodes_step (Form-F.Row text) = 1
nodes_step (Form-F.Numeral text) = 1
nodes_step (Form-F.Quoted text) = 1
nodes_step (Form-F.List counts) = total counts + 1

nodes : Form → ℕ
nodes = fold-Form ℕ nodes_step

nodes-List : (parts : List Form) → nodes (form.List parts) ≡ total (map nodes parts) + 1
unfolding nodes
nodes-List = fold-List ℕ nodes_step

among : {X : Type 0} (n : ℕ) (p : X → Bool) (size : X → ℕ) (xs : List X) → Each (λ x. p x ≡ true → n ≤ size x) xs → list_any p xs ≡ true
    → n ≤ total (map size xs)
among n p size [] each h = absurd (false_true h)
among n p size (x ∷ xs) each h = go (p x) (list_any p xs) (size x) (total (map size xs)) each.0 (among n p size xs each.1) h
  where
    go : (b c : Bool) (k l : ℕ) → (b ≡ true → n ≤ k) → (c ≡ true → n ≤ l) → (b || c) ≡ true → n ≤ k + l
    go true c k l here rest h = let a : n ≤ k = here refl in omega arith
    go false c k l here rest h = let a : n ≤ l = rest h in omega arith

nodes-bind-List : (u : Filling) (parts : List Form) → nodes (bind u (form.List parts)) ≡ total (map (λ f. nodes (bind u f)) parts) + 1
nodes-bind-List u parts = ap nodes (bind-List u parts) ∙ nodes-List (map (bind u) parts) ∙ ap (λ xs. total xs + 1) (sym (map_twice (bind u) nodes parts))

-- what a variable of a form becomes is no greater than what the form becomes
contained : (u : Filling) (name : Bytes) (f : Form) → occurs name f ≡ true → nodes (u name) ≤ nodes (bind u f)
contained u name = induction (λ f. occurs name f ≡ true → nodes (u name) ≤ nodes (bind u f)) (record {
  word = λ text h. absurd (false_true (sym (occurs-Word name text) ∙ h));
  variable = λ text h.
      let e : name ≡ text = (bytes_eq-Decides name text).0 (sym (occurs-Variable name text) ∙ h) in
      let same : nodes (u name) ≡ nodes (bind u (form.Variable text)) = ap nodes (ap u e ∙ sym (bind-Variable u text)) in
      omega arith;
  row = λ text h. absurd (false_true (sym (occurs-Row name text) ∙ h));
  numeral = λ text h. absurd (false_true (sym (occurs-Numeral name text) ∙ h));
  quoted = λ text h. absurd (false_true (sym (occurs-Quoted name text) ∙ h));
  list = λ parts each h.
      let inside : nodes (u name) ≤ total (map (λ f. nodes (bind u f)) parts) =
      among (nodes (u name)) (occurs name) (λ f. nodes (bind u f)) parts each (sym (occurs-List name parts) ∙ h) in
      let whole = nodes-bind-List u parts in
      omega (arith, whole);
})

-- and less where it stands in a list
inside_list : (u : Filling) (name : Bytes) (parts : List Form) → occurs name (form.List parts) ≡ true → nodes (u name) < nodes (bind u (form.List parts))
inside_list u name parts h =
    let each = each_of_all (λ f. occurs name f ≡ true → nodes (u name) ≤ nodes (bind u f)) (contained u name) parts in
    omega (arith, nodes-bind-List u parts, among (nodes (u name)) (occurs name) (λ f. nodes (bind u f)) parts each (sym (occurs-List name parts) ∙ h))

pub clash_occurs : (name : Bytes) (term : Form) → ((text : Bytes) → term ≡ form.Variable text → ⊥) → occurs name term ≡ true → HasNone (form.Variable name) term
clash_occurs name = induction (λ term. ((text : Bytes) → term ≡ form.Variable text → ⊥) → occurs name term ≡ true → HasNone (form.Variable name) term) (record {
  word = λ text other h. absurd (false_true (sym (occurs-Word name text) ∙ h));
  variable = λ text other h. absurd (other text refl);
  row = λ text other h. absurd (false_true (sym (occurs-Row name text) ∙ h));
  numeral = λ text other h. absurd (false_true (sym (occurs-Numeral name text) ∙ h));
  quoted = λ text other h. absurd (false_true (sym (occurs-Quoted name text) ∙ h));
  list = λ parts each other h u e.
      let less = inside_list u name parts h in
      let same : nodes (u name) ≡ nodes (bind u (form.List parts)) = ap nodes (sym (bind-Variable u name) ∙ e) in
      omega (arith, less, same);
})

-- ---- forms of different kinds

-- no variable and no list
abbrev pub IsAtom : Form → Type 0
IsAtom f = ((text : Bytes) → f ≡ form.Variable text → ⊥) × ((parts : List Form) → f ≡ form.List parts → ⊥)

-- what no two fillings do, one filling doesn't do either
pub none_together : (f s : Form) → HasNoneApart f s → HasNone f s
none_together f s none u e = none u u e

pub apart_flip : (f s : Form) → HasNoneApart f s → HasNoneApart s f
apart_flip f s none u v e = none v u (sym e)

none_flip : (f s : Form) → HasNone f s → HasNone s f
none_flip f s none u e = none u (sym e)

pub list_atom : (parts : List Form) (s : Form) → IsAtom s → HasNoneApart (form.List parts) s
list_atom parts s atom u v e = atom.1 (map (bind u) parts) (sym (bind_other v s atom.0 atom.1) ∙ sym e ∙ bind-List u parts)

pub atoms_apart : (f s : Form) → IsAtom f → IsAtom s → (f ≡ s → ⊥) → HasNoneApart f s
atoms_apart f s f_atom s_atom apart u v e = apart (sym (bind_other u f f_atom.0 f_atom.1) ∙ e ∙ bind_other v s s_atom.0 s_atom.1)

parts_same : (u v : Filling) (xs ys : List Form) → bind u (form.List xs) ≡ bind v (form.List ys) → map (bind u) xs ≡ map (bind v) ys
parts_same u v xs ys e = list_same _ _ (sym (bind-List u xs) ∙ e ∙ bind-List v ys)

pub lengths_apart : (xs ys : List Form) → (length xs ≡ length ys → ⊥) → HasNoneApart (form.List xs) (form.List ys)
lengths_apart xs ys apart u v e = apart (sym (length-map xs (bind u)) ∙ ap length (parts_same u v xs ys e) ∙ length-map ys (bind v))

part_same : (u v : Filling) (xs ys : List Form) (i : ℕ) (x y : Form) → i < length xs → i < length ys → x ≡ get_or xs i x → y ≡ get_or ys i y
    → bind u (form.List xs) ≡ bind v (form.List ys) → bind u x ≡ bind v y
part_same u v xs ys i x y in_xs in_ys x_is y_is e =
    ap (bind u) x_is ∙ sym (get_or-map (bind u) xs i x (bind u x) in_xs)
    ∙ ap (λ zs. get_or zs i (bind u x)) (parts_same u v xs ys e)
    ∙ get_or-map (bind v) ys i y (bind u x) in_ys ∙ ap (bind v) (sym y_is)

-- parts that clash keep their lists apart
pub part_apart : (xs ys : List Form) (i : ℕ) (x y : Form) → i < length xs → i < length ys → x ≡ get_or xs i x → y ≡ get_or ys i y
    → HasNoneApart x y → HasNoneApart (form.List xs) (form.List ys)
part_apart xs ys i x y in_xs in_ys x_is y_is none u v e = none u v (part_same u v xs ys i x y in_xs in_ys x_is y_is e)

-- ---- differences

or_flip : (a b : Bool) → (a || b) ≡ true → (b || a) ≡ true
or_flip true true h = refl
or_flip true false h = refl
or_flip false true h = refl
or_flip false false h = h

pub differs_flip : (f g : Form) (d : Difference) → Differs f g d → Differs g f d
differs_flip f g Same h = sym h
differs_flip f g Clash h = none_flip f g h
differs_flip f g (Bind name term) h = record {
  apart = h.apart;
  here = or_flip (occurs name.now f) (occurs name.now g) h.here;
  within = λ other inside. or_flip (occurs other f) (occurs other g) (h.within other inside);
  forced = λ u e. h.forced u (sym e);
  plain = λ p q. h.plain q p;
}

or_within : (a b c d : Bool) → (a ≡ true → c ≡ true) → (b ≡ true → d ≡ true) → (a || b) ≡ true → (c || d) ≡ true
or_within true b true d first second h = refl
or_within true b false d first second h = absurd (false_true (first refl))
or_within false b true d first second h = refl
or_within false b false d first second h = second h

part_occurs : (name : Bytes) (xs : List Form) (i : ℕ) (x : Form) → i < length xs → x ≡ get_or xs i x → occurs name x ≡ true → occurs name (form.List xs) ≡ true
part_occurs name xs i x in_xs x_is h = occurs-List name xs ∙ list_any_at (occurs name) xs i x in_xs (ap (occurs name) (sym x_is) ∙ h)

-- what stands between two parts stands between the lists
pub differs_part : (xs ys : List Form) (i : ℕ) (x y : Form) (d : Difference) → i < length xs → i < length ys → x ≡ get_or xs i x → y ≡ get_or ys i y
    → (d ≡ Same → ⊥) → Differs x y d → Differs (form.List xs) (form.List ys) d
differs_part xs ys i x y Same in_xs in_ys x_is y_is found h = absurd (found refl)
differs_part xs ys i x y Clash in_xs in_ys x_is y_is found h = λ u e. h u (part_same u u xs ys i x y in_xs in_ys x_is y_is e)
differs_part xs ys i x y (Bind name term) in_xs in_ys x_is y_is found h =
    let both : (v : Bytes) → (occurs v x || occurs v y) ≡ true → (occurs v (form.List xs) || occurs v (form.List ys)) ≡ true =
    λ v. or_within (occurs v x) (occurs v y) (occurs v (form.List xs)) (occurs v (form.List ys))
    (part_occurs v xs i x in_xs x_is) (part_occurs v ys i y in_ys y_is) in
    record {
      apart = h.apart;
      here = both name.now h.here;
      within = λ other inside. both other (h.within other inside);
      forced = λ u e. h.forced u (part_same u u xs ys i x y in_xs in_ys x_is y_is e);
      plain = λ p q. h.plain (plain-part xs i x in_xs x_is p) (plain-part ys i y in_ys y_is q);
    }

or_true : (b : Bool) → (b || true) ≡ true
or_true true = refl
or_true false = refl

pub binds_variable : (name : Bytes) (term : Form) → occurs name term ≡ false → Binds (form.Variable name) term name term
binds_variable name term apart =
    let itself : occurs name (form.Variable name) ≡ true = occurs-Variable name name ∙ (bytes_eq-Decides name name).1 refl in
    record {
      apart = apart;
      here = ap (λ b. b || occurs name term) itself;
      within = λ other inside. ap (λ b. occurs other (form.Variable name) || b) inside ∙ or_true (occurs other (form.Variable name));
      forced = λ u e. sym (bind-Variable u name) ∙ e;
      plain = λ p q. q;
    }
