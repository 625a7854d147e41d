-- Diagnostics of a form's lists by those of each list.
use Rattle.std.proofs.Common.{◌≡◌, ℕ, zero, suc, ◌+◌, ◌<◌, ◌≤◌, ◌⊎◌, List, [], ◌∷◌, ◌++◌, length, get_or, take, drop, refl, sym, ap, ap₂, subst, ◌∙◌, arith, inl, inr, length-append}
use Rattle.std.specs.Prelude.{Contains}
use Rattle.std.specs.List.{flat_map}
use Rattle.std.proofs.lemmas.List.{length-take-le}
use Rattle.std.proofs.lemmas.List.Elements.{Contains-append_left, Contains-append_right, Contains-append_cases}
use Rattle.std.proofs.Math.Seq.{get_or-append_seam}
use Rattle.kif_tree.specs.NameLaws.{lists-List, lists_other}
use Rattle.kif_tree.specs.Names.{lists}
use Rattle.kif_tree.specs.Terms.{Bytes}
use Rattle.kif_tree.specs.declared.form.Form.{Form}
use Rattle.kif_tree.specs.declared.form.Form.TheVariants as form
use Rattle.kif_tree.specs.declared.place.Located.{Located}
use Rattle.kif_tree.specs.declared.place.Place.{Place}
use Rattle.signatures.specs.Types.{AreTypes}
use Rattle.diagnose.specs.Arguments.{HasList, HasWrongCount}
use Rattle.diagnose.specs.Diagnostics.{IsOfArguments}
use Rattle.diagnose.specs.Found.{Adds, OfSome}
use Rattle.diagnose.specs.OfLists.{IsOfCount, IsOfTypes, IsOfHeaded, IsOfParts}
use Rattle.diagnose.specs.declared.diagnostic.Diagnostic.{Diagnostic}
use Rattle.diagnose.proofs.FoundLaws.{contains_first, contains_later, contains_cases, contains_nothing, adds_same, adds_both, adds_none, adds_all}

-- ---- of some list

-- what stands in one of several lists stands in all of them together
to_flat : {X Y : Type 0} (g : X → List Y) (xs : List X) (x : X) (y : Y) → Contains xs x → Contains (g x) y → Contains (flat_map g xs) y
to_flat g [] x y c k = absurd (contains_nothing x c)
to_flat {X = X} {Y = Y} g (first ∷ xs) x y c k = go (contains_cases first xs x c) (λ later. to_flat g xs x y later k)
  where
    go : (first ≡ x) ⊎ Contains xs x → (Contains xs x → Contains (flat_map g xs) y) → Contains (flat_map g (first ∷ xs)) y
    go (inl e) more = Contains-append_left (g first) (flat_map g xs) y (subst (λ (z : X). Contains (g z) y) (sym e) k)
    go (inr later) more = Contains-append_right (g first) (flat_map g xs) y (more later)

from_flat : {X Y : Type 0} (P : Y → Diagnostic → Type 0) (g : X → List Y) (xs : List X) (d : Diagnostic) (y : Y) → P y d → Contains (flat_map g xs) y → OfSome (λ x. OfSome P (g x)) xs d
from_flat P g [] d y p c = absurd (contains_nothing y c)
from_flat P g (first ∷ xs) d y p c = go (Contains-append_cases (g first) (flat_map g xs) y c) (λ later. from_flat P g xs d y p later)
  where
    go : Contains (g first) y ⊎ Contains (flat_map g xs) y → (Contains (flat_map g xs) y → OfSome (λ x. OfSome P (g x)) xs d) → OfSome (λ x. OfSome P (g x)) (first ∷ xs) d
    go (inl here) more = record { one = first; among = contains_first first xs; holds = record { one = y; among = here; holds = p } }
    go (inr later) more = let h = more later in record { one = h.one; among = contains_later first xs h.one h.among; holds = h.holds }

-- a list has its own and those of its parts
pub adds_of_list : (P : List Form → Diagnostic → Type 0) (f : Form) (parts first items : List Form) (i : ℕ) (old mid new : List Diagnostic) → f ≡ form.List parts → first ≡ parts → items ≡ parts → length items ≤ i
    → Adds (P first) old mid → Adds (OfSome (λ part. OfSome P (lists part)) (take i items)) mid new → Adds (OfSome P (lists f)) old new
adds_of_list P f parts first items i old mid new is one same end own inner =
    adds_same (λ d. P first d ⊎ OfSome (λ part. OfSome P (lists part)) items d) (OfSome P (lists f)) old new to back
    (adds_both (P first) (OfSome (λ part. OfSome P (lists part)) items) old mid new own (adds_all (λ part. OfSome P (lists part)) items i mid new end inner))
  where
    all : lists f ≡ first ∷ flat_map lists items
    all = ap lists is ∙ lists-List parts ∙ ap₂ ◌∷◌ (sym one) (ap (flat_map lists) (sym same))

    to : (d : Diagnostic) → P first d ⊎ OfSome (λ part. OfSome P (lists part)) items d → OfSome P (lists f) d
    to d (inl p) = record { one = first; among = subst (λ (ls : List (List Form)). Contains ls first) (sym all) (contains_first first (flat_map lists items)); holds = p }
    to d (inr h) = record {
      one = h.holds.one;
      among = subst (λ (ls : List (List Form)). Contains ls h.holds.one) (sym all)
          (contains_later first (flat_map lists items) h.holds.one (to_flat lists items h.one h.holds.one h.among h.holds.among));
      holds = h.holds.holds;
    }

    which : (d : Diagnostic) (one : List Form) → P one d → (first ≡ one) ⊎ Contains (flat_map lists items) one → P first d ⊎ OfSome (λ part. OfSome P (lists part)) items d
    which d one p (inl e) = inl (subst (λ (x : List Form). P x d) (sym e) p)
    which d one p (inr c) = inr (from_flat P lists items d one p c)

    back : (d : Diagnostic) → OfSome P (lists f) d → P first d ⊎ OfSome (λ part. OfSome P (lists part)) items d
    back d h = which d h.one h.holds (contains_cases first (flat_map lists items) h.one (subst (λ (ls : List (List Form)). Contains ls h.one) all h.among))

-- another form has none
pub adds_of_leaf : (P : List Form → Diagnostic → Type 0) (f : Form) (list : List Diagnostic) → ((parts : List Form) → f ≡ form.List parts → ⊥) → Adds (OfSome P (lists f)) list list
adds_of_leaf P f list other = adds_none (OfSome P (lists f)) list (λ d h. contains_nothing h.one (subst (λ (ls : List (List Form)). Contains ls h.one) (lists_other f other) h.among))

-- ---- the arguments of a list by number

pub split_at : {X : Type 0} (xs : List X) (i : ℕ) (x : X) → i < length xs → get_or xs i x ≡ x → xs ≡ take i xs ++ x ∷ drop (i + 1) xs
split_at [] i x lt is = absurd (omega (arith, lt))
split_at (y ∷ xs) zero x lt is = ap (λ z. z ∷ xs) is
split_at {X = X} (y ∷ xs) (suc i) x lt is =
    ap (λ (zs : List X). y ∷ zs) (split_at xs i x (omega (arith, lt)) is)
    ∙ ap (λ (n : ℕ). y ∷ (take i xs ++ x ∷ drop n (y ∷ xs))) (let e : suc (i + 1) ≡ suc i + 1 = omega arith in e)

-- ---- diagnostics of a form's arguments

module _ (forms : List Located) (place : Place) (f : Form) where
  count_to : (head : Bytes) (arguments : List Form) (d : Diagnostic) → HasList f head arguments → IsOfCount forms place head arguments d → IsOfArguments forms f d
  count_to head arguments d list h = inr (
    h.code,
    subst (λ (term : Bytes). HasWrongCount forms f term d.other) (sym h.term) (record {
      arguments = arguments;
      list = list;
      no_row = h.no_row;
      count = h.count;
      arity = h.arity;
      apart = h.apart;
      alone = h.alone;
    }),
  )

  types_to : (head : Bytes) (arguments : List Form) (d : Diagnostic) → HasList f head arguments → IsOfTypes forms place head arguments (length arguments) d → (d.place ≡ place) × IsOfArguments forms f d
  types_to head arguments d list h =
      let t = h.of_argument in let o = t.of_type in let w = o.holds in (
        w.at,
        inl (
          w.code,
          record {
            head = head;
            before = take h.index arguments;
            argument = h.argument;
            after = drop (h.index + 1) arguments;
            list = subst (HasList f head) (split_at arguments h.index h.argument h.within h.stands) list;
            types = t.types;
            are_types = subst (λ (n : ℕ). AreTypes forms head (n + 1) t.types) (sym (length-take-le h.index arguments (omega (arith, h.within)))) t.are_types;
            type = o.one;
            among = o.among;
            not_entity = w.misfit.not_entity;
            wrong = w.misfit.wrong;
            names = w.names;
          },
        ),
      )

  headed_to : (head : Bytes) (arguments : List Form) (d : Diagnostic) → HasList f head arguments → IsOfHeaded forms place head arguments d → (d.place ≡ place) × IsOfArguments forms f d
  headed_to head arguments d list (inl h) = (h.at, count_to head arguments d list h)
  headed_to head arguments d list (inr h) = types_to head arguments d list h

  to_arguments : (d : Diagnostic) → OfSome (IsOfParts forms place) (lists f) d → (d.place ≡ place) × IsOfArguments forms f d
  to_arguments d h =
      let p = h.holds in
      headed_to p.head p.arguments d (record { among = subst (λ (parts : List Form). Contains (lists f) parts) p.is h.among; not_logical = p.not_logical }) p.of_headed

  of_list : (head : Bytes) (arguments : List Form) (d : Diagnostic) → HasList f head arguments → IsOfHeaded forms place head arguments d → OfSome (IsOfParts forms place) (lists f) d
  of_list head arguments d list h = record {
    one = form.Word head ∷ arguments;
    among = list.among;
    holds = record { head = head; arguments = arguments; is = refl; not_logical = list.not_logical; of_headed = h };
  }

  from_arguments : (d : Diagnostic) → (d.place ≡ place) × IsOfArguments forms f d → OfSome (IsOfParts forms place) (lists f) d
  from_arguments d (at, inr (code, h)) = of_list d.term h.arguments d h.list (inl (record {
    at = at;
    code = code;
    no_row = h.no_row;
    count = h.count;
    arity = h.arity;
    apart = h.apart;
    term = refl;
    alone = h.alone;
  }))
  from_arguments d (at, inl (code, h)) = of_list h.head (h.before ++ h.argument ∷ h.after) d h.list (inr (record {
    index = length h.before;
    argument = h.argument;
    within = within;
    before_end = within;
    stands = get_or-append_seam h.before h.argument h.after h.argument;
    of_argument = record {
      types = h.types;
      are_types = h.are_types;
      of_type = record { one = h.type; among = h.among; holds = record { at = at; code = code; misfit = record { not_entity = h.not_entity; wrong = h.wrong }; names = h.names } };
    };
  }))
    where
      within : length h.before < length (h.before ++ h.argument ∷ h.after)
      within = omega (arith, length-append h.before (h.argument ∷ h.after))

  -- what is added for the lists of a form is what is told of its arguments
  pub adds_of_arguments : (old new : List Diagnostic) → Adds (OfSome (IsOfParts forms place) (lists f)) old new → Adds (λ d. (d.place ≡ place) × IsOfArguments forms f d) old new
  adds_of_arguments old new h = adds_same (OfSome (IsOfParts forms place) (lists f)) (λ d. (d.place ≡ place) × IsOfArguments forms f d) old new to_arguments from_arguments h
