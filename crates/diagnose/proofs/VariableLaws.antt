-- Faults of variables, as they are found.
use Rattle.std.proofs.Common.{◌≡◌, ℕ, ◌+◌, ◌<◌, ◌≤◌, ◌⊎◌, ◌||◌, ◌&&◌, not, List, [], ◌∷◌, ◌++◌, length, get_or, take, Bool, true, false, refl, sym, ap, ap₂, subst, ◌∙◌, arith, inl, inr}
use Rattle.std.specs.Prelude.{Contains, Option, None, codes, Result, Ok, Err, OnOk}
use Rattle.std.specs.List.{flat_map}
use Rattle.std.specs.Str.{bytes_eq}
use Rattle.std.proofs.lemmas.List.{take_more}
use Rattle.std.proofs.lemmas.List.Folds.{list_any-append}
use Rattle.kif_tree.specs.Names.{parts_in, bound, free, lists}
use Rattle.kif_tree.specs.Shape.{is_among, is_quantifier, is_quantifier_layer, lists_names_layer}
use Rattle.kif_tree.specs.Terms.{Bytes, same}
use Rattle.kif_tree.specs.declared.form.Form.{Form, out-Form}
use Rattle.kif_tree.specs.declared.form.Form.TheOpen.{Form-F}
use Rattle.kif_tree.specs.declared.form.Form.TheVariants as form
use Rattle.kif_tree.specs.declared.place.Place.{Place}
use Rattle.diagnose.proofs.FoundLaws.{contains_nothing, contains_first, contains_later, contains_cases, adds_none, adds_same, adds_both}
use Rattle.kif_tree.specs.NameLaws.{lists-List}
use Rattle.diagnose.proofs.FreeLaws.{or_none, same_variable, same_other, listed_more, contains_listed, listed_contains, not_listed, listed_not, quantifies, bound_quantified, bound_unquantified, quantifier_no_list, bound_names, listing, is_free_variable, is_free_other, is_free_quantified, is_free_parts, lists_within, within_lists, no_lists, lists_of_names}
use Rattle.diagnose.specs.Found.{Adds, OfSome}
use Rattle.diagnose.specs.VariableWalk.{is_listed, is_free, is_free_in, Collects, fault, IsOnlyIn, IsUnusedAt, IsFaultAt}
use Rattle.diagnose.specs.Variables.{IsFreeOnlyIn, with_prefix, implication, HasUnquantified, HasUnused}
use Rattle.diagnose.specs.declared.diagnostic.Diagnostic.{Diagnostic}

false_true : false ≡ true → ⊥
false_true e = cc

or_true : (b : Bool) → (b || true) ≡ true
or_true true = refl
or_true false = refl

or_twice : (a b c : Bool) → ((a || b) || c) ≡ (a || (b || c))
or_twice true b c = refl
or_twice false b c = refl

and_not : (a b c : Bool) → ((a && not b) && not c) ≡ (a && not (b || c))
and_not true true c = refl
and_not true false c = refl
and_not false b c = refl

-- ---- faults of names here and not there

pub adds_only_same : (code : ℕ) (place : Place) (one other two another : Bytes → Bool) (old new : List Diagnostic) → ((name : Bytes) → one name ≡ two name) → ((name : Bytes) → other name ≡ another name)
    → Adds (IsOnlyIn code place one other) old new → Adds (IsOnlyIn code place two another) old new
adds_only_same code place one other two another old new e k h =
    adds_same (IsOnlyIn code place one other) (IsOnlyIn code place two another) old new
    (λ d o. record { name = o.name; in_one = sym (e o.name) ∙ o.in_one; not_in_other = sym (k o.name) ∙ o.not_in_other; is = o.is })
    (λ d o. record { name = o.name; in_one = e o.name ∙ o.in_one; not_in_other = k o.name ∙ o.not_in_other; is = o.is })
    h

pub adds_only_more : (code : ℕ) (place : Place) (one more all other : Bytes → Bool) (old mid new : List Diagnostic) → ((name : Bytes) → all name ≡ (one name || more name))
    → Adds (IsOnlyIn code place one other) old mid → Adds (IsOnlyIn code place more other) mid new → Adds (IsOnlyIn code place all other) old new
adds_only_more code place one more all other old mid new e h k =
    adds_same (λ d. IsOnlyIn code place one other d ⊎ IsOnlyIn code place more other d) (IsOnlyIn code place all other) old new to back
    (adds_both (IsOnlyIn code place one other) (IsOnlyIn code place more other) old mid new h k)
  where
    to : (d : Diagnostic) → IsOnlyIn code place one other d ⊎ IsOnlyIn code place more other d → IsOnlyIn code place all other d
    to d (inl o) = record { name = o.name; in_one = e o.name ∙ ap (λ b. b || more o.name) o.in_one; not_in_other = o.not_in_other; is = o.is }
    to d (inr o) = record { name = o.name; in_one = e o.name ∙ ap (λ b. one o.name || b) o.in_one ∙ or_true (one o.name); not_in_other = o.not_in_other; is = o.is }

    which : (d : Diagnostic) (o : IsOnlyIn code place all other d) (b : Bool) → one o.name ≡ b → (b || more o.name) ≡ true → IsOnlyIn code place one other d ⊎ IsOnlyIn code place more other d
    which d o true is here = inl (record { name = o.name; in_one = is; not_in_other = o.not_in_other; is = o.is })
    which d o false is here = inr (record { name = o.name; in_one = here; not_in_other = o.not_in_other; is = o.is })

    back : (d : Diagnostic) → IsOnlyIn code place all other d → IsOnlyIn code place one other d ⊎ IsOnlyIn code place more other d
    back d o = which d o (one o.name) refl (sym (e o.name) ∙ o.in_one)

-- ---- loops over the names that a quantifier lists

pub listed_step : (names : List Form) (i : ℕ) (f : Form) (text : Bytes) → i < length names → f ≡ get_or names i f → f ≡ form.Variable text → (name : Bytes)
    → is_listed (take (i + 1) names) name ≡ (is_listed (take i names) name || bytes_eq name text)
listed_step names i f text lt is variable name = listed_more names i f lt is name ∙ ap (λ b. is_listed (take i names) name || b) (same_variable name f text variable)

pub listed_skip : (names : List Form) (i : ℕ) (f : Form) → i < length names → f ≡ get_or names i f → ((text : Bytes) → f ≡ form.Variable text → ⊥) → (name : Bytes)
    → is_listed (take (i + 1) names) name ≡ is_listed (take i names) name
listed_skip names i f lt is apart name = listed_more names i f lt is name ∙ ap (λ b. is_listed (take i names) name || b) (same_other name f apart) ∙ or_none (is_listed (take i names) name)

abbrev pub Drops : List Bytes → List Form → List Bytes → Type 0
Drops old names new = (name : Bytes) → is_among new name ≡ (is_among old name && not (is_listed names name))

pub drops_step : (names : List Form) (i : ℕ) (f : Form) (text : Bytes) (old mid new : List Bytes) → i < length names → f ≡ get_or names i f → f ≡ form.Variable text
    → Drops old (take i names) mid → ((name : Bytes) → is_among new name ≡ (is_among mid name && not (bytes_eq name text))) → Drops old (take (i + 1) names) new
drops_step names i f text old mid new lt is variable h k = λ name.
    k name ∙ ap (λ b. b && not (bytes_eq name text)) (h name) ∙ and_not (is_among old name) (is_listed (take i names) name) (bytes_eq name text)
    ∙ ap (λ b. is_among old name && not b) (sym (listed_step names i f text lt is variable name))

pub drops_skip : (names : List Form) (i : ℕ) (f : Form) (old mid : List Bytes) → i < length names → f ≡ get_or names i f → ((text : Bytes) → f ≡ form.Variable text → ⊥)
    → Drops old (take i names) mid → Drops old (take (i + 1) names) mid
drops_skip names i f old mid lt is apart h = λ name. h name ∙ ap (λ b. is_among old name && not b) (sym (listed_skip names i f lt is apart name))

pub unused_step : (place : Place) (names : List Form) (i : ℕ) (f : Form) (text : Bytes) (set : List Bytes) (old mid new : List Diagnostic) → i < length names → f ≡ get_or names i f → f ≡ form.Variable text
    → Adds (IsOnlyIn 7 place (is_listed (take i names)) (is_among set)) old mid → Adds (IsOnlyIn 7 place (λ other. bytes_eq other text) (is_among set)) mid new
    → Adds (IsOnlyIn 7 place (is_listed (take (i + 1) names)) (is_among set)) old new
unused_step place names i f text set old mid new lt is variable h k =
    adds_only_more 7 place (is_listed (take i names)) (λ other. bytes_eq other text) (is_listed (take (i + 1) names)) (is_among set) old mid new (listed_step names i f text lt is variable) h k

pub unused_skip : (place : Place) (names : List Form) (i : ℕ) (f : Form) (set : List Bytes) (old mid : List Diagnostic) → i < length names → f ≡ get_or names i f → ((text : Bytes) → f ≡ form.Variable text → ⊥)
    → Adds (IsOnlyIn 7 place (is_listed (take i names)) (is_among set)) old mid → Adds (IsOnlyIn 7 place (is_listed (take (i + 1) names)) (is_among set)) old mid
unused_skip place names i f set old mid lt is apart h =
    adds_only_same 7 place (is_listed (take i names)) (is_among set) (is_listed (take (i + 1) names)) (is_among set) old mid (λ name. sym (listed_skip names i f lt is apart name)) (λ name. refl) h

-- ---- one fault

abbrev diagnostic : ℕ → Place → Bytes → Option Place → Diagnostic
diagnostic code place term other = record { code = code; place = place; term = term; other = other }

fault_is : (code : ℕ) (place : Place) (name : Bytes) (d : Diagnostic) → d.code ≡ code → d.place ≡ place → d.term ≡ with_prefix name → d.other ≡ None → d ≡ fault code place name
fault_is code place name d c p t o =
    ap (λ x. diagnostic x d.place d.term d.other) c ∙ ap (λ x. diagnostic code x d.term d.other) p ∙ ap (λ x. diagnostic code place x d.other) t
    ∙ ap (λ x. diagnostic code place (with_prefix name) x) o

-- ---- faults of quantifiers

moved : (f g : Form) (term : Bytes) (other : Option Place) (u : HasUnused f term other) → Contains (lists g) (u.quantifier ∷ u.variables ∷ u.body ∷ []) → HasUnused g term other
moved f g term other u c = record { quantifier = u.quantifier; variables = u.variables; body = u.body; list = c; name = u.name; quantified = u.quantified; unused = u.unused; names = u.names; alone = u.alone }

-- what is no list has none
pub unused_leaf : (place : Place) (f : Form) → ((parts : List Form) → f ≡ form.List parts → ⊥) → (d : Diagnostic) → IsUnusedAt place f d → ⊥
unused_leaf place f apart d (at, (code, u)) = no_lists f (u.quantifier ∷ u.variables ∷ u.body ∷ []) apart u.list

of_list : (parts list : List Form) → Contains (lists (form.List parts)) list → (parts ≡ list) ⊎ Contains (flat_map lists parts) list
of_list parts list c = contains_cases parts (flat_map lists parts) list (subst (λ (ls : List (List Form)). Contains ls list) (lists-List parts) c)

own_list : (parts : List Form) → Contains (lists (form.List parts)) parts
own_list parts = subst (λ (ls : List (List Form)). Contains ls parts) (sym (lists-List parts)) (contains_first parts (flat_map lists parts))

list_of_part : (parts : List Form) (part : Form) (list : List Form) → Contains parts part → Contains (lists part) list → Contains (lists (form.List parts)) list
list_of_part parts part list c k = subst (λ (ls : List (List Form)). Contains ls list) (sym (lists-List parts)) (contains_later parts (flat_map lists parts) list (within_lists parts part list c k))

-- a list that quantifies nothing has those of its parts
unused_to : (place : Place) (parts : List Form) (d : Diagnostic) → OfSome (IsUnusedAt place) parts d → IsUnusedAt place (form.List parts) d
unused_to place parts d h =
    let u : HasUnused h.one d.term d.other = h.holds.1.1 in
    (h.holds.0, (h.holds.1.0, moved h.one (form.List parts) d.term d.other u (list_of_part parts h.one (u.quantifier ∷ u.variables ∷ u.body ∷ []) h.among u.list)))

unused_back : (place : Place) (parts : List Form) → bound parts ≡ [] → (d : Diagnostic) → IsUnusedAt place (form.List parts) d → OfSome (IsUnusedAt place) parts d
unused_back place parts empty d (at, (code, u)) = go (of_list parts (u.quantifier ∷ u.variables ∷ u.body ∷ []) u.list)
  where
    go : (parts ≡ u.quantifier ∷ u.variables ∷ u.body ∷ []) ⊎ Contains (flat_map lists parts) (u.quantifier ∷ u.variables ∷ u.body ∷ []) → OfSome (IsUnusedAt place) parts d
    go (inl e) = absurd (contains_nothing (form.Variable u.name) (subst (λ (fs : List Form). Contains fs (form.Variable u.name)) (ap bound (sym e) ∙ empty) u.quantified))
    go (inr c) = let w = lists_within parts (u.quantifier ∷ u.variables ∷ u.body ∷ []) c in record { one = w.part; among = w.among; holds = (at, (code, moved (form.List parts) w.part d.term d.other u w.has)) }

pub adds_of_parts : (place : Place) (parts : List Form) (old new : List Diagnostic) → bound parts ≡ [] → Adds (OfSome (IsUnusedAt place) parts) old new → Adds (IsUnusedAt place (form.List parts)) old new
adds_of_parts place parts old new empty h = adds_same (OfSome (IsUnusedAt place) parts) (IsUnusedAt place (form.List parts)) old new (unused_to place parts) (unused_back place parts empty) h

-- a quantifier has its own and those of its body
abbrev IsOfQuantifier : Place → Form → Form → Diagnostic → Type 0
IsOfQuantifier place names body d = IsUnusedAt place body d ⊎ IsOnlyIn 7 place (is_listed (parts_in names)) (is_free body) d

quantifier_to : (place : Place) (head names body : Form) → quantifies head names ≡ true → (d : Diagnostic) → IsOfQuantifier place names body d → IsUnusedAt place (form.List (head ∷ names ∷ body ∷ [])) d
quantifier_to place head names body binds d (inl h) =
    unused_to place (head ∷ names ∷ body ∷ []) d
    (record { one = body; among = contains_later head (names ∷ body ∷ []) body (contains_later names (body ∷ []) body (contains_first body [])); holds = h })
quantifier_to place head names body binds d (inr o) = (
  ap (λ (e : Diagnostic). e.place) o.is,
  (
    ap (λ (e : Diagnostic). e.code) o.is,
    record {
      quantifier = head;
      variables = names;
      body = body;
      list = own_list (head ∷ names ∷ body ∷ []);
      name = o.name;
      quantified = subst (λ (fs : List Form). Contains fs (form.Variable o.name)) (sym (bound_quantified head names body binds)) (contains_listed (parts_in names) o.name o.in_one);
      unused = not_listed (free body) o.name o.not_in_other;
      names = ap (λ (e : Diagnostic). e.term) o.is;
      alone = ap (λ (e : Diagnostic). e.other) o.is;
    },
  ),
)

last_of : (a b c x y z : Form) → a ∷ b ∷ c ∷ [] ≡ x ∷ y ∷ z ∷ [] → c ≡ z
last_of a b c x y z e = cc

middle_of : (a b c x y z : Form) → a ∷ b ∷ c ∷ [] ≡ x ∷ y ∷ z ∷ [] → b ≡ y
middle_of a b c x y z e = cc

head_of : (a b c x y z : Form) → a ∷ b ∷ c ∷ [] ≡ x ∷ y ∷ z ∷ [] → a ≡ x
head_of a b c x y z e = cc

quantifier_back : (place : Place) (head names body : Form) → quantifies head names ≡ true → (d : Diagnostic) → IsUnusedAt place (form.List (head ∷ names ∷ body ∷ [])) d → IsOfQuantifier place names body d
quantifier_back place head names body binds d (at, (code, u)) = go (of_list (head ∷ names ∷ body ∷ []) list u.list)
  where
    list : List Form
    list = u.quantifier ∷ u.variables ∷ u.body ∷ []

    both : (a b : Bool) → (a && b) ≡ true → (a ≡ true) × (b ≡ true)
    both true b h = (refl, h)
    both false b h = absurd (false_true h)

    parts_bind : (is_quantifier head ≡ true) × (lists_names_layer (out-Form names) ≡ true)
    parts_bind = both (is_quantifier head) (lists_names_layer (out-Form names)) binds

    own : head ∷ names ∷ body ∷ [] ≡ list → IsOnlyIn 7 place (is_listed (parts_in names)) (is_free body) d
    own e = record {
      name = u.name;
      in_one = listed_contains (parts_in names) u.name (subst (λ (fs : List Form). Contains fs (form.Variable u.name)) (ap bound (sym e) ∙ bound_quantified head names body binds) u.quantified);
      not_in_other = listed_not (free body) u.name (λ k. u.unused (subst (λ (f : Form). Contains (free f) (form.Variable u.name)) (last_of head names body u.quantifier u.variables u.body e) k));
      is = fault_is 7 place u.name d code at u.names u.alone;
    }

    in_names : list ≡ parts_in names → ⊥
    in_names e = contains_nothing (form.Variable u.name) (subst (λ (fs : List Form). Contains fs (form.Variable u.name)) (ap bound e ∙ bound_names (parts_in names) (listing names parts_bind.1).1) u.quantified)

    third : (part : Form) → Contains (lists part) list → (body ≡ part) ⊎ Contains [] part → IsOfQuantifier place names body d
    third part k (inl e) = inl (at, (code, moved (form.List (head ∷ names ∷ body ∷ [])) body d.term d.other u (subst (λ (f : Form). Contains (lists f) list) (sym e) k)))
    third part k (inr c) = absurd (contains_nothing part c)

    second : (part : Form) → Contains (lists part) list → (names ≡ part) ⊎ Contains (body ∷ []) part → IsOfQuantifier place names body d
    second part k (inl e) = absurd (in_names (lists_of_names names parts_bind.1 list (subst (λ (f : Form). Contains (lists f) list) (sym e) k)))
    second part k (inr c) = third part k (contains_cases body [] part c)

    first : (part : Form) → Contains (lists part) list → (head ≡ part) ⊎ Contains (names ∷ body ∷ []) part → IsOfQuantifier place names body d
    first part k (inl e) = absurd (no_lists head list (quantifier_no_list head parts_bind.0) (subst (λ (f : Form). Contains (lists f) list) (sym e) k))
    first part k (inr c) = second part k (contains_cases names (body ∷ []) part c)

    go : (head ∷ names ∷ body ∷ [] ≡ list) ⊎ Contains (flat_map lists (head ∷ names ∷ body ∷ [])) list → IsOfQuantifier place names body d
    go (inl e) = inr (own e)
    go (inr c) = let w = lists_within (head ∷ names ∷ body ∷ []) list c in first w.part w.has (contains_cases head (names ∷ body ∷ []) w.part w.among)

pub adds_of_quantifier : (place : Place) (head names body : Form) (old mid new : List Diagnostic) → quantifies head names ≡ true
    → Adds (IsUnusedAt place body) old mid → Adds (IsOnlyIn 7 place (is_listed (parts_in names)) (is_free body)) mid new → Adds (IsUnusedAt place (form.List (head ∷ names ∷ body ∷ []))) old new
adds_of_quantifier place head names body old mid new binds h k =
    adds_same (IsOfQuantifier place names body) (IsUnusedAt place (form.List (head ∷ names ∷ body ∷ []))) old new (quantifier_to place head names body binds) (quantifier_back place head names body binds)
    (adds_both (IsUnusedAt place body) (IsOnlyIn 7 place (is_listed (parts_in names)) (is_free body)) old mid new h k)

-- ---- implications

abbrev plain : Bytes → Type 0
plain word = is_quantifier_layer (Form-F.Word word) ≡ false

word_no_list : (word : Bytes) (parts : List Form) → form.Word word ≡ form.List parts → ⊥
word_no_list word parts e = let layers : Form-F.Word word ≡ Form-F.List parts = sym (form.outs-Word word) ∙ ap out-Form e ∙ form.outs-List parts in absurd (cc)

plain_bound : (word : Bytes) (first second : Form) → plain word → bound (form.Word word ∷ first ∷ second ∷ []) ≡ []
plain_bound word first second p = bound_unquantified (form.Word word) first second (ap (λ b. b && lists_names_layer (out-Form first)) (ap is_quantifier_layer (form.outs-Word word) ∙ p))

adds_of_two : (place : Place) (word : Bytes) (first second : Form) (old mid new : List Diagnostic) → plain word → Adds (IsUnusedAt place first) old mid → Adds (IsUnusedAt place second) mid new
    → Adds (IsUnusedAt place (implication word first second)) old new
adds_of_two place word first second old mid new p h k =
    adds_same (λ d. IsUnusedAt place first d ⊎ IsUnusedAt place second d) (IsUnusedAt place (implication word first second)) old new to back (adds_both (IsUnusedAt place first) (IsUnusedAt place second) old mid new h k)
  where
    parts : List Form
    parts = form.Word word ∷ first ∷ second ∷ []

    to : (d : Diagnostic) → IsUnusedAt place first d ⊎ IsUnusedAt place second d → IsUnusedAt place (form.List parts) d
    to d (inl u) = unused_to place parts d (record { one = first; among = contains_later (form.Word word) (first ∷ second ∷ []) first (contains_first first (second ∷ [])); holds = u })
    to d (inr u) =
        unused_to place parts d
        (record { one = second; among = contains_later (form.Word word) (first ∷ second ∷ []) second (contains_later first (second ∷ []) second (contains_first second [])); holds = u })

    third : (d : Diagnostic) (part : Form) → IsUnusedAt place part d → (second ≡ part) ⊎ Contains [] part → IsUnusedAt place first d ⊎ IsUnusedAt place second d
    third d part u (inl e) = inr (subst (λ (f : Form). IsUnusedAt place f d) (sym e) u)
    third d part u (inr c) = absurd (contains_nothing part c)

    next : (d : Diagnostic) (part : Form) → IsUnusedAt place part d → (first ≡ part) ⊎ Contains (second ∷ []) part → IsUnusedAt place first d ⊎ IsUnusedAt place second d
    next d part u (inl e) = inl (subst (λ (f : Form). IsUnusedAt place f d) (sym e) u)
    next d part u (inr c) = third d part u (contains_cases second [] part c)

    one : (d : Diagnostic) (part : Form) → IsUnusedAt place part d → (form.Word word ≡ part) ⊎ Contains (first ∷ second ∷ []) part → IsUnusedAt place first d ⊎ IsUnusedAt place second d
    one d part u (inl e) = absurd (unused_leaf place (form.Word word) (word_no_list word) d (subst (λ (f : Form). IsUnusedAt place f d) (sym e) u))
    one d part u (inr c) = next d part u (contains_cases first (second ∷ []) part c)

    back : (d : Diagnostic) → IsUnusedAt place (form.List parts) d → IsUnusedAt place first d ⊎ IsUnusedAt place second d
    back d u = let s = unused_back place parts (plain_bound word first second p) d u in one d s.one s.holds (contains_cases (form.Word word) (first ∷ second ∷ []) s.one s.among)

lists_alike : (xs ys : List Form) → form.List xs ≡ form.List ys → xs ≡ ys
lists_alike xs ys e = let layers : Form-F.List xs ≡ Form-F.List ys = sym (form.outs-List xs) ∙ ap out-Form e ∙ form.outs-List ys in cc

words_alike : (a b : Bytes) → form.Word a ≡ form.Word b → a ≡ b
words_alike a b e = let layers : Form-F.Word a ≡ Form-F.Word b = sym (form.outs-Word a) ∙ ap out-Form e ∙ form.outs-Word b in cc

abbrev Alike : Bytes → Bytes → Form → Form → Form → Form → Type 0
Alike a b first second one two = (a ≡ b) × ((first ≡ one) × (second ≡ two))

implications_alike : (a b : Bytes) (first second one two : Form) → implication a first second ≡ implication b one two → Alike a b first second one two
implications_alike a b first second one two e =
    let parts : form.Word a ∷ first ∷ second ∷ [] ≡ form.Word b ∷ one ∷ two ∷ [] = lists_alike (form.Word a ∷ first ∷ second ∷ []) (form.Word b ∷ one ∷ two ∷ []) e in
    (words_alike a b (head_of (form.Word a) first second (form.Word b) one two parts), (middle_of (form.Word a) first second (form.Word b) one two parts, last_of (form.Word a) first second (form.Word b) one two parts))

words_differ : codes "=>" ≡ codes "<=>" → ⊥
words_differ e = absurd (cc)

abbrev IsOpenIn : Place → Form → Form → Diagnostic → Type 0
IsOpenIn place one other d = IsOnlyIn 6 place (is_free one) (is_free other) d

-- free in one, by the definition and by its test
only_free : (one other : Form) (name : Bytes) → is_free one name ≡ true → is_free other name ≡ false → IsFreeOnlyIn one other name
only_free one other name h k = (contains_listed (free one) name h, not_listed (free other) name k)

open_in : (place : Place) (one other : Form) (d : Diagnostic) (name : Bytes) → d.place ≡ place → d.code ≡ 6 → d.term ≡ with_prefix name → d.other ≡ None → IsFreeOnlyIn one other name → IsOpenIn place one other d
open_in place one other d name at code term alone h =
    record { name = name; in_one = listed_contains (free one) name h.0; not_in_other = listed_not (free other) name h.1; is = fault_is 6 place name d code at term alone }

alike : (first second one two : Form) (name : Bytes) → first ≡ one → second ≡ two → IsFreeOnlyIn one two name → IsFreeOnlyIn first second name
alike first second one two name e k h = subst (λ (f : Form). IsFreeOnlyIn f second name) (sym e) (subst (λ (f : Form). IsFreeOnlyIn one f name) (sym k) h)

abbrev IsOpenAt : Place → Form → Diagnostic → Type 0
IsOpenAt place f d = (d.place ≡ place) × ((d.code ≡ 6) × HasUnquantified f d.term d.other)

implication_to : (place : Place) (first second : Form) (d : Diagnostic) → IsOpenIn place second first d → IsOpenAt place (implication (codes "=>") first second) d
implication_to place first second d o = (
  ap (λ (e : Diagnostic). e.place) o.is,
  (
    ap (λ (e : Diagnostic). e.code) o.is,
    record {
      first = first;
      second = second;
      name = o.name;
      free_in_one = inl (refl, only_free second first o.name o.in_one o.not_in_other);
      names = ap (λ (e : Diagnostic). e.term) o.is;
      alone = ap (λ (e : Diagnostic). e.other) o.is;
    },
  ),
)

implication_back : (place : Place) (first second : Form) (d : Diagnostic) → IsOpenAt place (implication (codes "=>") first second) d → IsOpenIn place second first d
implication_back place first second d (at, (code, u)) = go u.free_in_one
  where
    go : ((implication (codes "=>") first second ≡ implication (codes "=>") u.first u.second) × IsFreeOnlyIn u.second u.first u.name)
        ⊎ ((implication (codes "=>") first second ≡ implication (codes "<=>") u.first u.second) × (IsFreeOnlyIn u.first u.second u.name ⊎ IsFreeOnlyIn u.second u.first u.name)) → IsOpenIn place second first d
    go (inl (e, h)) =
        let same_parts = implications_alike (codes "=>") (codes "=>") first second u.first u.second e in
        open_in place second first d u.name at code u.names u.alone (alike second first u.second u.first u.name same_parts.1.1 same_parts.1.0 h)
    go (inr (e, h)) = absurd (words_differ (implications_alike (codes "=>") (codes "<=>") first second u.first u.second e).0)

equivalence_to : (place : Place) (first second : Form) (d : Diagnostic) → IsOpenIn place second first d ⊎ IsOpenIn place first second d → IsOpenAt place (implication (codes "<=>") first second) d
equivalence_to place first second d (inl o) = (
  ap (λ (e : Diagnostic). e.place) o.is,
  (
    ap (λ (e : Diagnostic). e.code) o.is,
    record {
      first = first;
      second = second;
      name = o.name;
      free_in_one = inr (refl, inr (only_free second first o.name o.in_one o.not_in_other));
      names = ap (λ (e : Diagnostic). e.term) o.is;
      alone = ap (λ (e : Diagnostic). e.other) o.is;
    },
  ),
)
equivalence_to place first second d (inr o) = (
  ap (λ (e : Diagnostic). e.place) o.is,
  (
    ap (λ (e : Diagnostic). e.code) o.is,
    record {
      first = first;
      second = second;
      name = o.name;
      free_in_one = inr (refl, inl (only_free first second o.name o.in_one o.not_in_other));
      names = ap (λ (e : Diagnostic). e.term) o.is;
      alone = ap (λ (e : Diagnostic). e.other) o.is;
    },
  ),
)

equivalence_back : (place : Place) (first second : Form) (d : Diagnostic) → IsOpenAt place (implication (codes "<=>") first second) d → IsOpenIn place second first d ⊎ IsOpenIn place first second d
equivalence_back place first second d (at, (code, u)) = go u.free_in_one
  where
    which : Alike (codes "<=>") (codes "<=>") first second u.first u.second → IsFreeOnlyIn u.first u.second u.name ⊎ IsFreeOnlyIn u.second u.first u.name → IsOpenIn place second first d ⊎ IsOpenIn place first second d
    which (w, (e, k)) (inl h) = inr (open_in place first second d u.name at code u.names u.alone (alike first second u.first u.second u.name e k h))
    which (w, (e, k)) (inr h) = inl (open_in place second first d u.name at code u.names u.alone (alike second first u.second u.first u.name k e h))

    go : ((implication (codes "<=>") first second ≡ implication (codes "=>") u.first u.second) × IsFreeOnlyIn u.second u.first u.name)
        ⊎ ((implication (codes "<=>") first second ≡ implication (codes "<=>") u.first u.second) × (IsFreeOnlyIn u.first u.second u.name ⊎ IsFreeOnlyIn u.second u.first u.name)) → IsOpenIn place second first d ⊎ IsOpenIn place first second d
    go (inl (e, h)) = absurd (words_differ (sym (implications_alike (codes "<=>") (codes "=>") first second u.first u.second e).0))
    go (inr (e, h)) = which (implications_alike (codes "<=>") (codes "<=>") first second u.first u.second e) h

-- ---- all faults of a form's variables

faults_to : (place : Place) (f : Form) (d : Diagnostic) → IsUnusedAt place f d ⊎ IsOpenAt place f d → IsFaultAt place f d
faults_to place f d (inl (at, u)) = (at, inr u)
faults_to place f d (inr (at, u)) = (at, inl u)

faults_back : (place : Place) (f : Form) (d : Diagnostic) → IsFaultAt place f d → IsUnusedAt place f d ⊎ IsOpenAt place f d
faults_back place f d (at, inl u) = inr (at, u)
faults_back place f d (at, inr u) = inl (at, u)

adds_faults : (place : Place) (f : Form) (old mid new : List Diagnostic) → Adds (IsUnusedAt place f) old mid → Adds (IsOpenAt place f) mid new → Adds (IsFaultAt place f) old new
adds_faults place f old mid new h k =
    adds_same (λ d. IsUnusedAt place f d ⊎ IsOpenAt place f d) (IsFaultAt place f) old new (faults_to place f) (faults_back place f) (adds_both (IsUnusedAt place f) (IsOpenAt place f) old mid new h k)

-- the set that began empty has just the free variables
collected : (f : Form) (start set : List Bytes) → start ≡ [] → Collects (is_free f) start set → (name : Bytes) → is_among set name ≡ is_free f name
collected f start set none h name = h name ∙ ap (λ ws. is_among ws name || is_free f name) none

pub adds_implication : (place : Place) (first second : Form) (none also in_first in_second : List Bytes) (old mid late new : List Diagnostic) → none ≡ [] → also ≡ []
    → Collects (is_free first) none in_first → Collects (is_free second) also in_second → Adds (IsUnusedAt place first) old mid → Adds (IsUnusedAt place second) mid late
    → Adds (IsOnlyIn 6 place (is_among in_second) (is_among in_first)) late new → Adds (IsFaultAt place (implication (codes "=>") first second)) old new
adds_implication place first second none also in_first in_second old mid late new e k h g one two three =
    adds_faults place (implication (codes "=>") first second) old late new (adds_of_two place (codes "=>") first second old mid late refl one two)
    (adds_same (IsOpenIn place second first) (IsOpenAt place (implication (codes "=>") first second)) late new (implication_to place first second) (implication_back place first second)
    (adds_only_same 6 place (is_among in_second) (is_among in_first) (is_free second) (is_free first) late new (collected second also in_second k g) (collected first none in_first e h) three))

pub adds_equivalence : (place : Place) (first second : Form) (none also in_first in_second kept : List Bytes) (old mid late last new : List Diagnostic) → none ≡ [] → also ≡ []
    → Collects (is_free first) none in_first → Collects (is_free second) also in_second → Adds (IsUnusedAt place first) old mid → Adds (IsUnusedAt place second) mid late
    → Adds (IsOnlyIn 6 place (is_among in_second) (is_among in_first)) late last → ((name : Bytes) → is_among kept name ≡ is_among in_second name)
    → Adds (IsOnlyIn 6 place (is_among in_first) (is_among kept)) last new → Adds (IsFaultAt place (implication (codes "<=>") first second)) old new
adds_equivalence place first second none also in_first in_second kept old mid late last new e k h g one two three back four =
    adds_faults place (implication (codes "<=>") first second) old late new (adds_of_two place (codes "<=>") first second old mid late refl one two)
    (adds_same (λ d. IsOpenIn place second first d ⊎ IsOpenIn place first second d) (IsOpenAt place (implication (codes "<=>") first second)) late new (equivalence_to place first second)
    (equivalence_back place first second)
    (adds_both (IsOpenIn place second first) (IsOpenIn place first second) late last new
    (adds_only_same 6 place (is_among in_second) (is_among in_first) (is_free second) (is_free first) late last (collected second also in_second k g) (collected first none in_first e h) three)
    (adds_only_same 6 place (is_among in_first) (is_among kept) (is_free first) (is_free second) last new (collected first none in_first e h)
    (λ name. back name ∙ collected second also in_second k g name) four)))

-- ---- what each function has to show

pub on_ok : {T E : Type 0} (result : Result T E) (P Q : Type 0) → (P → Q) → OnOk result P → OnOk result Q
on_ok (Ok x) P Q f h = f h
on_ok (Err e) P Q f h = h

-- one more name of a set was looked at
pub missing_names : (word text : Bytes) (names kept more from left : List Bytes) → from ≡ word ∷ left → text ≡ word → ((name : Bytes) → (is_among kept name || is_among from name) ≡ is_among names name)
    → ((name : Bytes) → is_among more name ≡ (is_among kept name || bytes_eq name text)) → (name : Bytes) → (is_among more name || is_among left name) ≡ is_among names name
missing_names word text names kept more from left popped same h k = λ name.
    ap (λ b. b || is_among left name) (k name ∙ ap (λ t. is_among kept name || bytes_eq name t) same)
    ∙ or_twice (is_among kept name) (bytes_eq name word) (is_among left name)
    ∙ ap (λ ws. is_among kept name || is_among ws name) (sym popped) ∙ h name

pub missing_step : (place : Place) (word text also : Bytes) (kept more other : List Bytes) (old mid new : List Diagnostic) → text ≡ word → also ≡ word
    → Adds (IsOnlyIn 6 place (is_among kept) (is_among other)) old mid → Adds (IsOnlyIn 6 place (λ name. bytes_eq name text) (is_among other)) mid new
    → ((name : Bytes) → is_among more name ≡ (is_among kept name || bytes_eq name also)) → Adds (IsOnlyIn 6 place (is_among more) (is_among other)) old new
missing_step place word text also kept more other old mid new same too h k added =
    adds_only_more 6 place (is_among kept) (λ name. bytes_eq name text) (is_among more) (is_among other) old mid new
    (λ name. added name ∙ ap (λ t. is_among kept name || bytes_eq name t) (too ∙ sym same)) h k

pub missing_all : (place : Place) (names kept left other : List Bytes) (old new : List Diagnostic) → left ≡ [] → ((name : Bytes) → (is_among kept name || is_among left name) ≡ is_among names name)
    → Adds (IsOnlyIn 6 place (is_among kept) (is_among other)) old new → Adds (IsOnlyIn 6 place (is_among names) (is_among other)) old new
missing_all place names kept left other old new none h k =
    adds_only_same 6 place (is_among kept) (is_among other) (is_among names) (is_among other) old new
    (λ name. sym (or_none (is_among kept name)) ∙ ap (λ ws. is_among kept name || is_among ws name) (sym none) ∙ h name) (λ name. refl) k

-- what a quantifier leaves
pub left : {T E : Type 0} (result : Result T E) (within rest : List Bytes) (names : List Form) (old new : List Bytes) → Drops within names rest
    → OnOk result ((name : Bytes) → is_among new name ≡ (is_among old name || is_among rest name))
    → OnOk result (Collects (λ name. is_among within name && not (is_listed names name)) old new)
left result within rest names old new h joined =
    on_ok result ((name : Bytes) → is_among new name ≡ (is_among old name || is_among rest name)) (Collects (λ name. is_among within name && not (is_listed names name)) old new)
    (λ k name. k name ∙ ap (λ b. is_among old name || b) (h name)) joined

pub free_of_variable : {T E : Type 0} (result : Result T E) (f : Form) (text word : Bytes) (old new : List Bytes) → f ≡ form.Variable text → word ≡ text
    → OnOk result ((name : Bytes) → is_among new name ≡ (is_among old name || bytes_eq name word)) → OnOk result (Collects (is_free f) old new)
free_of_variable result f text word old new is same h =
    on_ok result ((name : Bytes) → is_among new name ≡ (is_among old name || bytes_eq name word)) (Collects (is_free f) old new)
    (λ k name. k name ∙ ap (λ b. is_among old name || b) (ap (bytes_eq name) same ∙ sym (is_free_variable f text is name))) h

variable_no_list : (f : Form) (text : Bytes) → f ≡ form.Variable text → (parts : List Form) → f ≡ form.List parts → ⊥
variable_no_list f text is parts e =
    let layers : Form-F.Variable text ≡ Form-F.List parts = sym (form.outs-Variable text) ∙ ap out-Form (sym is ∙ e) ∙ form.outs-List parts in absurd (cc)

always : {T E : Type 0} (result : Result T E) (P : Type 0) → P → OnOk result P
always (Ok x) P p = p
always (Err e) P p = tt

pub unused_of_variable : {T E : Type 0} (result : Result T E) (place : Place) (f : Form) (text : Bytes) (list : List Diagnostic) → f ≡ form.Variable text → OnOk result (Adds (IsUnusedAt place f) list list)
unused_of_variable result place f text list is =
    always result (Adds (IsUnusedAt place f) list list) (adds_none (IsUnusedAt place f) list (unused_leaf place f (variable_no_list f text is)))

pub free_of_other : (f : Form) (set : List Bytes) → ((text : Bytes) → f ≡ form.Variable text → ⊥) → ((parts : List Form) → f ≡ form.List parts → ⊥) → Collects (is_free f) set set
free_of_other f set no_variable no_list = λ name. sym (ap (λ b. is_among set name || b) (is_free_other f no_variable no_list name) ∙ or_none (is_among set name))

pub unused_of_other : (place : Place) (f : Form) (list : List Diagnostic) → ((parts : List Form) → f ≡ form.List parts → ⊥) → Adds (IsUnusedAt place f) list list
unused_of_other place f list no_list = adds_none (IsUnusedAt place f) list (unused_leaf place f no_list)

free_in_more : (parts : List Form) (i : ℕ) (f : Form) → i < length parts → f ≡ get_or parts i f → (name : Bytes) → is_free_in (take (i + 1) parts) name ≡ (is_free_in (take i parts) name || is_free f name)
free_in_more parts i f lt is name =
    ap (λ fs. is_free_in fs name) (take_more parts i f lt ∙ ap (λ g. take i parts ++ g ∷ []) (sym is))
    ∙ list_any-append (λ g. is_free g name) (take i parts) (f ∷ [])
    ∙ ap (λ b. is_free_in (take i parts) name || b) (or_none (is_free f name))

pub free_more : (parts : List Form) (i : ℕ) (f : Form) (old mid new : List Bytes) → i < length parts → f ≡ get_or parts i f → Collects (is_free_in (take i parts)) old mid → Collects (is_free f) mid new
    → Collects (is_free_in (take (i + 1) parts)) old new
free_more parts i f old mid new lt is h k = λ name.
    k name ∙ ap (λ b. b || is_free f name) (h name) ∙ or_twice (is_among old name) (is_free_in (take i parts) name) (is_free f name)
    ∙ ap (λ b. is_among old name || b) (sym (free_in_more parts i f lt is name))

pub three_items : (parts : List Form) (head names body : Form) → 3 ≤ length parts → length parts < 4 → head ≡ get_or parts 0 head → names ≡ get_or parts 1 names → body ≡ get_or parts 2 body
    → parts ≡ head ∷ names ∷ body ∷ []
three_items [] head names body h k a b c = absurd (omega arith)
three_items (x ∷ []) head names body h k a b c = absurd (omega arith)
three_items (x ∷ y ∷ []) head names body h k a b c = absurd (omega arith)
three_items (x ∷ y ∷ z ∷ []) head names body h k a b c = ap₂ (λ e ps. e ∷ ps) (sym a) (ap₂ (λ e f. e ∷ f ∷ []) (sym b) (sym c))
three_items (x ∷ y ∷ z ∷ w ∷ parts) head names body h k a b c = absurd (omega arith)

pub free_of_quantifier : {T E : Type 0} (result : Result T E) (parts : List Form) (head names body : Form) (listed : List Form) (none within old new : List Bytes)
    → parts ≡ head ∷ names ∷ body ∷ [] → quantifies head names ≡ true → listed ≡ parts_in names → none ≡ [] → Collects (is_free body) none within
    → OnOk result (Collects (λ name. is_among within name && not (is_listed listed name)) old new) → OnOk result (Collects (is_free (form.List parts)) old new)
free_of_quantifier result parts head names body listed none within old new is binds same empty inside h =
    on_ok result (Collects (λ name. is_among within name && not (is_listed listed name)) old new) (Collects (is_free (form.List parts)) old new)
    (λ k name. k name ∙ ap (λ b. is_among old name || b)
    (ap₂ (λ b fs. b && not (is_listed fs name)) (collected body none within empty inside name) same ∙ sym (is_free_quantified head names body binds name)
    ∙ ap (λ ps. is_free (form.List ps) name) (sym is))) h

pub unused_of_quantifier : {T E : Type 0} (result : Result T E) (place : Place) (parts : List Form) (head names body : Form) (listed : List Form) (none within : List Bytes) (old mid new : List Diagnostic)
    → parts ≡ head ∷ names ∷ body ∷ [] → quantifies head names ≡ true → listed ≡ parts_in names → none ≡ [] → Collects (is_free body) none within → Adds (IsUnusedAt place body) old mid
    → OnOk result (Adds (IsOnlyIn 7 place (is_listed listed) (is_among within)) mid new) → OnOk result (Adds (IsUnusedAt place (form.List parts)) old new)
unused_of_quantifier result place parts head names body listed none within old mid new is binds same empty inside h k =
    on_ok result (Adds (IsOnlyIn 7 place (is_listed listed) (is_among within)) mid new) (Adds (IsUnusedAt place (form.List parts)) old new)
    (λ a. subst (λ (ps : List Form). Adds (IsUnusedAt place (form.List ps)) old new) (sym is)
    (adds_of_quantifier place head names body old mid new binds h
    (adds_only_same 7 place (is_listed listed) (is_among within) (is_listed (parts_in names)) (is_free body) mid new (λ name. ap (λ fs. is_listed fs name) same) (collected body none within empty inside) a))) k

pub bound_of_three : (parts : List Form) (head names body : Form) → parts ≡ head ∷ names ∷ body ∷ [] → quantifies head names ≡ false → bound parts ≡ []
bound_of_three parts head names body is plain_list = ap bound is ∙ bound_unquantified head names body plain_list

pub free_of_plain : {T E : Type 0} (result : Result T E) (parts : List Form) (old new : List Bytes) → bound parts ≡ [] → OnOk result (Collects (is_free_in parts) old new)
    → OnOk result (Collects (is_free (form.List parts)) old new)
free_of_plain result parts old new empty h =
    on_ok result (Collects (is_free_in parts) old new) (Collects (is_free (form.List parts)) old new) (λ k name. k name ∙ ap (λ b. is_among old name || b) (sym (is_free_parts parts empty name))) h

pub unused_of_plain : {T E : Type 0} (result : Result T E) (place : Place) (parts : List Form) (old new : List Diagnostic) → bound parts ≡ [] → OnOk result (Adds (OfSome (IsUnusedAt place) parts) old new)
    → OnOk result (Adds (IsUnusedAt place (form.List parts)) old new)
unused_of_plain result place parts old new empty h =
    on_ok result (Adds (OfSome (IsUnusedAt place) parts) old new) (Adds (IsUnusedAt place (form.List parts)) old new) (adds_of_parts place parts old new empty) h

-- a form, said in other words
pub faults_of : {T E : Type 0} (result : Result T E) (place : Place) (f : Form) (word : Bytes) (first second one two : Form) (old new : List Diagnostic) → f ≡ implication word one two → first ≡ one → second ≡ two
    → OnOk result (Adds (IsFaultAt place (implication word first second)) old new) → OnOk result (Adds (IsFaultAt place f) old new)
faults_of result place f word first second one two old new is e k h =
    subst (λ (g : Form). OnOk result (Adds (IsFaultAt place g) old new)) (ap₂ (implication word) e k ∙ sym is) h
