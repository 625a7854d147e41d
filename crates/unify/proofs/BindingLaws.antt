-- Lists of bindings as lists of pairs, and what fillings that agree with pairs give.
use Rattle.std.proofs.Common.{◌≡◌, ℕ, zero, suc, ◌+◌, ◌<◌, List, [], ◌∷◌, ◌++◌, map, take, length, get_or, Bool, true, false, ◌||◌, if◌then◌else◌, refl, sym, ap, ap₂, ◌∙◌, arith}
use Rattle.std.specs.List.{list_any}
use Rattle.std.specs.Str.{bytes_eq}
use Rattle.std.proofs.lemmas.List.{map_more, map-append}
use Rattle.std.proofs.lemmas.List.Folds.{list_any-append}
use Rattle.std.proofs.lemmas.Slice.Eq.{bytes_eq-Decides}
use Rattle.sigma_base.specs.Lists.{Each, each_append, each_map, each_both}
use Rattle.kif_tree.specs.declared.subst.Pair.{Pair}
use Rattle.kif_tree.specs.Terms.{Bytes}
use Rattle.kif_tree.specs.Subst.{Filling, lookup}
use Rattle.kif_tree.proofs.VariableLaws.{flipped}
use Rattle.unify.specs.Bindings.{Agrees, AreConsistent, names_of}
use Rattle.unify.specs.declared.bindings.Binding.{Binding}

abbrev pub pair_of : Binding → Pair
pair_of binding = record { variable = binding.variable.now; term = binding.term.now }

-- bindings as contracts see them
abbrev pub pairs_of : List Binding → List Pair
pairs_of bindings = map pair_of bindings

-- whether a pair has the name
abbrev pub is_named : Bytes → List Pair → Bool
is_named name pairs = list_any (bytes_eq name) (names_of pairs)

-- ---- the search for a name

neither : (a b : Bool) → (a || b) ≡ false → (a ≡ false) × (b ≡ false)
neither true b h = let no_way : true ≡ false = h in absurd (cc)
neither false b h = (refl, h)

pub named-append : (name : Bytes) (old more : List Pair) → is_named name (old ++ more) ≡ (is_named name old || is_named name more)
named-append name old more =
    ap (list_any (bytes_eq name)) (map-append (λ (pair : Pair). pair.variable) old more) ∙ list_any-append (bytes_eq name) (names_of old) (names_of more)

-- the next binding has another name
pub named_more : (name : Bytes) (bindings : List Binding) (i : ℕ) (binding : Binding) → i < length bindings → binding ≡ get_or bindings i binding
    → is_named name (pairs_of (take i bindings)) ≡ false → bytes_eq binding.variable.now name ≡ false
    → is_named name (pairs_of (take (i + 1) bindings)) ≡ false
named_more name bindings i binding below is before other =
    ap (is_named name) (map_more pair_of bindings i binding below)
    ∙ named-append name (pairs_of (take i bindings)) (pair_of (get_or bindings i binding) ∷ [])
    ∙ ap₂ ◌||◌ before
    (ap (λ (b : Bool). b || false) (ap (λ (y : Binding). bytes_eq name y.variable.now) (sym is) ∙ flipped name binding.variable.now ∙ other))

-- the first binding with the name counts
pub found_first : (name : Bytes) (bindings : List Binding) (i : ℕ) (binding : Binding) → i < length bindings → binding ≡ get_or bindings i binding
    → is_named name (pairs_of (take i bindings)) ≡ false → bytes_eq binding.variable.now name ≡ true
    → (is_named name (pairs_of bindings) ≡ true) × (lookup (pairs_of bindings) name ≡ binding.term.now)
found_first name [] i binding below is before here = absurd (omega (arith, below))
found_first name (x ∷ bindings) zero binding below is before here =
    let same : bytes_eq x.variable.now name ≡ true = ap (λ (y : Binding). bytes_eq y.variable.now name) (sym is) ∙ here in (
      ap (λ (b : Bool). b || is_named name (pairs_of bindings)) (flipped name x.variable.now ∙ same),
      ap (λ (b : Bool). if b then x.term.now else lookup (pairs_of bindings) name) same ∙ ap (λ (y : Binding). y.term.now) (sym is),
    )
found_first name (x ∷ bindings) (suc i) binding below is before here =
    let split = neither (bytes_eq name x.variable.now) (is_named name (pairs_of (take i bindings))) before in
    let later = found_first name bindings i binding (omega (arith, below)) is split.1 here in (
      ap₂ ◌||◌ split.0 later.0,
      ap (λ (b : Bool). if b then x.term.now else lookup (pairs_of bindings) name) (flipped x.variable.now name ∙ split.0) ∙ later.1,
    )

-- ---- look-ups in longer lists

pub lookup-kept : (name : Bytes) (old more : List Pair) → is_named name old ≡ true → lookup (old ++ more) name ≡ lookup old name
lookup-kept name [] more here = let no_way : false ≡ true = here in absurd (cc)
lookup-kept name (pair ∷ old) more here = by_case (lookup-kept name old more) (bytes_eq name pair.variable) refl here
  where
    by_case : (is_named name old ≡ true → lookup (old ++ more) name ≡ lookup old name) → (b : Bool) → bytes_eq name pair.variable ≡ b
        → (b || is_named name old) ≡ true
        → lookup (pair ∷ (old ++ more)) name ≡ lookup (pair ∷ old) name
    by_case kept true e h =
        let same : bytes_eq pair.variable name ≡ true = flipped pair.variable name ∙ e in
        ap (λ (b : Bool). if b then pair.term else lookup (old ++ more) name) same ∙ sym (ap (λ (b : Bool). if b then pair.term else lookup old name) same)
    by_case kept false e h =
        let other : bytes_eq pair.variable name ≡ false = flipped pair.variable name ∙ e in
        ap (λ (b : Bool). if b then pair.term else lookup (old ++ more) name) other ∙ kept h
        ∙ sym (ap (λ (b : Bool). if b then pair.term else lookup old name) other)

bytes_eq_same : (name : Bytes) → bytes_eq name name ≡ true
bytes_eq_same name = (bytes_eq-Decides name name).1 refl

pub lookup-new : (old : List Pair) (pair : Pair) → is_named pair.variable old ≡ false → lookup (old ++ pair ∷ []) pair.variable ≡ pair.term
lookup-new [] pair absent = ap (λ (b : Bool). if b then pair.term else lookup [] pair.variable) (bytes_eq_same pair.variable)
lookup-new (first ∷ old) pair absent =
    let split = neither (bytes_eq pair.variable first.variable) (is_named pair.variable old) absent in
    ap (λ (b : Bool). if b then first.term else lookup (old ++ pair ∷ []) pair.variable) (flipped first.variable pair.variable ∙ split.0)
    ∙ lookup-new old pair split.1

-- a filling that agrees with pairs gives a name that one of them has what the first of these says
pub agreed : (g : Filling) (name : Bytes) (pairs : List Pair) → Agrees g pairs → is_named name pairs ≡ true → g name ≡ lookup pairs name
agreed g name [] agrees here = let no_way : false ≡ true = here in absurd (cc)
agreed g name (pair ∷ pairs) agrees here = by_case (agreed g name pairs agrees.1) (bytes_eq name pair.variable) refl here
  where
    by_case : (is_named name pairs ≡ true → g name ≡ lookup pairs name) → (b : Bool) → bytes_eq name pair.variable ≡ b → (b || is_named name pairs) ≡ true
        → g name ≡ lookup (pair ∷ pairs) name
    by_case later true e h =
        ap g ((bytes_eq-Decides name pair.variable).0 e) ∙ agrees.0
        ∙ sym (ap (λ (b : Bool). if b then pair.term else lookup pairs name) (flipped pair.variable name ∙ e))
    by_case later false e h =
        later h ∙ sym (ap (λ (b : Bool). if b then pair.term else lookup pairs name) (flipped pair.variable name ∙ e))

-- ---- one more pair, with a name that had none

each_named : (pairs : List Pair) → Each (λ (pair : Pair). is_named pair.variable pairs ≡ true) pairs
each_named [] = tt
each_named (pair ∷ pairs) = (
  ap (λ (b : Bool). b || is_named pair.variable pairs) (bytes_eq_same pair.variable),
  each_map (λ (p : Pair). is_named p.variable pairs ≡ true) (λ (p : Pair). is_named p.variable (pair ∷ pairs) ≡ true)
      (λ p h. later (bytes_eq p.variable pair.variable) (is_named p.variable pairs) h) pairs (each_named pairs),
)
  where
    later : (a b : Bool) → b ≡ true → (a || b) ≡ true
    later true b h = refl
    later false b h = h

pub consistent_more : (old : List Pair) (pair : Pair) → is_named pair.variable old ≡ false → AreConsistent old → AreConsistent (old ++ pair ∷ [])
consistent_more old pair absent consistent =
    each_append (λ (p : Pair). lookup (old ++ pair ∷ []) p.variable ≡ p.term) old (pair ∷ [])
    (each_map (λ (p : Pair). (is_named p.variable old ≡ true) × (lookup old p.variable ≡ p.term))
    (λ (p : Pair). lookup (old ++ pair ∷ []) p.variable ≡ p.term)
    (λ p h. lookup-kept p.variable old (pair ∷ []) h.0 ∙ h.1) old
    (each_both (λ (p : Pair). is_named p.variable old ≡ true) (λ (p : Pair). lookup old p.variable ≡ p.term) old (each_named old) consistent))
    (lookup-new old pair absent, tt)
