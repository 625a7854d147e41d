-- Forms have one set of tables: what two right tables have is the same for each word.
use Rattle.std.proofs.Common.{◌≡◌, ℕ, suc, zero, ◌≤◌, ◌⊎◌, List, [], ◌∷◌, refl, sym, ap, ap₂, subst, ◌∙◌, inl, inr, arith}
use Rattle.std.specs.Prelude.{Option, Some, None, Contains}
use Rattle.std.specs.Cmp.Lexicographic.{nat_list_cmp_total}
use Rattle.std.specs.Ordering.{ordering_reverse}
use Rattle.std.specs.declared.cmp.Ordering.TheVariants.{Less}
use Rattle.kif_tree.specs.Terms.{Bytes}
use Rattle.kif_tree.specs.declared.place.Located.{Located}
use Rattle.sigma_base.specs.Lists.{Each}
use Rattle.taxonomy.specs.declared.told.ChainKind.TheVariants as kinds
use Rattle.taxonomy.specs.Chains.{IsDistance}
use Rattle.taxonomy.specs.Told.{Link, links}
use Rattle.signatures.specs.declared.signatures.Signatures.{Signatures}
use Rattle.signatures.specs.declared.told.Arity.{Arity}
use Rattle.signatures.specs.declared.told.TypeTold.{TypeTold}
use Rattle.signatures.specs.Arities.{built_in, told_valence, arity_classes, ClassArity, IsByClass, OrElse, IsOwnArity, HasOwnArity, IsInheritedArity, IsUnstated, IsArity}
use Rattle.signatures.specs.Nearest.{IsBefore, IsNearest, NoneReached}
use Rattle.signatures.specs.Relations.{AreAscending, AreRelationNames}
use Rattle.signatures.specs.Tables.{AreSignatures, arity_in, types_in, ranges_in, relations_in}
use Rattle.signatures.specs.Types.{own_types, HasTypes, AreInherited, AreNone, AreTypes}

-- both tables have the same of each word, and the same relation names
pub record SameTables (first second : Signatures) : Type 0 where
  pub arities : (word : Bytes) → arity_in first word ≡ arity_in second word
  pub types : (word : Bytes) (number : ℕ) → types_in first word number ≡ types_in second word number
  pub are_ranges : (word : Bytes) → ranges_in first word ≡ ranges_in second word
  pub relations : relations_in first ≡ relations_in second

-- ---- order by bytes

pub never_both_before : (a b : Bytes) → IsBefore a b → IsBefore b a → ⊥
never_both_before a b h k = let e : Less ≡ ordering_reverse Less = sym h ∙ nat_list_cmp_total.antisymm a b ∙ ap ordering_reverse k in absurd (cc)

pub never_before_itself : (a b : Bytes) → a ≡ b → IsBefore a b → ⊥
never_before_itself a b e h = let itself : IsBefore a a = subst (IsBefore a) (sym e) h in never_both_before a a itself itself

head_or_later : (x : Bytes) (xs : List Bytes) (word : Bytes) → Contains (x ∷ xs) word → (x ≡ word) ⊎ Contains xs word
head_or_later x xs word (zero, lt, is) = inl is
head_or_later x xs word (suc k, lt, is) = inr (k, omega (arith, lt), is)

has_head : (x : Bytes) (xs : List Bytes) → Contains (x ∷ xs) x
has_head x xs = (zero, omega arith, refl)

has_later : (x : Bytes) (xs : List Bytes) (word : Bytes) → Contains xs word → Contains (x ∷ xs) word
has_later x xs word (k, lt, is) = (suc k, omega (arith, lt), is)

each_contained : (P : Bytes → Type 0) (xs : List Bytes) (word : Bytes) → Contains xs word → Each P xs → P word
each_contained P [] word (k, lt, is) h = absurd (omega (arith, lt))
each_contained P (x ∷ xs) word (zero, lt, is) h = subst P is h.0
each_contained P (x ∷ xs) word (suc k, lt, is) h = each_contained P xs word (k, omega (arith, lt), is) h.1

-- two ascending lists with the same words are the same list
pub ascending_once : (xs ys : List Bytes) → AreAscending xs → AreAscending ys → ((word : Bytes) → Contains xs word → Contains ys word) → ((word : Bytes) → Contains ys word → Contains xs word) → xs ≡ ys
ascending_once [] [] a b h k = refl
ascending_once [] (y ∷ ys) a b h k = let (n, lt, is) = k y (has_head y ys) in absurd (omega (arith, lt))
ascending_once (x ∷ xs) [] a b h k = let (n, lt, is) = h x (has_head x xs) in absurd (omega (arith, lt))
ascending_once (x ∷ xs) (y ∷ ys) a b h k =
    let heads : x ≡ y = first (head_or_later y ys x (h x (has_head x xs))) (head_or_later x xs y (k y (has_head y ys))) in
    ap₂ (λ (z : Bytes) (zs : List Bytes). z ∷ zs) heads
    (ascending_once xs ys a.1 b.1 (λ word c. later_right heads word c (head_or_later y ys word (h word (has_later x xs word c)))) (λ word c. later_left heads word c (head_or_later x xs word (k word (has_later y ys word c)))))
  where
    first : ((y ≡ x) ⊎ Contains ys x) → ((x ≡ y) ⊎ Contains xs y) → x ≡ y
    first (inl e) c = sym e
    first (inr d) (inl e) = e
    first (inr d) (inr c) = absurd (never_both_before x y (each_contained (IsBefore x) xs y c a.0) (each_contained (IsBefore y) ys x d b.0))

    later_right : x ≡ y → (word : Bytes) → Contains xs word → ((y ≡ word) ⊎ Contains ys word) → Contains ys word
    later_right heads word c (inr e) = e
    later_right heads word c (inl e) = absurd (never_before_itself x word (heads ∙ e) (each_contained (IsBefore x) xs word c a.0))

    later_left : x ≡ y → (word : Bytes) → Contains ys word → ((x ≡ word) ⊎ Contains xs word) → Contains xs word
    later_left heads word c (inr e) = e
    later_left heads word c (inl e) = absurd (never_before_itself y word (sym heads ∙ e) (each_contained (IsBefore y) ys word c b.0))

-- ---- the nearest word

no_farther_than : (ls : List Link) (Has : Bytes → Type 0) (word a b : Bytes) (x : IsNearest ls Has word a) (y : IsNearest ls Has word b) → x.distance ≤ y.distance
no_farther_than ls Has word a b x y = x.no_nearer b y.distance y.has y.reached

same_distance : (ls : List Link) (Has : Bytes → Type 0) (word a b : Bytes) (x : IsNearest ls Has word a) (y : IsNearest ls Has word b) → x.distance ≡ y.distance
same_distance ls Has word a b x y = let less = no_farther_than ls Has word a b x y in let more = no_farther_than ls Has word b a y x in omega (arith, less, more)

pub nearest_once : (ls : List Link) (Has : Bytes → Type 0) (word a b : Bytes) → IsNearest ls Has word a → IsNearest ls Has word b → a ≡ b
nearest_once ls Has word a b x y =
    go (x.first b y.has (subst (IsDistance ls kinds.Relation word b) (sym (same_distance ls Has word a b x y)) y.reached))
    (y.first a x.has (subst (IsDistance ls kinds.Relation word a) (same_distance ls Has word a b x y) x.reached))
  where
    go : ((a ≡ b) ⊎ IsBefore a b) → ((b ≡ a) ⊎ IsBefore b a) → a ≡ b
    go (inl e) k = e
    go (inr h) (inl e) = sym e
    go (inr h) (inr k) = absurd (never_both_before a b h k)

-- where none is reached, none is nearest
pub none_or_nearest : (ls : List Link) (Has : Bytes → Type 0) (word near : Bytes) → NoneReached ls Has word → IsNearest ls Has word near → ⊥
none_or_nearest ls Has word near none x = none near x.has x.reached.shortest

-- ---- arities

by_class_once : (ls : List Link) (word : Bytes) (classes : List ClassArity) (a b : Option Arity) → IsByClass ls word classes a → IsByClass ls word classes b → a ≡ b
by_class_once ls word [] a b x y = x ∙ sym y
by_class_once ls word (entry ∷ classes) a b (inl (chain, e)) (inl (chain', k)) = e ∙ sym k
by_class_once ls word (entry ∷ classes) a b (inl (chain, e)) (inr (none, y)) = absurd (none chain)
by_class_once ls word (entry ∷ classes) a b (inr (none, x)) (inl (chain, k)) = absurd (none chain)
by_class_once ls word (entry ∷ classes) a b (inr (none, x)) (inr (none', y)) = by_class_once ls word classes a b x y

or_else_once : (given : Option Arity) (Next : Option Arity → Type 0) (a b : Option Arity) → ((c d : Option Arity) → Next c → Next d → c ≡ d) → OrElse given Next a → OrElse given Next b → a ≡ b
or_else_once (Some arity) Next a b once x y = x ∙ sym y
or_else_once None Next a b once x y = once a b x y

pub own_arity_once : (forms : List Located) (word : Bytes) (a b : Option Arity) → IsOwnArity forms word a → IsOwnArity forms word b → a ≡ b
own_arity_once forms word a b =
    or_else_once (built_in word) (OrElse (told_valence forms word) (IsByClass (links forms) word arity_classes)) a b
    (λ c d. or_else_once (told_valence forms word) (IsByClass (links forms) word arity_classes) c d (by_class_once (links forms) word arity_classes))

same_own : (forms : List Located) (word : Bytes) (a b : Arity) → IsOwnArity forms word (Some a) → IsOwnArity forms word (Some b) → a ≡ b
same_own forms word a b x y = let e = own_arity_once forms word (Some a) (Some b) x y in cc

own_or_none : (forms : List Located) (word : Bytes) (a : Arity) → IsOwnArity forms word (Some a) → IsOwnArity forms word None → ⊥
own_or_none forms word a x y = let e = own_arity_once forms word (Some a) None x y in absurd (cc)

inherited_once : (forms : List Located) (word : Bytes) (a b : Arity) → IsInheritedArity forms word a → IsInheritedArity forms word b → a ≡ b
inherited_once forms word a b x y =
    let near : x.near ≡ y.near = nearest_once (links forms) (HasOwnArity forms) word x.near y.near x.nearest y.nearest in
    same_own forms y.near a b (subst (λ (w : Bytes). IsOwnArity forms w (Some a)) near x.own) y.own

inherited_or_unstated : (forms : List Located) (word : Bytes) (a b : Arity) → IsInheritedArity forms word a → IsUnstated forms word b → ⊥
inherited_or_unstated forms word a b x y = none_or_nearest (links forms) (HasOwnArity forms) word x.near y.none x.nearest

pub arity_once : (forms : List Located) (word : Bytes) (a b : Arity) → IsArity forms word a → IsArity forms word b → a ≡ b
arity_once forms word a b (inl x) (inl y) = same_own forms word a b x y
arity_once forms word a b (inl x) (inr (none, y)) = absurd (own_or_none forms word a x none)
arity_once forms word a b (inr (none, x)) (inl y) = absurd (own_or_none forms word b y none)
arity_once forms word a b (inr (none, inl x)) (inr (none', inl y)) = inherited_once forms word a b x y
arity_once forms word a b (inr (none, inl x)) (inr (none', inr y)) = absurd (inherited_or_unstated forms word a b x y)
arity_once forms word a b (inr (none, inr x)) (inr (none', inl y)) = absurd (inherited_or_unstated forms word b a y x)
arity_once forms word a b (inr (none, inr x)) (inr (none', inr y)) = x.unstated ∙ sym y.unstated

-- ---- types

inherited_types_once : (forms : List Located) (word : Bytes) (number : ℕ) (a b : List TypeTold) → AreInherited forms word number a → AreInherited forms word number b → a ≡ b
inherited_types_once forms word number a b x y =
    let near : x.near ≡ y.near = nearest_once (links forms) (HasTypes forms number) word x.near y.near x.nearest y.nearest in
    x.own ∙ ap (λ (w : Bytes). own_types forms w number) near ∙ sym y.own

inherited_or_none : (forms : List Located) (word : Bytes) (number : ℕ) (a b : List TypeTold) → AreInherited forms word number a → AreNone forms word number b → ⊥
inherited_or_none forms word number a b x y = none_or_nearest (links forms) (HasTypes forms number) word x.near y.none x.nearest

pub types_once : (forms : List Located) (word : Bytes) (number : ℕ) (a b : List TypeTold) → AreTypes forms word number a → AreTypes forms word number b → a ≡ b
types_once forms word number a b (inl (has, x)) (inl (has', y)) = x ∙ sym y
types_once forms word number a b (inl (has, x)) (inr (none, y)) = absurd (has none)
types_once forms word number a b (inr (none, x)) (inl (has, y)) = absurd (has none)
types_once forms word number a b (inr (none, inl x)) (inr (none', inl y)) = inherited_types_once forms word number a b x y
types_once forms word number a b (inr (none, inl x)) (inr (none', inr y)) = absurd (inherited_or_none forms word number a b x y)
types_once forms word number a b (inr (none, inr x)) (inr (none', inl y)) = absurd (inherited_or_none forms word number b a y x)
types_once forms word number a b (inr (none, inr x)) (inr (none', inr y)) = x.is ∙ sym y.is

-- ---- relation names

pub relation_names_once : (forms : List Located) (xs ys : List Bytes) → AreRelationNames forms xs → AreRelationNames forms ys → xs ≡ ys
relation_names_once forms xs ys x y =
    ascending_once xs ys x.ascending y.ascending (λ word c. (y.exactly word).1 ((x.exactly word).0 c)) (λ word c. (x.exactly word).1 ((y.exactly word).0 c))

-- ---- tables

pub one_tables : (forms : List Located) (first second : Signatures) → AreSignatures forms first → AreSignatures forms second → SameTables first second
one_tables forms first second x y = record {
  arities = λ word. arity_once forms word (arity_in first word) (arity_in second word) (x.arities word) (y.arities word);
  types = λ word number. types_once forms word number (types_in first word number) (types_in second word number) (x.types word number) (y.types word number);
  are_ranges = λ word. x.are_ranges word ∙ sym (y.are_ranges word);
  relations = relation_names_once forms (relations_in first) (relations_in second) x.relations y.relations;
}
