-- Whether a chain leads from one word to another, as a function of the links.
use Rattle.std.proofs.Common.{◌≡◌, zero, suc, List, [], ◌∷◌, ◌++◌, filter, Bool, true, false, ◌||◌, ◌&&◌, if◌then◌else◌, refl, sym, ap, subst, ◌∙◌, arith}
use Rattle.std.specs.Prelude.{Contains, ◌↔◌}
use Rattle.std.specs.List.{list_any}
use Rattle.std.specs.Str.{bytes_eq}
use Rattle.std.proofs.lemmas.Slice.Eq.{bytes_eq-Decides}
use Rattle.kif_tree.specs.Terms.{Bytes}
use Rattle.sigma_base.specs.Lists.{Each, each_append, each_map}
use Rattle.taxonomy.specs.Chains.{Joins, OfKind, IsChain, Chain, later_kind}
use Rattle.taxonomy.specs.Told.{Link}
use Rattle.taxonomy.specs.declared.told.ChainKind.{ChainKind}
use Rattle.taxonomy.specs.declared.told.ChainKind.TheVariants as kinds

-- none or more of the links lead from the first word to the second
abbrev pub reaches : List Link → Bytes → Bytes → Bool
reaches [] low high = bytes_eq low high
reaches (link ∷ links) low high = reaches links low high || (reaches links low link.low && reaches links link.high high)

abbrev pub is_kind : ChainKind → ChainKind → Bool
is_kind kinds.Class kinds.Class = true
is_kind kinds.Instance kinds.Instance = true
is_kind kinds.Relation kinds.Relation = true
is_kind _ _ = false

abbrev pub of_kind : ChainKind → List Link → List Link
of_kind kind links = filter (λ (link : Link). is_kind kind link.kind) links

abbrev pub starts : List Link → Bytes → Bytes → Link → Bool
starts later low high first = bytes_eq first.low low && reaches later first.high high

-- a chain of that kind leads from the first word to the second
unfoldable pub leads_by : List Link → ChainKind → Bytes → Bytes → Bool
leads_by links kind low high = list_any (starts (of_kind (later_kind kind) links) low high) (of_kind kind links)

-- ---- tests

both : (a b : Bool) → (a && b) ≡ true → (a ≡ true) × (b ≡ true)
both true true e = (refl, refl)
both true false e = absurd (cc)
both false b e = absurd (cc)

and_true : (a b : Bool) → a ≡ true → b ≡ true → (a && b) ≡ true
and_true a b e h = ap (λ x. x && b) e ∙ h

or_first : (a b : Bool) → a ≡ true → (a || b) ≡ true
or_first a b e = ap (λ x. x || b) e

or_second : (a b : Bool) → b ≡ true → (a || b) ≡ true
or_second true b e = refl
or_second false b e = e

-- ---- members

first_in : {X : Type 0} (x : X) (xs : List X) → Contains (x ∷ xs) x
first_in x xs = (0, omega arith, refl)

later_in : {X : Type 0} (y : X) (xs : List X) (x : X) → Contains xs x → Contains (y ∷ xs) x
later_in y xs x (k, lt, is) = (suc k, omega (arith, lt), is)

filtered_in : {X : Type 0} (p : X → Bool) (xs : List X) (x : X) → p x ≡ true → Contains xs x → Contains (filter p xs) x
filtered_in p [] x e (k, lt, is) = absurd (omega arith)
filtered_in {X = X} p (y ∷ xs) x e h = go (p y) refl h (filtered_in p xs x e)
  where
    go : (b : Bool) → p y ≡ b → Contains (y ∷ xs) x → (Contains xs x → Contains (filter p xs) x) → Contains (if b then y ∷ filter p xs else filter p xs) x
    go true k (zero, lt, is) later = (0, omega arith, is)
    go true k (suc n, lt, is) later = later_in y (filter p xs) x (later (n, omega arith, is))
    go false k (zero, lt, is) later = let no_way : false ≡ true = sym k ∙ (ap p is ∙ e) in absurd (cc)
    go false k (suc n, lt, is) later = later (n, omega arith, is)

in_filtered : {X : Type 0} (p : X → Bool) (xs : List X) (x : X) → Contains (filter p xs) x → Contains xs x × (p x ≡ true)
in_filtered p [] x (k, lt, is) = absurd (omega arith)
in_filtered {X = X} p (y ∷ xs) x h = go (p y) refl h (in_filtered p xs x)
  where
    go : (b : Bool) → p y ≡ b → Contains (if b then y ∷ filter p xs else filter p xs) x → (Contains (filter p xs) x → Contains xs x × (p x ≡ true)) → Contains (y ∷ xs) x × (p x ≡ true)
    go true k (zero, lt, is) later = ((0, omega arith, is), ap p (sym is) ∙ k)
    go true k (suc n, lt, is) later = let r = later (n, omega arith, is) in (later_in y xs x r.0, r.1)
    go false k c later = let r = later c in (later_in y xs x r.0, r.1)

any_in : {X : Type 0} (p : X → Bool) (xs : List X) (x : X) → Contains xs x → p x ≡ true → list_any p xs ≡ true
any_in p [] x (k, lt, is) e = absurd (omega arith)
any_in p (y ∷ xs) x (zero, lt, is) e = or_first (p y) (list_any p xs) (ap p is ∙ e)
any_in p (y ∷ xs) x (suc k, lt, is) e = or_second (p y) (list_any p xs) (any_in p xs x (k, omega arith, is) e)

in_any : {X : Type 0} (p : X → Bool) (xs : List X) → list_any p xs ≡ true → (x : X) × Contains xs x × (p x ≡ true)
in_any p [] e = absurd (cc)
in_any {X = X} p (y ∷ xs) e = go (p y) refl e (in_any p xs)
  where
    go : (b : Bool) → p y ≡ b → (b || list_any p xs) ≡ true → (list_any p xs ≡ true → (x : X) × Contains xs x × (p x ≡ true)) → (x : X) × Contains (y ∷ xs) x × (p x ≡ true)
    go true k h later = (y, first_in y xs, k)
    go false k h later = let r = later h in (r.0, later_in y xs r.0 r.1, r.2)

-- ---- reaching

same_word : (word : Bytes) → bytes_eq word word ≡ true
same_word word = (bytes_eq-Decides word word).1 refl

reaches_itself : (links : List Link) (word : Bytes) → reaches links word word ≡ true
reaches_itself [] word = same_word word
reaches_itself (link ∷ links) word = or_first (reaches links word word) (reaches links word link.low && reaches links link.high word) (reaches_itself links word)

reaches_by : (links : List Link) (link : Link) → Contains links link → reaches links link.low link.high ≡ true
reaches_by [] link (k, lt, is) = absurd (omega arith)
reaches_by (first ∷ links) link (zero, lt, is) =
    subst (λ (l : Link). reaches (first ∷ links) l.low l.high ≡ true) is
    (or_second (reaches links first.low first.high) (reaches links first.low first.low && reaches links first.high first.high)
    (and_true (reaches links first.low first.low) (reaches links first.high first.high) (reaches_itself links first.low) (reaches_itself links first.high)))
reaches_by (first ∷ links) link (suc k, lt, is) =
    or_first (reaches links link.low link.high) (reaches links link.low first.low && reaches links first.high link.high) (reaches_by links link (k, omega arith, is))

-- the words of either way to reach one
either : (links : List Link) (link : Link) (low high : Bytes) (R : Type 0) → reaches (link ∷ links) low high ≡ true
    → (reaches links low high ≡ true → R) → (reaches links low link.low ≡ true → reaches links link.high high ≡ true → R) → R
either links link low high R e without by = go (reaches links low high) refl e
  where
    go : (b : Bool) → reaches links low high ≡ b → (b || (reaches links low link.low && reaches links link.high high)) ≡ true → R
    go true k h = without k
    go false k h = let r = both (reaches links low link.low) (reaches links link.high high) h in by r.0 r.1

reaches_on : (links : List Link) (low middle high : Bytes) → reaches links low middle ≡ true → reaches links middle high ≡ true → reaches links low high ≡ true
reaches_on [] low middle high e h = subst (λ (word : Bytes). bytes_eq word high ≡ true) (sym ((bytes_eq-Decides low middle).0 e)) h
reaches_on (link ∷ links) low middle high e h =
    either links link low middle (reaches (link ∷ links) low high ≡ true) e
    (λ a. either links link middle high (reaches (link ∷ links) low high ≡ true) h
    (λ b. without (reaches_on links low middle high a b))
    (λ b c. through (reaches_on links low middle link.low a b) c))
    (λ a b. either links link middle high (reaches (link ∷ links) low high ≡ true) h
    (λ c. through a (reaches_on links link.high middle high b c))
    (λ c d. through a d))
  where
    without : reaches links low high ≡ true → (reaches links low high || (reaches links low link.low && reaches links link.high high)) ≡ true
    without k = or_first (reaches links low high) (reaches links low link.low && reaches links link.high high) k

    through : reaches links low link.low ≡ true → reaches links link.high high ≡ true → (reaches links low high || (reaches links low link.low && reaches links link.high high)) ≡ true
    through k l = or_second (reaches links low high) (reaches links low link.low && reaches links link.high high) (and_true (reaches links low link.low) (reaches links link.high high) k l)

reaches_along : (links chain : List Link) (low high : Bytes) → Each (Contains links) chain → Joins chain low high → reaches links low high ≡ true
reaches_along links [] low high told joins = subst (λ (word : Bytes). reaches links low word ≡ true) joins (reaches_itself links low)
reaches_along links (link ∷ chain) low high told joins =
    reaches_on links low link.high high
    (subst (λ (word : Bytes). reaches links word link.high ≡ true) joins.0 (reaches_by links link told.0))
    (reaches_along links chain link.high high told.1 joins.1)

-- links that lead from the one word to the other
pub record Way (links : List Link) (low high : Bytes) : Type 0 where
  pub chain : List Link
  pub told : Each (Contains links) chain
  pub joins : Joins chain low high

joins_on : (first second : List Link) (low middle high : Bytes) → Joins first low middle → Joins second middle high → Joins (first ++ second) low high
joins_on [] second low middle high h k = subst (λ (word : Bytes). Joins second word high) (sym h) k
joins_on (link ∷ first) second low middle high h k = (h.0, joins_on first second link.high middle high h.1 k)

way_on : (links : List Link) (low middle high : Bytes) → Way links low middle → Way links middle high → Way links low high
way_on links low middle high first second = record {
  chain = first.chain ++ second.chain;
  told = each_append (Contains links) first.chain second.chain first.told second.told;
  joins = joins_on first.chain second.chain low middle high first.joins second.joins;
}

way_later : (link : Link) (links : List Link) (low high : Bytes) → Way links low high → Way (link ∷ links) low high
way_later link links low high way = record {
  chain = way.chain;
  told = each_map (Contains links) (Contains (link ∷ links)) (later_in link links) way.chain way.told;
  joins = way.joins;
}

way_of : (links : List Link) (low high : Bytes) → reaches links low high ≡ true → Way links low high
way_of [] low high e = record { chain = []; told = tt; joins = (bytes_eq-Decides low high).0 e }
way_of (link ∷ links) low high e =
    either links link low high (Way (link ∷ links) low high) e
    (λ a. way_later link links low high (way_of links low high a))
    (λ a b. way_on (link ∷ links) low link.low high (way_later link links low link.low (way_of links low link.low a))
    (way_on (link ∷ links) link.low link.high high
    (record { chain = link ∷ []; told = (first_in link links, tt); joins = (refl, refl) })
    (way_later link links link.high high (way_of links link.high high b))))

-- ---- kinds

kind_is : (kind other : ChainKind) → is_kind kind other ≡ true → other ≡ kind
kind_is kinds.Class kinds.Class e = refl
kind_is kinds.Class kinds.Instance e = absurd (cc)
kind_is kinds.Class kinds.Relation e = absurd (cc)
kind_is kinds.Instance kinds.Class e = absurd (cc)
kind_is kinds.Instance kinds.Instance e = refl
kind_is kinds.Instance kinds.Relation e = absurd (cc)
kind_is kinds.Relation kinds.Class e = absurd (cc)
kind_is kinds.Relation kinds.Instance e = absurd (cc)
kind_is kinds.Relation kinds.Relation e = refl

is_itself : (kind : ChainKind) → is_kind kind kind ≡ true
is_itself kinds.Class = refl
is_itself kinds.Instance = refl
is_itself kinds.Relation = refl

is_of : (kind other : ChainKind) → other ≡ kind → is_kind kind other ≡ true
is_of kind other e = ap (is_kind kind) e ∙ is_itself kind

in_kind : (kind : ChainKind) (links : List Link) (link : Link) → Contains links link → link.kind ≡ kind → Contains (of_kind kind links) link
in_kind kind links link told e = filtered_in (λ (l : Link). is_kind kind l.kind) links link (is_of kind link.kind e) told

of_one_kind : (kind : ChainKind) (links : List Link) (link : Link) → Contains (of_kind kind links) link → Contains links link × (link.kind ≡ kind)
of_one_kind kind links link told = let r = in_filtered (λ (l : Link). is_kind kind l.kind) links link told in (r.0, kind_is kind link.kind r.1)

each_in_kind : (kind : ChainKind) (links chain : List Link) → Each (Contains links) chain → OfKind kind chain → Each (Contains (of_kind kind links)) chain
each_in_kind kind links [] told of = tt
each_in_kind kind links (link ∷ chain) told of = (in_kind kind links link told.0 of.0, each_in_kind kind links chain told.1 of.1)

each_told : (kind : ChainKind) (links chain : List Link) → Each (Contains (of_kind kind links)) chain → Each (Contains links) chain
each_told kind links [] told = tt
each_told kind links (link ∷ chain) told = ((of_one_kind kind links link told.0).0, each_told kind links chain told.1)

each_kind : (kind : ChainKind) (links chain : List Link) → Each (Contains (of_kind kind links)) chain → OfKind kind chain
each_kind kind links [] told = tt
each_kind kind links (link ∷ chain) told = ((of_one_kind kind links link told.0).1, each_kind kind links chain told.1)

-- ---- chains

chain_leads : (links : List Link) (kind : ChainKind) (low high : Bytes) → Chain links kind low high → leads_by links kind low high ≡ true
unfolding leads_by
chain_leads links kind low high chain = go chain.chain chain.told chain.is chain.joins
  where
    go : (path : List Link) → Each (λ (link : Link). Contains links link) path → IsChain kind path → Joins path low high
        → list_any (starts (of_kind (later_kind kind) links) low high) (of_kind kind links) ≡ true
    go [] told is joins = absurd (is)
    go (link ∷ path) told is joins =
        any_in (starts (of_kind (later_kind kind) links) low high) (of_kind kind links) link
        (in_kind kind links link told.0 is.0)
        (and_true (bytes_eq link.low low) (reaches (of_kind (later_kind kind) links) link.high high)
        ((bytes_eq-Decides link.low low).1 joins.0)
        (reaches_along (of_kind (later_kind kind) links) path link.high high (each_in_kind (later_kind kind) links path told.1 is.1) joins.1))

led_chain : (links : List Link) (kind : ChainKind) (low high : Bytes) → leads_by links kind low high ≡ true → Chain links kind low high
unfolding leads_by
led_chain links kind low high e =
    let first = in_any (starts (of_kind (later_kind kind) links) low high) (of_kind kind links) e in
    let parts = both (bytes_eq first.0.low low) (reaches (of_kind (later_kind kind) links) first.0.high high) first.2 in
    let of = of_one_kind kind links first.0 first.1 in
    let way = way_of (of_kind (later_kind kind) links) first.0.high high parts.1 in
    record {
      chain = first.0 ∷ way.chain;
      told = (of.0, each_told (later_kind kind) links way.chain way.told);
      is = (of.1, each_kind (later_kind kind) links way.chain way.told);
      joins = ((bytes_eq-Decides first.0.low low).0 parts.0, way.joins);
    }

pub leads_by-exact : (links : List Link) (kind : ChainKind) (low high : Bytes) → (leads_by links kind low high ≡ true) ↔ Chain links kind low high
leads_by-exact links kind low high = (led_chain links kind low high, chain_leads links kind low high)
