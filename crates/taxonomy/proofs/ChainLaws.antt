-- Chains of words against paths of numbers.
use Rattle.std.proofs.Common.{◌≡◌, ◌≢◌, ℕ, suc, zero, ◌<◌, ◌⊎◌, List, [], ◌∷◌, ◌++◌, map, filter, length, get_or, take, drop, Bool, true, false, if◌then◌else◌, refl, sym, ap, subst, ◌∙◌, arith, inl, inr}
use Rattle.std.specs.Prelude.{Contains, MatchBool, Option, Some, None}
use Rattle.std.specs.Str.{bytes_eq}
use Rattle.std.proofs.Math.Seq.{split_at}
use Rattle.std.proofs.lemmas.Bool.{cases_order}
use Rattle.std.proofs.lemmas.List.{get_or_read, map-append}
use Rattle.std.proofs.lemmas.Slice.Eq.{bytes_eq-Decides}
use Rattle.kif_tree.specs.Terms.{Bytes}
use Rattle.sigma_base.specs.Lists.{Each, each_map}
use Rattle.taxonomy.specs.declared.closure.Edge.{Edge}
use Rattle.kif_tree.specs.declared.place.Place.{Place}
use Rattle.taxonomy.specs.declared.numbered.NumberedGroup.{NumberedGroup}
use Rattle.taxonomy.specs.declared.numbered.NumberedLink.{NumberedLink}
use Rattle.taxonomy.specs.declared.runs.Run.{Run}
use Rattle.taxonomy.specs.declared.told.ChainKind.{ChainKind}
use Rattle.taxonomy.specs.declared.told.ChainKind.TheVariants as kinds
use Rattle.taxonomy.specs.declared.told.Told.{Told}
use Rattle.taxonomy.specs.Chains.{Joins, OfKind, IsChain, Chain, later_kind, parents, as_told, IsAtOrAbove}
use Rattle.taxonomy.specs.Disjoint.{Separates, AreNotDisjoint, AreDisjointBy}
use Rattle.taxonomy.specs.Graph.{Follows, Path, at_or_below}
use Rattle.taxonomy.specs.Numbered.{word, named, named_group, AreBelow, LinksWithin, GroupsWithin}
use Rattle.taxonomy.specs.Runs.{has}
use Rattle.taxonomy.specs.Starts.{IsShared}
use Rattle.taxonomy.specs.Tables.{edge_of, AreEdges, HasEdges, AreDistinct, AreRows, AreSets, AreSelfStarts, Passes, IsOther}
use Rattle.taxonomy.specs.Told.{Link, DisjointWords}
use Rattle.taxonomy.proofs.GraphLaws.{each_in, path_none, below_sound, below_complete}
use Rattle.taxonomy.proofs.NameLaws.{contains_word}

-- ---- lists

pub contains_head : {X : Type 0} (x : X) (xs : List X) → Contains (x ∷ xs) x
contains_head x xs = (0, omega arith, refl)

pub contains_tail : {X : Type 0} (y : X) (xs : List X) (x : X) → Contains xs x → Contains (y ∷ xs) x
contains_tail y xs x (k, lt, is) = (suc k, omega (arith, lt), is)

pub in_map : {X Y : Type 0} (f : X → Y) (xs : List X) (y : Y) → Contains (map f xs) y → (x : X) × Contains xs x × (f x ≡ y)
in_map f [] y (k, lt, is) = absurd (omega arith)
in_map f (x ∷ xs) y (zero, lt, is) = (x, contains_head x xs, is)
in_map f (x ∷ xs) y (suc k, lt, is) = let r = in_map f xs y (k, omega arith, is) in (r.0, contains_tail x xs r.0 r.1, r.2)

pub map_in : {X Y : Type 0} (f : X → Y) (xs : List X) (x : X) → Contains xs x → Contains (map f xs) (f x)
map_in f [] x (k, lt, is) = absurd (omega arith)
map_in f (y ∷ xs) x (zero, lt, is) = (0, omega arith, ap f is)
map_in f (y ∷ xs) x (suc k, lt, is) = contains_tail (f y) (map f xs) (f x) (map_in f xs x (k, omega arith, is))

-- ---- rows

pub no_row : (words : List Bytes) (links : List NumberedLink) (text : Bytes) → LinksWithin (length words) links → (Contains words text → ⊥) → [] ≡ parents (map (named words) links) text
no_row words [] text within fresh = refl
no_row words (link ∷ links) text within fresh = go (bytes_eq (word words link.low) text) refl (no_row words links text within.1 fresh)
  where
    go : (b : Bool) → bytes_eq (word words link.low) text ≡ b → [] ≡ parents (map (named words) links) text
        → [] ≡ map as_told (if b then named words link ∷ filter (λ (l : Link). bytes_eq l.low text) (map (named words) links) else filter (λ (l : Link). bytes_eq l.low text) (map (named words) links))
    go true e ih = absurd (fresh (contains_word words link.low text within.0.0 ((bytes_eq-Decides (word words link.low) text).0 e)))
    go false e ih = ih

pub row_at : (words : List Bytes) (links : List NumberedLink) (rows : List (List Told)) (n : ℕ) (row : List Told) → AreRows words links rows → n < length words → row ≡ get_or rows n row → row ≡ parents (map (named words) links) (word words n)
row_at words links rows n row h lt is = get_or_read rows n row (omega (arith, lt, h.long)) is [] ∙ h.are n lt

pub in_parents : (links : List Link) (text : Bytes) (told : Told) → Contains (parents links text) told → (link : Link) × Contains links link × (link.low ≡ text) × (as_told link ≡ told)
in_parents [] text told (k, lt, is) = absurd (omega arith)
in_parents (first ∷ links) text told h = go (bytes_eq first.low text) refl (in_parents links text told) h
  where
    go : (b : Bool) → bytes_eq first.low text ≡ b → (Contains (parents links text) told → (link : Link) × Contains links link × (link.low ≡ text) × (as_told link ≡ told))
        → Contains (map as_told (if b then first ∷ filter (λ (l : Link). bytes_eq l.low text) links else filter (λ (l : Link). bytes_eq l.low text) links)) told
        → (link : Link) × Contains (first ∷ links) link × (link.low ≡ text) × (as_told link ≡ told)
    go true e ih (zero, lt, is) = (first, contains_head first links, (bytes_eq-Decides first.low text).0 e, is)
    go true e ih (suc k, lt, is) = let r = ih (k, omega arith, is) in (r.0, contains_tail first links r.0 r.1, r.2, r.3)
    go false e ih h = let r = ih h in (r.0, contains_tail first links r.0 r.1, r.2, r.3)

pub parents_in : (links : List Link) (link : Link) (text : Bytes) → Contains links link → link.low ≡ text → Contains (parents links text) (as_told link)
parents_in [] link text (k, lt, is) low = absurd (omega arith)
parents_in (first ∷ links) link text h low = go (bytes_eq first.low text) refl (λ k. parents_in links link text k low) h
  where
    go : (b : Bool) → bytes_eq first.low text ≡ b → (Contains links link → Contains (parents links text) (as_told link)) → Contains (first ∷ links) link
        → Contains (map as_told (if b then first ∷ filter (λ (l : Link). bytes_eq l.low text) links else filter (λ (l : Link). bytes_eq l.low text) links)) (as_told link)
    go true e ih (zero, lt, is) = (0, omega arith, ap as_told is)
    go true e ih (suc k, lt, is) = contains_tail (as_told first) (parents links text) (as_told link) (ih (k, omega arith, is))
    go false e ih (zero, lt, is) =
        let no_way : false ≡ true = sym e ∙ (bytes_eq-Decides first.low text).1 (ap (λ (l : Link). l.low) is ∙ low) in
        absurd (cc)
    go false e ih (suc k, lt, is) = ih (k, omega arith, is)

-- ---- chains and paths

path_before : (edges : List Edge) (edge : Edge) (high : ℕ) → Contains edges edge → Path edges edge.high high → Path edges edge.low high
path_before edges edge high told p = record { path = edge ∷ p.path; among = (told, p.among); follows = (refl, p.follows) }

pub path_of_chain : (words : List Bytes) (links : List NumberedLink) (kind : ChainKind) (edges : List Edge) → HasEdges kind links edges → LinksWithin (length words) links → AreDistinct words
    → (chain : List Link) → Each (λ (link : Link). Contains (map (named words) links) link) chain → OfKind kind chain → (n high : ℕ) → n < length words → high < length words → Joins chain (word words n) (word words high)
    → Path edges n high
path_of_chain words links kind edges all within distinct [] told of_kind n high lt below joins = subst (Path edges n) (distinct n high lt below joins) (path_none edges n)
path_of_chain words links kind edges all within distinct (link ∷ chain) told of_kind n high lt below joins =
    let found = in_map (named words) links link told.0 in
    let inside = each_in (λ (l : NumberedLink). (l.low < length words) × (l.high < length words)) links found.0 found.1 within in
    let same : found.0.low ≡ n = distinct found.0.low n inside.0 lt (ap (λ (l : Link). l.low) found.2 ∙ joins.0) in
    let kind_is : found.0.kind ≡ kind = ap (λ (l : Link). l.kind) found.2 ∙ of_kind.0 in
    let edge_in : Contains edges (edge_of found.0) = each_in (λ (l : NumberedLink). l.kind ≡ kind → Contains edges (edge_of l)) links found.0 found.1 all kind_is in
    let later : Path edges found.0.high high =
    path_of_chain words links kind edges all within distinct chain told.1 of_kind.1 found.0.high high inside.1 below
    (subst (λ (text : Bytes). Joins chain text (word words high)) (sym (ap (λ (l : Link). l.high) found.2)) joins.1)
    in
    subst (λ (k : ℕ). Path edges k high) same (path_before edges (edge_of found.0) high edge_in later)

pub chain_of_path : (words : List Bytes) (links : List NumberedLink) (kind : ChainKind) (edges : List Edge) → AreEdges kind links edges → (path : List Edge) (n high : ℕ)
    → Each (λ (edge : Edge). Contains edges edge) path → Follows path n high → Passes (map (named words) links) kind (word words n) (word words high)
chain_of_path words links kind edges are [] n high told follows = record { chain = []; told = tt; are = tt; joins = ap (word words) follows }
chain_of_path words links kind edges are (edge ∷ path) n high told follows =
    let found = each_in (λ (e : Edge). (link : NumberedLink) × Contains links link × (link.kind ≡ kind) × (edge_of link ≡ e)) edges edge told.0 are.told in
    let rest = chain_of_path words links kind edges are path edge.high high told.1 follows.1 in
    record {
      chain = named words found.0 ∷ rest.chain;
      told = (map_in (named words) links found.0 found.1, rest.told);
      are = (found.2, rest.are);
      joins = (
        ap (word words) (ap (λ (e : Edge). e.low) found.3 ∙ follows.0),
        subst (λ (k : ℕ). Joins rest.chain (word words k) (word words high)) (sym (ap (λ (e : Edge). e.high) found.3)) rest.joins,
      );
    }

-- ---- the readers' answers

pub reaches_is : (words : List Bytes) (links : List NumberedLink) (kind : ChainKind) (sets : List (List Run)) (low high : ℕ) (text : Bytes) (b : Bool) → LinksWithin (length words) links → AreDistinct words
    → AreSets kind (length words) links sets → low < length words → word words low ≡ text → high < length words → b ≡ has (at_or_below sets high) low
    → MatchBool b (Passes (map (named words) links) kind text (word words high)) (Passes (map (named words) links) kind text (word words high) → ⊥)
reaches_is words links kind sets low high text b within distinct s lt is below e =
    subst (λ (t : Bytes). MatchBool b (Passes (map (named words) links) kind t (word words high)) (Passes (map (named words) links) kind t (word words high) → ⊥)) is (go b e)
  where
    go : (b : Bool) → b ≡ has (at_or_below sets high) low → MatchBool b (Passes (map (named words) links) kind (word words low) (word words high)) (Passes (map (named words) links) kind (word words low) (word words high) → ⊥)
    go true e =
        let p = below_sound s.edges (length words) sets low high s.closed (sym e) in
        chain_of_path words links kind s.edges s.are p.path low high p.among p.follows
    go false e = λ passes.
        let p = path_of_chain words links kind s.edges s.are.all within distinct passes.chain passes.told passes.are low high lt below passes.joins in
        let no_way : false ≡ true = e ∙ below_complete s.edges (length words) sets low high s.closed p in
        absurd (cc)

low_among : (words : List Bytes) (links : List NumberedLink) (link : Link) → LinksWithin (length words) links → Contains (map (named words) links) link → Contains words link.low × Contains words link.high
low_among words links link within told =
    let found = in_map (named words) links link told in
    let inside = each_in (λ (l : NumberedLink). (l.low < length words) × (l.high < length words)) links found.0 found.1 within in
    (contains_word words found.0.low link.low inside.0 (ap (λ (l : Link). l.low) found.2), contains_word words found.0.high link.high inside.1 (ap (λ (l : Link). l.high) found.2))

pub unknown_reaches : (words : List Bytes) (links : List NumberedLink) (kind : ChainKind) (high : ℕ) (text : Bytes) → LinksWithin (length words) links → high < length words → (Contains words text → ⊥)
    → Passes (map (named words) links) kind text (word words high) → ⊥
unknown_reaches words links kind high text within below fresh passes = go passes.chain passes.told passes.joins
  where
    go : (chain : List Link) → Each (λ (link : Link). Contains (map (named words) links) link) chain → Joins chain text (word words high) → ⊥
    go [] told joins = fresh (contains_word words high text below (sym joins))
    go (link ∷ chain) told joins = fresh (subst (Contains words) joins.0 (low_among words links link within told.0).0)

ends_among : (words : List Bytes) (links : List NumberedLink) (link : Link) (chain : List Link) (low high : Bytes) → LinksWithin (length words) links → Contains (map (named words) links) link
    → Each (λ (link : Link). Contains (map (named words) links) link) chain → Joins (link ∷ chain) low high → Contains words high
ends_among words links link [] low high within here told joins = subst (Contains words) joins.1 (low_among words links link within here).1
ends_among words links link (next ∷ chain) low high within here told joins = ends_among words links next chain link.high high within told.0 told.1 joins.1

pub unknown_is_above : (words : List Bytes) (links : List NumberedLink) (kind : ChainKind) (low high : Bytes) → LinksWithin (length words) links → (Contains words high → ⊥) → Chain (map (named words) links) kind low high → ⊥
unknown_is_above words links kind low high within fresh c = go c.chain c.told c.is c.joins
  where
    go : (chain : List Link) → Each (λ (link : Link). Contains (map (named words) links) link) chain → IsChain kind chain → Joins chain low high → ⊥
    go [] told is joins = is
    go (link ∷ chain) told is joins = fresh (ends_among words links link chain low high within told.0 told.1 joins)

-- one link, and then none or more
pub chain_from : (links : List Link) (kind : ChainKind) (low high : Bytes) (row : List Told) (i : ℕ) (told : Told) → row ≡ parents links low → i < length row → told ≡ get_or row i told → told.kind ≡ kind
    → Passes links (later_kind kind) told.parent high → Chain links kind low high
chain_from links kind low high row i told row_is lt is same passes =
    let among : Contains (parents links low) told = subst (λ (r : List Told). Contains r told) row_is (i, lt, sym is) in
    let found = in_parents links low told among in
    record {
      chain = found.0 ∷ passes.chain;
      told = (found.1, passes.told);
      is = (ap (λ (t : Told). t.kind) found.3 ∙ same, passes.are);
      joins = (found.2, subst (λ (text : Bytes). Joins passes.chain text high) (sym (ap (λ (t : Told). t.parent) found.3)) passes.joins);
    }

-- nothing that is told of the word begins a chain
abbrev pub NoneLeads : List Link → ChainKind → Bytes → List Told → Type 0
NoneLeads links kind high row = Each (λ (told : Told). told.kind ≡ kind → Passes links (later_kind kind) told.parent high → ⊥) row

pub no_chain : (links : List Link) (kind : ChainKind) (low high : Bytes) (row : List Told) → row ≡ parents links low → NoneLeads links kind high row → Chain links kind low high → ⊥
no_chain links kind low high row row_is none c = go c.chain c.told c.is c.joins
  where
    go : (chain : List Link) → Each (λ (link : Link). Contains links link) chain → IsChain kind chain → Joins chain low high → ⊥
    go [] told is joins = is
    go (link ∷ chain) told is joins =
        each_in (λ (t : Told). t.kind ≡ kind → Passes links (later_kind kind) t.parent high → ⊥) row (as_told link)
        (subst (λ (r : List Told). Contains r (as_told link)) (sym row_is) (parents_in links link low told.0 joins.0)) none is.0
        (record { chain = chain; told = told.1; are = is.1; joins = joins.1 })

-- ---- disjoint words

-- none or more class links lead to a word at or above
pub passes_above : (links : List Link) (text above : Bytes) → Passes links kinds.Class text above → IsAtOrAbove links text above
passes_above links text above p = go p.chain p.told p.are p.joins
  where
    go : (chain : List Link) → Each (λ (link : Link). Contains links link) chain → OfKind kinds.Class chain → Joins chain text above → IsAtOrAbove links text above
    go [] told are joins = inl joins
    go (link ∷ chain) told are joins = inr (inl (record { chain = link ∷ chain; told = told; is = are; joins = joins }))

-- neither class links nor an instance chain
pub not_above : (links : List Link) (text above : Bytes) → (Passes links kinds.Class text above → ⊥) → (Chain links kinds.Instance text above → ⊥) → IsAtOrAbove links text above → ⊥
not_above links text above no_class no_instance (inl same) = no_class (record { chain = []; told = tt; are = tt; joins = same })
not_above links text above no_class no_instance (inr (inl class)) = no_class (go class.chain class.told class.is class.joins)
  where
    go : (chain : List Link) → Each (λ (link : Link). Contains links link) chain → IsChain kinds.Class chain → Joins chain text above → Passes links kinds.Class text above
    go [] told is joins = absurd is
    go (link ∷ chain) told is joins = record { chain = link ∷ chain; told = told; are = is; joins = joins }
not_above links text above no_class no_instance (inr (inr instance)) = no_instance instance

pub class_above : (words : List Bytes) (links : List NumberedLink) (sets : List (List Run)) (low high : ℕ) → LinksWithin (length words) links → AreDistinct words → AreSets kinds.Class (length words) links sets
    → low < length words → high < length words → true ≡ has (at_or_below sets high) low → IsAtOrAbove (map (named words) links) (word words low) (word words high)
class_above words links sets low high within distinct s lt below e =
    passes_above (map (named words) links) (word words low) (word words high) (reaches_is words links kinds.Class sets low high (word words low) true within distinct s lt refl below e)

pub or_instance : (words : List Bytes) (links : List NumberedLink) (sets : List (List Run)) (low high : ℕ) (b : Bool) → LinksWithin (length words) links → AreDistinct words → AreSets kinds.Class (length words) links sets
    → low < length words → high < length words → false ≡ has (at_or_below sets high) low
    → MatchBool b (Chain (map (named words) links) kinds.Instance (word words low) (word words high)) (Chain (map (named words) links) kinds.Instance (word words low) (word words high) → ⊥)
    → MatchBool b (IsAtOrAbove (map (named words) links) (word words low) (word words high)) (IsAtOrAbove (map (named words) links) (word words low) (word words high) → ⊥)
or_instance words links sets low high true within distinct s lt below e chain = inr (inr chain)
or_instance words links sets low high false within distinct s lt below e none =
    not_above (map (named words) links) (word words low) (word words high) (reaches_is words links kinds.Class sets low high (word words low) false within distinct s lt refl below e) none

-- the group's numbers, none of which is found
abbrev pub NoneFoundIn : List Link → List Bytes → List ℕ → Bytes → Option ℕ → Type 0
NoneFoundIn links words group text but = Each (λ (n : ℕ). IsOther but n → IsAtOrAbove links text (word words n) → ⊥) group

pub none_of_first : (links : List Link) (words : List Bytes) (group : List ℕ) (place : Place) (first second : Bytes) → NoneFoundIn links words group first None → Separates links (record { words = map (word words) group; place = place }) first second → ⊥
none_of_first links words group place first second none s =
    let found = in_map (word words) group s.one s.has_one in
    each_in (λ (n : ℕ). IsOther None n → IsAtOrAbove links first (word words n) → ⊥) group found.0 found.1 none tt
    (subst (IsAtOrAbove links first) (sym found.2) s.above_first)

pub none_of_second : (links : List Link) (words : List Bytes) (group : List ℕ) (place : Place) (first second : Bytes) → NoneFoundIn links words group second None → Separates links (record { words = map (word words) group; place = place }) first second → ⊥
none_of_second links words group place first second none s =
    let found = in_map (word words) group s.other s.has_other in
    each_in (λ (n : ℕ). IsOther None n → IsAtOrAbove links second (word words n) → ⊥) group found.0 found.1 none tt
    (subst (IsAtOrAbove links second) (sym found.2) s.above_second)

pub two_found : (links : List Link) (words : List Bytes) (group : List ℕ) (place : Place) (first second : Bytes) (one other : ℕ) → AreDistinct words → AreBelow (length words) group → Contains group one → Contains group other → one ≢ other
    → IsAtOrAbove links first (word words one) → IsAtOrAbove links second (word words other) → Separates links (record { words = map (word words) group; place = place }) first second
two_found links words group place first second one other distinct below has_one has_other apart above also = record {
  one = word words one;
  other = word words other;
  has_one = map_in (word words) group one has_one;
  has_other = map_in (word words) group other has_other;
  apart = λ same. apart (distinct one other (each_in (λ (n : ℕ). n < length words) group one has_one below) (each_in (λ (n : ℕ). n < length words) group other has_other below) same);
  above_first = above;
  above_second = also;
}

-- only the number that is left out can be found
only_one : (links : List Link) (words : List Bytes) (group : List ℕ) (text : Bytes) (but n : ℕ) → NoneFoundIn links words group text (Some but) → Contains group n → IsAtOrAbove links text (word words n) → n ≡ but
only_one links words group text but n none among above = go (cases_order n but)
  where
    no_way : n ≢ but → ⊥
    no_way apart = each_in (λ (k : ℕ). IsOther (Some but) k → IsAtOrAbove links text (word words k) → ⊥) group n among none apart above

    go : ((n ≡ but) ⊎ ((n < but) ⊎ (but < n))) → n ≡ but
    go (inl same) = same
    go (inr (inl less)) = absurd (no_way (λ e. absurd (omega (arith, e, less))))
    go (inr (inr more)) = absurd (no_way (λ e. absurd (omega (arith, e, more))))

pub same_found : (links : List Link) (words : List Bytes) (group : List ℕ) (text : Bytes) (but n : ℕ) → NoneFoundIn links words group text (Some but) → Contains group n → IsAtOrAbove links text (word words n) → IsAtOrAbove links text (word words but)
same_found links words group text but n none among above = subst (λ (k : ℕ). IsAtOrAbove links text (word words k)) (only_one links words group text but n none among above) above

pub one_alone : (links : List Link) (words : List Bytes) (group : List ℕ) (place : Place) (first second : Bytes) (but : ℕ) → NoneFoundIn links words group first (Some but) → NoneFoundIn links words group second (Some but)
    → Separates links (record { words = map (word words) group; place = place }) first second → ⊥
one_alone links words group place first second but none also s =
    let found = in_map (word words) group s.one s.has_one in
    let other = in_map (word words) group s.other s.has_other in
    let one_is : found.0 ≡ but = only_one links words group first but found.0 none found.1 (subst (IsAtOrAbove links first) (sym found.2) s.above_first) in
    let other_is : other.0 ≡ but = only_one links words group second but other.0 also other.1 (subst (IsAtOrAbove links second) (sym other.2) s.above_second) in
    s.apart (sym found.2 ∙ (ap (word words) (one_is ∙ sym other_is) ∙ other.2))

each_over_map : {X Y : Type 0} (P : Y → Type 0) (f : X → Y) (xs : List X) → Each (λ x. P (f x)) xs → Each P (map f xs)
each_over_map P f [] h = tt
each_over_map P f (x ∷ xs) h = (h.0, each_over_map P f xs h.1)

-- some groups, none of which separates the two words
abbrev pub NoneSeparates : List Link → List Bytes → List NumberedGroup → Bytes → Bytes → Type 0
NoneSeparates links words groups first second = Each (λ (group : NumberedGroup). Separates links (named_group words group) first second → ⊥) groups

pub not_disjoint : (links : List Link) (words : List Bytes) (groups : List NumberedGroup) (first second : Bytes) → NoneSeparates links words groups first second
    → AreNotDisjoint (record { links = links; disjoint = map (named_group words) groups }) first second
not_disjoint links words groups first second none = each_over_map (λ (form : DisjointWords). Separates links form first second → ⊥) (named_group words) groups none

pub first_disjoint : (links : List Link) (words : List Bytes) (groups : List NumberedGroup) (i : ℕ) (group : NumberedGroup) (first second : Bytes) → i < length groups → group ≡ get_or groups i group
    → NoneSeparates links words (take i groups) first second → Separates links (named_group words group) first second
    → AreDisjointBy (record { links = links; disjoint = map (named_group words) groups }) first second group.place
first_disjoint links words groups i group first second lt is none separates = record {
  before = map (named_group words) (take i groups);
  form = named_group words group;
  after = map (named_group words) (drop (suc i) groups);
  stands = ap (λ (gs : List NumberedGroup). map (named_group words) gs) (split_at groups i group lt ∙ ap (λ (g : NumberedGroup). take i groups ++ g ∷ drop (suc i) groups) (sym is))
      ∙ map-append (named_group words) (take i groups) (group ∷ drop (suc i) groups);
  separates = separates;
  first_of_all = each_over_map (λ (form : DisjointWords). Separates links form first second → ⊥) (named_group words) (take i groups) none;
  at_place = refl;
}

-- ---- words that are disjoint from themselves

-- a chain is a path of its links' edges
chain_path : (words : List Bytes) (links : List NumberedLink) (kind : ChainKind) (edges : List Edge) → HasEdges kind links edges → HasEdges (later_kind kind) links edges → LinksWithin (length words) links
    → AreDistinct words → (n high : ℕ) → n < length words → high < length words → Chain (map (named words) links) kind (word words n) (word words high) → Path edges n high
chain_path words links kind edges first later within distinct n high lt below c = go c.chain c.told c.is c.joins
  where
    go : (chain : List Link) → Each (λ (link : Link). Contains (map (named words) links) link) chain → IsChain kind chain → Joins chain (word words n) (word words high) → Path edges n high
    go [] told is joins = absurd is
    go (link ∷ chain) told is joins =
        let found = in_map (named words) links link told.0 in
        let inside = each_in (λ (l : NumberedLink). (l.low < length words) × (l.high < length words)) links found.0 found.1 within in
        let same : found.0.low ≡ n = distinct found.0.low n inside.0 lt (ap (λ (l : Link). l.low) found.2 ∙ joins.0) in
        let edge_in : Contains edges (edge_of found.0) = each_in (λ (l : NumberedLink). l.kind ≡ kind → Contains edges (edge_of l)) links found.0 found.1 first (ap (λ (l : Link). l.kind) found.2 ∙ is.0) in
        let rest : Path edges found.0.high high =
        path_of_chain words links (later_kind kind) edges later within distinct chain told.1 is.1 found.0.high high inside.1 below
        (subst (λ (text : Bytes). Joins chain text (word words high)) (sym (ap (λ (l : Link). l.high) found.2)) joins.1)
        in
        subst (λ (k : ℕ). Path edges k high) same (path_before edges (edge_of found.0) high edge_in rest)

path_above : (words : List Bytes) (links : List NumberedLink) (edges : List Edge) → HasEdges kinds.Class links edges → HasEdges kinds.Instance links edges → LinksWithin (length words) links → AreDistinct words
    → (n high : ℕ) → n < length words → high < length words → IsAtOrAbove (map (named words) links) (word words n) (word words high) → Path edges n high
path_above words links edges classes instances within distinct n high lt below (inl same) = subst (Path edges n) (distinct n high lt below same) (path_none edges n)
path_above words links edges classes instances within distinct n high lt below (inr (inl chain)) = chain_path words links kinds.Class edges classes classes within distinct n high lt below chain
path_above words links edges classes instances within distinct n high lt below (inr (inr chain)) = chain_path words links kinds.Instance edges instances classes within distinct n high lt below chain

each_of_take : {X : Type 0} (P : X → Type 0) (xs : List X) (many : ℕ) → ((i : ℕ) (x : X) → i < many → i < length xs → x ≡ get_or xs i x → P x) → Each P (take many xs)
each_of_take P xs zero h = tt
each_of_take P [] (suc many) h = tt
each_of_take P (x ∷ xs) (suc many) h =
    (h 0 x (omega arith) (omega arith) refl, each_of_take P xs many (λ i y less lt is. h (suc i) y (omega (arith, less)) (omega (arith, lt)) is))

-- none of the groups before its start separates a word from itself
pub none_before : (words : List Bytes) (links : List NumberedLink) (groups : List NumberedGroup) (starts : List ℕ) (n : ℕ) (text : Bytes) → LinksWithin (length words) links → GroupsWithin (length words) groups
    → AreDistinct words → AreSelfStarts (length words) links groups starts → n < length words → word words n ≡ text
    → Each (λ (group : NumberedGroup). Separates (map (named words) links) (named_group words group) text text → ⊥) (take (get_or starts n 0) groups)
none_before words links groups starts n text within inside distinct s lt is =
    subst (λ (t : Bytes). Each (λ (group : NumberedGroup). Separates (map (named words) links) (named_group words group) t t → ⊥) (take (get_or starts n 0) groups)) is
    (each_of_take (λ (group : NumberedGroup). Separates (map (named words) links) (named_group words group) (word words n) (word words n) → ⊥) groups (get_or starts n 0) no_group)
  where
    no_group : (i : ℕ) (group : NumberedGroup) → i < get_or starts n 0 → i < length groups → group ≡ get_or groups i group → Separates (map (named words) links) (named_group words group) (word words n) (word words n) → ⊥
    no_group i group before below there separates = absurd (omega (arith, before, s.starts n i group below below there shared))
      where
        one : (k : ℕ) × Contains group.words k × (word words k ≡ separates.one)
        one = in_map (word words) group.words separates.one separates.has_one

        other : (k : ℕ) × Contains group.words k × (word words k ≡ separates.other)
        other = in_map (word words) group.words separates.other separates.has_other

        numbers : AreBelow (length words) group.words
        numbers = each_in (λ (g : NumberedGroup). AreBelow (length words) g.words) groups group (i, below, sym there) inside

        path : (k : ℕ) (above : Bytes) → Contains group.words k → word words k ≡ above → IsAtOrAbove (map (named words) links) (word words n) above → has (at_or_below s.sets k) n ≡ true
        path k above among same h =
            below_complete s.edges (length words) s.sets n k s.closed
            (path_above words links s.edges s.classes s.instances within distinct n k lt (each_in (λ (m : ℕ). m < length words) group.words k among numbers)
            (subst (IsAtOrAbove (map (named words) links) (word words n)) (sym same) h))

        shared : IsShared s.sets group.words n
        shared = record {
          one = one.0;
          other = other.0;
          has_one = one.1;
          has_other = other.1;
          apart = λ e. separates.apart (sym one.2 ∙ (ap (word words) e ∙ other.2));
          in_one = path one.0 separates.one one.1 one.2 separates.above_first;
          in_other = path other.0 separates.other other.1 other.2 separates.above_second;
        }

-- nothing is at or above a word that has no number, but the word itself
unknown_above : (words : List Bytes) (links : List NumberedLink) (n : ℕ) (text : Bytes) → LinksWithin (length words) links → (Contains words text → ⊥) → n < length words
    → IsAtOrAbove (map (named words) links) text (word words n) → ⊥
unknown_above words links n text within fresh lt above = cases above
  where
    none : (kind : ChainKind) (chain : List Link) → Each (λ (link : Link). Contains (map (named words) links) link) chain → IsChain kind chain → Joins chain text (word words n) → ⊥
    none kind [] told is joins = is
    none kind (link ∷ chain) told is joins = fresh (subst (Contains words) joins.0 (low_among words links link within told.0).0)

    cases : IsAtOrAbove (map (named words) links) text (word words n) → ⊥
    cases (inl same) = fresh (contains_word words n text lt (sym same))
    cases (inr (inl c)) = none kinds.Class c.chain c.told c.is c.joins
    cases (inr (inr c)) = none kinds.Instance c.chain c.told c.is c.joins

pub unknown_first : (words : List Bytes) (links : List NumberedLink) (groups : List NumberedGroup) (first second : Bytes) → LinksWithin (length words) links → GroupsWithin (length words) groups
    → (Contains words first → ⊥) → NoneSeparates (map (named words) links) words groups first second
unknown_first words links groups first second within inside fresh =
    each_map (λ (group : NumberedGroup). AreBelow (length words) group.words) (λ (group : NumberedGroup). Separates (map (named words) links) (named_group words group) first second → ⊥)
    (λ group numbers s.
    let one = in_map (word words) group.words s.one s.has_one in
    unknown_above words links one.0 first within fresh (each_in (λ (m : ℕ). m < length words) group.words one.0 one.1 numbers) (subst (IsAtOrAbove (map (named words) links) first) (sym one.2) s.above_first)) groups inside

pub unknown_second : (words : List Bytes) (links : List NumberedLink) (groups : List NumberedGroup) (first second : Bytes) → LinksWithin (length words) links → GroupsWithin (length words) groups
    → (Contains words second → ⊥) → NoneSeparates (map (named words) links) words groups first second
unknown_second words links groups first second within inside fresh =
    each_map (λ (group : NumberedGroup). AreBelow (length words) group.words) (λ (group : NumberedGroup). Separates (map (named words) links) (named_group words group) first second → ⊥)
    (λ group numbers s.
    let other = in_map (word words) group.words s.other s.has_other in
    unknown_above words links other.0 second within fresh (each_in (λ (m : ℕ). m < length words) group.words other.0 other.1 numbers) (subst (IsAtOrAbove (map (named words) links) second) (sym other.2) s.above_second)) groups inside

pub unknown_low : (words : List Bytes) (links : List NumberedLink) (kind : ChainKind) (low high : Bytes) → LinksWithin (length words) links → (Contains words low → ⊥) → Chain (map (named words) links) kind low high → ⊥
unknown_low words links kind low high within fresh c = go c.chain c.told c.is c.joins
  where
    go : (chain : List Link) → Each (λ (link : Link). Contains (map (named words) links) link) chain → IsChain kind chain → Joins chain low high → ⊥
    go [] told is joins = is
    go (link ∷ chain) told is joins = fresh (subst (Contains words) joins.0 (low_among words links link within told.0).0)
