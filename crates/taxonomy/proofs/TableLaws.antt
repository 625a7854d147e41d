-- Edges of links, and rows of what links tell.
use Rattle.std.proofs.Common.{◌≡◌, ℕ, suc, ◌+◌, ◌<◌, ◌⊎◌, List, [], ◌∷◌, ◌++◌, map, filter, length, get_or, take, Bool, true, false, if◌then◌else◌, refl, sym, ap, subst, ◌∙◌, arith, inl, inr}
use Rattle.std.specs.Prelude.{Contains, slice_set}
use Rattle.std.specs.Str.{bytes_eq}
use Rattle.std.proofs.lemmas.List.{take_more, length-set, map-append}
use Rattle.std.proofs.lemmas.List.Elements.{Contains-append_left, Contains-append_right, Contains-push}
use Rattle.std.specs.List.Sorted.{IsPermutation}
use Rattle.std.proofs.lemmas.List.Sorted.{Contains-permutation, IsPermutation-sym}
use Rattle.std.proofs.lemmas.Slice.Eq.{bytes_eq-Decides}
use Rattle.kif_tree.specs.Terms.{Bytes}
use Rattle.sigma_base.specs.Lists.{Each, each_append, each_map}
use Rattle.taxonomy.specs.declared.closure.Edge.{Edge}
use Rattle.taxonomy.specs.declared.numbered.NumberedLink.{NumberedLink}
use Rattle.taxonomy.specs.declared.told.ChainKind.{ChainKind}
use Rattle.taxonomy.specs.declared.told.ChainKind.TheVariants as kinds
use Rattle.taxonomy.specs.declared.told.Told.{Told}
use Rattle.taxonomy.specs.Chains.{parents, as_told}
use Rattle.taxonomy.specs.Graph.{AreWithin}
use Rattle.taxonomy.specs.Numbered.{word, named, LinksWithin}
use Rattle.taxonomy.specs.Tables.{edge_of, AreEdges, HasEdges, AreDistinct, AreRows}
use Rattle.taxonomy.specs.Told.{Link}
use Rattle.taxonomy.proofs.GraphLaws.{set_cases, each_in, contains_at}

-- where a list ends
abbrev pub any : NumberedLink
any = record { kind = kinds.Class; low = 0; high = 0; place = record { constituent = 0; form = 0; line = 0; column = 0 } }

-- ---- edges

abbrev IsEdgeOf : ChainKind → List NumberedLink → Edge → Type 0
IsEdgeOf kind links edge = (link : NumberedLink) × Contains links link × (link.kind ≡ kind) × (edge_of link ≡ edge)

longer_edges : (kind : ChainKind) (links more : List NumberedLink) (edges : List Edge) → Each (IsEdgeOf kind links) edges → Each (IsEdgeOf kind (links ++ more)) edges
longer_edges kind links more edges h =
    each_map (IsEdgeOf kind links) (IsEdgeOf kind (links ++ more)) (λ edge w. (w.0, Contains-append_left links more w.0 w.1, w.2, w.3)) edges h

longer_all : (kind : ChainKind) (links : List NumberedLink) (edges more : List Edge) → Each (λ (link : NumberedLink). link.kind ≡ kind → Contains edges (edge_of link)) links
    → Each (λ (link : NumberedLink). link.kind ≡ kind → Contains (edges ++ more) (edge_of link)) links
longer_all kind links edges more h =
    each_map (λ (link : NumberedLink). link.kind ≡ kind → Contains edges (edge_of link)) (λ (link : NumberedLink). link.kind ≡ kind → Contains (edges ++ more) (edge_of link))
    (λ link w e. Contains-append_left edges more (edge_of link) (w e)) links h

pub edges_skip : (kind : ChainKind) (links : List NumberedLink) (i : ℕ) (d : NumberedLink) (edges : List Edge) → i < length links → ((get_or links i d).kind ≡ kind → ⊥) → AreEdges kind (take i links) edges
    → AreEdges kind (take (i + 1) links) edges
edges_skip kind links i d edges lt apart h = subst (λ (ls : List NumberedLink). AreEdges kind ls edges) (sym (take_more links i d lt)) (record {
  told = longer_edges kind (take i links) (get_or links i d ∷ []) edges h.told;
  all = each_append (λ (link : NumberedLink). link.kind ≡ kind → Contains edges (edge_of link)) (take i links) (get_or links i d ∷ []) h.all ((λ e. absurd (apart e)), tt);
})

pub edges_more : (kind : ChainKind) (links : List NumberedLink) (i : ℕ) (d : NumberedLink) (edges longer : List Edge) → i < length links → (get_or links i d).kind ≡ kind
    → longer ≡ edges ++ edge_of (get_or links i d) ∷ [] → AreEdges kind (take i links) edges → AreEdges kind (take (i + 1) links) longer
edges_more kind links i d edges longer lt same is h =
    subst (AreEdges kind (take (i + 1) links)) (sym is) (subst (λ (ls : List NumberedLink). AreEdges kind ls (edges ++ edge_of (get_or links i d) ∷ [])) (sym (take_more links i d lt)) (record {
      told = each_append (IsEdgeOf kind (take i links ++ get_or links i d ∷ [])) edges (edge_of (get_or links i d) ∷ [])
          (longer_edges kind (take i links) (get_or links i d ∷ []) edges h.told) ((get_or links i d, Contains-push (take i links) (get_or links i d), same, refl), tt);
      all = each_append (λ (link : NumberedLink). link.kind ≡ kind → Contains (edges ++ edge_of (get_or links i d) ∷ []) (edge_of link)) (take i links) (get_or links i d ∷ [])
          (longer_all kind (take i links) edges (edge_of (get_or links i d) ∷ []) h.all) ((λ e. Contains-push edges (edge_of (get_or links i d))), tt);
    }))

-- ---- rows

abbrev of_word : Bytes → List Link → List Link
of_word text links = filter (λ (l : Link). bytes_eq l.low text) links

parents_here : (links : List Link) (link : Link) (text : Bytes) → bytes_eq link.low text ≡ true → parents (links ++ link ∷ []) text ≡ parents links text ++ as_told link ∷ []
parents_here [] link text e = ap (λ (b : Bool). map as_told (if b then link ∷ [] else [])) e
parents_here (first ∷ links) link text e = go (bytes_eq first.low text) (parents_here links link text e)
  where
    go : (b : Bool) → parents (links ++ link ∷ []) text ≡ parents links text ++ as_told link ∷ []
        → map as_told (if b then first ∷ of_word text (links ++ link ∷ []) else of_word text (links ++ link ∷ [])) ≡ map as_told (if b then first ∷ of_word text links else of_word text links) ++ as_told link ∷ []
    go true ih = ap (λ (ts : List Told). as_told first ∷ ts) ih
    go false ih = ih

parents_skip : (links : List Link) (link : Link) (text : Bytes) → bytes_eq link.low text ≡ false → parents (links ++ link ∷ []) text ≡ parents links text
parents_skip [] link text e = ap (λ (b : Bool). map as_told (if b then link ∷ [] else [])) e
parents_skip (first ∷ links) link text e = go (bytes_eq first.low text) (parents_skip links link text e)
  where
    go : (b : Bool) → parents (links ++ link ∷ []) text ≡ parents links text
        → map as_told (if b then first ∷ of_word text (links ++ link ∷ []) else of_word text (links ++ link ∷ [])) ≡ map as_told (if b then first ∷ of_word text links else of_word text links)
    go true ih = ap (λ (ts : List Told). as_told first ∷ ts) ih
    go false ih = ih

differ : (xs ys : Bytes) → (xs ≡ ys → ⊥) → bytes_eq xs ys ≡ false
differ xs ys apart = go (bytes_eq xs ys) refl
  where
    go : (b : Bool) → bytes_eq xs ys ≡ b → bytes_eq xs ys ≡ false
    go true e = absurd (apart ((bytes_eq-Decides xs ys).0 e))
    go false e = e

pub rows_more : (words : List Bytes) (links : List NumberedLink) (i : ℕ) (d : NumberedLink) (rows new : List (List Told)) → i < length links → LinksWithin (length words) links → AreDistinct words
    → AreRows words (take i links) rows → new ≡ slice_set rows (get_or links i d).low (get_or rows (get_or links i d).low [] ++ as_told (named words (get_or links i d)) ∷ []) → AreRows words (take (i + 1) links) new
rows_more words links i d rows new lt within distinct h is = subst (AreRows words (take (i + 1) links)) (sym is) (record {
  long = length-set rows link.low longer ∙ h.long;
  are = λ n below. subst (λ (ls : List NumberedLink). get_or (slice_set rows link.low longer) n [] ≡ parents (map (named words) ls) (word words n)) (sym (take_more links i d lt))
      (subst (λ (ls : List Link). get_or (slice_set rows link.low longer) n [] ≡ parents ls (word words n)) (sym (map-append (named words) (take i links) (link ∷ [])))
      (go n below (set_cases [] rows link.low n longer (omega (arith, inside.0, h.long)))));
})
  where
    link : NumberedLink
    link = get_or links i d

    longer : List Told
    longer = get_or rows link.low [] ++ as_told (named words link) ∷ []

    inside : (link.low < length words) × (link.high < length words)
    inside = each_in (λ (l : NumberedLink). (l.low < length words) × (l.high < length words)) links link (contains_at links i d lt) within

    go : (n : ℕ) → n < length words → (((n ≡ link.low) × (get_or (slice_set rows link.low longer) n [] ≡ longer)) ⊎ ((n ≡ link.low → ⊥) × (get_or (slice_set rows link.low longer) n [] ≡ get_or rows n [])))
        → get_or (slice_set rows link.low longer) n [] ≡ parents (map (named words) (take i links) ++ named words link ∷ []) (word words n)
    go n below (inl (same, row)) =
        row ∙ ap (λ (k : ℕ). get_or rows k [] ++ as_told (named words link) ∷ []) (sym same)
        ∙ ap (λ (ts : List Told). ts ++ as_told (named words link) ∷ []) (h.are n below)
        ∙ sym (parents_here (map (named words) (take i links)) (named words link) (word words n) ((bytes_eq-Decides (word words link.low) (word words n)).1 (ap (word words) (sym same))))
    go n below (inr (apart, row)) =
        row ∙ h.are n below
        ∙ sym (parents_skip (map (named words) (take i links)) (named words link) (word words n)
        (differ (word words link.low) (word words n) (λ e. apart (sym (distinct link.low n inside.0 below e)))))

-- ---- all together

pub edges_within : (kind : ChainKind) (count : ℕ) (links : List NumberedLink) (edges : List Edge) → LinksWithin count links → AreEdges kind links edges → AreWithin count edges
edges_within kind count links edges within h =
    each_map (IsEdgeOf kind links) (λ (edge : Edge). (edge.low < count) × (edge.high < count))
    (λ edge w. let inside = each_in (λ (l : NumberedLink). (l.low < count) × (l.high < count)) links w.0 w.1 within in
    (omega (arith, inside.0, ap (λ (e : Edge). e.low) w.3), omega (arith, inside.1, ap (λ (e : Edge). e.high) w.3))) edges h.told

each_of_members : {X : Type 0} (P : X → Type 0) (xs : List X) → ((x : X) → Contains xs x → P x) → Each P xs
each_of_members P [] h = tt
each_of_members P (x ∷ xs) h = (h x (0, omega arith, refl), each_of_members P xs (λ y among. h y (suc among.0, omega (arith, among.1), among.2)))

-- edges in another order
pub edges_sorted : (kind : ChainKind) (links : List NumberedLink) (edges sorted : List Edge) → IsPermutation edges sorted → AreEdges kind links edges → AreEdges kind links sorted
edges_sorted kind links edges sorted same h = record {
  told = each_of_members (IsEdgeOf kind links) sorted (λ edge among. each_in (IsEdgeOf kind links) edges edge (Contains-permutation sorted edges edge (IsPermutation-sym edges sorted same) among) h.told);
  all = each_map (λ (link : NumberedLink). link.kind ≡ kind → Contains edges (edge_of link)) (λ (link : NumberedLink). link.kind ≡ kind → Contains sorted (edge_of link))
      (λ link w e. Contains-permutation edges sorted (edge_of link) same (w e)) links h.all;
}

-- the edges of two kinds together, in some order
pub joined_first : (kind : ChainKind) (links : List NumberedLink) (edges more joined sorted : List Edge) → joined ≡ edges ++ more → IsPermutation joined sorted → AreEdges kind links edges → HasEdges kind links sorted
joined_first kind links edges more joined sorted is same h =
    each_map (λ (link : NumberedLink). link.kind ≡ kind → Contains edges (edge_of link)) (λ (link : NumberedLink). link.kind ≡ kind → Contains sorted (edge_of link))
    (λ link w e. Contains-permutation joined sorted (edge_of link) same (subst (λ (xs : List Edge). Contains xs (edge_of link)) (sym is) (Contains-append_left edges more (edge_of link) (w e)))) links h.all

pub joined_second : (kind : ChainKind) (links : List NumberedLink) (edges more joined sorted : List Edge) → joined ≡ edges ++ more → IsPermutation joined sorted → AreEdges kind links more → HasEdges kind links sorted
joined_second kind links edges more joined sorted is same h =
    each_map (λ (link : NumberedLink). link.kind ≡ kind → Contains more (edge_of link)) (λ (link : NumberedLink). link.kind ≡ kind → Contains sorted (edge_of link))
    (λ link w e. Contains-permutation joined sorted (edge_of link) same (subst (λ (xs : List Edge). Contains xs (edge_of link)) (sym is) (Contains-append_right edges more (edge_of link) (w e)))) links h.all

pub joined_within : (count : ℕ) (edges more joined sorted : List Edge) → joined ≡ edges ++ more → IsPermutation joined sorted → AreWithin count edges → AreWithin count more → AreWithin count sorted
joined_within count edges more joined sorted is same h k =
    each_of_members (λ (edge : Edge). (edge.low < count) × (edge.high < count)) sorted
    (λ edge among. each_in (λ (e : Edge). (e.low < count) × (e.high < count)) (edges ++ more) edge
    (subst (λ (xs : List Edge). Contains xs edge) is (Contains-permutation sorted joined edge (IsPermutation-sym joined sorted same) among))
    (each_append (λ (e : Edge). (e.low < count) × (e.high < count)) edges more h k))
