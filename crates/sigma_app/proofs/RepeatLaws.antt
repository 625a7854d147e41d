-- Paths that stand twice.
use Rattle.std.proofs.Common.{◌≡◌, ◌∙◌, ◌+◌, ◌<◌, ◌||◌, ℕ, Bool, cond, true, false, not, zero, suc, refl, sym, ap, ap₂, arith, List, [], ◌∷◌, length, drop, drop-cons}
use Rattle.std.specs.List.{list_any, slice_index_or}
use Rattle.std.specs.Str.{bytes_eq}
use Rattle.std.specs.Borrow.{Bor}
use Rattle.std.specs.declared.cmp.Ordering.{Ordering}
use Rattle.std.specs.Ordering.{nat_cmp}
use Rattle.std.specs.Cmp.Lexicographic.{slice_cmp}
use Rattle.std.specs.BTreeSet.{BTreeSet, contains, Updates}
use Rattle.std.proofs.lemmas.Map.Text.{is_eq-slice_cmp}
use Rattle.std.specs.Prelude.{Contains, ◌↔◌}
use Rattle.std.proofs.lemmas.Map.Views.{Contains-from_any}
use Rattle.std.proofs.lemmas.Slice.Eq.{bytes_eq-Decides}
use Rattle.kif_tree.specs.Terms.{Bytes}
use Rattle.sig_io.specs.Named.{AreDistinct}
use Rattle.sig_io.proofs.NamedLaws.{distinct-repeated, distinct-cons, distinct-tail}
use Rattle.sigma_app.specs.Requests.{texts, stand_twice}

abbrev path_cmp : Bor Bytes → Bor Bytes → Ordering
path_cmp a b = slice_cmp nat_cmp a.now b.now

-- of the paths that are left, one was seen or stands twice
abbrev pub left_twice : BTreeSet (Bor Bytes) → List (Bor Bytes) → Bool
left_twice seen paths = list_any (contains path_cmp seen) paths || stand_twice (texts paths)

or_assoc : (a b c : Bool) → (a || (b || c)) ≡ ((a || b) || c)
or_assoc true b c = refl
or_assoc false b c = refl

or_more : (b s x y : Bool) → (cond b true s || (x || y)) ≡ ((s || x) || (b || y))
or_more true true x y = refl
or_more true false true y = refl
or_more true false false y = refl
or_more false true x y = refl
or_more false false x y = refl

-- the path joins those that were seen
seen_more : (seen after : BTreeSet (Bor Bytes)) (path : Bor Bytes) (rest : List (Bor Bytes)) → Updates path_cmp seen after path true
    → list_any (contains path_cmp after) rest ≡ (list_any (contains path_cmp seen) rest || list_any (bytes_eq path.now) (texts rest))
seen_more seen after path [] adds = refl
seen_more seen after path (q ∷ rest) adds =
    ap₂ (λ (x y : Bool). x || y) (adds.0 q ∙ ap (λ (b : Bool). cond b true (contains path_cmp seen q)) (is_eq-slice_cmp path.now q.now)) (seen_more seen after path rest adds)
    ∙ or_more (bytes_eq path.now q.now) (contains path_cmp seen q) _ _

left_more : (seen after : BTreeSet (Bor Bytes)) (path : Bor Bytes) (rest : List (Bor Bytes)) → contains path_cmp seen path ≡ false → Updates path_cmp seen after path true
    → left_twice seen (path ∷ rest) ≡ left_twice after rest
left_more seen after path rest new adds =
    ap (λ (b : Bool). (b || list_any (contains path_cmp seen) rest) || (list_any (bytes_eq path.now) (texts rest) || stand_twice (texts rest))) new
    ∙ or_assoc (list_any (contains path_cmp seen) rest) _ _ ∙ ap (λ (b : Bool). b || stand_twice (texts rest)) (sym (seen_more seen after path rest adds))

-- the next path was not seen
pub left_after : (seen after : BTreeSet (Bor Bytes)) (paths : List (Bor Bytes)) (i : ℕ) (d : Bor Bytes) → i < length paths
    → contains path_cmp seen (slice_index_or paths i d) ≡ false → Updates path_cmp seen after (slice_index_or paths i d) true
    → left_twice seen (drop i paths) ≡ left_twice after (drop (i + 1) paths)
left_after seen after paths i d within new adds =
    let next : i + 1 ≡ suc i = omega arith in
    ap (left_twice seen) (drop-cons paths i d within) ∙ left_more seen after (slice_index_or paths i d) (drop (suc i) paths) new adds
    ∙ ap (λ (k : ℕ). left_twice after (drop k paths)) (sym next)

-- what joins a set wasn't there
pub was_new : (b : Bool) → not b ≡ true → b ≡ false
was_new true e = sym e
was_new false e = refl

none_seen : (seen : BTreeSet (Bor Bytes)) (paths : List (Bor Bytes)) → ((q : Bor Bytes) → contains path_cmp seen q ≡ false) → list_any (contains path_cmp seen) paths ≡ false
none_seen seen [] empty = refl
none_seen seen (q ∷ paths) empty = ap (λ (b : Bool). b || list_any (contains path_cmp seen) paths) (empty q) ∙ none_seen seen paths empty

-- before the first path
pub left_all : (seen : BTreeSet (Bor Bytes)) (paths : List (Bor Bytes)) → ((q : Bor Bytes) → contains path_cmp seen q ≡ false) → stand_twice (texts paths) ≡ left_twice seen paths
left_all seen paths empty = sym (ap (λ (b : Bool). b || stand_twice (texts paths)) (none_seen seen paths empty))

-- ---- paths that differ

or_right : (a b : Bool) → b ≡ true → (a || b) ≡ true
or_right true b e = refl
or_right false b e = e

false_true : false ≡ true → ⊥
false_true e = cc

any_equal : (path : Bytes) (files : List Bytes) → Contains files path → list_any (bytes_eq path) files ≡ true
any_equal path [] (k, within, is) = absurd (omega arith)
any_equal path (file ∷ files) (zero, within, is) = ap (λ (b : Bool). b || list_any (bytes_eq path) files) ((bytes_eq-Decides path file).1 (sym is))
any_equal path (file ∷ files) (suc k, within, is) = or_right (bytes_eq path file) _ (any_equal path files (k, omega arith, is))

pub distinct_paths : (files : List Bytes) → (stand_twice files ≡ false) ↔ AreDistinct files
distinct_paths [] = (λ e. λ i j d below within. absurd (omega arith), λ apart. refl)
distinct_paths (path ∷ files) = go (list_any (bytes_eq path) files) refl (distinct_paths files)
  where
    go : (b : Bool) → list_any (bytes_eq path) files ≡ b → (stand_twice files ≡ false) ↔ AreDistinct files → ((b || stand_twice files) ≡ false) ↔ AreDistinct (path ∷ files)
    go true e later = (
      λ h. absurd (false_true (sym h)),
      λ apart. absurd (distinct-repeated path files (Contains-from_any (λ x y. (bytes_eq-Decides x y).0) path files e) apart),
    )
    go false e later = (
      λ h. distinct-cons path files (λ found. false_true (sym e ∙ any_equal path files found)) (later.0 h),
      λ apart. later.1 (distinct-tail path files apart),
    )
