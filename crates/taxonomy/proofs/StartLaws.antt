-- No number starts behind a group that has two different words whose sets have it.
use Rattle.std.proofs.Common.{◌≡◌, ◌≢◌, ℕ, ◌+◌, ◌<◌, ◌≤◌, ◌⊎◌, List, [], ◌∷◌, ◌++◌, map, length, get_or, take, min, true, false, refl, sym, ap, subst, ◌∙◌, arith, inl, inr}
use Rattle.std.specs.Prelude.{Contains}
use Rattle.std.specs.List.Sorted.{IsPermutation}
use Rattle.std.proofs.lemmas.Bool.{cases_order}
use Rattle.std.proofs.lemmas.Bool.Decides.{nat_tests}
use Rattle.std.proofs.lemmas.List.{append_assoc, get_or_default, get_or_read, take_more}
use Rattle.std.proofs.lemmas.List.Elements.{Contains-append_left, Contains-append_right, Contains-push_cases}
use Rattle.std.proofs.lemmas.List.Sorted.{Contains-permutation}
use Rattle.sigma_base.specs.Lists.{Each, each_map}
use Rattle.taxonomy.specs.declared.numbered.NumberedGroup.{NumberedGroup}
use Rattle.taxonomy.specs.declared.runs.Run.{Run}
use Rattle.taxonomy.specs.declared.starts.Reach.{Reach}
use Rattle.taxonomy.specs.Graph.{Sets, set_of, own, at_or_below}
use Rattle.taxonomy.specs.Numbered.{AreBelow}
use Rattle.taxonomy.specs.Runs.{has, in_run}
use Rattle.taxonomy.specs.Starts.{Piece, as_piece, with_piece, in_piece, HasPiece, ArePieces, Reaches, IsTwice, IsShared, AreLowered, AreStarts}
use Rattle.taxonomy.proofs.GraphLaws.{each_in, each_take_more, contains_at, or_cases}
use Rattle.taxonomy.proofs.ChainLaws.{contains_head, contains_tail}

-- where a list ends
abbrev pub any_piece : Piece
any_piece = record { start = 0; end = 0; label = 0 }

pub lowered_twice : (old mid new : List ℕ) → AreLowered old mid → AreLowered mid new → AreLowered old new
lowered_twice old mid new h k = λ n. omega (arith, h n, k n)

pub lowered_more : (from i group : ℕ) (old new : List ℕ) → ((n : ℕ) → from ≤ n → n < i → get_or old n 0 ≤ group) → AreLowered old new → get_or new i 0 ≤ group
    → (n : ℕ) → from ≤ n → n < i + 1 → get_or new n 0 ≤ group
lowered_more from i group old new h lowered here n le lt = go (cases_order n i)
  where
    go : ((n ≡ i) ⊎ ((n < i) ⊎ (i < n))) → get_or new n 0 ≤ group
    go (inl same) = subst (λ (k : ℕ). get_or new k 0 ≤ group) (sym same) here
    go (inr (inl less)) = omega (arith, h n le less, lowered n)
    go (inr (inr more)) = absurd (omega (arith, more, lt))

-- ---- pieces

piece_in : (label number : ℕ) (runs : List Run) → has runs number ≡ true → HasPiece (map (as_piece label) runs) label number
piece_in label number [] h = let no_way : false ≡ true = h in absurd (cc)
piece_in label number (run ∷ runs) h = go (or_cases (in_run number run) (has runs number) h) (λ later. piece_in label number runs later)
  where
    go : ((in_run number run ≡ true) ⊎ (has runs number ≡ true)) → (has runs number ≡ true → HasPiece (map (as_piece label) runs) label number) → HasPiece (map (as_piece label) (run ∷ runs)) label number
    go (inl here) ih = (as_piece label run, contains_head (as_piece label run) (map (as_piece label) runs), refl, here)
    go (inr later) ih = let p = ih later in (p.0, contains_tail (as_piece label run) (map (as_piece label) runs) p.0 p.1, p.2, p.3)

pub pieces_step : (sets : Sets) (words : List ℕ) (i : ℕ) (runs given : List Run) (pieces mid longer : List Piece) → i < length words → AreBelow (length sets) words → runs ≡ get_or sets (get_or words i 0) runs
    → given ≡ runs → mid ≡ pieces ++ as_piece (get_or words i 0) (own (get_or words i 0)) ∷ [] → longer ≡ mid ++ map (as_piece (get_or words i 0)) given → ArePieces sets (take i words) pieces
    → ArePieces sets (take (i + 1) words) longer
pieces_step sets words i runs given pieces mid longer lt below row same first is h =
    subst (λ (ps : List Piece). ArePieces sets (take (i + 1) words) ps) (sym all)
    (each_take_more (Q (pieces ++ more)) words i 0 lt
    (each_map (Q pieces) (Q (pieces ++ more)) (λ label q n here. let p = q n here in (p.0, Contains-append_left pieces more p.0 p.1, p.2, p.3)) (take i words) h)
    (λ n here. let p = piece_in label n (own label ∷ runs) (subst (λ (x : List Run). has (own label ∷ x) n ≡ true) (sym at_row) here) in (p.0, Contains-append_right pieces more p.0 p.1, p.2, p.3)))
  where
    label : ℕ
    label = get_or words i 0

    more : List Piece
    more = map (as_piece label) (own label ∷ runs)

    all : longer ≡ pieces ++ more
    all = is ∙ (ap (λ (x : List Run). mid ++ map (as_piece label) x) same ∙ (ap (λ (ps : List Piece). ps ++ map (as_piece label) runs) first ∙ append_assoc pieces (as_piece label (own label) ∷ []) (map (as_piece label) runs)))

    within : label < length sets
    within = each_in (λ (n : ℕ). n < length sets) words label (contains_at words i 0 lt) below

    at_row : runs ≡ set_of sets label
    at_row = get_or_read sets label runs within row []

    Q : List Piece → ℕ → Type 0
    Q ps label = (number : ℕ) → has (at_or_below sets label) number ≡ true → HasPiece ps label number

-- ---- the sweep

starts_by : (n : ℕ) (piece : Piece) → in_piece n piece ≡ true → piece.start ≤ n
starts_by n piece h = grind (arith, nat_tests)

ends_behind : (n : ℕ) (piece : Piece) → in_piece n piece ≡ true → n < piece.end
ends_behind n piece h = grind (arith, nat_tests)

pub sweep_step : (pieces : List Piece) (i : ℕ) (first old new : List ℕ) (group others end : ℕ) (next : Reach) → i < length pieces
    → Each (λ (piece : Piece). piece.label ≢ (get_or pieces i any_piece).label → piece.end ≤ others) (take i pieces) → end ≡ min (get_or pieces i any_piece).end others
    → Reaches next (with_piece (take i pieces) (get_or pieces i any_piece)) → AreLowered first old → AreLowered old new
    → ((n : ℕ) → (get_or pieces i any_piece).start ≤ n → n < end → get_or new n 0 ≤ group)
    → ((n : ℕ) → IsTwice (take i pieces) n → get_or old n 0 ≤ group)
    → Reaches next (take (i + 1) pieces) × AreLowered first new × ((n : ℕ) → IsTwice (take (i + 1) pieces) n → get_or new n 0 ≤ group)
sweep_step pieces i first old new group others end next lt bound end_is reaches before lowered painted found = (
  subst (Reaches next) (sym more) reaches,
  lowered_twice first old new before lowered,
  λ n twice. by_cases n (subst (λ (ps : List Piece). IsTwice ps n) more twice),
)
  where
    last : Piece
    last = get_or pieces i any_piece

    more : take (i + 1) pieces ≡ with_piece (take i pieces) last
    more = take_more pieces i any_piece lt

    both : (n : ℕ) (other : Piece) → Contains (take i pieces) other → other.label ≢ last.label → in_piece n other ≡ true → in_piece n last ≡ true → get_or new n 0 ≤ group
    both n other among apart in_other in_last =
        painted n (starts_by n last in_last)
        (omega (arith, end_is, ends_behind n last in_last, ends_behind n other in_other, each_in (λ (piece : Piece). piece.label ≢ last.label → piece.end ≤ others) (take i pieces) other among bound apart))

    by_cases : (n : ℕ) → IsTwice (with_piece (take i pieces) last) n → get_or new n 0 ≤ group
    by_cases n t = go (Contains-push_cases (take i pieces) last t.one t.has_one) (Contains-push_cases (take i pieces) last t.other t.has_other)
      where
        go : (Contains (take i pieces) t.one ⊎ (last ≡ t.one)) → (Contains (take i pieces) t.other ⊎ (last ≡ t.other)) → get_or new n 0 ≤ group
        go (inl one) (inl other) =
            omega (arith, lowered n, found n (record { one = t.one; other = t.other; has_one = one; has_other = other; apart = t.apart; in_one = t.in_one; in_other = t.in_other }))
        go (inl one) (inr is) =
            both n t.one one (λ same. t.apart (same ∙ ap (λ (p : Piece). p.label) is)) t.in_one (subst (λ (p : Piece). in_piece n p ≡ true) (sym is) t.in_other)
        go (inr is) (inl other) =
            both n t.other other (λ same. t.apart (ap (λ (p : Piece). p.label) (sym is) ∙ sym same)) t.in_other (subst (λ (p : Piece). in_piece n p ≡ true) (sym is) t.in_one)
        go (inr one) (inr other) = absurd (t.apart (ap (λ (p : Piece). p.label) (sym one ∙ other)))

pub twice_of_shared : (sets : Sets) (words : List ℕ) (pieces sorted : List Piece) (number : ℕ) → ArePieces sets words pieces → IsPermutation pieces sorted → IsShared sets words number → IsTwice sorted number
twice_of_shared sets words pieces sorted number h same s =
    let p = each_in (λ (label : ℕ). (n : ℕ) → has (at_or_below sets label) n ≡ true → HasPiece pieces label n) words s.one s.has_one h number s.in_one in
    let q = each_in (λ (label : ℕ). (n : ℕ) → has (at_or_below sets label) n ≡ true → HasPiece pieces label n) words s.other s.has_other h number s.in_other in
    record {
      one = p.0;
      other = q.0;
      has_one = Contains-permutation pieces sorted p.0 same p.1;
      has_other = Contains-permutation pieces sorted q.0 same q.1;
      apart = λ e. s.apart (sym p.2 ∙ (e ∙ q.2));
      in_one = p.3;
      in_other = q.3;
    }

-- ---- groups

pub starts_more : (sets : Sets) (groups : List NumberedGroup) (i : ℕ) (group : NumberedGroup) (old new : List ℕ) → i < length groups → group ≡ get_or groups i group → AreLowered old new
    → ((n : ℕ) → IsShared sets group.words n → get_or new n 0 ≤ i) → AreStarts sets groups i old → AreStarts sets groups (i + 1) new
starts_more sets groups i group old new lt is lowered here before = λ n at other below within there shared. go n at other within there shared (cases_order at i) below
  where
    go : (n at : ℕ) (other : NumberedGroup) → at < length groups → other ≡ get_or groups at other → IsShared sets other.words n → ((at ≡ i) ⊎ ((at < i) ⊎ (i < at))) → at < i + 1 → get_or new n 0 ≤ at
    go n at other within there shared (inl same) below =
        let both : other ≡ group = there ∙ (ap (λ (k : ℕ). get_or groups k other) same ∙ (get_or_default groups i other group lt ∙ sym is)) in
        omega (arith, same, here n (subst (λ (g : NumberedGroup). IsShared sets g.words n) both shared))
    go n at other within there shared (inr (inl less)) below = omega (arith, lowered n, before n at other less within there shared)
    go n at other within there shared (inr (inr more)) below = absurd (omega (arith, more, below))
