-- Sets that grow along edges until nothing changes have exactly what paths lead to.
use Rattle.std.proofs.Common.{◌≡◌, ℕ, suc, zero, ◌+◌, ◌<◌, ◌≤◌, ◌⊎◌, ◌||◌, List, [], ◌∷◌, ◌++◌, length, get_or, take, Bool, true, false, if◌then◌else◌, refl, sym, ap, subst, ◌∙◌, arith, inl, inr}
use Rattle.std.specs.Prelude.{Contains, slice_set, MatchBool}
use Rattle.std.proofs.lemmas.List.{get_or_default, get_or_read, length-set, take_more}
use Rattle.std.proofs.lemmas.Bool.{cases_order}
use Rattle.std.proofs.lemmas.Bool.Decides.{nat_tests}
use Rattle.std.proofs.Math.ListN.{get_or-eq_default}
use Rattle.sigma_base.specs.Lists.{Each, each_append}
use Rattle.taxonomy.specs.declared.closure.Edge.{Edge}
use Rattle.taxonomy.specs.declared.runs.Run.{Run}
use Rattle.taxonomy.specs.Runs.{has, in_run, IsUnion, Lacks}
use Rattle.taxonomy.specs.Graph.{Follows, Path, Leads, AreWithin, Sets, set_of, own, at_or_below, IsPartial, IsPassed, ArePassed, IsClosure, absent, all_absent, Stays, Grows, AreEmpty, IsRound}

-- ---- lists

pub each_in : {X : Type 0} (P : X → Type 0) (xs : List X) (x : X) → Contains xs x → Each P xs → P x
each_in P [] x (k, lt, is) h = absurd (omega arith)
each_in P (y ∷ ys) x (zero, lt, is) h = subst P is h.0
each_in P (y ∷ ys) x (suc k, lt, is) h = each_in P ys x (k, omega arith, is) h.1

pub each_take_more : {X : Type 0} (P : X → Type 0) (xs : List X) (i : ℕ) (d : X) → i < length xs → Each P (take i xs) → P (get_or xs i d) → Each P (take (i + 1) xs)
each_take_more P xs i d lt h here = subst (Each P) (sym (take_more xs i d lt)) (each_append P (take i xs) (get_or xs i d ∷ []) h (here, tt))

pub contains_at : {X : Type 0} (xs : List X) (i : ℕ) (d : X) → i < length xs → Contains xs (get_or xs i d)
contains_at xs i d lt = (i, lt, get_or_default xs i (get_or xs i d) d lt)

-- ---- a set that is replaced

pub set_cases : {X : Type 0} (d : X) (xs : List X) (at h : ℕ) (x : X) → at < length xs → ((h ≡ at) × (get_or (slice_set xs at x) h d ≡ x)) ⊎ ((h ≡ at → ⊥) × (get_or (slice_set xs at x) h d ≡ get_or xs h d))
set_cases d [] at h x lt = absurd (omega arith)
set_cases d (y ∷ xs) zero zero x lt = inl (refl, refl)
set_cases d (y ∷ xs) zero (suc h) x lt = inr (λ e. absurd (omega (arith, e)), refl)
set_cases d (y ∷ xs) (suc at) zero x lt = inr (λ e. absurd (omega (arith, e)), refl)
set_cases {X = X} d (y ∷ xs) (suc at) (suc h) x lt = later (set_cases d xs at h x (omega arith))
  where
    later : (((h ≡ at) × (get_or (slice_set xs at x) h d ≡ x)) ⊎ ((h ≡ at → ⊥) × (get_or (slice_set xs at x) h d ≡ get_or xs h d)))
        → (((suc h ≡ suc at) × (get_or (slice_set xs at x) h d ≡ x)) ⊎ ((suc h ≡ suc at → ⊥) × (get_or (slice_set xs at x) h d ≡ get_or xs h d)))
    later (inl (same, is)) = inl (ap (λ (n : ℕ). suc n) same, is)
    later (inr (apart, is)) = inr (λ e. apart (omega (arith, e)), is)

-- ---- how much is absent

fewer_here : (x y : Bool) → (x ≡ true → y ≡ true) → (if y then 0 else 1) ≤ (if x then 0 else 1)
fewer_here true true h = omega arith
fewer_here true false h = let no_way : false ≡ true = h refl in absurd (cc)
fewer_here false true h = omega arith
fewer_here false false h = omega arith

pub absent_le : (count : ℕ) (old new : List Run) → ((n : ℕ) → has old n ≡ true → has new n ≡ true) → absent count new ≤ absent count old
absent_le zero old new h = omega arith
absent_le (suc count) old new h = omega (arith, fewer_here (has old count) (has new count) (h count), absent_le count old new h)

split_suc : (n count : ℕ) → n < suc count → (n ≡ count) ⊎ (n < count)
split_suc n count lt = go (cases_order n count)
  where
    go : ((n ≡ count) ⊎ ((n < count) ⊎ (count < n))) → ((n ≡ count) ⊎ (n < count))
    go (inl same) = inl same
    go (inr (inl below)) = inr below
    go (inr (inr above)) = absurd (omega arith)

fewer_now : (x y : Bool) → x ≡ false → y ≡ true → (if y then 0 else 1) < (if x then 0 else 1)
fewer_now true y h k = absurd (cc)
fewer_now false true h k = omega arith
fewer_now false false h k = absurd (cc)

pub absent_less : (count : ℕ) (old new : List Run) (n : ℕ) → ((n : ℕ) → has old n ≡ true → has new n ≡ true) → n < count → has old n ≡ false → has new n ≡ true → absent count new < absent count old
absent_less zero old new n h lt before now = absurd (omega arith)
absent_less (suc count) old new n h lt before now = go (split_suc n count lt) (λ below. absent_less count old new n h below before now)
  where
    go : ((n ≡ count) ⊎ (n < count)) → (n < count → absent count new < absent count old) → absent (suc count) new < absent (suc count) old
    go (inl same) less =
        let fewer = fewer_now (has old count) (has new count) (subst (λ (k : ℕ). has old k ≡ false) same before) (subst (λ (k : ℕ). has new k ≡ true) same now) in
        omega (arith, fewer, absent_le count old new h)
    go (inr below) less = omega (arith, fewer_here (has old count) (has new count) (h count), less below)

pub all_absent_less : (count : ℕ) (sets : Sets) (at : ℕ) (runs : List Run) → at < length sets → absent count runs < absent count (set_of sets at) → all_absent count (slice_set sets at runs) < all_absent count sets
all_absent_less count [] at runs lt less = absurd (omega arith)
all_absent_less count (s ∷ sets) zero runs lt less = omega arith
all_absent_less count (s ∷ sets) (suc at) runs lt less = omega (arith, all_absent_less count sets at runs (omega arith) less)

-- ---- paths

pub path_none : (edges : List Edge) (n : ℕ) → Path edges n n
path_none edges n = record { path = []; among = tt; follows = refl }

follows_more : (path : List Edge) (edge : Edge) (low : ℕ) → Follows path low edge.low → Follows (path ++ edge ∷ []) low edge.high
follows_more [] edge low h = (sym h, refl)
follows_more (first ∷ path) edge low h = (h.0, follows_more path edge first.high h.1)

pub path_more : (edges : List Edge) (edge : Edge) (low : ℕ) → Contains edges edge → Path edges low edge.low → Path edges low edge.high
path_more edges edge low told p =
    record { path = p.path ++ edge ∷ []; among = each_append (Contains edges) p.path (edge ∷ []) p.among (told, tt); follows = follows_more p.path edge low p.follows }

-- ---- two facts, one of which holds

pub or_cases : (x y : Bool) → (x || y) ≡ true → (x ≡ true) ⊎ (y ≡ true)
or_cases true y h = inl refl
or_cases false y h = inr h

pub or_left : (x y : Bool) → x ≡ true → (x || y) ≡ true
or_left true y h = refl
or_left false y h = absurd (cc)

pub or_right : (x y : Bool) → y ≡ true → (x || y) ≡ true
or_right true y h = refl
or_right false y h = h

-- ---- a number's own run

in_own : (n : ℕ) → in_run n (own n) ≡ true
in_own n = grind (arith, nat_tests)

only_own : (n m : ℕ) → in_run m (own n) ≡ true → m ≡ n
only_own n m h = grind (arith, nat_tests)

pub has_own : (n : ℕ) (runs : List Run) → has (own n ∷ runs) n ≡ true
has_own n runs = or_left (in_run n (own n)) (has runs n) (in_own n)

pub has_later : (n m : ℕ) (runs : List Run) → has runs m ≡ true → has (own n ∷ runs) m ≡ true
has_later n m runs h = or_right (in_run m (own n)) (has runs m) h

pub own_or_later : (n m : ℕ) (runs : List Run) → has (own n ∷ runs) m ≡ true → (m ≡ n) ⊎ (has runs m ≡ true)
own_or_later n m runs h = go (or_cases (in_run m (own n)) (has runs m) h)
  where
    go : ((in_run m (own n) ≡ true) ⊎ (has runs m ≡ true)) → (m ≡ n) ⊎ (has runs m ≡ true)
    go (inl here) = inl (only_own n m here)
    go (inr later) = inr later

-- ---- what reaches a number

pub leads_path : (edges : List Edge) (low high : ℕ) → Leads edges low high → Path edges low high
leads_path edges low high l = subst (Path edges low) l.ends (path_more edges l.last low l.told l.before)

-- a path has no edge, or a last one
pub path_cases : (edges path : List Edge) (low high : ℕ) → Each (Contains edges) path → Follows path low high → (low ≡ high) ⊎ Leads edges low high
path_cases edges [] low high told follows = inl follows
path_cases edges (edge ∷ path) low high told follows = inr (go (path_cases edges path edge.high high told.1 follows.1))
  where
    go : ((edge.high ≡ high) ⊎ Leads edges edge.high high) → Leads edges low high
    go (inl same) = record { last = edge; told = told.0; before = subst (λ (n : ℕ). Path edges n edge.low) follows.0 (path_none edges edge.low); ends = same }
    go (inr l) = record {
      last = l.last;
      told = l.told;
      before = record { path = edge ∷ l.before.path; among = (told.0, l.before.among); follows = (follows.0, l.before.follows) };
      ends = l.ends;
    }

-- what has reached the start of a path of passed edges has reached its end
along : (edges : List Edge) (sets : Sets) → ArePassed edges sets → (path : List Edge) (n low high : ℕ) → Each (Contains edges) path → Follows path low high
    → has (at_or_below sets low) n ≡ true → has (at_or_below sets high) n ≡ true
along edges sets passed [] n low high told follows here = subst (λ (k : ℕ). has (at_or_below sets k) n ≡ true) follows here
along edges sets passed (edge ∷ path) n low high told follows here =
    along edges sets passed path n edge.high high told.1 follows.1
    (has_later edge.high n (set_of sets edge.high)
    (each_in (IsPassed sets) edges edge told.0 passed n (subst (λ (k : ℕ). has (at_or_below sets k) n ≡ true) (sym follows.0) here)))

pub closed : (edges : List Edge) (count : ℕ) (sets : Sets) → IsPartial edges count sets → ArePassed edges sets → IsClosure edges count sets
closed edges count sets partial passed = record {
  long = partial.long;
  sound = partial.sound;
  complete = λ low high l.
      subst (λ (k : ℕ). has (set_of sets k) low ≡ true) l.ends
      (each_in (IsPassed sets) edges l.last l.told passed low (along edges sets passed l.before.path low low l.last.low l.before.among l.before.follows (has_own low (set_of sets low))));
}

pub below_sound : (edges : List Edge) (count : ℕ) (sets : Sets) (low high : ℕ) → IsClosure edges count sets → has (at_or_below sets high) low ≡ true → Path edges low high
below_sound edges count sets low high closure h = go (own_or_later high low (set_of sets high) h)
  where
    go : ((low ≡ high) ⊎ (has (set_of sets high) low ≡ true)) → Path edges low high
    go (inl same) = subst (Path edges low) same (path_none edges low)
    go (inr later) = leads_path edges low high (closure.sound low high later)

pub below_complete : (edges : List Edge) (count : ℕ) (sets : Sets) (low high : ℕ) → IsClosure edges count sets → Path edges low high → has (at_or_below sets high) low ≡ true
below_complete edges count sets low high closure p = go (path_cases edges p.path low high p.among p.follows)
  where
    go : ((low ≡ high) ⊎ Leads edges low high) → has (at_or_below sets high) low ≡ true
    go (inl same) = subst (λ (n : ℕ). has (at_or_below sets n) low ≡ true) same (has_own low (set_of sets low))
    go (inr l) = has_later high low (set_of sets high) (closure.complete low high l)

-- ---- one edge

-- the set of an edge's start, when that of its end was taken out
more_left : (old : Sets) (low high n : ℕ) → high < length old → (has (set_of old high) n || has (set_of (slice_set old high []) low) n) ≡ (has (set_of old high) n || has (set_of old low) n)
more_left old low high n lt = go (set_cases [] old high low [] lt)
  where
    again : (x : Bool) → (x || false) ≡ (x || x)
    again true = refl
    again false = refl

    go : (((low ≡ high) × (set_of (slice_set old high []) low ≡ [])) ⊎ ((low ≡ high → ⊥) × (set_of (slice_set old high []) low ≡ set_of old low)))
        → (has (set_of old high) n || has (set_of (slice_set old high []) low) n) ≡ (has (set_of old high) n || has (set_of old low) n)
    go (inl (same, nothing)) =
        ap (λ (x : List Run). has (set_of old high) n || has x n) nothing ∙ (again (has (set_of old high) n) ∙ ap (λ (k : ℕ). has (set_of old high) n || has (set_of old k) n) (sym same))
    go (inr (apart, other)) = ap (λ (x : List Run). has (set_of old high) n || has x n) other

or_rotated : (x y z : Bool) → ((x || y) || (z || false)) ≡ (x || (z || y))
or_rotated true y z = refl
or_rotated false true true = refl
or_rotated false true false = refl
or_rotated false false true = refl
or_rotated false false false = refl

pub both_sets : (old : Sets) (low high : ℕ) (first grown : List Run) → high < length old → IsUnion first (set_of old high) (set_of (slice_set old high []) low) → IsUnion grown first (own low ∷ [])
    → IsUnion grown (set_of old high) (at_or_below old low)
both_sets old low high first grown lt one two n =
    two n ∙ (ap (λ (b : Bool). b || has (own low ∷ []) n) (one n ∙ more_left old low high n lt) ∙ or_rotated (has (set_of old high) n) (has (set_of old low) n) (in_run n (own low)))

pub set_twice : (old : Sets) (at : ℕ) (x y : List Run) → slice_set (slice_set old at x) at y ≡ slice_set old at y
set_twice [] at x y = refl
set_twice (s ∷ old) zero x y = refl
set_twice (s ∷ old) (suc at) x y = ap (λ (sets : Sets). s ∷ sets) (set_twice old at x y)

pub pass_grows : (edge : Edge) (old : Sets) (dest known others taken left first grown : List Run) (n : ℕ) → edge.low < length old → edge.high < length old → known ≡ get_or old edge.high known
    → others ≡ get_or old edge.low others → dest ≡ [] → taken ≡ get_or old edge.high taken → left ≡ get_or (slice_set old edge.high dest) edge.low left → IsUnion first taken left → IsUnion grown first (own edge.low ∷ [])
    → Lacks known (own edge.low ∷ others) n → Grows edge old (slice_set (slice_set old edge.high dest) edge.high grown)
pass_grows edge old dest known others taken left first grown n low high is_known is_others nothing is_taken is_left one two new_one =
    let known_is : known ≡ set_of old edge.high = get_or_read old edge.high known high is_known [] in
    let others_is : others ≡ set_of old edge.low = get_or_read old edge.low others low is_others [] in
    let taken_is : taken ≡ set_of old edge.high = get_or_read old edge.high taken high is_taken [] in
    let left_is : left ≡ set_of (slice_set old edge.high []) edge.low =
    get_or_read (slice_set old edge.high dest) edge.low left (omega (arith, low, length-set old edge.high dest)) is_left [] ∙ ap (λ (x : List Run). set_of (slice_set old edge.high x) edge.low) nothing
    in
    record {
      grown = grown;
      is = set_twice old edge.high dest grown;
      has_both = both_sets old edge.low edge.high first grown high
          (subst (λ (x : List Run). IsUnion first x (set_of (slice_set old edge.high []) edge.low)) taken_is (subst (λ (x : List Run). IsUnion first taken x) left_is one)) two;
      number = n;
      new_one = subst (λ (x : List Run). Lacks x (at_or_below old edge.low) n) known_is (subst (λ (x : List Run). Lacks known (own edge.low ∷ x) n) others_is new_one);
    }

-- a number of the new sets was in the old ones, or came along the edge
came : (edge : Edge) (old new : Sets) → edge.high < length old → Grows edge old new → (low high : ℕ) → has (set_of new high) low ≡ true
    → (has (set_of old high) low ≡ true) ⊎ ((high ≡ edge.high) × (has (at_or_below old edge.low) low ≡ true))
came edge old new within g low high h = go (set_cases [] old edge.high high g.grown within)
  where
    there : has (set_of (slice_set old edge.high g.grown) high) low ≡ true
    there = subst (λ (x : Sets). has (set_of x high) low ≡ true) g.is h

    go : (((high ≡ edge.high) × (set_of (slice_set old edge.high g.grown) high ≡ g.grown)) ⊎ ((high ≡ edge.high → ⊥) × (set_of (slice_set old edge.high g.grown) high ≡ set_of old high)))
        → ((has (set_of old high) low ≡ true) ⊎ ((high ≡ edge.high) × (has (at_or_below old edge.low) low ≡ true)))
    go (inr (apart, other)) = inl (subst (λ (x : List Run). has x low ≡ true) other there)
    go (inl (same, is)) =
        either (or_cases (has (set_of old edge.high) low) (has (at_or_below old edge.low) low) (sym (g.has_both low) ∙ subst (λ (x : List Run). has x low ≡ true) is there))
      where
        either : ((has (set_of old edge.high) low ≡ true) ⊎ (has (at_or_below old edge.low) low ≡ true))
            → ((has (set_of old high) low ≡ true) ⊎ ((high ≡ edge.high) × (has (at_or_below old edge.low) low ≡ true)))
        either (inl before) = inl (subst (λ (k : ℕ). has (set_of old k) low ≡ true) (sym same) before)
        either (inr along_edge) = inr (same, along_edge)

pub partial_grows : (edges : List Edge) (count : ℕ) (edge : Edge) (old new : Sets) → Contains edges edge → edge.low < count → edge.high < length old → Grows edge old new → IsPartial edges count old
    → IsPartial edges count new
partial_grows edges count edge old new told low_within within g partial = record {
  long = ap (λ (x : Sets). length x) g.is ∙ length-set old edge.high g.grown ∙ partial.long;
  within = λ low high h. below low high (came edge old new within g low high h);
  sound = λ low high h. leads low high (came edge old new within g low high h);
}
  where
    below : (low high : ℕ) → ((has (set_of old high) low ≡ true) ⊎ ((high ≡ edge.high) × (has (at_or_below old edge.low) low ≡ true))) → low < count
    below low high (inl before) = partial.within low high before
    below low high (inr (same, along_edge)) = go (own_or_later edge.low low (set_of old edge.low) along_edge)
      where
        go : ((low ≡ edge.low) ⊎ (has (set_of old edge.low) low ≡ true)) → low < count
        go (inl start) = omega (arith, start, low_within)
        go (inr later) = partial.within low edge.low later

    leads : (low high : ℕ) → ((has (set_of old high) low ≡ true) ⊎ ((high ≡ edge.high) × (has (at_or_below old edge.low) low ≡ true))) → Leads edges low high
    leads low high (inl before) = partial.sound low high before
    leads low high (inr (same, along_edge)) = record { last = edge; told = told; before = go (own_or_later edge.low low (set_of old edge.low) along_edge); ends = sym same }
      where
        go : ((low ≡ edge.low) ⊎ (has (set_of old edge.low) low ≡ true)) → Path edges low edge.low
        go (inl start) = subst (Path edges low) start (path_none edges low)
        go (inr later) = leads_path edges low edge.low (partial.sound low edge.low later)

pub less_absent : (edges : List Edge) (count : ℕ) (edge : Edge) (old new : Sets) → edge.low < count → edge.high < length old → Grows edge old new → IsPartial edges count old → all_absent count new < all_absent count old
less_absent edges count edge old new low_within within g partial =
    subst (λ (x : Sets). all_absent count x < all_absent count old) (sym g.is)
    (all_absent_less count old edge.high g.grown within
    (absent_less count (set_of old edge.high) g.grown g.number
    (λ n h. g.has_both n ∙ or_left (has (set_of old edge.high) n) (has (at_or_below old edge.low) n) h)
    (below (own_or_later edge.low g.number (set_of old edge.low) g.new_one.given))
    g.new_one.lacks
    (g.has_both g.number ∙ or_right (has (set_of old edge.high) g.number) (has (at_or_below old edge.low) g.number) g.new_one.given)))
  where
    below : ((g.number ≡ edge.low) ⊎ (has (set_of old edge.low) g.number ≡ true)) → g.number < count
    below (inl start) = omega (arith, start, low_within)
    below (inr later) = partial.within g.number edge.low later

-- ---- rounds

nothing_in : (count : ℕ) (sets : Sets) → AreEmpty count sets → (low high : ℕ) → has (set_of sets high) low ≡ true → ⊥
nothing_in count sets s low high h = go (cases_order high count)
  where
    none : set_of sets high ≡ [] → ⊥
    none nothing =
        let no_way : false ≡ true = subst (λ (x : List Run). has x low ≡ true) nothing h in
        absurd (cc)

    go : ((high ≡ count) ⊎ ((high < count) ⊎ (count < high))) → ⊥
    go (inl same) = none (get_or-eq_default sets [] (omega (arith, s.long, same)))
    go (inr (inl below)) = none (s.empty high below)
    go (inr (inr above)) = none (get_or-eq_default sets [] (omega (arith, s.long, above)))

pub start_partial : (edges : List Edge) (count : ℕ) (sets : Sets) → AreEmpty count sets → IsPartial edges count sets
start_partial edges count sets s = record {
  long = s.long;
  within = λ low high h. absurd (nothing_in count sets s low high h);
  sound = λ low high h. absurd (nothing_in count sets s low high h);
}

pub round_none : (edges : List Edge) (sets : Sets) → IsPartial edges (length sets) sets → IsRound edges [] sets sets false
round_none edges sets partial = record { partial = partial; outcome = (refl, tt) }

pub round_more : (edges : List Edge) (i : ℕ) (d : Edge) (old mid new : Sets) (changed grew : Bool) → i < length edges → AreWithin (length old) edges → IsRound edges (take i edges) old mid changed
    → MatchBool grew (Grows (get_or edges i d) mid new) (Stays (get_or edges i d) mid new) → IsRound edges (take (i + 1) edges) old new (changed || grew)
round_more edges i d old mid new changed grew lt inside round step = go changed grew round.outcome step
  where
    told : Contains edges (get_or edges i d)
    told = contains_at edges i d lt

    joins : ((get_or edges i d).low < length old) × ((get_or edges i d).high < length old)
    joins = each_in (λ (edge : Edge). (edge.low < length old) × (edge.high < length old)) edges (get_or edges i d) told inside

    within : (get_or edges i d).high < length mid
    within = omega (arith, joins.1, round.partial.long)

    go : (changed grew : Bool) → MatchBool changed (all_absent (length old) mid < all_absent (length old) old) ((mid ≡ old) × ArePassed (take i edges) mid)
        → MatchBool grew (Grows (get_or edges i d) mid new) (Stays (get_or edges i d) mid new) → IsRound edges (take (i + 1) edges) old new (changed || grew)
    go true true less grows = record {
      partial = partial_grows edges (length old) (get_or edges i d) mid new told joins.0 within grows round.partial;
      outcome = omega (arith, less, less_absent edges (length old) (get_or edges i d) mid new joins.0 within grows round.partial);
    }
    go false true same grows = record {
      partial = partial_grows edges (length old) (get_or edges i d) mid new told joins.0 within grows round.partial;
      outcome = subst (λ (x : Sets). all_absent (length old) new < all_absent (length old) x) same.0 (less_absent edges (length old) (get_or edges i d) mid new joins.0 within grows round.partial);
    }
    go true false less stays = record {
      partial = subst (IsPartial edges (length old)) (sym stays.same) round.partial;
      outcome = subst (λ (x : Sets). all_absent (length old) x < all_absent (length old) old) (sym stays.same) less;
    }
    go false false same stays = record {
      partial = subst (IsPartial edges (length old)) (sym stays.same) round.partial;
      outcome = (
        stays.same ∙ same.0,
        subst (ArePassed (take (i + 1) edges)) (sym stays.same) (each_take_more (IsPassed mid) edges i d lt same.1 stays.passed),
      );
    }

pub round_ends : (edges : List Edge) (count : ℕ) (old new : Sets) (changed : Bool) → changed ≡ false → length old ≡ count → IsRound edges edges old new changed → IsClosure edges count new
round_ends edges count old new changed none long round =
    let outcome : MatchBool false (all_absent (length old) new < all_absent (length old) old) ((new ≡ old) × ArePassed edges new) =
    subst (λ (b : Bool). MatchBool b (all_absent (length old) new < all_absent (length old) old) ((new ≡ old) × ArePassed edges new)) none round.outcome in
    closed edges count new (subst (λ (n : ℕ). IsPartial edges n new) long round.partial) outcome.1
