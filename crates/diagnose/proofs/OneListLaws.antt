-- Forms have one list of diagnostics.
use Rattle.std.proofs.Common.{◌≡◌, ℕ, ◌+◌, ◌<◌, ◌⊎◌, zero, suc, List, [], ◌∷◌, ◌++◌, length, refl, sym, ap, ap₂, subst, ◌∙◌, inl, inr, arith}
use Rattle.std.specs.Prelude.{Option, Some, None, Contains, slice_get}
use Rattle.std.specs.Cmp.{ranks}
use Rattle.std.specs.Cmp.Lexicographic.{nat_list_cmp_total}
use Rattle.std.specs.Ordering.{nat_cmp, ordering_reverse, MatchOrdering}
use Rattle.std.specs.declared.cmp.Ordering.{Ordering}
use Rattle.std.specs.declared.cmp.Ordering.TheVariants.{Less, Equal, Greater}
use Rattle.kif_tree.specs.declared.place.Located.{Located}
use Rattle.kif_tree.specs.declared.place.Place.{Place}
use Rattle.kif_tree.specs.Terms.{Bytes}
use Rattle.kif_tree.specs.Places.{PlacesDiffer}
use Rattle.taxonomy.proofs.ChainLaws.{contains_head, contains_tail}
use Rattle.taxonomy.proofs.GraphLaws.{each_in}
use Rattle.signatures.specs.Nearest.{IsBefore}
use Rattle.diagnose.specs.declared.diagnostic.Diagnostic.{Diagnostic}
use Rattle.diagnose.specs.Diagnostics.{StandsBefore, OtherBefore, ComesBefore, AreAscending}
use Rattle.diagnose.specs.Laws.{OneList}
use Rattle.diagnose.proofs.OrderLaws.{differ_at}

got_middle : (before : List Located) (one : Located) (after : List Located) → slice_get (before ++ one ∷ after) (length before) ≡ Some one
got_middle [] one after = refl
got_middle (x ∷ before) one after = got_middle before one after

length_append : (xs : List Located) (one : Located) (ys : List Located) → length xs + suc (length ys) ≡ length (xs ++ one ∷ ys)
length_append [] one ys = omega arith
length_append (x ∷ xs) one ys = let r = length_append xs one ys in omega (arith, r)

append_again : (xs ys zs : List Located) → (xs ++ ys) ++ zs ≡ xs ++ (ys ++ zs)
append_again [] ys zs = refl
append_again (x ∷ xs) ys zs = ap (λ ws. x ∷ ws) (append_again xs ys zs)

-- positions of two places
record Positions (forms : List Located) (first second : Place) : Type 0 where
  n : ℕ
  m : ℕ
  one : Located
  other : Located
  at_n : slice_get forms n ≡ Some one
  at_m : slice_get forms m ≡ Some other
  lt : n < m
  is_first : one.place ≡ first
  is_second : other.place ≡ second

positions_of : (forms : List Located) (first second : Place) → StandsBefore forms first second → Positions forms first second
positions_of forms first second s =
    let one : Located = record { form = s.one; place = first } in
    let other : Located = record { form = s.other; place = second } in
    let long = length_append s.before one s.between in
    record {
      n = length s.before;
      m = length (s.before ++ one ∷ s.between);
      one = one;
      other = other;
      at_n = ap (λ (ls : List Located). slice_get ls (length s.before)) s.stand ∙ got_middle s.before one (s.between ++ other ∷ s.after);
      at_m =
          ap (λ (ls : List Located). slice_get ls (length (s.before ++ one ∷ s.between))) (s.stand ∙ sym (append_again s.before (one ∷ s.between) (other ∷ s.after)))
          ∙ got_middle (s.before ++ one ∷ s.between) other s.after;
      lt = omega (arith, long);
      is_first = refl;
      is_second = refl;
    }

one_position : (forms : List Located) (n m : ℕ) (a b : Located) → PlacesDiffer forms → slice_get forms n ≡ Some a → slice_get forms m ≡ Some b → a.place ≡ b.place → n ≡ m
one_position forms n m a b differ e k same = go (nat_cmp n m) (ranks n m)
  where
    go : (r : Ordering) → MatchOrdering r (n < m) (n ≡ m) (m < n) → n ≡ m
    go Less lt = absurd (differ_at forms n m a b differ e k lt same)
    go Equal is = is
    go Greater lt = absurd (differ_at forms m n b a differ k e lt (sym same))

pub stands_once : (forms : List Located) (p q : Place) → PlacesDiffer forms → StandsBefore forms p q → StandsBefore forms q p → ⊥
stands_once forms p q differ s t =
    let a = positions_of forms p q s in
    let b = positions_of forms q p t in
    let first = one_position forms a.n b.m a.one b.other differ a.at_n b.at_m (a.is_first ∙ sym b.is_second) in
    let second = one_position forms a.m b.n a.other b.one differ a.at_m b.at_n (a.is_second ∙ sym b.is_first) in
    let lt = a.lt in
    let lt' = b.lt in
    omega (arith, first, second, lt, lt')

no_both : (a b : Bytes) → IsBefore a b → IsBefore b a → ⊥
no_both a b h k = let e : Less ≡ ordering_reverse Less = sym h ∙ nat_list_cmp_total.antisymm a b ∙ ap ordering_reverse k in absurd (cc)

other_once : (forms : List Located) (a b : Option Place) → PlacesDiffer forms → OtherBefore forms a b → OtherBefore forms b a → ⊥
other_once forms None None differ h k = h
other_once forms None (Some q) differ h k = k
other_once forms (Some p) None differ h k = h
other_once forms (Some p) (Some q) differ h k = stands_once forms p q differ h k

comes_once : (forms : List Located) (a b : Diagnostic) → PlacesDiffer forms → ComesBefore forms a b → ComesBefore forms b a → ⊥
comes_once forms a b differ (inl s) (inl t) = stands_once forms a.place b.place differ s t
comes_once forms a b differ (inl s) (inr (e, k)) = let t = subst (λ (p : Place). StandsBefore forms a.place p) e s in stands_once forms a.place a.place differ t t
comes_once forms a b differ (inr (e, h)) (inl t) = let s = subst (λ (p : Place). StandsBefore forms b.place p) e t in stands_once forms b.place b.place differ s s
comes_once forms a b differ (inr (e, inl lt)) (inr (f, inl lt')) = omega (arith, lt, lt')
comes_once forms a b differ (inr (e, inl lt)) (inr (f, inr (same, k))) = omega (arith, lt, same)
comes_once forms a b differ (inr (e, inr (same, h))) (inr (f, inl lt)) = omega (arith, lt, same)
comes_once forms a b differ (inr (e, inr (same, inl h))) (inr (f, inr (same', inl k))) = no_both a.term b.term h k
comes_once forms a b differ (inr (e, inr (same, inl h))) (inr (f, inr (same', inr (equal, k)))) = let t = subst (IsBefore a.term) equal h in no_both a.term a.term t t
comes_once forms a b differ (inr (e, inr (same, inr (equal, h)))) (inr (f, inr (same', inl k))) = let t = subst (IsBefore b.term) equal k in no_both b.term b.term t t
comes_once forms a b differ (inr (e, inr (same, inr (equal, h)))) (inr (f, inr (same', inr (equal', k)))) = other_once forms a.other b.other differ h k

one_of : (x : Diagnostic) (xs : List Diagnostic) (d : Diagnostic) → Contains (x ∷ xs) d → (x ≡ d) ⊎ Contains xs d
one_of x xs d (zero, lt, is) = inl is
one_of x xs d (suc k, lt, is) = inr (k, omega (arith, lt), is)

pub same_lists : (forms : List Located) → PlacesDiffer forms → (xs ys : List Diagnostic) → AreAscending forms xs → AreAscending forms ys → ((d : Diagnostic) → Contains xs d → Contains ys d) → ((d : Diagnostic) → Contains ys d → Contains xs d) → xs ≡ ys
same_lists forms differ [] [] a b h k = refl
same_lists forms differ [] (y ∷ ys) a b h k = let (n, lt, is) = k y (contains_head y ys) in absurd (omega (arith, lt))
same_lists forms differ (x ∷ xs) [] a b h k = let (n, lt, is) = h x (contains_head x xs) in absurd (omega (arith, lt))
same_lists forms differ (x ∷ xs) (y ∷ ys) a b h k =
    let heads : x ≡ y = first (one_of y ys x (h x (contains_head x xs))) (one_of x xs y (k y (contains_head y ys))) in
    ap₂ (λ (z : Diagnostic) (zs : List Diagnostic). z ∷ zs) heads
    (same_lists forms differ xs ys a.1 b.1 (λ d c. later_right heads d c (one_of y ys d (h d (contains_tail x xs d c)))) (λ d c. later_left heads d c (one_of x xs d (k d (contains_tail y ys d c)))))
  where
    first : ((y ≡ x) ⊎ Contains ys x) → ((x ≡ y) ⊎ Contains xs y) → x ≡ y
    first (inl e) c = sym e
    first (inr d) (inl e) = e
    first (inr d) (inr c) = absurd (comes_once forms x y differ (each_in (ComesBefore forms x) xs y c a.0) (each_in (ComesBefore forms y) ys x d b.0))

    later_right : x ≡ y → (d : Diagnostic) → Contains xs d → ((y ≡ d) ⊎ Contains ys d) → Contains ys d
    later_right heads d c (inr e) = e
    later_right heads d c (inl e) =
        let before = subst (ComesBefore forms x) (sym (heads ∙ e)) (each_in (ComesBefore forms x) xs d c a.0) in
        absurd (comes_once forms x x differ before before)

    later_left : x ≡ y → (d : Diagnostic) → Contains ys d → ((x ≡ d) ⊎ Contains xs d) → Contains xs d
    later_left heads d c (inr e) = e
    later_left heads d c (inl e) =
        let before = subst (ComesBefore forms y) (sym (sym heads ∙ e)) (each_in (ComesBefore forms y) ys d c b.0) in
        absurd (comes_once forms y y differ before before)

pub one_list : OneList
one_list forms a b differ h k = same_lists forms differ a b h.ascending k.ascending (λ d c. (k.exactly d).1 ((h.exactly d).0 c)) (λ d c. (h.exactly d).1 ((k.exactly d).0 c))
