-- Bytes that are told grow at their end, and what several writes appended together.
use Rattle.std.proofs.Common.{◌≡◌, [], ℕ, ◌+◌, ◌-◌, ◌<◌, ◌≤◌, length, subst, arith, List, ◌++◌, take, drop, refl, ap, sym, ◌∙◌}
use Rattle.std.specs.Prelude.{Option, Some, None, Result, Ok, Err}
use Rattle.std.specs.Io.KnownBytes.{append_known}
use Rattle.std.proofs.lemmas.List.{append_assoc, append-nil, take_all, take-append-le, length-append, length-drop}
use Rattle.std.proofs.Math.Seq.{take-add, take-append-add}
use Rattle.sigma_base.proofs.SliceLaws.{to_the_end}
use Rattle.sig_io.specs.Told.{WritesPrefix, WritesLess, WritesAll}

pub append_twice : (o : Option (List ℕ)) (xs ys : List ℕ) → append_known (append_known o xs) ys ≡ append_known o (xs ++ ys)
append_twice None xs ys = refl
append_twice (Some zs) xs ys = ap (λ (l : List ℕ). Some l) (append_assoc zs xs ys)

pub append_nothing : (o : Option (List ℕ)) → append_known o [] ≡ o
append_nothing None = refl
append_nothing (Some xs) = ap (λ (l : List ℕ). Some l) (append-nil xs)

-- nothing was appended, of any piece
pub prefix_of_none : (o : Option (List ℕ)) (piece : List ℕ) → WritesPrefix o o piece
prefix_of_none o piece = (0, omega arith, sym (append_nothing o))

pub prefix_of_whole : (old new : Option (List ℕ)) (piece : List ℕ) → new ≡ append_known old piece → WritesPrefix old new piece
prefix_of_whole old new piece e = (length piece, omega arith, e ∙ ap (append_known old) (sym (take_all (length piece) piece (omega arith))))

pub prefix_of_written : {T E : Type 0} (r : Result T E) (old new : Option (List ℕ)) (piece : List ℕ) → WritesAll old new piece r → WritesPrefix old new piece
prefix_of_written (Ok x) old new piece h = prefix_of_whole old new piece h
prefix_of_written (Err x) old new piece (n, lt, h) = (n, omega (arith, lt), h)

-- a prefix of a piece is one of a longer piece
pub prefix_of_more : (old new : Option (List ℕ)) (first second : List ℕ) → WritesPrefix old new first → WritesPrefix old new (first ++ second)
prefix_of_more old new first second (n, le, h) =
    (n, subst (λ k. n ≤ k) (sym (length-append first second)) (omega (arith, le)), h ∙ ap (append_known old) (sym (take-append-le n first second le)))

-- a prefix of a second piece after a whole first one
pub prefix_after : (old mid new : Option (List ℕ)) (first second : List ℕ) → mid ≡ append_known old first → WritesPrefix mid new second → WritesPrefix old new (first ++ second)
prefix_after old mid new first second e (n, le, h) = (
  length first + n,
  subst (λ k. length first + n ≤ k) (sym (length-append first second)) (omega (arith, le)),
  h ∙ ap (λ (o : Option (List ℕ)). append_known o (take n second)) e ∙ append_twice old first (take n second) ∙ ap (append_known old) (sym (take-append-add first second n)),
)

-- less than a second piece after a whole first one
pub less_after : (old mid new : Option (List ℕ)) (first second : List ℕ) → mid ≡ append_known old first → WritesLess mid new second → WritesLess old new (first ++ second)
less_after old mid new first second e (n, lt, h) = (
  length first + n,
  subst (λ k. length first + n < k) (sym (length-append first second)) (omega (arith, lt)),
  h ∙ ap (λ (o : Option (List ℕ)). append_known o (take n second)) e ∙ append_twice old first (take n second) ∙ ap (append_known old) (sym (take-append-add first second n)),
)

-- a second piece after a whole first one
pub written_both : {T E : Type 0} (r : Result T E) (old mid new : Option (List ℕ)) (first second : List ℕ)
    → mid ≡ append_known old first → WritesAll mid new second r → WritesAll old new (first ++ second) r
written_both (Ok x) old mid new first second e h = h ∙ ap (λ (o : Option (List ℕ)). append_known o second) e ∙ append_twice old first second
written_both (Err x) old mid new first second e h = less_after old mid new first second e h

-- n bytes of what is left of the piece, after w of it
pub grown : (now before old : Option (List ℕ)) (p : List ℕ) (w n : ℕ) → w ≤ length p → n ≤ length (take (length p - w) (drop w p))
    → before ≡ append_known old (take w p) → now ≡ append_known before (take n (take (length p - w) (drop w p)))
    → (w + n ≤ length p) × (now ≡ append_known old (take (w + n) p))
grown now before old p w n h k e f =
    let whole = to_the_end p w in
    let k' : n ≤ length (drop w p) = subst (λ (l : List ℕ). n ≤ length l) whole k in
    let len : length (drop w p) ≡ length p - w = length-drop w p in (
      omega arith,
      f ∙ ap (λ (l : List ℕ). append_known before (take n l)) whole ∙ ap (λ (o : Option (List ℕ)). append_known o (take n (drop w p))) e
          ∙ append_twice old (take w p) (take n (drop w p)) ∙ ap (append_known old) (sym (take-add w n p)),
    )
