-- What a quick look at literals says, and lists without one item.
use Rattle.std.proofs.Common.{◌≡◌, ℕ, zero, suc, ◌+◌, ◌<◌, ◌≤◌, List, [], ◌∷◌, ◌++◌, map, take, drop, length, get_or, refl, sym, ap, ◌∙◌, arith}
use Rattle.std.proofs.lemmas.List.{take_more, length-take-le}
use Rattle.sigma_base.specs.Lists.{Each}
use Rattle.kif_tree.specs.declared.form.Form.{Form}
use Rattle.kif_tree.specs.declared.form.Form.TheVariants as form
use Rattle.kif_tree.specs.Terms.{Bytes}
use Rattle.kif_tree.specs.Subst.{Filling, bind}
use Rattle.calculus_programs.proofs.PickLaws.{some_item}
use Rattle.kif_tree.proofs.SubstLaws.{bind-Word, bind-List}

-- the head of a list under a filling
pub first_bound : (g : Filling) (patterns targets : List Form) (pattern target : Form) → 1 ≤ length patterns → 1 ≤ length targets
    → pattern ≡ get_or patterns 0 pattern → target ≡ get_or targets 0 target → map (bind g) patterns ≡ targets → bind g pattern ≡ target
first_bound g [] targets pattern target h k is also e = absurd (omega arith)
first_bound g (p ∷ patterns) [] pattern target h k is also e = absurd (omega arith)
first_bound g (p ∷ patterns) (t ∷ targets) pattern target h k is also e = let heads : bind g p ≡ t = cc in ap (bind g) is ∙ heads ∙ sym also

-- a word stays as it is
pub word_bound : (g : Filling) (pattern target : Form) (word : Bytes) → pattern ≡ form.Word word → bind g pattern ≡ target → target ≡ form.Word word
word_bound g pattern target word is e = sym e ∙ ap (bind g) is ∙ bind-Word g word

-- a list becomes the list of its parts
pub list_bound : (g : Filling) (pattern target : Form) (parts : List Form) → pattern ≡ form.List parts → bind g pattern ≡ target
    → target ≡ form.List (map (bind g) parts)
list_bound g pattern target parts is e = sym e ∙ ap (bind g) is ∙ bind-List g parts

-- what holds at each index holds of each item
pub each_from : {X : Type 0} (P : X → Type 0) (xs : List X) → ((k : ℕ) (x : X) → k < length xs → x ≡ get_or xs k x → P x) → Each P xs
each_from P [] h = tt
each_from P (x ∷ xs) h = (h 0 x (omega arith) refl, each_from P xs (λ k y below is. h (suc k) y (omega arith) is))

-- ---- a list without one item

abbrev pub skipping : {X : Type 0} → List X → ℕ → List X
skipping [] n = []
skipping (x ∷ xs) zero = xs
skipping (x ∷ xs) (suc n) = x ∷ skipping xs n

skipping_from : {X : Type 0} (xs : List X) (n : ℕ) → skipping xs n ≡ take n xs ++ drop (suc n) xs
skipping_from [] zero = refl
skipping_from [] (suc n) = refl
skipping_from (x ∷ xs) zero = refl
skipping_from (x ∷ xs) (suc n) = ap (λ ys. x ∷ ys) (skipping_from xs n)

pub skipping_parts : {X : Type 0} (xs : List X) (n : ℕ) → skipping xs n ≡ take n xs ++ drop (n + 1) xs
skipping_parts xs n = skipping_from xs n ∙ ap (λ (m : ℕ). take n xs ++ drop m xs) (let e : suc n ≡ n + 1 = omega arith in e)

skipping_other : {X : Type 0} (xs : List X) (n : ℕ) (x : X) → (length xs ≡ n → ⊥) → skipping (xs ++ x ∷ []) n ≡ skipping xs n ++ x ∷ []
skipping_other [] zero x other = absurd (other refl)
skipping_other [] (suc n) x other = refl
skipping_other (y ∷ xs) zero x other = refl
skipping_other (y ∷ xs) (suc n) x other = ap (λ ys. y ∷ ys) (skipping_other xs n x (λ e. other (ap suc e)))

skipping_it : {X : Type 0} (xs : List X) (n : ℕ) (x : X) → length xs ≡ n → skipping (xs ++ x ∷ []) n ≡ skipping xs n
skipping_it [] zero x e = refl
skipping_it [] (suc n) x e = absurd (omega arith)
skipping_it (y ∷ xs) zero x e = absurd (omega arith)
skipping_it (y ∷ xs) (suc n) x e = ap (λ ys. y ∷ ys) (skipping_it xs n x (let f : length xs ≡ n = omega arith in f))

-- one more item, as a loop comes to it
pub skipping_more : {X : Type 0} (xs : List X) (n at : ℕ) (x : X) → at < length xs → x ≡ get_or xs at x → (at ≡ n → ⊥)
    → skipping (take (at + 1) xs) n ≡ skipping (take at xs) n ++ x ∷ []
skipping_more {X = X} xs n at x below is other =
    ap (λ (ys : List X). skipping ys n) (take_more xs at x below ∙ ap (λ (y : X). take at xs ++ y ∷ []) (sym is))
    ∙ skipping_other (take at xs) n x (λ e. other (sym (length-take-le at xs (omega arith)) ∙ e))

-- and the item that is left out
pub skipping_past : {X : Type 0} (xs : List X) (n at : ℕ) → at < length xs → at ≡ n → skipping (take (at + 1) xs) n ≡ skipping (take at xs) n
skipping_past {X = X} xs n at below same =
    let here = some_item xs at below in
    ap (λ (ys : List X). skipping ys n) (take_more xs at here.0 below)
    ∙ skipping_it (take at xs) n (get_or xs at here.0) (length-take-le at xs (omega arith) ∙ same)
