-- What stands for the numbers of a proof, one by one.
use Rattle.std.proofs.Common.{◌≡◌, ℕ, zero, suc, ◌+◌, ◌<◌, ◌≤◌, List, [], ◌∷◌, ◌++◌, take, length, get_or, Option, Some, None, refl, sym, ap, ap₂, ◌∙◌, subst, arith}
use Rattle.std.specs.List.{flat_map}
use Rattle.std.proofs.lemmas.Grind.{flat_map-append}
use Rattle.std.proofs.lemmas.List.{take_all, append-nil}
use Rattle.sigma_base.specs.Lists.{Each, each_map}
use Rattle.calculus.specs.Rules.{nth}
use Rattle.calculus.specs.Evidence.{list_from}
use Rattle.calculus.proofs.PlaceLaws.{none_some}
use Rattle.infer.specs.Conclusions.{clause_at}
use Rattle.kif_tree.specs.declared.clause.InputClause.{InputClause}
use Rattle.kif_tree.specs.Clauses.{Literals}
use Rattle.calculus.specs.declared.step.Step.{Step}
use Rattle.calculus.specs.Answers.{Among}
use Rattle.answers.specs.declared.proof.ProofLine.{ProofLine}
use Rattle.answers.specs.Proofs.{parents, parents_at, renumbered, steps_at, line_of, lines_at}
use Rattle.answers.proofs.RestLaws.{HasItem, has_below}
use Rattle.answers.proofs.DerivationLaws.{length_made}

take_suc : (numbers : List ℕ) (i n : ℕ) → i < length numbers → n ≡ get_or numbers i 0 → take (suc i) numbers ≡ take i numbers ++ n ∷ []
take_suc [] i n h is = absurd (omega arith)
take_suc (m ∷ numbers) zero n h is = ap (λ k. k ∷ []) (sym is)
take_suc (m ∷ numbers) (suc i) n h is = ap (λ rest. m ∷ rest) (take_suc numbers i n (omega arith) is)

take_one : (numbers : List ℕ) (i n : ℕ) → i < length numbers → n ≡ get_or numbers i 0 → take (i + 1) numbers ≡ take i numbers ++ n ∷ []
take_one numbers i n h is = subst (λ k. take k numbers ≡ take i numbers ++ n ∷ []) (let e : suc i ≡ i + 1 = omega arith in e) (take_suc numbers i n h is)

pub each_get : (P : ℕ → Type 0) (numbers : List ℕ) (i : ℕ) → i < length numbers → Each P numbers → P (get_or numbers i 0)
each_get P [] i h each = absurd (omega arith)
each_get P (n ∷ numbers) zero h each = each.0
each_get P (n ∷ numbers) (suc i) h each = each_get P numbers i (omega arith) each.1

-- one number more
pub one_more : {Y : Type 0} (f : ℕ → List Y) (numbers : List ℕ) (i n : ℕ) (old new : List Y) → i < length numbers → n ≡ get_or numbers i 0
    → old ≡ flat_map f (take i numbers) → new ≡ old ++ f n → new ≡ flat_map f (take (i + 1) numbers)
one_more f numbers i n old new within is so_far more =
    more ∙ ap (λ ys. ys ++ f n) so_far ∙ ap (λ ys. flat_map f (take i numbers) ++ ys) (sym (append-nil (f n)))
    ∙ sym (flat_map-append f (take i numbers) (n ∷ [])) ∙ ap (flat_map f) (sym (take_one numbers i n within is))

-- ---- the items of those numbers, where each stands

abbrev pub picked_by : {X Y : Type 0} → List X → (ℕ → X → Y) → ℕ → List Y
picked_by xs g n = list_from (nth xs n) (λ x. g n x ∷ [])

one_picked : {X Y : Type 0} (xs : List X) (g : ℕ → X → Y) (n : ℕ) (x : X) → nth xs n ≡ Some x → picked_by xs g n ≡ g n x ∷ []
one_picked xs g n x at = ap (λ o. list_from o (λ y. g n y ∷ [])) at

-- the one at a place
pub picked_at : {X Y : Type 0} (xs : List X) (g : ℕ → X → Y) (numbers : List ℕ) (i n : ℕ) (x : X) (y : Y) → Each (λ m. m < length xs) numbers
    → i < length numbers → n ≡ get_or numbers i 0 → nth xs n ≡ Some x → y ≡ get_or (flat_map (picked_by xs g) numbers) i y → y ≡ g n x
picked_at xs g [] i n x y h within is at read = absurd (omega arith)
picked_at xs g (m ∷ numbers) zero n x y h within is at read =
    let first : nth xs m ≡ Some x = subst (λ k. nth xs k ≡ Some x) is at in
    read ∙ ap (λ ys. get_or (ys ++ flat_map (picked_by xs g) numbers) 0 y) (one_picked xs g m x first) ∙ ap (λ k. g k x) (sym is)
picked_at xs g (m ∷ numbers) (suc i) n x y h within is at read =
    let there = has_below xs m h.0 in
    picked_at xs g numbers i n x y h.1 (omega arith) is at
    (read ∙ ap (λ ys. get_or (ys ++ flat_map (picked_by xs g) numbers) (suc i) y) (one_picked xs g m there.item there.at))

-- ---- steps and lines

pub step_more : (steps : List Step) (numbers : List ℕ) (at : ℕ) (old new : List Step) (step other : Step) → at < length numbers
    → nth steps (get_or numbers at 0) ≡ Some step → other ≡ renumbered numbers step
    → old ≡ flat_map (picked_by steps (λ n s. renumbered numbers s)) (take at numbers) → new ≡ old ++ other ∷ []
    → new ≡ flat_map (picked_by steps (λ n s. renumbered numbers s)) (take (at + 1) numbers)
step_more steps numbers at old new step other within found is so_far more =
    one_more (picked_by steps (λ n s. renumbered numbers s)) numbers at (get_or numbers at 0) old new within refl so_far
    (more ∙ ap (λ s. old ++ s ∷ []) is ∙ ap (λ ys. old ++ ys) (sym (one_picked steps (λ n s. renumbered numbers s) (get_or numbers at 0) step found)))

pub no_step_more : (steps : List Step) (numbers : List ℕ) (at : ℕ) (old new : List Step) → at < length numbers
    → nth steps (get_or numbers at 0) ≡ None
    → old ≡ flat_map (picked_by steps (λ n s. renumbered numbers s)) (take at numbers) → new ≡ old
    → new ≡ flat_map (picked_by steps (λ n s. renumbered numbers s)) (take (at + 1) numbers)
no_step_more steps numbers at old new within missing so_far same =
    one_more (picked_by steps (λ n s. renumbered numbers s)) numbers at (get_or numbers at 0) old new within refl so_far
    (same ∙ sym (append-nil old) ∙ ap (λ ys. old ++ ys) (sym (ap (λ o. list_from o (λ s. renumbered numbers s ∷ [])) missing)))

-- the line that comes for a number
abbrev pub line_by : List InputClause → List Literals → List ℕ → ℕ → Step → ProofLine
line_by inputs list numbers n step = line_of inputs (renumbered numbers step) (clause_at list n)

pub length-steps_at : (all steps : List Step) (numbers : List ℕ) → steps ≡ steps_at all numbers → Each (λ n. n < length all) numbers → length steps ≡ length numbers
length-steps_at all steps numbers is there =
    ap length is ∙ length_made all (λ n s. renumbered numbers s) numbers (each_map (λ n. n < length all) (HasItem all) (has_below all) numbers there)

pub line_more : (inputs : List InputClause) (all : List Step) (list : List Literals) (steps : List Step) (numbers : List ℕ) (at : ℕ) (old new : List ProofLine)
    (clause : Literals) (step : Step) (line : ProofLine) → Each (λ n. n < length all) numbers → steps ≡ steps_at all numbers → at < length steps
    → Some clause ≡ nth list (get_or numbers at 0) → step ≡ get_or steps at step → line ≡ line_of inputs step clause
    → old ≡ flat_map (picked_by all (line_by inputs list numbers)) (take at numbers) → new ≡ old ++ line ∷ []
    → new ≡ flat_map (picked_by all (line_by inputs list numbers)) (take (at + 1) numbers)
line_more inputs all list steps numbers at old new clause step line there are low found read is so_far more =
    let n = get_or numbers at 0 in
    let count = length-steps_at all steps numbers are there in
    let within : at < length numbers = omega (arith, count, low) in
    let it = has_below all n (each_get (λ m. m < length all) numbers at within there) in
    let same : step ≡ renumbered numbers it.item =
    picked_at all (λ m s. renumbered numbers s) numbers at n it.item step there within refl it.at (read ∙ ap (λ ss. get_or ss at step) are) in
    let shows : clause ≡ clause_at list n = ap (λ (o : Option Literals). list_from o (λ c. c)) found in
    one_more (picked_by all (line_by inputs list numbers)) numbers at n old new within refl so_far
    (more ∙ ap (λ l. old ++ l ∷ []) (is ∙ ap₂ (λ s c. line_of inputs s c) same shows)
    ∙ ap (λ ys. old ++ ys) (sym (one_picked all (line_by inputs list numbers) n it.item it.at)))

-- each number has its clause
pub line_missing : (all : List Step) (list : List Literals) (steps : List Step) (numbers : List ℕ) (at : ℕ) → Each (λ n. n < length all) numbers
    → steps ≡ steps_at all numbers → length all ≡ length list → at < length steps → None ≡ nth list (get_or numbers at 0) → ⊥
line_missing all list steps numbers at there are count low missing =
    let counted = length-steps_at all steps numbers are there in
    let within : at < length numbers = omega (arith, counted, low) in
    let below : get_or numbers at 0 < length all = each_get (λ m. m < length all) numbers at within there in
    let it = has_below list (get_or numbers at 0) (omega (arith, below, count)) in none_some it.item (missing ∙ it.at)

pub lines_done : (inputs : List InputClause) (all : List Step) (list : List Literals) (steps : List Step) (numbers : List ℕ) (at : ℕ) (lines : List ProofLine)
    → Each (λ n. n < length all) numbers → steps ≡ steps_at all numbers → length steps ≤ at
    → lines ≡ flat_map (picked_by all (line_by inputs list numbers)) (take at numbers) → lines ≡ lines_at inputs all list numbers
lines_done inputs all list steps numbers at lines there are past so_far =
    let counted = length-steps_at all steps numbers are there in
    so_far ∙ ap (flat_map (picked_by all (line_by inputs list numbers))) (take_all at numbers (omega (arith, counted, past)))

-- the parents of a step of those numbers
pub parents_among : (steps : List Step) (numbers : List ℕ) (at : ℕ) (step : Step) → at < length numbers
    → Each (λ number. Each (λ parent. Among parent numbers) (parents_at steps number)) numbers → nth steps (get_or numbers at 0) ≡ Some step
    → Each (λ parent. Among parent numbers) (parents step)
parents_among steps numbers at step within closed found =
    subst (Each (λ parent. Among parent numbers)) (ap (λ o. list_from o parents) found)
    (each_get (λ number. Each (λ parent. Among parent numbers) (parents_at steps number)) numbers at within closed)
