-- The steps of ascending numbers, closed under parents and numbered anew, derive the clauses of those numbers.
use Rattle.std.proofs.Common.{◌≡◌, ◌<◌, ℕ, zero, suc, List, [], ◌∷◌, ◌++◌, map, length, take, Option, Some, None, refl, sym, ap, ap₂, ◌∙◌, subst, arith}
use Rattle.std.proofs.lemmas.List.{length-map}
use Rattle.std.specs.List.{flat_map}
use Rattle.sigma_base.specs.Lists.{Each, each_map}
use Rattle.kif_tree.specs.declared.clause.InputClause.{InputClause}
use Rattle.kif_tree.specs.Subst.{lookup}
use Rattle.kif_tree.specs.Clauses.{Literals}
use Rattle.calculus.specs.declared.places.Replaced.{Replaced}
use Rattle.calculus.specs.declared.step.Step.{Step}
use Rattle.calculus.specs.Tidy.{tidy}
use Rattle.calculus.specs.Rules.{after, nth, resolved, factored, replaced, clause_of, Derivation}
use Rattle.calculus.specs.Evidence.{list_from}
use Rattle.calculus.specs.Answers.{Among}
use Rattle.calculus.proofs.PlaceLaws.{none_some, nth_take}
use Rattle.calculus.proofs.MemberLaws.{each_at}
use Rattle.calculus.proofs.InstanceLaws.{nth-among}
use Rattle.infer.specs.Checks.{clauses_of}
use Rattle.infer.specs.Conclusions.{clause_at}
use Rattle.infer.specs.Plain.{IsPlainStep}
use Rattle.answers.specs.declared.proof.ProofLine.{ProofLine}
use Rattle.answers.specs.Proofs.{parents, parents_at, AreClosed, place_among, renumbered, line_of, steps_at}
use Rattle.answers.proofs.RestLaws.{HasItem, place_at, place_before, parents_there, Follows, follows}

-- ---- lists

pub nth_map : {X Y : Type 0} (f : X → Y) (xs : List X) (n : ℕ) → nth (map f xs) n ≡ after (nth xs n) (λ x. Some (f x))
nth_map f [] n = refl
nth_map f (x ∷ xs) zero = refl
nth_map f (x ∷ xs) (suc n) = nth_map f xs n

pub nth_within : {X : Type 0} (xs : List X) (k n : ℕ) → n < k → nth (take k xs) n ≡ nth xs n
nth_within xs zero n below = absurd (omega arith)
nth_within [] (suc k) n below = refl
nth_within (x ∷ xs) (suc k) zero below = refl
nth_within (x ∷ xs) (suc k) (suc n) below = nth_within xs k n (omega arith)

-- what is made of the items of those numbers
abbrev pub made : {A B : Type 0} → List A → (ℕ → A → B) → List ℕ → List B
made items f numbers = flat_map (λ number. list_from (nth items number) (λ item. f number item ∷ [])) numbers

pub nth_made : {A B : Type 0} (items : List A) (f : ℕ → A → B) (numbers : List ℕ) → Each (HasItem items) numbers → (k : ℕ)
    → nth (made items f numbers) k ≡ after (nth numbers k) (λ number. after (nth items number) (λ item. Some (f number item)))
nth_made items f [] each k = refl
nth_made {A = A} items f (n ∷ numbers) each zero = go (nth items n) each.0.at
  where
    go : (o : Option A) → o ≡ Some each.0.item
        → nth (list_from o (λ item. f n item ∷ []) ++ made items f numbers) zero ≡ after o (λ item. Some (f n item))
    go None e = absurd (none_some each.0.item e)
    go (Some item) e = refl
nth_made {A = A} items f (n ∷ numbers) each (suc k) = go (nth items n) each.0.at (nth_made items f numbers each.1 k)
  where
    go : (o : Option A) → o ≡ Some each.0.item
        → nth (made items f numbers) k ≡ after (nth numbers k) (λ number. after (nth items number) (λ item. Some (f number item)))
        → nth (list_from o (λ item. f n item ∷ []) ++ made items f numbers) (suc k) ≡ after (nth numbers k) (λ number. after (nth items number) (λ item. Some (f number item)))
    go None e rest = absurd (none_some each.0.item e)
    go (Some item) e rest = rest

pub length_made : {A B : Type 0} (items : List A) (f : ℕ → A → B) (numbers : List ℕ) → Each (HasItem items) numbers → length (made items f numbers) ≡ length numbers
length_made items f [] each = refl
length_made {A = A} items f (n ∷ numbers) each = go (nth items n) each.0.at (length_made items f numbers each.1)
  where
    go : (o : Option A) → o ≡ Some each.0.item → length (made items f numbers) ≡ length numbers
        → length (list_from o (λ item. f n item ∷ []) ++ made items f numbers) ≡ length (n ∷ numbers)
    go None e rest = absurd (none_some each.0.item e)
    go (Some item) e rest = omega (arith, rest)

-- what holds of each
pub each_made : {A B : Type 0} (P : B → Type 0) (items : List A) (f : ℕ → A → B) → ((number : ℕ) (item : A) → nth items number ≡ Some item → P (f number item))
    → (numbers : List ℕ) → Each P (made items f numbers)
each_made P items f h [] = tt
each_made {A = A} P items f h (n ∷ numbers) = go (nth items n) (h n) (each_made P items f h numbers)
  where
    go : (o : Option A) → ((item : A) → o ≡ Some item → P (f n item)) → Each P (made items f numbers)
        → Each P (list_from o (λ item. f n item ∷ []) ++ made items f numbers)
    go None holds rest = rest
    go (Some item) holds rest = (holds item refl, rest)

-- ---- one step

pub same_by_parents : (inputs : List Literals) (numbers : List ℕ) (old new : List Literals) (step : Step)
    → Each (λ parent. nth new (place_among numbers parent) ≡ nth old parent) (parents step)
    → clause_of inputs (renumbered numbers step) new ≡ clause_of inputs step old
same_by_parents inputs numbers old new (Step.Input i) same = refl
same_by_parents inputs numbers old new (Step.Resolve left i f right j g) same =
    ap₂ (λ (o p : Option Literals). after (after o (λ l. after p (λ r. resolved l i (lookup f.pairs) r j (lookup g.pairs)))) (λ c. Some (tidy c))) same.0 same.1.0
same_by_parents inputs numbers old new (Step.Factor parent i j f) same =
    ap (λ (o : Option Literals). after (after o (λ p. factored p i j (lookup f.pairs))) (λ c. Some (tidy c))) same.0
same_by_parents inputs numbers old new (Step.Paramodulate source i flipped f target j path g) same =
    ap₂ (λ (o p : Option Literals). after (after (after o (λ s. after p (λ t. replaced s i flipped (lookup f.pairs) t j path (lookup g.pairs)))) (λ (w : Replaced). Some w.conclusion)) (λ c. Some (tidy c)))
    same.0 same.1.0

-- ---- all steps

pub clause_there : (clauses : List Literals) (number : ℕ) (clause : Literals) → nth clauses number ≡ Some clause → clause_at clauses number ≡ clause
clause_there clauses number clause is = ap (λ (o : Option Literals). list_from o (λ clause. clause)) is

module _ (inputs : List InputClause) (steps : List Step) (clauses : List Literals) (derivation : Derivation (clauses_of inputs) steps clauses)
    (numbers : List ℕ) (closed : AreClosed steps numbers) (there : Each (HasItem clauses) numbers) where
  pub steps_there : Each (HasItem steps) numbers
  steps_there = each_map (HasItem clauses) (HasItem steps)
      (λ n has. let f = follows (clauses_of inputs) steps clauses derivation n has.item has.at in record { item = f.step; at = f.at }) numbers there

  -- the clauses of the numbers
  abbrev pub chosen : List Literals
  chosen = map (clause_at clauses) numbers

  pub nth_chosen : (k number : ℕ) (clause : Literals) → nth numbers k ≡ Some number → nth clauses number ≡ Some clause → nth chosen k ≡ Some clause
  nth_chosen k number clause at is = nth_map (clause_at clauses) numbers k ∙ ap (λ (o : Option ℕ). after o (λ n. Some (clause_at clauses n))) at ∙ ap Some (clause_there clauses number clause is)

  -- a parent stands at its place
  pub parent_chosen : (parent : ℕ) (clause : Literals) → Among parent numbers → nth clauses parent ≡ Some clause → nth chosen (place_among numbers parent) ≡ Some clause
  parent_chosen parent clause among is = nth_chosen (place_among numbers parent) parent clause (place_at numbers parent among) is

  parents_alike : (k number : ℕ) → nth numbers k ≡ Some number → (f : (clause : Literals) × Follows (clauses_of inputs) steps clauses number clause)
      → Each (λ parent. nth (take k chosen) (place_among numbers parent) ≡ nth (take number clauses) parent) (parents f.1.step)
  parents_alike k number at f =
      let among = nth-among numbers k number at in
      let up : Each (λ parent. Among parent numbers) (parents f.1.step) =
      subst (Each (λ parent. Among parent numbers)) (ap (λ o. list_from o parents) f.1.at)
      (each_at (λ on. Each (λ parent. Among parent numbers) (parents_at steps on)) numbers number among closed.closed) in
      go (parents f.1.step) up (parents_there (clauses_of inputs) (take number clauses) f.1.step f.0 f.1.concludes)
    where
      go : (ps : List ℕ) → Each (λ parent. Among parent numbers) ps → Each (HasItem (take number clauses)) ps
          → Each (λ parent. nth (take k chosen) (place_among numbers parent) ≡ nth (take number clauses) parent) ps
      go [] up has = tt
      go (p ∷ ps) up has =
          let both = nth_take number clauses p has.0.item has.0.at in
          let before = place_before numbers closed.ascending k number p at up.0 both.1 in
          (nth_within chosen k (place_among numbers p) before ∙ parent_chosen p has.0.item up.0 both.0 ∙ sym has.0.at, go ps up.1 has.1)

  derives_each : (k : ℕ) → nth chosen k ≡ after (nth (steps_at steps numbers) k) (λ step. clause_of (clauses_of inputs) step (take k chosen))
  derives_each k =
      nth_map (clause_at clauses) numbers k ∙ go (nth numbers k) refl
      ∙ sym (ap (λ (o : Option Step). after o (λ step. clause_of (clauses_of inputs) step (take k chosen))) (nth_made steps (λ number step. renumbered numbers step) numbers steps_there k))
    where
      go : (o : Option ℕ) → nth numbers k ≡ o → after o (λ n. Some (clause_at clauses n))
          ≡ after (after o (λ number. after (nth steps number) (λ step. Some (renumbered numbers step)))) (λ step. clause_of (clauses_of inputs) step (take k chosen))
      go None e = refl
      go (Some n) e =
          let has = each_at (HasItem clauses) numbers n (nth-among numbers k n e) there in
          let f = follows (clauses_of inputs) steps clauses derivation n has.item has.at in
          ap Some (clause_there clauses n has.item has.at) ∙ sym f.concludes
          ∙ sym (same_by_parents (clauses_of inputs) numbers (take n clauses) (take k chosen) f.step (parents_alike k n e (has.item, f)))
          ∙ sym (ap (λ (o : Option Step). after (after o (λ step. Some (renumbered numbers step))) (λ step. clause_of (clauses_of inputs) step (take k chosen))) f.at)

  pub chosen_derivation : Derivation (clauses_of inputs) (steps_at steps numbers) chosen
  chosen_derivation = record {
    same_length = length-map numbers (clause_at clauses) ∙ sym (length_made steps (λ number step. renumbered numbers step) numbers steps_there);
    each = derives_each;
  }

-- the lines show the clauses
pub lines_show : (inputs : List InputClause) (steps : List Step) (clauses : List Literals) (all numbers : List ℕ) → Each (HasItem steps) numbers
    → map (λ (line : ProofLine). line.clause) (made steps (λ number step. line_of inputs (renumbered all step) (clause_at clauses number)) numbers) ≡ map (clause_at clauses) numbers
lines_show inputs steps clauses all [] each = refl
lines_show inputs steps clauses all (n ∷ numbers) each = go (nth steps n) each.0.at (lines_show inputs steps clauses all numbers each.1)
  where
    go : (o : Option Step) → o ≡ Some each.0.item
        → map (λ (line : ProofLine). line.clause) (made steps (λ number step. line_of inputs (renumbered all step) (clause_at clauses number)) numbers) ≡ map (clause_at clauses) numbers
        → map (λ (line : ProofLine). line.clause) (list_from o (λ step. line_of inputs (renumbered all step) (clause_at clauses n) ∷ []) ++ made steps (λ number step. line_of inputs (renumbered all step) (clause_at clauses number)) numbers)
        ≡ clause_at clauses n ∷ map (clause_at clauses) numbers
    go None e rest = absurd (none_some each.0.item e)
    go (Some step) e rest = ap (λ (cs : List Literals). clause_at clauses n ∷ cs) rest

-- plain steps stay so
pub plain_renumbered : (numbers : List ℕ) (step : Step) → IsPlainStep step → IsPlainStep (renumbered numbers step)
plain_renumbered numbers (Step.Input i) plain = plain
plain_renumbered numbers (Step.Resolve left i f right j g) plain = plain
plain_renumbered numbers (Step.Factor parent i j f) plain = plain
plain_renumbered numbers (Step.Paramodulate source i flipped f target j path g) plain = plain

pub plain_steps : (steps : List Step) (numbers : List ℕ) → Each IsPlainStep steps → Each IsPlainStep (steps_at steps numbers)
plain_steps steps numbers plain = each_made IsPlainStep steps (λ number step. renumbered numbers step)
    (λ number step at. plain_renumbered numbers step (each_at IsPlainStep steps step (nth-among steps number step at) plain)) numbers
