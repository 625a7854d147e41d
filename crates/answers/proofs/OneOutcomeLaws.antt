-- Two outcomes of one question differ in the names of variables inside substitutions alone, and have one page.
use Rattle.std.proofs.Common.{◌≡◌, inl, inr, ◌+◌, ℕ, zero, suc, List, [], ◌∷◌, ◌++◌, map, length, codes, decimal, Option, Some, None, refl, sym, ap, ap₂, ◌∙◌, subst, arith}
use Rattle.sigma_base.specs.Lists.{Each, each_map}
use Rattle.kif_tree.specs.declared.clause.InputClause.{InputClause}
use Rattle.kif_tree.specs.declared.place.LoadName.{LoadName}
use Rattle.kif_tree.specs.declared.subst.Subst.{Subst}
use Rattle.kif_tree.specs.Terms.{Bytes}
use Rattle.kif_tree.specs.Subst.{Filling}
use Rattle.kif_tree.specs.Clauses.{Literals}
use Rattle.calculus.specs.declared.step.Step.{Step}
use Rattle.calculus.specs.Rules.{nth, Derivation}
use Rattle.calculus.specs.Evidence.{list_from}
use Rattle.calculus.specs.Answers.{Among}
use Rattle.calculus.proofs.PlaceLaws.{none_some}
use Rattle.calculus.proofs.MemberLaws.{each_at}
use Rattle.clause_form.specs.declared.query.QueryClauses.{QueryClauses}
use Rattle.infer.specs.Checks.{clauses_of}
use Rattle.infer.specs.Sites.{site_of}
use Rattle.infer.specs.Conclusions.{IsTurned, clause_at, AreTurned}
use Rattle.infer.specs.Laws.{EachTwo}
use Rattle.saturate.specs.declared.ended.Ended.{Ended}
use Rattle.saturate.specs.declared.ended.Ended.TheVariants as ended
use Rattle.saturate.specs.declared.reached.Reached.{Reached}
use Rattle.saturate.specs.Inputs.{search_inputs}
use Rattle.saturate.specs.Runs.{Runs, clauses}
use Rattle.saturate.specs.Alike.{AreSameSteps, AreAlike}
use Rattle.saturate.specs.Ends.{IsFound, IsSound}
use Rattle.saturate.specs.Laws.{OneRun, RunsAreSound}
use Rattle.answers.specs.declared.outcome.Answer.{Answer}
use Rattle.answers.specs.declared.outcome.Binding.{Binding}
use Rattle.answers.specs.declared.outcome.Outcome.{Outcome}
use Rattle.answers.specs.declared.proof.ProofLine.{ProofLine}
use Rattle.answers.specs.declared.proof.Proof.{Proof}
use Rattle.answers.specs.Proofs.{parents, parents_at, LeadsTo, RestsOn, AreRests, place_among, renumbered, line_of, steps_at, lines_at, IsProofOf, clauses_in}
use Rattle.answers.specs.Outcomes.{bindings_of, Correspond, IsAnswerOf, HasContradiction, IsContradictionOf, IsOutcomeOf}
use Rattle.answers.specs.Pages.{lines_text, bindings_text, answer_text, answers_text, contradiction_text, end_text, page}
use Rattle.answers.specs.Laws.{AreAlikeProofs, AreAlikeAnswers, AreAlikeIfThere, AreAlikeOutcomes, OneOutcome, OnePage, EveryRunAnswers}
use Rattle.answers.proofs.RestLaws.{HasItem, has_below, one_order, rests_there, rests_closed}
use Rattle.answers.proofs.DerivationLaws.{made, clause_there, steps_there, parent_chosen, lines_show}
use Rattle.answers.proofs.RefusalLaws.{one_query}

-- ---- steps at one site

site_parents : (step : Step) → parents step ≡ parents (site_of step)
site_parents (Step.Input i) = refl
site_parents (Step.Resolve left i f right j g) = refl
site_parents (Step.Factor parent i j f) = refl
site_parents (Step.Paramodulate source i flipped f target j path g) = refl

site_renumbered : (numbers : List ℕ) (step : Step) → site_of (renumbered numbers step) ≡ renumbered numbers (site_of step)
site_renumbered numbers (Step.Input i) = refl
site_renumbered numbers (Step.Resolve left i f right j g) = refl
site_renumbered numbers (Step.Factor parent i j f) = refl
site_renumbered numbers (Step.Paramodulate source i flipped f target j path g) = refl

site_line : (inputs : List InputClause) (numbers : List ℕ) (step : Step) (clause : Literals)
    → line_of inputs (renumbered numbers step) clause ≡ line_of inputs (renumbered numbers (site_of step)) clause
site_line inputs numbers (Step.Input i) clause = refl
site_line inputs numbers (Step.Resolve left i f right j g) clause = refl
site_line inputs numbers (Step.Factor parent i j f) clause = refl
site_line inputs numbers (Step.Paramodulate source i flipped f target j path g) clause = refl

one_site : (clauses : List Literals) (first second : Step) → AreSameSteps clauses first second → site_of first ≡ site_of second
one_site clauses first second (inl same) = ap site_of same
one_site clauses first second (inr variants) = variants.site

-- ---- numbered anew, variants stay so

turned_moved : (next : Filling) (old new : Literals) (first second : Subst) → new ≡ old → IsTurned next old first second → IsTurned next new first second
turned_moved next old new first second same turned = subst (λ (clause : Literals). IsTurned next clause first second) (sym same) turned

module _ (clauses chosen : List Literals) (numbers : List ℕ) where
  abbrev Stays : ℕ → Type 0
  Stays parent = clause_at chosen (place_among numbers parent) ≡ clause_at clauses parent

  turned_renumbered : (next : Filling) (first second : Step) → Each Stays (parents first) → AreTurned clauses next first second
      → AreTurned chosen next (renumbered numbers first) (renumbered numbers second)
  turned_renumbered next (Step.Resolve left i f right j g) (Step.Resolve left_2 i_2 f_2 right_2 j_2 g_2) stay turned = (
    turned_moved next (clause_at clauses left) (clause_at chosen (place_among numbers left)) f f_2 stay.0 turned.0,
    turned_moved next (clause_at clauses right) (clause_at chosen (place_among numbers right)) g g_2 stay.1.0 turned.1,
  )
  turned_renumbered next (Step.Factor parent i j f) (Step.Factor parent_2 i_2 j_2 f_2) stay turned =
      turned_moved next (clause_at clauses parent) (clause_at chosen (place_among numbers parent)) f f_2 stay.0 turned
  turned_renumbered next (Step.Paramodulate source i flipped f target j path g) (Step.Paramodulate source_2 i_2 flipped_2 f_2 target_2 j_2 path_2 g_2) stay turned = (
    turned_moved next (clause_at clauses source) (clause_at chosen (place_among numbers source)) f f_2 stay.0 turned.0,
    turned_moved next (clause_at clauses target) (clause_at chosen (place_among numbers target)) g g_2 stay.1.0 turned.1,
  )
  turned_renumbered next _ _ stay turned = absurd turned

  same_renumbered : (first second : Step) → Each Stays (parents first) → AreSameSteps clauses first second
      → AreSameSteps chosen (renumbered numbers first) (renumbered numbers second)
  same_renumbered first second stay (inl same) = inl (ap (renumbered numbers) same)
  same_renumbered first second stay (inr variants) =
      let up : parents first ≡ parents second = site_parents first ∙ ap parents variants.site ∙ sym (site_parents second) in
      inr (record {
        site = site_renumbered numbers first ∙ ap (renumbered numbers) variants.site ∙ sym (site_renumbered numbers second);
        there = record { next = variants.there.next; turned = turned_renumbered variants.there.next first second stay variants.there.turned };
        back = record { next = variants.back.next; turned = turned_renumbered variants.back.next second first (subst (Each Stays) up stay) variants.back.turned };
      })

-- ---- two lists of steps

abbrev SameIfThere : (Step → Step → Type 0) → Option Step → Option Step → Type 0
SameIfThere Same None None = Unit {0}
SameIfThere Same (Some first) (Some second) = Same first second
SameIfThere Same _ _ = ⊥

nth_two : (Same : Step → Step → Type 0) (first second : List Step) → EachTwo Same first second → (n : ℕ) → SameIfThere Same (nth first n) (nth second n)
nth_two Same [] [] each n = tt
nth_two Same [] (t ∷ second) each n = absurd each
nth_two Same (s ∷ first) [] each n = absurd each
nth_two Same (s ∷ first) (t ∷ second) each zero = each.0
nth_two Same (s ∷ first) (t ∷ second) each (suc n) = nth_two Same first second each.1 n

abbrev Same : List Literals → Step → Step → Type 0
Same clauses = AreSameSteps clauses

one_parents : (clauses : List Literals) (o p : Option Step) → SameIfThere (Same clauses) o p → list_from o parents ≡ list_from p parents
one_parents clauses None None same = refl
one_parents clauses None (Some second) same = absurd same
one_parents clauses (Some first) None same = absurd same
one_parents clauses (Some first) (Some second) same = site_parents first ∙ ap parents (one_site clauses first second same) ∙ sym (site_parents second)

leads_alike : (first second : List Step) → ((n : ℕ) → parents_at first n ≡ parents_at second n) → (from : ℕ) (through : List ℕ) (to : ℕ)
    → LeadsTo first from through to → LeadsTo second from through to
leads_alike first second same from [] to leads = leads
leads_alike first second same from (next ∷ more) to leads = (subst (Among next) (same from) leads.0, leads_alike first second same next more to leads.1)

rests_alike : (first second : List Step) → ((n : ℕ) → parents_at first n ≡ parents_at second n) → (step on : ℕ) → RestsOn first step on → RestsOn second step on
rests_alike first second same step on rests = record { through = rests.through; leads = leads_alike first second same step rests.through on rests.leads }

one_rests : (first second : List Step) → ((n : ℕ) → parents_at first n ≡ parents_at second n) → (step : ℕ) (some others : List ℕ)
    → AreRests first step some → AreRests second step others → some ≡ others
one_rests first second same step some others a b =
    one_order some others a.ascending b.ascending
    (λ on there. (b.exactly on).1 (rests_alike first second same step on ((a.exactly on).0 there)))
    (λ on there. (a.exactly on).1 (rests_alike second first (λ n. sym (same n)) step on ((b.exactly on).0 there)))

-- ---- two proofs of one clause

one_lines : (inputs : List InputClause) (clauses : List Literals) (all : List ℕ) (first second : List Step) → ((n : ℕ) → SameIfThere (Same clauses) (nth first n) (nth second n))
    → (numbers : List ℕ)
    → made first (λ number step. line_of inputs (renumbered all step) (clause_at clauses number)) numbers
    ≡ made second (λ number step. line_of inputs (renumbered all step) (clause_at clauses number)) numbers
one_lines inputs clauses all first second same [] = refl
one_lines inputs clauses all first second same (n ∷ numbers) =
    ap₂ ◌++◌ (go (nth first n) (nth second n) (same n)) (one_lines inputs clauses all first second same numbers)
  where
    go : (o p : Option Step) → SameIfThere (Same clauses) o p
        → list_from o (λ step. line_of inputs (renumbered all step) (clause_at clauses n) ∷ []) ≡ list_from p (λ step. line_of inputs (renumbered all step) (clause_at clauses n) ∷ [])
    go None None h = refl
    go None (Some t) h = absurd h
    go (Some s) None h = absurd h
    go (Some s) (Some t) h =
        ap (λ (line : ProofLine). line ∷ [])
        (site_line inputs all s (clause_at clauses n) ∙ ap (λ (site : Step). line_of inputs (renumbered all site) (clause_at clauses n)) (one_site clauses s t h) ∙ sym (site_line inputs all t (clause_at clauses n)))

same_steps : (clauses chosen : List Literals) (all : List ℕ) (first second : List Step) → ((n : ℕ) → SameIfThere (Same clauses) (nth first n) (nth second n))
    → (numbers : List ℕ) → Each (λ n. Each (Stays clauses chosen all) (parents_at first n)) numbers
    → EachTwo (Same chosen) (made first (λ number step. renumbered all step) numbers) (made second (λ number step. renumbered all step) numbers)
same_steps clauses chosen all first second same [] stay = tt
same_steps clauses chosen all first second same (n ∷ numbers) stay =
    go (nth first n) (nth second n) (same n) stay.0 (same_steps clauses chosen all first second same numbers stay.1)
  where
    go : (o p : Option Step) → SameIfThere (Same clauses) o p → Each (Stays clauses chosen all) (list_from o parents)
        → EachTwo (Same chosen) (made first (λ number step. renumbered all step) numbers) (made second (λ number step. renumbered all step) numbers)
        → EachTwo (Same chosen) (list_from o (λ step. renumbered all step ∷ []) ++ made first (λ number step. renumbered all step) numbers)
        (list_from p (λ step. renumbered all step ∷ []) ++ made second (λ number step. renumbered all step) numbers)
    go None None h up rest = rest
    go None (Some t) h up rest = absurd h
    go (Some s) None h up rest = absurd h
    go (Some s) (Some t) h up rest = (same_renumbered clauses chosen all s t up h, rest)

module _ (inputs : List InputClause) (clauses : List Literals) (first second : List Step) (derivation : Derivation (clauses_of inputs) first clauses)
    (same : (n : ℕ) → SameIfThere (Same clauses) (nth first n) (nth second n)) where
  alike_at : (number : ℕ) → HasItem clauses number → (one other : Proof) (numbers : List ℕ) → AreRests first number numbers
      → one.steps ≡ steps_at first numbers → one.lines ≡ lines_at inputs first clauses numbers
      → other.steps ≡ steps_at second numbers → other.lines ≡ lines_at inputs second clauses numbers → AreAlikeProofs one other
  alike_at number has one other numbers rests one_steps one_lined other_steps other_lined =
      let there = rests_there (clauses_of inputs) first clauses derivation number has numbers rests in
      let closed = rests_closed first number numbers rests in
      let stand = steps_there inputs first clauses derivation numbers closed there in
      let chosen = map (clause_at clauses) numbers in
      let shows : clauses_in one ≡ chosen = ap (λ (lines : List ProofLine). map (λ (line : ProofLine). line.clause) lines) one_lined ∙ lines_show inputs first clauses numbers numbers stand in
      let stay : Each (λ n. Each (Stays clauses chosen numbers) (parents_at first n)) numbers =
      each_map (λ n. Each (λ parent. Among parent numbers) (parents_at first n)) (λ n. Each (Stays clauses chosen numbers) (parents_at first n))
      (λ n up. each_map (λ parent. Among parent numbers) (Stays clauses chosen numbers) (λ parent among.
      let item = each_at (HasItem clauses) numbers parent among there in
      clause_there chosen (place_among numbers parent) item.item (parent_chosen inputs first clauses derivation numbers closed there parent item.item among item.at)
      ∙ sym (clause_there clauses parent item.item item.at)) (parents_at first n) up) numbers closed.closed in
      record {
        lines = one_lined ∙ one_lines inputs clauses numbers first second same numbers ∙ sym other_lined;
        steps = subst (λ (list : List Literals). EachTwo (AreSameSteps list) one.steps other.steps) (sym shows)
            (subst (λ (list : List Step). EachTwo (AreSameSteps chosen) list other.steps) (sym one_steps)
            (subst (λ (list : List Step). EachTwo (AreSameSteps chosen) (steps_at first numbers) list) (sym other_steps)
            (same_steps clauses chosen numbers first second same numbers stay)));
      }

  alike_proofs : (number : ℕ) → HasItem clauses number → (one other : Proof) → IsProofOf inputs first clauses number one → IsProofOf inputs second clauses number other → AreAlikeProofs one other
  alike_proofs number has one other a b =
      let numbers_are : b.numbers ≡ a.numbers =
      sym (one_rests first second (λ n. one_parents clauses (nth first n) (nth second n) (same n)) number a.numbers b.numbers a.rests b.rests) in
      alike_at number has one other a.numbers a.rests a.steps_are a.lines_are
      (b.steps_are ∙ ap (steps_at second) numbers_are) (b.lines_are ∙ ap (lines_at inputs second clauses) numbers_are)

-- ---- two outcomes

same_count : (Same : Step → Step → Type 0) (first second : List Step) → EachTwo Same first second → length second ≡ length first
same_count Same [] [] each = refl
same_count Same [] (t ∷ second) each = absurd each
same_count Same (s ∷ first) [] each = absurd each
same_count Same (s ∷ first) (t ∷ second) each = let rest = same_count Same first second each.1 in omega (arith, rest)

module _ (asked : List Bytes) (first second : Reached) (alike : AreAlike first second) (sound : IsSound first) where
  clauses_same : clauses second ≡ clauses first
  clauses_same = ap₂ (λ (inputs : List InputClause) (derived : List Literals). clauses_of inputs ++ derived) (sym alike.inputs) (sym alike.derived)

  proofs_alike : (number : ℕ) → HasItem (clauses first) number → (one other : Proof) → IsProofOf first.inputs first.steps (clauses first) number one
      → IsProofOf second.inputs second.steps (clauses second) number other → AreAlikeProofs one other
  proofs_alike number has one other a b =
      alike_proofs first.inputs (clauses first) first.steps second.steps sound.derivation
      (nth_two (AreSameSteps (clauses first)) first.steps second.steps alike.steps) number has one other a
      (subst (λ (inputs : List InputClause). IsProofOf inputs second.steps (clauses first) number other) (sym alike.inputs)
      (subst (λ (list : List Literals). IsProofOf second.inputs second.steps list number other) clauses_same b))

  answers_alike : (numbers : List ℕ) → Each (IsFound first) numbers → (one other : List Answer) → Correspond (IsAnswerOf asked first) numbers one
      → Correspond (IsAnswerOf asked second) numbers other → EachTwo AreAlikeAnswers one other
  answers_alike [] found [] [] a b = tt
  answers_alike [] found [] (answer ∷ other) a b = absurd b
  answers_alike [] found (answer ∷ one) other a b = absurd a
  answers_alike (number ∷ numbers) found [] other a b = absurd a
  answers_alike (number ∷ numbers) found (answer ∷ one) [] a b = absurd b
  answers_alike (number ∷ numbers) found (answer ∷ one) (answer_2 ∷ other) a b = (
    record {
      bindings = a.0.bindings ∙ ap (λ (list : List Literals). bindings_of asked (clause_at list number)) (sym clauses_same) ∙ sym b.0.bindings;
      proofs = proofs_alike number (record { item = found.0.clause; at = found.0.at }) answer.proof answer_2.proof a.0.proof b.0.proof;
    },
    answers_alike numbers found.1 one other a.1 b.1,
  )

  none_alike : (one other : Option Proof) → one ≡ None → other ≡ None → AreAlikeIfThere one other
  none_alike None None a b = tt
  none_alike None (Some p) a b = absurd (none_some p (sym b))
  none_alike (Some p) other a b = absurd (none_some p (sym a))

  contradictions_alike : (one other : Option Proof) → HasContradiction first one → HasContradiction second other → AreAlikeIfThere one other
  contradictions_alike one other a b =
      let counted : length second.steps ≡ length first.steps = same_count (AreSameSteps (clauses first)) first.steps second.steps alike.steps in
      let one_number : b.number ≡ a.number = let p = a.last in let q = b.last in omega (arith, p, q, counted) in
      let last : length (clauses first) ≡ a.number + 1 = sound.derivation.same_length ∙ a.last in
      subst (λ o. AreAlikeIfThere o other) (sym a.is) (subst (λ o. AreAlikeIfThere (Some a.proof) o) (sym b.is)
      (proofs_alike a.number (has_below (clauses first) a.number (omega (arith, last))) a.proof b.proof a.proves
      (subst (λ (n : ℕ). IsProofOf second.inputs second.steps (clauses second) n b.proof) one_number b.proves)))

  ends_alike : (end : Ended) (one other : Option Proof) → IsContradictionOf first end one → IsContradictionOf second end other → AreAlikeIfThere one other
  ends_alike ended.Contradiction one other a b = contradictions_alike one other a b
  ends_alike ended.Enough one other a b = none_alike one other a b
  ends_alike ended.Saturated one other a b = none_alike one other a b
  ends_alike ended.Deep one other a b = none_alike one other a b
  ends_alike ended.Spent one other a b = none_alike one other a b
  ends_alike ended.Crowded one other a b = none_alike one other a b

  outcomes_alike : (turns : ℕ) (end : Ended) (one other : Outcome) → IsOutcomeOf asked turns first end one → IsOutcomeOf asked turns second end other → AreAlikeOutcomes one other
  outcomes_alike turns end one other a b = record {
    inputs = a.inputs ∙ alike.inputs ∙ sym b.inputs;
    asked = a.asks ∙ sym b.asks;
    answers = answers_alike first.found sound.found one.answers other.answers a.answers
        (subst (λ (numbers : List ℕ). Correspond (IsAnswerOf asked second) numbers other.answers) (sym alike.found) b.answers);
    contradiction = ends_alike end one.contradiction other.contradiction a.contradiction b.contradiction;
    ended = a.ends ∙ sym b.ends;
    turns = a.counted ∙ sym b.counted;
  }

  -- ---- an outcome of the one run for that of the other

  same_at : (n : ℕ) → SameIfThere (Same (clauses first)) (nth first.steps n) (nth second.steps n)
  same_at = nth_two (AreSameSteps (clauses first)) first.steps second.steps alike.steps

  parents_same : (n : ℕ) → parents_at first.steps n ≡ parents_at second.steps n
  parents_same n = one_parents (clauses first) (nth first.steps n) (nth second.steps n) (same_at n)

  rests_moved : (number : ℕ) (numbers : List ℕ) → AreRests first.steps number numbers → AreRests second.steps number numbers
  rests_moved number numbers rests = record {
    ascending = rests.ascending;
    exactly = λ on. (
      λ among. rests_alike first.steps second.steps parents_same number on ((rests.exactly on).0 among),
      λ on_it. (rests.exactly on).1 (rests_alike second.steps first.steps (λ n. sym (parents_same n)) number on on_it),
    );
  }

  -- the same lines, by the steps of the other run
  abbrev moved_proof : Proof → List ℕ → Proof
  moved_proof proof numbers = record { lines = proof.lines; steps = steps_at second.steps numbers }

  moved_proves : (number : ℕ) (proof : Proof) (p : IsProofOf first.inputs first.steps (clauses first) number proof)
      → IsProofOf second.inputs second.steps (clauses second) number (moved_proof proof p.numbers)
  moved_proves number proof p = record {
    numbers = p.numbers;
    rests = rests_moved number p.numbers p.rests;
    steps_are = refl;
    lines_are = p.lines_are ∙ one_lines first.inputs (clauses first) p.numbers first.steps second.steps same_at p.numbers
        ∙ ap₂ (λ (inputs : List InputClause) (list : List Literals). lines_at inputs second.steps list p.numbers) alike.inputs (sym clauses_same);
  }

  answers_moved : (numbers : List ℕ) (answers : List Answer) → Correspond (IsAnswerOf asked first) numbers answers
      → (others : List Answer) × Correspond (IsAnswerOf asked second) numbers others
  answers_moved [] [] both = ([], tt)
  answers_moved [] (answer ∷ answers) both = absurd both
  answers_moved (number ∷ numbers) [] both = absurd both
  answers_moved (number ∷ numbers) (answer ∷ answers) both =
      let rest = answers_moved numbers answers both.1 in (
        record { bindings = answer.bindings; proof = moved_proof answer.proof both.0.proof.numbers } ∷ rest.0,
        (
          record {
            bindings = both.0.bindings ∙ ap (λ (list : List Literals). bindings_of asked (clause_at list number)) (sym clauses_same);
            proof = moved_proves number answer.proof both.0.proof;
          },
          rest.1,
        ),
      )

  end_moved : (end : Ended) (shown : Option Proof) → IsContradictionOf first end shown → (other : Option Proof) × IsContradictionOf second end other
  end_moved ended.Contradiction shown h = (
    Some (moved_proof h.proof h.proves.numbers),
    record {
      proof = moved_proof h.proof h.proves.numbers;
      is = refl;
      number = h.number;
      last = same_count (AreSameSteps (clauses first)) first.steps second.steps alike.steps ∙ h.last;
      proves = moved_proves h.number h.proof h.proves;
    },
  )
  end_moved ended.Enough shown h = (None, refl)
  end_moved ended.Saturated shown h = (None, refl)
  end_moved ended.Deep shown h = (None, refl)
  end_moved ended.Spent shown h = (None, refl)
  end_moved ended.Crowded shown h = (None, refl)

  outcome_moved : (turns : ℕ) (end : Ended) (one : Outcome) → IsOutcomeOf asked turns first end one
      → (other : Outcome) × IsOutcomeOf asked turns second end other × AreAlikeOutcomes one other
  outcome_moved turns end one a = go (answers_moved first.found one.answers a.answers) (end_moved end one.contradiction a.contradiction)
    where
      go : ((others : List Answer) × Correspond (IsAnswerOf asked second) first.found others) → ((shown : Option Proof) × IsContradictionOf second end shown)
          → (other : Outcome) × IsOutcomeOf asked turns second end other × AreAlikeOutcomes one other
      go others shown =
          let other : Outcome = record { inputs = second.inputs; asked = asked; answers = others.0; contradiction = shown.0; ended = end; turns = turns } in
          let shows : IsOutcomeOf asked turns second end other = record {
            inputs = refl;
            asks = refl;
            answers = subst (λ (numbers : List ℕ). Correspond (IsAnswerOf asked second) numbers others.0) alike.found others.1;
            contradiction = shown.1;
            ends = refl;
            counted = refl;
          } in
          (other, shows, outcomes_alike turns end one other a shows)

pub one_outcome : RunsAreSound → OneRun → OneOutcome
one_outcome runs_sound one_run set text limits first second a b =
    let inputs = search_inputs set a.query.clauses in
    let same : b.query ≡ a.query = one_query text b.query a.query b.is_query a.is_query in
    let runs : Runs inputs limits b.turns b.reached b.end = subst (λ (query : QueryClauses). Runs (search_inputs set query.clauses) limits b.turns b.reached b.end) same b.runs in
    let shows : IsOutcomeOf a.query.asked b.turns b.reached b.end second = subst (λ (query : QueryClauses). IsOutcomeOf query.asked b.turns b.reached b.end second) same b.shows in
    let one = one_run inputs limits a.turns b.turns a.reached b.reached a.end b.end a.runs runs in
    outcomes_alike a.query.asked a.reached b.reached one.0 (runs_sound inputs limits a.turns a.reached a.end a.runs) a.turns a.end first second a.shows
    (subst (λ (end : Ended). IsOutcomeOf a.query.asked a.turns b.reached end second) (sym one.2)
    (subst (λ (turns : ℕ). IsOutcomeOf a.query.asked turns b.reached b.end second) (sym one.1) shows))

pub every_run_answers : RunsAreSound → OneRun → EveryRunAnswers
every_run_answers runs_sound one_run set text limits outcome query turns r end a is_query runs =
    let inputs = search_inputs set query.clauses in
    let same : a.query ≡ query = one_query text a.query query a.is_query is_query in
    let run : Runs inputs limits a.turns a.reached a.end = subst (λ (q : QueryClauses). Runs (search_inputs set q.clauses) limits a.turns a.reached a.end) same a.runs in
    let shows : IsOutcomeOf query.asked a.turns a.reached a.end outcome = subst (λ (q : QueryClauses). IsOutcomeOf q.asked a.turns a.reached a.end outcome) same a.shows in
    let one = one_run inputs limits a.turns turns a.reached r a.end end run runs in
    outcome_moved query.asked a.reached r one.0 (runs_sound inputs limits a.turns a.reached a.end run) turns end outcome
    (subst (λ (e : Ended). IsOutcomeOf query.asked turns a.reached e outcome) one.2
    (subst (λ (t : ℕ). IsOutcomeOf query.asked t a.reached a.end outcome) one.1 shows))

-- ---- pages

answer_one : (names : List LoadName) (number : ℕ) (first second : Answer) → AreAlikeAnswers first second → answer_text names number first ≡ answer_text names number second
unfolding answer_text
answer_one names number first second alike =
    ap₂ (λ (shown : List Binding) (lines : List ProofLine). codes "answer " ++ (decimal number ++ (10 ∷ (bindings_text shown ++ (codes "proof\n" ++ lines_text names 0 lines)))))
    alike.bindings alike.proofs.lines

answers_one : (names : List LoadName) (count : ℕ) (first second : List Answer) → EachTwo AreAlikeAnswers first second → answers_text names count first ≡ answers_text names count second
answers_one names count [] [] each = refl
answers_one names count [] (b ∷ second) each = absurd each
answers_one names count (a ∷ first) [] each = absurd each
answers_one names count (a ∷ first) (b ∷ second) each = ap₂ ◌++◌ (answer_one names (count + 1) a b each.0) (answers_one names (count + 1) first second each.1)

contradiction_one : (names : List LoadName) (first second : Option Proof) → AreAlikeIfThere first second → contradiction_text names first ≡ contradiction_text names second
contradiction_one names None None alike = refl
contradiction_one names None (Some b) alike = absurd alike
contradiction_one names (Some a) None alike = absurd alike
contradiction_one names (Some a) (Some b) alike = ap (λ (lines : List ProofLine). codes "contradiction\n" ++ (codes "proof\n" ++ lines_text names 0 lines)) alike.lines

pub one_page : OnePage
unfolding page
one_page names first second alike =
    ap₂ ◌++◌ (answers_one names 0 first.answers second.answers alike.answers)
    (ap₂ ◌++◌ (contradiction_one names first.contradiction second.contradiction alike.contradiction) (ap₂ end_text alike.ended alike.turns))
