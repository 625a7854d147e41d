-- What a page rests on: what is shown is proved, and the lines that the proofs cite hold.
use Rattle.std.proofs.Common.{◌≡◌, ◌≢◌, ℕ, ◌+◌, ◌≤◌, List, [], ◌∷◌, ◌++◌, length, nat_le, nat_eq, Bool, true, false, Option, Some, None, ◌⊎◌, inl, inr, refl, sym, ap, ◌∙◌, subst, arith}
use Rattle.std.specs.Prelude.{MatchBool}
use Rattle.std.proofs.lemmas.Bool.{false≢true}
use Rattle.sigma_base.specs.Lists.{Each, each_map}
use Rattle.kif_tree.specs.declared.clause.InputClause.{InputClause}
use Rattle.kif_tree.specs.declared.place.Place.{Place}
use Rattle.kif_tree.specs.declared.place.Located.{Located}
use Rattle.kif_tree.specs.Terms.{Bytes}
use Rattle.kif_tree.specs.Clauses.{Literals}
use Rattle.kif_reader.specs.Spelling.{Lexed, SpellsForms, Spells}
use Rattle.calculus.specs.declared.step.Step.{Step}
use Rattle.calculus.specs.Answers.{Among}
use Rattle.calculus.proofs.MemberLaws.{among-parted, each_at}
use Rattle.translate.specs.declared.translated.Translated.{Translated}
use Rattle.saturate.specs.declared.limits.Limits.{Limits}
use Rattle.clause_form.specs.declared.query.QueryError.{QueryError}
use Rattle.clause_form.specs.declared.query.QueryError.TheVariants as no_query
use Rattle.clause_form.specs.declared.query.QueryClauses.{QueryClauses}
use Rattle.answers.specs.declared.outcome.Answer.{Answer}
use Rattle.answers.specs.declared.outcome.Outcome.{Outcome}
use Rattle.answers.specs.declared.proof.Proof.{Proof}
use Rattle.answers.specs.declared.proof.ProofLine.{ProofLine}
use Rattle.answers.specs.Questions as questions
use Rattle.answers.specs.Laws.{OneOutcome, OnePage, OutcomesAreProved}
use Rattle.sigma_app.specs.declared.files.Part.{Part}
use Rattle.sigma_app.specs.Requests.{Asked, Meaning, asks, Means, is_refused}
use Rattle.sigma_app.specs.Limits.{AreLimits}
use Rattle.sigma_app.specs.Files.{Contents, file_limit, live_limit, AreWhole, live_size, load_names, SpellParts}
use Rattle.sigma_app.specs.Snapshots.{HaveTranslation}
use Rattle.sigma_app.specs.Tool.{Is, usage, live_text, many_text, RefusesQuery, AnswersQuery, OnSet, OnQuery, OnTexts, OnFiles, OnAsked, OnMeaning, Tool}
use Rattle.sigma_app.specs.Evidence.{IsTranslated, Holds, IsHeld, AreHeld, AreHeldIfThere, IsShown, ShowsProof}
use Rattle.sigma_app.proofs.QueryLaws.{IsFromForm, inputs_from, clause_set, spelled_parts_shaped}
use Rattle.sigma_app.proofs.RequestLaws.{means_one}

-- ---- cited lines

forms_each : (constituent number : ℕ) (forms : List Located) (tokens : List Lexed) → SpellsForms constituent number forms tokens → Each (λ (located : Located). located.place.constituent ≡ constituent) forms
forms_each constituent number [] tokens h = tt
forms_each constituent number (located ∷ forms) tokens h = ((h.3).constituent_is, forms_each constituent (number + 1) forms h.1 h.4)

-- the part whose text spells the form
record Spelling (parts : List Part) (located : Located) : Type 0 where
  before : List Part
  part : Part
  following : List Part
  stands : parts ≡ before ++ part ∷ following
  forms : List Located
  spelled : Spells part.number part.text forms
  among : Among located forms

spelling_of : (parts : List Part) (forms : List Located) (located : Located) → SpellParts parts forms → Among located forms → Spelling parts located
spelling_of [] forms located spelled among = let nowhere : Among located [] = subst (Among located) spelled among in absurd nowhere
spelling_of (part ∷ parts) forms located spelled among = by_part (spelling_of parts spelled.1 located spelled.4) (among-parted located spelled.0 spelled.1 (subst (Among located) spelled.2 among))
  where
    by_part : (Among located spelled.1 → Spelling parts located) → Among located spelled.0 ⊎ Among located spelled.1 → Spelling (part ∷ parts) located
    by_part later (inl here) = record { before = []; part = part; following = parts; stands = refl; forms = spelled.0; spelled = spelled.3; among = here }
    by_part later (inr there) =
        let rest = later there in
        record {
          before = part ∷ rest.before;
          part = rest.part;
          following = rest.following;
          stands = ap (λ (ps : List Part). part ∷ ps) rest.stands;
          forms = rest.forms;
          spelled = rest.spelled;
          among = rest.among;
        }

-- the numbers of parts that are made one after the other differ
numbers_above : (contents : Contents) (at : ℕ) (paths : List Bytes) (parts : List Part) → AreWhole contents at paths parts → Each (λ (part : Part). at ≤ part.number) parts
numbers_above contents at [] parts h = subst (Each (λ (part : Part). at ≤ part.number)) (sym h) tt
numbers_above contents at (path ∷ paths) [] h = absurd h
numbers_above contents at (path ∷ paths) (part ∷ parts) h = (
  omega (arith, h.0.numbered),
  each_map (λ (p : Part). at + 1 ≤ p.number) (λ (p : Part). at ≤ p.number) (λ p above. omega (arith, above)) parts (numbers_above contents (at + 1) paths parts h.1),
)

others : (contents : Contents) (at : ℕ) (paths : List Bytes) (before : List Part) (part : Part) (following : List Part) → AreWhole contents at paths (before ++ part ∷ following)
    → Each (λ (other : Part). other.number ≢ part.number) (before ++ following)
others contents at [] before part following h = absurd (no_part before h)
  where
    no_part : (ps : List Part) → ps ++ part ∷ following ≡ [] → ⊥
    no_part [] e = cc
    no_part (p ∷ ps) e = cc
others contents at (path ∷ paths) [] part following h =
    each_map (λ (p : Part). at + 1 ≤ p.number) (λ (p : Part). p.number ≢ part.number)
    (λ p above e. let numbered = h.0.numbered in omega (arith, above, e, numbered)) following (numbers_above contents (at + 1) paths following h.1)
others contents at (path ∷ paths) (first ∷ before) part following h =
    let above = each_at (λ (p : Part). at + 1 ≤ p.number) (before ++ part ∷ following) part (among-middle before part following) (numbers_above contents (at + 1) paths (before ++ part ∷ following) h.1) in (
      λ e. let numbered = h.0.numbered in omega (arith, above, e, numbered),
      others contents (at + 1) paths before part following h.1,
    )
  where
    among-middle : (xs : List Part) (x : Part) (ys : List Part) → Among x (xs ++ x ∷ ys)
    among-middle [] x ys = inl refl
    among-middle (y ∷ xs) x ys = inr (among-middle xs x ys)

holds_at : (contents : Contents) (paths : List Bytes) (parts : List Part) (forms : List Located) (located : Located) (translated : Translated) (variant : ℕ) (clause : Literals)
    → AreWhole contents 1 paths parts → SpellParts parts forms → Among located forms → IsTranslated translated located.place variant clause → Holds parts translated located.place variant clause
holds_at contents paths parts forms located translated variant clause whole spelled among gives =
    let at = spelling_of parts forms located spelled among in
    let all = at.spelled.spelled in
    let named : located.place.constituent ≡ at.part.number =
    each_at (λ (l : Located). l.place.constituent ≡ at.part.number) at.forms located at.among (forms_each at.part.number 1 at.forms at.spelled.tokens all.spelled) in
    record {
      before = at.before;
      part = at.part;
      following = at.following;
      stands = at.stands;
      named = sym named;
      only =
          subst (λ (n : ℕ). Each (λ (other : Part). other.number ≢ n) (at.before ++ at.following)) (sym named)
          (others contents 1 paths at.before at.part at.following (subst (AreWhole contents 1 paths) at.stands whole));
      forms = at.forms;
      spelled = at.spelled;
      located = located;
      among = at.among;
      at = refl;
      gives = gives;
    }

module _ (contents : Contents) (paths : List Bytes) (parts : List Part) (forms : List Located) (translated : Translated)
    (whole : AreWhole contents 1 paths parts) (spelled : SpellParts parts forms) (have : HaveTranslation forms translated) where
  -- a line that cites a clause of the translation
  held_line : (inputs : List InputClause) (step : Step) (line : ProofLine) (place : Place) → questions.IsCited translated.inputs inputs step line place
      → IsHeld parts translated inputs step line place
  held_line inputs step line place cited =
      let from = each_at (IsFromForm forms) translated.inputs cited.input cited.among (inputs_from forms translated have) in
      let same_place : Some from.located.place ≡ Some place = sym from.at ∙ cited.placed in
      let alike : from.located.place ≡ place = cc in
      record {
        number = cited.number;
        is_input = cited.is_input;
        input = cited.input;
        stands = cited.stands;
        holds =
            subst (λ (p : Place). Holds parts translated p cited.input.variant line.clause) alike
            (holds_at contents paths parts forms from.located translated cited.input.variant line.clause whole spelled from.among
            (record { input = cited.input; among = cited.among; placed = from.at; counted = refl; is = sym cited.clause }));
      }

  held : (inputs : List InputClause) (proof : Proof) → questions.AreCited translated.inputs inputs proof → AreHeld parts translated inputs proof
  held inputs proof cited = λ n step line place stands shows at. held_line inputs step line place (cited n step line place stands shows at)

  held_answers : (inputs : List InputClause) (query : QueryClauses) (answers : List Answer) → Each (questions.IsProvedAnswer translated.inputs inputs query) answers
      → Each (λ (answer : Answer). AreHeld parts translated inputs answer.proof) answers
  held_answers inputs query answers each =
      each_map (questions.IsProvedAnswer translated.inputs inputs query) (λ (answer : Answer). AreHeld parts translated inputs answer.proof)
      (λ answer proved. held inputs answer.proof proved.derivation.cited) answers each

  held_contradiction : (inputs : List InputClause) (contradiction : Option Proof) → questions.IsProvedIfThere translated.inputs inputs contradiction
      → AreHeldIfThere parts translated inputs contradiction
  held_contradiction inputs None proved = tt
  held_contradiction inputs (Some proof) proved = held inputs proof proved.derivation.cited

-- ---- the run

module _ (are_proved : OutcomesAreProved) (one_outcome : OneOutcome) (one_page : OnePage) (words : List Bytes) (contents : Contents) (status : ℕ) (text : Bytes) (zero_is : status ≡ 0) where
  other : {X : Type 0} (wanted : ℕ) → status ≡ wanted → nat_eq wanted 0 ≡ false → X
  other wanted is h = absurd (false≢true (sym h ∙ ap (λ (n : ℕ). nat_eq n 0) (sym is ∙ zero_is)))

  module _ (asked : Asked) (means : Means words (asks asked)) (limits : Limits) (are : AreLimits asked limits) where
    module _ (parts : List Part) (whole : AreWhole contents 1 asked.paths parts) (forms : List Located) (spelled : SpellParts parts forms)
        (translated : Translated) (have : HaveTranslation forms translated) (shown : AnswersQuery asked.query limits (load_names parts) translated.inputs status text) where
      -- of every outcome the text is the page
      every_shown : (outcome : Outcome) → questions.IsAsked translated.inputs asked.query limits outcome → IsShown asked.query parts translated text outcome
      every_shown outcome answers =
          let proved = are_proved translated.inputs asked.query limits outcome (clause_set forms translated (spelled_parts_shaped parts forms spelled) have) answers in
          record {
            page_is =
                shown.shows.page_is
                ∙ one_page (load_names parts) shown.outcome outcome (one_outcome translated.inputs asked.query limits shown.outcome outcome shown.asked answers);
            proved = proved;
            held = held_answers contents asked.paths parts forms translated whole spelled have outcome.inputs proved.query outcome.answers proved.answers;
            contradiction_held = held_contradiction contents asked.paths parts forms translated whole spelled have outcome.inputs outcome.contradiction proved.contradiction;
          }

      outcome_shown : ShowsProof words contents text
      outcome_shown = record {
        asked = asked;
        means = means;
        limits = limits;
        are_limits = are;
        parts = parts;
        whole = whole;
        forms = forms;
        spelled = spelled;
        translated = translated;
        have = have;
        outcome = shown.outcome;
        answers = shown.asked;
        every = every_shown;
      }

    refused_shown : (error : QueryError) → RefusesQuery error status text → ShowsProof words contents text
    refused_shown (no_query.Syntax fault) refused = other 7 refused.is.done refl
    refused_shown no_query.NotOneForm refused = other 7 refused.done refl
    refused_shown no_query.RowVariable refused = other 7 refused.done refl
    refused_shown no_query.PredicateVariable refused = other 7 refused.done refl
    refused_shown no_query.HigherOrder refused = other 7 refused.done refl
    refused_shown no_query.TooManyClauses refused = other 7 refused.done refl
    refused_shown no_query.NoMemory refused = absurd refused

    forms_shown : (parts : List Part) → AreWhole contents 1 asked.paths parts → (forms : List Located) → SpellParts parts forms → OnQuery asked.query limits parts forms status text
        → ShowsProof words contents text
    forms_shown parts whole forms spelled (inl asks_clauses) = by_set asks_clauses.answers
      where
        by_set : OnSet asked.query limits (load_names parts) asks_clauses.translated.inputs status text → ShowsProof words contents text
        by_set (inl refuses) = refused_shown refuses.error refuses.is
        by_set (inr shown) = outcome_shown parts whole forms spelled asks_clauses.translated asks_clauses.have shown
    forms_shown parts whole forms spelled (inr full) = other 6 full.is.done refl

    texts_shown : (parts : List Part) → AreWhole contents 1 asked.paths parts → OnTexts (OnQuery asked.query limits) parts status text → ShowsProof words contents text
    texts_shown parts whole (inl fault) = other 5 fault.faulty.is.done refl
    texts_shown parts whole (inr spelled) = forms_shown parts whole spelled.forms spelled.spelled spelled.follows

    parts_shown : (parts : List Part) → AreWhole contents 1 asked.paths parts → (fits : Bool)
        → MatchBool fits (OnTexts (OnQuery asked.query limits) parts status text) (Is 6 (live_text (live_size parts)) status text) → ShowsProof words contents text
    parts_shown parts whole true h = texts_shown parts whole h
    parts_shown parts whole false h = other 6 h.done refl

    files_shown : OnFiles (OnQuery asked.query limits) asked.paths contents status text → ShowsProof words contents text
    files_shown (inl absent) = other 3 absent.is.done refl
    files_shown (inr (inl long)) = other 6 long.is.done refl
    files_shown (inr (inr found)) = parts_shown found.parts found.whole (nat_le (live_size found.parts) live_limit) found.on_parts

    count_shown : (few : Bool) → MatchBool few (OnFiles (OnQuery asked.query limits) asked.paths contents status text) (Is 6 (many_text (length asked.paths)) status text)
        → ShowsProof words contents text
    count_shown true h = files_shown h
    count_shown false h = other 6 h.done refl

  module _ (asked : Asked) (means : Means words (asks asked)) where
    asked_shown : OnAsked asked contents status text → ShowsProof words contents text
    asked_shown (inl refuses) = other 2 refuses.is.done refl
    asked_shown (inr limited) = count_shown asked means limited.limits limited.are (nat_le (length asked.paths) file_limit) limited.on_paths

    meaning_shown : (refused : Bool) → MatchBool refused (Is 2 usage status text) (OnAsked asked contents status text) → ShowsProof words contents text
    meaning_shown true h = other 2 h.done refl
    meaning_shown false h = asked_shown h

    -- what the tool shows to a query has a proof
    pub shows_proof : Tool words contents status text → ShowsProof words contents text
    shows_proof (inl has) =
        meaning_shown (is_refused (asks asked)) (subst (λ (m : Meaning). OnMeaning m contents status text) (means_one words has.meaning (asks asked) has.means means) has.on_meaning)
    shows_proof (inr none) = other 2 none.is.done refl
