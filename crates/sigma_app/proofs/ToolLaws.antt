-- How a reply is put together, and why it is the tool's.
use Rattle.std.proofs.Common.{◌≡◌, ℕ, ◌<◌, ◌⊎◌, List, [], length, Bool, true, false, not, ◌&&◌, nat_le, Option, Some, None, Result, Ok, Err, ◌≤◌, inl, inr, refl, sym, ap, ◌∙◌, subst, arith}
use Rattle.std.specs.Prelude.{IfOk, MatchBool}
use Rattle.std.specs.Borrow.{Bor}
use Rattle.std.proofs.lemmas.List.{length-map}
use Rattle.sig_io.specs.Causes.{Rose}
use Rattle.std.proofs.lemmas.Bool.Decides.{nat_tests}
use Rattle.kif_tree.specs.Places.{PlacesDiffer}
use Rattle.translate.specs.Inputs.{AreShaped}
use Rattle.saturate.specs.declared.limits.Limits.{Limits}
use Rattle.kif_tree.specs.Terms.{Bytes}
use Rattle.sigma_app.specs.declared.files.Part.{Part}
use Rattle.sigma_app.specs.declared.files.Fetching.TheVariants.{Stopped}
use Rattle.sigma_app.specs.declared.gather.Gathered.{Gathered}
use Rattle.sigma_app.specs.declared.gather.Gathering.{Gathering}
use Rattle.sigma_app.specs.declared.gather.Gathering.TheVariants as gathering
use Rattle.sigma_app.specs.declared.reply.Reply.{Reply}
use Rattle.sigma_base.specs.declared.memory.NoMemory.{NoMemory}
use Rattle.sigma_app.specs.Requests.{Asked, texts, Meaning, asks, checks, gives_clauses, exports, drills, paths, Means, IsTaken, is_refused}
use Rattle.sigma_app.specs.Files.{Contents, file_limit, live_limit, AreWhole, AreShort, live_size, SpellParts}
use Rattle.sigma_app.specs.Limits.{AreLimits, HasValues}
use Rattle.sigma_app.specs.Tool.{Is, usage, live_text, many_text, is_built, reads_files, OnQuery, OnChecked, OnClauses, Following, Nothing, HasFault, OnTexts, OnParts, GathersParts, IsAbsent, IsTooLong, OnFiles, OnPaths, OnBuilt, HasMeaning}
use Rattle.sigma_app.specs.Run.{Over, Fails, Fetches, OnFewFiles, OnNamedFiles, Gathers, OnAsk, OnGoodRequest, OnRequest, Obtains}
use Rattle.sigma_app.proofs.FileLaws.{whole_short, whole_length}
use Rattle.sigma_app.proofs.PlaceLaws.{whole_apart}
use Rattle.sigma_app.proofs.QueryLaws.{spelled_parts_shaped}

abbrev Replied : Type 0
Replied = Result Reply NoMemory

-- ---- over the parts

at_most : (n limit : ℕ) → n ≤ limit → nat_le n limit ≡ true
at_most n limit h = grind (arith, nat_tests)

passes : (n limit : ℕ) → limit < n → nat_le n limit ≡ false
passes n limit h = grind (arith, nat_tests)

pub parts_long : (parts : List Part) (size : ℕ) (reply : Reply) → size ≡ live_size parts → live_limit < size → Is 6 (live_text size) reply.status reply.text
    → OnParts Nothing parts reply.status reply.text
parts_long parts size reply e long is =
    subst (λ (b : Bool). MatchBool b (OnTexts Nothing parts reply.status reply.text) (Is 6 (live_text (live_size parts)) reply.status reply.text))
    (sym (passes (live_size parts) live_limit (omega (arith, e, long))))
    (subst (λ (n : ℕ). Is 6 (live_text n) reply.status reply.text) e is)

pub parts_faulty : (parts : List Part) (size : ℕ) (reply : Reply) → size ≡ live_size parts → size ≤ live_limit → HasFault parts reply.status reply.text → OnParts Nothing parts reply.status reply.text
parts_faulty parts size reply e fits fault =
    subst (λ (b : Bool). MatchBool b (OnTexts Nothing parts reply.status reply.text) (Is 6 (live_text (live_size parts)) reply.status reply.text))
    (sym (at_most (live_size parts) live_limit (omega (arith, e, fits)))) (inl fault)

pub parts_fit : (parts : List Part) (size : ℕ) → size ≡ live_size parts → size ≤ live_limit → nat_le (live_size parts) live_limit ≡ true
parts_fit parts size e fits = at_most (live_size parts) live_limit (omega (arith, e, fits))

-- ---- over the files

abbrev AllFound : List Bytes → Option Contents → ℕ → ℕ → List Part → Type 0
AllFound paths told before now parts = (now ≡ before) × Over told (λ contents. AreWhole contents 1 paths parts)

pub found_short : (paths : List Bytes) (told : Option Contents) (before now : ℕ) (parts : List Part) → AllFound paths told before now parts → AreShort parts
found_short paths told before now parts (quiet, over) = whole_short over.contents 1 paths parts over.holds

pub found_few : (files : List (Bor Bytes)) (told : Option Contents) (before now : ℕ) (parts : List Part) → AllFound (texts files) told before now parts → length files ≤ 64 → length parts ≤ 64
found_few files told before now parts (quiet, over) few =
    let count = whole_length over.contents 1 (texts files) parts over.holds in omega (arith, few, count, length-map files (λ (s : Bor Bytes). s.now))

count_few : (files : List (Bor Bytes)) → length files ≤ 64 → nat_le (length (texts files)) file_limit ≡ true
count_few files few = at_most (length (texts files)) file_limit (let count = length-map files (λ (s : Bor Bytes). s.now) in omega (arith, count, few))

count_many : (files : List (Bor Bytes)) → 64 < length files → nat_le (length (texts files)) file_limit ≡ false
count_many files many = passes (length (texts files)) file_limit (let count = length-map files (λ (s : Bor Bytes). s.now) in omega (arith, count, many))

abbrev Counted : Bool → Following → List Bytes → Option Contents → ℕ → ℕ → ℕ → Bytes → Type 0
Counted few Next paths told before now status text =
    MatchBool few (OnFewFiles Next paths told before now status text) ((now ≡ before) × Is 6 (many_text (length paths)) status text)

counted : (few : Bool) (Next : Following) (paths : List Bytes) (told : Option Contents) (before now status : ℕ) (text : Bytes) → nat_le (length paths) file_limit ≡ few
    → Counted few Next paths told before now status text → OnNamedFiles Next paths told before now status text
counted few Next paths told before now status text e h = subst (λ (b : Bool). Counted b Next paths told before now status text) (sym e) h

-- where parts are found, what they give is gathered
pub gathered : (files : List (Bor Bytes)) (told : Option Contents) (before now : ℕ) (parts : List Part) → length files ≤ 64 → AllFound (texts files) told before now parts
    → (r : Result Gathering NoMemory) → IfOk r (GathersParts parts) → IfOk r (Gathers (texts files) told before now)
gathered files told before now parts few (quiet, over) (Ok (gathering.Found found)) (same, fit, spelled) = (
  quiet,
  record {
    contents = over.contents;
    agrees = over.agrees;
    holds = record {
      few = count_few files few;
      whole = subst (AreWhole over.contents 1 (texts files)) (sym same) over.holds;
      fit = ap (λ (ps : List Part). nat_le (live_size ps) live_limit) same ∙ fit;
      spelled = subst (λ (ps : List Part). SpellParts ps found.forms.items) (sym same) spelled;
    };
  },
)
gathered files told before now parts few (quiet, over) (Ok (gathering.Stopped reply)) on_parts =
    counted true Nothing (texts files) told before now reply.status reply.text (count_few files few)
    (inl (quiet, record { contents = over.contents; agrees = over.agrees; holds = inr (inr (record { parts = parts; whole = over.holds; on_parts = on_parts })) }))
gathered files told before now parts few found (Err error) h = tt

-- a file that isn't found whole ended the work
pub unfound : (files : List (Bor Bytes)) (told : Option Contents) (before now : ℕ) (reply : Reply) → length files ≤ 64 → Fetches (texts files) told before now (Stopped reply)
    → Gathers (texts files) told before now (gathering.Stopped reply)
unfound files told before now reply few h = counted true Nothing (texts files) told before now reply.status reply.text (count_few files few) (either h)
  where
    either_file : (contents : Contents) → IsAbsent contents (texts files) reply.status reply.text ⊎ IsTooLong contents (texts files) reply.status reply.text
        → OnFiles Nothing (texts files) contents reply.status reply.text
    either_file contents (inl absent) = inl absent
    either_file contents (inr long) = inr (inl long)

    either : Fetches (texts files) told before now (Stopped reply) → OnFewFiles Nothing (texts files) told before now reply.status reply.text
    either (inl (quiet, over)) = inl (quiet, record { contents = over.contents; agrees = over.agrees; holds = either_file over.contents over.holds })
    either (inr failed) = inr failed

-- the files are too many
pub too_many : (files : List (Bor Bytes)) (told : Option Contents) (now count : ℕ) (reply : Reply) → count ≡ length files → 64 < count → Is 6 (many_text count) reply.status reply.text
    → Gathers (texts files) told now now (gathering.Stopped reply)
too_many files told now count reply e many is =
    counted false Nothing (texts files) told now now reply.status reply.text (count_many files (omega (arith, e, many)))
    (refl, subst (λ (n : ℕ). Is 6 (many_text n) reply.status reply.text) (e ∙ sym (length-map files (λ (s : Bor Bytes). s.now))) is)

-- ---- what follows

module _ (Next : Following) (status : ℕ) (text : Bytes) where
  texts_stopped : (parts : List Part) → OnTexts Nothing parts status text → OnTexts Next parts status text
  texts_stopped parts (inl fault) = inl fault
  texts_stopped parts (inr spelled) = absurd spelled.follows

  parts_stopped : (parts : List Part) (fits : Bool) → MatchBool fits (OnTexts Nothing parts status text) (Is 6 (live_text (live_size parts)) status text)
      → MatchBool fits (OnTexts Next parts status text) (Is 6 (live_text (live_size parts)) status text)
  parts_stopped parts true h = texts_stopped parts h
  parts_stopped parts false h = h

  files_stopped : (paths : List Bytes) (contents : Contents) → OnFiles Nothing paths contents status text → OnFiles Next paths contents status text
  files_stopped paths contents (inl absent) = inl absent
  files_stopped paths contents (inr (inl long)) = inr (inl long)
  files_stopped paths contents (inr (inr found)) =
      inr (inr (record { parts = found.parts; whole = found.whole; on_parts = parts_stopped found.parts (nat_le (live_size found.parts) live_limit) found.on_parts }))

  few_stopped : (paths : List Bytes) (told : Option Contents) (before now : ℕ) → OnFewFiles Nothing paths told before now status text → OnFewFiles Next paths told before now status text
  few_stopped paths told before now (inl (quiet, over)) = inl (quiet, record { contents = over.contents; agrees = over.agrees; holds = files_stopped paths over.contents over.holds })
  few_stopped paths told before now (inr failed) = inr failed

  -- what ended the work is what a command answers, whatever would have followed
  pub named_stopped : (paths : List Bytes) (told : Option Contents) (before now : ℕ) → OnNamedFiles Nothing paths told before now status text → OnNamedFiles Next paths told before now status text
  named_stopped paths told before now h = by_count (nat_le (length paths) file_limit) h
    where
      by_count : (few : Bool) → Counted few Nothing paths told before now status text → Counted few Next paths told before now status text
      by_count true x = few_stopped paths told before now x
      by_count false x = x

-- what follows on the forms is what a command answers
pub named_found : (Next : Following) (paths : List Bytes) (told : Option Contents) (before now : ℕ) (found : Gathered) → Gathers paths told before now (gathering.Found found)
    → (r : Replied) → IfOk r (λ reply. Next found.parts found.forms.items reply.status reply.text) → IfOk r (λ reply. OnNamedFiles Next paths told before now reply.status reply.text)
named_found Next paths told before now found (quiet, over) (Ok reply) next =
    let have = over.holds in
    counted true Next paths told before now reply.status reply.text have.few
    (inl (
      quiet,
      record {
        contents = over.contents;
        agrees = over.agrees;
        holds = inr (inr (record {
          parts = found.parts;
          whole = have.whole;
          on_parts =
              subst (λ (b : Bool). MatchBool b (OnTexts Next found.parts reply.status reply.text) (Is 6 (live_text (live_size found.parts)) reply.status reply.text)) (sym have.fit)
              (inr (record { forms = found.forms.items; spelled = have.spelled; follows = next }));
        }));
      },
    ))
named_found Next paths told before now found gathers (Err error) next = tt

-- the forms that were gathered stand at different places
pub gathered_apart : (paths : List Bytes) (told : Option Contents) (before now : ℕ) (found : Gathered) → Gathers paths told before now (gathering.Found found) → PlacesDiffer found.forms.items
gathered_apart paths told before now found (quiet, over) = whole_apart over.contents paths found.parts found.forms.items over.holds.whole over.holds.spelled

-- and have the shape of forms that are read
pub gathered_shaped : (paths : List Bytes) (told : Option Contents) (before now : ℕ) (found : Gathered) → Gathers paths told before now (gathering.Found found) → AreShaped found.forms.items
gathered_shaped paths told before now found (quiet, over) = spelled_parts_shaped found.parts found.forms.items over.holds.spelled

-- ---- a query

any_over : (told : Option Contents) (P : Contents → Type 0) → ((contents : Contents) → P contents) → Over told P
any_over (Some files) P h = record { contents = files; agrees = refl; holds = h files }
any_over None P h = record { contents = []; agrees = tt; holds = h [] }

pub ask_found : (asked : Asked) (limits : Limits) (told : Option Contents) (before now : ℕ) (found : Gathered) → AreLimits asked limits
    → Gathers asked.paths told before now (gathering.Found found)
    → (r : Replied) → IfOk r (λ reply. OnQuery asked.query limits found.parts found.forms.items reply.status reply.text) → IfOk r (λ reply. OnAsk asked told before now reply.status reply.text)
ask_found asked limits told before now found are gathers (Ok reply) next =
    inr (record { limits = limits; are = are; on_files = named_found (OnQuery asked.query limits) asked.paths told before now found gathers (Ok reply) next })
ask_found asked limits told before now found are gathers (Err error) next = tt

pub ask_stopped : (asked : Asked) (limits : Limits) (told : Option Contents) (before now : ℕ) (reply : Reply) → AreLimits asked limits
    → Gathers asked.paths told before now (gathering.Stopped reply) → OnAsk asked told before now reply.status reply.text
ask_stopped asked limits told before now reply are stopped =
    inr (record { limits = limits; are = are; on_files = named_stopped (OnQuery asked.query limits) reply.status reply.text asked.paths told before now stopped })

-- files are read where nothing is in the way
reads : (meaning : Meaning) → is_refused meaning ≡ false → is_built meaning ≡ true → nat_le (length (paths meaning)) file_limit ≡ true → reads_files meaning ≡ true
reads meaning good built few = λ i. not (good i) && (built i && few i)

-- ---- a request

abbrev OnTest : Bool → Meaning → Option Contents → ℕ → ℕ → ℕ → Bytes → Type 0
OnTest refused meaning told before now status text = MatchBool refused ((now ≡ before) × Is 2 usage status text) (OnGoodRequest meaning told before now status text)

-- ---- the whole tool

module _ (words : List Bytes) (meaning : Meaning) (told : Option Contents) (before now status : ℕ) (text : Bytes) (means : Means words meaning) where
  own : Over told (λ contents. HasMeaning words contents status text) → now ≡ before → Obtains words told before now status text
  own over quiet = inl (record { quiet = quiet; gives = record { contents = over.contents; agrees = over.agrees; tool = inl over.holds } })

  meant : (refused : Bool) (contents : Contents) → is_refused meaning ≡ refused → MatchBool refused (Is 2 usage status text) (OnBuilt meaning contents status text)
      → HasMeaning words contents status text
  meant refused contents e h = record {
    meaning = meaning;
    means = means;
    on_meaning = subst (λ (b : Bool). MatchBool b (Is 2 usage status text) (OnBuilt meaning contents status text)) (sym e) h;
  }

  plainly : (P : Contents → Type 0) → ((contents : Contents) → P contents → HasMeaning words contents status text) → Over told P → now ≡ before → Obtains words told before now status text
  plainly P f over quiet = own (record { contents = over.contents; agrees = over.agrees; holds = f over.contents over.holds }) quiet

  -- whatever the files hold
  unread : ((contents : Contents) → HasMeaning words contents status text) → now ≡ before → Obtains words told before now status text
  unread f quiet = plainly (λ contents. Unit {0}) (λ contents h. f contents) (any_over told (λ contents. Unit {0}) (λ contents. tt)) quiet

  failed_at : reads_files meaning ≡ true → HasValues meaning → Rose before now → Fails (paths meaning) told status text → Obtains words told before now status text
  failed_at may values rose failed = inr (record {
    rose = rose;
    four = failed.is.done;
    names = record {
      contents = failed.reached.contents;
      agrees = failed.reached.agrees;
      fault = record { meaning = meaning; means = means; reads = may; values = values; path = failed.path; reached = failed.reached.holds; page = failed.is.page_is };
    };
  })

  over_paths : (Next : Following) → is_refused meaning ≡ false → is_built meaning ≡ true → HasValues meaning
      → ((contents : Contents) → OnPaths Next (paths meaning) contents status text → OnBuilt meaning contents status text)
      → OnNamedFiles Next (paths meaning) told before now status text → Obtains words told before now status text
  over_paths Next good built values make h = by_count (nat_le (length (paths meaning)) file_limit) refl h
    where
      on_paths : (few : Bool) (contents : Contents) → nat_le (length (paths meaning)) file_limit ≡ few
          → MatchBool few (OnFiles Next (paths meaning) contents status text) (Is 6 (many_text (length (paths meaning))) status text) → HasMeaning words contents status text
      on_paths few contents e x =
          meant false contents good
          (make contents
          (subst (λ (b : Bool). MatchBool b (OnFiles Next (paths meaning) contents status text) (Is 6 (many_text (length (paths meaning))) status text)) (sym e) x))

      by_count : (few : Bool) → nat_le (length (paths meaning)) file_limit ≡ few → Counted few Next (paths meaning) told before now status text → Obtains words told before now status text
      by_count true e (inl (quiet, over)) = plainly (λ contents. OnFiles Next (paths meaning) contents status text) (λ contents x. on_paths true contents e x) over quiet
      by_count true e (inr (rose, failed)) = failed_at (reads meaning good built e) values rose failed
      by_count false e (quiet, is) = unread (λ contents. on_paths false contents e is) quiet

module _ (words : List Bytes) (told : Option Contents) (before now status : ℕ) (text : Bytes) where
  asked_obtains : (asked : Asked) → Means words (asks asked) → is_refused (asks asked) ≡ false → OnAsk asked told before now status text → Obtains words told before now status text
  asked_obtains asked means good (inl (quiet, refuses)) =
      unread words (asks asked) told before now status text means
      (λ contents. meant words (asks asked) told before now status text means false contents good (inl refuses)) quiet
  asked_obtains asked means good (inr limited) =
      over_paths words (asks asked) told before now status text means (OnQuery asked.query limited.limits) good refl (record { limits = limited.limits; are = limited.are })
      (λ contents y. inr (record { limits = limited.limits; are = limited.are; on_paths = y })) limited.on_files

  good_obtains : (meaning : Meaning) → Means words meaning → is_refused meaning ≡ false → OnGoodRequest meaning told before now status text → Obtains words told before now status text
  good_obtains (asks asked) means good h = asked_obtains asked means good h
  good_obtains (checks files) means good h = over_paths words (checks files) told before now status text means OnChecked good refl tt (λ contents x. x) h
  good_obtains (gives_clauses files) means good h = over_paths words (gives_clauses files) told before now status text means OnClauses good refl tt (λ contents x. x) h
  good_obtains (exports files) means good (quiet, is) =
      unread words (exports files) told before now status text means (λ contents. meant words (exports files) told before now status text means false contents good is) quiet
  good_obtains (drills size) means good (quiet, is) =
      unread words (drills size) told before now status text means (λ contents. meant words (drills size) told before now status text means false contents good is) quiet

  request_obtains : (meaning : Meaning) → Means words meaning → (refused : Bool) → is_refused meaning ≡ refused → OnTest refused meaning told before now status text
      → Obtains words told before now status text
  request_obtains meaning means true e (quiet, is) =
      unread words meaning told before now status text means (λ contents. meant words meaning told before now status text means true contents e is) quiet
  request_obtains meaning means false e h = good_obtains meaning means e h

pub obtains : (words : List Bytes) (meaning : Meaning) (told : Option Contents) (before now : ℕ) → Means words meaning
    → (r : Replied) → IfOk r (λ reply. OnRequest meaning told before now reply.status reply.text) → IfOk r (λ reply. Obtains words told before now reply.status reply.text)
obtains words meaning told before now means (Ok reply) h = request_obtains words told before now reply.status reply.text meaning means (is_refused meaning) refl h
obtains words meaning told before now means (Err error) h = tt

pub obtains_usage : (words : List Bytes) (told : Option Contents) (count : ℕ) → (IsTaken words → ⊥)
    → (r : Replied) → IfOk r (λ reply. Is 2 usage reply.status reply.text) → IfOk r (λ reply. Obtains words told count count reply.status reply.text)
obtains_usage words told count none (Ok reply) is =
    let any = any_over told (λ contents. Unit {0}) (λ contents. tt) in
    inl (record { quiet = refl; gives = record { contents = any.contents; agrees = any.agrees; tool = inr (record { not_taken = none; is = is }) } })
obtains_usage words told count none (Err error) is = tt
