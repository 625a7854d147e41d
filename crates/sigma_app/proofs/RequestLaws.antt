-- What the words of a command line ask for.
use Rattle.std.proofs.Common.{◌≡◌, ◌∙◌, subst, refl, sym, ap, Bool, true, false, ◌&&◌, List, [], ◌∷◌, map, Option, Some, None, is_some, ℕ, pos, arith, inl, inr, ◌⊎◌, ◌||◌, codes, Result, Ok, Err, ◌≢◌}
use Rattle.std.specs.Str.{bytes_eq}
use Rattle.std.proofs.lemmas.Int.{ints}
use Rattle.std.proofs.lemmas.Slice.Eq.{bytes_eq-Decides}
use Rattle.std.specs.Prelude.{◌↔◌, IfSome, option_and_then, IfOk, IsErrAnd}
use Rattle.std.specs.Option.{option_map, option_map_or}
use Rattle.std.specs.Borrow.{Bor}
use Rattle.clap.specs.Values.{IsSignedIn, reading_of, same_text}
use Rattle.clap.specs.ValueTests.{accepts, is_signed_in}
use Rattle.clap.proofs.ValueTestLemmas.{accepts-Accepts}
use Rattle.std.specs.Str.Parse.{IsNumeral, starts_with_minus, without_leading_plus}
use Rattle.clap.specs.Walk.{arg_by_id, first_of, Row, Held, Text, nothing_held, walk, walked}
use Rattle.clap.specs.Simple.{App, Shape, built, entered, is_simple, matches_of}
use Rattle.clap.specs.Takes.{value_passes, is_given, built_takes, entered_passes, level_passes, takes, walk_passes}
use Rattle.clap.specs.declared.builder.value_parser.ValueParser.{ValueParser}
use Rattle.clap.specs.declared.builder.value_parser.ValueParser.TheVariants as vp
use Rattle.clap.proofs.OnLiterals.{clap_on_literals}
use Rattle.clap.proofs.WalkLemmas.{both, first_value-rows, raw_values-rows, list_any-map}
use Rattle.sigma_app.specs.Commands.{named, lent, modes, TakesModes, ask_app_by, files_app, drill_app, app, IsAppOf}
use Rattle.sigma_app.specs.declared.commands.CommandName.{CommandName}
use Rattle.sigma_app.specs.declared.commands.CommandName.TheVariants as command
use Rattle.sigma_app.specs.declared.requests.Request.{Request}
use Rattle.sigma_app.specs.declared.requests.WordsError.{WordsError}
use Rattle.sigma_app.specs.declared.requests.WordsError.TheVariants.{Usage, NoMemory}
use Rattle.sigma_app.specs.Requests.{NamesNone, Asked, HasOptions, IsUpTo, Meaning, meaning, is_taken, Means, IsTaken, meaning_of, ReadsWords, asks, checks, gives_clauses, exports, drills, asked_of, paths_of, meaning_by, TakesUsage}
use Rattle.sigma_app.proofs.ValueLaws.{Full, level_full, given_first, given_all, first_passes}
use Rattle.sigma_app.proofs.ParserLaws.{rows_after_same, level_passes_same}

pub ruleset rows_read = (first_value-rows, raw_values-rows)

-- ---- the words of the modes behind any references

-- the parser with its names behind other references
abbrev lent_again : ValueParser → ValueParser
lent_again vp.String = vp.String
lent_again vp.NonEmptyString = vp.NonEmptyString
lent_again vp.Bool = vp.Bool
lent_again vp.Boolish = vp.Boolish
lent_again vp.Falsey = vp.Falsey
lent_again (vp.Signed low high) = vp.Signed low high
lent_again (vp.Unsigned low high) = vp.Unsigned low high
lent_again vp.Float = vp.Float
lent_again vp.Char = vp.Char
lent_again (vp.Names names) = vp.Names (lent (map (λ s. lent s.now) names.now))
lent_again (vp.Values values) = vp.Values values

reads : (p : ValueParser) → reading_of (lent_again p) ≡ reading_of p
reads vp.String = refl
reads vp.NonEmptyString = refl
reads vp.Bool = refl
reads vp.Boolish = refl
reads vp.Falsey = refl
reads (vp.Signed low high) = refl
reads (vp.Unsigned low high) = refl
reads vp.Float = refl
reads vp.Char = refl
reads (vp.Names names) = refl
reads (vp.Values values) = refl

passes : (ignores : Bool) (p : ValueParser) (text : Text) → accepts ignores (lent_again p) text ≡ accepts ignores p text
passes ignores vp.String text = refl
passes ignores vp.NonEmptyString text = refl
passes ignores vp.Bool text = refl
passes ignores vp.Boolish text = refl
passes ignores vp.Falsey text = refl
passes ignores (vp.Signed low high) text = refl
passes ignores (vp.Unsigned low high) text = refl
passes ignores vp.Float text = refl
passes ignores vp.Char text = refl
passes ignores (vp.Names names) text = sym (list_any-map (λ (s : Bor Text). same_text ignores s.now text) (λ (s : Bor Text). lent s.now) names.now)
passes ignores (vp.Values values) text = refl

lent_texts : (names : List (Bor Text)) → map (λ s. lent s.now) names ≡ map lent (map (λ s. s.now) names)
lent_texts [] = refl
lent_texts (s ∷ names) = ap (λ (rest : List (Bor Text)). lent s.now ∷ rest) (lent_texts names)

modes_lent : (p : ValueParser) → TakesModes p → lent_again p ≡ modes
modes_lent p (names, is, texts) = ap lent_again is ∙ ap (λ (xs : List (Bor Text)). vp.Names (lent xs)) (lent_texts names.now ∙ ap (map lent) texts)

ask_matches : (p : ValueParser) → TakesModes p → (words : List Text) → matches_of (ask_app_by p) words ≡ matches_of (ask_app_by modes) words
ask_matches p is words =
    sym (rows_after_same lent_again reads passes (built (ask_app_by p)).top.rules [] words) ∙ ap (λ (q : ValueParser). matches_of (ask_app_by q) words) (modes_lent p is)

-- ---- a command without subcommands

leaf_takes : (s : Shape) (h : Held) (words : List Text) → built_takes (record { top = s; subs = [] }) h words ≡ level_passes s [] h words false
leaf_takes s h words = go (walk s.rules [] h words).stopped
  where
    go : (stop : Option (Text × List Text))
        → (entered_passes (record { top = s; subs = [] }) stop && level_passes s [] h words (is_some (entered (record { top = s; subs = [] }) stop))) ≡ level_passes s [] h words false
    go None = refl
    go (Some p) = refl

ask_level : (p : ValueParser) (words : List Text) → takes (ask_app_by p) words ≡ level_passes (built (ask_app_by p)).top [] nothing_held words false
unfolding clap_on_literals
ask_level p words = leaf_takes (built (ask_app_by p)).top nothing_held words

ask_takes : (p : ValueParser) → TakesModes p → (words : List Text) → takes (ask_app_by p) words ≡ takes (ask_app_by modes) words
ask_takes p is words =
    ask_level p words ∙ sym (level_passes_same lent_again reads passes (built (ask_app_by p)).top [] nothing_held words false)
    ∙ sym (ask_level (lent_again p) words) ∙ ap (λ (q : ValueParser). takes (ask_app_by q) words) (modes_lent p is)

-- ---- the command that the code builds

pub app_matches : (name : CommandName) (a : App) (words : List Text) → IsAppOf name a → matches_of a words ≡ matches_of (app name) words
app_matches command.Ask a words (p, is, e) = ap (λ (b : App). matches_of b words) e ∙ ask_matches p is words
app_matches command.Check a words e = ap (λ (b : App). matches_of b words) e
app_matches command.Clauses a words e = ap (λ (b : App). matches_of b words) e
app_matches command.Export a words e = ap (λ (b : App). matches_of b words) e
app_matches command.Drill a words e = ap (λ (b : App). matches_of b words) e

pub app_takes : (name : CommandName) (a : App) (words : List Text) → IsAppOf name a → takes a words ≡ takes (app name) words
app_takes command.Ask a words (p, is, e) = ap (λ (b : App). takes b words) e ∙ ask_takes p is words
app_takes command.Check a words e = ap (λ (b : App). takes b words) e
app_takes command.Clauses a words e = ap (λ (b : App). takes b words) e
app_takes command.Export a words e = ap (λ (b : App). takes b words) e
app_takes command.Drill a words e = ap (λ (b : App). takes b words) e

pub app_simple : (name : CommandName) (a : App) → IsAppOf name a → is_simple a ≡ true
unfolding clap_on_literals
app_simple command.Ask a (p, is, e) = ap is_simple e
app_simple command.Check a e = ap is_simple e
app_simple command.Clauses a e = ap is_simple e
app_simple command.Export a e = ap is_simple e
app_simple command.Drill a e = ap is_simple e

-- ---- what is taken has values

some_map : {X Y : Type 0} (f : X → Y) (o : Option X) → is_some o ≡ true → is_some (option_map f o) ≡ true
some_map f None e = e
some_map f (Some x) e = refl

some_pair : {X Y Z : Type 0} (f : X → Y → Z) (o : Option X) (p : Option Y) → is_some o ≡ true → is_some p ≡ true → is_some (option_and_then (λ x. option_map (f x) p) o) ≡ true
some_pair f None p e g = e
some_pair f (Some x) p e g = some_map (f x) p g

-- the values that the argument of an id takes
abbrev passes_in : App → Text → Text → Bool
passes_in a id v = option_map_or (λ r. value_passes r v) (arg_by_id (built a).top.rules id) true

ask_full : (words : List Text) → takes (ask_app_by modes) words ≡ true
    → Full (passes_in (ask_app_by modes)) (matches_of (ask_app_by modes) words)
    × ((is_given (codes "query") (matches_of (ask_app_by modes) words) && (is_given (codes "files") (matches_of (ask_app_by modes) words) && true)) ≡ true)
unfolding clap_on_literals
ask_full words e =
    level_full (passes_in (ask_app_by modes)) (built (ask_app_by modes)).top words
    ((omega arith, λ v g. g), ((omega arith, λ v g. g), ((omega arith, λ v g. g), ((omega arith, λ v g. g), ((omega arith, λ v g. g), ((omega arith, λ v g. g), tt))))))
    (sym (ask_level modes words) ∙ e)

drill_full : (words : List Text) → takes drill_app words ≡ true
    → Full (passes_in drill_app) (matches_of drill_app words) × ((is_given (codes "size") (matches_of drill_app words) && true) ≡ true)
unfolding clap_on_literals
drill_full words e =
    level_full (passes_in drill_app) (built drill_app).top words ((omega arith, λ v g. g), tt) (sym (leaf_takes (built drill_app).top nothing_held words) ∙ e)

files_taken : (name : Text) (words : List Text) → takes (files_app name) words ≡ true → is_some (paths_of (matches_of (files_app name) words)) ≡ true
unfolding clap_on_literals
files_taken name words e =
    let s = (built (files_app name)).top in
    let rows = matches_of (files_app name) words in
    let full = level_full (passes_in (files_app name)) s words ((omega arith, λ v g. g), tt) (sym (leaf_takes s nothing_held words) ∙ e) in
    given_all (codes "files") rows (both (is_given (codes "files") rows) true full.1).0

pub taken_means : (name : CommandName) (words : List Text) → takes (app name) words ≡ true → is_some (meaning_by name (matches_of (app name) words)) ≡ true
taken_means command.Ask words e =
    let rows = matches_of (ask_app_by modes) words in
    let full = ask_full words e in
    let query = both (is_given (codes "query") rows) (is_given (codes "files") rows && true) full.1 in
    let files = both (is_given (codes "files") rows) true query.1 in
    some_pair (λ q paths. asks (asked_of rows q paths)) _ _ (given_first (passes_in (ask_app_by modes)) (codes "query") rows full.0 query.0) (given_all (codes "files") rows files.0)
taken_means command.Check words e = some_map checks _ (files_taken (codes "check") words e)
taken_means command.Clauses words e = some_map gives_clauses _ (files_taken (codes "clauses") words e)
taken_means command.Export words e = some_map exports _ (files_taken (codes "export") words e)
taken_means command.Drill words e =
    let rows = matches_of drill_app words in
    let full = drill_full words e in
    some_map drills _ (given_first (passes_in drill_app) (codes "size") rows full.0 (both (is_given (codes "size") rows) true full.1).0)

-- ---- the options of words that are taken

if_passes : (ok : Text → Text → Bool) (id : Text) (rows : List Row) → Full ok rows → IfSome (first_of id rows) (λ v. ok id v ≡ true)
if_passes ok id rows full = go (first_of id rows) refl
  where
    go : (o : Option Text) → first_of id rows ≡ o → IfSome o (λ v. ok id v ≡ true)
    go None e = tt
    go (Some v) e = first_passes ok id rows v full e

-- ---- whole command lines

false_true : false ≡ true → ⊥
false_true e = cc

some_value : {X : Type 0} (o : Option X) → is_some o ≡ true → (x : X) × (o ≡ Some x)
some_value None e = absurd (false_true e)
some_value (Some x) e = (x, refl)

some_one : {X : Type 0} (o : Option X) (x y : X) → o ≡ Some x → o ≡ Some y → x ≡ y
some_one o x y e g = cc

-- words mean one thing at most
pub means_one : (words : List Text) (a b : Meaning) → Means words a → Means words b → a ≡ b
means_one words a b e g = some_one (meaning words) a b e g

-- words that name no command mean nothing
pub nothing_meant : (words : List Text) → NamesNone words → meaning words ≡ None
unfolding meaning
nothing_meant [] none = refl
nothing_meant (word ∷ rest) none = ap (λ o. option_and_then (λ name. meaning_by name (matches_of (app name) rest)) o) none

taken_by : (o : Option CommandName) (rest : List Text) → option_map_or (λ name. takes (app name) rest) o false ≡ true
    → is_some (option_and_then (λ name. meaning_by name (matches_of (app name) rest)) o) ≡ true
taken_by None rest e = absurd (false_true e)
taken_by (Some name) rest e = taken_means name rest e

-- words that are taken mean something
pub taken_meaning : (words : List Text) → IsTaken words → (value : Meaning) × Means words value
unfolding meaning is_taken
taken_meaning [] e = absurd (false_true e)
taken_meaning (word ∷ rest) e = some_value _ (taken_by (named word) rest e)

pub none_taken : (words : List Text) → words ≡ [] → IsTaken words → ⊥
unfolding is_taken
none_taken words e taken = false_true (sym (ap is_taken e) ∙ taken)

pub unnamed_taken : (words rest : List Text) (word : Text) → words ≡ word ∷ rest → named word ≡ None → IsTaken words → ⊥
unfolding is_taken
unnamed_taken words rest word e none taken =
    false_true (sym (ap is_taken e ∙ ap (λ o. option_map_or (λ name. takes (app name) rest) o false) none) ∙ taken)

module _ (words rest : List Text) (word : Text) (name : CommandName) (e : words ≡ word ∷ rest) (called : named word ≡ Some name) where
  meaning_here : meaning words ≡ meaning_by name (matches_of (app name) rest)
  unfolding meaning
  meaning_here = ap meaning e ∙ ap (λ o. option_and_then (λ n. meaning_by n (matches_of (app n) rest)) o) called

  taken_here : is_taken words ≡ takes (app name) rest
  unfolding is_taken
  taken_here = ap is_taken e ∙ ap (λ o. option_map_or (λ n. takes (app n) rest) o false) called

  refused_as : (error : WordsError) → (error ≡ Usage → takes (app name) rest ≢ true) → ReadsWords words (Err error)
  refused_as Usage h = λ taken. h refl (sym taken_here ∙ taken)
  refused_as NoMemory h = tt

  -- a refusal by the parser, which is passed up
  pub refused_by : (error : WordsError) (r : Result Request WordsError) → IsErrAnd r (λ other. other ≡ error) → (error ≡ Usage → takes (app name) rest ≢ true) → ReadsWords words r
  refused_by error (Ok q) is h = absurd is
  refused_by error (Err other) is h = refused_as other (λ usage. h (sym is ∙ usage))

  -- a request by the rows that the parser gave
  pub read_by : (r : Result Request WordsError) (rows : List Row) → rows ≡ matches_of (app name) rest → IfOk r (λ q. meaning_by name rows ≡ Some (meaning_of q))
      → (r ≡ Err Usage → meaning_by name rows ≡ None) → ReadsWords words r
  read_by (Ok q) rows is found absent = meaning_here ∙ ap (meaning_by name) (sym is) ∙ found
  read_by (Err Usage) rows is found absent = λ taken.
      false_true (ap is_some (sym (absent refl) ∙ ap (meaning_by name) is) ∙ taken_means name rest (sym taken_here ∙ taken))
  read_by (Err NoMemory) rows is found absent = tt

-- ---- the words of the modes

pub two_modes : (word : Text) → (accepts false modes word ≡ true) ↔ ((word ≡ codes "support") ⊎ (word ≡ codes "full"))
two_modes word = (forth (bytes_eq (codes "support") word) (bytes_eq (codes "full") word) refl refl, back)
  where
    forth : (a b : Bool) → bytes_eq (codes "support") word ≡ a → bytes_eq (codes "full") word ≡ b → (a || (b || false)) ≡ true → (word ≡ codes "support") ⊎ (word ≡ codes "full")
    forth true b e g h = inl (sym ((bytes_eq-Decides (codes "support") word).0 e))
    forth false true e g h = inr (sym ((bytes_eq-Decides (codes "full") word).0 g))
    forth false false e g h = absurd (false_true h)

    back : (word ≡ codes "support") ⊎ (word ≡ codes "full") → accepts false modes word ≡ true
    back (inl is) = ap (accepts false modes) is
    back (inr is) = ap (accepts false modes) is

-- ---- the options of taken words

asked_in : Asked → Option Meaning → Asked
asked_in other None = other
asked_in other (Some (asks asked)) = asked
asked_in other (Some (checks files)) = other
asked_in other (Some (gives_clauses files)) = other
asked_in other (Some (exports files)) = other
asked_in other (Some (drills size)) = other

size_in : Text → Option Meaning → Text
size_in other None = other
size_in other (Some (asks asked)) = other
size_in other (Some (checks files)) = other
size_in other (Some (gives_clauses files)) = other
size_in other (Some (exports files)) = other
size_in other (Some (drills size)) = size

-- what a command line asks comes from the rows of `ask`
AskedFrom : CommandName → List Row → Asked → Type 0
AskedFrom name rows asked = (name ≡ command.Ask) × ((query : Text) × (paths : List Text) × (asked_of rows query paths ≡ asked))

ask_pair : (rows : List Row) (o : Option Text) (p : Option (List Text)) (asked : Asked) → option_and_then (λ query. option_map (λ paths. asks (asked_of rows query paths)) p) o ≡ Some (asks asked)
    → (query : Text) × (paths : List Text) × (asked_of rows query paths ≡ asked)
unfolding asked_in
ask_pair rows None p asked e = absurd (cc)
ask_pair rows (Some query) None asked e = absurd (cc)
ask_pair rows (Some query) (Some paths) asked e = (query, paths, ap (asked_in asked) e)

no_map : {X : Type 0} (f : X → Meaning) (asked : Asked) → ((x : X) → f x ≡ asks asked → ⊥) → (o : Option X) → option_map f o ≡ Some (asks asked) → ⊥
no_map f asked other None e = cc
no_map f asked other (Some x) e = let is : f x ≡ asks asked = cc in other x is

asked_from : (name : CommandName) (rows : List Row) (asked : Asked) → meaning_by name rows ≡ Some (asks asked) → AskedFrom name rows asked
unfolding AskedFrom
asked_from command.Ask rows asked e = (refl, ask_pair rows _ _ asked e)
asked_from command.Check rows asked e = absurd (no_map checks asked (λ x is. cc) _ e)
asked_from command.Clauses rows asked e = absurd (no_map gives_clauses asked (λ x is. cc) _ e)
asked_from command.Export rows asked e = absurd (no_map exports asked (λ x is. cc) _ e)
asked_from command.Drill rows asked e = absurd (no_map drills asked (λ x is. cc) _ e)

number_from : (most : ℕ) (text : Text) → is_signed_in (pos 1) (pos most) text ≡ true → IsUpTo most text
number_from most text e = go (starts_with_minus text) refl (accepts-Accepts false (vp.Signed (pos 1) (pos most)) text e)
  where
    go : (b : Bool) → starts_with_minus text ≡ b → IsSignedIn (pos 1) (pos most) text → IsUpTo most text
    go true minus passed =
        let low = rw minus at passed.2 in
        absurd (omega (arith, ints))
    go false minus passed =
        let low = rw minus at passed.2 in
        let high = rw minus at passed.3 in
        let numeral : IsNumeral 10 (without_leading_plus text) = rw minus at passed.0 in
        (numeral, omega (arith, ints), omega (arith, ints))

if_number : (most : ℕ) (o : Option Text) → IfSome o (λ v. is_signed_in (pos 1) (pos most) v ≡ true) → IfSome o (IsUpTo most)
if_number most None h = tt
if_number most (Some v) h = number_from most v h

if_mode : (o : Option Text) → IfSome o (λ v. passes_in (ask_app_by modes) (codes "mode") v ≡ true) → IfSome o (λ word. (word ≡ codes "support") ⊎ (word ≡ codes "full"))
if_mode None h = tt
if_mode (Some v) h = (two_modes v).0 h

ask_fits : (rest : List Text) (asked : Asked) (query : Text) (paths : List Text) → takes (ask_app_by modes) rest ≡ true
    → asked_of (matches_of (ask_app_by modes) rest) query paths ≡ asked → HasOptions asked
ask_fits rest asked query paths taken is =
    let rows = matches_of (ask_app_by modes) rest in
    let ok = passes_in (ask_app_by modes) in
    let full = (ask_full rest taken).0 in
    subst (λ (a : Asked). HasOptions a) is (record {
      turns = if_number 100000 (first_of (codes "turns") rows) (if_passes ok (codes "turns") rows full);
      answers = if_number 1000 (first_of (codes "answers") rows) (if_passes ok (codes "answers") rows full);
      kept = if_number 200000 (first_of (codes "kept") rows) (if_passes ok (codes "kept") rows full);
      mode = if_mode (first_of (codes "mode") rows) (if_passes ok (codes "mode") rows full);
    })

named_fits : (name : CommandName) (rest : List Text) (asked : Asked) → takes (app name) rest ≡ true → AskedFrom name (matches_of (app name) rest) asked → HasOptions asked
unfolding AskedFrom
named_fits command.Ask rest asked taken from = ask_fits rest asked from.1.0 from.1.1 taken from.1.2
named_fits command.Check rest asked taken from = let other = from.0 in absurd (cc)
named_fits command.Clauses rest asked taken from = let other = from.0 in absurd (cc)
named_fits command.Export rest asked taken from = let other = from.0 in absurd (cc)
named_fits command.Drill rest asked taken from = let other = from.0 in absurd (cc)

options_by : (o : Option CommandName) (rest : List Text) (asked : Asked) → option_map_or (λ name. takes (app name) rest) o false ≡ true
    → option_and_then (λ name. meaning_by name (matches_of (app name) rest)) o ≡ Some (asks asked) → HasOptions asked
options_by None rest asked taken means = absurd (false_true taken)
options_by (Some name) rest asked taken means = named_fits name rest asked taken (asked_from name (matches_of (app name) rest) asked means)

-- the options of words that are taken
pub options_fit : (words : List Text) (asked : Asked) → IsTaken words → Means words (asks asked) → HasOptions asked
unfolding meaning is_taken
options_fit [] asked taken means = absurd (false_true taken)
options_fit (word ∷ rest) asked taken means = options_by (named word) rest asked taken means

-- ---- the size of a drill

size_map : (o : Option Text) (size : Text) → option_map drills o ≡ Some (drills size) → o ≡ Some size
unfolding size_in
size_map None size e = absurd (cc)
size_map (Some x) size e = ap (λ m. Some (size_in x m)) e

no_size : (rows : List Row) (o : Option Text) (p : Option (List Text)) (size : Text) → option_and_then (λ query. option_map (λ paths. asks (asked_of rows query paths)) p) o ≡ Some (drills size) → ⊥
no_size rows None p size e = cc
no_size rows (Some query) None size e = cc
no_size rows (Some query) (Some paths) size e = cc

no_files_size : (f : List Text → Meaning) (size : Text) → ((x : List Text) → f x ≡ drills size → ⊥) → (o : Option (List Text)) → option_map f o ≡ Some (drills size) → ⊥
no_files_size f size other None e = cc
no_files_size f size other (Some x) e = let is : f x ≡ drills size = cc in other x is

named_size : (name : CommandName) (rest : List Text) (size : Text) → takes (app name) rest ≡ true → meaning_by name (matches_of (app name) rest) ≡ Some (drills size) → IsUpTo 2000 size
named_size command.Ask rest size taken e = absurd (no_size (matches_of (ask_app_by modes) rest) _ _ size e)
named_size command.Check rest size taken e = absurd (no_files_size checks size (λ x is. cc) _ e)
named_size command.Clauses rest size taken e = absurd (no_files_size gives_clauses size (λ x is. cc) _ e)
named_size command.Export rest size taken e = absurd (no_files_size exports size (λ x is. cc) _ e)
named_size command.Drill rest size taken e =
    number_from 2000 size (first_passes (passes_in drill_app) (codes "size") (matches_of drill_app rest) size (drill_full rest taken).0 (size_map _ size e))

sizes_by : (o : Option CommandName) (rest : List Text) (size : Text) → option_map_or (λ name. takes (app name) rest) o false ≡ true
    → option_and_then (λ name. meaning_by name (matches_of (app name) rest)) o ≡ Some (drills size) → IsUpTo 2000 size
sizes_by None rest size taken means = absurd (false_true taken)
sizes_by (Some name) rest size taken means = named_size name rest size taken means

-- the size of a drill whose words are taken
pub sizes_fit : (words : List Text) (size : Text) → IsTaken words → Means words (drills size) → IsUpTo 2000 size
unfolding meaning is_taken
sizes_fit [] size taken means = absurd (false_true taken)
sizes_fit (word ∷ rest) size taken means = sizes_by (named word) rest size taken means

-- ---- words that are taken

pub usage_taken : TakesUsage
unfolding is_taken walk_passes walked
usage_taken = (refl, (refl, (refl, (refl, (refl, (refl, tt))))))
