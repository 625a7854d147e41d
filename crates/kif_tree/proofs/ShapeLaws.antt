-- What the functions of `Shape` give at each kind of form, and what walks over tokens end with.
use Rattle.std.proofs.Common.{◌≡◌, ℕ, ◌+◌, ◌<◌, ◌≤◌, sum, List, [], ◌∷◌, ◌++◌, map, take, drop, length, get_or, arith, Bool, true, false, if◌then◌else◌, refl, sym, ap, ap₂, ◌∙◌, subst}
use Rattle.std.proofs.Math.ListN.{drop_of_length-le}
use Rattle.std.specs.Prelude.{Result, Ok, Err, Some, option_map}
use Rattle.std.specs.Result.{result_err}
use Rattle.std.specs.List.{list_any}
use Rattle.std.proofs.lemmas.List.{map-append, drop_more}
use Rattle.std.proofs.lemmas.List.Sums.{sum_by-cons}
use Rattle.std.specs.Str.{bytes_eq}
use Rattle.sigma_base.specs.Lists.{Each, each_append, each_map, list_any-map, map_twice}
use Rattle.kif_tree.specs.declared.form.Form.{Form, para-Form, para-roll-Form}
use Rattle.kif_tree.specs.declared.form.Form.TheVariants as form
use Rattle.kif_tree.specs.declared.form.Form.TheOpen.{Form-F}
use Rattle.kif_tree.specs.Terms.{Bytes}
use Rattle.kif_tree.specs.FormLaws.{induction, fold-Word, fold-Variable, fold-Row, fold-Numeral, fold-Quoted, fold-List}
use Rattle.kif_tree.proofs.TermLaws.{sum_more}
use Rattle.kif_tree.specs.Shape.{token_count, token_count_step, tokens_of, has_word, has_word_step, Part, as_part, tested, fault_if, faults_from, faults_step, shape_faults, is_misshapen, capped, reached, walked, walked_part, is_list, is_quantifier, is_quantifier_layer, is_empty_list, with_names, as_names, as_top, forms_faults, first_of, first_forms_fault}

-- ---- tokens

pub token_count-Word : (text : Bytes) → token_count (form.Word text) ≡ 1
unfolding token_count
token_count-Word = fold-Word ℕ token_count_step

pub token_count-Variable : (text : Bytes) → token_count (form.Variable text) ≡ 1
unfolding token_count
token_count-Variable = fold-Variable ℕ token_count_step

pub token_count-Row : (text : Bytes) → token_count (form.Row text) ≡ 1
unfolding token_count
token_count-Row = fold-Row ℕ token_count_step

pub token_count-Numeral : (text : Bytes) → token_count (form.Numeral text) ≡ 1
unfolding token_count
token_count-Numeral = fold-Numeral ℕ token_count_step

pub token_count-Quoted : (text : Bytes) → token_count (form.Quoted text) ≡ 1
unfolding token_count
token_count-Quoted = fold-Quoted ℕ token_count_step

sum_tokens : (forms : List Form) → sum (map token_count forms) ≡ tokens_of forms
sum_tokens [] = refl
sum_tokens (f ∷ fs) = sum_by-cons (λ x. x) (token_count f) (map token_count fs) ∙ ap (λ n. token_count f + n) (sum_tokens fs)

pub token_count-List : (parts : List Form) → token_count (form.List parts) ≡ tokens_of parts + 2
unfolding token_count
token_count-List parts = fold-List ℕ token_count_step parts ∙ ap (λ n. n + 2) (sum_tokens parts)

pub token_count_other : (f : Form) → ((parts : List Form) → f ≡ form.List parts → ⊥) → token_count f ≡ 1
token_count_other = induction (λ f. ((parts : List Form) → f ≡ form.List parts → ⊥) → token_count f ≡ 1) (record {
  word = λ text _. token_count-Word text;
  variable = λ text _. token_count-Variable text;
  row = λ text _. token_count-Row text;
  numeral = λ text _. token_count-Numeral text;
  quoted = λ text _. token_count-Quoted text;
  list = λ parts each other. absurd (other parts refl);
})

pub ruleset token_count_laws = (token_count-List, token_count_other)

-- ---- words

pub has_word-Word : (name text : Bytes) → has_word name (form.Word text) ≡ bytes_eq name text
unfolding has_word
has_word-Word name = fold-Word Bool (has_word_step name)

pub has_word-List : (name : Bytes) (parts : List Form) → has_word name (form.List parts) ≡ list_any (has_word name) parts
unfolding has_word
has_word-List name parts = fold-List Bool (has_word_step name) parts ∙ list_any-map (λ b. b) (has_word name) parts

pub has_word_other : (name : Bytes) (f : Form) → ((text : Bytes) → f ≡ form.Word text → ⊥) → ((parts : List Form) → f ≡ form.List parts → ⊥) → has_word name f ≡ false
unfolding has_word
has_word_other name = induction (λ f. ((text : Bytes) → f ≡ form.Word text → ⊥) → ((parts : List Form) → f ≡ form.List parts → ⊥) → has_word name f ≡ false) (record {
  word = λ text other _. absurd (other text refl);
  variable = λ text _ _. fold-Variable Bool (has_word_step name) text;
  row = λ text _ _. fold-Row Bool (has_word_step name) text;
  numeral = λ text _ _. fold-Numeral Bool (has_word_step name) text;
  quoted = λ text _ _. fold-Quoted Bool (has_word_step name) text;
  list = λ parts each _ other. absurd (other parts refl);
})

pub ruleset has_word_laws = (has_word-Word, has_word-List, has_word_other)

-- ---- faults

forms_of : (parts : List Form) → map (λ (part : Part). part.0) (map as_part parts) ≡ parts
forms_of [] = refl
forms_of (f ∷ parts) = ap (λ fs. f ∷ fs) (forms_of parts)

-- a list's own fault, and then those of its parts
pub faults-List : (parts : List Form) → shape_faults (form.List parts) ≡ fault_if (is_misshapen parts) ++ faults_from 1 (tested (map as_part parts))
unfolding shape_faults
faults-List parts =
    ap (para-Form (List ℕ) faults_step) (sym (form.rolls-List parts))
    ∙ para-roll-Form (List ℕ) faults_step (Form-F.List parts)
    ∙ ap (λ fs. fault_if (is_misshapen fs) ++ faults_from 1 (tested (map as_part parts))) (forms_of parts)

faults-Word : (text : Bytes) → shape_faults (form.Word text) ≡ []
unfolding shape_faults
faults-Word text = ap (para-Form (List ℕ) faults_step) (sym (form.rolls-Word text)) ∙ para-roll-Form (List ℕ) faults_step (Form-F.Word text)

faults-Variable : (text : Bytes) → shape_faults (form.Variable text) ≡ []
unfolding shape_faults
faults-Variable text = ap (para-Form (List ℕ) faults_step) (sym (form.rolls-Variable text)) ∙ para-roll-Form (List ℕ) faults_step (Form-F.Variable text)

faults-Row : (text : Bytes) → shape_faults (form.Row text) ≡ []
unfolding shape_faults
faults-Row text = ap (para-Form (List ℕ) faults_step) (sym (form.rolls-Row text)) ∙ para-roll-Form (List ℕ) faults_step (Form-F.Row text)

faults-Numeral : (text : Bytes) → shape_faults (form.Numeral text) ≡ []
unfolding shape_faults
faults-Numeral text = ap (para-Form (List ℕ) faults_step) (sym (form.rolls-Numeral text)) ∙ para-roll-Form (List ℕ) faults_step (Form-F.Numeral text)

faults-Quoted : (text : Bytes) → shape_faults (form.Quoted text) ≡ []
unfolding shape_faults
faults-Quoted text = ap (para-Form (List ℕ) faults_step) (sym (form.rolls-Quoted text)) ∙ para-roll-Form (List ℕ) faults_step (Form-F.Quoted text)

pub faults_other : (f : Form) → ((parts : List Form) → f ≡ form.List parts → ⊥) → shape_faults f ≡ []
faults_other = induction (λ f. ((parts : List Form) → f ≡ form.List parts → ⊥) → shape_faults f ≡ []) (record {
  word = λ text _. faults-Word text;
  variable = λ text _. faults-Variable text;
  row = λ text _. faults-Row text;
  numeral = λ text _. faults-Numeral text;
  quoted = λ text _. faults-Quoted text;
  list = λ parts each other. absurd (other parts refl);
})

-- ---- walks

-- past a part without faults
walked_past : (start : ℕ) (f : Form) (parts : List Part) → walked start ((f, []) ∷ parts) ≡ walked (start + token_count f) parts
walked_past start f parts = ap (λ next. reached next (faults_from (start + token_count f) parts)) (omega arith)

-- numbers of the code end somewhere, and what lies beyond doesn't count
pub walked_alike : (s t : ℕ) (parts : List Part) → capped s ≡ capped t → walked s parts ≡ walked t parts
walked_alike s t [] e = ap Ok (omega (arith, e))
walked_alike s t ((f, []) ∷ parts) e = walked_past s f parts ∙ walked_alike (s + token_count f) (t + token_count f) parts (omega (arith, e)) ∙ sym (walked_past t f parts)
walked_alike s t ((f, at ∷ faults) ∷ parts) e = ap Err (omega (arith, e))

abbrev pub onward : Result ℕ ℕ → List Part → Result ℕ ℕ
onward (Ok next) parts = walked next parts
onward (Err at) parts = Err at

-- a walk over parts goes over the first and then over the rest
pub walked_first : (start : ℕ) (part : Part) (parts : List Part) → walked start (part ∷ parts) ≡ onward (walked_part start part) parts
walked_first start (f, []) parts = walked_past start f parts ∙ walked_alike (start + token_count f) (capped (start + token_count f)) parts (omega arith)
walked_first start (f, at ∷ faults) parts = refl

-- at the item of a loop
pub tokens_more : (forms : List Form) (i : ℕ) (f : Form) → i < length forms → f ≡ get_or forms i f → tokens_of (take (i + 1) forms) ≡ tokens_of (take i forms) + token_count f
tokens_more forms i f lt is = sym (sum_tokens (take (i + 1) forms)) ∙ sum_more token_count forms i f lt is ∙ ap (λ n. n + token_count f) (sum_tokens (take i forms))

-- ---- the walk of each function

pub walked_leaf : (start : ℕ) (f : Form) → ((parts : List Form) → f ≡ form.List parts → ⊥) → walked_part start (as_part f) ≡ Ok (capped (start + 1))
walked_leaf start f other = ap₂ (λ count faults. reached (start + count) (map (λ at. start + at) faults)) (token_count_other f other) (faults_other f other)

pub walked_misshapen : (start : ℕ) (f : Form) (parts : List Form) → f ≡ form.List parts → is_misshapen parts ≡ true → start ≤ 18446744073709551615 → walked_part start (as_part f) ≡ Err start
walked_misshapen start f parts e bad most =
    ap (λ g. walked_part start (as_part g)) e
    ∙ ap (λ faults. reached (start + token_count (form.List parts)) (map (λ at. start + at) faults)) (faults-List parts)
    ∙ ap (λ b. reached (start + token_count (form.List parts)) (map (λ at. start + at) (fault_if b ++ faults_from 1 (tested (map as_part parts))))) bad
    ∙ ap Err (omega (arith, most))

faults_moved : (start from : ℕ) (parts : List Part) → map (λ at. start + at) (faults_from from parts) ≡ faults_from (start + from) parts
faults_moved start from [] = refl
faults_moved start from (part ∷ parts) =
    map-append (λ at. start + at) (map (λ at. from + at) part.1) (faults_from (from + token_count part.0) parts)
    ∙ ap₂ ◌++◌ (sym (map_twice (λ at. from + at) (λ at. start + at) part.1) ∙ map_alike part.1)
    (faults_moved start (from + token_count part.0) parts ∙ ap (λ n. faults_from n parts) (omega arith))
  where
    map_alike : (faults : List ℕ) → map (λ at. start + (from + at)) faults ≡ map (λ at. start + from + at) faults
    map_alike [] = refl
    map_alike (at ∷ faults) = ap₂ ◌∷◌ (omega arith) (map_alike faults)

with_names_forms : (parts : List Form) → map (λ (part : Part). part.0) (with_names (map as_part parts)) ≡ parts
with_names_forms [] = refl
with_names_forms (names ∷ parts) = ap (λ fs. names ∷ fs) (forms_of parts)

tested_forms : (parts : List Form) → map (λ (part : Part). part.0) (tested (map as_part parts)) ≡ parts
tested_forms [] = refl
tested_forms (head ∷ parts) = ap (λ fs. head ∷ fs) (go (is_quantifier head))
  where
    go : (b : Bool) → map (λ (part : Part). part.0) (if b then with_names (map as_part parts) else map as_part parts) ≡ parts
    go true = with_names_forms parts
    go false = forms_of parts

-- after the bracket that closes the list
abbrev pub closed : Result ℕ ℕ → Result ℕ ℕ
closed (Ok next) = Ok (capped (next + 1))
closed (Err at) = Err at

reached_closed : (next : ℕ) (faults : List ℕ) → reached (next + 1) faults ≡ closed (reached next faults)
reached_closed next [] = ap Ok (omega arith)
reached_closed next (at ∷ faults) = refl

pub walked_list : (start : ℕ) (f : Form) (parts : List Form) → f ≡ form.List parts → is_misshapen parts ≡ false → walked_part start (as_part f) ≡ closed (walked (capped (start + 1)) (tested (map as_part parts)))
walked_list start f parts e good =
    let ps : List Part = tested (map as_part parts) in
    ap (λ g. walked_part start (as_part g)) e
    ∙ ap₂ (λ count faults. reached (start + count) (map (λ at. start + at) faults)) (token_count-List parts) (faults-List parts ∙ ap (λ b. fault_if b ++ faults_from 1 ps) good)
    ∙ ap₂ (λ next faults. reached next faults) (ap (λ fs. start + (tokens_of fs + 2)) (sym (tested_forms parts)) ∙ omega arith) (faults_moved start 1 ps)
    ∙ reached_closed (start + 1 + tokens_of (map (λ (part : Part). part.0) ps)) (faults_from (start + 1) ps)
    ∙ ap closed (walked_alike (start + 1) (capped (start + 1)) ps (omega arith))

pub tested_short : (parts : List Form) → length parts < 2 → tested (map as_part parts) ≡ map as_part parts
tested_short [] h = refl
tested_short (head ∷ []) h = ap (λ ps. as_part head ∷ ps) (go (is_quantifier head))
  where
    go : (b : Bool) → (if b then with_names [] else []) ≡ []
    go true = refl
    go false = refl
tested_short (head ∷ names ∷ parts) h = absurd (omega arith)

pub tested_plain : (head : Form) (parts : List Form) → is_quantifier head ≡ false → tested (map as_part (head ∷ parts)) ≡ map as_part (head ∷ parts)
tested_plain head parts plain = ap (λ b. as_part head ∷ (if b then with_names (map as_part parts) else map as_part parts)) plain

-- the parts of a quantifier
pub walked_quantifier : (start : ℕ) (head names : Form) (parts : List Form) → is_quantifier head ≡ true
    → walked start (tested (map as_part (head ∷ names ∷ parts))) ≡ onward (walked_part (capped (start + 1)) (as_names names)) (map as_part parts)
walked_quantifier start head names parts binds =
    ap (λ b. walked start (as_part head ∷ (if b then as_names names ∷ map as_part parts else map as_part (names ∷ parts)))) binds
    ∙ walked_first start (as_part head) (as_names names ∷ map as_part parts)
    ∙ ap (λ ended. onward ended (as_names names ∷ map as_part parts)) (walked_leaf start head (λ list is. false_true (sym (ap is_quantifier is ∙ ap is_quantifier_layer (form.outs-List list)) ∙ binds)))
    ∙ walked_first (capped (start + 1)) (as_names names) (map as_part parts)
  where
    false_true : false ≡ true → ⊥
    false_true e = cc

-- ---- loops

pub walked_next : {X : Type 0} (f : X → Part) (xs : List X) (i : ℕ) (x : X) (next : ℕ) → i < length xs → x ≡ get_or xs i x
    → walked next (map f (drop i xs)) ≡ onward (walked_part next (f x)) (map f (drop (i + 1) xs))
walked_next f xs i x next lt is =
    ap (λ ys. walked next (map f ys)) (drop_more xs i x lt)
    ∙ ap (λ y. walked next (f y ∷ map f (drop (i + 1) xs))) (sym is)
    ∙ walked_first next (f x) (map f (drop (i + 1) xs))

pub walked_end : {X : Type 0} (f : X → Part) (xs : List X) (i : ℕ) (next : ℕ) → length xs ≤ i → next ≤ 18446744073709551615 → walked next (map f (drop i xs)) ≡ Ok next
walked_end f xs i next all most = ap (λ ys. walked next (map f ys)) (drop_of_length-le xs all) ∙ ap Ok (omega (arith, most))

-- ---- each fault is at a token of the form

abbrev Below : ℕ → List ℕ → Type 0
Below count faults = Each (λ at. at < count) faults

abbrev Inside : Part → Type 0
Inside part = Below (token_count part.0) part.1

some_tokens : (f : Form) → 1 ≤ token_count f
some_tokens = induction (λ f. 1 ≤ token_count f) (record {
  word = λ text. omega (arith, token_count-Word text);
  variable = λ text. omega (arith, token_count-Variable text);
  row = λ text. omega (arith, token_count-Row text);
  numeral = λ text. omega (arith, token_count-Numeral text);
  quoted = λ text. omega (arith, token_count-Quoted text);
  list = λ parts each. omega (arith, token_count-List parts);
})

fault_if_below : (count : ℕ) (b : Bool) → 1 ≤ count → Below count (fault_if b)
fault_if_below count true some = (omega (arith, some), tt)
fault_if_below count false some = tt

moved_below : (start count : ℕ) (faults : List ℕ) → Below count faults → Below (start + count) (map (λ at. start + at) faults)
moved_below start count [] below = tt
moved_below start count (at ∷ faults) below = (omega (arith, below.0), moved_below start count faults below.1)

from_below : (start : ℕ) (parts : List Part) → Each Inside parts → Below (start + tokens_of (map (λ (part : Part). part.0) parts)) (faults_from start parts)
from_below start [] each = tt
from_below start (part ∷ parts) each =
    let rest : ℕ = tokens_of (map (λ (p : Part). p.0) parts) in
    each_append (λ at. at < start + (token_count part.0 + rest)) (map (λ at. start + at) part.1) (faults_from (start + token_count part.0) parts)
    (each_map (λ at. at < start + token_count part.0) (λ at. at < start + (token_count part.0 + rest)) (λ at lt. omega (arith, lt)) (map (λ at. start + at) part.1) (moved_below start (token_count part.0) part.1 each.0))
    (each_map (λ at. at < start + token_count part.0 + rest) (λ at. at < start + (token_count part.0 + rest)) (λ at lt. omega (arith, lt)) (faults_from (start + token_count part.0) parts) (from_below (start + token_count part.0) parts each.1))

each_part : (parts : List Form) → Each (λ f. Inside (as_part f)) parts → Each Inside (map as_part parts)
each_part [] each = tt
each_part (f ∷ parts) each = (each.0, each_part parts each.1)

each_with_names : (parts : List Form) → Each (λ f. Inside (as_part f)) parts → Each Inside (with_names (map as_part parts))
each_with_names [] each = tt
each_with_names (names ∷ parts) each = (fault_if_below (token_count names) (is_empty_list names) (some_tokens names), each_part parts each.1)

each_tested : (parts : List Form) → Each (λ f. Inside (as_part f)) parts → Each Inside (tested (map as_part parts))
each_tested [] each = tt
each_tested (head ∷ parts) each = (each.0, go (is_quantifier head))
  where
    go : (b : Bool) → Each Inside (if b then with_names (map as_part parts) else map as_part parts)
    go true = each_with_names parts each.1
    go false = each_part parts each.1

list_inside : (parts : List Form) → Each (λ f. Inside (as_part f)) parts → Inside (as_part (form.List parts))
list_inside parts each =
    let ps : List Part = tested (map as_part parts) in
    let own : Below (tokens_of parts + 2) (fault_if (is_misshapen parts)) = fault_if_below (tokens_of parts + 2) (is_misshapen parts) (omega arith) in
    let inner : Below (tokens_of parts + 2) (faults_from 1 ps) =
    each_map (λ at. at < 1 + tokens_of (map (λ (part : Part). part.0) ps)) (λ at. at < tokens_of parts + 2) (λ at lt. omega (arith, lt, ap tokens_of (tested_forms parts))) (faults_from 1 ps) (from_below 1 ps (each_tested parts each)) in
    let all : Below (tokens_of parts + 2) (fault_if (is_misshapen parts) ++ faults_from 1 ps) =
    each_append (λ at. at < tokens_of parts + 2) (fault_if (is_misshapen parts)) (faults_from 1 ps) own inner in
    subst (λ count. Below count (shape_faults (form.List parts))) (sym (token_count-List parts)) (subst (Below (tokens_of parts + 2)) (sym (faults-List parts)) all)

leaf_inside : (f : Form) → shape_faults f ≡ [] → Inside (as_part f)
leaf_inside f none = subst (Below (token_count f)) (sym none) tt

pub faults_inside : (f : Form) → Each (λ at. at < token_count f) (shape_faults f)
faults_inside = induction (λ f. Inside (as_part f)) (record {
  word = λ text. leaf_inside (form.Word text) (faults-Word text);
  variable = λ text. leaf_inside (form.Variable text) (faults-Variable text);
  row = λ text. leaf_inside (form.Row text) (faults-Row text);
  numeral = λ text. leaf_inside (form.Numeral text) (faults-Numeral text);
  quoted = λ text. leaf_inside (form.Quoted text) (faults-Quoted text);
  list = list_inside;
})

top_inside : (f : Form) → Inside (as_top f)
top_inside f = go (is_list f)
  where
    go : (b : Bool) → Below (token_count f) (if b then shape_faults f else 0 ∷ [])
    go true = faults_inside f
    go false = (some_tokens f, tt)

each_top : (forms : List Form) → Each Inside (map as_top forms)
each_top [] = tt
each_top (f ∷ forms) = (top_inside f, each_top forms)

top_forms : (forms : List Form) → map (λ (part : Part). part.0) (map as_top forms) ≡ forms
top_forms [] = refl
top_forms (f ∷ forms) = ap (λ fs. f ∷ fs) (top_forms forms)

pub forms_below : (forms : List Form) → Each (λ at. at < tokens_of forms) (forms_faults forms)
forms_below forms =
    let all = subst (λ fs. Below (0 + tokens_of fs) (forms_faults forms)) (top_forms forms) (from_below 0 (map as_top forms) (each_top forms)) in
    each_map (λ at. at < 0 + tokens_of forms) (λ at. at < tokens_of forms) (λ at lt. omega (arith, lt)) (forms_faults forms) all

-- a walk over all forms tells their first fault
told : (next : ℕ) (faults : List ℕ) → result_err (reached next faults) ≡ option_map capped (first_of faults)
told next [] = refl
told next (at ∷ faults) = refl

pub forms_told : (forms : List Form) → result_err (walked 0 (map as_top forms)) ≡ option_map capped (first_forms_fault forms)
forms_told forms = told (0 + tokens_of (map (λ (part : Part). part.0) (map as_top forms))) (forms_faults forms)

uncapped : (count : ℕ) (faults : List ℕ) → Below count faults → count ≤ 18446744073709551615 → option_map capped (first_of faults) ≡ first_of faults
uncapped count [] below most = refl
uncapped count (at ∷ faults) below most = ap Some (omega (arith, below.0, most))

-- and tells it exactly where the tokens can be numbered
pub told_exactly : (forms : List Form) → tokens_of forms ≤ 18446744073709551615 → option_map capped (first_forms_fault forms) ≡ first_forms_fault forms
told_exactly forms most = uncapped (tokens_of forms) (forms_faults forms) (forms_below forms) most
