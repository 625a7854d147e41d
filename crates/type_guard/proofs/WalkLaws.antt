-- Occurrences as the walk adds them.
use Rattle.std.proofs.Common.{◌≡◌, ℕ, ◌+◌, ◌<◌, ◌≤◌, List, [], ◌∷◌, ◌++◌, map, filter, take, length, get_or, Bool, true, false, ◌&&◌, if◌then◌else◌, refl, sym, ap, ap₂, ◌∙◌, append_assoc, arith}
use Rattle.std.specs.List.{flat_map}
use Rattle.std.proofs.lemmas.Grind.{flat_map-append}
use Rattle.std.proofs.lemmas.List.{append-nil, length-take}
use Rattle.std.proofs.lemmas.List.Elements.{filter-append}
use Rattle.kif_tree.specs.declared.form.Form.{Form, out-Form}
use Rattle.kif_tree.specs.declared.form.Form.TheVariants as form
use Rattle.kif_tree.specs.Terms.{Bytes}
use Rattle.kif_tree.specs.Names.{bound, is_other}
use Rattle.kif_tree.specs.Profile.{operands, is_variable_layer}
use Rattle.kif_tree.specs.FormLaws.{induction}
use Rattle.kif_tree.specs.NameLaws.{filter_both, filter_alike, beside_results}
use Rattle.type_guard.specs.Guards.{is_of}
use Rattle.type_guard.specs.OccurrenceLaws.{occurrences-List, occurrences_other}
use Rattle.type_guard.specs.Occurrences.{Occurrence, Part, occurrences, is_variable, of_parts, in_parts}
use Rattle.type_guard.specs.Reads.{with_occurrences, of_argument, of_arguments, under_head}
use Rattle.type_guard.proofs.WantedLaws.{has}
use Rattle.sigma_base.proofs.SliceLaws.{no_items}

pub found_none : (found : List Occurrence) (wanted : List Form) (f : Form) → ((parts : List Form) → f ≡ form.List parts → ⊥) → found ≡ found ++ filter (is_of wanted) (occurrences f)
found_none found wanted f no_list = sym (ap (λ (os : List Occurrence). found ++ filter (is_of wanted) os) (occurrences_other f no_list) ∙ append-nil found)

-- ---- a list

all_other : (os : List Occurrence) → filter (λ (occurrence : Occurrence). is_other [] occurrence.variable) os ≡ os
all_other [] = refl
all_other (o ∷ os) = ap (λ (more : List Occurrence). o ∷ more) (all_other os)

-- where it quantifies nothing
pub of_plain : (wanted parts names : List Form) → names ≡ bound parts → length names < 1 → filter (is_of wanted) (under_head parts) ≡ filter (is_of wanted) (occurrences (form.List parts))
of_plain wanted parts names e none =
    ap (filter (is_of wanted))
    (sym (occurrences-List parts ∙ ap (λ (ns : List Form). filter (λ (occurrence : Occurrence). is_other ns occurrence.variable) (under_head parts)) (sym e ∙ no_items names none) ∙ all_other (under_head parts)))

-- where what it quantifies isn't wanted within
pub of_quantifier : (old now parts names : List Form) → names ≡ bound parts → ((f : Form) → has now f ≡ (has old f && is_other names f))
    → filter (is_of now) (under_head parts) ≡ filter (is_of old) (occurrences (form.List parts))
of_quantifier old now parts names e masked =
    filter_alike (is_of now) (λ o. is_other (bound parts) o.variable && is_of old o) at (under_head parts)
    ∙ sym (ap (filter (is_of old)) (occurrences-List parts) ∙ filter_both (is_of old) (λ o. is_other (bound parts) o.variable) (under_head parts))
  where
    turned : (a b : Bool) → (a && b) ≡ (b && a)
    turned true true = refl
    turned true false = refl
    turned false true = refl
    turned false false = refl

    at : (o : Occurrence) → is_of now o ≡ (is_other (bound parts) o.variable && is_of old o)
    at o = masked o.variable ∙ ap (λ (ns : List Form). has old o.variable && is_other ns o.variable) e ∙ turned (has old o.variable) (is_other (bound parts) o.variable)

-- ---- the head

other_parts : (parts : List Part) (head : Form) → ((text : Bytes) → head ≡ form.Word text → ⊥) → of_parts (out-Form head) parts ≡ in_parts parts
other_parts parts = induction (λ head. ((text : Bytes) → head ≡ form.Word text → ⊥) → of_parts (out-Form head) parts ≡ in_parts parts) (record {
  word = λ text no_word. absurd (no_word text refl);
  variable = λ text _. ap (λ layer. of_parts layer parts) (form.outs-Variable text);
  row = λ text _. ap (λ layer. of_parts layer parts) (form.outs-Row text);
  numeral = λ text _. ap (λ layer. of_parts layer parts) (form.outs-Numeral text);
  quoted = λ text _. ap (λ layer. of_parts layer parts) (form.outs-Quoted text);
  list = λ fs each _. ap (λ layer. of_parts layer parts) (form.outs-List fs);
})

pub under_other : (parts : List Form) (head : Form) → 1 ≤ length parts → head ≡ get_or parts 0 head → ((text : Bytes) → head ≡ form.Word text → ⊥) → flat_map occurrences (operands parts) ≡ under_head parts
under_other [] head some is no_word = absurd (omega (arith, some))
under_other (first ∷ arguments) head some is no_word =
    sym (other_parts (map with_occurrences (operands (first ∷ arguments))) first (λ text e. no_word text (is ∙ e)) ∙ beside_results occurrences (operands (first ∷ arguments)))

-- ---- arguments

-- a variable that isn't wanted, or what is no variable
pub unwanted : (wanted : List Form) (head : Bytes) (argument : ℕ) (f : Form) → (is_variable f ≡ true → has wanted f ≡ false)
    → filter (is_of wanted) (occurrences f) ≡ filter (is_of wanted) (of_argument head argument f)
unwanted wanted head argument f h = go (is_variable f) refl
  where
    no_list : is_variable f ≡ true → (parts : List Form) → f ≡ form.List parts → ⊥
    no_list e parts is =
        let no_way : false ≡ true = sym (ap is_variable is ∙ ap is_variable_layer (form.outs-List parts)) ∙ e in cc

    go : (b : Bool) → is_variable f ≡ b → filter (is_of wanted) (occurrences f) ≡ filter (is_of wanted) (if b then record { variable = f; head = head; argument = argument } ∷ [] else occurrences f)
    go true e = ap (filter (is_of wanted)) (occurrences_other f (no_list e)) ∙ sym (ap (λ (b : Bool). if b then record { variable = f; head = head; argument = argument } ∷ [] else []) (h e))
    go false e = refl

arguments_append : (head : Bytes) (k : ℕ) (front more : List Form) → of_arguments head k (front ++ more) ≡ of_arguments head k front ++ of_arguments head (k + length front) more
arguments_append head k [] more = let e : k ≡ k + 0 = omega arith in ap (λ n. of_arguments head n more) e
arguments_append head k (f ∷ front) more =
    let e : (k + 1) + length front ≡ k + length (f ∷ front) = omega arith in
    ap (λ (os : List Occurrence). of_argument head k f ++ os) (arguments_append head (k + 1) front more ∙ ap (λ n. of_arguments head (k + 1) front ++ of_arguments head n more) e)
    ∙ sym (append_assoc (of_argument head k f) (of_arguments head (k + 1) front) (of_arguments head (k + length (f ∷ front)) more))

pub no_variable : (f : Form) → ((text : Bytes) → f ≡ form.Variable text → ⊥) → is_variable f ≡ false
no_variable = induction (λ f. ((text : Bytes) → f ≡ form.Variable text → ⊥) → is_variable f ≡ false) (record {
  word = λ text _. ap is_variable_layer (form.outs-Word text);
  variable = λ text other. absurd (other text refl);
  row = λ text _. ap is_variable_layer (form.outs-Row text);
  numeral = λ text _. ap is_variable_layer (form.outs-Numeral text);
  quoted = λ text _. ap is_variable_layer (form.outs-Quoted text);
  list = λ parts each _. ap is_variable_layer (form.outs-List parts);
})

pub unwanted_other : (wanted : List Form) (head : Bytes) (argument : ℕ) (f : Form) → ((text : Bytes) → f ≡ form.Variable text → ⊥)
    → filter (is_of wanted) (occurrences f) ≡ filter (is_of wanted) (of_argument head argument f)
unwanted_other wanted head argument f other = unwanted wanted head argument f (λ e. let no_way : false ≡ true = sym (no_variable f other) ∙ e in absurd (cc))

-- ---- one more part

pub next_found : (front more part : List Occurrence) (old now : List Form) (start found next : List Occurrence) → more ≡ front ++ part → ((f : Form) → has now f ≡ has old f)
    → found ≡ start ++ filter (is_of old) front → next ≡ found ++ filter (is_of now) part → next ≡ start ++ filter (is_of old) more
next_found front more part old now start found next e alike before after =
    after
    ∙ ap₂ ◌++◌ before (filter_alike (is_of now) (is_of old) (λ o. alike o.variable) part)
    ∙ append_assoc start (filter (is_of old) front) (filter (is_of old) part)
    ∙ ap (λ (os : List Occurrence). start ++ os) (sym (filter-append (is_of old) front part) ∙ ap (filter (is_of old)) (sym e))

pub forms_more : (front more : List Form) (f : Form) → more ≡ front ++ f ∷ [] → flat_map occurrences more ≡ flat_map occurrences front ++ occurrences f
forms_more front more f e =
    ap (flat_map occurrences) e ∙ flat_map-append occurrences front (f ∷ []) ∙ ap (λ (os : List Occurrence). flat_map occurrences front ++ os) (append-nil (occurrences f))

pub arguments_more : (head : Bytes) (arguments front more : List Form) (at : ℕ) (f : Form) → front ≡ take at arguments → at < length arguments → more ≡ front ++ f ∷ []
    → of_arguments head 1 more ≡ of_arguments head 1 front ++ of_argument head (at + 1) f
arguments_more head arguments front more at f is lt e =
    let count : 1 + length front ≡ at + 1 = omega (arith, ap length is, length-take at arguments, lt) in
    ap (of_arguments head 1) e ∙ arguments_append head 1 front (f ∷ [])
    ∙ ap (λ (os : List Occurrence). of_arguments head 1 front ++ os) (append-nil (of_argument head (1 + length front) f) ∙ ap (λ n. of_argument head n f) count)
