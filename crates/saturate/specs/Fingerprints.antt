-- Fingerprints: numbers by which it is seen, without a walk through two clauses, that one can't subsume the other, or that they can't
-- be resolved. No definition of a search speaks of them.
use Rattle.std.specs.Prelude.{ℕ, ◌+◌, ◌*◌, ◌%◌, nat_eq, List, [], ◌∷◌, map, length, Bool, true, not, ◌&&◌, ◌||◌, if◌then◌else◌, Option, Some, None}
use Rattle.std.specs.List.{list_any, list_all}
use Rattle.kif_tree.specs.declared.form.Form.{Form, fold-Form}
use Rattle.kif_tree.specs.declared.form.Form.TheOpen.{Form-F}
use Rattle.kif_tree.specs.declared.clause.Literal.{Literal}
use Rattle.kif_tree.specs.Names.{parts_in}
use Rattle.kif_tree.specs.Clauses.{Literals, same_sign}
use Rattle.calculus.specs.Rules.{nth}
use Rattle.saturate.specs.declared.fingerprint.Fingerprint.{Fingerprint}
use Rattle.saturate.specs.declared.fingerprint.Fingerprints.{Fingerprints}

-- one number more in a code
abbrev pub mixed : ℕ → ℕ → ℕ
mixed code next = (code * 257 + next) % 2147483647

abbrev pub code_of_text : ℕ → List ℕ → ℕ
code_of_text code [] = code
code_of_text code (byte ∷ bytes) = code_of_text (mixed code byte) bytes

-- 0 where one of the parts has 0
abbrev pub code_of_parts : ℕ → List ℕ → ℕ
code_of_parts code [] = code
code_of_parts code (part ∷ parts) = if nat_eq part 0 then 0 else code_of_parts (mixed code part) parts

abbrev pub code_step : Form-F ℕ → ℕ
code_step (Form-F.Word text) = code_of_text 1 text
code_step (Form-F.Variable text) = 0
code_step (Form-F.Row text) = 0
code_step (Form-F.Numeral text) = code_of_text 2 text
code_step (Form-F.Quoted text) = code_of_text 3 text
code_step (Form-F.List parts) = code_of_parts 4 parts

-- a number for a form without variables, and 0 for one with variables
unfoldable pub code : Form → ℕ
code = fold-Form ℕ code_step

abbrev pub code_in : Option Form → ℕ
code_in None = 0
code_in (Some form) = code form

-- of that part, or 0 where there is none
abbrev pub part_code : List Form → ℕ → ℕ
part_code parts n = code_in (nth parts n)

-- ---- literals

abbrev pub fingerprint_of : Bool → List Form → Fingerprint
fingerprint_of positive parts = record {
  positive = positive;
  parts = length parts;
  head = part_code parts 0;
  first = part_code parts 1;
  second = part_code parts 2;
}

abbrev pub fingerprint : Literal → Fingerprint
fingerprint literal = fingerprint_of literal.positive (parts_in literal.atom)

-- what becomes a form of the second code has the first
abbrev pub fits : ℕ → ℕ → Bool
fits code other = nat_eq code 0 || nat_eq code other

-- where it is false, the first literal doesn't become the second
abbrev pub may_become : Fingerprint → Fingerprint → Bool
may_become print other = nat_eq print.parts 0
    || (same_sign print.positive other.positive && (nat_eq print.parts other.parts
    && (fits print.head other.head && (fits print.first other.first && fits print.second other.second))))

-- what becomes one form has these codes
abbrev pub agree : ℕ → ℕ → Bool
agree code other = nat_eq other 0 || fits code other

-- where it is false, the literals can't be resolved upon
abbrev pub may_clash : Fingerprint → Fingerprint → Bool
may_clash print other = nat_eq print.parts 0 || (nat_eq other.parts 0
    || (not (same_sign print.positive other.positive) && (nat_eq print.parts other.parts
    && (agree print.head other.head && (agree print.first other.first && agree print.second other.second)))))

-- ---- clauses

-- that of a clause's first literal; one without literals has one that excludes nothing
abbrev pub first_of : Literals → Fingerprint
first_of [] = fingerprint_of true []
first_of (literal ∷ literals) = fingerprint literal

abbrev pub others_of : Literals → List Fingerprint
others_of [] = []
others_of (literal ∷ literals) = map fingerprint literals

abbrev pub fingerprints : Literals → Fingerprints
fingerprints clause = record { first = first_of clause; others = others_of clause }

-- where it is false, the literal doesn't become one of the clause
abbrev pub may_be_in : Fingerprint → Fingerprints → Bool
may_be_in print others = may_become print others.first || list_any (may_become print) others.others

-- where it is false, the first clause doesn't subsume the second
abbrev pub may_subsume : Fingerprints → Fingerprints → Bool
may_subsume prints others = may_be_in prints.first others && list_all (λ print. may_be_in print others) prints.others

abbrev pub may_resolve : Fingerprint → Fingerprints → Bool
may_resolve print others = may_clash print others.first || list_any (may_clash print) others.others

-- where it is false, no literal of the one clause is resolved upon with one of the other
abbrev pub may_meet : Fingerprints → Fingerprints → Bool
may_meet prints others = may_resolve prints.first others || list_any (λ print. may_resolve print others) prints.others
