-- Marks of clauses: numbers of 64 bits by which it is seen, without a look at the fingerprints of two clauses, that nothing follows from both.
-- No definition of a search speaks of them.
use Rattle.std.specs.Prelude.{ℕ, ◌+◌, ◌*◌, ◌-◌, ◌^◌, ◌%◌, nat_eq, List, [], ◌∷◌, ◌++◌, map, Bool, true, false, not, ◌&&◌, if◌then◌else◌}
use Rattle.std.specs.Int.Bits.{bit_and, bit_or}
use Rattle.kif_tree.specs.declared.form.Form.{Form, para-Form}
use Rattle.kif_tree.specs.declared.form.Form.TheOpen.{Form-F}
use Rattle.kif_tree.specs.declared.clause.Literal.{Literal}
use Rattle.kif_tree.specs.Names.{parts_in}
use Rattle.kif_tree.specs.Terms.{after_head}
use Rattle.kif_tree.specs.Clauses.{Literals, same_sign}
use Rattle.saturate.specs.declared.fingerprint.Fingerprint.{Fingerprint}
use Rattle.saturate.specs.declared.marks.Marks.{Marks}
use Rattle.saturate.specs.declared.table.FingerprintTable.{FingerprintTable}
use Rattle.saturate.specs.Inputs.{is_equality}
use Rattle.saturate.specs.Fingerprints.{code_of_text, code, first_of, others_of, fingerprints}

-- all bits
abbrev pub all_marks : ℕ
all_marks = 2 ^ 64 - 1

-- the marks joined
abbrev pub joined : ℕ → List ℕ → ℕ
joined marks [] = marks
joined marks (mark ∷ more) = joined (bit_or marks mark) more

-- ---- literals: a bit for a sign and a head

abbrev pub mark_place : Bool → ℕ → ℕ
mark_place positive head = head % 32 * 2 + (if positive then 1 else 0)

-- all where the head isn't known
abbrev pub mark : Bool → ℕ → ℕ
mark positive head = if nat_eq head 0 then all_marks else 2 ^ mark_place positive head

-- the mark of the literal, or that of one with the other sign
abbrev pub mark_of : Bool → Fingerprint → ℕ
mark_of own print = mark (same_sign own print.positive) print.head

-- of all literals
abbrev pub marks_of : Bool → Fingerprint → List Fingerprint → ℕ
marks_of own first others = joined (mark_of own first) (map (mark_of own) others)

-- ---- terms: a bit for what a form is, or for what a list begins with

-- one of 32 bits for a code, or all where it isn't known
abbrev pub place_mark : ℕ → ℕ → ℕ
place_mark from code = if nat_eq code 0 then all_marks else 2 ^ (from + code % 32)

-- that of a list is its head's
abbrev pub list_mark : List Form → ℕ
list_mark [] = place_mark 0 4
list_mark (head ∷ arguments) = place_mark 32 (code head)

abbrev pub mark_by : ℕ → List Form → ℕ
mark_by code [] = place_mark 0 code
mark_by code (head ∷ arguments) = list_mark (head ∷ arguments)

-- forms that become one share a bit
abbrev pub term_mark : Form → ℕ
term_mark f = mark_by (code f) (parts_in f)

-- of a form and of the arguments in it, but for variables, which aren't rewritten
abbrev pub terms_step : Form-F (Form × ℕ) → ℕ
terms_step (Form-F.Word text) = place_mark 0 (code_of_text 1 text)
terms_step (Form-F.Variable text) = 0
terms_step (Form-F.Row text) = all_marks
terms_step (Form-F.Numeral text) = place_mark 0 (code_of_text 2 text)
terms_step (Form-F.Quoted text) = place_mark 0 (code_of_text 3 text)
terms_step (Form-F.List parts) = joined (list_mark (map (λ (part : Form × ℕ). part.0) parts)) (map (λ (part : Form × ℕ). part.1) (after_head parts))

unfoldable pub terms : Form → ℕ
terms = para-Form ℕ terms_step

-- of the arguments of an atom
abbrev pub inner_terms : List Form → ℕ
inner_terms parts = joined 0 (map terms (after_head parts))

-- of all places at which a clause may be rewritten
abbrev pub terms_in : Literals → ℕ
terms_in clause = joined 0 (map (λ literal. inner_terms (parts_in literal.atom)) clause)

-- ---- equations

abbrev pub sides_marks : List Form → ℕ
sides_marks (head ∷ left ∷ right ∷ []) = bit_or (term_mark left) (term_mark right)
sides_marks _ = 0

-- of both sides of a positive equality
abbrev pub rewritten_by : Literal → ℕ
rewritten_by literal = if literal.positive && is_equality literal.atom then sides_marks (parts_in literal.atom) else 0

-- of all that the equations of a clause rewrite
abbrev pub rewritten_in : Literals → ℕ
rewritten_in clause = joined 0 (map rewritten_by clause)

-- ---- clauses

abbrev pub marks : Literals → Marks
marks clause = record {
  own = marks_of true (first_of clause) (others_of clause);
  wanted = marks_of false (first_of clause) (others_of clause);
  terms = terms_in clause;
  rewritten = rewritten_in clause;
}

-- where it is false, the literals of the clauses aren't resolved upon
abbrev pub may_resolve_by : Marks → Marks → Bool
may_resolve_by marks others = not (nat_eq (bit_and marks.wanted others.own) 0)

-- where it is false, no equation of the first clause rewrites the second one
abbrev pub may_rewrite : Marks → Marks → Bool
may_rewrite marks others = not (nat_eq (bit_and marks.rewritten others.terms) 0)

-- ---- tables

abbrev pub tabled : List Literals → FingerprintTable
tabled clauses = record { all = map fingerprints clauses; marks = map marks clauses }

abbrev pub tabled_with : FingerprintTable → Literals → FingerprintTable
tabled_with table clause = record { all = table.all ++ fingerprints clause ∷ []; marks = table.marks ++ marks clause ∷ [] }
