-- The page of an outcome.
use Rattle.std.specs.Prelude.{ℕ, ◌+◌, List, [], ◌∷◌, ◌++◌, Option, Some, None, codes, decimal}
use Rattle.std.specs.List.{flat_map}
use Rattle.kif_tree.specs.declared.place.Place.{Place}
use Rattle.kif_tree.specs.declared.place.LoadName.{LoadName}
use Rattle.kif_tree.specs.declared.subst.Pair.{Pair}
use Rattle.kif_tree.specs.Terms.{Bytes}
use Rattle.kif_tree.specs.Printed.{form_text, clause_text, place_text}
use Rattle.saturate.specs.declared.ended.Ended.{Ended}
use Rattle.saturate.specs.declared.ended.Ended.TheVariants as ended
use Rattle.answers.specs.declared.outcome.Binding.{Binding}
use Rattle.answers.specs.declared.outcome.Answer.{Answer}
use Rattle.answers.specs.declared.outcome.Outcome.{Outcome}
use Rattle.answers.specs.declared.proof.Rule.{Rule}
use Rattle.answers.specs.declared.proof.Rule.TheVariants.{Axiom, Reflexivity, Query, Resolve, Factor, Paramodulate}
use Rattle.answers.specs.declared.proof.ProofLine.{ProofLine}
use Rattle.answers.specs.declared.proof.Proof.{Proof}

-- ---- lines of a proof

abbrev pub rule_word : Rule → Bytes
rule_word Axiom = []
rule_word Reflexivity = codes "equality"
rule_word Query = codes "query"
rule_word Resolve = codes "resolve"
rule_word Factor = codes "factor"
rule_word Paramodulate = codes "paramodulate"

-- lines are shown numbered from 1
abbrev pub parent_text : ℕ → Bytes
parent_text parent = 32 ∷ decimal (parent + 1)

-- an axiom cites its place, and any other line shows its rule with its parents
abbrev pub source_of : List LoadName → Rule → Option Place → List ℕ → Bytes
source_of names Axiom (Some place) parents = place_text names place
source_of names Axiom None parents = []
source_of names rule _ parents = rule_word rule ++ flat_map parent_text parents

abbrev pub source_text : List LoadName → ProofLine → Bytes
source_text names line = source_of names line.rule line.place line.parents

abbrev pub line_text : List LoadName → ℕ → ProofLine → Bytes
line_text names number line =
    codes "  " ++ (decimal number ++ (codes ". " ++ (clause_text line.clause ++ (codes " [" ++ (source_text names line ++ codes "]\n")))))

-- the lines that come after so many others
abbrev pub lines_text : List LoadName → ℕ → List ProofLine → Bytes
lines_text names count [] = []
lines_text names count (line ∷ lines) = line_text names (count + 1) line ++ lines_text names (count + 1) lines

abbrev pub proof_text : List LoadName → Proof → Bytes
proof_text names proof = codes "proof\n" ++ lines_text names 0 proof.lines

-- ---- answers

abbrev pub pair_text : Pair → Bytes
pair_text pair = codes "  ?" ++ (pair.variable ++ (codes " = " ++ (form_text pair.term ++ 10 ∷ [])))

-- what the asked variables become, a line each, or `yes` where none is asked
abbrev pub values_text : List Pair → Bytes
values_text [] = codes "  yes\n"
values_text (pair ∷ pairs) = flat_map pair_text (pair ∷ pairs)

abbrev pub or_binding_text : Binding → Bytes
or_binding_text binding = codes "or\n" ++ values_text binding.values

-- alternatives are parted by the line `or`
abbrev pub bindings_text : List Binding → Bytes
bindings_text [] = []
bindings_text (binding ∷ bindings) = values_text binding.values ++ flat_map or_binding_text bindings

unfoldable pub answer_text : List LoadName → ℕ → Answer → Bytes
answer_text names number answer = codes "answer " ++ (decimal number ++ (10 ∷ (bindings_text answer.bindings ++ proof_text names answer.proof)))

-- the answers that come after so many others
abbrev pub answers_text : List LoadName → ℕ → List Answer → Bytes
answers_text names count [] = []
answers_text names count (answer ∷ answers) = answer_text names (count + 1) answer ++ answers_text names (count + 1) answers

abbrev pub contradiction_text : List LoadName → Option Proof → Bytes
contradiction_text names None = []
contradiction_text names (Some proof) = codes "contradiction\n" ++ proof_text names proof

-- ---- the last line

abbrev pub ended_word : Ended → Bytes
ended_word ended.Enough = codes "enough"
ended_word ended.Saturated = codes "saturated"
ended_word ended.Deep = codes "deep"
ended_word ended.Spent = codes "spent"
ended_word ended.Crowded = codes "crowded"
ended_word ended.Contradiction = codes "contradiction"

unfoldable pub end_text : Ended → ℕ → Bytes
end_text end turns = codes "end " ++ (ended_word end ++ (codes " turns " ++ (decimal turns ++ 10 ∷ [])))

unfoldable pub page : List LoadName → Outcome → Bytes
page names outcome =
    answers_text names 0 outcome.answers ++ (contradiction_text names outcome.contradiction ++ end_text outcome.ended outcome.turns)
