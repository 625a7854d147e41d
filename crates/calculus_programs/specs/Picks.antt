-- Literals by their numbers.
use Rattle.std.specs.Prelude.{ℕ, ◌+◌, List, ◌∷◌, ◌++◌, take, drop, Bool, Option}
use Rattle.kif_tree.specs.declared.form.Form.{Form, out-Form}
use Rattle.kif_tree.specs.declared.clause.Literal.{Literal}
use Rattle.kif_tree.specs.Subst.{Filling}
use Rattle.kif_tree.specs.Clauses.{Literals, bind_clause}
use Rattle.calculus.specs.declared.places.Sides.{Sides}
use Rattle.calculus.specs.declared.places.Replaced.{Replaced}
use Rattle.calculus.specs.Rules.{after, Picked, pick, opened, is_variable, replaced_by}

-- the literal of that number, between those before it and those after it
abbrev pub picked : Literals → ℕ → Literal → Picked Literal
picked clause n literal = record { before = take n clause; chosen = literal; following = drop (n + 1) clause }

-- the first clause without its literal, then the second with its literal exchanged
abbrev pub exchanged : Literals → ℕ → Filling → Literals → ℕ → Filling → Literal → Literals
exchanged source i f target j g literal =
    bind_clause f (take i source ++ drop (i + 1) source) ++ (bind_clause g (take j target) ++ literal ∷ bind_clause g (drop (j + 1) target))

abbrev pub is_any_variable : Form → Bool
is_any_variable form = is_variable (out-Form form)

-- what an equality makes at the place in the target
abbrev pub placed : Filling → Bool → Picked Literal → Sides → Literals → ℕ → List ℕ → Filling → Option Replaced
placed f flipped s e target j path g = after (pick target j) (λ m. after (opened path m.chosen.atom) (replaced_by f flipped s e g m))
