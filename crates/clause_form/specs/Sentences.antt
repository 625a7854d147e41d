-- Sentences of first-order logic: what has a clause form of proper clauses.
use Rattle.std.specs.Prelude.{◌≡◌, ℕ, List, [], ◌∷◌, ◌++◌, map, length, Bool, true, false, not, ◌&&◌, Option, Some, None}
use Rattle.std.specs.List.{list_all}
use Rattle.kif_tree.specs.declared.form.Form.{Form, para-Form}
use Rattle.kif_tree.specs.declared.form.Form.TheVariants as form
use Rattle.kif_tree.specs.declared.form.Form.TheOpen.{Form-F}
use Rattle.kif_tree.specs.Terms.{has_no_row}
use Rattle.kif_tree.specs.Shape.{is_list}
use Rattle.kif_tree.specs.Clauses.{Literals, is_answer}
use Rattle.calculus.specs.Answers.{answer_atom}
use Rattle.calculus.specs.Equality.{yes}
use Rattle.calculus.specs.Proper.{IsProper, has_word_heads}
use Rattle.clause_form.specs.Connectives.{connective_of}
use Rattle.sigma_base.specs.Lists.{Each}
use Rattle.clause_form.specs.declared.conversion.ClauseForm.{ClauseForm}
use Rattle.clause_form.specs.declared.conversion.ClauseForm.TheVariants.{Clauses, TooMany}
use Rattle.clause_form.specs.declared.connective.Connective.{Connective}
use Rattle.clause_form.specs.declared.connective.Connective.TheVariants.{Not, And, Or, Implies, Equivalent, ForAll, Exists}

-- a list with a word other than that of answer literals at its head, each list inside headed by a word too, without row variables
abbrev pub is_atom : Form → Bool
is_atom f = is_list f && (has_word_heads f && (has_no_row f && not (is_answer f)))

-- a part of a list beside whether it is a sentence
abbrev pub Part : Type 0
Part = Form × Bool

abbrev pub are_sentences : List Part → Bool
are_sentences parts = list_all (λ (part : Part). part.1) parts

-- the parts after a connective are sentences, as many as it takes
abbrev pub are_connected : Connective → List Part → Bool
are_connected Not (part ∷ []) = part.1
are_connected And (part ∷ parts) = are_sentences (part ∷ parts)
are_connected Or (part ∷ parts) = are_sentences (part ∷ parts)
are_connected Implies (first ∷ second ∷ []) = are_sentences (first ∷ second ∷ [])
are_connected Equivalent (first ∷ second ∷ []) = are_sentences (first ∷ second ∷ [])
are_connected ForAll (names ∷ body ∷ []) = body.1
are_connected Exists (names ∷ body ∷ []) = body.1
are_connected _ _ = false

abbrev pub headed : Option Connective → Form → List Part → Bool
headed None f parts = is_atom f
headed (Some connective) f parts = are_connected connective parts

abbrev pub forms_of : List Part → List Form
forms_of parts = map (λ (part : Part). part.0) parts

abbrev pub list_step : List Part → Bool
list_step [] = false
list_step (head ∷ parts) = headed (connective_of head.0) (form.List (forms_of (head ∷ parts))) parts

abbrev pub sentence_step : Form-F Part → Bool
sentence_step (Form-F.Word text) = false
sentence_step (Form-F.Variable text) = false
sentence_step (Form-F.Row text) = false
sentence_step (Form-F.Numeral text) = false
sentence_step (Form-F.Quoted text) = false
sentence_step (Form-F.List parts) = list_step parts

-- atoms under connectives and quantifiers, each before as many parts as it takes
unfoldable pub is_sentence : Form → Bool
is_sentence = para-Form Bool sentence_step

-- ---- what a clause of sentences is

-- a proper clause without answer literals
pub record IsInput (clause : Literals) : Type 0 where
  pub proper : IsProper clause
  pub answerless : list_all (λ literal. not (is_answer literal.atom)) clause ≡ true

abbrev pub AreInputs : ClauseForm → Type 0
AreInputs (Clauses clauses) = Each IsInput clauses
AreInputs TooMany = Unit {0}

-- a proper clause with one answer literal, which comes last, is positive and has so many arguments
pub record IsQueryClause (count : ℕ) (clause : Literals) : Type 0 where
  pub proper : IsProper clause
  pub front : Literals
  pub arguments : List Form
  pub is : clause ≡ front ++ yes (answer_atom arguments) ∷ []
  pub answerless : list_all (λ literal. not (is_answer literal.atom)) front ≡ true
  pub counted : length arguments ≡ count
