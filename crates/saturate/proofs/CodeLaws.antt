-- Codes of forms: what each kind of form has, and that a form with a code stays as it is under each filling.
use Rattle.std.proofs.Common.{◌≡◌, ◌⊎◌, inl, inr, ℕ, ◌+◌, ◌<◌, ◌≤◌, nat_eq, List, [], ◌∷◌, map, length, get_or, drop, Bool, true, false, if◌then◌else◌, refl, sym, ap, ap₂, ◌∙◌, eq-eqb}
use Rattle.std.proofs.lemmas.List.{at_drop_more, at_drop_all}
use Rattle.sigma_base.specs.Lists.{Each}
use Rattle.kif_tree.specs.declared.form.Form.{Form}
use Rattle.kif_tree.specs.declared.form.Form.TheVariants as form
use Rattle.kif_tree.specs.Terms.{Bytes}
use Rattle.kif_tree.specs.Subst.{Filling, bind}
use Rattle.kif_tree.specs.FormLaws.{induction, fold-Word, fold-Variable, fold-Row, fold-Numeral, fold-Quoted, fold-List}
use Rattle.kif_tree.proofs.SubstLaws.{bind-Word, bind-Numeral, bind-Quoted, bind-List}
use Rattle.saturate.specs.Fingerprints.{mixed, code_of_text, code_of_parts, code_step, code}

pub code-Word : (text : Bytes) → code (form.Word text) ≡ code_of_text 1 text
unfolding code
code-Word = fold-Word ℕ code_step

pub code-Variable : (text : Bytes) → code (form.Variable text) ≡ 0
unfolding code
code-Variable = fold-Variable ℕ code_step

pub code-Row : (text : Bytes) → code (form.Row text) ≡ 0
unfolding code
code-Row = fold-Row ℕ code_step

pub code-Numeral : (text : Bytes) → code (form.Numeral text) ≡ code_of_text 2 text
unfolding code
code-Numeral = fold-Numeral ℕ code_step

pub code-Quoted : (text : Bytes) → code (form.Quoted text) ≡ code_of_text 3 text
unfolding code
code-Quoted = fold-Quoted ℕ code_step

pub code-List : (parts : List Form) → code (form.List parts) ≡ code_of_parts 4 (map code parts)
unfolding code
code-List = fold-List ℕ code_step

pub code_other : (f : Form) → ((text : Bytes) → f ≡ form.Word text → ⊥) → ((text : Bytes) → f ≡ form.Numeral text → ⊥)
    → ((text : Bytes) → f ≡ form.Quoted text → ⊥) → ((parts : List Form) → f ≡ form.List parts → ⊥) → code f ≡ 0
code_other = induction (λ f. ((text : Bytes) → f ≡ form.Word text → ⊥) → ((text : Bytes) → f ≡ form.Numeral text → ⊥)
    → ((text : Bytes) → f ≡ form.Quoted text → ⊥) → ((parts : List Form) → f ≡ form.List parts → ⊥) → code f ≡ 0) (record {
      word = λ text other _ _ _. absurd (other text refl);
      variable = λ text _ _ _ _. code-Variable text;
      row = λ text _ _ _ _. code-Row text;
      numeral = λ text _ other _ _. absurd (other text refl);
      quoted = λ text _ _ other _. absurd (other text refl);
      list = λ parts each _ _ _ other. absurd (other parts refl);
    })

pub ruleset code_laws = (code-Word, code-Variable, code-Row, code-Numeral, code-Quoted, code-List)

-- ---- what stays

kept_parts : (g : Filling) (n : ℕ) (parts : List Form) → Each (λ f. (code f ≡ 0) ⊎ (bind g f ≡ f)) parts
    → (code_of_parts n (map code parts) ≡ 0) ⊎ (map (bind g) parts ≡ parts)
kept_parts g n [] each = inr refl
kept_parts g n (f ∷ parts) each = go each.0 (kept_parts g (mixed n (code f)) parts each.1)
  where
    either : (b : Bool) (rest : ℕ) → rest ≡ 0 → (if b then 0 else rest) ≡ 0
    either true rest e = refl
    either false rest e = e

    go : (code f ≡ 0) ⊎ (bind g f ≡ f) → (code_of_parts (mixed n (code f)) (map code parts) ≡ 0) ⊎ (map (bind g) parts ≡ parts)
        → (code_of_parts n (map code (f ∷ parts)) ≡ 0) ⊎ (map (bind g) (f ∷ parts) ≡ f ∷ parts)
    go (inl none) rest = inl (ap (λ (b : Bool). if b then 0 else code_of_parts (mixed n (code f)) (map code parts)) (ap (λ (c : ℕ). nat_eq c 0) none))
    go (inr stays) (inl none) = inl (either (nat_eq (code f) 0) (code_of_parts (mixed n (code f)) (map code parts)) none)
    go (inr stays) (inr rest) = inr (ap₂ ◌∷◌ stays rest)

-- a form has no code or stays as it is
pub kept : (g : Filling) (f : Form) → (code f ≡ 0) ⊎ (bind g f ≡ f)
kept g = induction (λ f. (code f ≡ 0) ⊎ (bind g f ≡ f)) (record {
  word = λ text. inr (bind-Word g text);
  variable = λ text. inl (code-Variable text);
  row = λ text. inl (code-Row text);
  numeral = λ text. inr (bind-Numeral g text);
  quoted = λ text. inr (bind-Quoted g text);
  list = λ parts each. go parts (kept_parts g 4 parts each);
})
  where
    go : (parts : List Form) → (code_of_parts 4 (map code parts) ≡ 0) ⊎ (map (bind g) parts ≡ parts)
        → (code (form.List parts) ≡ 0) ⊎ (bind g (form.List parts) ≡ form.List parts)
    go parts (inl none) = inl (code-List parts ∙ none)
    go parts (inr stay) = inr (bind-List g parts ∙ ap form.List stay)

-- ---- the parts that a loop has left

module _ (n : ℕ) (parts : List Form) (i : ℕ) where
  one_more : (part : Form) → i < length parts → part ≡ get_or parts i part
      → code_of_parts n (map code (drop i parts)) ≡ code_of_parts n (code part ∷ map code (drop (i + 1) parts))
  one_more part below is =
      at_drop_more (λ (left : List Form). code_of_parts n (map code left)) parts i part below
      ∙ ap (λ (f : Form). code_of_parts n (code f ∷ map code (drop (i + 1) parts))) (sym is)

  pub parts_none : (part : Form) → i < length parts → part ≡ get_or parts i part → code part ≡ 0 → code_of_parts n (map code (drop i parts)) ≡ 0
  parts_none part below is none =
      one_more part below is
      ∙ ap (λ (b : Bool). if b then 0 else code_of_parts (mixed n (code part)) (map code (drop (i + 1) parts))) (eq-eqb (code part) 0 none)

  pub parts_end : length parts ≤ i → code_of_parts n (map code (drop i parts)) ≡ n
  parts_end all = at_drop_all (λ (left : List Form). code_of_parts n (map code left)) parts i all
