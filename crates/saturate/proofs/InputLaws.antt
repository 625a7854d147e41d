-- The inputs of a search as the code makes and reads them.
use Rattle.std.proofs.Common.{◌≡◌, ℕ, suc, ◌+◌, ◌<◌, List, [], ◌∷◌, ◌++◌, take, length, get_or, Bool, true, false, Some, None, is_some, codes, refl, sym, ap, ap₂, ◌∙◌, arith, append_assoc}
use Rattle.std.proofs.lemmas.List.{take_more, length-take-le}
use Rattle.kif_tree.specs.declared.form.Form.{Form, out-Form}
use Rattle.kif_tree.specs.declared.form.Form.TheOpen.{Form-F}
use Rattle.kif_tree.specs.declared.clause.InputClause.{InputClause}
use Rattle.kif_tree.specs.Names.{parts_layer, parts_in}
use Rattle.kif_tree.specs.Clauses.{Literals, is_word, is_headed, heads_layer}
use Rattle.calculus.specs.declared.places.Sides.{Sides}
use Rattle.calculus.specs.Rules.{given, sides_in}
use Rattle.saturate.specs.Inputs.{is_equality, numbered_inputs}

-- ---- equalities

there_if : (b : Bool) (s : Sides) → is_some (given b (Some s)) ≡ b
there_if true s = refl
there_if false s = refl

three : (parts : List Form) → length parts ≡ 3 → heads_layer (codes "equal") (Form-F.List parts) ≡ is_some (sides_in (Form-F.List parts))
three [] h = absurd (omega arith)
three (head ∷ []) h = absurd (omega arith)
three (head ∷ a ∷ []) h = absurd (omega arith)
three (head ∷ a ∷ b ∷ []) h = sym (there_if (is_word (codes "equal") (out-Form head)) (record { left = a; right = b }))
three (head ∷ a ∷ b ∷ c ∷ parts) h = absurd (omega arith)

three_in : (layer : Form-F Form) → length (parts_layer layer) ≡ 3 → heads_layer (codes "equal") layer ≡ is_some (sides_in layer)
three_in (Form-F.Word text) h = absurd (omega arith)
three_in (Form-F.Variable text) h = absurd (omega arith)
three_in (Form-F.Row text) h = absurd (omega arith)
three_in (Form-F.Numeral text) h = absurd (omega arith)
three_in (Form-F.Quoted text) h = absurd (omega arith)
three_in (Form-F.List parts) h = three parts h

pub equality_headed : (f : Form) → length (parts_in f) ≡ 3 → is_headed (codes "equal") f ≡ is_equality f
unfolding is_headed
equality_headed f h = three_in (out-Form f) h

-- ---- the query's clauses

numbered_after : (n : ℕ) (clauses : List Literals) (clause : Literals)
    → numbered_inputs n (clauses ++ clause ∷ []) ≡ numbered_inputs n clauses ++ record { clause = clause; place = None; variant = n + length clauses } ∷ []
numbered_after n [] clause =
    let e : n ≡ n + 0 = omega arith in
    ap (λ (m : ℕ). let input : InputClause = record { clause = clause; place = None; variant = m } in input ∷ []) e
numbered_after n (first ∷ clauses) clause =
    let e : n + 1 + length clauses ≡ n + suc (length clauses) = omega arith in
    let head : InputClause = record { clause = first; place = None; variant = n } in
    ap (λ (more : List InputClause). head ∷ more)
    (numbered_after (n + 1) clauses clause
    ∙ ap (λ (m : ℕ). let input : InputClause = record { clause = clause; place = None; variant = m } in numbered_inputs (n + 1) clauses ++ input ∷ []) e)

pub numbered_more : (query : List Literals) (i : ℕ) (clause : Literals) (old new : List InputClause) (variant : ℕ) (before : List InputClause) → i < length query
    → clause ≡ get_or query i clause → variant ≡ i + 1 → old ≡ before ++ numbered_inputs 1 (take i query)
    → new ≡ old ++ record { clause = clause; place = None; variant = variant } ∷ []
    → new ≡ before ++ numbered_inputs 1 (take (i + 1) query)
numbered_more query i clause old new variant before below is counted so_far pushed =
    let e : variant ≡ 1 + length (take i query) = omega (arith, length-take-le i query (omega arith)) in
    pushed
    ∙ ap₂ (λ (xs : List InputClause) (m : ℕ). let input : InputClause = record { clause = clause; place = None; variant = m } in xs ++ input ∷ []) so_far e
    ∙ append_assoc before (numbered_inputs 1 (take i query)) _
    ∙ ap (λ (xs : List InputClause). before ++ xs)
    (sym (ap (numbered_inputs 1) (take_more query i clause below ∙ ap (λ (c : Literals). take i query ++ c ∷ []) (sym is)) ∙ numbered_after 1 (take i query) clause))
