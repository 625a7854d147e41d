-- One more name at the step of a loop over the names of a quantifier.
use Rattle.std.proofs.Common.{◌≡◌, ℕ, ◌+◌, ◌<◌, List, [], ◌∷◌, ◌++◌, take, length, get_or, sym, ap, ap₂, ◌∙◌, arith}
use Rattle.std.proofs.lemmas.List.{take_more, length-take-le, map-append}
use Rattle.kif_tree.specs.declared.form.Form.{Form}
use Rattle.kif_tree.specs.declared.form.Form.TheVariants as form
use Rattle.kif_tree.specs.declared.subst.Pair.{Pair}
use Rattle.kif_tree.specs.Terms.{Bytes}
use Rattle.calculus.specs.Tidy.{new_name, numbered}
use Rattle.clause_form.specs.Readings.{terms_of, skolem_symbol, skolem_term, skolemized}

-- a pair at the end of the pairs
abbrev ending : List Pair → Bytes → Form → List Pair
ending pairs name term = let last : Pair = record { variable = name; term = term } in pairs ++ last ∷ []

numbered-snoc : (names : List Bytes) (n : ℕ) (name : Bytes) → numbered n (names ++ name ∷ []) ≡ ending (numbered n names) name (form.Variable (new_name (n + length names)))
numbered-snoc [] n name = ap (λ (m : ℕ). ending [] name (form.Variable (new_name m))) (let e : n ≡ n + 0 = omega arith in e)
numbered-snoc (x ∷ names) n name =
    let first : Pair = record { variable = x; term = form.Variable (new_name n) } in
    let e : (n + 1) + length names ≡ n + length (x ∷ names) = omega arith in
    ap (λ (pairs : List Pair). first ∷ pairs) (numbered-snoc names (n + 1) name ∙ ap (λ (m : ℕ). ending (numbered (n + 1) names) name (form.Variable (new_name m))) e)

pub numbered_next : (names : List Bytes) (before i number : ℕ) (name : Bytes) (term : Form) → i < length names → name ≡ get_or names i name → number ≡ before + i + 1 → term ≡ form.Variable (new_name number)
    → numbered (before + 1) (take (i + 1) names) ≡ ending (numbered (before + 1) (take i names)) name term
numbered_next names before i number name term below is count e =
    let here : before + 1 + length (take i names) ≡ number = omega (arith, count, length-take-le i names (omega arith)) in
    ap (numbered (before + 1)) (take_more names i name below) ∙ numbered-snoc (take i names) (before + 1) (get_or names i name)
    ∙ ap₂ (ending (numbered (before + 1) (take i names))) (sym is) (ap (λ (m : ℕ). form.Variable (new_name m)) here ∙ sym e)

pub terms_next : (pairs : List Pair) (name : Bytes) (term : Form) → terms_of (ending pairs name term) ≡ terms_of pairs ++ term ∷ []
terms_next pairs name term = let last : Pair = record { variable = name; term = term } in map-append (λ (pair : Pair). pair.term) pairs (last ∷ [])

abbrev term_at : Bytes → List Form → ℕ → Form
term_at prefix universals number = skolem_term (skolem_symbol prefix number) universals

skolemized-snoc : (prefix : Bytes) (universals : List Form) (names : List Bytes) (n : ℕ) (name : Bytes)
    → skolemized prefix universals n (names ++ name ∷ []) ≡ ending (skolemized prefix universals n names) name (term_at prefix universals (n + length names))
skolemized-snoc prefix universals [] n name = ap (λ (m : ℕ). ending [] name (term_at prefix universals m)) (let e : n ≡ n + 0 = omega arith in e)
skolemized-snoc prefix universals (x ∷ names) n name =
    let first : Pair = record { variable = x; term = term_at prefix universals n } in
    let e : (n + 1) + length names ≡ n + length (x ∷ names) = omega arith in
    ap (λ (pairs : List Pair). first ∷ pairs)
    (skolemized-snoc prefix universals names (n + 1) name ∙ ap (λ (m : ℕ). ending (skolemized prefix universals (n + 1) names) name (term_at prefix universals m)) e)

pub skolemized_next : (prefix : Bytes) (universals : List Form) (names : List Bytes) (before i number : ℕ) (name : Bytes) (term : Form) → i < length names → name ≡ get_or names i name → number ≡ before + i + 1
    → term ≡ skolem_term (skolem_symbol prefix number) universals
    → skolemized prefix universals (before + 1) (take (i + 1) names) ≡ ending (skolemized prefix universals (before + 1) (take i names)) name term
skolemized_next prefix universals names before i number name term below is count e =
    let here : before + 1 + length (take i names) ≡ number = omega (arith, count, length-take-le i names (omega arith)) in
    ap (skolemized prefix universals (before + 1)) (take_more names i name below) ∙ skolemized-snoc prefix universals (take i names) (before + 1) (get_or names i name)
    ∙ ap₂ (ending (skolemized prefix universals (before + 1) (take i names))) (sym is) (ap (term_at prefix universals) here ∙ sym e)
