-- Clauses of plain forms stay so under plain substitutions, in part, joined and made tidy.
use Rattle.std.proofs.Common.{◌≡◌, ℕ, zero, suc, ◌+◌, ◌<◌, List, [], ◌∷◌, ◌++◌, take, drop, length, get_or, true, ◌&&◌, refl, sym, ap, ap₂, ◌∙◌, subst, arith}
use Rattle.std.specs.List.{list_all}
use Rattle.sigma_base.specs.Lists.{Each, each_append}
use Rattle.kif_tree.specs.declared.form.Form.{Form}
use Rattle.kif_tree.specs.declared.form.Form.TheVariants as form
use Rattle.kif_tree.specs.declared.subst.Pair.{Pair}
use Rattle.kif_tree.specs.declared.clause.Literal.{Literal}
use Rattle.kif_tree.specs.Terms.{Bytes, distinct}
use Rattle.kif_tree.specs.FormLaws.{induction}
use Rattle.kif_tree.specs.Shape.{is_list, is_list_layer}
use Rattle.kif_tree.specs.Subst.{Filling, bind, lookup}
use Rattle.kif_tree.specs.Clauses.{Literals, bind_clause, clause_variables}
use Rattle.kif_tree.proofs.SubstLaws.{bind-List}
use Rattle.calculus.specs.Tidy.{new_name, numbered, without_repeats, tidy}
use Rattle.calculus.proofs.TruthLaws.{both, false_true}
use Rattle.calculus.proofs.RepeatLaws.{each-without}
use Rattle.unify.specs.Unifiers.{is_plain, ArePlain}
use Rattle.unify.proofs.PlainLaws.{plain-Variable, plain-bind, plain-lookup}
use Rattle.infer.specs.Plain.{IsPlain}

abbrev pub IsPlainLiteral : Literal → Type 0
IsPlainLiteral literal = (is_list literal.atom ≡ true) × (is_plain literal.atom ≡ true)

-- ---- literal by literal

pub plain-each : (clause : Literals) → IsPlain clause → Each IsPlainLiteral clause
plain-each [] plain = tt
plain-each (literal ∷ clause) plain =
    let lists = both (is_list literal.atom) (list_all (λ (l : Literal). is_list l.atom) clause) plain.lists in
    let plains = both (is_plain literal.atom) (list_all (λ (l : Literal). is_plain l.atom) clause) plain.plain in
    ((lists.0, plains.0), plain-each clause (record { lists = lists.1; plain = plains.1 }))

pub each-plain : (clause : Literals) → Each IsPlainLiteral clause → IsPlain clause
each-plain [] each = record { lists = refl; plain = refl }
each-plain (literal ∷ clause) each =
    let rest = each-plain clause each.1 in
    record { lists = ap₂ ◌&&◌ each.0.0 rest.lists; plain = ap₂ ◌&&◌ each.0.1 rest.plain }

each-at : (P : Literal → Type 0) (xs : Literals) (i : ℕ) (x : Literal) → i < length xs → x ≡ get_or xs i x → Each P xs → P x
each-at P [] i x below is each = absurd (omega arith)
each-at P (y ∷ xs) zero x below is each = subst P (sym is) each.0
each-at P (y ∷ xs) (suc i) x below is each = each-at P xs i x (omega arith) is each.1

pub plain-literal : (clause : Literals) (i : ℕ) (literal : Literal) → i < length clause → literal ≡ get_or clause i literal → IsPlain clause
    → IsPlainLiteral literal
plain-literal clause i literal below is plain = each-at IsPlainLiteral clause i literal below is (plain-each clause plain)

pub plain-atom : (clause : Literals) (i : ℕ) (literal : Literal) → i < length clause → literal ≡ get_or clause i literal → IsPlain clause
    → is_plain literal.atom ≡ true
plain-atom clause i literal below is plain = (plain-literal clause i literal below is plain).1

-- ---- parts of clauses

pub plain-append : (xs ys : Literals) → IsPlain xs → IsPlain ys → IsPlain (xs ++ ys)
plain-append xs ys first second = each-plain (xs ++ ys) (each_append IsPlainLiteral xs ys (plain-each xs first) (plain-each ys second))

each_take : (P : Literal → Type 0) (n : ℕ) (xs : Literals) → Each P xs → Each P (take n xs)
each_take P zero xs each = tt
each_take P (suc n) [] each = tt
each_take P (suc n) (x ∷ xs) each = (each.0, each_take P n xs each.1)

each_drop : (P : Literal → Type 0) (n : ℕ) (xs : Literals) → Each P xs → Each P (drop n xs)
each_drop P zero xs each = each
each_drop P (suc n) [] each = tt
each_drop P (suc n) (x ∷ xs) each = each_drop P n xs each.1

pub plain-take : (n : ℕ) (clause : Literals) → IsPlain clause → IsPlain (take n clause)
plain-take n clause plain = each-plain (take n clause) (each_take IsPlainLiteral n clause (plain-each clause plain))

pub plain-drop : (n : ℕ) (clause : Literals) → IsPlain clause → IsPlain (drop n clause)
plain-drop n clause plain = each-plain (drop n clause) (each_drop IsPlainLiteral n clause (plain-each clause plain))

-- the clause without one literal
pub plain-others : (n : ℕ) (clause : Literals) → IsPlain clause → IsPlain (take n clause ++ drop (n + 1) clause)
plain-others n clause plain = plain-append (take n clause) (drop (n + 1) clause) (plain-take n clause plain) (plain-drop (n + 1) clause plain)

-- ---- filling in

pub list-bind : (g : Filling) (f : Form) → is_list f ≡ true → is_list (bind g f) ≡ true
list-bind g = induction (λ f. is_list f ≡ true → is_list (bind g f) ≡ true) (record {
  word = λ text h. absurd (false_true (sym (ap is_list_layer (form.outs-Word text)) ∙ h));
  variable = λ text h. absurd (false_true (sym (ap is_list_layer (form.outs-Variable text)) ∙ h));
  row = λ text h. absurd (false_true (sym (ap is_list_layer (form.outs-Row text)) ∙ h));
  numeral = λ text h. absurd (false_true (sym (ap is_list_layer (form.outs-Numeral text)) ∙ h));
  quoted = λ text h. absurd (false_true (sym (ap is_list_layer (form.outs-Quoted text)) ∙ h));
  list = λ parts each h. ap is_list (bind-List g parts) ∙ ap is_list_layer (form.outs-List _);
})

bind_each : (g : Filling) → ((name : Bytes) → is_plain (g name) ≡ true) → (clause : Literals) → Each IsPlainLiteral clause
    → Each IsPlainLiteral (bind_clause g clause)
bind_each g fills [] each = tt
bind_each g fills (literal ∷ clause) each =
    ((list-bind g literal.atom each.0.0, plain-bind g fills literal.atom each.0.1), bind_each g fills clause each.1)

pub plain-filled : (g : Filling) (clause : Literals) → ((name : Bytes) → is_plain (g name) ≡ true) → IsPlain clause → IsPlain (bind_clause g clause)
plain-filled g clause fills plain = each-plain (bind_clause g clause) (bind_each g fills clause (plain-each clause plain))

pub plain-bind_clause : (pairs : List Pair) (clause : Literals) → ArePlain pairs → IsPlain clause → IsPlain (bind_clause (lookup pairs) clause)
plain-bind_clause pairs clause each plain = plain-filled (lookup pairs) clause (plain-lookup pairs each) plain

-- ---- tidy clauses

plain-numbered : (n : ℕ) (names : List Bytes) → ArePlain (numbered n names)
plain-numbered n [] = tt
plain-numbered n (name ∷ names) = (plain-Variable (new_name n), plain-numbered (n + 1) names)

pub plain-tidy : (clause : Literals) → IsPlain clause → IsPlain (tidy clause)
unfolding tidy
plain-tidy clause plain =
    let once = without_repeats clause in
    plain-bind_clause (numbered 1 (distinct (clause_variables once))) once (plain-numbered 1 (distinct (clause_variables once)))
    (each-plain once (each-without IsPlainLiteral clause (plain-each clause plain)))
