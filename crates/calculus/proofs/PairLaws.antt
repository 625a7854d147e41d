-- A filling read as a list of pairs.
use Rattle.std.proofs.Common.{◌≡◌, List, [], ◌∷◌, filter, Bool, true, false, not, ◌||◌, if◌then◌else◌, refl, sym, ap, ap₂, ◌∙◌}
use Rattle.std.specs.List.{list_any}
use Rattle.std.specs.Str.{bytes_eq}
use Rattle.std.proofs.lemmas.Slice.Eq.{bytes_eq-Decides}
use Rattle.std.proofs.lemmas.Bool.Decides.{same_from_decides}
use Rattle.kif_tree.specs.declared.form.Form.{Form}
use Rattle.kif_tree.specs.declared.clause.Literal.{Literal}
use Rattle.kif_tree.specs.Terms.{Bytes, variables}
use Rattle.sigma_base.specs.Lists.{Each, each_left, each_right, each_map}
use Rattle.kif_tree.specs.Clauses.{Literals, bind_clause, is_answer, clause_variables}
use Rattle.kif_tree.specs.Subst.{Filling, value_of}
use Rattle.calculus.specs.Closed.{pairs_of}
use Rattle.calculus.specs.Laws.{PairsSuffice}
use Rattle.kif_tree.proofs.SubstLaws.{agree, Agree}
use Rattle.calculus.proofs.TruthLaws.{false_true, members}

flip : (a b : Bytes) → bytes_eq a b ≡ bytes_eq b a
flip a b = same_from_decides (bytes_eq a b) (bytes_eq b a) (bytes_eq-Decides a b) (λ h. sym ((bytes_eq-Decides b a).0 h), λ e. (bytes_eq-Decides b a).1 (sym e))

value-pairs : (g : Filling) (names : List Bytes) (v : Bytes) → list_any (bytes_eq v) names ≡ true → value_of (pairs_of g names) v ≡ g v
value-pairs g [] v h = absurd (false_true h)
value-pairs g (x ∷ names) v h = go (bytes_eq x v) refl (value-pairs g names v)
  where
    go : (b : Bool) → bytes_eq x v ≡ b → (list_any (bytes_eq v) names ≡ true → value_of (pairs_of g names) v ≡ g v) → (if b then g x else value_of (pairs_of g names) v) ≡ g v
    go true e k = ap g ((bytes_eq-Decides x v).0 e)
    go false e k = k (ap (λ (b : Bool). b || list_any (bytes_eq v) names) (sym (flip v x ∙ e)) ∙ h)

pub clause-agree : (f g : Filling) (clause : Literals) → Each (Agree f g) (clause_variables clause) → bind_clause f clause ≡ bind_clause g clause
clause-agree f g [] h = refl
clause-agree f g (l ∷ ls) h =
    ap₂ (λ (a : Form) (rest : Literals). let made : Literal = record { positive = l.positive; atom = a } in made ∷ rest)
    (agree f g l.atom (each_left (Agree f g) (variables l.atom) (clause_variables ls) h))
    (clause-agree f g ls (each_right (Agree f g) (variables l.atom) (clause_variables ls) h))

pub pairs_suffice : PairsSuffice
pairs_suffice clause g =
    let names = clause_variables clause in
    ap (filter (λ (l : Literal). not (is_answer l.atom))) (clause-agree (value_of (pairs_of g names)) g clause
    (each_map (λ v. list_any (bytes_eq v) names ≡ true) (Agree (value_of (pairs_of g names)) g) (value-pairs g names) names (members names)))
