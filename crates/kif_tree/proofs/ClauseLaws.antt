-- A clause's instance, one literal after another.
use Rattle.std.proofs.Common.{◌≡◌, ℕ, ◌+◌, ◌<◌, [], ◌∷◌, ◌++◌, map, take, length, get_or, Bool, true, false, not, if◌then◌else◌, refl, sym, ap, ◌∙◌}
use Rattle.std.proofs.lemmas.List.{map_more}
use Rattle.kif_tree.specs.declared.clause.Literal.{Literal}
use Rattle.kif_tree.specs.Subst.{Filling}
use Rattle.kif_tree.specs.Clauses.{Literals, bind_literal, is_answer, without_answers, bare}

pub without_answers-append : (xs ys : Literals) → without_answers (xs ++ ys) ≡ without_answers xs ++ without_answers ys
without_answers-append [] ys = refl
without_answers-append (x ∷ xs) ys = ap (λ (zs : Literals). if not (is_answer x.atom) then x ∷ zs else zs) (without_answers-append xs ys) ∙ pushed (not (is_answer x.atom))
  where
    pushed : (b : Bool) → (if b then x ∷ (without_answers xs ++ without_answers ys) else without_answers xs ++ without_answers ys) ≡ (if b then x ∷ without_answers xs else without_answers xs) ++ without_answers ys
    pushed true = refl
    pushed false = refl

-- at the item of a loop
pub bare_more : (g : Filling) (xs : Literals) (i : ℕ) (x : Literal) → i < length xs → x ≡ get_or xs i x → bare (take (i + 1) xs) g ≡ bare (take i xs) g ++ without_answers (bind_literal g x ∷ [])
bare_more g xs i x lt is =
    ap without_answers (map_more (bind_literal g) xs i x lt)
    ∙ without_answers-append (map (bind_literal g) (take i xs)) (bind_literal g (get_or xs i x) ∷ [])
    ∙ ap (λ y. bare (take i xs) g ++ without_answers (bind_literal g y ∷ [])) (sym is)
