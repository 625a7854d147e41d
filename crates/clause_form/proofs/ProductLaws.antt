-- The product of two lists of clauses: it is associative, so products may be taken from the left.
use Rattle.std.proofs.Common.{◌≡◌, List, [], ◌∷◌, ◌++◌, map, refl, sym, ap, ap₂, ◌∙◌, append_assoc}
use Rattle.std.specs.List.{flat_map}
use Rattle.std.proofs.lemmas.Grind.{flat_map-append}
use Rattle.std.proofs.lemmas.List.{map-append}
use Rattle.kif_tree.specs.Clauses.{Literals}
use Rattle.clause_form.specs.Matrices.{distribution, products, joined}
use Rattle.clause_form.specs.declared.matrix.Matrix.{Matrix}

-- for each clause of the first and then each of the second, their literals in order
abbrev pub times : List Literals → List Literals → List Literals
times first second = flat_map (λ (clause : Literals). map (λ (rest : Literals). clause ++ rest) second) first

without_more : (clause : Literals) → clause ++ [] ≡ clause
without_more [] = refl
without_more (l ∷ clause) = ap (λ (rest : Literals). l ∷ rest) (without_more clause)

times_one : (clauses : List Literals) → times clauses ([] ∷ []) ≡ clauses
times_one [] = refl
times_one (clause ∷ clauses) = ap₂ ◌∷◌ (without_more clause) (times_one clauses)

map_same : (clauses : List Literals) → map (λ (rest : Literals). [] ++ rest) clauses ++ [] ≡ clauses
map_same [] = refl
map_same (clause ∷ clauses) = ap (λ (more : List Literals). clause ∷ more) (map_same clauses)

map_after : (x y : Literals) (clauses : List Literals)
    → map (λ (rest : Literals). (x ++ y) ++ rest) clauses ≡ map (λ (rest : Literals). x ++ rest) (map (λ (rest : Literals). y ++ rest) clauses)
map_after x y [] = refl
map_after x y (clause ∷ clauses) = ap₂ ◌∷◌ (append_assoc x y clause) (map_after x y clauses)

times_after : (x : Literals) (b c : List Literals)
    → times (map (λ (rest : Literals). x ++ rest) b) c ≡ map (λ (rest : Literals). x ++ rest) (times b c)
times_after x [] c = refl
times_after x (y ∷ b) c =
    ap₂ ◌++◌ (map_after x y c) (times_after x b c)
    ∙ sym (map-append (λ (rest : Literals). x ++ rest) (map (λ (rest : Literals). y ++ rest) c) (times b c))

pub times_assoc : (a b c : List Literals) → times a (times b c) ≡ times (times a b) c
times_assoc [] b c = refl
times_assoc (x ∷ a) b c =
    ap₂ ◌++◌ (sym (times_after x b c)) (times_assoc a b c)
    ∙ sym (flat_map-append (λ (clause : Literals). map (λ (rest : Literals). clause ++ rest) c) (map (λ (rest : Literals). x ++ rest) b) (times a b))

-- the product of two
pub products_two : (first second : List Literals) → products (first ∷ second ∷ []) ≡ times first second
products_two first second = ap (times first) (times_one second)

-- one more factor at the end
pub products_last : (factors : List (List Literals)) (last : List Literals) → products (factors ++ last ∷ []) ≡ products (products factors ∷ last ∷ [])
products_last [] last = times_one last ∙ sym (products_two ([] ∷ []) last ∙ map_same last)
products_last (factor ∷ factors) last =
    ap (times factor) (products_last factors last ∙ products_two (products factors) last)
    ∙ times_assoc factor (products factors) last
    ∙ sym (products_two (times factor (products factors)) last)

-- one more list at the end
pub joined_last : (lists : List (List Literals)) (last : List Literals) → joined (lists ++ last ∷ []) ≡ joined lists ++ last
joined_last [] last = without_more_clauses last
  where
    without_more_clauses : (clauses : List Literals) → clauses ++ [] ≡ clauses
    without_more_clauses [] = refl
    without_more_clauses (clause ∷ clauses) = ap (λ (more : List Literals). clause ∷ more) (without_more_clauses clauses)
joined_last (list ∷ lists) last = ap (λ (more : List Literals). list ++ more) (joined_last lists last) ∙ sym (append_assoc list (joined lists) last)

-- a first factor that is an empty clause alone
pub products_unit : (others : List Literals) → products (([] ∷ []) ∷ others ∷ []) ≡ others
products_unit others = products_two ([] ∷ []) others ∙ map_same others

-- a last factor that is one clause
pub products_by_one : (clauses : List Literals) (other : Literals) → products (clauses ∷ (other ∷ []) ∷ []) ≡ map (λ (clause : Literals). clause ++ other) clauses
products_by_one clauses other = products_two clauses (other ∷ []) ∙ each clauses
  where
    each : (more : List Literals) → times more (other ∷ []) ≡ map (λ (clause : Literals). clause ++ other) more
    each [] = refl
    each (clause ∷ more) = ap (λ (rest : List Literals). (clause ++ other) ∷ rest) (each more)

pub ruleset factor_laws = (products_unit, products_by_one)

-- one more part, as at a step of a loop
pub joined_more : (parts : List Matrix) (part : Matrix)
    → joined (map distribution (parts ++ part ∷ [])) ≡ joined (map distribution parts) ++ distribution part
joined_more parts part = ap joined (map-append distribution parts (part ∷ [])) ∙ joined_last (map distribution parts) (distribution part)

pub products_more : (parts : List Matrix) (part : Matrix)
    → products (map distribution (parts ++ part ∷ [])) ≡ products (products (map distribution parts) ∷ distribution part ∷ [])
products_more parts part = ap products (map-append distribution parts (part ∷ [])) ∙ products_last (map distribution parts) (distribution part)
