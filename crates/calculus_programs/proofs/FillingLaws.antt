-- Fillings as lists of pairs.
use Rattle.std.proofs.lemmas.List.{map_more}
use Rattle.std.proofs.Common.{◌≡◌, ℕ, ◌+◌, ◌<◌, take, length, get_or, List, [], ◌∷◌, ◌++◌, map, filter, Bool, true, false, not, ◌||◌, if◌then◌else◌, refl, sym, ap, ap₂, ◌∙◌}
use Rattle.std.specs.List.{list_any}
use Rattle.std.specs.Str.{bytes_eq}
use Rattle.std.proofs.lemmas.Slice.Eq.{bytes_eq-Decides}
use Rattle.std.proofs.lemmas.Bool.Decides.{same_from_decides}
use Rattle.kif_tree.specs.declared.form.Form.{Form}
use Rattle.kif_tree.specs.declared.form.Form.TheVariants as form
use Rattle.kif_tree.specs.declared.subst.Pair.{Pair}
use Rattle.kif_tree.specs.Terms.{Bytes, distinct}
use Rattle.kif_tree.specs.Subst.{Filling, bind, via, lookup, value_of, any_word}
use Rattle.kif_tree.specs.Clauses.{Literals, clause_variables}
use Rattle.kif_tree.proofs.SubstLaws.{bind-Variable}
use Rattle.calculus.specs.Tidy.{new_name, numbered, without_repeats, turned_back}
use Rattle.calculus_programs.specs.Pairs.{fill_pair}

pub fun_ext : (f g : Filling) → ((name : Bytes) → f name ≡ g name) → f ≡ g
fun_ext f g h = λ i name. h name i

-- ---- a substitution and next a filling

followed : (first : List Pair) (next : List Pair) (name : Bytes) → value_of (map (fill_pair (value_of next)) first ++ next) name ≡ via (lookup first) (value_of next) name
followed [] next name = sym (bind-Variable (value_of next) name)
followed (pair ∷ first) next name = go (bytes_eq pair.variable name) (followed first next name)
  where
    go : (b : Bool) → value_of (map (fill_pair (value_of next)) first ++ next) name ≡ bind (value_of next) (lookup first name)
        → (if b then bind (value_of next) pair.term else value_of (map (fill_pair (value_of next)) first ++ next) name) ≡ bind (value_of next) (if b then pair.term else lookup first name)
    go true rest = refl
    go false rest = rest

pub follows_pairs : (first next : List Pair) → value_of (map (fill_pair (value_of next)) first ++ next) ≡ via (lookup first) (value_of next)
follows_pairs first next = fun_ext (value_of (map (fill_pair (value_of next)) first ++ next)) (via (lookup first) (value_of next)) (followed first next)

-- ---- the conclusion turned back

flip : (a b : Bytes) → bytes_eq a b ≡ bytes_eq b a
flip a b = same_from_decides (bytes_eq a b) (bytes_eq b a) (bytes_eq-Decides a b) (λ h. sym ((bytes_eq-Decides b a).0 h), λ e. (bytes_eq-Decides b a).1 (sym e))

stays : (v x : Bytes) → bytes_eq v x ≡ false → (ys : List Bytes) → list_any (bytes_eq v) (filter (λ y. not (bytes_eq x y)) ys) ≡ list_any (bytes_eq v) ys
stays v x apart [] = refl
stays v x apart (y ∷ ys) = go (bytes_eq x y) refl (stays v x apart ys)
  where
    go : (b : Bool) → bytes_eq x y ≡ b → list_any (bytes_eq v) (filter (λ z. not (bytes_eq x z)) ys) ≡ list_any (bytes_eq v) ys
        → list_any (bytes_eq v) (if not b then y ∷ filter (λ z. not (bytes_eq x z)) ys else filter (λ z. not (bytes_eq x z)) ys) ≡ (bytes_eq v y || list_any (bytes_eq v) ys)
    go false e rest = ap (λ (b : Bool). bytes_eq v y || b) rest
    go true e rest = rest ∙ ap (λ (b : Bool). b || list_any (bytes_eq v) ys) (sym (ap (bytes_eq v) (sym ((bytes_eq-Decides x y).0 e)) ∙ apart))

in_distinct : (v : Bytes) (xs : List Bytes) → list_any (bytes_eq v) (distinct xs) ≡ list_any (bytes_eq v) xs
in_distinct v [] = refl
in_distinct v (x ∷ xs) = go (bytes_eq v x) refl (in_distinct v xs)
  where
    go : (b : Bool) → bytes_eq v x ≡ b → list_any (bytes_eq v) (distinct xs) ≡ list_any (bytes_eq v) xs
        → (b || list_any (bytes_eq v) (filter (λ y. not (bytes_eq x y)) (distinct xs))) ≡ (b || list_any (bytes_eq v) xs)
    go true e rest = refl
    go false e rest = stays v x e (distinct xs) ∙ rest

numbered_value : (g : Filling) (names : List Bytes) (n : ℕ) (v : Bytes) → value_of (map (fill_pair g) (numbered n names)) v ≡ (if list_any (bytes_eq v) names then bind g (lookup (numbered n names) v) else any_word)
numbered_value g [] n v = refl
numbered_value g (name ∷ names) n v = go (bytes_eq name v) refl (flip name v) (numbered_value g names (n + 1) v)
  where
    go : (b : Bool) → bytes_eq name v ≡ b → bytes_eq name v ≡ bytes_eq v name → value_of (map (fill_pair g) (numbered (n + 1) names)) v ≡ (if list_any (bytes_eq v) names then bind g (lookup (numbered (n + 1) names) v) else any_word)
        → (if b then bind g (form.Variable (new_name n)) else value_of (map (fill_pair g) (numbered (n + 1) names)) v)
        ≡ (if (bytes_eq v name || list_any (bytes_eq v) names) then bind g (if b then form.Variable (new_name n) else lookup (numbered (n + 1) names) v) else any_word)
    go true e turned rest = ap (λ (b : Bool). if (b || list_any (bytes_eq v) names) then bind g (form.Variable (new_name n)) else any_word) (sym e ∙ turned)
    go false e turned rest = rest ∙ ap (λ (b : Bool). if (b || list_any (bytes_eq v) names) then bind g (lookup (numbered (n + 1) names) v) else any_word) (sym e ∙ turned)

turned_value : (raw : Literals) (g : Filling) (v : Bytes) → value_of (map (fill_pair g) (numbered 1 (distinct (clause_variables (without_repeats raw))))) v ≡ turned_back raw g v
unfolding turned_back
turned_value raw g v =
    let names = clause_variables (without_repeats raw) in
    numbered_value g (distinct names) 1 v
    ∙ ap (λ (b : Bool). if b then bind g (lookup (numbered 1 (distinct names)) v) else any_word) (in_distinct v names)

pub turned_pairs : (raw : Literals) (g : Filling) → value_of (map (fill_pair g) (numbered 1 (distinct (clause_variables (without_repeats raw))))) ≡ turned_back raw g
turned_pairs raw g = fun_ext (value_of (map (fill_pair g) (numbered 1 (distinct (clause_variables (without_repeats raw)))))) (turned_back raw g) (turned_value raw g)

-- at the item of a loop
pub pairs_more : (g : Filling) (xs : List Pair) (i : ℕ) (x : Pair) (name : Bytes) (term : Form) → i < length xs → x ≡ get_or xs i x → name ≡ x.variable → term ≡ bind g x.term
    → map (fill_pair g) (take (i + 1) xs) ≡ map (fill_pair g) (take i xs) ++ record { variable = name; term = term } ∷ []
pairs_more g xs i x name term below is named filled =
    map_more (fill_pair g) xs i x below ∙ ap (λ (p : Pair). map (fill_pair g) (take i xs) ++ fill_pair g p ∷ []) (sym is)
    ∙ ap₂ (λ (v : Bytes) (t : Form). let made : Pair = record { variable = v; term = t } in map (fill_pair g) (take i xs) ++ made ∷ []) (sym named) (sym filled)
