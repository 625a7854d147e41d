-- Whether a chain leads, as the taxonomy's answer tells it.
use Rattle.std.proofs.Common.{◌≡◌, Bool, true, false, List, [], ◌∷◌, ◌&&◌, ◌||◌, map, filter, if◌then◌else◌, refl, sym, ap}
use Rattle.std.specs.List.{list_any}
use Rattle.std.specs.Str.{bytes_eq}
use Rattle.std.specs.Prelude.{◌↔◌, IsTrue}
use Rattle.kif_tree.specs.Terms.{Bytes}
use Rattle.taxonomy.specs.ChainDecision.{leads_by, leads_by-exact, is_kind}
use Rattle.taxonomy.specs.Chains.{Chain, parents, as_told}
use Rattle.taxonomy.specs.Told.{Link}
use Rattle.taxonomy.specs.declared.told.ChainKind.{ChainKind}
use Rattle.var_expand.specs.Search.{begins_chain, is_of_kind}

by_cases : (a b : Bool) → (a ≡ true → b ≡ true) → (b ≡ true → a ≡ true) → a ≡ b
by_cases true true h k = refl
by_cases true false h k = sym (h refl)
by_cases false true h k = k refl
by_cases false false h k = refl

pub above_is : (links : List Link) (kind : ChainKind) (low high : Bytes) (answer : Bool) → (IsTrue answer ↔ Chain links kind low high) → answer ≡ leads_by links kind low high
above_is links kind low high answer exact =
    by_cases answer (leads_by links kind low high) (λ h. (leads_by-exact links kind low high).1 (exact.0 h)) (λ h. exact.1 ((leads_by-exact links kind low high).0 h))

-- what is told of a word are the links that begin with it
pub parents_begin : (kind : ChainKind) (word : Bytes) (links : List Link) → list_any (is_of_kind kind) (parents links word) ≡ begins_chain links kind word
parents_begin kind word [] = refl
parents_begin kind word (link ∷ links) = go (bytes_eq link.low word) (parents_begin kind word links)
  where
    go : (b : Bool) → list_any (is_of_kind kind) (parents links word) ≡ begins_chain links kind word
        → list_any (is_of_kind kind) (map as_told (if b then link ∷ filter (λ (l : Link). bytes_eq l.low word) links else filter (λ (l : Link). bytes_eq l.low word) links)) ≡ ((b && is_kind kind link.kind) || begins_chain links kind word)
    go true h = ap (λ c. is_kind kind link.kind || c) h
    go false h = h
