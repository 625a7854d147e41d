use Rattle.std.proofs.Common.{[], ◌∷◌, ◌++◌, codes, refl}
use Rattle.signatures.specs.Arities.{gives}
use Rattle.signatures.specs.declared.told.Arity.TheVariants.{Exactly}
use Rattle.signatures.proofs.arities.by_function.Goals as goal

pub returns : goal.returns
returns c =
    let to_1 = gives (codes "UnaryFunction") (Exactly 1) ∷ [] in
    let to_2 = to_1 ++ gives (codes "BinaryFunction") (Exactly 2) ∷ [] in
    let to_3 = to_2 ++ gives (codes "TernaryFunction") (Exactly 3) ∷ [] in
    c.or_by.ensures to_3 (c.or_by-found-3.ensures to_2 (c.or_by-found-2.ensures to_1 (c.or_by-found.ensures [] refl)))
