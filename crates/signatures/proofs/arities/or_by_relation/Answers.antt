use Rattle.std.proofs.Common.{[], ◌∷◌, ◌++◌, codes}
use Rattle.signatures.specs.Arities.{gives, function_classes}
use Rattle.signatures.specs.declared.told.Arity.TheVariants.{Exactly}
use Rattle.signatures.proofs.arities.or_by_relation.Goals as goal

pub returns : goal.returns
returns c =
    let to_1 = function_classes ++ gives (codes "BinaryPredicate") (Exactly 2) ∷ [] in
    let to_2 = to_1 ++ gives (codes "BinaryRelation") (Exactly 2) ∷ [] in
    let to_3 = to_2 ++ gives (codes "TernaryPredicate") (Exactly 3) ∷ [] in
    let to_4 = to_3 ++ gives (codes "TernaryRelation") (Exactly 3) ∷ [] in
    let to_5 = to_4 ++ gives (codes "QuaternaryPredicate") (Exactly 4) ∷ [] in
    let to_6 = to_5 ++ gives (codes "QuaternaryRelation") (Exactly 4) ∷ [] in
    let to_7 = to_6 ++ gives (codes "QuintaryPredicate") (Exactly 5) ∷ [] in
    c.or_by.ensures to_7
    (c.or_by-found-7.ensures to_6 (c.or_by-found-6.ensures to_5 (c.or_by-found-5.ensures to_4 (c.or_by-found-4.ensures to_3 (c.or_by-found-3.ensures to_2 (c.or_by-found-2.ensures to_1 (c.or_by-found.ensures function_classes c.requires)))))))
