-- What built-in words begin with.
use Rattle.std.proofs.Common.{◌≡◌, ◌<◌, [], ◌∷◌, length, refl, arith}
use Rattle.std.specs.Prelude.{None}
use Rattle.kif_tree.specs.Terms.{Bytes}
use Rattle.signatures.specs.Arities.{built_in}

pub none_without_bytes : (word : Bytes) → length word < 1 → built_in word ≡ None
none_without_bytes [] lt = refl
none_without_bytes (first ∷ rest) lt = absurd (omega (arith, lt))
