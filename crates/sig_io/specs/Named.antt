-- Files as pairs of a name and its bytes.
use Rattle.std.specs.Prelude.{◌≢◌, ℕ, List, map, AllPairs}
use Rattle.sig_io.specs.declared.named.NamedFile.{NamedFile}

abbrev pub pairs_of : List NamedFile → List (List ℕ × List ℕ)
pairs_of = map (λ f. (f.name, f.body))

abbrev pub names_of : List NamedFile → List (List ℕ)
names_of = map (λ f. f.name)

-- no name stands twice
abbrev pub AreDistinct : List (List ℕ) → Type 0
AreDistinct = AllPairs (λ a b. a ≢ b)
