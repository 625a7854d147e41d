-- What a call does to the bytes and files that an object tells. An object that doesn't tell goes on not telling.
use Rattle.std.specs.Prelude.{◌≡◌, ℕ, ◌<◌, ◌≤◌, List, ◌++◌, length, take, Option, Some, None, Result, Ok, Err, IfSome, find}
use Rattle.std.specs.Option.{option_map}
use Rattle.std.specs.Str.{bytes_eq}
use Rattle.std.specs.Io.KnownBytes.{append_known}
use Rattle.sig_io.specs.declared.files.Fetched.{Fetched}
use Rattle.sig_io.specs.declared.files.Fetched.TheVariants.{Whole, Absent, TooLong}

-- the bytes taken, from the front of the piece, were appended; a refusal appended nothing
abbrev pub WritesPart : {E : Type 0} → Option (List ℕ) → Option (List ℕ) → List ℕ → Result ℕ E → Type 0
WritesPart old new piece (Ok n) = new ≡ append_known old (take n piece)
WritesPart old new piece (Err e) = new ≡ old

-- a prefix of the piece was appended
abbrev pub WritesPrefix : Option (List ℕ) → Option (List ℕ) → List ℕ → Type 0
WritesPrefix old new piece = (n : ℕ) × (n ≤ length piece) × (new ≡ append_known old (take n piece))

-- a prefix of the piece was appended, and something of the piece is left
abbrev pub WritesLess : Option (List ℕ) → Option (List ℕ) → List ℕ → Type 0
WritesLess old new piece = (n : ℕ) × (n < length piece) × (new ≡ append_known old (take n piece))

-- the whole piece was appended, or at a refusal less than that
abbrev pub WritesAll : {T E : Type 0} → Option (List ℕ) → Option (List ℕ) → List ℕ → Result T E → Type 0
WritesAll old new piece (Ok x) = new ≡ append_known old piece
WritesAll old new piece (Err e) = WritesLess old new piece

-- the bytes of the first file of that name
abbrev pub body_of : List (List ℕ × List ℕ) → List ℕ → Option (List ℕ)
body_of files name = option_map (λ f. f.1) (find (λ f. bytes_eq f.0 name) files)

-- what a fetch did to the bytes that it appends to, and where files are told, when each answer comes
abbrev pub Fetches : {E : Type 0} → Option (List (List ℕ × List ℕ)) → List ℕ → ℕ → List ℕ → List ℕ → Result Fetched E → Type 0
Fetches told name limit old new (Ok Whole) = (bytes : List ℕ) × (new ≡ old ++ bytes) × (length bytes ≤ limit)
    × IfSome told (λ files. body_of files name ≡ Some bytes)
Fetches told name limit old new (Ok Absent) = (new ≡ old) × IfSome told (λ files. body_of files name ≡ None)
Fetches told name limit old new (Ok TooLong) = (new ≡ old)
    × IfSome told (λ files. (bytes : List ℕ) × (body_of files name ≡ Some bytes) × (limit < length bytes))
Fetches told name limit old new (Err e) = new ≡ old
