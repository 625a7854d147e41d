-- The nearest word by chains of told `subrelation` forms.
use Rattle.std.specs.Prelude.{◌≡◌, ℕ, ◌≤◌, ◌⊎◌, List}
use Rattle.std.specs.Cmp.Lexicographic.{slice_cmp}
use Rattle.std.specs.Ordering.{nat_cmp}
use Rattle.std.specs.declared.cmp.Ordering.TheVariants.{Less}
use Rattle.kif_tree.specs.Terms.{Bytes}
use Rattle.taxonomy.specs.declared.told.ChainKind.TheVariants as kinds
use Rattle.taxonomy.specs.Chains.{Chain, IsDistance}
use Rattle.taxonomy.specs.Told.{Link}

-- the first word stands before the second, by bytes
abbrev pub IsBefore : Bytes → Bytes → Type 0
IsBefore first second = slice_cmp nat_cmp first second ≡ Less

-- of the words that have something and to which a relation chain leads, one to which a shortest chain leads, and of these the first by bytes
pub record IsNearest (links : List Link) (Has : Bytes → Type 0) (word near : Bytes) : Type 0 where
  pub has : Has near
  pub distance : ℕ
  pub reached : IsDistance links kinds.Relation word near distance
  pub no_nearer : (other : Bytes) (n : ℕ) → Has other → IsDistance links kinds.Relation word other n → distance ≤ n
  pub first : (other : Bytes) → Has other → IsDistance links kinds.Relation word other distance → (near ≡ other) ⊎ IsBefore near other

-- no word to which a relation chain leads has it
abbrev pub NoneReached : List Link → (Bytes → Type 0) → Bytes → Type 0
NoneReached links Has word = (other : Bytes) → Has other → Chain links kinds.Relation word other → ⊥
