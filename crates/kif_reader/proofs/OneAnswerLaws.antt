-- What is answered for a text is the one answer that its definitions allow, or want of memory.
use Rattle.std.proofs.Common.{◌≡◌, ◌≢◌, ℕ, ◌⊎◌, inl, inr, List, refl}
use Rattle.kif_tree.specs.declared.place.Located.{Located}
use Rattle.kif_reader.specs.Spelling.{Spells, FirstFault}
use Rattle.kif_reader.specs.declared.kinds.ReadError.{ReadError}
use Rattle.kif_reader.specs.declared.kinds.ReadError.TheVariants as errors
use Rattle.kif_reader.proofs.OneFaultLaws.{spells_no_fault, fault_unique}

of_text : (error : ReadError) → (error ≡ errors.NoMemory) ⊎ (error ≢ errors.NoMemory)
of_text (errors.BadByte spot) = inr (λ e. absurd (cc))
of_text (errors.OpenString spot) = inr (λ e. absurd (cc))
of_text (errors.OpenList spot) = inr (λ e. absurd (cc))
of_text (errors.StrayClose spot) = inr (λ e. absurd (cc))
of_text (errors.BadEscape spot) = inr (λ e. absurd (cc))
of_text (errors.BadWord spot) = inr (λ e. absurd (cc))
of_text (errors.TooDeep spot) = inr (λ e. absurd (cc))
of_text (errors.LogicShape spot) = inr (λ e. absurd (cc))
of_text errors.NoMemory = inl refl

pub only_memory : (constituent : ℕ) (text : List ℕ) (found : ReadError) (forms : List Located) → FirstFault constituent text found → Spells constituent text forms → found ≡ errors.NoMemory
only_memory constituent text found forms fault spelled = ways (of_text found)
  where
    ways : (found ≡ errors.NoMemory) ⊎ (found ≢ errors.NoMemory) → found ≡ errors.NoMemory
    ways (inl memory) = memory
    ways (inr real) = absurd (spells_no_fault constituent text forms found spelled fault real)

pub same_fault : (constituent : ℕ) (text : List ℕ) (found error : ReadError) → FirstFault constituent text found → error ≢ errors.NoMemory → FirstFault constituent text error → (found ≡ error) ⊎ (found ≡ errors.NoMemory)
same_fault constituent text found error fault real other = ways (of_text found)
  where
    ways : (found ≡ errors.NoMemory) ⊎ (found ≢ errors.NoMemory) → (found ≡ error) ⊎ (found ≡ errors.NoMemory)
    ways (inl memory) = inr memory
    ways (inr also) = inl (fault_unique constituent text found error fault other also real)
