-- Of two readings of a text one goes on from the other.
use Rattle.std.proofs.Common.{◌≡◌, ℕ, Some, List, [], ◌∷◌, ◌++◌, ◌⊎◌, inl, inr, length, take, sym, ap, ◌∙◌, refl, append_assoc, append-nil}
use Rattle.std.specs.List.{slice_get}
use Rattle.std.proofs.lemmas.List.Concat.{flat_map-append}
use Rattle.kif_reader.specs.Cut.{Piece, bytes_of, joined, Stand}
use Rattle.kif_reader.specs.Reading.{mark_len}
use Rattle.kif_reader.specs.Spelling.{Lexed, tokens_of, Reads}
use Rattle.kif_reader.proofs.CutLaws.{GoesOn, cuts_compare, nothing_more}
use Rattle.kif_reader.proofs.ReadLaws.{tokens-append}

-- the reading goes on with more pieces
pub record ReadsOn (ts us : List Lexed) (b d r s : List ℕ) : Type 0 where
  pub more : List Piece
  pub tokens : us ≡ ts ++ tokens_of b more
  pub taken : d ≡ b ++ joined more
  pub rest : r ≡ joined more ++ s
  pub stand : Stand more s

reads_on : (text : List ℕ) (ts us : List Lexed) (b d r s : List ℕ) (is : Reads text ts b r) (other : Reads text us d s) → GoesOn is.pieces other.pieces r s → ReadsOn ts us b d r s
reads_on text ts us b d r s is other on =
    let mark = take (mark_len text) text in
    record {
      more = on.more;
      tokens = other.is ∙ ap (tokens_of mark) on.pieces ∙ tokens-append mark is.pieces on.more ∙ (λ i. sym is.is i ++ tokens_of (sym is.taken i) on.more);
      taken = other.taken ∙ ap (λ l. mark ++ joined l) on.pieces ∙ ap (λ l. mark ++ l) (flat_map-append bytes_of is.pieces on.more) ∙ sym (append_assoc mark (joined is.pieces) (joined on.more)) ∙ ap (λ l. l ++ joined on.more) (sym is.taken);
      rest = on.rest;
      stand = on.stand;
    }

pub reads_compare : (text : List ℕ) (ts us : List Lexed) (b d r s : List ℕ) → Reads text ts b r → Reads text us d s → ReadsOn ts us b d r s ⊎ ReadsOn us ts d b s r
reads_compare text ts us b d r s is other = ways (cuts_compare is.pieces other.pieces r s is.cuts.stand other.cuts.stand (sym is.cuts.whole ∙ other.cuts.whole))
  where
    ways : GoesOn is.pieces other.pieces r s ⊎ GoesOn other.pieces is.pieces s r → ReadsOn ts us b d r s ⊎ ReadsOn us ts d b s r
    ways (inl on) = inl (reads_on text ts us b d r s is other on)
    ways (inr on) = inr (reads_on text us ts d b s r other is on)

-- the tokens of a reading are a front of those of a whole one
pub reads_front : (text : List ℕ) (ts us : List Lexed) (b d r : List ℕ) → Reads text ts b r → Reads text us d [] → (more : List Lexed) × (us ≡ ts ++ more)
reads_front text ts us b d r is other = ways (reads_compare text ts us b d r [] is other)
  where
    ways : ReadsOn ts us b d r [] ⊎ ReadsOn us ts d b [] r → (more : List Lexed) × (us ≡ ts ++ more)
    ways (inl on) = (tokens_of b on.more, on.tokens)
    ways (inr on) = ([], sym (append-nil us) ∙ sym (on.tokens ∙ ap (λ l. us ++ tokens_of d l) (nothing_more on.more r on.rest on.stand)) ∙ sym (append-nil ts))

get_behind : (ts more : List Lexed) (t : Lexed) → slice_get (ts ++ t ∷ more) (length ts) ≡ Some t
get_behind [] more t = refl
get_behind (x ∷ xs) more t = get_behind xs more t

-- the last token of a reading has its number in a whole one
pub reads_number : (text : List ℕ) (ts us : List Lexed) (t : Lexed) (b d r : List ℕ) → Reads text (ts ++ t ∷ []) b r → Reads text us d [] → slice_get us (length ts) ≡ Some t
reads_number text ts us t b d r is other =
    let front = reads_front text (ts ++ t ∷ []) us b d r is other in
    ap (λ l. slice_get l (length ts)) (front.1 ∙ append_assoc ts (t ∷ []) front.0) ∙ get_behind ts front.0 t
