-- A translation grows form by form.
use Rattle.std.proofs.Common.{◌≡◌, ℕ, ◌+◌, ◌<◌, ◌≤◌, ◌⊎◌, inl, inr, List, [], ◌∷◌, ◌++◌, take, length, get_or, arith, refl, sym, ap, ◌∙◌, subst, append_assoc, append-nil, length-append}
use Rattle.std.proofs.lemmas.List.{take_all}
use Rattle.kif_tree.specs.declared.clause.InputClause.{InputClause}
use Rattle.kif_tree.specs.declared.place.Located.{Located}
use Rattle.taxonomy.specs.Told.{Link}
use Rattle.signatures.specs.declared.signatures.Signatures.{Signatures}
use Rattle.diagnose.specs.declared.diagnostic.Diagnostic.{Diagnostic}
use Rattle.diagnose.proofs.WholeLaws.{one_taken}
use Rattle.translate.specs.Pieces.{IsPiece, IsPieceAbove}
use Rattle.translate.specs.Translation.{ArePieces, joined, all_of, IsFullAt, IsWhole, IsFull}
use Rattle.translate.specs.declared.translated.Guarded.{Guarded}
use Rattle.translate.specs.declared.translated.Translated.{Translated}
use Rattle.translate.specs.declared.translated.TranslateError.{TranslateError}
use Rattle.translate.specs.declared.translated.TranslateError.TheVariants as errors

abbrev the_translated : List InputClause → List Guarded → List Diagnostic → Translated
the_translated inputs guarded left_out = record { inputs = inputs; guarded = guarded; left_out = left_out }

same_parts : {a b : List InputClause} {c d : List Guarded} {e f : List Diagnostic} → a ≡ b → c ≡ d → e ≡ f → the_translated a c e ≡ the_translated b d f
same_parts p q r = cc

pieces_more : (links : List Link) (signatures : Signatures) (forms : List Located) (pieces : List Translated) (located : Located) (piece : Translated) → ArePieces links signatures forms pieces → IsPiece links signatures located piece
    → ArePieces links signatures (forms ++ located ∷ []) (pieces ++ piece ∷ [])
pieces_more links signatures [] [] located piece each is = (is, tt)
pieces_more links signatures [] (first ∷ pieces) located piece each is = absurd each
pieces_more links signatures (first ∷ forms) [] located piece each is = absurd each
pieces_more links signatures (first ∷ forms) (its ∷ pieces) located piece each is = (each.0, pieces_more links signatures forms pieces located piece each.1 is)

all_more : (pieces : List Translated) (piece : Translated) → all_of (pieces ++ piece ∷ []) ≡ joined (all_of pieces) piece
all_more [] piece = same_parts (append-nil piece.inputs) (append-nil piece.guarded) (append-nil piece.left_out)
all_more (first ∷ pieces) piece =
    let rest = all_of pieces in
    ap (joined first) (all_more pieces piece)
    ∙ same_parts (sym (append_assoc first.inputs rest.inputs piece.inputs)) (sym (append_assoc first.guarded rest.guarded piece.guarded)) (sym (append_assoc first.left_out rest.left_out piece.left_out))

pub whole_more : (links : List Link) (signatures : Signatures) (forms : List Located) (i : ℕ) (located : Located) (before piece after : Translated) (room : ℕ)
    → i < length forms → located ≡ get_or forms i located → room + length before.inputs ≡ 400000 → IsWhole links signatures (take i forms) before → IsPiece links signatures located piece → length piece.inputs ≤ room
    → after ≡ joined before piece → IsWhole links signatures (take (i + 1) forms) after
whole_more links signatures forms i located before piece after room lt is left so_far gives fits e =
    let taken = one_taken forms i located lt is in
    let old = so_far.translation in
    subst (λ (gone : List Located). IsWhole links signatures gone after) (sym taken.2)
    (record {
      translation = record {
        pieces = old.pieces ++ piece ∷ [];
        each = pieces_more links signatures (take i forms) old.pieces located piece old.each gives;
        is = e ∙ ap (λ (t : Translated). joined t piece) old.is ∙ sym (all_more old.pieces piece);
      };
      within = let many = ap (λ (t : Translated). length t.inputs) e ∙ length-append before.inputs piece.inputs in omega (arith, many);
    })

pub whole : (links : List Link) (signatures : Signatures) (forms : List Located) (i : ℕ) (translated : Translated) → length forms ≤ i → IsWhole links signatures (take i forms) translated → IsWhole links signatures forms translated
whole links signatures forms i translated le so_far = subst (λ (gone : List Located). IsWhole links signatures gone translated) (take_all i forms le) so_far

pub full : (links : List Link) (signatures : Signatures) (forms : List Located) (i : ℕ) (located : Located) (before : Translated) (room : ℕ) (error : TranslateError)
    → i < length forms → located ≡ get_or forms i located → room + length before.inputs ≡ 400000 → IsWhole links signatures (take i forms) before → IsPieceAbove links signatures located room error → IsFull links signatures forms error
full links signatures forms i located before room error lt is left so_far above =
    let taken = one_taken forms i located lt is in
    let told : IsFullAt links signatures forms located.place = record {
      before = take i forms;
      located = located;
      after = taken.0;
      stand = taken.1;
      at = refl;
      so_far = before;
      translated = so_far.translation;
      room = so_far.within;
      piece = above.piece;
      gives = above.gives;
      passes = let more = above.above in omega (arith, more);
    } in
    subst (IsFull links signatures forms) (sym above.told) told

pub refused : (links : List Link) (signatures : Signatures) (forms : List Located) (i : ℕ) (located : Located) (before : Translated) (room : ℕ) (error : TranslateError)
    → i < length forms → located ≡ get_or forms i located → room + length before.inputs ≡ 400000 → IsWhole links signatures (take i forms) before → (error ≡ errors.NoMemory) ⊎ IsPieceAbove links signatures located room error
    → (error ≡ errors.NoMemory) ⊎ IsFull links signatures forms error
refused links signatures forms i located before room error lt is left so_far (inl none) = inl none
refused links signatures forms i located before room error lt is left so_far (inr above) = inr (full links signatures forms i located before room error lt is left so_far above)
