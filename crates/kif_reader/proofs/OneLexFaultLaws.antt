-- A text has one first fault of a token at most, and none where it is cut whole.
use Rattle.std.proofs.Common.{◌≡◌, ℕ, List, [], ◌++◌, ◌⊎◌, inl, inr, sym, ap, ◌∙◌, refl, append-nil}
use Rattle.kif_reader.specs.Cut.{IsFault, joined}
use Rattle.kif_reader.specs.Reading.{fault_of, spot_of}
use Rattle.kif_reader.specs.Runs.{TellsTokens, TellsFault}
use Rattle.kif_reader.specs.Spelling.{Lexed}
use Rattle.kif_reader.specs.declared.bytes.Spot.{Spot}
use Rattle.kif_reader.specs.declared.kinds.Fault.{Fault}
use Rattle.kif_reader.specs.declared.kinds.Fault.TheVariants as faults
use Rattle.kif_reader.specs.declared.kinds.LexError.{LexError}
use Rattle.kif_reader.specs.declared.kinds.LexError.TheVariants as errors
use Rattle.kif_reader.specs.declared.kinds.Token.{Token}
use Rattle.kif_reader.proofs.CutLaws.{nothing_more}
use Rattle.kif_reader.proofs.FaultLaws.{no_end, fault_same}
use Rattle.kif_reader.proofs.OneFaultLaws.{lex_final, spot_same}
use Rattle.kif_reader.proofs.ReadsOnLaws.{ReadsOn, reads_compare}

-- two readings that end where they do are at one place
record SamePlace (b d r s : List ℕ) : Type 0 where
  before : b ≡ d
  rest : r ≡ s

-- no reading goes on from where a fault is met
stays : (fault : Fault) (inner tail : List ℕ) (ts us : List Lexed) (b d s : List ℕ) → IsFault fault inner tail → ReadsOn ts us b d (inner ++ tail) s → SamePlace b d (inner ++ tail) s
stays fault inner tail ts us b d s met on =
    let none = lex_final fault inner tail met on.more s on.rest on.stand in
    record {
      before = sym (on.taken ∙ ap (λ l. b ++ joined l) none ∙ append-nil b);
      rest = on.rest ∙ ap (λ l. joined l ++ s) none;
    }

lex_error : Fault → Spot → LexError
lex_error faults.BadByte spot = errors.BadByte spot
lex_error faults.OpenString spot = errors.OpenString spot
lex_error faults.BadEscape spot = errors.BadEscape spot
lex_error faults.BadWord spot = errors.BadWord spot

of_both : (error : LexError) → error ≡ lex_error (fault_of error) (spot_of error)
unfolding lex_error
of_both (errors.BadByte spot) = refl
of_both (errors.OpenString spot) = refl
of_both (errors.BadEscape spot) = refl
of_both (errors.BadWord spot) = refl

one_place : (text : List ℕ) (tokens others : List Token) (error other : LexError) (is : TellsFault text tokens error) (also : TellsFault text others other)
    → SamePlace is.before also.before (is.inner ++ is.rest) (also.inner ++ also.rest) → error ≡ other
one_place text tokens others error other is also same =
    let one = fault_same (fault_of error) (fault_of other) is.inner also.inner is.rest also.rest is.met also.met same.rest in
    let spot = spot_same (spot_of error) (spot_of other) (is.before ++ is.inner) (also.before ++ also.inner) is.place also.place (λ i. same.before i ++ one.inner i) in
    of_both error ∙ (λ i. lex_error (one.fault i) (spot i)) ∙ sym (of_both other)

pub one_lex_fault : (text : List ℕ) (tokens others : List Token) (error other : LexError) → TellsFault text tokens error → TellsFault text others other → error ≡ other
one_lex_fault text tokens others error other is also =
    ways (reads_compare text is.told.lexed also.told.lexed is.before also.before (is.inner ++ is.rest) (also.inner ++ also.rest) is.told.reads also.told.reads)
  where
    ways : ReadsOn is.told.lexed also.told.lexed is.before also.before (is.inner ++ is.rest) (also.inner ++ also.rest)
        ⊎ ReadsOn also.told.lexed is.told.lexed also.before is.before (also.inner ++ also.rest) (is.inner ++ is.rest) → error ≡ other
    ways (inl on) = one_place text tokens others error other is also (stays (fault_of error) is.inner is.rest is.told.lexed also.told.lexed is.before also.before (also.inner ++ also.rest) is.met on)
    ways (inr on) = sym (one_place text others tokens other error also is (stays (fault_of other) also.inner also.rest also.told.lexed is.told.lexed also.before is.before (is.inner ++ is.rest) also.met on))

pub whole_no_lex_fault : (text : List ℕ) (tokens others : List Token) (before : List ℕ) (error : LexError) → TellsTokens text tokens before [] → TellsFault text others error → ⊥
whole_no_lex_fault text tokens others before error whole is =
    ways (reads_compare text is.told.lexed whole.lexed is.before before (is.inner ++ is.rest) [] is.told.reads whole.reads)
  where
    ways : ReadsOn is.told.lexed whole.lexed is.before before (is.inner ++ is.rest) [] ⊎ ReadsOn whole.lexed is.told.lexed before is.before [] (is.inner ++ is.rest) → ⊥
    ways (inl on) = no_end (fault_of error) is.inner is.rest is.met (stays (fault_of error) is.inner is.rest is.told.lexed whole.lexed is.before before [] is.met on).rest
    ways (inr on) =
        let none = nothing_more on.more (is.inner ++ is.rest) on.rest on.stand in
        no_end (fault_of error) is.inner is.rest is.met (sym (on.rest ∙ ap (λ l. joined l ++ (is.inner ++ is.rest)) none))
