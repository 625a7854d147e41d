use Rattle.kif_reader.proofs.OneLexFaultLaws.{one_lex_fault, whole_no_lex_fault}
use Rattle.kif_reader.proofs.RunLaws.{gives_tokens, gives_whole, gives_fault, tokens_stand}
use Rattle.kif_reader.proofs.laws.tokens_law.Goals as goal

pub returns : goal.returns
returns c = record { tokens = gives_tokens; places = tokens_stand; whole = gives_whole; fault = gives_fault; one = one_lex_fault; exclusive = whole_no_lex_fault }
