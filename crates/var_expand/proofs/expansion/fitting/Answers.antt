use Rattle.std.proofs.Common.{◌∙◌, ap, List}
use Rattle.var_expand.specs.Choices.{Choice}
use Rattle.var_expand.specs.Problems.{passing}
use Rattle.var_expand.specs.Search.{filled, relations_of}
use Rattle.var_expand.proofs.FinalLaws.{names_of}
use Rattle.var_expand.proofs.expansion.fitting.Goals as goal

pub offers-requires-clause-names : goal.offers-requires-clause-names
offers-requires-clause-names c h = names_of (relations_of c.args.problem.now) c.args.words.now c.items.result.now (c.items.ensures ∙ c.in_ok-names.ensures) (c.requires.words h)

pub returns : goal.returns
returns c = c.in_ok-find.ensures ∙ ap (λ (found : List Choice). filled found (passing c.args.problem.now)) c.new-found.ensures
