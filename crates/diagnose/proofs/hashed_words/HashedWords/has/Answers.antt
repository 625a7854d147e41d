use Rattle.std.proofs.Common.{List, ap, ◌∙◌}
use Rattle.kif_tree.specs.Shape.{is_among}
use Rattle.kif_tree.specs.Terms.{Bytes}
use Rattle.diagnose.proofs.HashedWordLaws.{among_texts}
use Rattle.diagnose.proofs.hashed_words.HashedWords.has.Goals as goal

pub returns : goal.returns
returns c = c.contains.ensures ∙ among_texts c.self.inside.words.keys c.args.word.now ∙ ap (λ (ws : List Bytes). is_among ws c.args.word.now) c.self.view_is
