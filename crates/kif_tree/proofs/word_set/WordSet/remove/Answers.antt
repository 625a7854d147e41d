use Rattle.std.proofs.Common.{List, ◌&&◌, not, ap, ◌∙◌}
use Rattle.std.specs.Str.{bytes_eq}
use Rattle.kif_tree.specs.Shape.{is_among}
use Rattle.kif_tree.specs.Terms.{Bytes}
use Rattle.kif_tree.proofs.WordSetLaws.{among_removed}
use Rattle.kif_tree.proofs.word_set.WordSet.remove.Goals as goal

pub returns : goal.returns
returns c = λ other.
    among_removed c.self.inside.words.keys c.remove.new.self.keys c.args.word.now c.remove.ensures.keys c.remove.ensures.updates.1 other
    ∙ ap (λ (ws : List Bytes). is_among ws other && not (bytes_eq other c.args.word.now)) c.self.view_is
