use Rattle.std.proofs.Common.{List, ◌||◌, ap, ◌∙◌}
use Rattle.std.specs.Str.{bytes_eq}
use Rattle.kif_tree.specs.Shape.{is_among}
use Rattle.kif_tree.specs.Terms.{Bytes}
use Rattle.kif_tree.proofs.WordSetLaws.{among_inserted, Key, texts_of}
use Rattle.kif_tree.proofs.word_set.WordSet.insert.Goals as goal

pub returns : goal.returns
returns c = λ other.
    ap (λ (keys : List Key). is_among (texts_of keys) other) c.in_ok-insert.ensures.keys ∙ among_inserted c.self.inside.words.keys c.args.word other
    ∙ ap (λ (ws : List Bytes). is_among ws other || bytes_eq other c.args.word.items) c.self.view_is
