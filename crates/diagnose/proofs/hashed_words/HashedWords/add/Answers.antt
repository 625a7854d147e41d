use Rattle.std.proofs.Common.{List, ◌||◌, not, ap, ◌∙◌}
use Rattle.std.specs.Str.{bytes_eq}
use Rattle.kif_tree.specs.Shape.{is_among}
use Rattle.kif_tree.specs.Terms.{Bytes}
use Rattle.diagnose.proofs.HashedWordLaws.{among_texts, among_put}
use Rattle.diagnose.proofs.hashed_words.HashedWords.add.Goals as goal

pub returns-clause-added : goal.returns-clause-added
returns-clause-added c =
    c.in_ok-insert.ensures.added ∙ ap not (among_texts c.self.inside.words.keys c.args.word.now) ∙ ap (λ (ws : List Bytes). not (is_among ws c.args.word.now)) c.self.view_is

pub returns-clause-has : goal.returns-clause-has
returns-clause-has c = λ other.
    among_put c.self.inside.words.keys c.insert.new.self.keys c.args.word c.in_ok-insert.field-0 c.in_ok-insert.ensures.added c.in_ok-insert.ensures.keys other
    ∙ ap (λ (ws : List Bytes). is_among ws other || bytes_eq other c.args.word.now) c.self.view_is
