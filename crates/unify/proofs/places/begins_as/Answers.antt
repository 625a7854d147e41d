use Rattle.std.proofs.Common.{◌≡◌, arith}
use Rattle.unify.proofs.PlaceLaws.{first_bound, word_bound}
use Rattle.unify.proofs.places.begins_as.Goals as goal

pub returns-in_default-target : goal.returns-in_default-target
returns-in_default-target c _ g e =
    let first = first_bound g c.args.patterns.now c.args.targets.now c.pattern-item.result c.target-item.result
    c.in-len1-up.len_at_least c.in-len1-up-targets.len_at_least c.pattern-item.is c.target-item.is e in
    c.in_default-target.not-Word c.in-Word.word (word_bound g c.pattern-item.result c.target-item.result c.in-Word.word c.in-Word.is first)

pub returns : goal.returns
returns c refused g e =
    let first = first_bound g c.args.patterns.now c.args.targets.now c.pattern-item.result c.target-item.result
    c.in-len1-up.len_at_least c.in-len1-up-targets.len_at_least c.pattern-item.is c.target-item.is e in
    let word = word_bound g c.pattern-item.result c.target-item.result c.in-Word.word c.in-Word.is first in
    let same : c.in-Word.word ≡ c.in-Word-target.other = cc in
    grind (arith, c.equals.ensures, same, refused)
