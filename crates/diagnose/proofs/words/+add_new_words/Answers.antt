use Rattle.std.proofs.Common.{◌+◌, sym, take}
use Rattle.std.specs.List.{list_any}
use Rattle.kif_tree.specs.Shape.{has_word}
use Rattle.diagnose.specs.WordFaults.{IsFault, is_word, occurs_in}
use Rattle.diagnose.proofs.NewWordLaws.{of_one, of_parts, of_other, of_more, new_as, new_then, new_none, gains_as, gains_then, gains_none}
use Rattle.diagnose.proofs.words.+add_new_words.Goals as goal

pub returns-in_ok-add_if_new-in-Word-clause-seen : goal.returns-in_ok-add_if_new-in-Word-clause-seen
returns-in_ok-add_if_new-in-Word-clause-seen t c =
    gains_as c.args.seen.now c.add_if_new.new.seen (is_word c.bytes.result.now) (occurs_in c.args.form.now) (of_one c.args.form.now c.in-Word.text c.bytes.result.now c.in-Word.is (sym c.bytes.ensures))
    c.in_ok-add_if_new-in-Word.ensures.seen

pub returns-in_ok-add_if_new-in-Word-clause-found : goal.returns-in_ok-add_if_new-in-Word-clause-found
returns-in_ok-add_if_new-in-Word-clause-found t c =
    new_as (IsFault c.args.taxonomy.now c.args.tables.now c.args.place) c.args.seen.now (is_word c.bytes.result.now) (occurs_in c.args.form.now) c.args.found.now.items c.add_if_new.new.found.items
    (of_one c.args.form.now c.in-Word.text c.bytes.result.now c.in-Word.is (sym c.bytes.ensures)) c.in_ok-add_if_new-in-Word.ensures.found

pub loop-part-preserved : goal.loop-part-preserved
loop-part-preserved t c =
    let more = of_more c.items-part-items.result.now c.loop-part.part-index c.part-item.result c.loop-part-test.true c.part-item.is in
    record {
      gains = gains_then c.args.seen.now c.loop-part.seen c.add_new_words.new.seen (λ word. list_any (has_word word) (take c.loop-part.part-index c.items-part-items.result.now)) (occurs_in c.part-item.result)
          (λ word. list_any (has_word word) (take (c.loop-part.part-index + 1) c.items-part-items.result.now)) c.loop-part.invariant.gains c.in_ok-add_new_words-in-List.ensures.seen more;
      adds = new_then (IsFault c.args.taxonomy.now c.args.tables.now c.args.place) c.args.seen.now c.loop-part.seen (λ word. list_any (has_word word) (take c.loop-part.part-index c.items-part-items.result.now)) (occurs_in c.part-item.result)
          (λ word. list_any (has_word word) (take (c.loop-part.part-index + 1) c.items-part-items.result.now)) c.args.found.now.items c.loop-part.found.items c.add_new_words.new.found.items
          c.loop-part.invariant.gains more c.loop-part.invariant.adds c.in_ok-add_new_words-in-List.ensures.found;
    }

pub returns-after-loop-part-clause-seen : goal.returns-after-loop-part-clause-seen
returns-after-loop-part-clause-seen t c =
    gains_as c.args.seen.now c.loop-part.seen (λ word. list_any (has_word word) (take c.loop-part.part-index c.items-part-items.result.now)) (occurs_in c.args.form.now)
    (of_parts c.args.form.now c.in-List.parts c.items-part-items.result.now c.loop-part.part-index c.in-List.is c.items-part-items.ensures c.loop-part-test.false) c.loop-part.invariant.gains

pub returns-after-loop-part-clause-found : goal.returns-after-loop-part-clause-found
returns-after-loop-part-clause-found t c =
    new_as (IsFault c.args.taxonomy.now c.args.tables.now c.args.place) c.args.seen.now (λ word. list_any (has_word word) (take c.loop-part.part-index c.items-part-items.result.now)) (occurs_in c.args.form.now)
    c.args.found.now.items c.loop-part.found.items
    (of_parts c.args.form.now c.in-List.parts c.items-part-items.result.now c.loop-part.part-index c.in-List.is c.items-part-items.ensures c.loop-part-test.false) c.loop-part.invariant.adds

pub returns-in_default : goal.returns-in_default
returns-in_default t c =
    let none = of_other c.args.form.now c.in_default.not-Word c.in_default.not-List in
    record {
      seen = gains_none c.args.seen.now (occurs_in c.args.form.now) none;
      found = new_none (IsFault c.args.taxonomy.now c.args.tables.now c.args.place) c.args.seen.now (occurs_in c.args.form.now) c.args.found.now.items none;
    }
