use Rattle.std.proofs.lemmas.Result.{on_ok_weaker}
use Rattle.diagnose.proofs.WordFaultLaws.{seen_more, all_faults}
use Rattle.diagnose.proofs.words.add_word_faults.Goals as goal

pub returns-clause-seen : goal.returns-clause-seen
returns-clause-seen c =
    on_ok_weaker c.add_disjoint.result
    (λ _ before seen not_shown. seen_more before c.args.located.now c.args.seen.now c.add_new_words.new.seen c.in_ok-add_new_words.ensures.seen seen not_shown)
    c.add_disjoint.ensures

pub returns-clause-found : goal.returns-clause-found
returns-clause-found c =
    on_ok_weaker c.add_disjoint.result
    (λ disjoint before after stands.
    all_faults before c.args.located.now after c.args.taxonomy.now c.args.tables.now c.args.seen.now stands c.args.found.now.items c.add_new_words.new.found.items c.add_disjoint.new.found.items c.in_ok-add_new_words.ensures.found disjoint)
    c.add_disjoint.ensures
