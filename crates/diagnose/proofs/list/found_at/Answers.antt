use Rattle.std.proofs.Common.{◌++◌, ◌∷◌}
use Rattle.diagnose.proofs.WholeLaws.{found_here}
use Rattle.diagnose.proofs.list.found_at.Goals as goal

pub returns-clause-found : goal.returns-clause-found
returns-clause-found c = λ before after differ shown tables seen.
    found_here (before ++ c.args.located.now ∷ after) c.args.located.now c.new-found.result.items c.add_word_faults.new.found.items c.add_argument_faults.new.found.items c.add_variable_faults.new.found.items c.new-found.ensures.items
    (c.in_ok-add_word_faults.ensures.found before after (record { differ = differ; not_shown = shown; told = tables.told; documented = tables.documented; unstated = tables.unstated; before_it = seen }))
    (c.in_ok-add_argument_faults.ensures (before ++ c.args.located.now ∷ after) tables.told tables.signed tables.classes) c.in_ok-add_variable_faults.ensures
