use Rattle.std.proofs.Common.{[]}
use Rattle.std.specs.List.{filter_map}
use Rattle.std.specs.Prelude.{true}
use Rattle.signatures.specs.Below.{arity_word}
use Rattle.signatures.specs.OwnArities.{IsRight, NeedsNone}
use Rattle.signatures.proofs.ArityLaws.{own_arities_by}
use Rattle.signatures.proofs.WordTableLaws.{table_of_none}
use Rattle.signatures.proofs.arities.own_arities.Goals as goal

pub returns : goal.returns
returns c =
    own_arities_by c.args.forms.now c.in_ok-below.below c.add_all-2.new.table c.in_ok-below.ensures
    (c.in_ok-add_all-2.ensures (filter_map (arity_word c.in_ok-below.below true) c.args.forms.now)
    (c.in_ok-add_all.ensures [] (table_of_none (IsRight c.args.forms.now) (NeedsNone c.args.forms.now) c.new-table.result c.new-table.ensures.empty)))
