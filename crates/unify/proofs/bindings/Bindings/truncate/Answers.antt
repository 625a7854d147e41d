use Rattle.std.proofs.Common.{take, sym, ap, ◌∙◌}
use Rattle.std.proofs.lemmas.List.{take-map}
use Rattle.unify.proofs.BindingLaws.{pair_of, pairs_of}
use Rattle.unify.proofs.bindings.Bindings.truncate.Goals as goal

pub returns : goal.returns
returns c =
    ap pairs_of c.truncate.ensures.items ∙ sym (take-map pair_of c.args.count c.self.inside.list.items) ∙ ap (take c.args.count) c.self.view_is
