use Rattle.kif_tree.proofs.FreeLaws.{free_once}
use Rattle.kif_tree.proofs.free.free_names.Goals as goal

pub returns : goal.returns
returns c =
    free_once c.once.result c.args.form.now c.new-found.result.items c.append_free.new.found.items c.as_slice.result.now c.new-hidden.result
    c.new-found.ensures.items c.new-hidden.ensures c.as_slice.ensures.value c.in_ok-append_free.ensures.found c.once.ensures
