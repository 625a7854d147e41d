use Rattle.std.proofs.Common.{List, ℕ, ap}
use Rattle.std.proofs.lemmas.Result.{on_ok_weaker}
use Rattle.signatures.proofs.TypeLaws.{adds_by}
use Rattle.signatures.proofs.types.add.Goals as goal

pub returns : goal.returns
returns c =
    on_ok_weaker c.push.result
    (λ pushed.
    adds_by c.args.table.now c.push.new.table c.args.found c.in-Some.found c.bytes.result.now (record { subclass = c.in-Some.found.subclass; class = c.in_ok-class.class; place = c.in-Some.found.place }) c.in-Some.is c.bytes.ensures
    (ap (λ (text : List ℕ). record { subclass = c.in-Some.found.subclass; class = text; place = c.in-Some.found.place }) c.in_ok-class.ensures) pushed)
    c.push.ensures
