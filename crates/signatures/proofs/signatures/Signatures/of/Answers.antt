use Rattle.std.proofs.Common.{sym, subst}
use Rattle.signatures.specs.OwnArities.{AreOwnArities}
use Rattle.signatures.proofs.TableLaws.{are_signatures}
use Rattle.signatures.proofs.signatures.Signatures.of.Goals as goal

pub returns : goal.returns
returns c =
    are_signatures c.args.forms.now (record { arities = c.in_ok-arities.arities; types = c.in_ok-types.types; ranges = c.in_ok-ranges.ranges; relations = c.in_ok-relations.relations }) c.in_ok-names.names c.in_ok-heads.heads
    (subst (AreOwnArities c.args.forms.now) (sym c.in_ok-arities.ensures.own) c.in_ok-own.ensures) c.in_ok-arities.ensures.inherits c.in_ok-types.ensures c.in_ok-ranges.ensures c.in_ok-heads.ensures c.in_ok-names.ensures
    c.in_ok-relations.ensures.ascending c.in_ok-relations.ensures.names
