use Rattle.std.proofs.Common.{[], ◌∷◌, subst}
use Rattle.signatures.specs.Arities.{gives, IsByClass}
use Rattle.signatures.proofs.ArityLaws.{by_found, by_above, by_none}
use Rattle.signatures.proofs.arities.or_by.Goals as goal

pub returns-in-Some : goal.returns-in-Some
returns-in-Some c = λ classes h.
    by_found c.args.taxonomy.now.links c.args.word.now classes (gives c.args.class.now c.args.arity ∷ []) c.in-Some.arity (subst (IsByClass c.args.taxonomy.now.links c.args.word.now classes) c.in-Some.is h)

pub returns-then-is_above : goal.returns-then-is_above
returns-then-is_above c = λ classes h. by_above c.args.taxonomy.now.links c.args.word.now classes c.args.class.now c.args.arity c.args.found c.is_above.result c.in_default.is c.is_above.ensures c.if-is_above.true h

pub returns : goal.returns
returns c = λ classes h. by_none c.args.taxonomy.now.links c.args.word.now classes c.args.class.now c.args.arity c.args.found c.is_above.result c.in_default.is c.is_above.ensures c.if-is_above.false h
