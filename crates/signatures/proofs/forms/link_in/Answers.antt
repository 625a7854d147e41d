use Rattle.taxonomy.proofs.FormLaws.{no_link, link_found}
use Rattle.signatures.proofs.forms.link_in.Goals as goal

pub returns-then-parts-ne3 : goal.returns-then-parts-ne3
returns-then-parts-ne3 c = no_link c.args.located.now c.parts_of-parts.result.now c.parts_of-parts.ensures c.if-parts-ne3.true

pub returns : goal.returns
returns c =
    link_found c.args.located.now c.parts_of-parts.result.now c.index-parts-0.result c.index-parts-1.result c.index-parts-2.result c.in_ok-head.head.now c.in_ok-low.low.now c.in_ok-high.high.now c.bytes.result.now c.in_ok-kind.kind
    c.parts_of-parts.ensures c.if-parts-ne3.false c.index-parts-0.is c.index-parts-1.is c.index-parts-2.is c.in_ok-head.ensures c.in_ok-low.ensures c.in_ok-high.ensures c.in_ok-kind.ensures c.bytes.ensures
