use Rattle.std.proofs.Common.{rules, ◌≡◌, ◌∷◌, [], List, sym, subst}
use Rattle.taxonomy.specs.declared.runs.Run.{Run}
use Rattle.taxonomy.specs.Graph.{own}
use Rattle.taxonomy.specs.Runs.{IsUnion}
use Rattle.taxonomy.proofs.GraphLaws.{pass_grows}
use Rattle.taxonomy.proofs.closure.pass.Goals as goal

pub returns : goal.returns
returns c =
    pass_grows c.args.edge c.args.sets.now.items c.replace-known.new.dest c.items.result.now c.items-2.result.now c.into_items.result.items c.items-3.result.now c.in_ok-more.more.items c.of.result c.in-Some.field-0
    c.requires.low c.requires.high (cc) (cc) (cc) (cc) (cc) c.in_ok-more.ensures
    (subst (λ (runs : List Run). IsUnion runs c.in_ok-more.more.items (own c.args.edge.low ∷ [])) (sym c.of.ensures)
    (let alone : c.as_slice.result.now ≡ own c.args.edge.low ∷ [] = search rules in subst (IsUnion c.in_ok-both.both.items c.in_ok-more.more.items) alone c.in_ok-both.ensures)) c.in-Some.ensures
