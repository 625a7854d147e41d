use Rattle.std.proofs.Common.{ℕ, List, subst}
use Rattle.std.proofs.lemmas.List.{take_all}
use Rattle.taxonomy.specs.Chains.{later_kind}
use Rattle.taxonomy.specs.Numbered.{word}
use Rattle.taxonomy.specs.Tables.{shown, Passes}
use Rattle.taxonomy.proofs.ChainLaws.{row_at, NoneLeads, chain_from, no_chain}
use Rattle.taxonomy.proofs.tables.Tables.leads.Goals as goal

pub returns-then-reaches : goal.returns-then-reaches
returns-then-reaches c =
    chain_from (shown c.args.self.now).links c.args.kind (word c.args.self.now.names.words.items c.args.low) (word c.args.self.now.names.words.items c.args.high) c.items-told-items.result.now c.loop-told.told-index c.told-item.result
    (row_at c.args.self.now.names.words.items c.args.self.now.links.items c.args.self.now.rows.items c.args.low c.items-told-items.result.now c.requires.tables.rows c.requires.low (cc)) c.loop-told-test.true c.told-item.is c.if-not-is_same_kind.ensures
    (subst (λ (text : List ℕ). Passes (shown c.args.self.now).links (later_kind c.args.kind) text (word c.args.self.now.names.words.items c.args.high)) c.bytes.ensures c.if-reaches.ensures)

pub returns : goal.returns
returns c =
    no_chain (shown c.args.self.now).links c.args.kind (word c.args.self.now.names.words.items c.args.low) (word c.args.self.now.names.words.items c.args.high) c.items-told-items.result.now (row_at c.args.self.now.names.words.items c.args.self.now.links.items c.args.self.now.rows.items c.args.low c.items-told-items.result.now c.requires.tables.rows c.requires.low (cc))
    (subst (NoneLeads (shown c.args.self.now).links c.args.kind (word c.args.self.now.names.words.items c.args.high)) (take_all c.loop-told.told-index c.items-told-items.result.now c.loop-told-test.false) c.loop-told.invariant)
