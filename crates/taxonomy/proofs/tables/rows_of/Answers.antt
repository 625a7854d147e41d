use Rattle.taxonomy.proofs.TableLaws.{any, rows_more}
use Rattle.taxonomy.proofs.tables.rows_of.Goals as goal

pub loop-link-preserved : goal.loop-link-preserved
loop-link-preserved c =
    rows_more c.args.words.now c.args.links.now c.loop-link.link-index any c.loop-link.rows.items c.add_told.new.rows.items c.loop-link-test.true c.requires.within c.requires.distinct c.loop-link.invariant
    c.in_ok-add_told.ensures
