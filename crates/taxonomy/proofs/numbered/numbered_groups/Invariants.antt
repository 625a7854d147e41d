use Rattle.std.proofs.Common.{take}
use Rattle.taxonomy.specs.Numbered.{AreGroups}
use Rattle.taxonomy.specs.Names.{AreNumbered, Extends}
use Rattle.taxonomy.proofs.numbered.numbered_groups.Given as goal

abbrev pub invariant-loop-form : goal.invariant-loop-form
invariant-loop-form l = AreNumbered l.names.keys.entries l.names.places.items l.names.words.items × Extends l.fn.names.words.items l.names.words.items × AreGroups (take l.form-index l.forms) l.names.words.items l.groups.items
