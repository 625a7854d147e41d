use Rattle.std.proofs.Common.{sym, ◌∙◌}
use Rattle.diagnose.specs.WordFaults.{IsDisjoint}
use Rattle.diagnose.proofs.FoundLaws.{adds_none}
use Rattle.diagnose.proofs.WordFaultLaws.{not_disjoint, disjoint_one}
use Rattle.diagnose.proofs.words.add_disjoint.Goals as goal

pub returns-in_default-are_disjoint : goal.returns-in_default-are_disjoint
returns-in_default-are_disjoint c =
    adds_none (IsDisjoint c.args.taxonomy.now c.args.located.now) c.args.found.now.items
    (not_disjoint c.args.taxonomy.now c.args.located.now c.in-Some.word.now c.bytes-3.result.now c.bytes-4.result.now c.in-Some.ensures c.bytes-3.ensures c.bytes-4.ensures c.in_default-are_disjoint.ensures)

pub returns : goal.returns
returns c =
    disjoint_one c.args.taxonomy.now c.args.located.now c.in-Some.word.now c.bytes.result.now c.bytes-2.result.now c.bytes-3.result.now c.bytes-4.result.now c.in_ok-term.term c.in-Some-are_disjoint.by c.args.found.now.items c.push.new.self.items
    c.in-Some.ensures c.bytes.ensures c.bytes-2.ensures c.bytes-3.ensures c.bytes-4.ensures c.in_ok-term.ensures c.if-not-is_first_told.ensures (sym c.is_plain.ensures ∙ c.if-not-is_plain.false) c.in-Some-are_disjoint.ensures c.in_ok-push.ensures.items
