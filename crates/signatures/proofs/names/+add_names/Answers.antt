use Rattle.std.proofs.Common.{take}
use Rattle.std.specs.List.{list_any}
use Rattle.kif_tree.specs.Shape.{has_word}
use Rattle.signatures.specs.Marks.{is_word}
use Rattle.signatures.specs.Names.{occurs_in}
use Rattle.signatures.proofs.MarkLaws.{occurs_in_word, occurs_in_parts, occurs_in_other}
use Rattle.signatures.proofs.NameLaws.{no_names, same_names, part_names}
use Rattle.signatures.proofs.names.+add_names.Goals as goal

pub loop-part-preserved : goal.loop-part-preserved
loop-part-preserved t c =
    part_names c.args.heads.now c.args.arities.now c.args.found.now c.loop-part.found c.add_names.new.found c.items-part-items.result.now c.loop-part.part-index c.part-item.result c.loop-part-test.true c.part-item.is c.loop-part.invariant
    c.in_ok-add_names-in-List.ensures

pub returns-in_ok-add_name-in-Word : goal.returns-in_ok-add_name-in-Word
returns-in_ok-add_name-in-Word t c =
    same_names c.args.heads.now c.args.arities.now (is_word c.bytes.result.now) (occurs_in c.args.form.now) c.args.found.now c.add_name.new.found
    (λ other. occurs_in_word c.args.form.now c.in-Word.text c.bytes.result.now other c.in-Word.is c.bytes.ensures) c.in_ok-add_name-in-Word.ensures

pub returns-after-loop-part : goal.returns-after-loop-part
returns-after-loop-part t c =
    same_names c.args.heads.now c.args.arities.now (λ word. list_any (has_word word) (take c.loop-part.part-index c.items-part-items.result.now)) (occurs_in c.args.form.now) c.args.found.now c.loop-part.found
    (λ other. occurs_in_parts c.args.form.now c.in-List.parts c.items-part-items.result.now c.loop-part.part-index other c.in-List.is c.items-part-items.ensures c.loop-part-test.false) c.loop-part.invariant

pub returns-in_default : goal.returns-in_default
returns-in_default t c =
    no_names c.args.heads.now c.args.arities.now (occurs_in c.args.form.now) c.args.found.now (λ other. occurs_in_other c.args.form.now other c.in_default.not-Word c.in_default.not-List)
