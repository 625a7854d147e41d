use Rattle.std.proofs.Common.{◌≡◌, ◌+◌, ◌-◌, ap, arith, length}
use Rattle.std.proofs.lemmas.Result.{err_from_is_err_and}
use Rattle.translate.proofs.InputLaws.{translations_are_inputs, translations_are_sentences}
use Rattle.translate.proofs.TranslationLaws.{whole, whole_more, refused}
use Rattle.translate.proofs.translation.translate.Goals as goal

pub returns-in_err-piece-clause-translates : goal.returns-in_err-piece-clause-translates
returns-in_err-piece-clause-translates c =
    let p = err_from_is_err_and c.from_residual.result c.from_residual.ensures.1 in
    let left : 400000 - length c.items.result.now + length c.loop-located.translated.inputs ≡ 400000 = omega (arith, ap length c.items.ensures, c.loop-located.invariant.within) in
    rw (p.1, p.2)
    (refused c.args.taxonomy.now.links c.args.signatures.now c.args.forms.now c.loop-located.located-index c.located-item.result c.loop-located.translated _ c.in_err-piece.field-0.0
    c.loop-located-test.true c.located-item.is left c.loop-located.invariant c.in_err-piece.ensures)

pub loop-located-preserved : goal.loop-located-preserved
loop-located-preserved c =
    let left : 400000 - length c.items.result.now + length c.loop-located.translated.inputs ≡ 400000 = omega (arith, ap length c.items.ensures, c.loop-located.invariant.within) in
    whole_more c.args.taxonomy.now.links c.args.signatures.now c.args.forms.now c.loop-located.located-index c.located-item.result c.loop-located.translated c.in_ok-piece.piece c.append.new.self _
    c.loop-located-test.true c.located-item.is left c.loop-located.invariant c.in_ok-piece.ensures.0 c.in_ok-piece.ensures.1 c.in_ok-append.ensures

pub returns-clause-proper : goal.returns-clause-proper
returns-clause-proper c =
    translations_are_inputs c.args.taxonomy.now.links c.args.signatures.now c.args.forms.now c.loop-located.translated
    (whole c.args.taxonomy.now.links c.args.signatures.now c.args.forms.now c.loop-located.located-index c.loop-located.translated c.loop-located-test.false c.loop-located.invariant).translation

pub returns-clause-sentences : goal.returns-clause-sentences
returns-clause-sentences c =
    translations_are_sentences c.args.taxonomy.now.links c.args.signatures.now c.args.forms.now c.loop-located.translated
    (whole c.args.taxonomy.now.links c.args.signatures.now c.args.forms.now c.loop-located.located-index c.loop-located.translated c.loop-located-test.false c.loop-located.invariant).translation
