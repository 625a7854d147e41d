use Rattle.std.proofs.Common.{◌≡◌, true, ap, sym, subst, ◌∙◌, arith, rules}
use Rattle.kif_tree.specs.declared.form.Form.{Form}
use Rattle.kif_tree.specs.Clauses.{Literals}
use Rattle.kif_tree.specs.Subst.{lookup}
use Rattle.calculus.specs.Tidy.{tidy}
use Rattle.calculus.specs.Rules.{changed}
use Rattle.calculus.proofs.PlaceLaws.{sides-whole, opened-whole}
use Rattle.calculus_programs.proofs.StepLaws.{option_some}
use Rattle.unify.specs.Unifiers.{HasNoneApart, ArePlain, is_plain}
use Rattle.unify.proofs.PlainLaws.{plain-lookup}
use Rattle.infer.specs.declared.apart.Apart.{Apart}
use Rattle.infer.specs.Fillings.{IsOf, Meet}
use Rattle.infer.specs.Plain.{IsPlain}
use Rattle.infer.proofs.ExchangeLaws.{plain_inside, plain_side, plain_changed, plain_exchanged}
use Rattle.infer.proofs.ParamodulateLaws.{nothing_at_variable, nothing_apart, conclusion_at, from_of, inner_of, nth_index, frames_some}
use Rattle.infer.proofs.PlainClauseLaws.{plain-atom, plain-tidy}
use Rattle.infer.proofs.paramodulation.paramodulant.Goals as goal

abbrev IsPlainForm : Form → Type 0
IsPlainForm form = is_plain form ≡ true

pub returns-in-Variable-clause-at : goal.returns-in-Variable-clause-at
returns-in-Variable-clause-at c = λ clauses source_at target_at.
    let equality = c.args.equality.now in
    let source = equality.source in
    let target = c.args.target.now in
    nothing_at_variable clauses source.clause.now source.number source.literal equality.flipped equality.from.now equality.to.now target.clause.now
    target.number target.literal c.args.path.now c.args.inner.now
    source_at target_at c.requires.equation c.requires.leads c.requires.inside c.requires.asserts c.in-Variable.field-0 c.in-Variable.is

pub meet-requires : goal.meet-requires
meet-requires c =
    let equality = c.args.equality.now in
    let source = equality.source in
    let target = c.args.target.now in
    record {
      first = subst (λ (clause : Literals). IsOf clause equality.from.now) (sym (c.items.ensures ∙ c.first.view_is))
          (from_of source.clause.now source.literal equality.flipped equality.from.now equality.to.now c.requires.equation);
      second = subst (λ (clause : Literals). IsOf clause c.args.inner.now) (sym (c.items-2.ensures ∙ c.second.view_is))
          (inner_of target.clause.now target.literal c.args.path.now c.args.inner.now c.requires.leads);
    }

pub returns-in_default-2-clause-at : goal.returns-in_default-2-clause-at
returns-in_default-2-clause-at c = λ clauses source_at target_at.
    let equality = c.args.equality.now in
    let source = equality.source in
    let target = c.args.target.now in
    nothing_apart clauses source.clause.now source.number source.literal equality.flipped equality.from.now equality.to.now target.clause.now target.number
    target.literal c.args.path.now c.args.inner.now
    source_at target_at c.requires.equation c.requires.leads c.requires.inside c.requires.asserts
    (let none : HasNoneApart equality.from.now c.args.inner.now = grind (arith, c.in_ok-apart.ensures.meet, c.in_default-2.is) in none)

pub replaced-requires : goal.replaced-requires
replaced-requires c = record {
  source = (nth_index c.args.equality.now.source.clause.now c.args.equality.now.source.literal c.requires.equation.literal c.requires.equation.at).0;
  target = (nth_index c.args.target.now.clause.now c.args.target.now.literal c.requires.leads.literal c.requires.leads.at).0;
}

pub returns-clause-at : goal.returns-clause-at
returns-clause-at c = λ clauses source_at target_at.
    let equality = c.args.equality.now in
    let source = equality.source in
    let target = c.args.target.now in
    let leads = c.requires.leads in
    let meet : Meet source.clause.now equality.from.now target.clause.now c.args.inner.now c.in-Some.apart =
    subst (λ (o : Literals). Meet o equality.from.now target.clause.now c.args.inner.now c.in-Some.apart) (c.items.ensures ∙ c.first.view_is)
    (subst (λ (o : Literals). Meet c.items.result.now equality.from.now o c.args.inner.now c.in-Some.apart) (c.items-2.ensures ∙ c.second.view_is)
    (option_some c.in_ok-apart.field-0 (HasNoneApart equality.from.now c.args.inner.now)
    (λ (apart : Apart). Meet c.items.result.now equality.from.now c.items-2.result.now c.args.inner.now apart) c.in-Some.apart
    c.in_ok-apart.ensures.meet c.in-Some.is)) in
    let made = c.in_ok-replaced.ensures leads.literal leads.place (nth_index target.clause.now target.literal leads.literal leads.at).1 leads.opens in
    conclusion_at clauses source.clause.now source.number source.literal equality.flipped equality.from.now equality.to.now target.clause.now target.number
    target.literal c.args.path.now c.args.inner.now
    source_at target_at c.requires.equation c.requires.leads c.requires.inside c.requires.asserts c.in_default.not-Variable c.in-Some.apart meet
    c.in_ok-clause.clause c.of-path.result (c.in_ok-clause.ensures ∙ ap tidy made) (let way : c.of-path.result ≡ c.args.path.now = search rules in way)

pub returns-clause-plain : goal.returns-clause-plain
returns-clause-plain c = λ source_plain target_plain.
    let equality = c.args.equality.now in
    let source = equality.source in
    let target = c.args.target.now in
    let leads = c.requires.leads in
    let equation = c.requires.equation in
    let left = c.in-Some.apart.left.pairs in
    let right = c.in-Some.apart.right.pairs in
    let s_at = nth_index source.clause.now source.literal equation.literal equation.at in
    let m_at = nth_index target.clause.now target.literal leads.literal leads.at in
    let atom = plain-atom source.clause.now source.literal equation.literal s_at.0 s_at.1 source_plain in
    let sides = plain_side equality.flipped equation.equality (subst IsPlainForm (sides-whole equation.literal.atom equation.equality equation.equal) atom) in
    let whole =
    subst IsPlainForm (opened-whole c.args.path.now leads.literal.atom leads.place leads.opens)
    (plain-atom target.clause.now target.literal leads.literal m_at.0 m_at.1 target_plain) in
    let inner = subst IsPlainForm leads.is (plain_inside leads.place.frames leads.place.inner whole) in
    let pairs = option_some c.in_ok-apart.field-0 (Unit {0}) (λ (apart : Apart). ArePlain apart.left.pairs × ArePlain apart.right.pairs) c.in-Some.apart
    (c.in_ok-apart.ensures.plain (subst IsPlainForm (sym equation.from_is) sides.0) inner) c.in-Some.is in
    let made = c.in_ok-replaced.ensures leads.literal leads.place m_at.1 leads.opens in
    let exchanged_plain =
    plain_exchanged source.clause.now source.literal (lookup left) target.clause.now target.literal (lookup right)
    (changed (lookup left) equality.to.now (lookup right) leads.literal leads.place)
    (plain-lookup left pairs.0) (plain-lookup right pairs.1) source_plain target_plain
    (plain_changed (lookup left) equality.to.now (lookup right) leads.literal leads.place (plain-lookup left pairs.0) (plain-lookup right pairs.1)
    (frames_some c.args.path.now leads.literal.atom leads.place c.requires.inside leads.opens) whole (subst IsPlainForm (sym equation.to_is) sides.1)) in
    record {
      clause = subst IsPlain (sym (c.in_ok-clause.ensures ∙ ap tidy made)) (plain-tidy _ exchanged_plain);
      step = pairs;
    }
