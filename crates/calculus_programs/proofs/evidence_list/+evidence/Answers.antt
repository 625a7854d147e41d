use Rattle.std.proofs.Common.{◌≡◌, ◌<◌, List, get_or, Some, ◌++◌, arith, sym, ap, ◌∙◌}
use Rattle.kif_tree.specs.Subst.{Filling, value_of, lookup, via}
use Rattle.calculus.specs.Evidence.{evidence}
use Rattle.calculus_programs.proofs.OpenLaws.{absent}
use Rattle.calculus_programs.proofs.PickLaws.{nth-some}
use Rattle.calculus_programs.proofs.StepLaws.{no_step, of_input, resolve_below, resolve_none, resolve_some, factor_below, factor_none, factor_some, paramodulate_below, paramodulate_none, paramodulate_some, option_some, option_none, added_none, on_ok, one_part, two_parts, three_parts}
use Rattle.kif_tree.specs.declared.subst.Pair.{Pair}
use Rattle.kif_tree.specs.Clauses.{Literals}
use Rattle.calculus.specs.Tidy.{turned_back}
use Rattle.calculus.specs.Evidence.{equalities}
use Rattle.calculus_programs.proofs.evidence_list.+evidence.Goals as goal

pub append_evidence-returns-then-number-derived : goal.append_evidence-returns-then-number-derived
append_evidence-returns-then-number-derived t c =
    let d = c.args.derived.now in
    let list = no_step d.inputs.now d.steps.now d.clauses.now c.args.number (value_of c.args.filling.now) c.if-number-derived.true in
    added_none c.args.out.now _ list

pub append_evidence-returns-in-Input : goal.append_evidence-returns-in-Input
append_evidence-returns-in-Input t c =
    let d = c.args.derived.now in
    let at = nth-some d.steps.now c.args.number c.index-derived-number.result c.if-number-derived.false c.index-derived-number.is ∙ ap Some c.index-derived-number.is in
    let is = c.in-Input.is in
    let list = of_input d.inputs.now d.steps.now d.clauses.now c.args.number (value_of c.args.filling.now) c.in-Input.input (at ∙ ap Some is) in
    on_ok c.append_instance.result _ _ (λ h. one_part c.args.out.now c.append_instance.new.out _ _ h list) c.append_instance.ensures

pub append_evidence-returns-in_default : goal.append_evidence-returns-in_default
append_evidence-returns-in_default t c =
    let d = c.args.derived.now in
    let at = nth-some d.steps.now c.args.number c.index-derived-number.result c.if-number-derived.false c.index-derived-number.is ∙ ap Some c.index-derived-number.is in
    let is = c.in-Resolve.is in
    let none = option_none c.in_ok-turned-in-Resolve.field-0 _ _ c.in_ok-turned-in-Resolve.ensures c.in_default.not-Some in
    added_none c.args.out.now _
    (resolve_none d.inputs.now d.steps.now d.clauses.now c.args.number (value_of c.args.filling.now) (get_or d.steps.now c.args.number c.index-derived-number.result) c.first_ones-earlier.result.now at c.first_ones-earlier.ensures
    c.in-Resolve.left c.in-Resolve.left_literal c.in-Resolve.left_subst c.in-Resolve.right c.in-Resolve.right_literal c.in-Resolve.right_subst is none)

pub append_evidence-append_parent-requires : goal.append_evidence-append_parent-requires
append_evidence-append_parent-requires t c =
    let d = c.args.derived.now in
    let at = nth-some d.steps.now c.args.number c.index-derived-number.result c.if-number-derived.false c.index-derived-number.is ∙ ap Some c.index-derived-number.is in
    let is = c.in-Resolve.is in
    let turned = option_some c.in_ok-turned-in-Resolve.field-0 _ _ c.in-Some.turned c.in_ok-turned-in-Resolve.ensures c.in-Some.is in
    let below = resolve_below d.inputs.now d.steps.now d.clauses.now c.args.number (value_of c.args.filling.now) (get_or d.steps.now c.args.number c.index-derived-number.result) c.first_ones-earlier.result.now at c.first_ones-earlier.ensures
    c.in-Resolve.left c.in-Resolve.left_literal c.in-Resolve.left_subst c.in-Resolve.right c.in-Resolve.right_literal c.in-Resolve.right_subst is c.in-Some.turned turned in
    let less : c.in-Resolve.left < c.args.number = below.0 in
    (omega (arith, c.decreases, less), tt)

pub append_evidence-append_parent-requires-in-Resolve : goal.append_evidence-append_parent-requires-in-Resolve
append_evidence-append_parent-requires-in-Resolve t c =
    let d = c.args.derived.now in
    let at = nth-some d.steps.now c.args.number c.index-derived-number.result c.if-number-derived.false c.index-derived-number.is ∙ ap Some c.index-derived-number.is in
    let is = c.in-Resolve.is in
    let turned = option_some c.in_ok-turned-in-Resolve.field-0 _ _ c.in-Some.turned c.in_ok-turned-in-Resolve.ensures c.in-Some.is in
    let below = resolve_below d.inputs.now d.steps.now d.clauses.now c.args.number (value_of c.args.filling.now) (get_or d.steps.now c.args.number c.index-derived-number.result) c.first_ones-earlier.result.now at c.first_ones-earlier.ensures
    c.in-Resolve.left c.in-Resolve.left_literal c.in-Resolve.left_subst c.in-Resolve.right c.in-Resolve.right_literal c.in-Resolve.right_subst is c.in-Some.turned turned in
    let less : c.in-Resolve.right < c.args.number = below.1 in
    (omega (arith, c.decreases, less), tt)

pub append_evidence-returns-in_ok-append_parent-in-Resolve : goal.append_evidence-returns-in_ok-append_parent-in-Resolve
append_evidence-returns-in_ok-append_parent-in-Resolve t c =
    let d = c.args.derived.now in
    let at = nth-some d.steps.now c.args.number c.index-derived-number.result c.if-number-derived.false c.index-derived-number.is ∙ ap Some c.index-derived-number.is in
    let is = c.in-Resolve.is in
    let turned = option_some c.in_ok-turned-in-Resolve.field-0 _ _ c.in-Some.turned c.in_ok-turned-in-Resolve.ensures c.in-Some.is in
    let list = resolve_some d.inputs.now d.steps.now d.clauses.now c.args.number (value_of c.args.filling.now) (get_or d.steps.now c.args.number c.index-derived-number.result) c.first_ones-earlier.result.now at c.first_ones-earlier.ensures
    c.in-Resolve.left c.in-Resolve.left_literal c.in-Resolve.left_subst c.in-Resolve.right c.in-Resolve.right_literal c.in-Resolve.right_subst is c.in-Some.turned turned in
    let e = evidence d.inputs.now d.steps.now d.clauses.now in
    let out = c.args.out.now in
    let mid = c.append_parent.new.out in
    let first = λ (xs : List Pair). e c.in-Resolve.left (via (lookup c.in-Resolve.left_subst.pairs) (value_of xs)) in
    let second = λ (xs : List Pair). e c.in-Resolve.right (via (lookup c.in-Resolve.right_subst.pairs) (value_of xs)) in
    let half : mid ≡ out ++ first c.in-Some.turned = c.in_ok-append_parent-in-Resolve.ensures ∙ ap (λ (xs : List Pair). out ++ first xs) c.items.ensures in
    on_ok c.append_parent-in-Resolve.result _ _ (λ h. two_parts out mid c.append_parent-in-Resolve.new.out (first c.in-Some.turned) (second c.in-Some.turned) _ half (h ∙ ap (λ (xs : List Pair). mid ++ second xs) c.items-in-Resolve.ensures) list) c.append_parent-in-Resolve.ensures

pub append_evidence-returns-in_default-2 : goal.append_evidence-returns-in_default-2
append_evidence-returns-in_default-2 t c =
    let d = c.args.derived.now in
    let at = nth-some d.steps.now c.args.number c.index-derived-number.result c.if-number-derived.false c.index-derived-number.is ∙ ap Some c.index-derived-number.is in
    let is = c.in-Factor.is in
    let none = option_none c.in_ok-turned-in-Factor.field-0 _ _ c.in_ok-turned-in-Factor.ensures c.in_default-2.not-Some in
    added_none c.args.out.now _
    (factor_none d.inputs.now d.steps.now d.clauses.now c.args.number (value_of c.args.filling.now) (get_or d.steps.now c.args.number c.index-derived-number.result) c.first_ones-earlier.result.now at c.first_ones-earlier.ensures
    c.in-Factor.parent c.in-Factor.kept_literal c.in-Factor.dropped_literal c.in-Factor.subst is none)

pub append_evidence-append_parent-requires-in-Factor : goal.append_evidence-append_parent-requires-in-Factor
append_evidence-append_parent-requires-in-Factor t c =
    let d = c.args.derived.now in
    let at = nth-some d.steps.now c.args.number c.index-derived-number.result c.if-number-derived.false c.index-derived-number.is ∙ ap Some c.index-derived-number.is in
    let is = c.in-Factor.is in
    let turned = option_some c.in_ok-turned-in-Factor.field-0 _ _ c.in-Some-2.turned c.in_ok-turned-in-Factor.ensures c.in-Some-2.is in
    let less : c.in-Factor.parent < c.args.number = factor_below d.inputs.now d.steps.now d.clauses.now c.args.number (value_of c.args.filling.now) (get_or d.steps.now c.args.number c.index-derived-number.result) c.first_ones-earlier.result.now at c.first_ones-earlier.ensures
    c.in-Factor.parent c.in-Factor.kept_literal c.in-Factor.dropped_literal c.in-Factor.subst is c.in-Some-2.turned turned in
    (omega (arith, c.decreases, less), tt)

pub append_evidence-returns-in-Some-2 : goal.append_evidence-returns-in-Some-2
append_evidence-returns-in-Some-2 t c =
    let d = c.args.derived.now in
    let at = nth-some d.steps.now c.args.number c.index-derived-number.result c.if-number-derived.false c.index-derived-number.is ∙ ap Some c.index-derived-number.is in
    let is = c.in-Factor.is in
    let turned = option_some c.in_ok-turned-in-Factor.field-0 _ _ c.in-Some-2.turned c.in_ok-turned-in-Factor.ensures c.in-Some-2.is in
    let list = factor_some d.inputs.now d.steps.now d.clauses.now c.args.number (value_of c.args.filling.now) (get_or d.steps.now c.args.number c.index-derived-number.result) c.first_ones-earlier.result.now at c.first_ones-earlier.ensures
    c.in-Factor.parent c.in-Factor.kept_literal c.in-Factor.dropped_literal c.in-Factor.subst is c.in-Some-2.turned turned in
    let e = evidence d.inputs.now d.steps.now d.clauses.now in
    let out = c.args.out.now in
    let first = λ (xs : List Pair). e c.in-Factor.parent (via (lookup c.in-Factor.subst.pairs) (value_of xs)) in
    on_ok c.append_parent-in-Factor.result _ _ (λ h. one_part out c.append_parent-in-Factor.new.out (first c.in-Some-2.turned) _ (h ∙ ap (λ (xs : List Pair). out ++ first xs) c.items-in-Factor.ensures) list) c.append_parent-in-Factor.ensures

pub append_evidence-returns-in_default-3 : goal.append_evidence-returns-in_default-3
append_evidence-returns-in_default-3 t c =
    let d = c.args.derived.now in
    let at = nth-some d.steps.now c.args.number c.index-derived-number.result c.if-number-derived.false c.index-derived-number.is ∙ ap Some c.index-derived-number.is in
    let is = c.in-Paramodulate.is in
    let none = sym c.in_ok-made-in-Paramodulate.ensures ∙ absent c.in_ok-made-in-Paramodulate.field-0 c.in_default-3.not-Some in
    added_none c.args.out.now _
    (paramodulate_none d.inputs.now d.steps.now d.clauses.now c.args.number (value_of c.args.filling.now) (get_or d.steps.now c.args.number c.index-derived-number.result) c.first_ones-earlier.result.now at c.first_ones-earlier.ensures
    c.in-Paramodulate.source c.in-Paramodulate.source_literal c.in-Paramodulate.flipped c.in-Paramodulate.source_subst c.in-Paramodulate.target c.in-Paramodulate.target_literal c.in-Paramodulate.path c.in-Paramodulate.target_subst is none)

pub append_evidence-append_parent-requires-in-Paramodulate : goal.append_evidence-append_parent-requires-in-Paramodulate
append_evidence-append_parent-requires-in-Paramodulate t c =
    let d = c.args.derived.now in
    let at = nth-some d.steps.now c.args.number c.index-derived-number.result c.if-number-derived.false c.index-derived-number.is ∙ ap Some c.index-derived-number.is in
    let is = c.in-Paramodulate.is in
    let made = sym c.in_ok-made-in-Paramodulate.ensures ∙ c.in-Some-3.is in
    let below = paramodulate_below d.inputs.now d.steps.now d.clauses.now c.args.number (value_of c.args.filling.now) (get_or d.steps.now c.args.number c.index-derived-number.result) c.first_ones-earlier.result.now at c.first_ones-earlier.ensures
    c.in-Paramodulate.source c.in-Paramodulate.source_literal c.in-Paramodulate.flipped c.in-Paramodulate.source_subst c.in-Paramodulate.target c.in-Paramodulate.target_literal c.in-Paramodulate.path c.in-Paramodulate.target_subst is c.in-Some-3.made made in
    let less : c.in-Paramodulate.source < c.args.number = below.0 in
    (omega (arith, c.decreases, less), tt)

pub append_evidence-append_parent-requires-in-Paramodulate-2 : goal.append_evidence-append_parent-requires-in-Paramodulate-2
append_evidence-append_parent-requires-in-Paramodulate-2 t c =
    let d = c.args.derived.now in
    let at = nth-some d.steps.now c.args.number c.index-derived-number.result c.if-number-derived.false c.index-derived-number.is ∙ ap Some c.index-derived-number.is in
    let is = c.in-Paramodulate.is in
    let made = sym c.in_ok-made-in-Paramodulate.ensures ∙ c.in-Some-3.is in
    let below = paramodulate_below d.inputs.now d.steps.now d.clauses.now c.args.number (value_of c.args.filling.now) (get_or d.steps.now c.args.number c.index-derived-number.result) c.first_ones-earlier.result.now at c.first_ones-earlier.ensures
    c.in-Paramodulate.source c.in-Paramodulate.source_literal c.in-Paramodulate.flipped c.in-Paramodulate.source_subst c.in-Paramodulate.target c.in-Paramodulate.target_literal c.in-Paramodulate.path c.in-Paramodulate.target_subst is c.in-Some-3.made made in
    let less : c.in-Paramodulate.target < c.args.number = below.1 in
    (omega (arith, c.decreases, less), tt)

pub append_evidence-returns-in_ok-append_parent-in-Paramodulate-2 : goal.append_evidence-returns-in_ok-append_parent-in-Paramodulate-2
append_evidence-returns-in_ok-append_parent-in-Paramodulate-2 t c =
    let d = c.args.derived.now in
    let at = nth-some d.steps.now c.args.number c.index-derived-number.result c.if-number-derived.false c.index-derived-number.is ∙ ap Some c.index-derived-number.is in
    let is = c.in-Paramodulate.is in
    let made = sym c.in_ok-made-in-Paramodulate.ensures ∙ c.in-Some-3.is in
    let list = paramodulate_some d.inputs.now d.steps.now d.clauses.now c.args.number (value_of c.args.filling.now) (get_or d.steps.now c.args.number c.index-derived-number.result) c.first_ones-earlier.result.now at c.first_ones-earlier.ensures
    c.in-Paramodulate.source c.in-Paramodulate.source_literal c.in-Paramodulate.flipped c.in-Paramodulate.source_subst c.in-Paramodulate.target c.in-Paramodulate.target_literal c.in-Paramodulate.path c.in-Paramodulate.target_subst is c.in-Some-3.made c.in_ok-turned-in-Paramodulate.turned made (c.in_ok-turned-in-Paramodulate.ensures ∙ ap (λ (ls : Literals). turned_back ls (value_of c.args.filling.now)) c.items-in-Paramodulate.ensures) in
    let e = evidence d.inputs.now d.steps.now d.clauses.now in
    let out = c.args.out.now in
    let mid = c.append_parent-in-Paramodulate.new.out in
    let last = c.append_parent-in-Paramodulate-2.new.out in
    let turned = c.in_ok-turned-in-Paramodulate.turned in
    let first = λ (xs : List Pair). e c.in-Paramodulate.source (via (lookup c.in-Paramodulate.source_subst.pairs) (value_of xs)) in
    let second = λ (xs : List Pair). e c.in-Paramodulate.target (via (lookup c.in-Paramodulate.target_subst.pairs) (value_of xs)) in
    let third = λ (xs : List Pair). equalities c.in-Some-3.made (value_of xs) in
    let half : mid ≡ out ++ first turned = c.in_ok-append_parent-in-Paramodulate.ensures ∙ ap (λ (xs : List Pair). out ++ first xs) c.items-in-Paramodulate-2.ensures in
    let both : last ≡ mid ++ second turned = c.in_ok-append_parent-in-Paramodulate-2.ensures ∙ ap (λ (xs : List Pair). mid ++ second xs) c.items-in-Paramodulate-3.ensures in
    on_ok c.append_equalities.result _ _ (λ h. three_parts out mid last c.append_equalities.new.out (first turned) (second turned) (third turned) _ half both (h ∙ ap (λ (xs : List Pair). last ++ third xs) c.items-in-Paramodulate-4.ensures) list) c.append_equalities.ensures

pub append_parent-returns : goal.append_parent-returns
append_parent-returns t c =
    let d = c.args.derived.now in
    let filling : value_of c.items.result.now ≡ via (lookup c.args.subst.now.pairs) (value_of c.args.turned.now) = ap value_of c.items.ensures ∙ c.in_ok-filling.ensures in
    on_ok c.append_evidence.result _ _ (λ h. h ∙ ap (λ (g : Filling). c.args.out.now ++ evidence d.inputs.now d.steps.now d.clauses.now c.args.parent g) filling) c.append_evidence.ensures
