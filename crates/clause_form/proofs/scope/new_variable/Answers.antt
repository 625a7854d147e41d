use Rattle.std.proofs.Common.{◌≡◌, ◌∷◌, decimal, ap, ◌∙◌, arith}
use Rattle.std.proofs.lemmas.Fmt.{decimal-digits_of}
use Rattle.kif_tree.specs.declared.form.Form.TheVariants as form
use Rattle.clause_form.proofs.scope.new_variable.Goals as goal

pub returns : goal.returns
returns c =
    let spelled : c.append_decimal.new.self ≡ 88 ∷ decimal c.args.number = grind (arith, c.in_ok-append_decimal.ensures.ok, c.in_ok-name.ensures) in
    ap form.Variable (spelled ∙ ap (λ digits. 88 ∷ digits) (decimal-digits_of c.args.number (omega arith) (omega arith)))
