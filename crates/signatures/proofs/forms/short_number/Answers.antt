use Rattle.std.proofs.Common.{◌∙◌, ap, None, if◌then◌else◌}
use Rattle.std.specs.Prelude.{Some}
use Rattle.std.specs.Str.Parse.{digits_value}
use Rattle.taxonomy.specs.Told.{is_short_number}
use Rattle.signatures.proofs.FormLaws.{number-Numeral, number_other}
use Rattle.signatures.proofs.forms.short_number.Goals as goal

pub returns-in-Numeral : goal.returns-in-Numeral
returns-in-Numeral c =
    number-Numeral c.args.form.now c.in-Numeral.text c.short_value.result c.in-Numeral.is
    (c.short_value.ensures ∙ ap (λ text. if is_short_number text then Some (digits_value 10 text) else None) c.bytes.ensures)

pub returns-in_default : goal.returns-in_default
returns-in_default c = number_other c.args.form.now c.in_default.not-Numeral
