use Rattle.std.proofs.lemmas.Result.{on_ok_weaker}
use Rattle.diagnose.proofs.ListLaws.{adds_of_arguments}
use Rattle.diagnose.proofs.arguments.add_argument_faults.Goals as goal

pub returns : goal.returns
returns c =
    on_ok_weaker c.add_of_form.result (λ h forms taxonomy signatures class_words.
    adds_of_arguments forms c.args.located.now.place c.args.located.now.form c.args.found.now.items c.add_of_form.new.found.items
    (h forms (record { taxonomy = taxonomy; signatures = signatures; class_words = class_words }))) c.add_of_form.ensures
