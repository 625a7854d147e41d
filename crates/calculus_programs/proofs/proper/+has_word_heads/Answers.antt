use Rattle.std.proofs.Common.{◌≡◌, List, Bool, true, false, ◌&&◌, sym, ap, ap₂, ◌∙◌, arith}
use Rattle.std.specs.List.{list_all}
use Rattle.std.proofs.lemmas.List.{take_all}
use Rattle.std.proofs.lemmas.List.Folds.{list_all_at}
use Rattle.kif_tree.specs.declared.form.Form.{Form}
use Rattle.kif_tree.specs.declared.form.Form.TheVariants as form
use Rattle.calculus.specs.Proper.{has_word_heads}
use Rattle.calculus_programs.specs.Shape.{begins_with_any_word}
use Rattle.calculus_programs.proofs.ShapeLaws.{heads-List}
use Rattle.calculus_programs.proofs.proper.+has_word_heads.Goals as goal

whole : (f : Form) (parts : List Form) (b : Bool) → f ≡ form.List parts → begins_with_any_word parts ≡ true → list_all has_word_heads parts ≡ b → b ≡ has_word_heads f
whole f parts b is begins all = sym (ap has_word_heads is ∙ heads-List parts ∙ ap₂ ◌&&◌ begins all)

pub returns-then-not-has_word_heads : goal.returns-then-not-has_word_heads
returns-then-not-has_word_heads t c =
    let begins : begins_with_any_word c.in-List.parts ≡ true = grind arith in
    let all : list_all has_word_heads c.in-List.parts ≡ false = grind (arith, list_all_at) in
    whole c.args.form.now c.in-List.parts false c.in-List.is begins all

pub returns-after-loop-part : goal.returns-after-loop-part
returns-after-loop-part t c =
    let begins : begins_with_any_word c.in-List.parts ≡ true = grind arith in
    let all : list_all has_word_heads c.in-List.parts ≡ true = grind (arith, take_all) in
    whole c.args.form.now c.in-List.parts true c.in-List.is begins all
