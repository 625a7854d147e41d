use Rattle.std.proofs.Common.{◌≡◌, ◌∙◌, rules, ap, ap₂, codes}
use Rattle.std.proofs.lemmas.Result.{IfOk-weaker}
use Rattle.clap.specs.Words.{with_rule}
use Rattle.sigma_app.specs.Commands.{option_rule, up_to}
use Rattle.sigma_app.proofs.commands.ask_command.Goals as goal

pub returns : goal.returns
returns c =
    let turns : c.range.result ≡ up_to 100000 = search rules in
    let answers : c.range-2.result ≡ up_to 1000 = search rules in
    let kept : c.range-3.result ≡ up_to 200000 = search rules in
    let first = c.in_ok-arg.ensures.shape c.option.ensures.local ∙ ap₂ with_rule c.bare.ensures.app (c.option.ensures.rule ∙ ap (option_rule (codes "turns")) turns) in
    let second = c.in_ok-arg-2.ensures.shape c.option-2.ensures.local ∙ ap₂ with_rule first (c.option-2.ensures.rule ∙ ap (option_rule (codes "answers")) answers) in
    let third = c.in_ok-arg-3.ensures.shape c.option-3.ensures.local ∙ ap₂ with_rule second (c.option-3.ensures.rule ∙ ap (option_rule (codes "kept")) kept) in
    let fourth = c.in_ok-arg-4.ensures.shape c.option-4.ensures.local ∙ ap₂ with_rule third c.option-4.ensures.rule in
    let fifth = c.in_ok-arg-5.ensures.shape c.query.ensures.local ∙ ap₂ with_rule fourth c.query.ensures.rule in
    IfOk-weaker c.arg-6.result _ _ (λ r h. (c.modes.result, c.modes.ensures, h.shape c.files.ensures.local ∙ ap₂ with_rule fifth c.files.ensures.rule)) c.arg-6.ensures
