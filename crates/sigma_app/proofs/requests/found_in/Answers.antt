use Rattle.std.proofs.Common.{◌≡◌, ◌∙◌, map, string_bytes}
use Rattle.clap.specs.Words.{app_of}
use Rattle.sigma_app.specs.declared.requests.WordsError.TheVariants.{NoMemory}
use Rattle.sigma_app.proofs.RequestLaws.{app_matches, app_takes, app_simple}
use Rattle.sigma_app.proofs.requests.found_in.Goals as goal

pub returns-in-Ok-clause-found : goal.returns-in-Ok-clause-found
returns-in-Ok-clause-found c =
    let a = app_of c.in_ok-command.command in
    (c.in-Ok.ensures.matches (app_simple c.args.name a c.in_ok-command.ensures)).0
    ∙ app_matches c.args.name a (map string_bytes c.args.words.now) c.in_ok-command.ensures

pub returns-in-Err-clause-refused : goal.returns-in-Err-clause-refused
returns-in-Err-clause-refused c = λ e taken.
    let a = app_of c.in_ok-command.command in
    let told : c.error_of.result ≡ NoMemory = c.error_of.ensures (c.kind.ensures ∙ c.in-Err.ensures.passes (app_takes c.args.name a (map string_bytes c.args.words.now) c.in_ok-command.ensures ∙ taken)) in
    absurd (cc)
