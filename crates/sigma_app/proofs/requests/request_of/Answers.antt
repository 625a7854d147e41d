use Rattle.std.proofs.Common.{◌≡◌, ◌∙◌, sym, ap, map, string_bytes, ◌∷◌, Err, arith}
use Rattle.sigma_base.proofs.SliceLaws.{no_items}
use Rattle.clap.specs.Words.{rows_of, found_of}
use Rattle.sigma_app.proofs.RequestLaws.{none_taken, unnamed_taken, refused_by, read_by}
use Rattle.sigma_app.proofs.requests.request_of.Goals as goal

pub returns-in_default : goal.returns-in_default
returns-in_default c = none_taken c.args.words.now (sym c.items.ensures ∙ ap (map string_bytes) (no_items c.items.result.now (omega (arith, c.in_default.ensures.cases))))

pub returns-in_default-command_named : goal.returns-in_default-command_named
returns-in_default-command_named c =
    let rest = map string_bytes c.in-Some.rest.now in
    let e : c.args.words.now ≡ c.as_str.result.now ∷ rest =
    sym c.items.ensures ∙ ap (map string_bytes) c.in-Some.ensures.cases.0 ∙ ap (λ x. x ∷ rest) (sym c.as_str.ensures.value) in
    unnamed_taken c.args.words.now rest c.as_str.result.now e (sym c.command_named.ensures ∙ c.in_default-command_named.is)

pub returns-in_err-matches : goal.returns-in_err-matches
returns-in_err-matches c =
    let rest = map string_bytes c.in-Some.rest.now in
    let e : c.args.words.now ≡ c.as_str.result.now ∷ rest =
    sym c.items.ensures ∙ ap (map string_bytes) c.in-Some.ensures.cases.0 ∙ ap (λ x. x ∷ rest) (sym c.as_str.ensures.value) in
    refused_by c.args.words.now rest c.as_str.result.now c.in-Some-command_named.name e (sym c.command_named.ensures ∙ c.in-Some-command_named.is)
    c.in_err-matches.field-0.0 c.from_residual.result c.from_residual.ensures.1 (λ usage. c.in_err-matches.ensures.refused (ap Err usage))

pub returns : goal.returns
returns c =
    let rest = map string_bytes c.in-Some.rest.now in
    let e : c.args.words.now ≡ c.as_str.result.now ∷ rest =
    sym c.items.ensures ∙ ap (map string_bytes) c.in-Some.ensures.cases.0 ∙ ap (λ x. x ∷ rest) (sym c.as_str.ensures.value) in
    read_by c.args.words.now rest c.as_str.result.now c.in-Some-command_named.name e (sym c.command_named.ensures ∙ c.in-Some-command_named.is)
    c.request_by.result (rows_of (found_of c.in_ok-matches.matches)) c.in_ok-matches.ensures.found c.request_by.ensures.found c.request_by.ensures.absent
