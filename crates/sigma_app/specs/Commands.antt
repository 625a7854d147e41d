-- The commands of the tool, as the parser of command lines sees them.
use Rattle.std.specs.Prelude.{◌≡◌, ℕ, List, [], ◌∷◌, map, Option, Some, None, pos, true, codes, if◌then◌else◌}
use Rattle.std.specs.Str.{bytes_eq}
use Rattle.std.specs.Borrow.{Bor}
use Rattle.clap.specs.Lexer.{usize_max}
use Rattle.clap.specs.Words.{App, Rule, new_app, new_rule, with_rule}
use Rattle.clap.specs.declared.builder.action.ArgAction.TheVariants.{Set, Append}
use Rattle.clap.specs.declared.builder.value_parser.ValueParser.{ValueParser}
use Rattle.clap.specs.declared.builder.value_parser.ValueParser.TheVariants as vp
use Rattle.kif_tree.specs.Terms.{Bytes}
use Rattle.sigma_app.specs.declared.commands.CommandName.{CommandName}
use Rattle.sigma_app.specs.declared.commands.CommandName.TheVariants as command

-- the command that a word names
abbrev pub named : Bytes → Option CommandName
named word =
    if bytes_eq word (codes "ask") then Some command.Ask
    else if bytes_eq word (codes "check") then Some command.Check
    else if bytes_eq word (codes "clauses") then Some command.Clauses
    else if bytes_eq word (codes "export") then Some command.Export
    else if bytes_eq word (codes "drill") then Some command.Drill
    else None

-- ---- arguments

-- an option that may be left out, as `--turns 5` or `--turns=5`
abbrev pub option_rule : Bytes → ValueParser → Rule
option_rule name parser = record (new_rule name) { long = Some name; action = Some Set; parser = Some parser }

-- a number from 1 on
abbrev pub up_to : ℕ → ValueParser
up_to most = vp.Signed (pos 1) (pos most)

-- a value behind a reference; the address is any, and nothing depends on it
abbrev pub lent : {X : Type 0} → X → Bor X
lent x = record { ref_ptr = (0, 0); now = x }

abbrev pub mode_words : List Bytes
mode_words = codes "support" ∷ codes "full" ∷ []

-- one of the two words
abbrev pub modes : ValueParser
modes = vp.Names (lent (map lent mode_words))

abbrev pub TakesModes : ValueParser → Type 0
TakesModes parser = (names : Bor (List (Bor Bytes))) × (parser ≡ vp.Names names) × (map (λ s. s.now) names.now ≡ mode_words)

abbrev pub query_rule : Rule
query_rule = record (new_rule (codes "query")) { required = true; action = Some Set }

-- one word or more
abbrev pub files_rule : Rule
files_rule = record (new_rule (codes "files")) {
  required = true;
  action = Some Append;
  range = Some (record { start_inclusive = 1; end_inclusive = usize_max });
}

abbrev pub size_rule : Rule
size_rule = record (new_rule (codes "size")) { required = true; action = Some Set; parser = Some (up_to 2000) }

-- ---- commands

-- no arguments yet, and no flags for help and version
abbrev pub bare_app : Bytes → App
bare_app name =
    let app = new_app name in
    record app { top = record app.top { no_binary_name = true; disable_help_flag = true; disable_version_flag = true } }

abbrev pub ask_app_by : ValueParser → App
ask_app_by mode = with_rule (with_rule (with_rule (with_rule (with_rule (with_rule (bare_app (codes "ask"))
    (option_rule (codes "turns") (up_to 100000)))
    (option_rule (codes "answers") (up_to 1000)))
    (option_rule (codes "kept") (up_to 200000)))
    (option_rule (codes "mode") mode))
    query_rule)
    files_rule

abbrev pub files_app : Bytes → App
files_app name = with_rule (bare_app name) files_rule

abbrev pub drill_app : App
drill_app = with_rule (bare_app (codes "drill")) size_rule

-- the arguments of the command
abbrev pub app : CommandName → App
app command.Ask = ask_app_by modes
app command.Check = files_app (codes "check")
app command.Clauses = files_app (codes "clauses")
app command.Export = files_app (codes "export")
app command.Drill = drill_app

-- the same with the words of the modes behind any references
abbrev pub IsAskApp : App → Type 0
IsAskApp a = (mode : ValueParser) × TakesModes mode × (a ≡ ask_app_by mode)

abbrev pub IsAppOf : CommandName → App → Type 0
IsAppOf command.Ask a = IsAskApp a
IsAppOf command.Check a = a ≡ files_app (codes "check")
IsAppOf command.Clauses a = a ≡ files_app (codes "clauses")
IsAppOf command.Export a = a ≡ files_app (codes "export")
IsAppOf command.Drill a = a ≡ drill_app
