-- The forms that texts can spell.
use Rattle.std.specs.Prelude.{[]}
use Rattle.kif_tree.specs.declared.form.Form.{Form}
use Rattle.sigma_base.specs.Lists.{Each}
use Rattle.kif_reader.specs.Cut.{IsToken}
use Rattle.kif_reader.specs.Spelling.{spelling}

-- each token that spells the form is one, as its kind wants it
abbrev pub IsSpellable : Form → Type 0
IsSpellable form = Each (λ token. IsToken token.0 token.1 []) (spelling form)
