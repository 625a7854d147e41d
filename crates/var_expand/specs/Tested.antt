-- Whether a choice fits, as a test.
use Rattle.std.specs.Prelude.{List, [], ◌∷◌, Bool, false, ◌&&◌, Option, Some, None}
use Rattle.std.specs.List.{list_all}
use Rattle.kif_tree.specs.declared.form.Form.{Form}
use Rattle.kif_tree.specs.Terms.{Bytes}
use Rattle.signatures.specs.declared.signatures.Signatures.{Signatures}
use Rattle.taxonomy.specs.ChainDecision.{leads_by}
use Rattle.taxonomy.specs.Told.{Link, kind_of, word_texts}
use Rattle.taxonomy.specs.declared.told.ChainKind.{ChainKind}
use Rattle.var_expand.specs.Choices.{Choice, after}
use Rattle.var_expand.specs.Conditions.{conditions}
use Rattle.var_expand.specs.Fitting.{counts_fit, arguments_fit, sentences_fit}

abbrev pub kind_leads : List Link → Option ChainKind → Bytes → Bytes → Bool
kind_leads links (Some kind) low high = leads_by links kind low high
kind_leads links None low high = false

abbrev pub is_met_by : List Link → Option (List Bytes) → Bool
is_met_by links (Some (head ∷ low ∷ high ∷ [])) = kind_leads links (kind_of head) low high
is_met_by links _ = false

abbrev pub is_met : List Link → List Form → Bool
is_met links parts = is_met_by links (word_texts parts)

abbrev pub conditions_fit : List Link → Form → Choice → Bool
conditions_fit links f choice = list_all (λ parts. is_met links (after choice parts)) (conditions f)

abbrev pub fits_by : List Link → Signatures → Form → Choice → Bool
fits_by links signatures f choice = arguments_fit f choice && (sentences_fit f choice && (conditions_fit links f choice && counts_fit signatures f choice))
