use Rattle.translate.proofs.OneTranslationLaws.{translations_are_one, wholes_are_one, full_at_one, whole_is_not_full}
use Rattle.translate.proofs.laws.one_translation_law.Goals as goal

pub returns : goal.returns
returns c = record { translations = translations_are_one; whole = wholes_are_one; full = full_at_one; exclusive = whole_is_not_full }
