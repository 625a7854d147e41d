use Rattle.std.proofs.Common.{take}
use Rattle.sigma_app.specs.Files.{SpellParts}
use Rattle.sigma_app.proofs.forms.read_parts.Given as goal

abbrev pub invariant-loop-part : goal.invariant-loop-part
invariant-loop-part l = SpellParts (take l.part-index l.parts) l.forms.items
