use Rattle.std.proofs.Common.{◌≡◌, [], ◌∷◌, take, map}
use Rattle.var_expand.proofs.options.singles.Given as goal

abbrev pub invariant-loop-form : goal.invariant-loop-form
invariant-loop-form l = l.singles ≡ map (λ form. form ∷ []) (take l.form-index l.forms)
