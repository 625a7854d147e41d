-- What a `Difference` of two forms says of them.
use Rattle.std.specs.Prelude.{◌≡◌, ◌||◌, true, false}
use Rattle.kif_tree.specs.declared.form.Form.{Form}
use Rattle.kif_tree.specs.Terms.{Bytes, occurs}
use Rattle.kif_tree.specs.Subst.{Filling, bind}
use Rattle.unify.specs.declared.difference.Difference.{Difference}
use Rattle.unify.specs.declared.difference.Difference.TheVariants.{Same, Clash, Bind}
use Rattle.unify.specs.Unifiers.{Unifies, HasNone, is_plain}

-- The variable occurs in one of the forms and not in the term, each variable of the term occurs in one of the forms, and whatever makes the
-- forms equal gives the variable what it gives the term.
pub record Binds (first second : Form) (name : Bytes) (term : Form) : Type 0 where
  pub apart : occurs name term ≡ false
  pub here : (occurs name first || occurs name second) ≡ true
  pub within : (other : Bytes) → occurs other term ≡ true → (occurs other first || occurs other second) ≡ true
  pub forced : (g : Filling) → Unifies g first second → g name ≡ bind g term
  pub plain : is_plain first ≡ true → is_plain second ≡ true → is_plain term ≡ true

abbrev pub Differs : Form → Form → Difference → Type 0
Differs first second Same = first ≡ second
Differs first second Clash = HasNone first second
Differs first second (Bind name term) = Binds first second name.now term.now
