-- Where tokens nest well, those of each form do.
use Rattle.std.proofs.Common.{◌≡◌, ℕ, ◌+◌, Some, List, [], ◌∷◌, map, sym, ap, ◌∙◌, subst, arith}
use Rattle.std.proofs.lemmas.List.{map-append}
use Rattle.std.proofs.lemmas.Option.{same_Some}
use Rattle.sigma_base.specs.Lists.{Each}
use Rattle.kif_tree.specs.declared.place.Located.{Located}
use Rattle.kif_reader.specs.Spelling.{Lexed, bare, level, spelling, SpellsForms}
use Rattle.kif_reader.proofs.LevelLaws.{bare_level, same_level, bare-append, through, form_rises}

forms_nest : (c n : ℕ) (forms : List Located) (tokens : List Lexed) → SpellsForms c n forms tokens → bare_level 0 (map bare tokens) ≡ Some 0 → Each (λ (located : Located). bare_level 0 (spelling located.form) ≡ Some 0) forms
forms_nest c n [] tokens is e = tt
forms_nest c n (located ∷ more) tokens is e =
    let own = map bare is.0 in
    let rest = map bare is.1 in
    let mid = through (bare_level 0 own) (λ p. bare_level p rest) 0 (sym (ap (bare_level 0) (ap (map bare) is.2 ∙ map-append bare is.0 is.1) ∙ bare-append 0 own rest) ∙ e) in
    let first : bare_level 0 (spelling located.form) ≡ Some mid.0 = ap (bare_level 0) (sym is.3.spelled) ∙ mid.1 in
    let none : mid.0 ≡ 0 = let up = same_Some mid.0 (0 + 0) (sym first ∙ form_rises located.form 0 mid.0 0 first (omega arith)) in omega (arith, up) in
    (first ∙ ap Some none, forms_nest c (n + 1) more is.1 is.4 (subst (λ p. bare_level p rest ≡ Some 0) none mid.2))

pub spelled_nest : (c n : ℕ) (forms : List Located) (tokens : List Lexed) → SpellsForms c n forms tokens → level 0 tokens ≡ Some 0 → Each (λ (located : Located). bare_level 0 (spelling located.form) ≡ Some 0) forms
spelled_nest c n forms tokens is nests = forms_nest c n forms tokens is (same_level 0 tokens ∙ nests)
