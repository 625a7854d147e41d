-- Where rules may conclude something from two clauses or from one, in order. A site is a step without substitutions.
use Rattle.std.specs.Prelude.{ℕ, zero, suc, ◌+◌, List, [], ◌∷◌, ◌++◌, map, length, Bool, true, false, if◌then◌else◌}
use Rattle.kif_tree.specs.declared.form.Form.{Form, fold-Form}
use Rattle.kif_tree.specs.declared.form.Form.TheOpen.{Form-F}
use Rattle.kif_tree.specs.declared.subst.Subst.{Subst}
use Rattle.kif_tree.specs.Terms.{after_head}
use Rattle.kif_tree.specs.Clauses.{Literals}
use Rattle.calculus.specs.declared.step.Step.{Step}
use Rattle.calculus.specs.Rules.{nth}
use Rattle.calculus.specs.Evidence.{list_from}

-- no substitution yet
abbrev pub unset : Subst
unset = record { pairs = [] }

-- the step without its substitutions
abbrev pub site_of : Step → Step
site_of (Step.Input i) = Step.Input i
site_of (Step.Resolve left i f right j g) = Step.Resolve left i unset right j unset
site_of (Step.Factor parent i j f) = Step.Factor parent i j unset
site_of (Step.Paramodulate source i flipped f target j path g) = Step.Paramodulate source i flipped unset target j path unset

-- the lists of each number below the given one, joined in order
abbrev pub each_below : {X : Type 0} → ℕ → (ℕ → List X) → List X
each_below zero f = []
each_below (suc n) f = each_below n f ++ f n

-- ---- argument places

-- The paths to each argument from the given number on and to each place inside it. The arguments stand already replaced by their own paths.
abbrev pub argument_paths : ℕ → List (List (List ℕ)) → List (List ℕ)
argument_paths n [] = []
argument_paths n (inside ∷ more) = (n ∷ []) ∷ (map (λ (path : List ℕ). n ∷ path) inside ++ argument_paths (n + 1) more)

abbrev pub paths_step : Form-F (List (List ℕ)) → List (List ℕ)
paths_step (Form-F.Word text) = []
paths_step (Form-F.Variable text) = []
paths_step (Form-F.Row text) = []
paths_step (Form-F.Numeral text) = []
paths_step (Form-F.Quoted text) = []
paths_step (Form-F.List parts) = argument_paths 1 (after_head parts)

-- the argument places in the form, from left to right, outer before inner
unfoldable pub paths : Form → List (List ℕ)
paths = fold-Form (List (List ℕ)) paths_step

-- ---- sites of two clauses: the given one is number 0, its partner number 1

-- of one literal each; no literal is positive and negative, so at most one of the two concludes
abbrev pub resolution_sites : ℕ → ℕ → List Step
resolution_sites i j = Step.Resolve 0 i unset 1 j unset ∷ Step.Resolve 1 j unset 0 i unset ∷ []

-- by the literal of the given clause and then the partner's
abbrev pub resolutions : Literals → Literals → List Step
resolutions given partner = each_below (length given) (λ i. each_below (length partner) (resolution_sites i))

-- into the places of one literal of the target
abbrev pub paramodulation_sites : ℕ → ℕ → Bool → ℕ → Literals → ℕ → List Step
paramodulation_sites source i flipped target into j =
    list_from (nth into j) (λ literal. map (λ (path : List ℕ). Step.Paramodulate source i flipped unset target j path unset) (paths literal.atom))

-- by one literal of the source in one direction
abbrev pub paramodulations_by : ℕ → ℕ → Bool → ℕ → Literals → List Step
paramodulations_by source i flipped target into = each_below (length into) (paramodulation_sites source i flipped target into)

-- by source literal, unflipped first, target literal and place
abbrev pub paramodulations : ℕ → Literals → ℕ → Literals → List Step
paramodulations source from target into =
    each_below (length from) (λ i. paramodulations_by source i false target into ++ paramodulations_by source i true target into)

-- resolutions, paramodulations from the given clause into its partner, and from the partner into the given clause, where they aren't the same
abbrev pub conclusion_sites : Literals → Literals → Bool → List Step
conclusion_sites given partner same =
    resolutions given partner ++ (paramodulations 0 given 1 partner ++ (if same then [] else paramodulations 1 partner 0 given))

-- ---- sites of one clause

-- by the kept literal and then the dropped one
abbrev pub factor_sites : Literals → List Step
factor_sites given = each_below (length given) (λ i. each_below (length given) (λ j. Step.Factor 0 i j unset ∷ []))
