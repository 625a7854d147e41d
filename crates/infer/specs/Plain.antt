-- Plain clauses and steps. What is concluded from plain clauses under most general unifiers is plain.
use Rattle.std.specs.Prelude.{◌≡◌, true}
use Rattle.std.specs.List.{list_all}
use Rattle.kif_tree.specs.Clauses.{Literals}
use Rattle.kif_tree.specs.Shape.{is_list}
use Rattle.calculus.specs.declared.step.Step.{Step}
use Rattle.unify.specs.Unifiers.{is_plain, ArePlain}
use Rattle.infer.specs.declared.conclusion.Conclusion.{Conclusion}

-- each atom is a list, no row variable occurs, and each list has a word at its head
pub record IsPlain (clause : Literals) : Type 0 where
  pub lists : list_all (λ literal. is_list literal.atom) clause ≡ true
  pub plain : list_all (λ literal. is_plain literal.atom) clause ≡ true

-- the forms of the step's substitutions are plain
abbrev pub IsPlainStep : Step → Type 0
IsPlainStep (Step.Input i) = Unit {0}
IsPlainStep (Step.Resolve left i f right j g) = ArePlain f.pairs × ArePlain g.pairs
IsPlainStep (Step.Factor parent i j f) = ArePlain f.pairs
IsPlainStep (Step.Paramodulate source i flipped f target j path g) = ArePlain f.pairs × ArePlain g.pairs

pub record IsPlainConclusion (conclusion : Conclusion) : Type 0 where
  pub clause : IsPlain conclusion.clause
  pub step : IsPlainStep conclusion.step
