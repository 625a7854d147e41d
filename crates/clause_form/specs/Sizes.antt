-- How many clauses a form has under each sign.
use Rattle.std.specs.Prelude.{ℕ, ◌+◌, ◌*◌, ◌≤◌, min, List, [], ◌∷◌, map, Bool, if◌then◌else◌, Option, Some}
use Rattle.kif_tree.specs.declared.form.Form.{Form, para-Form}
use Rattle.kif_tree.specs.declared.form.Form.TheOpen.{Form-F}
use Rattle.clause_form.specs.Connectives.{connective_of}
use Rattle.clause_form.specs.declared.connective.Connective.{Connective}
use Rattle.clause_form.specs.declared.connective.Connective.TheVariants.{Not, And, Or, Implies, Equivalent, ForAll, Exists}
use Rattle.clause_form.specs.declared.counting.Sizes.{Sizes}
use Rattle.clause_form.specs.declared.counting.Totals.{Totals}

abbrev pub one_each : Sizes
one_each = record { positive = 1; negative = 1 }

abbrev pub none_each : Sizes
none_each = record { positive = 0; negative = 0 }

abbrev pub plus : Sizes → Sizes → Sizes
plus a b = record { positive = a.positive + b.positive; negative = a.negative + b.negative }

abbrev pub times : Sizes → Sizes → Sizes
times a b = record { positive = a.positive * b.positive; negative = a.negative * b.negative }

abbrev pub swapped : Sizes → Sizes
swapped a = record { positive = a.negative; negative = a.positive }

abbrev pub by_sign : Bool → Sizes → ℕ
by_sign sign a = if sign then a.positive else a.negative

-- the sums and the products of the sizes
abbrev pub totals : List Sizes → Totals
totals [] = record { sums = none_each; products = one_each }
totals (first ∷ more) = record { sums = plus first (totals more).sums; products = times first (totals more).products }

abbrev pub conjoined : Totals → Sizes
conjoined all = record { positive = all.sums.positive; negative = all.products.negative }

abbrev pub disjoined : Totals → Sizes
disjoined all = record { positive = all.products.positive; negative = all.sums.negative }

abbrev pub implied : Sizes → Sizes → Sizes
implied a b = record { positive = a.negative * b.positive; negative = a.positive + b.negative }

abbrev pub equated : Sizes → Sizes → Sizes
equated a b = record { positive = a.negative * b.positive + b.negative * a.positive; negative = a.positive * b.positive + a.negative * b.negative }

-- a part of a list beside its sizes
abbrev pub Part : Type 0
Part = Form × Sizes

abbrev pub connected : Option Connective → List Part → Sizes
connected (Some Not) (part ∷ []) = swapped part.1
connected (Some And) parts = conjoined (totals (map (λ (part : Part). part.1) parts))
connected (Some Or) parts = disjoined (totals (map (λ (part : Part). part.1) parts))
connected (Some Implies) (first ∷ second ∷ []) = implied first.1 second.1
connected (Some Equivalent) (first ∷ second ∷ []) = equated first.1 second.1
connected (Some ForAll) (names ∷ body ∷ []) = body.1
connected (Some Exists) (names ∷ body ∷ []) = body.1
connected _ _ = one_each

abbrev pub list_step : List Part → Sizes
list_step [] = one_each
list_step (head ∷ parts) = connected (connective_of head.0) parts

abbrev pub sizes_step : Form-F Part → Sizes
sizes_step (Form-F.Word text) = one_each
sizes_step (Form-F.Variable text) = one_each
sizes_step (Form-F.Row text) = one_each
sizes_step (Form-F.Numeral text) = one_each
sizes_step (Form-F.Quoted text) = one_each
sizes_step (Form-F.List parts) = list_step parts

unfoldable pub sizes : Form → Sizes
sizes = para-Form Sizes sizes_step

-- ---- as they are counted: 4,097 stands for any number above 4,096

abbrev pub capped : ℕ → ℕ
capped n = min n 4097

abbrev pub capped_sizes : Sizes → Sizes
capped_sizes a = record { positive = capped a.positive; negative = capped a.negative }

abbrev pub capped_totals : Totals → Totals
capped_totals all = record { sums = capped_sizes all.sums; products = capped_sizes all.products }

abbrev pub beside : Form → Part
beside f = (f, sizes f)

pub record AreCapped (a : Sizes) : Type 0 where
  pub positive : a.positive ≤ 4097
  pub negative : a.negative ≤ 4097
