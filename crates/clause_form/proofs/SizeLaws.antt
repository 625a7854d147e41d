-- The sizes of each kind of form, and their sums and products as the walk counts them.
use Rattle.std.proofs.Common.{◌≡◌, ℕ, ◌+◌, ◌-◌, ◌*◌, ◌<◌, ◌≤◌, ◌⊎◌, List, [], ◌∷◌, ◌++◌, map, take, drop, length, get_or, arith, refl, sym, ap, ap₂, ◌∙◌, inl, inr, mul_assoc}
use Rattle.std.specs.Prelude.{Option, Some, None}
use Rattle.std.proofs.lemmas.List.{take_more, map-append}
use Rattle.std.proofs.lemmas.Nat.{mul-le}
use Rattle.std.proofs.lemmas.Bool.{cases_lt}
use Rattle.sigma_base.specs.Lists.{map_twice}
use Rattle.sigma_base.proofs.SliceLaws.{no_items, first_item}
use Rattle.kif_tree.specs.declared.form.Form.{Form, para-Form, para-roll-Form}
use Rattle.kif_tree.specs.declared.form.Form.TheVariants as form
use Rattle.kif_tree.specs.declared.form.Form.TheOpen.{Form-F}
use Rattle.kif_tree.specs.FormLaws.{induction}
use Rattle.kif_tree.specs.Terms.{Bytes}
use Rattle.clause_form.specs.Connectives.{connective_of}
use Rattle.clause_form.specs.declared.connective.Connective.{Connective}
use Rattle.clause_form.specs.declared.connective.Connective.TheVariants.{And, Or, Implies, Equivalent}
use Rattle.clause_form.specs.declared.counting.Sizes.{Sizes}
use Rattle.clause_form.specs.declared.counting.Totals.{Totals}
use Rattle.clause_form.specs.Sizes.{Part, AreCapped, one_each, plus, times, totals, conjoined, disjoined, implied, equated, connected, list_step, sizes_step, sizes, capped, capped_sizes, capped_totals, beside}

abbrev the_sizes : ℕ → ℕ → Sizes
the_sizes positive negative = record { positive = positive; negative = negative }

-- ---- each kind of form

sizes-Word : (text : Bytes) → sizes (form.Word text) ≡ one_each
unfolding sizes
sizes-Word text = ap (para-Form Sizes sizes_step) (sym (form.rolls-Word text)) ∙ para-roll-Form Sizes sizes_step (Form-F.Word text)

sizes-Variable : (text : Bytes) → sizes (form.Variable text) ≡ one_each
unfolding sizes
sizes-Variable text = ap (para-Form Sizes sizes_step) (sym (form.rolls-Variable text)) ∙ para-roll-Form Sizes sizes_step (Form-F.Variable text)

sizes-Row : (text : Bytes) → sizes (form.Row text) ≡ one_each
unfolding sizes
sizes-Row text = ap (para-Form Sizes sizes_step) (sym (form.rolls-Row text)) ∙ para-roll-Form Sizes sizes_step (Form-F.Row text)

sizes-Numeral : (text : Bytes) → sizes (form.Numeral text) ≡ one_each
unfolding sizes
sizes-Numeral text = ap (para-Form Sizes sizes_step) (sym (form.rolls-Numeral text)) ∙ para-roll-Form Sizes sizes_step (Form-F.Numeral text)

sizes-Quoted : (text : Bytes) → sizes (form.Quoted text) ≡ one_each
unfolding sizes
sizes-Quoted text = ap (para-Form Sizes sizes_step) (sym (form.rolls-Quoted text)) ∙ para-roll-Form Sizes sizes_step (Form-F.Quoted text)

pub sizes-List : (parts : List Form) → sizes (form.List parts) ≡ list_step (map beside parts)
unfolding sizes
sizes-List parts = ap (para-Form Sizes sizes_step) (sym (form.rolls-List parts)) ∙ para-roll-Form Sizes sizes_step (Form-F.List parts)

-- what is no list
pub sizes_other : (f : Form) → ((parts : List Form) → f ≡ form.List parts → ⊥) → sizes f ≡ one_each
sizes_other = induction (λ f. ((parts : List Form) → f ≡ form.List parts → ⊥) → sizes f ≡ one_each) (record {
  word = λ text _. sizes-Word text;
  variable = λ text _. sizes-Variable text;
  row = λ text _. sizes-Row text;
  numeral = λ text _. sizes-Numeral text;
  quoted = λ text _. sizes-Quoted text;
  list = λ parts each other. absurd (other parts refl);
})

-- an empty list
pub sizes_none : (f : Form) (parts : List Form) → f ≡ form.List parts → length parts < 1 → sizes f ≡ one_each
sizes_none f parts e h = ap sizes e ∙ sizes-List parts ∙ ap (λ (fs : List Form). list_step (map beside fs)) (no_items parts h)

-- a list and its head
pub sizes_headed : (f : Form) (parts : List Form) (head : Form) (named : Option Connective) → f ≡ form.List parts → 1 ≤ length parts → head ≡ get_or parts 0 head → named ≡ connective_of head
    → sizes f ≡ connected named (map beside (take (length parts - 1) (drop 1 parts)))
sizes_headed f parts head named e h is name =
    ap sizes e ∙ sizes-List parts ∙ ap (λ (fs : List Form). list_step (map beside fs)) (first_item parts head h is)
    ∙ ap (λ (named : Option Connective). connected named (map beside (take (length parts - 1) (drop 1 parts)))) (sym name)

pub sizes_plain : (f : Form) (parts : List Form) (head : Form) (named : Option Connective) → f ≡ form.List parts → 1 ≤ length parts → head ≡ get_or parts 0 head → named ≡ connective_of head → named ≡ None
    → sizes f ≡ one_each
sizes_plain f parts head named e h is name none =
    sizes_headed f parts head named e h is name ∙ ap (λ (named : Option Connective). connected named (map beside (take (length parts - 1) (drop 1 parts)))) none

-- ---- numbers up to the greatest

pub capped_sum : (a b : ℕ) → capped (capped a + capped b) ≡ capped (a + b)
capped_sum a b = omega arith

-- where one number is above the greatest, and the other isn't nothing, their product is above it too
above_left : (a b : ℕ) → 4097 ≤ a → 1 ≤ b → capped (a * b) ≡ 4097
above_left a b h k = let product : 4097 * 1 ≤ a * b = mul-le 4097 1 a b h k in omega (arith, product)

above_right : (a b : ℕ) → 1 ≤ a → 4097 ≤ b → capped (a * b) ≡ 4097
above_right a b h k = let product : 1 * 4097 ≤ a * b = mul-le 1 4097 a b h k in omega (arith, product)

of_nothing : (a : ℕ) → a * 0 ≡ 0
of_nothing a = omega arith

nothing_of : (b : ℕ) → 0 * b ≡ 0
nothing_of b = omega arith

nothing_left : (a b : ℕ) → a < 1 → capped (a * b) ≡ 0
nothing_left a b h = let none : a ≡ 0 = omega arith in let product : a * b ≡ 0 = ap (λ n. n * b) none ∙ nothing_of b in omega (arith, product)

nothing_right : (a b : ℕ) → b < 1 → capped (a * b) ≡ 0
nothing_right a b h = let none : b ≡ 0 = omega arith in let product : a * b ≡ 0 = ap (λ n. a * n) none ∙ of_nothing a in omega (arith, product)

pub capped_product : (a b : ℕ) → capped (capped a * capped b) ≡ capped (a * b)
capped_product a b = both (cases_lt 4097 a) (cases_lt 4097 b) (cases_lt a 1) (cases_lt b 1)
  where
    both : (4097 < a) ⊎ (a ≤ 4097) → (4097 < b) ⊎ (b ≤ 4097) → (a < 1) ⊎ (1 ≤ a) → (b < 1) ⊎ (1 ≤ b) → capped (capped a * capped b) ≡ capped (a * b)
    both _ _ (inl none) _ = nothing_left (capped a) (capped b) (omega arith) ∙ sym (nothing_left a b none)
    both _ _ (inr some) (inl none) = nothing_right (capped a) (capped b) (omega arith) ∙ sym (nothing_right a b none)
    both (inl large) _ (inr some) (inr more) = above_left (capped a) (capped b) (omega arith) (omega arith) ∙ sym (above_left a b (omega arith) more)
    both (inr small) (inl large) (inr some) (inr more) = above_right (capped a) (capped b) (omega arith) (omega arith) ∙ sym (above_right a b some (omega arith))
    both (inr small) (inr also) (inr some) (inr more) = let left : capped a ≡ a = omega arith in let right : capped b ≡ b = omega arith in ap₂ (λ m n. capped (m * n)) left right

sum_of_products : (a b c d : ℕ) → capped (capped a * capped b + capped c * capped d) ≡ capped (a * b + c * d)
sum_of_products a b c d =
    sym (capped_sum (capped a * capped b) (capped c * capped d)) ∙ ap₂ (λ m n. capped (m + n)) (capped_product a b) (capped_product c d) ∙ capped_sum (a * b) (c * d)

-- ---- the sizes of a connective's parts

pub plus_capped : (a b : Sizes) → capped_sizes (plus (capped_sizes a) (capped_sizes b)) ≡ capped_sizes (plus a b)
plus_capped a b = ap₂ (λ (m n : ℕ). the_sizes m n) (capped_sum a.positive b.positive) (capped_sum a.negative b.negative)

pub times_capped : (a b : Sizes) → capped_sizes (times (capped_sizes a) (capped_sizes b)) ≡ capped_sizes (times a b)
times_capped a b = ap₂ (λ (m n : ℕ). the_sizes m n) (capped_product a.positive b.positive) (capped_product a.negative b.negative)

implied_capped : (a b : Sizes) → capped_sizes (implied (capped_sizes a) (capped_sizes b)) ≡ capped_sizes (implied a b)
implied_capped a b = ap₂ (λ (m n : ℕ). the_sizes m n) (capped_product a.negative b.positive) (capped_sum a.positive b.negative)

equated_capped : (a b : Sizes) → capped_sizes (equated (capped_sizes a) (capped_sizes b)) ≡ capped_sizes (equated a b)
equated_capped a b =
    ap₂ (λ (m n : ℕ). the_sizes m n) (sum_of_products a.negative b.positive b.negative a.positive) (sum_of_products a.positive b.positive a.negative b.negative)

pub two_only : {X : Type 0} (xs : List X) (x y : X) → 2 ≤ length xs → length xs < 3 → x ≡ get_or xs 0 x → y ≡ get_or xs 1 y → xs ≡ x ∷ y ∷ []
two_only [] x y h k is also = absurd (omega arith)
two_only (v ∷ []) x y h k is also = absurd (omega arith)
two_only (v ∷ w ∷ []) x y h k is also = ap₂ (λ e f. e ∷ f ∷ []) (sym is) (sym also)
two_only (v ∷ w ∷ z ∷ xs) x y h k is also = absurd (omega arith)

pub of_implied : (result a b : Sizes) (connective : Connective) (parts : List Form) (first second : Form) → connective ≡ Implies → parts ≡ first ∷ second ∷ []
    → a ≡ capped_sizes (sizes first) → b ≡ capped_sizes (sizes second) → result ≡ capped_sizes (implied a b) → result ≡ capped_sizes (connected (Some connective) (map beside parts))
of_implied result a b connective parts first second named is of_first of_second e =
    e ∙ ap₂ (λ (m n : Sizes). capped_sizes (implied m n)) of_first of_second ∙ implied_capped (sizes first) (sizes second)
    ∙ sym (ap₂ (λ (c : Connective) (fs : List Form). capped_sizes (connected (Some c) (map beside fs))) named is)

pub of_equated : (result a b : Sizes) (connective : Connective) (parts : List Form) (first second : Form) → connective ≡ Equivalent → parts ≡ first ∷ second ∷ []
    → a ≡ capped_sizes (sizes first) → b ≡ capped_sizes (sizes second) → result ≡ capped_sizes (equated a b) → result ≡ capped_sizes (connected (Some connective) (map beside parts))
of_equated result a b connective parts first second named is of_first of_second e =
    e ∙ ap₂ (λ (m n : Sizes). capped_sizes (equated m n)) of_first of_second ∙ equated_capped (sizes first) (sizes second)
    ∙ sym (ap₂ (λ (c : Connective) (fs : List Form). capped_sizes (connected (Some c) (map beside fs))) named is)

pub all_sizes : (parts : List Form) → map (λ (part : Part). part.1) (map beside parts) ≡ map sizes parts
all_sizes parts = sym (map_twice beside (λ (part : Part). part.1) parts)

pub of_conjoined : (result : Sizes) (all : Totals) (connective : Connective) (parts : List Form) → connective ≡ And
    → all ≡ capped_totals (totals (map sizes parts)) → result ≡ conjoined all → result ≡ capped_sizes (connected (Some connective) (map beside parts))
of_conjoined result all connective parts named of_all e =
    e ∙ ap conjoined of_all
    ∙ sym (ap (λ (c : Connective). capped_sizes (connected (Some c) (map beside parts))) named ∙ ap (λ (each : List Sizes). capped_sizes (conjoined (totals each))) (all_sizes parts))

pub of_disjoined : (result : Sizes) (all : Totals) (connective : Connective) (parts : List Form) → connective ≡ Or
    → all ≡ capped_totals (totals (map sizes parts)) → result ≡ disjoined all → result ≡ capped_sizes (connected (Some connective) (map beside parts))
of_disjoined result all connective parts named of_all e =
    e ∙ ap disjoined of_all
    ∙ sym (ap (λ (c : Connective). capped_sizes (connected (Some c) (map beside parts))) named ∙ ap (λ (each : List Sizes). capped_sizes (disjoined (totals each))) (all_sizes parts))

-- ---- one part after the other

-- with one more at the end
sums_more : (each : List Sizes) (last : Sizes) → (totals (each ++ last ∷ [])).sums ≡ plus (totals each).sums last
sums_more [] last = ap₂ (λ (m n : ℕ). the_sizes m n) (omega arith) (omega arith)
sums_more (first ∷ each) last =
    ap (plus first) (sums_more each last)
    ∙ ap₂ (λ (m n : ℕ). the_sizes m n) (omega arith) (omega arith)

products_more : (each : List Sizes) (last : Sizes) → (totals (each ++ last ∷ [])).products ≡ times (totals each).products last
products_more [] last = ap₂ (λ (m n : ℕ). the_sizes m n) (omega arith) (omega arith)
products_more (first ∷ each) last =
    ap (times first) (products_more each last)
    ∙ ap₂ (λ (m n : ℕ). the_sizes m n) (sym (mul_assoc first.positive (totals each).products.positive last.positive)) (sym (mul_assoc first.negative (totals each).products.negative last.negative))

taken : (parts : List Form) (i : ℕ) (part : Form) → i < length parts → part ≡ get_or parts i part → map sizes (take (i + 1) parts) ≡ map sizes (take i parts) ++ sizes part ∷ []
taken parts i part lt is = ap (map sizes) (take_more parts i part lt ∙ ap (λ (f : Form). take i parts ++ f ∷ []) (sym is)) ∙ map-append sizes (take i parts) (part ∷ [])

pub sums_on : (sums found next : Sizes) (parts : List Form) (i : ℕ) (part : Form) → i < length parts → part ≡ get_or parts i part
    → sums ≡ capped_sizes (totals (map sizes (take i parts))).sums → found ≡ capped_sizes (sizes part) → next ≡ capped_sizes (plus sums found)
    → next ≡ capped_sizes (totals (map sizes (take (i + 1) parts))).sums
sums_on sums found next parts i part lt is of_sums of_found e =
    e ∙ ap₂ (λ (m n : Sizes). capped_sizes (plus m n)) of_sums of_found ∙ plus_capped (totals (map sizes (take i parts))).sums (sizes part)
    ∙ sym (ap (λ (each : List Sizes). capped_sizes (totals each).sums) (taken parts i part lt is) ∙ ap capped_sizes (sums_more (map sizes (take i parts)) (sizes part)))

pub products_on : (products found next : Sizes) (parts : List Form) (i : ℕ) (part : Form) → i < length parts → part ≡ get_or parts i part
    → products ≡ capped_sizes (totals (map sizes (take i parts))).products → found ≡ capped_sizes (sizes part) → next ≡ capped_sizes (times products found)
    → next ≡ capped_sizes (totals (map sizes (take (i + 1) parts))).products
products_on products found next parts i part lt is of_products of_found e =
    e ∙ ap₂ (λ (m n : Sizes). capped_sizes (times m n)) of_products of_found ∙ times_capped (totals (map sizes (take i parts))).products (sizes part)
    ∙ sym (ap (λ (each : List Sizes). capped_sizes (totals each).products) (taken parts i part lt is) ∙ ap capped_sizes (products_more (map sizes (take i parts)) (sizes part)))

pub are_capped : (a b : Sizes) → a ≡ capped_sizes b → AreCapped a
are_capped a b e =
    let p : a.positive ≡ capped b.positive = ap (λ (s : Sizes). s.positive) e in
    let n : a.negative ≡ capped b.negative = ap (λ (s : Sizes). s.negative) e in
    record { positive = omega (arith, p); negative = omega (arith, n) }
