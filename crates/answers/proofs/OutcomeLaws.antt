-- What the parts of an outcome show.
use Rattle.std.proofs.Common.{◌≡◌, ℕ, zero, suc, ◌+◌, ◌<◌, List, [], ◌∷◌, ◌++◌, take, length, get_or, refl, sym, subst, arith}
use Rattle.kif_tree.specs.declared.form.Form.{Form, out-Form}
use Rattle.kif_tree.specs.declared.form.Form.TheOpen.{Form-F}
use Rattle.kif_tree.specs.Names.{parts_in, parts_layer}
use Rattle.calculus.specs.Answers.{arguments, arguments_in, arguments_of}
use Rattle.infer.proofs.ParamodulateLaws.{nth_index}
use Rattle.saturate.specs.declared.reached.Reached.{Reached}
use Rattle.saturate.specs.Runs.{clauses}
use Rattle.saturate.specs.Ends.{IsFound, IsSound}
use Rattle.answers.specs.Outcomes.{Correspond}
use Rattle.answers.proofs.LineLaws.{each_get}

-- ---- arguments

pub arguments-parts : (f : Form) → arguments f ≡ arguments_of (parts_in f)
arguments-parts f = go (out-Form f)
  where
    go : (layer : Form-F Form) → arguments_in layer ≡ arguments_of (parts_layer layer)
    go (Form-F.Word text) = refl
    go (Form-F.Variable text) = refl
    go (Form-F.Row text) = refl
    go (Form-F.Numeral text) = refl
    go (Form-F.Quoted text) = refl
    go (Form-F.List parts) = refl

-- ---- one answer more

pub correspond_more : {Y : Type 0} (P : ℕ → Y → Type 0) (xs : List ℕ) (i : ℕ) (ys new : List Y) (y : Y) → i < length xs → Correspond P (take i xs) ys
    → P (get_or xs i 0) y → new ≡ ys ++ y ∷ [] → Correspond P (take (i + 1) xs) new
correspond_more {Y = Y} P xs i ys new y within so_far here is =
    subst (Correspond P (take (i + 1) xs)) (sym is) (subst (λ k. Correspond P (take k xs) (ys ++ y ∷ [])) (let e : suc i ≡ i + 1 = omega arith in e) (go xs i ys within so_far here))
  where
    go : (xs : List ℕ) (i : ℕ) (ys : List Y) → i < length xs → Correspond P (take i xs) ys → P (get_or xs i 0) y → Correspond P (take (suc i) xs) (ys ++ y ∷ [])
    go [] i ys within so_far here = absurd (omega arith)
    go (x ∷ xs) zero [] within so_far here = (here, tt)
    go (x ∷ xs) zero (z ∷ ys) within so_far here = absurd so_far
    go (x ∷ xs) (suc i) [] within so_far here = absurd so_far
    go (x ∷ xs) (suc i) (z ∷ ys) within so_far here = (so_far.0, go xs i ys (omega arith) so_far.1 here)

-- ---- what a sound search keeps

-- a found clause is one of the steps'
pub found_there : (r : Reached) (i : ℕ) → IsSound r → i < length r.found → get_or r.found i 0 < length r.steps
found_there r i sound within =
    let found = each_get (IsFound r) r.found i within sound.found in
    let low = (nth_index (clauses r) (get_or r.found i 0) found.clause found.at).0 in
    let count = sound.derivation.same_length in omega (arith, low, count)
