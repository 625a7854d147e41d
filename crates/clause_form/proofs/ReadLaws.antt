-- What the walk over a form reads at each kind of form, and one more part at the step of a loop.
use Rattle.std.proofs.Common.{◌≡◌, ℕ, ◌+◌, ◌-◌, ◌<◌, ◌≤◌, List, [], ◌∷◌, ◌++◌, take, drop, length, get_or, map, Bool, Result, Ok, Err, OnOk, refl, sym, ap, ◌∙◌}
use Rattle.std.specs.Prelude.{Some, None}
use Rattle.std.proofs.lemmas.List.{map_more}
use Rattle.sigma_base.proofs.SliceLaws.{no_items, first_item}
use Rattle.kif_tree.specs.declared.form.Form.{Form}
use Rattle.kif_tree.specs.declared.form.Form.TheVariants as form
use Rattle.kif_tree.specs.Terms.{Bytes}
use Rattle.clause_form.specs.Connectives.{connective_of}
use Rattle.clause_form.specs.ReadingLaws.{reading_empty, reading_connected, reading_plain}
use Rattle.clause_form.specs.Readings.{Part, Read, ReadAll, literal, connected, each, reading}
use Rattle.clause_form.specs.Reads.{beside}
use Rattle.clause_form.specs.declared.connective.Connective.{Connective}
use Rattle.clause_form.specs.declared.matrix.Matrix.{Matrix}
use Rattle.clause_form.specs.declared.scope.Counts.{Counts}
use Rattle.clause_form.specs.declared.scope.Scope.{Scope}

pub always : {T E P : Type 0} (result : Result T E) → P → OnOk result P
always (Ok value) p = p
always (Err error) p = tt

-- ---- kinds of forms

pub read_empty : (prefix : Bytes) (f : Form) (parts items : List Form) → f ≡ form.List parts → items ≡ parts → length items < 1 → reading prefix f ≡ literal f
read_empty prefix f parts items is same none =
    let empty : f ≡ form.List [] = is ∙ ap form.List (sym same ∙ no_items items none) in
    rw empty (reading_empty prefix)

pub headed : (f head : Form) (parts items : List Form) → f ≡ form.List parts → items ≡ parts → 1 ≤ length items → head ≡ get_or items 0 head → f ≡ form.List (head ∷ take (length items - 1) (drop 1 items))
headed f head parts items is same some first = is ∙ ap form.List (sym same ∙ first_item items head some first)

pub read_connected : (prefix : Bytes) (f head : Form) (rest : List Form) (connective : Connective) → f ≡ form.List (head ∷ rest) → connective_of head ≡ Some connective
    → reading prefix f ≡ connected prefix (Some connective) (map (beside prefix) rest) (literal f)
read_connected prefix f head rest connective is names = rw is (reading_connected prefix head rest connective names)

pub read_plain : (prefix : Bytes) (f head : Form) (rest : List Form) → f ≡ form.List (head ∷ rest) → connective_of head ≡ None → reading prefix f ≡ literal f
read_plain prefix f head rest is names = rw is (reading_plain prefix head rest names)

-- ---- parts one after the other

-- what one more part reads as comes last
abbrev and_then : ReadAll → (Counts → Read) → ReadAll
and_then all last = record { matrices = all.matrices ++ (last all.counts).matrix ∷ []; counts = (last all.counts).counts }

each-snoc : (parts : List Part) (part : Part) (sign : Bool) (scope : Scope) (counts : Counts) → each (parts ++ part ∷ []) sign scope counts ≡ and_then (each parts sign scope counts) (part.1 sign scope)
each-snoc [] part sign scope counts = refl
each-snoc (p ∷ parts) part sign scope counts =
    let first : Read = p.1 sign scope counts in
    let with_first : ReadAll → ReadAll = λ all. record { matrices = first.matrix ∷ all.matrices; counts = all.counts } in
    ap with_first (each-snoc parts part sign scope first.counts)

-- the reading of the first so many parts
abbrev pub so_far : Bytes → List Form → Bool → Scope → Counts → ℕ → ReadAll
so_far prefix parts sign scope counts i = each (map (beside prefix) (take i parts)) sign scope counts

pub each_next : (prefix : Bytes) (parts : List Form) (sign : Bool) (scope : Scope) (counts : Counts) (i : ℕ) (part : Form) → i < length parts → part ≡ get_or parts i part
    → so_far prefix parts sign scope counts (i + 1) ≡ and_then (so_far prefix parts sign scope counts i) (reading prefix part sign scope)
each_next prefix parts sign scope counts i part below is =
    ap (λ (ps : List Part). each ps sign scope counts) (map_more (beside prefix) parts i part below)
    ∙ each-snoc (map (beside prefix) (take i parts)) (beside prefix (get_or parts i part)) sign scope counts
    ∙ ap (λ (f : Form). and_then (so_far prefix parts sign scope counts i) (reading prefix f sign scope)) (sym is)

pub step_matrices : (before after : ReadAll) (read : Counts → Read) (matrices next : List Matrix) (matrix : Matrix) (counts : Counts)
    → matrices ≡ before.matrices → counts ≡ before.counts → after ≡ and_then before read → matrix ≡ (read counts).matrix → next ≡ matrices ++ matrix ∷ [] → next ≡ after.matrices
step_matrices before after read matrices next matrix counts held count step made pushed =
    pushed ∙ ap (λ (m : Matrix). matrices ++ m ∷ []) (made ∙ ap (λ (k : Counts). (read k).matrix) count)
    ∙ ap (λ (ms : List Matrix). ms ++ (read before.counts).matrix ∷ []) held
    ∙ ap (λ (all : ReadAll). all.matrices) (sym step)

pub step_counts : (before after : ReadAll) (read : Counts → Read) (counts new : Counts) → counts ≡ before.counts → after ≡ and_then before read → new ≡ (read counts).counts → new ≡ after.counts
step_counts before after read counts new count step made =
    made ∙ ap (λ (k : Counts). (read k).counts) count ∙ ap (λ (all : ReadAll). all.counts) (sym step)
