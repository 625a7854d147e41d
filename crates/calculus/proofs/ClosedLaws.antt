-- Row variables come in by no rule, and what a closing filling gives is closed.
use Rattle.kif_tree.proofs.TermLaws.{clean-Variable, clean-Word, clean-List, clean_all}
use Rattle.std.proofs.Common.{◌≡◌, ℕ, ◌+◌, List, [], ◌∷◌, ◌++◌, map, filter, Bool, true, false, not, ◌&&◌, if◌then◌else◌, codes, refl, sym, ap₂, ◌∙◌}
use Rattle.std.specs.List.{list_any}
use Rattle.std.specs.Str.{bytes_eq}
use Rattle.kif_tree.specs.declared.form.Form.{Form}
use Rattle.kif_tree.specs.declared.form.Form.TheVariants as form
use Rattle.kif_tree.specs.declared.subst.Pair.{Pair}
use Rattle.kif_tree.specs.declared.clause.Literal.{Literal}
use Rattle.kif_tree.specs.Terms.{Bytes, distinct, clean}
use Rattle.kif_tree.specs.Subst.{lookup, Filling, bind, via}
use Rattle.sigma_base.specs.Lists.{Each}
use Rattle.kif_tree.specs.Clauses.{Literals, bind_clause, clause_variables, same_literal}
use Rattle.calculus.specs.Tidy.{numbered, renaming, without_repeats, tidy, back_over, turned_back, new_name}
use Rattle.calculus.specs.declared.places.Frame.{Frame}
use Rattle.calculus.specs.Rules.{framed, bind_frame, plugged}
use Rattle.calculus.specs.Equality.{equal}
use Rattle.calculus.specs.Closed.{clean_clause, clean_pairs, Closes}
use Rattle.kif_tree.proofs.SubstLaws.{clean-bind}
use Rattle.calculus.proofs.TruthLaws.{both}

pub joined_true : (a b : Bool) → a ≡ true → b ≡ true → (a && b) ≡ true
joined_true a b h k = ap₂ ◌&&◌ h k

-- ---- filling in

abbrev pub Cleans : Bool → Filling → Type 0
Cleans v g = (name : Bytes) → clean v (g name) ≡ true

pub clean-via : (v : Bool) (f g : Filling) → Cleans true f → Cleans v g → Cleans v (via f g)
clean-via v f g hf hg name = clean-bind v g hg (f name) (hf name)

pub clean-bind_all : (v : Bool) (g : Filling) → Cleans v g → (fs : List Form) → clean_all true fs ≡ true → clean_all v (map (bind g) fs) ≡ true
clean-bind_all v g cleans [] h = refl
clean-bind_all v g cleans (f ∷ fs) h =
    let hs = both (clean true f) (clean_all true fs) h in
    joined_true (clean v (bind g f)) (clean_all v (map (bind g) fs)) (clean-bind v g cleans f hs.0) (clean-bind_all v g cleans fs hs.1)

pub clean-bind_clause : (v : Bool) (g : Filling) → Cleans v g → (c : Literals) → clean_clause true c ≡ true → clean_clause v (bind_clause g c) ≡ true
clean-bind_clause v g cleans [] h = refl
clean-bind_clause v g cleans (l ∷ ls) h =
    let hs = both (clean true l.atom) (clean_clause true ls) h in
    joined_true (clean v (bind g l.atom)) (clean_clause v (bind_clause g ls)) (clean-bind v g cleans l.atom hs.0) (clean-bind_clause v g cleans ls hs.1)

pub clean-lookup : (pairs : List Pair) → clean_pairs pairs ≡ true → Cleans true (lookup pairs)
clean-lookup [] h name = clean-Variable true name
clean-lookup (pair ∷ pairs) h name =
    let hs = both (clean true pair.term) (clean_pairs pairs) h in
    go (bytes_eq pair.variable name) (lookup pairs name) hs.0 (clean-lookup pairs hs.1 name)
  where
    go : (b : Bool) (other : Form) → clean true pair.term ≡ true → clean true other ≡ true → clean true (if b then pair.term else other) ≡ true
    go true other h k = h
    go false other h k = k

clean-numbered : (n : ℕ) (names : List Bytes) → clean_pairs (numbered n names) ≡ true
clean-numbered n [] = refl
clean-numbered n (name ∷ names) = joined_true (clean true (form.Variable (new_name n))) (clean_pairs (numbered (n + 1) names)) (clean-Variable true (new_name n)) (clean-numbered (n + 1) names)

clean-renaming : (c : Literals) → Cleans true (renaming c)
clean-renaming c = clean-lookup (numbered 1 (distinct (clause_variables c))) (clean-numbered 1 (distinct (clause_variables c)))

clean-filter : (v : Bool) (p : Literal → Bool) (c : Literals) → clean_clause v c ≡ true → clean_clause v (filter p c) ≡ true
clean-filter v p [] h = refl
clean-filter v p (l ∷ ls) h =
    let hs = both (clean v l.atom) (clean_clause v ls) h in
    go (p l) (filter p ls) hs.0 (clean-filter v p ls hs.1)
  where
    go : (b : Bool) (rest : Literals) → clean v l.atom ≡ true → clean_clause v rest ≡ true → clean_clause v (if b then l ∷ rest else rest) ≡ true
    go true rest h k = joined_true (clean v l.atom) (clean_clause v rest) h k
    go false rest h k = k

clean-without : (v : Bool) (c : Literals) → clean_clause v c ≡ true → clean_clause v (without_repeats c) ≡ true
clean-without v [] h = refl
clean-without v (l ∷ ls) h =
    let hs = both (clean v l.atom) (clean_clause v ls) h in
    joined_true (clean v l.atom) (clean_clause v (filter (λ m. not (same_literal l m)) (without_repeats ls))) hs.0 (clean-filter v (λ m. not (same_literal l m)) (without_repeats ls) (clean-without v ls hs.1))

pub clean-tidy : (c : Literals) → clean_clause true c ≡ true → clean_clause true (tidy c) ≡ true
unfolding tidy
clean-tidy c h = clean-bind_clause true (renaming (without_repeats c)) (clean-renaming (without_repeats c)) (without_repeats c) (clean-without true c h)

closes-back : (c : Literals) (g : Filling) → Closes g → Closes (back_over c g)
closes-back c g closes name = go (list_any (bytes_eq name) (clause_variables c))
  where
    go : (b : Bool) → clean false (if b then via (renaming c) g name else form.Word (codes "!any")) ≡ true
    go true = clean-via false (renaming c) g (clean-renaming c) closes name
    go false = clean-Word false (codes "!any")

pub closes-turned : (c : Literals) (g : Filling) → Closes g → Closes (turned_back c g)
unfolding turned_back
closes-turned c g closes = closes-back (without_repeats c) g closes

-- ---- lists and places

pub clean-append : (v : Bool) (xs ys : List Form) → clean_all v xs ≡ true → clean_all v ys ≡ true → clean_all v (xs ++ ys) ≡ true
clean-append v [] ys h k = k
clean-append v (x ∷ xs) ys h k =
    let hs = both (clean v x) (clean_all v xs) h in
    joined_true (clean v x) (clean_all v (xs ++ ys)) hs.0 (clean-append v xs ys hs.1 k)

clean-parted : (v : Bool) (xs ys : List Form) → clean_all v (xs ++ ys) ≡ true → (clean_all v xs ≡ true) × (clean_all v ys ≡ true)
clean-parted v [] ys h = (refl, h)
clean-parted v (x ∷ xs) ys h =
    let hs = both (clean v x) (clean_all v (xs ++ ys)) h in
    let rest = clean-parted v xs ys hs.1 in
    (joined_true (clean v x) (clean_all v xs) hs.0 rest.0, rest.1)

pub clause-append : (v : Bool) (xs ys : Literals) → clean_clause v xs ≡ true → clean_clause v ys ≡ true → clean_clause v (xs ++ ys) ≡ true
clause-append v [] ys h k = k
clause-append v (x ∷ xs) ys h k =
    let hs = both (clean v x.atom) (clean_clause v xs) h in
    joined_true (clean v x.atom) (clean_clause v (xs ++ ys)) hs.0 (clause-append v xs ys hs.1 k)

pub clause-parted : (v : Bool) (xs ys : Literals) → clean_clause v (xs ++ ys) ≡ true → (clean_clause v xs ≡ true) × (clean_clause v ys ≡ true)
clause-parted v [] ys h = (refl, h)
clause-parted v (x ∷ xs) ys h =
    let hs = both (clean v x.atom) (clean_clause v (xs ++ ys)) h in
    let rest = clause-parted v xs ys hs.1 in
    (joined_true (clean v x.atom) (clean_clause v xs) hs.0 rest.0, rest.1)

pub record CleanFrame (v : Bool) (frame : Frame) : Type 0 where
  pub head : clean v frame.head ≡ true
  pub before : clean_all v frame.before ≡ true
  pub following : clean_all v frame.following ≡ true

pub clean-framed : (v : Bool) (frame : Frame) (f : Form) → CleanFrame v frame → clean v f ≡ true → clean v (framed frame f) ≡ true
clean-framed v frame f h k =
    clean-List v (frame.head ∷ (frame.before ++ f ∷ frame.following))
    ∙ joined_true (clean v frame.head) (clean_all v (frame.before ++ f ∷ frame.following)) h.head
    (clean-append v frame.before (f ∷ frame.following) h.before (joined_true (clean v f) (clean_all v frame.following) k h.following))

clean-unframed : (v : Bool) (frame : Frame) (f : Form) → clean v (framed frame f) ≡ true → CleanFrame v frame × (clean v f ≡ true)
clean-unframed v frame f h =
    let hs = both (clean v frame.head) (clean_all v (frame.before ++ f ∷ frame.following)) (sym (clean-List v (frame.head ∷ (frame.before ++ f ∷ frame.following))) ∙ h) in
    let parts = clean-parted v frame.before (f ∷ frame.following) hs.1 in
    let rest = both (clean v f) (clean_all v frame.following) parts.1 in
    (record { head = hs.0; before = parts.0; following = rest.1 }, rest.0)

pub clean-bind_frame : (v : Bool) (g : Filling) → Cleans v g → (frame : Frame) → CleanFrame true frame → CleanFrame v (bind_frame g frame)
clean-bind_frame v g cleans frame h = record {
  head = clean-bind v g cleans frame.head h.head;
  before = clean-bind_all v g cleans frame.before h.before;
  following = clean-bind_all v g cleans frame.following h.following;
}

pub clean-bind_frames : (v : Bool) (g : Filling) → Cleans v g → (frames : List Frame) → Each (CleanFrame true) frames → Each (CleanFrame v) (map (bind_frame g) frames)
clean-bind_frames v g cleans [] h = tt
clean-bind_frames v g cleans (frame ∷ frames) h = (clean-bind_frame v g cleans frame h.0, clean-bind_frames v g cleans frames h.1)

pub clean-plugged : (v : Bool) (frames : List Frame) (f : Form) → Each (CleanFrame v) frames → clean v f ≡ true → clean v (plugged frames f) ≡ true
clean-plugged v [] f h k = k
clean-plugged v (frame ∷ frames) f h k = clean-framed v frame (plugged frames f) h.0 (clean-plugged v frames f h.1 k)

pub clean-unplugged : (v : Bool) (frames : List Frame) (f : Form) → clean v (plugged frames f) ≡ true → Each (CleanFrame v) frames × (clean v f ≡ true)
clean-unplugged v [] f h = (tt, h)
clean-unplugged v (frame ∷ frames) f h =
    let outer = clean-unframed v frame (plugged frames f) h in
    let rest = clean-unplugged v frames f outer.1 in
    ((outer.0, rest.0), rest.1)

pub clean-equal : (v : Bool) (a b : Form) → clean v a ≡ true → clean v b ≡ true → clean v (equal a b) ≡ true
clean-equal v a b h k =
    clean-List v (form.Word (codes "equal") ∷ a ∷ b ∷ [])
    ∙ joined_true (clean v (form.Word (codes "equal"))) (clean v a && (clean v b && true)) (clean-Word v (codes "equal"))
    (joined_true (clean v a) (clean v b && true) h (joined_true (clean v b) true k refl))

pub clean-unequal : (v : Bool) (a b : Form) → clean v (equal a b) ≡ true → (clean v a ≡ true) × (clean v b ≡ true)
clean-unequal v a b h =
    let hs = both (clean v (form.Word (codes "equal"))) (clean v a && (clean v b && true)) (sym (clean-List v (form.Word (codes "equal") ∷ a ∷ b ∷ [])) ∙ h) in
    let rest = both (clean v a) (clean v b && true) hs.1 in
    let last = both (clean v b) true rest.1 in
    (rest.0, last.0)
