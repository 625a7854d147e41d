-- Marks of signs and heads: of two clauses that share no bit no literals are resolved upon.
use Rattle.std.proofs.Common.{◌≡◌, ◌⊎◌, inl, inr, ◌<◌, ◌≤◌, ℕ, ◌^◌, min, nat_eq, List, [], ◌∷◌, map, length, Bool, true, false, not, ◌||◌, if◌then◌else◌, refl, sym, ap, ap₂, ◌∙◌, subst, eq-eqb, arith}
use Rattle.std.specs.Int.{bit_at}
use Rattle.std.specs.Int.Bits.{bit_and, bit_or}
use Rattle.std.proofs.lemmas.Bool.{eqb-true}
use Rattle.std.proofs.lemmas.Nat.Bits.{bit_at_and, bit_at_or, bit_at-zero, bit_at-pow_same, bit_at_ones}
use Rattle.std.proofs.Math.Nat.{le-max_left, le-max_right, le-min}
use Rattle.sigma_base.specs.Lists.{Each}
use Rattle.kif_tree.specs.declared.form.Form.{Form}
use Rattle.kif_tree.specs.declared.clause.Literal.{Literal}
use Rattle.kif_tree.specs.Names.{parts_in}
use Rattle.kif_tree.specs.Clauses.{Literals, same_sign}
use Rattle.calculus.specs.Answers.{Among}
use Rattle.calculus.proofs.TruthLaws.{both, false_true}
use Rattle.saturate.specs.Fingerprints.{part_code, agree, fingerprint, may_clash, first_of, others_of}
use Rattle.saturate.specs.Marks.{all_marks, joined, mark_place, mark, mark_of, marks_of, marks}
use Rattle.saturate.proofs.ListLaws.{each_of_members}

-- the bit is set
abbrev pub HasBit : ℕ → ℕ → Type 0
HasBit n i = 1 ≤ bit_at n i

-- one of the first 64 bits is set
pub record HasSome (n : ℕ) : Type 0 where
  pub place : ℕ
  pub below : place < 64
  pub set : HasBit n place

-- one of the first 64 bits is set in both
pub record Share (n m : ℕ) : Type 0 where
  pub place : ℕ
  pub below : place < 64
  pub first : HasBit n place
  pub second : HasBit m place

pub shared : (n m i : ℕ) → HasBit n i → HasBit m i → bit_and n m ≡ 0 → ⊥
shared n m i first second none =
    let least : 1 ≤ min (bit_at n i) (bit_at m i) = le-min first second in
    let is : bit_at (bit_and n m) i ≡ 0 = ap (λ (k : ℕ). bit_at k i) none ∙ bit_at-zero i in
    let parts = bit_at_and n m i in
    omega (arith, least, is, parts)

-- ---- marks of literals

pub all_set : (i : ℕ) → i < 64 → HasBit all_marks i
all_set i below = let one = bit_at_ones 64 i below in omega (arith, one)

pub power_set : (i : ℕ) → HasBit (2 ^ i) i
power_set i = let one = bit_at-pow_same i in omega (arith, one)

place_below : (positive : Bool) (head : ℕ) → mark_place positive head < 64
place_below true head = omega arith
place_below false head = omega arith

mark_some : (positive : Bool) (head : ℕ) → HasSome (mark positive head)
mark_some positive head = go (nat_eq head 0)
  where
    go : (b : Bool) → HasSome (if b then all_marks else 2 ^ mark_place positive head)
    go true = record { place = 0; below = omega arith; set = all_set 0 (omega arith) }
    go false = record { place = mark_place positive head; below = place_below positive head; set = power_set (mark_place positive head) }

mark_unknown : (positive : Bool) (head i : ℕ) → head ≡ 0 → i < 64 → HasBit (mark positive head) i
mark_unknown positive head i none below =
    subst (λ (b : Bool). HasBit (if b then all_marks else 2 ^ mark_place positive head) i) (sym (eq-eqb head 0 none)) (all_set i below)

-- ---- marks of clauses

pub joined_keeps : (marks : ℕ) (more : List ℕ) (i : ℕ) → HasBit marks i → HasBit (joined marks more) i
joined_keeps marks [] i h = h
joined_keeps marks (mark ∷ more) i h =
    joined_keeps (bit_or marks mark) more i
    (let is = bit_at_or marks mark i in let least = le-max_left (bit_at marks i) (bit_at mark i) in omega (arith, h, is, least))

pub joined_has : (marks : ℕ) (more : List ℕ) (mark i : ℕ) → Among mark more → HasBit mark i → HasBit (joined marks more) i
joined_has marks [] mark i there h = absurd there
joined_has marks (other ∷ more) mark i (inl e) h =
    joined_keeps (bit_or marks other) more i
    (let is = bit_at_or marks other i in
    let least = le-max_right (bit_at marks i) (bit_at other i) in
    let here : HasBit other i = subst (λ (n : ℕ). HasBit n i) e h in
    omega (arith, here, is, least))
joined_has marks (other ∷ more) mark i (inr there) h = joined_has (bit_or marks other) more mark i there h

-- a bit of one of its literals
clause_has : (own : Bool) (clause : Literals) (literal : Literal) (i : ℕ) → Among literal clause → HasBit (mark_of own (fingerprint literal)) i
    → HasBit (marks_of own (first_of clause) (others_of clause)) i
clause_has own [] literal i there h = absurd there
clause_has own (first ∷ clause) literal i (inl e) h =
    joined_keeps (mark_of own (fingerprint first)) (map (mark_of own) (map fingerprint clause)) i
    (subst (λ (l : Literal). HasBit (mark_of own (fingerprint l)) i) e h)
clause_has own (first ∷ clause) literal i (inr there) h =
    joined_has (mark_of own (fingerprint first)) (map (mark_of own) (map fingerprint clause)) (mark_of own (fingerprint literal)) i (among clause there) h
  where
    among : (more : Literals) → Among literal more → Among (mark_of own (fingerprint literal)) (map (mark_of own) (map fingerprint more))
    among [] k = absurd k
    among (other ∷ more) (inl e) = inl (ap (λ (l : Literal). mark_of own (fingerprint l)) e)
    among (other ∷ more) (inr k) = inr (among more k)

-- ---- literals that may clash

-- an atom without parts has no head that is known
no_head : (parts : List Form) → nat_eq (length parts) 0 ≡ true → part_code parts 0 ≡ 0
no_head [] e = refl
no_head (f ∷ parts) e = let no_way = eqb-true (length (f ∷ parts)) 0 e in absurd (omega (arith, no_way))

pub either : (b c : Bool) → (b || c) ≡ true → (b ≡ true) ⊎ (c ≡ true)
either true c h = inl refl
either false c h = inr h

signs_apart : (b c : Bool) → not (same_sign b c) ≡ true → same_sign false b ≡ same_sign true c
signs_apart true true h = absurd (false_true h)
signs_apart true false h = refl
signs_apart false true h = refl
signs_apart false false h = absurd (false_true h)

clash_shared : (l m : Literal) → may_clash (fingerprint l) (fingerprint m) ≡ true → Share (mark_of false (fingerprint l)) (mark_of true (fingerprint m))
clash_shared l m clash =
    elim (either (nat_eq (fingerprint l).parts 0) _ clash) [
      | inl e ↦ first_unknown (no_head (parts_in l.atom) e)
      | inr h ↦ elim (either (nat_eq (fingerprint m).parts 0) _ h) [
        | inl e ↦ second_unknown (no_head (parts_in m.atom) e)
        | inr k ↦
            let signs = both (not (same_sign l.positive m.positive)) _ k in
            let parts = both (nat_eq (fingerprint l).parts (fingerprint m).parts) _ signs.1 in
            let heads = both (agree (fingerprint l).head (fingerprint m).head) _ parts.1 in
            agreed (signs_apart l.positive m.positive signs.0) heads.0
      ]
    ]
  where
    first_unknown : (fingerprint l).head ≡ 0 → Share (mark_of false (fingerprint l)) (mark_of true (fingerprint m))
    first_unknown none =
        let one = mark_some (same_sign true m.positive) (fingerprint m).head in
        record { place = one.place; below = one.below; first = mark_unknown (same_sign false l.positive) (fingerprint l).head one.place none one.below; second = one.set }

    second_unknown : (fingerprint m).head ≡ 0 → Share (mark_of false (fingerprint l)) (mark_of true (fingerprint m))
    second_unknown none =
        let one = mark_some (same_sign false l.positive) (fingerprint l).head in
        record { place = one.place; below = one.below; first = one.set; second = mark_unknown (same_sign true m.positive) (fingerprint m).head one.place none one.below }

    agreed : same_sign false l.positive ≡ same_sign true m.positive → agree (fingerprint l).head (fingerprint m).head ≡ true
        → Share (mark_of false (fingerprint l)) (mark_of true (fingerprint m))
    agreed signs heads = elim (either (nat_eq (fingerprint m).head 0) _ heads) [
      | inl e ↦ second_unknown (eqb-true (fingerprint m).head 0 e)
      | inr h ↦ elim (either (nat_eq (fingerprint l).head 0) _ h) [
        | inl e ↦ first_unknown (eqb-true (fingerprint l).head 0 e)
        | inr e ↦
            let one = mark_some (same_sign false l.positive) (fingerprint l).head in
            record {
              place = one.place;
              below = one.below;
              first = one.set;
              second = subst (λ (n : ℕ). HasBit n one.place) (ap₂ mark signs (eqb-true (fingerprint l).head (fingerprint m).head e)) one.set;
            }
      ]
    ]

-- ---- clauses whose marks share no bit

pub no_clashes : (given partner : Literals) → bit_and (marks given).wanted (marks partner).own ≡ 0
    → Each (λ literal. Each (λ other. may_clash (fingerprint literal) (fingerprint other) ≡ false) partner) given
no_clashes given partner none =
    each_of_members (λ literal. Each (λ other. may_clash (fingerprint literal) (fingerprint other) ≡ false) partner) given (λ l l_among.
    each_of_members (λ other. may_clash (fingerprint l) (fingerprint other) ≡ false) partner (λ m m_among. go l m l_among m_among (may_clash (fingerprint l) (fingerprint m)) refl))
  where
    go : (l m : Literal) → Among l given → Among m partner → (b : Bool) → may_clash (fingerprint l) (fingerprint m) ≡ b → b ≡ false
    go l m l_among m_among false e = refl
    go l m l_among m_among true e =
        let share = clash_shared l m e in
        absurd (shared (marks given).wanted (marks partner).own share.place
        (clause_has false given l share.place l_among share.first) (clause_has true partner m share.place m_among share.second) none)
