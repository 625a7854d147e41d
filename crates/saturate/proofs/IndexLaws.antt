-- An index of known clauses: what is found by it is covered, and what is covered is found.
use Rattle.std.proofs.Common.{◌≡◌, ◌⊎◌, inl, inr, ◌<◌, ℕ, zero, suc, nat_eq, List, [], ◌∷◌, map, length, get_or, Bool, true, false, ◌&&◌, ◌||◌, if◌then◌else◌, Option, refl, sym, ap, subst, arith}
use Rattle.std.specs.List.{list_any}
use Rattle.std.proofs.lemmas.Bool.{eqb-true}
use Rattle.sigma_base.specs.Lists.{Each}
use Rattle.kif_tree.specs.declared.form.Form.{Form}
use Rattle.kif_tree.specs.FormLaws.{induction}
use Rattle.kif_tree.specs.Names.{parts_in}
use Rattle.kif_tree.specs.Clauses.{Literals, same_sign}
use Rattle.calculus.specs.Evidence.{list_from}
use Rattle.calculus.specs.Answers.{Among}
use Rattle.calculus.proofs.MemberLaws.{among-map, each_at}
use Rattle.calculus.proofs.TruthLaws.{both, false_true, signs}
use Rattle.unify.specs.Subsumption.{Subsumes}
use Rattle.infer.specs.Conclusions.{clause_at}
use Rattle.saturate.specs.declared.fingerprint.Fingerprint.{Fingerprint}
use Rattle.saturate.specs.declared.reached.Reached.{Reached}
use Rattle.saturate.specs.Covered.{is_tautology, IsSubsumed, IsNeedless}
use Rattle.saturate.specs.Fingerprints.{mixed, code_of_text, code_of_parts, code, part_code, fits, fingerprint_of, fingerprint, may_become, first_of, others_of}
use Rattle.saturate.specs.Runs.{clauses, known, IsCovered}
use Rattle.saturate.specs.Indexes.{Listing, key, key_of, HasCodes, UnderSecond, UnderFirst, UnderHead, UnderPrint, UnderAny, UnderClause, IsListedBy, IsIndexed}
use Rattle.saturate.proofs.CodeLaws.{code-Word, code-Variable, code-Row, code-Numeral, code-Quoted, code-List}
use Rattle.saturate.proofs.FingerprintLaws.{subsumes_seen_by}
use Rattle.saturate.proofs.SubsumedLaws.{covered_processed}
use Rattle.saturate.proofs.SubsumptionLaws.{subsumes_via, tautologies_subsume}

-- ---- codes are small

mixed_below : (code next : ℕ) → mixed code next < 2147483648
mixed_below code next = omega arith

code_of_text_below : (n : ℕ) (text : List ℕ) → n < 2147483648 → code_of_text n text < 2147483648
code_of_text_below n [] below = below
code_of_text_below n (byte ∷ bytes) below = code_of_text_below (mixed n byte) bytes (mixed_below n byte)

code_of_parts_below : (n : ℕ) (parts : List ℕ) → n < 2147483648 → code_of_parts n parts < 2147483648
code_of_parts_below n [] below = below
code_of_parts_below n (part ∷ parts) below = go (nat_eq part 0) (code_of_parts_below (mixed n part) parts (mixed_below n part))
  where
    go : (b : Bool) → code_of_parts (mixed n part) parts < 2147483648 → (if b then 0 else code_of_parts (mixed n part) parts) < 2147483648
    go true rest = omega arith
    go false rest = rest

pub code_below : (f : Form) → code f < 2147483648
code_below = induction (λ f. code f < 2147483648) (record {
  word = λ text. subst (λ n. n < 2147483648) (sym (code-Word text)) (code_of_text_below 1 text (omega arith));
  variable = λ text. subst (λ n. n < 2147483648) (sym (code-Variable text)) (omega arith);
  row = λ text. subst (λ n. n < 2147483648) (sym (code-Row text)) (omega arith);
  numeral = λ text. subst (λ n. n < 2147483648) (sym (code-Numeral text)) (code_of_text_below 2 text (omega arith));
  quoted = λ text. subst (λ n. n < 2147483648) (sym (code-Quoted text)) (code_of_text_below 3 text (omega arith));
  list = λ parts each. subst (λ n. n < 2147483648) (sym (code-List parts)) (code_of_parts_below 4 (map code parts) (omega arith));
})

pub part_code_below : (parts : List Form) (n : ℕ) → part_code parts n < 2147483648
part_code_below [] n = omega arith
part_code_below (f ∷ parts) zero = code_below f
part_code_below (f ∷ parts) (suc n) = part_code_below parts n

pub has_codes : (positive : Bool) (parts : List Form) → HasCodes (fingerprint_of positive parts)
has_codes positive parts = record { head = part_code_below parts 0; first = part_code_below parts 1; second = part_code_below parts 2 }

pub first_has_codes : (clause : Literals) → HasCodes (first_of clause)
first_has_codes [] = has_codes true []
first_has_codes (literal ∷ literals) = has_codes literal.positive (parts_in literal.atom)

pub others_have_codes : (clause : Literals) → Each HasCodes (others_of clause)
others_have_codes [] = tt
others_have_codes (literal ∷ literals) = each literals
  where
    each : (more : Literals) → Each HasCodes (map fingerprint more)
    each [] = tt
    each (other ∷ others) = (has_codes other.positive (parts_in other.atom), each others)

-- the key of one of some fingerprints
pub key_among : (prints items : List Fingerprint) (i : ℕ) (other : Fingerprint) (place : ℕ) → items ≡ prints → i < length items → place ≡ key_of (get_or items i other)
    → Among place (map key_of prints)
key_among prints items i other place is below at =
    subst (Among place) (ap (map key_of) is) (subst (λ (n : ℕ). Among n (map key_of items)) (sym at) (among-map key_of (get_or items i other) items (go items i below)))
  where
    go : (items : List Fingerprint) (i : ℕ) → i < length items → Among (get_or items i other) items
    go [] i below = absurd (omega arith)
    go (print ∷ items) zero below = inl refl
    go (print ∷ items) (suc i) below = inr (go items i (omega arith))

-- ---- what is covered is found

-- a code that fits is the other one, or none
fitting : (code other : ℕ) → fits code other ≡ true → (code ≡ other) ⊎ (code ≡ 0)
fitting code other h = go (nat_eq code 0) refl h
  where
    go : (b : Bool) → nat_eq code 0 ≡ b → (b || nat_eq code other) ≡ true → (code ≡ other) ⊎ (code ≡ 0)
    go true e k = inr (eqb-true code 0 e)
    go false e k = inl (eqb-true code other k)

-- one without parts has no codes
abbrev HasNone : Fingerprint → Type 0
HasNone print = print.parts ≡ 0 → (print.head ≡ 0) × (print.first ≡ 0) × (print.second ≡ 0)

none_without : (positive : Bool) (parts : List Form) → HasNone (fingerprint_of positive parts)
none_without positive [] e = (refl, refl, refl)
none_without positive (f ∷ parts) e = absurd (omega arith)

first_without : (clause : Literals) → HasNone (first_of clause)
first_without [] = none_without true []
first_without (literal ∷ literals) = none_without literal.positive (parts_in literal.atom)

others_without : (clause : Literals) → Each HasNone (others_of clause)
others_without [] = tt
others_without (literal ∷ literals) = each literals
  where
    each : (more : Literals) → Each HasNone (map fingerprint more)
    each [] = tt
    each (other ∷ others) = (none_without other.positive (parts_in other.atom), each others)

-- a key is that of a fingerprint
record Keyed (prints : List Fingerprint) (place : ℕ) : Type 0 where
  print : Fingerprint
  among : Among print prints
  is : place ≡ key_of print

keyed : (prints : List Fingerprint) (place : ℕ) → Among place (map key_of prints) → Keyed prints place
keyed [] place there = absurd there
keyed (print ∷ prints) place (inl e) = record { print = print; among = inl refl; is = e }
keyed (print ∷ prints) place (inr there) = let k = keyed prints place there in record { print = k.print; among = inr k.among; is = k.is }

module _ (listing : Listing) (all : List Literals) (clause : Literals) where
  abbrev Here : ℕ → Type 0
  Here place = IsSubsumed all (listing place) clause

  second_fits : (positive : Bool) (head first second other : ℕ) → (second ≡ other) ⊎ (second ≡ 0) → Here (key positive head first second)
      → UnderSecond listing all clause positive head first other
  second_fits positive head first second other (inl e) h = inl (subst (λ n. Here (key positive head first n)) e h)
  second_fits positive head first second other (inr e) h = inr (subst (λ n. Here (key positive head first n)) e h)

  first_fits : (positive : Bool) (head first second other : ℕ) → (first ≡ other) ⊎ (first ≡ 0) → UnderSecond listing all clause positive head first second
      → UnderFirst listing all clause positive head other second
  first_fits positive head first second other (inl e) h = inl (subst (λ n. UnderSecond listing all clause positive head n second) e h)
  first_fits positive head first second other (inr e) h = inr (subst (λ n. UnderSecond listing all clause positive head n second) e h)

  head_fits : (positive : Bool) (head first second other : ℕ) → (head ≡ other) ⊎ (head ≡ 0) → UnderFirst listing all clause positive head first second
      → UnderHead listing all clause positive other first second
  head_fits positive head first second other (inl e) h = inl (subst (λ n. UnderFirst listing all clause positive n first second) e h)
  head_fits positive head first second other (inr e) h = inr (subst (λ n. UnderFirst listing all clause positive n first second) e h)

  -- under what excludes nothing, or elsewhere
  abbrev OpenOr : Type 0 → Type 0
  OpenOr Elsewhere = Here (key true 0 0 0) ⊎ (Here (key false 0 0 0) ⊎ Elsewhere)

  open_map : {First Second : Type 0} → (First → Second) → OpenOr First → OpenOr Second
  open_map f (inl h) = inl h
  open_map f (inr (inl h)) = inr (inl h)
  open_map f (inr (inr h)) = inr (inr (f h))

  open_one : (positive : Bool) (other : Fingerprint) → Here (key positive 0 0 0) → OpenOr (UnderPrint listing all clause other)
  open_one true other h = inl h
  open_one false other h = inr (inl h)

  -- what may become the other one is looked up for it
  seen : (print other : Fingerprint) → HasNone print → may_become print other ≡ true → Here (key_of print) → OpenOr (UnderPrint listing all clause other)
  seen print other none becomes h = go (nat_eq print.parts 0) refl becomes
    where
      rest : Bool
      rest = same_sign print.positive other.positive && (nat_eq print.parts other.parts
          && (fits print.head other.head && (fits print.first other.first && fits print.second other.second)))

      fitted : rest ≡ true → UnderPrint listing all clause other
      fitted k =
          let sign = both (same_sign print.positive other.positive) _ k in
          let parts = both (nat_eq print.parts other.parts) _ sign.1 in
          let head = both (fits print.head other.head) _ parts.1 in
          let first = both (fits print.first other.first) _ head.1 in
          head_fits other.positive print.head other.first other.second other.head (fitting print.head other.head head.0)
          (first_fits other.positive print.head print.first other.second other.first (fitting print.first other.first first.0)
          (second_fits other.positive print.head print.first print.second other.second (fitting print.second other.second first.1)
          (subst (λ b. Here (key b print.head print.first print.second)) (signs print.positive other.positive sign.0) h)))

      go : (b : Bool) → nat_eq print.parts 0 ≡ b → (b || rest) ≡ true → OpenOr (UnderPrint listing all clause other)
      go true e k =
          let codes = none (eqb-true print.parts 0 e) in
          open_one print.positive other
          (subst (λ n. Here (key print.positive 0 0 n)) codes.2
          (subst (λ n. Here (key print.positive 0 n print.second)) codes.1 (subst (λ n. Here (key print.positive n print.first print.second)) codes.0 h)))
      go false e k = inr (inr (fitted k))

  seen_any : (print : Fingerprint) (others : List Fingerprint) → HasNone print → list_any (may_become print) others ≡ true → Here (key_of print)
      → OpenOr (UnderAny listing all clause others)
  seen_any print [] none any h = absurd (false_true any)
  seen_any print (other ∷ others) none any h = go (may_become print other) refl any (λ k. seen_any print others none k h)
    where
      go : (b : Bool) → may_become print other ≡ b → (b || list_any (may_become print) others) ≡ true
          → (list_any (may_become print) others ≡ true → OpenOr (UnderAny listing all clause others)) → OpenOr (UnderAny listing all clause (other ∷ others))
      go true e k more = open_map inl (seen print other none e h)
      go false e k more = open_map inr (more k)

pub covered_found : (listing : Listing) (r : Reached) (clause : Literals) → IsIndexed listing r → IsCovered r clause
    → (is_tautology clause ≡ true) ⊎ UnderClause listing (clauses r) clause
covered_found listing r clause indexed (inl h) = inl h
covered_found listing r clause indexed (inr s) =
    let there = each_at (λ number. IsListedBy listing (clause_at (clauses r) number) number) (known r) s.number s.among indexed.all in
    let is : clause_at (clauses r) s.number ≡ s.general = ap (λ (o : Option Literals). list_from o (λ clause. clause)) s.at in
    let by : IsListedBy listing s.general s.number = subst (λ (c : Literals). IsListedBy listing c s.number) is there in
    let prints = first_of s.general ∷ others_of s.general in
    let key = keyed prints by.place by.is_key in
    let none : HasNone key.print = each_at HasNone prints key.print key.among (first_without s.general, others_without s.general) in
    inr (seen_any listing (clauses r) clause key.print (first_of clause ∷ others_of clause) none (subsumes_seen_by s.general clause s.subsumes key.print key.among)
    (record {
      number = s.number;
      among = subst (λ (n : ℕ). Among s.number (listing n)) key.is by.among;
      general = s.general;
      at = s.at;
      subsumes = s.subsumes;
    }))

-- ---- what is found is covered

needless_via : (all : List Literals) (numbers : List ℕ) (general clause : Literals) → IsNeedless all numbers general → Subsumes general clause → IsNeedless all numbers clause
needless_via all numbers general clause (inl h) s = inl (tautologies_subsume general clause s h)
needless_via all numbers general clause (inr h) s =
    inr (record { number = h.number; among = h.among; general = h.general; at = h.at; subsumes = subsumes_via h.general general clause h.subsumes s })

module _ (listing : Listing) (r : Reached) (clause : Literals) (indexed : IsIndexed listing r) where
  abbrev At : ℕ → Type 0
  At place = IsSubsumed (clauses r) (listing place) clause

  at_covers : (place : ℕ) → At place → IsCovered r clause
  at_covers place s = go (indexed.right place s.number s.among)
    where
      is : clause_at (clauses r) s.number ≡ s.general
      is = ap (λ (o : Option Literals). list_from o (λ clause. clause)) s.at

      go : Among s.number (known r) ⊎ IsNeedless (clauses r) r.processed (clause_at (clauses r) s.number) → IsCovered r clause
      go (inl among) = inr (record { number = s.number; among = among; general = s.general; at = s.at; subsumes = s.subsumes })
      go (inr needless) =
          covered_processed r clause
          (needless_via (clauses r) r.processed s.general clause (subst (IsNeedless (clauses r) r.processed) is needless) s.subsumes)

  second_covers : (positive : Bool) (head first second : ℕ) → UnderSecond listing (clauses r) clause positive head first second → IsCovered r clause
  second_covers positive head first second (inl h) = at_covers (key positive head first second) h
  second_covers positive head first second (inr h) = at_covers (key positive head first 0) h

  first_covers : (positive : Bool) (head first second : ℕ) → UnderFirst listing (clauses r) clause positive head first second → IsCovered r clause
  first_covers positive head first second (inl h) = second_covers positive head first second h
  first_covers positive head first second (inr h) = second_covers positive head 0 second h

  head_covers : (positive : Bool) (head first second : ℕ) → UnderHead listing (clauses r) clause positive head first second → IsCovered r clause
  head_covers positive head first second (inl h) = first_covers positive head first second h
  head_covers positive head first second (inr h) = first_covers positive 0 first second h

  print_covers : (print : Fingerprint) → UnderPrint listing (clauses r) clause print → IsCovered r clause
  print_covers print h = head_covers print.positive print.head print.first print.second h

  any_covers : (prints : List Fingerprint) → UnderAny listing (clauses r) clause prints → IsCovered r clause
  any_covers [] h = absurd h
  any_covers (print ∷ prints) (inl h) = print_covers print h
  any_covers (print ∷ prints) (inr h) = any_covers prints h

  clause_covers : UnderClause listing (clauses r) clause → IsCovered r clause
  clause_covers (inl h) = at_covers (key true 0 0 0) h
  clause_covers (inr (inl h)) = at_covers (key false 0 0 0) h
  clause_covers (inr (inr (inl h))) = print_covers (first_of clause) h
  clause_covers (inr (inr (inr h))) = any_covers (others_of clause) h

pub found_covers : (listing : Listing) (r : Reached) (clause : Literals) → IsIndexed listing r → UnderClause listing (clauses r) clause → IsCovered r clause
found_covers listing r clause indexed h = clause_covers listing r clause indexed h
