-- Forms of two clauses that meet under fillings of their own, by one filling of tagged variables.
use Rattle.std.proofs.Common.{◌≡◌, ℕ, List, [], ◌∷◌, map, Bool, true, false, ◌||◌, nat_eq, if◌then◌else◌, refl, sym, ap, ◌∙◌, subst}
use Rattle.std.specs.List.{list_any}
use Rattle.std.specs.Str.{bytes_eq}
use Rattle.std.proofs.lemmas.Slice.Eq.{bytes_eq-Decides}
use Rattle.sigma_base.specs.Lists.{Each, each_map}
use Rattle.kif_tree.specs.declared.form.Form.{Form}
use Rattle.kif_tree.specs.declared.form.Form.TheVariants as form
use Rattle.kif_tree.specs.declared.subst.Pair.{Pair}
use Rattle.kif_tree.specs.Terms.{Bytes, variables, distinct}
use Rattle.kif_tree.specs.Subst.{Filling, bind, lookup, apply, apply_pair, via}
use Rattle.kif_tree.specs.Clauses.{Literals, clause_variables}
use Rattle.kif_tree.proofs.VariableLaws.{flipped}
use Rattle.kif_tree.proofs.SubstLaws.{bind-Variable, bind-via, Agree, agree}
use Rattle.calculus.proofs.RenamingLaws.{in_distinct}
use Rattle.calculus.proofs.TruthLaws.{false_true, members}
use Rattle.unify.specs.Unifiers.{HasNone, HasNoneApart, Unifies, IsMostGeneral, ArePlain}
use Rattle.unify.proofs.PlainLaws.{plain-Variable, plain_pairs}
use Rattle.infer.specs.declared.apart.Apart.{Apart}
use Rattle.infer.specs.Fillings.{IsOf, Meet, tags}

-- ---- tagged names

-- a tagged name of the first clause becomes what the first filling gives the name, one of the second clause what the second does
abbrev parted : Filling → Filling → Bytes → Form
parted f g [] = form.Variable []
parted f g (tag ∷ name) = if nat_eq tag 76 then f name else (if nat_eq tag 82 then g name else form.Variable (tag ∷ name))

-- a name that the tags name
lookup_tags : (tag : ℕ) (names : List Bytes) (name : Bytes) → list_any (bytes_eq name) names ≡ true → lookup (tags tag names) name ≡ form.Variable (tag ∷ name)
lookup_tags tag [] name h = absurd (false_true h)
lookup_tags tag (first ∷ names) name h = go (bytes_eq first name) refl (flipped first name) h (lookup_tags tag names name)
  where
    go : (b : Bool) → bytes_eq first name ≡ b → bytes_eq first name ≡ bytes_eq name first → (bytes_eq name first || list_any (bytes_eq name) names) ≡ true
        → (list_any (bytes_eq name) names ≡ true → lookup (tags tag names) name ≡ form.Variable (tag ∷ name))
        → (if b then form.Variable (tag ∷ first) else lookup (tags tag names) name) ≡ form.Variable (tag ∷ name)
    go true e turned h later = ap (λ (n : Bytes). form.Variable (tag ∷ n)) ((bytes_eq-Decides first name).0 e)
    go false e turned h later = later (ap (λ (b : Bool). b || list_any (bytes_eq name) names) (sym e ∙ turned) ∙ h)

-- the tags followed by a substitution
lookup_followed : (pairs next : List Pair) (name : Bytes) → list_any (λ (pair : Pair). bytes_eq name pair.variable) pairs ≡ true
    → lookup (map (apply_pair next) pairs) name ≡ apply next (lookup pairs name)
lookup_followed [] next name h = absurd (false_true h)
lookup_followed (pair ∷ pairs) next name h = go (bytes_eq pair.variable name) (flipped pair.variable name) h (lookup_followed pairs next name)
  where
    go : (b : Bool) → b ≡ bytes_eq name pair.variable → (bytes_eq name pair.variable || list_any (λ (p : Pair). bytes_eq name p.variable) pairs) ≡ true
        → (list_any (λ (p : Pair). bytes_eq name p.variable) pairs ≡ true → lookup (map (apply_pair next) pairs) name ≡ apply next (lookup pairs name))
        → (if b then apply next pair.term else lookup (map (apply_pair next) pairs) name) ≡ apply next (if b then pair.term else lookup pairs name)
    go true turned h later = refl
    go false turned h later = later (ap (λ (b : Bool). b || list_any (λ (p : Pair). bytes_eq name p.variable) pairs) turned ∙ h)

named_tags : (tag : ℕ) (names : List Bytes) (name : Bytes) → list_any (bytes_eq name) names ≡ true
    → list_any (λ (pair : Pair). bytes_eq name pair.variable) (tags tag names) ≡ true
named_tags tag [] name h = h
named_tags tag (first ∷ names) name h = go (bytes_eq name first) (list_any (bytes_eq name) names)
    (list_any (λ (pair : Pair). bytes_eq name pair.variable) (tags tag names)) h (named_tags tag names name)
  where
    go : (a b c : Bool) → (a || b) ≡ true → (b ≡ true → c ≡ true) → (a || c) ≡ true
    go true b c h k = refl
    go false b c h k = k h

-- ---- the tags of a clause

abbrev pub tagging : ℕ → Literals → List Pair
tagging tag clause = tags tag (distinct (clause_variables clause))

abbrev IsIn : Literals → Bytes → Type 0
IsIn clause name = list_any (bytes_eq name) (clause_variables clause) ≡ true

tagged : (tag : ℕ) (clause : Literals) (name : Bytes) → IsIn clause name → lookup (tagging tag clause) name ≡ form.Variable (tag ∷ name)
tagged tag clause name h = lookup_tags tag (distinct (clause_variables clause)) name (in_distinct name (clause_variables clause) h)

-- under a filling of tagged names
tagged_bind : (tag : ℕ) (clause : Literals) (whole part : Filling) → ((name : Bytes) → whole (tag ∷ name) ≡ part name) → (f : Form) → IsOf clause f
    → bind whole (apply (tagging tag clause) f) ≡ bind part f
tagged_bind tag clause whole part is f of =
    sym (bind-via (lookup (tagging tag clause)) whole f)
    ∙ agree (via (lookup (tagging tag clause)) whole) part f
    (each_map (IsIn clause) (Agree (via (lookup (tagging tag clause)) whole) part)
    (λ name h. ap (bind whole) (tagged tag clause name h) ∙ bind-Variable whole (tag ∷ name) ∙ is name) (variables f) of)

-- what a name becomes under the tags followed by the unifier
followed_at : (tag : ℕ) (clause : Literals) (unifier : List Pair) (name : Bytes) → IsIn clause name
    → lookup (map (apply_pair unifier) (tagging tag clause)) name ≡ apply unifier (lookup (tagging tag clause) name)
followed_at tag clause unifier name h =
    lookup_followed (tagging tag clause) unifier name (named_tags tag (distinct (clause_variables clause)) name (in_distinct name (clause_variables clause) h))

followed_bind : (tag : ℕ) (clause : Literals) (unifier : List Pair) (f : Form) → IsOf clause f
    → bind (lookup (map (apply_pair unifier) (tagging tag clause))) f ≡ apply unifier (apply (tagging tag clause) f)
followed_bind tag clause unifier f of =
    agree (lookup (map (apply_pair unifier) (tagging tag clause))) (via (lookup (tagging tag clause)) (lookup unifier)) f
    (each_map (IsIn clause) (Agree (lookup (map (apply_pair unifier) (tagging tag clause))) (via (lookup (tagging tag clause)) (lookup unifier)))
    (λ name h. followed_at tag clause unifier name h) (variables f) of)
    ∙ bind-via (lookup (tagging tag clause)) (lookup unifier) f

-- ---- both clauses

module _ (left : Literals) (first : Form) (right : Literals) (second : Form) (first_of : IsOf left first) (second_of : IsOf right second) where
  together : (f g : Filling) → bind f first ≡ bind g second → Unifies (parted f g) (apply (tagging 76 left) first) (apply (tagging 82 right) second)
  together f g e =
      tagged_bind 76 left (parted f g) f (λ name. refl) first first_of ∙ e
      ∙ sym (tagged_bind 82 right (parted f g) g (λ name. refl) second second_of)

  pub meet_none : (left_tags right_tags : List Pair) → left_tags ≡ tagging 76 left → right_tags ≡ tagging 82 right
      → HasNone (apply left_tags first) (apply right_tags second) → HasNoneApart first second
  meet_none left_tags right_tags left_is right_is none f g e =
      subst (λ (pairs : List Pair). Unifies (parted f g) (apply pairs first) (apply (tagging 82 right) second) → ⊥) left_is
      (subst (λ (pairs : List Pair). Unifies (parted f g) (apply left_tags first) (apply pairs second) → ⊥) right_is (none (parted f g)))
      (together f g e)

  -- the filling by its parts is the substitution followed by it
  turned : (tag : ℕ) (clause : Literals) (unifier : List Pair) (whole part : Filling) → ((name : Bytes) → whole (tag ∷ name) ≡ part name)
      → ((f : Form) → bind whole f ≡ bind whole (apply unifier f))
      → Each (λ name. part name ≡ bind whole (lookup (map (apply_pair unifier) (tagging tag clause)) name)) (clause_variables clause)
  turned tag clause unifier whole part is absorbed =
      each_map (IsIn clause) (λ name. part name ≡ bind whole (lookup (map (apply_pair unifier) (tagging tag clause)) name))
      (λ name h.
      sym (ap (bind whole) (followed_at tag clause unifier name h ∙ ap (apply unifier) (tagged tag clause name h)) ∙ sym (absorbed (form.Variable (tag ∷ name)))
      ∙ bind-Variable whole (tag ∷ name) ∙ is name))
      (clause_variables clause) (members (clause_variables clause))

  meet_by : (unifier : List Pair) (apart : Apart) → IsMostGeneral unifier (apply (tagging 76 left) first) (apply (tagging 82 right) second)
      → apart.left.pairs ≡ map (apply_pair unifier) (tagging 76 left) → apart.right.pairs ≡ map (apply_pair unifier) (tagging 82 right)
      → Meet left first right second apart
  meet_by unifier apart best left_is right_is = record {
    equal = ap (λ (pairs : List Pair). bind (lookup pairs) first) left_is ∙ followed_bind 76 left unifier first first_of ∙ best.equal
        ∙ sym (ap (λ (pairs : List Pair). bind (lookup pairs) second) right_is ∙ followed_bind 82 right unifier second second_of);
    general = λ f g e.
        let absorbed = best.absorbed (parted f g) (together f g e) in
        record {
          next = parted f g;
          left = subst (λ (pairs : List Pair). Each (λ name. f name ≡ bind (parted f g) (lookup pairs name)) (clause_variables left)) (sym left_is)
              (turned 76 left unifier (parted f g) f (λ name. refl) absorbed);
          right = subst (λ (pairs : List Pair). Each (λ name. g name ≡ bind (parted f g) (lookup pairs name)) (clause_variables right)) (sym right_is)
              (turned 82 right unifier (parted f g) g (λ name. refl) absorbed);
        };
  }

  pub meet_some : (left_tags right_tags unifier : List Pair) (apart : Apart) → left_tags ≡ tagging 76 left → right_tags ≡ tagging 82 right
      → IsMostGeneral unifier (apply left_tags first) (apply right_tags second)
      → apart.left.pairs ≡ map (apply_pair unifier) left_tags → apart.right.pairs ≡ map (apply_pair unifier) right_tags → Meet left first right second apart
  meet_some left_tags right_tags unifier apart left_is right_is best left_made right_made =
      meet_by unifier apart
      (subst (λ (pairs : List Pair). IsMostGeneral unifier (apply pairs first) (apply (tagging 82 right) second)) left_is
      (subst (λ (pairs : List Pair). IsMostGeneral unifier (apply left_tags first) (apply pairs second)) right_is best))
      (left_made ∙ ap (map (apply_pair unifier)) left_is) (right_made ∙ ap (map (apply_pair unifier)) right_is)

-- ---- plain forms

plain_tags : (tag : ℕ) (names : List Bytes) → ArePlain (tags tag names)
plain_tags tag [] = tt
plain_tags tag (name ∷ names) = (plain-Variable (tag ∷ name), plain_tags tag names)

pub plain-tagging : (tag : ℕ) (clause : Literals) (pairs : List Pair) → pairs ≡ tagging tag clause → ArePlain pairs
plain-tagging tag clause pairs is = subst ArePlain (sym is) (plain_tags tag (distinct (clause_variables clause)))

pub plain-followed : (pairs next made : List Pair) → ArePlain pairs → ArePlain next → made ≡ map (apply_pair next) pairs → ArePlain made
plain-followed pairs next made each more is = subst ArePlain (sym is) (plain_pairs pairs next each more)
