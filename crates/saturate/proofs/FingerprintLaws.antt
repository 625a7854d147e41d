-- What fingerprints leave out: clauses that don't subsume each other, and clauses from which nothing follows.
use Rattle.std.proofs.Common.{◌≡◌, ◌⊎◌, inl, inr, ◌<◌, ℕ, zero, suc, nat_eq, List, [], ◌∷◌, map, length, get_or, Bool, true, false, not, ◌&&◌, ◌||◌, Some, refl, sym, ap, ap₂, ◌∙◌, subst, eq-eqb, arith}
use Rattle.std.specs.List.{list_any, list_all}
use Rattle.std.proofs.lemmas.Bool.{or_parts}
use Rattle.std.proofs.lemmas.List.{length-map}
use Rattle.sigma_base.specs.Lists.{Each, each_map}
use Rattle.kif_tree.specs.declared.form.Form.{Form}
use Rattle.kif_tree.specs.declared.form.Form.TheVariants as form
use Rattle.kif_tree.specs.declared.clause.Literal.{Literal}
use Rattle.kif_tree.specs.Subst.{Filling, bind}
use Rattle.kif_tree.specs.Names.{parts_layer, parts_in}
use Rattle.kif_tree.specs.Clauses.{Literals, bind_literal, bind_clause, same_sign}
use Rattle.kif_tree.specs.FormLaws.{induction}
use Rattle.kif_tree.proofs.SubstLaws.{bind-List}
use Rattle.calculus.specs.Rules.{Picked, pick, others}
use Rattle.calculus.specs.Answers.{Among}
use Rattle.calculus.proofs.PlaceLaws.{picked}
use Rattle.calculus.proofs.MemberLaws.{among-left, among-right, among-parted, among-map, any-among, later}
use Rattle.calculus.proofs.TruthLaws.{both, false_true, signs}
use Rattle.calculus_programs.proofs.PickLaws.{some_item}
use Rattle.unify.specs.Subsumption.{Subsumes, StandsBeside, Stand}
use Rattle.unify.specs.Unifiers.{HasNoneApart}
use Rattle.infer.specs.Sites.{each_below, resolution_sites, resolutions}
use Rattle.infer.specs.Conclusions.{GivesNothing}
use Rattle.infer.proofs.ListLaws.{each_below-each}
use Rattle.infer.proofs.ResolveLaws.{resolve_none, one_sign}
use Rattle.saturate.specs.declared.fingerprint.Fingerprint.{Fingerprint}
use Rattle.saturate.specs.Fingerprints.{code, part_code, fits, agree, fingerprint, may_become, may_clash, first_of, others_of, fingerprints, may_be_in, may_subsume, may_resolve, may_meet}
use Rattle.saturate.proofs.CodeLaws.{kept}

-- ---- codes

fits_bound : (g : Filling) (f : Form) → fits (code f) (code (bind g f)) ≡ true
fits_bound g f = go (kept g f)
  where
    go : (code f ≡ 0) ⊎ (bind g f ≡ f) → fits (code f) (code (bind g f)) ≡ true
    go (inl none) = ap (λ (b : Bool). b || nat_eq (code f) (code (bind g f))) (eq-eqb (code f) 0 none)
    go (inr stays) = later (nat_eq (code f) 0) (nat_eq (code f) (code (bind g f))) (eq-eqb (code f) (code (bind g f)) (ap code (sym stays)))

pub agree_met : (f g : Filling) (x y : Form) → bind f x ≡ bind g y → agree (code x) (code y) ≡ true
agree_met f g x y meet = go (kept f x) (kept g y)
  where
    go : (code x ≡ 0) ⊎ (bind f x ≡ x) → (code y ≡ 0) ⊎ (bind g y ≡ y) → agree (code x) (code y) ≡ true
    go first (inl none) = ap (λ (b : Bool). b || fits (code x) (code y)) (eq-eqb (code y) 0 none)
    go (inl none) (inr stays) = later (nat_eq (code y) 0) (fits (code x) (code y)) (ap (λ (b : Bool). b || nat_eq (code x) (code y)) (eq-eqb (code x) 0 none))
    go (inr first) (inr second) =
        later (nat_eq (code y) 0) (fits (code x) (code y))
        (later (nat_eq (code x) 0) (nat_eq (code x) (code y)) (eq-eqb (code x) (code y) (ap code (sym first ∙ meet ∙ second))))

part_fits : (g : Filling) (parts : List Form) (n : ℕ) → fits (part_code parts n) (part_code (map (bind g) parts) n) ≡ true
part_fits g [] n = refl
part_fits g (f ∷ parts) zero = fits_bound g f
part_fits g (f ∷ parts) (suc n) = part_fits g parts n

part_agrees : (f g : Filling) (xs ys : List Form) → map (bind f) xs ≡ map (bind g) ys → (n : ℕ) → agree (part_code xs n) (part_code ys n) ≡ true
part_agrees f g xs [] meet n = refl
part_agrees f g [] (y ∷ ys) meet n = let e : [] ≡ bind g y ∷ map (bind g) ys = meet in absurd (cc)
part_agrees f g (x ∷ xs) (y ∷ ys) meet zero = agree_met f g x y (cc)
part_agrees f g (x ∷ xs) (y ∷ ys) meet (suc n) = part_agrees f g xs ys (cc) n

-- an atom has no parts, or has as many under a filling
pub parts-bind : (g : Filling) (f : Form) → (parts_in f ≡ []) ⊎ (parts_in (bind g f) ≡ map (bind g) (parts_in f))
parts-bind g = induction (λ f. (parts_in f ≡ []) ⊎ (parts_in (bind g f) ≡ map (bind g) (parts_in f))) (record {
  word = λ text. inl (ap parts_layer (form.outs-Word text));
  variable = λ text. inl (ap parts_layer (form.outs-Variable text));
  row = λ text. inl (ap parts_layer (form.outs-Row text));
  numeral = λ text. inl (ap parts_layer (form.outs-Numeral text));
  quoted = λ text. inl (ap parts_layer (form.outs-Quoted text));
  list = λ parts each. inr (ap parts_in (bind-List g parts) ∙ ap parts_layer (form.outs-List (map (bind g) parts))
      ∙ ap (map (bind g)) (sym (ap parts_layer (form.outs-List parts))));
})

-- ---- literals

sooner : (b c : Bool) → b ≡ true → (b || c) ≡ true
sooner b c h = ap (λ (a : Bool). a || c) h

signs_same : (b : Bool) → same_sign b b ≡ true
signs_same true = refl
signs_same false = refl

-- a literal may become what it becomes
becomes : (g : Filling) (literal : Literal) → may_become (fingerprint literal) (fingerprint (bind_literal g literal)) ≡ true
becomes g literal = go (parts-bind g literal.atom)
  where
    go : (parts_in literal.atom ≡ []) ⊎ (parts_in (bind g literal.atom) ≡ map (bind g) (parts_in literal.atom))
        → may_become (fingerprint literal) (fingerprint (bind_literal g literal)) ≡ true
    go (inl none) = sooner _ _ (ap (λ (parts : List Form). nat_eq (length parts) 0) none)
    go (inr are) =
        let parts = parts_in literal.atom in
        let sign = literal.positive in
        later _ _ (ap (λ (others : List Form). same_sign sign sign && (nat_eq (length parts) (length others)
        && (fits (part_code parts 0) (part_code others 0) && (fits (part_code parts 1) (part_code others 1) && fits (part_code parts 2) (part_code others 2))))) are
        ∙ ap₂ ◌&&◌ (signs_same sign) (ap₂ ◌&&◌ (eq-eqb (length parts) (length (map (bind g) parts)) (sym (length-map parts (bind g))))
        (ap₂ ◌&&◌ (part_fits g parts 0) (ap₂ ◌&&◌ (part_fits g parts 1) (part_fits g parts 2)))))

-- literals of different signs whose atoms become one form may clash
clashes : (f g : Filling) (l m : Literal) → not (same_sign l.positive m.positive) ≡ true → bind f l.atom ≡ bind g m.atom
    → may_clash (fingerprint l) (fingerprint m) ≡ true
clashes f g l m differ meet = go (parts-bind f l.atom) (parts-bind g m.atom)
  where
    go : (parts_in l.atom ≡ []) ⊎ (parts_in (bind f l.atom) ≡ map (bind f) (parts_in l.atom))
        → (parts_in m.atom ≡ []) ⊎ (parts_in (bind g m.atom) ≡ map (bind g) (parts_in m.atom)) → may_clash (fingerprint l) (fingerprint m) ≡ true
    go (inl none) second = sooner _ _ (ap (λ (ps : List Form). nat_eq (length ps) 0) none)
    go (inr first) (inl none) = later _ _ (sooner _ _ (ap (λ (ps : List Form). nat_eq (length ps) 0) none))
    go (inr first) (inr second) =
        let xs = parts_in l.atom in
        let ys = parts_in m.atom in
        let e : map (bind f) xs ≡ map (bind g) ys = sym first ∙ ap parts_in meet ∙ second in
        let lengths : length xs ≡ length ys = sym (length-map xs (bind f)) ∙ ap length e ∙ length-map ys (bind g) in
        later _ _ (later _ _
        (ap₂ ◌&&◌ differ (ap₂ ◌&&◌ (eq-eqb (length xs) (length ys) lengths)
        (ap₂ ◌&&◌ (part_agrees f g xs ys e 0) (ap₂ ◌&&◌ (part_agrees f g xs ys e 1) (part_agrees f g xs ys e 2))))))

-- ---- subsumption

-- the literals of a clause beside a chosen one are its own
module _ (clause : Literals) (place : ℕ) (found : Picked Literal) (at : pick clause place ≡ Some found) where
  chosen_among : Among found.chosen clause
  chosen_among =
      subst (Among found.chosen) (sym (picked clause place found at)) (among-right found.chosen found.before (found.chosen ∷ found.following) (inl refl))

  others_among : (literal : Literal) → Among literal (others found) → Among literal clause
  others_among literal there = subst (Among literal) (sym (picked clause place found at)) (elim (among-parted literal found.before found.following there) [
    | inl h ↦ among-left literal found.before (found.chosen ∷ found.following) h
    | inr h ↦ among-right literal found.before (found.chosen ∷ found.following) (inr h)
  ])

-- each literal of the general clause becomes one of the special clause
each_stands : (g : Filling) (general special : Literals) → Stand (bind_clause g general) special → Each (λ literal. Among (bind_literal g literal) special) general
each_stands g [] special stand = tt
each_stands g (literal ∷ general) special stand =
    let stands : StandsBeside (bind_literal g literal) (Stand (bind_clause g general)) special = stand in (
      subst (λ (l : Literal). Among l special) stands.is (chosen_among special stands.place stands.found stands.at),
      each_map (λ l. Among (bind_literal g l) (others stands.found)) (λ l. Among (bind_literal g l) special)
          (λ l. others_among special stands.place stands.found stands.at (bind_literal g l)) general
          (each_stands g general (others stands.found) stands.rest),
    )

-- and is seen to
seen_in : (g : Filling) (literal : Literal) (clause : Literals) → Among (bind_literal g literal) clause → may_be_in (fingerprint literal) (fingerprints clause) ≡ true
seen_in g literal [] there = absurd there
seen_in g literal (first ∷ more) (inl e) = sooner _ _ (ap (λ (l : Literal). may_become (fingerprint literal) (fingerprint l)) (sym e) ∙ becomes g literal)
seen_in g literal (first ∷ more) (inr there) =
    later _ _ (any-among (may_become (fingerprint literal)) (map fingerprint more) (fingerprint (bind_literal g literal))
    (among-map fingerprint (bind_literal g literal) more there) (becomes g literal))

all_seen_in : (g : Filling) (literals clause : Literals) → Each (λ literal. Among (bind_literal g literal) clause) literals
    → list_all (λ print. may_be_in print (fingerprints clause)) (map fingerprint literals) ≡ true
all_seen_in g [] clause each = refl
all_seen_in g (literal ∷ literals) clause each = ap₂ ◌&&◌ (seen_in g literal clause each.0) (all_seen_in g literals clause each.1)

pub subsumes_seen : (general special : Literals) → Subsumes general special → may_subsume (fingerprints general) (fingerprints special) ≡ true
subsumes_seen [] special s = refl
subsumes_seen (literal ∷ literals) special s =
    let each = each_stands s.by (literal ∷ literals) special s.sends in
    ap₂ ◌&&◌ (seen_in s.by literal special each.0) (all_seen_in s.by literals special each.1)

all_among : {X : Type 0} (p : X → Bool) (xs : List X) (x : X) → Among x xs → list_all p xs ≡ true → p x ≡ true
all_among p [] x there all = absurd there
all_among p (y ∷ xs) x (inl e) all = ap p e ∙ (both (p y) (list_all p xs) all).0
all_among p (y ∷ xs) x (inr there) all = all_among p xs x there (both (p y) (list_all p xs) all).1

-- by any of its literals
pub subsumes_seen_by : (general special : Literals) → Subsumes general special → (print : Fingerprint) → Among print (first_of general ∷ others_of general)
    → may_be_in print (fingerprints special) ≡ true
subsumes_seen_by general special s print there =
    all_among (λ other. may_be_in other (fingerprints special)) (first_of general ∷ others_of general) print there (subsumes_seen general special s)

-- ---- resolutions

none_passes : {X Y : Type 0} (p : Y → Bool) (h : X → Y) (xs : List X) → list_any p (map h xs) ≡ false → Each (λ x. p (h x) ≡ false) xs
none_passes p h [] none = tt
none_passes p h (x ∷ xs) none = let parts = or_parts (p (h x)) (list_any p (map h xs)) none in (parts.0, none_passes p h xs parts.1)

each_index : {X : Type 0} (P : X → Type 0) (xs : List X) (n : ℕ) (x : X) → n < length xs → x ≡ get_or xs n x → Each P xs → P x
each_index P [] n x below is each = absurd (omega arith)
each_index P (y ∷ xs) zero x below is each = subst P (sym is) each.0
each_index P (y ∷ xs) (suc n) x below is each = each_index P xs n x (omega arith) is each.1

-- the literal can't be resolved upon with one of the clause
abbrev pub IsApartFrom : Literals → Literal → Type 0
IsApartFrom clause literal = Each (λ other. may_clash (fingerprint literal) (fingerprint other) ≡ false) clause

apart_from : (clause : Literals) (literal : Literal) → may_resolve (fingerprint literal) (fingerprints clause) ≡ false → IsApartFrom clause literal
apart_from [] literal none = tt
apart_from (other ∷ others) literal none =
    let parts = or_parts (may_clash (fingerprint literal) (fingerprint other)) (list_any (may_clash (fingerprint literal)) (map fingerprint others)) none in
    (parts.0, none_passes (may_clash (fingerprint literal)) fingerprint others parts.1)

module _ (given partner : Literals) where
  at_site : (i j : ℕ) (l m : Literal) → i < length given → j < length partner → l ≡ get_or given i l → m ≡ get_or partner j m
      → may_clash (fingerprint l) (fingerprint m) ≡ false → Each (GivesNothing (given ∷ partner ∷ [])) (resolution_sites i j)
  at_site i j l m l_below m_below l_is m_is apart = go (same_sign l.positive m.positive) refl
    where
      go : (b : Bool) → same_sign l.positive m.positive ≡ b → Each (GivesNothing (given ∷ partner ∷ [])) (resolution_sites i j)
      go true e = one_sign given partner i j l m l_below m_below l_is m_is (signs l.positive m.positive e)
      go false e =
          let none : HasNoneApart l.atom m.atom = λ f g meet. false_true (sym apart ∙ clashes f g l m (ap not e) meet) in
          let clauses : List Literals = given ∷ partner ∷ [] in (
            resolve_none clauses 0 i 1 j given partner l m refl refl l_below m_below l_is m_is none,
            (resolve_none clauses 1 j 0 i partner given m l refl refl m_below l_below m_is l_is (λ f g meet. none g f (sym meet)), tt),
          )

  pub nothing_resolved : Each (IsApartFrom partner) given → Each (GivesNothing (given ∷ partner ∷ [])) (resolutions given partner)
  nothing_resolved apart =
      each_below-each (GivesNothing (given ∷ partner ∷ [])) (length given) (λ i. each_below (length partner) (resolution_sites i)) (λ i i_below.
      each_below-each (GivesNothing (given ∷ partner ∷ [])) (length partner) (resolution_sites i) (λ j j_below.
      let one = some_item given i i_below in
      let two = some_item partner j j_below in
      at_site i j one.0 two.0 i_below j_below one.1 two.1
      (each_index (λ other. may_clash (fingerprint one.0) (fingerprint other) ≡ false) partner j two.0 j_below two.1
      (each_index (IsApartFrom partner) given i one.0 i_below one.1 apart))))

-- ---- two clauses

pub all_apart : (given partner : Literals) → may_meet (fingerprints given) (fingerprints partner) ≡ false → Each (IsApartFrom partner) given
all_apart [] partner none = tt
all_apart (literal ∷ literals) partner none =
    let parts = or_parts (may_resolve (fingerprint literal) (fingerprints partner))
    (list_any (λ print. may_resolve print (fingerprints partner)) (map fingerprint literals)) none in (
      apart_from partner literal parts.0,
      each_map (λ other. may_resolve (fingerprint other) (fingerprints partner) ≡ false) (IsApartFrom partner) (apart_from partner) literals
          (none_passes (λ print. may_resolve print (fingerprints partner)) fingerprint literals parts.1),
    )
