-- Sites of paramodulation at which nothing is concluded, and the sites of whole clauses.
use Rattle.std.proofs.Common.{◌≡◌, ◌<◌, ◌⊎◌, inl, inr, ℕ, zero, suc, List, [], ◌∷◌, ◌++◌, map, length, get_or, Bool, true, false, not, ◌&&◌, Option, Some, None, refl, sym, ap, ◌∙◌, subst}
use Rattle.sigma_base.specs.Lists.{Each, each_append}
use Rattle.kif_tree.specs.declared.clause.Literal.{Literal}
use Rattle.kif_tree.specs.Subst.{Filling, lookup}
use Rattle.kif_tree.specs.Clauses.{Literals, is_answer}
use Rattle.calculus.specs.declared.places.Sides.{Sides}
use Rattle.calculus.specs.declared.places.Replaced.{Replaced}
use Rattle.calculus.specs.declared.step.Step.{Step}
use Rattle.calculus.specs.Tidy.{tidy}
use Rattle.calculus.specs.Rules.{after, given, nth, Picked, put_first, pick, sides, from_side, to_side, opened, replacement_by, replaced_by, replaced, concluded}
use Rattle.calculus.specs.Evidence.{list_from}
use Rattle.calculus.proofs.PlaceLaws.{through, none_some, some_same}
use Rattle.calculus_programs.proofs.PickLaws.{nth-some}
use Rattle.infer.specs.declared.conclusion.Conclusion.{Conclusion}
use Rattle.infer.specs.Inside.{IsEquation}
use Rattle.infer.specs.Sites.{paths, resolutions, paramodulation_sites, paramodulations_by, paramodulations, conclusion_sites}
use Rattle.infer.specs.Conclusions.{GivesNothing, Adds, AreConclusions}
use Rattle.infer.proofs.ListLaws.{each_below-each, adds-none, adds-append, adds-all}
use Rattle.infer.proofs.ParamodulateLaws.{site, stands_at}

-- the literal that the code reads is the one of that number
pub literal_at : (clause read : Literals) (n : ℕ) (literal : Literal) → n < length clause → literal ≡ get_or read n literal → read ≡ clause
    → nth clause n ≡ Some literal
literal_at clause read n literal below is same = nth-some clause n literal below (is ∙ ap (λ (xs : Literals). get_or xs n literal) same)

-- a positive literal with sides
pub equation_at : (clause : Literals) (n : ℕ) (literal : Literal) (equality : Sides) (flipped : Bool) → nth clause n ≡ Some literal
    → literal.positive ≡ true → sides literal.atom ≡ Some equality → IsEquation clause n flipped (from_side flipped equality) (to_side flipped equality)
equation_at clause n literal equality flipped at positive equal =
    record { literal = literal; at = at; positive = positive; equality = equality; equal = equal; from_is = refl; to_is = refl }

-- ---- sites at which the rule allows nothing

none_after : {A B : Type 0} (o : Option A) (f : A → Option B) → ((a : A) → o ≡ Some a → f a ≡ None) → after o f ≡ None
none_after None f h = refl
none_after (Some a) f h = h a refl

pick_nth : {X : Type 0} (xs : List X) (n : ℕ) (p : Picked X) → pick xs n ≡ Some p → nth xs n ≡ Some p.chosen
pick_nth [] n p e = absurd (none_some p e)
pick_nth {X = X} (x ∷ xs) zero p e = ap (λ (q : Picked X). Some q.chosen) (some_same _ p e)
pick_nth {X = X} (x ∷ xs) (suc n) p e =
    let t = through (pick xs n) (λ q. Some (put_first x q)) p e in
    pick_nth xs n t.at t.is ∙ ap (λ (q : Picked X). Some q.chosen) (some_same (put_first x t.at) p t.gives)

refused : (positive more : Bool) (w : Replaced) → positive ≡ false → given (positive && more) (Some w) ≡ None
refused positive more w e = ap (λ (b : Bool). given (b && more) (Some w)) e

answered : (positive asks more : Bool) (w : Replaced) → asks ≡ true → given (positive && (not asks && more)) (Some w) ≡ None
answered true asks more w e = ap (λ (b : Bool). given (not b && more) (Some w)) e
answered false asks more w e = refl

-- the literal of that number doesn't do as an equality
abbrev pub IsNoEquality : Literals → ℕ → Type 0
IsNoEquality source i = (literal : Literal) → nth source i ≡ Some literal → (literal.positive ≡ false) ⊎ (sides literal.atom ≡ None)

-- the literal of that number is an answer literal
abbrev pub IsAnswer : Literals → ℕ → Type 0
IsAnswer target j = (literal : Literal) → nth target j ≡ Some literal → is_answer literal.atom ≡ true

module _ (clauses : List Literals) (source_number i : ℕ) (flipped : Bool) (target_number j : ℕ) (path : List ℕ) where
  never : ((source target : Literals) → nth clauses source_number ≡ Some source → nth clauses target_number ≡ Some target → (f g : Filling)
      → replaced source i flipped f target j path g ≡ None)
      → GivesNothing clauses (site source_number i flipped target_number j path)
  never none step e =
      let at = stands_at source_number i flipped target_number j path step e in
      let F = lookup at.first.pairs in
      let G = lookup at.second.pairs in
      ap (λ (t : Step). concluded t clauses) at.is
      ∙ ap (λ (o : Option Replaced). after (after o (λ w. Some w.conclusion)) (λ c. Some (tidy c)))
      (none_after (nth clauses source_number) (λ s. after (nth clauses target_number) (λ t. replaced s i flipped F t j path G)) (λ s s_at.
      none_after (nth clauses target_number) (λ t. replaced s i flipped F t j path G) (λ t t_at. none s t s_at t_at F G)))

  pub nothing_by : (source : Literals) → nth clauses source_number ≡ Some source → IsNoEquality source i
      → GivesNothing clauses (site source_number i flipped target_number j path)
  nothing_by source source_at lacks = never (λ s target s_at target_at f g.
      none_after (pick s i)
      (λ p. after (sides p.chosen.atom) (λ e. after (pick target j) (λ m. after (opened path m.chosen.atom) (replaced_by f flipped p e g m)))) (λ p picks.
      go s target f g p
      (lacks p.chosen (subst (λ (c : Literals). nth c i ≡ Some p.chosen) (some_same s source (sym s_at ∙ source_at)) (pick_nth s i p picks)))))
    where
      go : (s target : Literals) (f g : Filling) (p : Picked Literal) → (p.chosen.positive ≡ false) ⊎ (sides p.chosen.atom ≡ None)
          → after (sides p.chosen.atom) (λ e. after (pick target j) (λ m. after (opened path m.chosen.atom) (replaced_by f flipped p e g m))) ≡ None
      go s target f g p (inr none) =
          ap (λ (o : Option Sides). after o (λ e. after (pick target j) (λ m. after (opened path m.chosen.atom) (replaced_by f flipped p e g m)))) none
      go s target f g p (inl negative) =
          none_after (sides p.chosen.atom) (λ e. after (pick target j) (λ m. after (opened path m.chosen.atom) (replaced_by f flipped p e g m))) (λ e _.
          none_after (pick target j) (λ m. after (opened path m.chosen.atom) (replaced_by f flipped p e g m)) (λ m _.
          none_after (opened path m.chosen.atom) (replaced_by f flipped p e g m) (λ o _.
          refused p.chosen.positive _ (replacement_by f flipped p e g m o) negative)))

  pub nothing_into : (target : Literals) → nth clauses target_number ≡ Some target → IsAnswer target j
      → GivesNothing clauses (site source_number i flipped target_number j path)
  nothing_into target target_at answer = never (λ source t source_at t_at f g.
      none_after (pick source i)
      (λ p. after (sides p.chosen.atom) (λ e. after (pick t j) (λ m. after (opened path m.chosen.atom) (replaced_by f flipped p e g m)))) (λ p _.
      none_after (sides p.chosen.atom) (λ e. after (pick t j) (λ m. after (opened path m.chosen.atom) (replaced_by f flipped p e g m))) (λ e _.
      none_after (pick t j) (λ m. after (opened path m.chosen.atom) (replaced_by f flipped p e g m)) (λ m picks.
      none_after (opened path m.chosen.atom) (replaced_by f flipped p e g m) (λ o _.
      answered p.chosen.positive (is_answer m.chosen.atom) _ (replacement_by f flipped p e g m o)
      (answer m.chosen (subst (λ (c : Literals). nth c j ≡ Some m.chosen) (some_same t target (sym t_at ∙ target_at)) (pick_nth t j m picks))))))))

-- ---- what holds of each site

each_mapped : {X Y : Type 0} (P : Y → Type 0) (f : X → Y) → ((x : X) → P (f x)) → (xs : List X) → Each P (map f xs)
each_mapped P f h [] = tt
each_mapped P f h (x ∷ xs) = (h x, each_mapped P f h xs)

module _ (P : Step → Type 0) (source i : ℕ) (flipped : Bool) (target : ℕ) (into : Literals) where
  pub each_site : (j : ℕ) → ((path : List ℕ) → P (site source i flipped target j path)) → Each P (paramodulation_sites source i flipped target into j)
  each_site j h = go (nth into j)
    where
      go : (o : Option Literal) → Each P (list_from o (λ literal. map (site source i flipped target j) (paths literal.atom)))
      go None = tt
      go (Some literal) = each_mapped P (site source i flipped target j) h (paths literal.atom)

  pub each_site_by : ((j : ℕ) (path : List ℕ) → P (site source i flipped target j path)) → Each P (paramodulations_by source i flipped target into)
  each_site_by h = each_below-each P (length into) (paramodulation_sites source i flipped target into) (λ j _. each_site j (h j))

-- by one literal of the source, in both directions
abbrev pub both_ways : ℕ → ℕ → ℕ → Literals → List Step
both_ways source i target into = paramodulations_by source i false target into ++ paramodulations_by source i true target into

-- an equality literal's sites where it is none
pub nothing_by_literal : (clauses : List Literals) (source_number i target_number : ℕ) (source target : Literals)
    → nth clauses source_number ≡ Some source → IsNoEquality source i → Each (GivesNothing clauses) (both_ways source_number i target_number target)
nothing_by_literal clauses source_number i target_number source target source_at lacks =
    let by : (flipped : Bool) → Each (GivesNothing clauses) (paramodulations_by source_number i flipped target_number target) = λ flipped.
    each_site_by (GivesNothing clauses) source_number i flipped target_number target
    (λ j path. nothing_by clauses source_number i flipped target_number j path source source_at lacks) in
    each_append (GivesNothing clauses) (paramodulations_by source_number i false target_number target)
    (paramodulations_by source_number i true target_number target) (by false) (by true)

pub nothing_into_literal : (clauses : List Literals) (source_number i : ℕ) (flipped : Bool) (target_number : ℕ) (target : Literals) (j : ℕ)
    → nth clauses target_number ≡ Some target → IsAnswer target j
    → Each (GivesNothing clauses) (paramodulation_sites source_number i flipped target_number target j)
nothing_into_literal clauses source_number i flipped target_number target j target_at answer =
    each_site (GivesNothing clauses) source_number i flipped target_number target j
    (λ path. nothing_into clauses source_number i flipped target_number j path target target_at answer)

-- the sites inside a literal, as the code adds them
pub sites_inside : (source i : ℕ) (flipped : Bool) (target : ℕ) (into : Literals) (j : ℕ) (literal : Literal) (path : List ℕ)
    → nth into j ≡ Some literal → path ≡ []
    → map (λ (more : List ℕ). site source i flipped target j (path ++ more)) (paths literal.atom) ≡ paramodulation_sites source i flipped target into j
sites_inside source i flipped target into j literal path at empty =
    ap (λ (way : List ℕ). map (λ (more : List ℕ). site source i flipped target j (way ++ more)) (paths literal.atom)) empty
    ∙ sym (ap (λ (o : Option Literal). list_from o (λ l. map (site source i flipped target j) (paths l.atom))) at)

-- ---- two clauses

module _ (given_clause partner : Literals) (same : Bool) (empty middle last : List Conclusion) (none : empty ≡ []) where
  abbrev clauses : List Literals
  clauses = given_clause ∷ partner ∷ []

  module _ (resolved : Adds clauses (resolutions given_clause partner) empty middle)
      (forth : Adds clauses (paramodulations 0 given_clause 1 partner) middle last) where
    found : (all : List Conclusion) → Adds clauses (conclusion_sites given_clause partner same) empty all → AreConclusions given_clause partner same all
    found all adds =
        adds-all clauses (conclusion_sites given_clause partner same) all
        (subst (λ (old : List Conclusion). Adds clauses (conclusion_sites given_clause partner same) old all) none adds)

    pub found_same : (all : List Conclusion) → same ≡ true → all ≡ last → AreConclusions given_clause partner same all
    found_same all is ends =
        found all (subst (λ (b : Bool). Adds clauses (conclusion_sites given_clause partner b) empty all) (sym is)
        (adds-append clauses (resolutions given_clause partner) (paramodulations 0 given_clause 1 partner ++ []) empty middle all resolved
        (adds-append clauses (paramodulations 0 given_clause 1 partner) [] middle last all forth
        (subst (Adds clauses [] last) (sym ends) (adds-none clauses last)))))

    pub found_apart : (new all : List Conclusion) → same ≡ false → Adds clauses (paramodulations 1 partner 0 given_clause) last new → all ≡ new
        → AreConclusions given_clause partner same all
    found_apart new all is back ends =
        found all (subst (λ (b : Bool). Adds clauses (conclusion_sites given_clause partner b) empty all) (sym is)
        (adds-append clauses (resolutions given_clause partner)
        (paramodulations 0 given_clause 1 partner ++ paramodulations 1 partner 0 given_clause) empty middle all resolved
        (adds-append clauses (paramodulations 0 given_clause 1 partner) (paramodulations 1 partner 0 given_clause) middle last all forth
        (subst (Adds clauses (paramodulations 1 partner 0 given_clause) last) (sym ends) back))))
