-- Clauses from which nothing follows, by their marks: no equation rewrites the other clause, and no literals are resolved upon.
use Rattle.std.proofs.Common.{◌≡◌, inl, ℕ, List, [], ◌∷◌, map, length, Bool, true, false, not, ◌&&◌, if◌then◌else◌, Option, Some, None, is_some, codes, refl, sym, ap, ap₂, ◌∙◌, subst, arith}
use Rattle.std.specs.Int.{bit_at}
use Rattle.std.specs.Int.Bits.{bit_and, bit_or}
use Rattle.std.proofs.lemmas.Bool.{eqb-true}
use Rattle.std.proofs.lemmas.Nat.Bits.{bit_at_or}
use Rattle.std.proofs.Math.Nat.{le-max_left, le-max_right}
use Rattle.sigma_base.specs.Lists.{Each, each_append}
use Rattle.kif_tree.specs.declared.form.Form.{out-Form}
use Rattle.kif_tree.specs.declared.form.Form.TheVariants as form
use Rattle.kif_tree.specs.declared.clause.Literal.{Literal}
use Rattle.kif_tree.specs.Subst.{Filling, lookup, bind}
use Rattle.kif_tree.specs.SameLaws.{same-Decides}
use Rattle.kif_tree.specs.Terms.{same}
use Rattle.kif_tree.specs.Names.{parts_layer, parts_in}
use Rattle.kif_tree.specs.Clauses.{Literals, is_answer}
use Rattle.calculus.specs.declared.places.Sides.{Sides}
use Rattle.calculus.specs.declared.places.Replaced.{Replaced}
use Rattle.calculus.specs.declared.step.Step.{Step}
use Rattle.calculus.specs.Tidy.{tidy}
use Rattle.calculus.specs.Rules.{after, nth, Picked, pick, sides, from_side, opened, is_empty, is_variable, replaces, replacement_by, replaced_by, replaced, replacement, untidy, concluded}
use Rattle.calculus.specs.Answers.{Among}
use Rattle.calculus.proofs.PlaceLaws.{through, some_same, allowed, picked, sides-whole}
use Rattle.calculus.proofs.MemberLaws.{among-right, among-map}
use Rattle.calculus.proofs.TruthLaws.{both, false_true, negated}
use Rattle.infer.specs.Sites.{resolutions, paramodulations_by, paramodulations, conclusion_sites}
use Rattle.infer.specs.Conclusions.{GivesNothing, AreConclusions}
use Rattle.infer.proofs.ListLaws.{each_below-each, at-nothing}
use Rattle.infer.proofs.ParamodulateLaws.{site, stands_at}
use Rattle.infer.proofs.ConclusionLaws.{both_ways, each_site_by}
use Rattle.saturate.specs.Fingerprints.{fingerprints, may_meet}
use Rattle.saturate.specs.Marks.{term_mark, inner_terms, terms_in, sides_marks, rewritten_by, rewritten_in, marks, may_resolve_by, may_rewrite}
use Rattle.saturate.proofs.BitLaws.{HasBit, Share, shared, joined_has, no_clashes}
use Rattle.saturate.proofs.FingerprintLaws.{IsApartFrom, all_apart, nothing_resolved}
use Rattle.saturate.proofs.TermMarkLaws.{opened_inside, own_within, term_marks_met}

-- ---- what a step replaces

picked_stands : {X : Type 0} (xs : List X) (n : ℕ) (p : Picked X) → pick xs n ≡ Some p → Among p.chosen xs
picked_stands xs n p e = subst (Among p.chosen) (sym (picked xs n p e)) (among-right p.chosen p.before (p.chosen ∷ p.following) (inl refl))

-- a side of a positive equality has its bits among those that the literal rewrites
side_rewritten : (flipped : Bool) (literal : Literal) (e : Sides) (i : ℕ) → literal.positive ≡ true → sides literal.atom ≡ Some e
    → HasBit (term_mark (from_side flipped e)) i → HasBit (rewritten_by literal) i
side_rewritten flipped literal e i positive equal h =
    subst (λ (n : ℕ). HasBit n i) (sym rewrites) (go flipped h)
  where
    parts : parts_in literal.atom ≡ form.Word (codes "equal") ∷ e.left ∷ e.right ∷ []
    parts = ap parts_in (sides-whole literal.atom e equal) ∙ ap parts_layer (form.outs-List (form.Word (codes "equal") ∷ e.left ∷ e.right ∷ []))

    rewrites : rewritten_by literal ≡ bit_or (term_mark e.left) (term_mark e.right)
    rewrites =
        ap₂ (λ (b c : Bool). if b && c then sides_marks (parts_in literal.atom) else 0) positive (ap is_some equal)
        ∙ ap sides_marks parts

    go : (b : Bool) → HasBit (term_mark (from_side b e)) i → HasBit (bit_or (term_mark e.left) (term_mark e.right)) i
    go true k =
        let is = bit_at_or (term_mark e.left) (term_mark e.right) i in
        let least = le-max_right (bit_at (term_mark e.left) i) (bit_at (term_mark e.right) i) in
        omega (arith, k, is, least)
    go false k =
        let is = bit_at_or (term_mark e.left) (term_mark e.right) i in
        let least = le-max_left (bit_at (term_mark e.left) i) (bit_at (term_mark e.right) i) in
        omega (arith, k, is, least)

literal_rewrites : (source : Literals) (literal : Literal) (i : ℕ) → Among literal source → HasBit (rewritten_by literal) i → HasBit (rewritten_in source) i
literal_rewrites source literal i there h =
    joined_has 0 (map rewritten_by source) (rewritten_by literal) i (among-map rewritten_by literal source there) h

literal_has : (target : Literals) (literal : Literal) (i : ℕ) → Among literal target → HasBit (inner_terms (parts_in literal.atom)) i → HasBit (terms_in target) i
literal_has target literal i there h =
    joined_has 0 (map (λ (l : Literal). inner_terms (parts_in l.atom)) target) (inner_terms (parts_in literal.atom)) i
    (among-map (λ (l : Literal). inner_terms (parts_in l.atom)) literal target there) h

replaced_shares : (source : Literals) (i : ℕ) (flipped : Bool) (f : Filling) (target : Literals) (j : ℕ) (path : List ℕ) (g : Filling) (w : Replaced)
    → replaced source i flipped f target j path g ≡ Some w → Share (rewritten_in source) (terms_in target)
replaced_shares source i flipped f target j path g w is =
    let s = through (pick source i) (λ s. after (sides s.chosen.atom) (λ e. after (pick target j) (λ m. after (opened path m.chosen.atom) (replaced_by f flipped s e g m)))) w is in
    let e = through (sides s.at.chosen.atom) (λ e. after (pick target j) (λ m. after (opened path m.chosen.atom) (replaced_by f flipped s.at e g m))) w s.gives in
    let m = through (pick target j) (λ m. after (opened path m.chosen.atom) (replaced_by f flipped s.at e.at g m)) w e.gives in
    let o = through (opened path m.at.chosen.atom) (replaced_by f flipped s.at e.at g m.at) w m.gives in
    let made = allowed (replaces f flipped e.at g s.at.chosen m.at.chosen o.at) (Some (replacement_by f flipped s.at e.at g m.at o.at)) w o.gives in
    let c0 = both s.at.chosen.positive _ made.0 in
    let c1 = both (not (is_answer m.at.chosen.atom)) _ c0.1 in
    let c2 = both (not (is_empty o.at.frames)) _ c1.1 in
    let c3 = both (not (is_variable (out-Form o.at.inner))) _ c2.1 in
    let from = from_side flipped e.at in
    let one = term_marks_met f g from o.at.inner (sym ((same-Decides (bind g o.at.inner) (bind f from)).0 c3.1)) in
    record {
      place = one.place;
      below = one.below;
      first = literal_rewrites source s.at.chosen one.place (picked_stands source i s.at s.is) (side_rewritten flipped s.at.chosen e.at one.place c0.0 e.is one.first);
      second = literal_has target m.at.chosen one.place (picked_stands target j m.at m.is)
          (opened_inside path m.at.chosen.atom o.at o.is (negated (is_empty o.at.frames) c2.0) one.place one.below
          (own_within o.at.inner (negated (is_variable (out-Form o.at.inner)) c3.0) one.place one.below one.second));
    }

-- ---- the sites of two clauses

none_of : {X : Type 0} (o : Option X) → ((x : X) → o ≡ Some x → ⊥) → o ≡ None
none_of None h = refl
none_of (Some x) h = absurd (h x refl)

module _ (clauses : List Literals) (source_number target_number : ℕ) (source target : Literals) (source_at : nth clauses source_number ≡ Some source)
    (target_at : nth clauses target_number ≡ Some target) (none : bit_and (rewritten_in source) (terms_in target) ≡ 0) where
  nothing_at : (i : ℕ) (flipped : Bool) (j : ℕ) (path : List ℕ) → GivesNothing clauses (site source_number i flipped target_number j path)
  nothing_at i flipped j path step stands = none_of (concluded step clauses) (λ c is.
      let at = stands_at source_number i flipped target_number j path step stands in
      let F = lookup at.first.pairs in
      let G = lookup at.second.pairs in
      let rule = Step.Paramodulate source_number i flipped at.first target_number j path at.second in
      let r = through (untidy rule clauses) (λ d. Some (tidy d)) c (sym (ap (λ (t : Step). concluded t clauses) at.is) ∙ is) in
      let w = through (replacement rule clauses) (λ v. Some v.conclusion) r.at r.is in
      let s = through (nth clauses source_number) (λ s. after (nth clauses target_number) (λ t. replaced s i flipped F t j path G)) w.at w.is in
      let t = through (nth clauses target_number) (λ t. replaced s.at i flipped F t j path G) w.at s.gives in
      let share = replaced_shares s.at i flipped F t.at j path G w.at t.gives in
      shared (rewritten_in source) (terms_in target) share.place
      (subst (λ (clause : Literals). HasBit (rewritten_in clause) share.place) (some_same s.at source (sym s.is ∙ source_at)) share.first)
      (subst (λ (clause : Literals). HasBit (terms_in clause) share.place) (some_same t.at target (sym t.is ∙ target_at)) share.second) none)

  nothing_by : (i : ℕ) (flipped : Bool) → Each (GivesNothing clauses) (paramodulations_by source_number i flipped target_number target)
  nothing_by i flipped = each_site_by (GivesNothing clauses) source_number i flipped target_number target (nothing_at i flipped)

  nothing_rewritten : Each (GivesNothing clauses) (paramodulations source_number source target_number target)
  nothing_rewritten =
      each_below-each (GivesNothing clauses) (length source) (λ i. both_ways source_number i target_number target) (λ i below.
      each_append (GivesNothing clauses) (paramodulations_by source_number i false target_number target)
      (paramodulations_by source_number i true target_number target) (nothing_by i false) (nothing_by i true))

-- ---- both

nothing_follows : (given_clause partner : Literals) → may_rewrite (marks given_clause) (marks partner) ≡ false → may_rewrite (marks partner) (marks given_clause) ≡ false
    → Each (IsApartFrom partner) given_clause → (same : Bool) → AreConclusions given_clause partner same []
nothing_follows given_clause partner forth back apart same =
    let clauses : List Literals = given_clause ∷ partner ∷ [] in
    at-nothing clauses (conclusion_sites given_clause partner same)
    (each_append (GivesNothing clauses) (resolutions given_clause partner) _ (nothing_resolved given_clause partner apart)
    (each_append (GivesNothing clauses) (paramodulations 0 given_clause 1 partner) _
    (nothing_rewritten clauses 0 1 given_clause partner refl refl (eqb-true _ 0 (denied _ forth))) (into same)))
  where
    denied : (b : Bool) → not b ≡ false → b ≡ true
    denied true e = refl
    denied false e = absurd (false_true (sym e))

    into : (b : Bool) → Each (GivesNothing (given_clause ∷ partner ∷ [])) (if b then [] else paramodulations 1 partner 0 given_clause)
    into true = tt
    into false = nothing_rewritten (given_clause ∷ partner ∷ []) 1 0 partner given_clause refl refl (eqb-true _ 0 (denied _ back))

pub nothing_meets : (given_clause partner : Literals) → may_rewrite (marks given_clause) (marks partner) ≡ false → may_rewrite (marks partner) (marks given_clause) ≡ false
    → may_meet (fingerprints given_clause) (fingerprints partner) ≡ false → (same : Bool) → AreConclusions given_clause partner same []
nothing_meets given_clause partner forth back none = nothing_follows given_clause partner forth back (all_apart given_clause partner none)

pub nothing_shared : (given_clause partner : Literals) → may_rewrite (marks given_clause) (marks partner) ≡ false → may_rewrite (marks partner) (marks given_clause) ≡ false
    → may_resolve_by (marks given_clause) (marks partner) ≡ false → (same : Bool) → AreConclusions given_clause partner same []
nothing_shared given_clause partner forth back none =
    nothing_follows given_clause partner forth back (no_clashes given_clause partner (eqb-true _ 0 (denied _ none)))
  where
    denied : (b : Bool) → not b ≡ false → b ≡ true
    denied true e = refl
    denied false e = absurd (false_true (sym e))
