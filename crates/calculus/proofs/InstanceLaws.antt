-- Each member of evidence is a ground instance of an input or of equality.
use Rattle.std.proofs.Common.{◌≡◌, ℕ, zero, suc, ◌<◌, List, [], ◌∷◌, ◌++◌, map, take, Bool, true, false, ◌&&◌, Option, Some, None, refl, sym, ap, ◌∙◌, inl, inr, arith}
use Rattle.std.specs.List.{list_all}
use Rattle.kif_tree.specs.declared.form.Form.{Form}
use Rattle.kif_tree.specs.declared.clause.Literal.{Literal}
use Rattle.kif_tree.specs.Subst.{lookup, Filling, bind, via}
use Rattle.sigma_base.specs.Lists.{Each, each_append, each_map}
use Rattle.calculus.specs.declared.step.Step.{Step}
use Rattle.kif_tree.specs.Clauses.{Literals, bind_clause, bare}
use Rattle.calculus.specs.Tidy.{tidy, turned_back}
use Rattle.calculus.specs.declared.places.Frame.{Frame}
use Rattle.calculus.specs.declared.places.Opened.{Opened}
use Rattle.calculus.specs.declared.places.Sides.{Sides}
use Rattle.calculus.specs.declared.places.Replaced.{Replaced}
use Rattle.calculus.specs.Rules.{after, given, nth, Picked, pick, others, framed, bind_frame, plugged, opened, sides, resolves, resolved, merges, factored, to_side, replaces, changed, replacement_by, replaced_by, replaced, replacement, untidy, clause_of, Derivation}
use Rattle.calculus.specs.Evidence.{list_from, equalities, step_evidence, evidence_within, evidence, Use, step_uses, uses_within, uses}
use Rattle.calculus.specs.Equality.{symmetry, congruence, replacing, inside, congruences, equal, IsEqualityInstance}
use Rattle.kif_tree.specs.Terms.{clean}
use Rattle.calculus.specs.Closed.{clean_clause, clean_pairs, clean_in, Closes}
use Rattle.calculus.specs.Laws.{EvidenceIsGround, EvidenceIsOfUses}
use Rattle.calculus.specs.Answers.{Among, IsEvidence, IsOfUses}
use Rattle.calculus.proofs.MemberLaws.{among-left, among-right}
use Rattle.calculus.proofs.TruthLaws.{both}
use Rattle.calculus.proofs.PlaceLaws.{none_some, some_same, through, allowed, nth_take, picked, opened-whole, sides-whole}
use Rattle.calculus.proofs.ClosedLaws.{Cleans, CleanFrame, joined_true, clean-via, clean-bind_clause, clean-bind_frames, clean-lookup, clean-tidy, closes-turned, clause-append, clause-parted, clean-framed, clean-plugged, clean-unplugged, clean-equal, clean-unequal}
use Rattle.kif_tree.proofs.SubstLaws.{clean-bind}

-- ---- the rules bring in no row variable

pub record CleanPick (p : Picked Literal) : Type 0 where
  pub before : clean_clause true p.before ≡ true
  pub chosen : clean true p.chosen.atom ≡ true
  pub following : clean_clause true p.following ≡ true

clean-pick : (c : Literals) (i : ℕ) (p : Picked Literal) → pick c i ≡ Some p → clean_clause true c ≡ true → CleanPick p
clean-pick c i p e h =
    let parts = clause-parted true p.before (p.chosen ∷ p.following) (ap (clean_clause true) (sym (picked c i p e)) ∙ h) in
    let rest = both (clean true p.chosen.atom) (clean_clause true p.following) parts.1 in
    record { before = parts.0; chosen = rest.0; following = rest.1 }

clean-others : (f : Filling) → Cleans true f → (p : Picked Literal) → CleanPick p → clean_clause true (bind_clause f (others p)) ≡ true
clean-others f cleans p h = clean-bind_clause true f cleans (others p) (clause-append true p.before p.following h.before h.following)

clean-resolved : (left : Literals) (i : ℕ) (f : Filling) (right : Literals) (j : ℕ) (g : Filling) (raw : Literals) → resolved left i f right j g ≡ Some raw
    → clean_clause true left ≡ true → clean_clause true right ≡ true → Cleans true f → Cleans true g → clean_clause true raw ≡ true
clean-resolved left i f right j g raw e hl hr hf hg =
    let l = through (pick left i) (λ l. after (pick right j) (λ r. given (resolves f g l.chosen r.chosen) (Some (bind_clause f (others l) ++ bind_clause g (others r))))) raw e in
    let r = through (pick right j) (λ r. given (resolves f g l.at.chosen r.chosen) (Some (bind_clause f (others l.at) ++ bind_clause g (others r)))) raw l.gives in
    let made = allowed (resolves f g l.at.chosen r.at.chosen) (Some (bind_clause f (others l.at) ++ bind_clause g (others r.at))) raw r.gives in
    ap (clean_clause true) (sym (some_same (bind_clause f (others l.at) ++ bind_clause g (others r.at)) raw made.1))
    ∙ clause-append true (bind_clause f (others l.at)) (bind_clause g (others r.at))
    (clean-others f hf l.at (clean-pick left i l.at l.is hl)) (clean-others g hg r.at (clean-pick right j r.at r.is hr))

clean-factored : (c : Literals) (i j : ℕ) (f : Filling) (raw : Literals) → factored c i j f ≡ Some raw → clean_clause true c ≡ true → Cleans true f → clean_clause true raw ≡ true
clean-factored c i j f raw e h hf =
    let d = through (pick c j) (λ d. after (pick d.before i) (λ k. given (merges f k.chosen d.chosen) (Some (bind_clause f (others d))))) raw e in
    let k = through (pick d.at.before i) (λ k. given (merges f k.chosen d.at.chosen) (Some (bind_clause f (others d.at)))) raw d.gives in
    let made = allowed (merges f k.at.chosen d.at.chosen) (Some (bind_clause f (others d.at))) raw k.gives in
    ap (clean_clause true) (sym (some_same (bind_clause f (others d.at)) raw made.1)) ∙ clean-others f hf d.at (clean-pick c j d.at d.is h)

pub record CleanReplaced (w : Replaced) : Type 0 where
  pub conclusion : clean_clause true w.conclusion ≡ true
  pub left : clean true w.left ≡ true
  pub right : clean true w.right ≡ true
  pub frames : Each (CleanFrame true) w.frames

either_clean : (flipped : Bool) (e : Sides) → clean true e.left ≡ true → clean true e.right ≡ true → clean true (to_side flipped e) ≡ true
either_clean true e h k = h
either_clean false e h k = k

clean-replacement : (f : Filling) (flipped : Bool) (s : Picked Literal) (e : Sides) (g : Filling) (m : Picked Literal) (o : Opened) → Cleans true f → Cleans true g → CleanPick s → CleanPick m
    → s.chosen.atom ≡ equal e.left e.right → m.chosen.atom ≡ plugged o.frames o.inner → CleanReplaced (replacement_by f flipped s e g m o)
clean-replacement f flipped s e g m o hf hg hs hm s_is m_is =
    let ends = clean-unequal true e.left e.right (ap (clean true) (sym s_is) ∙ hs.chosen) in
    let place = clean-unplugged true o.frames o.inner (ap (clean true) (sym m_is) ∙ hm.chosen) in
    let frames = clean-bind_frames true g hg o.frames place.0 in
    record {
      conclusion = clause-append true (bind_clause f (others s)) (bind_clause g m.before ++ changed f (to_side flipped e) g m.chosen o ∷ bind_clause g m.following)
          (clean-others f hf s hs)
          (clause-append true (bind_clause g m.before) (changed f (to_side flipped e) g m.chosen o ∷ bind_clause g m.following)
          (clean-bind_clause true g hg m.before hm.before)
          (joined_true (clean true (plugged (map (bind_frame g) o.frames) (bind f (to_side flipped e)))) (clean_clause true (bind_clause g m.following))
          (clean-plugged true (map (bind_frame g) o.frames) (bind f (to_side flipped e)) frames (clean-bind true f hf (to_side flipped e) (either_clean flipped e ends.0 ends.1)))
          (clean-bind_clause true g hg m.following hm.following)));
      left = clean-bind true f hf e.left ends.0;
      right = clean-bind true f hf e.right ends.1;
      frames = frames;
    }

moved : (w v : Replaced) → w ≡ v → CleanReplaced w → CleanReplaced v
moved w v e h = rw (← e) h

clean-replaced : (source : Literals) (i : ℕ) (flipped : Bool) (f : Filling) (target : Literals) (j : ℕ) (path : List ℕ) (g : Filling) (w : Replaced)
    → replaced source i flipped f target j path g ≡ Some w → clean_clause true source ≡ true → clean_clause true target ≡ true → Cleans true f → Cleans true g → CleanReplaced w
clean-replaced source i flipped f target j path g w is hs ht hf hg =
    let s = through (pick source i) (λ s. after (sides s.chosen.atom) (λ e. after (pick target j) (λ m. after (opened path m.chosen.atom) (replaced_by f flipped s e g m)))) w is in
    let e = through (sides s.at.chosen.atom) (λ e. after (pick target j) (λ m. after (opened path m.chosen.atom) (replaced_by f flipped s.at e g m))) w s.gives in
    let m = through (pick target j) (λ m. after (opened path m.chosen.atom) (replaced_by f flipped s.at e.at g m)) w e.gives in
    let o = through (opened path m.at.chosen.atom) (replaced_by f flipped s.at e.at g m.at) w m.gives in
    let made = allowed (replaces f flipped e.at g s.at.chosen m.at.chosen o.at) (Some (replacement_by f flipped s.at e.at g m.at o.at)) w o.gives in
    moved (replacement_by f flipped s.at e.at g m.at o.at) w (some_same (replacement_by f flipped s.at e.at g m.at o.at) w made.1)
    (clean-replacement f flipped s.at e.at g m.at o.at hf hg (clean-pick source i s.at s.is hs) (clean-pick target j m.at m.is ht)
    (sides-whole s.at.chosen.atom e.at e.is) (opened-whole path m.at.chosen.atom o.at o.is))

abbrev AllClean : List Literals → Type 0
AllClean clauses = (p : ℕ) (c : Literals) → nth clauses p ≡ Some c → clean_clause true c ≡ true

at_place : {X : Type 0} (test : X → Bool) (xs : List X) (n : ℕ) (x : X) → nth xs n ≡ Some x → list_all test xs ≡ true → test x ≡ true
at_place test [] n x e h = absurd (none_some x e)
at_place test (y ∷ xs) zero x e h = ap test (sym (some_same y x e)) ∙ (both (test y) (list_all test xs) h).0
at_place test (y ∷ xs) (suc n) x e h = at_place test xs n x e (both (test y) (list_all test xs) h).1

tidied : (o : Option Literals) (c : Literals) → after o (λ raw. Some (tidy raw)) ≡ Some c → ((raw : Literals) → o ≡ Some raw → clean_clause true raw ≡ true) → clean_clause true c ≡ true
tidied o c e clean_raw =
    let t = through o (λ raw. Some (tidy raw)) c e in
    ap (clean_clause true) (sym (some_same (tidy t.at) c t.gives)) ∙ clean-tidy t.at (clean_raw t.at t.is)

-- what a paramodulation replaces
clean-used : (clauses : List Literals) → AllClean clauses → (source i : ℕ) (flipped : Bool) (f : Filling) (target j : ℕ) (path : List ℕ) (g : Filling) (w : Replaced)
    → after (nth clauses source) (λ s. after (nth clauses target) (λ t. replaced s i flipped f t j path g)) ≡ Some w → Cleans true f → Cleans true g → CleanReplaced w
clean-used clauses all source i flipped f target j path g w e hf hg =
    let s = through (nth clauses source) (λ s. after (nth clauses target) (λ t. replaced s i flipped f t j path g)) w e in
    let m = through (nth clauses target) (λ t. replaced s.at i flipped f t j path g) w s.gives in
    clean-replaced s.at i flipped f m.at j path g w m.gives (all source s.at s.is) (all target m.at m.is) hf hg

clean-step : (inputs clauses : List Literals) → list_all (clean_clause true) inputs ≡ true → AllClean clauses → (step : Step) → clean_in step ≡ true
    → (c : Literals) → clause_of inputs step clauses ≡ Some c → clean_clause true c ≡ true
clean-step inputs clauses given_clean all (Step.Input i) h c e = at_place (clean_clause true) inputs i c e given_clean
clean-step inputs clauses given_clean all (Step.Resolve left i f right j g) h c e = tidied (untidy (Step.Resolve left i f right j g) clauses) c e (λ raw is.
    let l = through (nth clauses left) (λ l. after (nth clauses right) (λ r. resolved l i (lookup f.pairs) r j (lookup g.pairs))) raw is in
    let r = through (nth clauses right) (λ r. resolved l.at i (lookup f.pairs) r j (lookup g.pairs)) raw l.gives in
    let hs = both (clean_pairs f.pairs) (clean_pairs g.pairs) h in
    clean-resolved l.at i (lookup f.pairs) r.at j (lookup g.pairs) raw r.gives (all left l.at l.is) (all right r.at r.is) (clean-lookup f.pairs hs.0) (clean-lookup g.pairs hs.1))
clean-step inputs clauses given_clean all (Step.Factor parent i j f) h c e = tidied (untidy (Step.Factor parent i j f) clauses) c e (λ raw is.
    let p = through (nth clauses parent) (λ p. factored p i j (lookup f.pairs)) raw is in
    clean-factored p.at i j (lookup f.pairs) raw p.gives (all parent p.at p.is) (clean-lookup f.pairs h))
clean-step inputs clauses given_clean all (Step.Paramodulate source i flipped f target j path g) h c e = tidied (untidy (Step.Paramodulate source i flipped f target j path g) clauses) c e (λ raw is.
    let w = through (replacement (Step.Paramodulate source i flipped f target j path g) clauses) (λ w. Some w.conclusion) raw is in
    let hs = both (clean_pairs f.pairs) (clean_pairs g.pairs) h in
    let used = clean-used clauses all source i flipped (lookup f.pairs) target j path (lookup g.pairs) w.at w.is (clean-lookup f.pairs hs.0) (clean-lookup g.pairs hs.1) in
    ap (clean_clause true) (sym (some_same w.at.conclusion raw w.gives)) ∙ used.conclusion)

-- ---- instances of equality

pub each_from : {A B : Type 0} (P : B → Type 0) (o : Option A) (f : A → List B) → ((a : A) → o ≡ Some a → Each P (f a)) → Each P (list_from o f)
each_from P None f h = tt
each_from P (Some a) f h = h a refl

pair_closed : (x y : Form) → clean false x ≡ true → clean false y ≡ true → (clean false x && (clean false y && true)) ≡ true
pair_closed x y h k = joined_true (clean false x) (clean false y && true) h (joined_true (clean false y) true k refl)

symmetry-instance : (a b : Form) → clean false a ≡ true → clean false b ≡ true → IsEqualityInstance (symmetry a b)
symmetry-instance a b h k = record {
  is_closed = pair_closed (equal a b) (equal b a) (clean-equal false a b h k) (clean-equal false b a k h);
  shape = inr (inl (record { a = a; b = b; is = refl }));
}

congruence-instance : (frame : Frame) (a b : Form) → CleanFrame false frame → clean false a ≡ true → clean false b ≡ true → IsEqualityInstance (congruence frame a b)
congruence-instance frame a b hf h k = record {
  is_closed = pair_closed (equal a b) (equal (framed frame a) (framed frame b)) (clean-equal false a b h k)
      (clean-equal false (framed frame a) (framed frame b) (clean-framed false frame a hf h) (clean-framed false frame b hf k));
  shape = inr (inr (inr (inl (record { frame = frame; a = a; b = b; is = refl }))));
}

replacing-instance : (frame : Frame) (a b : Form) → CleanFrame false frame → clean false a ≡ true → clean false b ≡ true → IsEqualityInstance (replacing frame a b)
replacing-instance frame a b hf h k = record {
  is_closed = joined_true (clean false (equal a b)) (clean false (framed frame a) && (clean false (framed frame b) && true)) (clean-equal false a b h k)
      (pair_closed (framed frame a) (framed frame b) (clean-framed false frame a hf h) (clean-framed false frame b hf k));
  shape = inr (inr (inr (inr (record { frame = frame; a = a; b = b; is = refl }))));
}

inside-instances : (frames : List Frame) (a b : Form) → Each (CleanFrame false) frames → clean false a ≡ true → clean false b ≡ true → Each IsEqualityInstance (inside frames a b)
inside-instances [] a b hf h k = tt
inside-instances (frame ∷ frames) a b hf h k =
    let x = clean-plugged false frames a hf.1 h in
    let y = clean-plugged false frames b hf.1 k in
    each_append IsEqualityInstance (inside frames a b) (congruence frame (plugged frames a) (plugged frames b) ∷ congruence frame (plugged frames b) (plugged frames a) ∷ [])
    (inside-instances frames a b hf.1 h k)
    (congruence-instance frame (plugged frames a) (plugged frames b) hf.0 x y, (congruence-instance frame (plugged frames b) (plugged frames a) hf.0 y x, tt))

congruences-instances : (frames : List Frame) (a b : Form) → Each (CleanFrame false) frames → clean false a ≡ true → clean false b ≡ true → Each IsEqualityInstance (congruences frames a b)
congruences-instances [] a b hf h k = tt
congruences-instances (frame ∷ frames) a b hf h k =
    let x = clean-plugged false frames a hf.1 h in
    let y = clean-plugged false frames b hf.1 k in
    each_append IsEqualityInstance (inside frames a b) (replacing frame (plugged frames a) (plugged frames b) ∷ replacing frame (plugged frames b) (plugged frames a) ∷ [])
    (inside-instances frames a b hf.1 h k)
    (replacing-instance frame (plugged frames a) (plugged frames b) hf.0 x y, (replacing-instance frame (plugged frames b) (plugged frames a) hf.0 y x, tt))

equalities-instances : (w : Replaced) (t : Filling) → CleanReplaced w → Closes t → Each IsEqualityInstance (equalities w t)
equalities-instances w t h closes =
    let left = clean-bind false t closes w.left h.left in
    let right = clean-bind false t closes w.right h.right in (
      symmetry-instance (bind t w.left) (bind t w.right) left right,
      congruences-instances (map (bind_frame t) w.frames) (bind t w.left) (bind t w.right) (clean-bind_frames false t closes w.frames h.frames) left right,
    )

-- ---- the uses that members are of

wider : (inputs : List Literals) (used more : List Use) → ((u : Use) → Among u used → Among u more) → (c : Literals) → IsOfUses inputs used c → IsOfUses inputs more c
wider inputs used more widen c (inl is) = inl (record { of = is.of; stands = widen is.of is.stands; input = is.input; at = is.at; closes = is.closes; is = is.is })
wider inputs used more widen c (inr is) = inr is

-- two lists that come from one
each_of : {A B C : Type 0} (P : List C → B → Type 0) (o : Option A) (f : A → List B) (u : A → List C) → ((a : A) → o ≡ Some a → Each (P (u a)) (f a)) → Each (P (list_from o u)) (list_from o f)
each_of P None f u h = tt
each_of P (Some a) f u h = h a refl

-- ---- the whole

module _ (inputs clauses : List Literals) (all : AllClean clauses) (earlier : ℕ → Filling → List Literals) (earlier_uses : ℕ → Filling → List Use)
    (good : (p : ℕ) (h : Filling) → Closes h → Each (IsOfUses inputs (earlier_uses p h)) (earlier p h)) (g : Filling) (closes : Closes g) where
  parent : (pairs : Filling) → Cleans true pairs → (raw : Literals) → (p : ℕ) → Each (IsOfUses inputs (earlier_uses p (via pairs (turned_back raw g)))) (earlier p (via pairs (turned_back raw g)))
  parent f hf raw p = good p (via f (turned_back raw g)) (clean-via false f (turned_back raw g) hf (closes-turned raw g closes))

  parents : (f k : Filling) → Cleans true f → Cleans true k → (raw : Literals) → (p q : ℕ)
      → Each (IsOfUses inputs (earlier_uses p (via f (turned_back raw g)) ++ earlier_uses q (via k (turned_back raw g)))) (earlier p (via f (turned_back raw g)) ++ earlier q (via k (turned_back raw g)))
  parents f k hf hk raw p q =
      let first = earlier_uses p (via f (turned_back raw g)) in
      let second = earlier_uses q (via k (turned_back raw g)) in
      each_append (IsOfUses inputs (first ++ second)) (earlier p (via f (turned_back raw g))) (earlier q (via k (turned_back raw g)))
      (each_map (IsOfUses inputs first) (IsOfUses inputs (first ++ second)) (wider inputs first (first ++ second) (λ u. among-left u first second)) (earlier p (via f (turned_back raw g))) (parent f hf raw p))
      (each_map (IsOfUses inputs second) (IsOfUses inputs (first ++ second)) (wider inputs second (first ++ second) (λ u. among-right u first second)) (earlier q (via k (turned_back raw g))) (parent k hk raw q))

  step-instances : (step : Step) → clean_in step ≡ true → Each (IsOfUses inputs (step_uses clauses earlier_uses step g)) (step_evidence inputs clauses earlier step g)
  step-instances (Step.Input i) h = each_from (IsOfUses inputs (record { input = i; filling = g } ∷ [])) (nth inputs i) (λ c. bare c g ∷ [])
      (λ c e. (inl (record { of = record { input = i; filling = g }; stands = inl refl; input = c; at = e; closes = closes; is = refl }), tt))
  step-instances (Step.Resolve left i f right j k) h =
      let hs = both (clean_pairs f.pairs) (clean_pairs k.pairs) h in
      each_of (IsOfUses inputs) (untidy (Step.Resolve left i f right j k) clauses) (λ c. earlier left (via (lookup f.pairs) (turned_back c g)) ++ earlier right (via (lookup k.pairs) (turned_back c g)))
      (λ c. earlier_uses left (via (lookup f.pairs) (turned_back c g)) ++ earlier_uses right (via (lookup k.pairs) (turned_back c g)))
      (λ c e. parents (lookup f.pairs) (lookup k.pairs) (clean-lookup f.pairs hs.0) (clean-lookup k.pairs hs.1) c left right)
  step-instances (Step.Factor p i j f) h =
      each_of (IsOfUses inputs) (untidy (Step.Factor p i j f) clauses) (λ c. earlier p (via (lookup f.pairs) (turned_back c g)))
      (λ c. earlier_uses p (via (lookup f.pairs) (turned_back c g)))
      (λ c e. parent (lookup f.pairs) (clean-lookup f.pairs h) c p)
  step-instances (Step.Paramodulate source i flipped f target j path k) h =
      let hs = both (clean_pairs f.pairs) (clean_pairs k.pairs) h in
      let step = Step.Paramodulate source i flipped f target j path k in
      each_of (IsOfUses inputs) (replacement step clauses)
      (λ w. (earlier source (via (lookup f.pairs) (turned_back w.conclusion g)) ++ earlier target (via (lookup k.pairs) (turned_back w.conclusion g))) ++ equalities w (turned_back w.conclusion g))
      (λ w. earlier_uses source (via (lookup f.pairs) (turned_back w.conclusion g)) ++ earlier_uses target (via (lookup k.pairs) (turned_back w.conclusion g)))
      (λ w e.
      let used = earlier_uses source (via (lookup f.pairs) (turned_back w.conclusion g)) ++ earlier_uses target (via (lookup k.pairs) (turned_back w.conclusion g)) in
      each_append (IsOfUses inputs used) (earlier source (via (lookup f.pairs) (turned_back w.conclusion g)) ++ earlier target (via (lookup k.pairs) (turned_back w.conclusion g))) (equalities w (turned_back w.conclusion g))
      (parents (lookup f.pairs) (lookup k.pairs) (clean-lookup f.pairs hs.0) (clean-lookup k.pairs hs.1) w.conclusion source target)
      (each_map IsEqualityInstance (IsOfUses inputs used) (λ c is. inr is) (equalities w (turned_back w.conclusion g))
      (equalities-instances w (turned_back w.conclusion g)
      (clean-used clauses all source i flipped (lookup f.pairs) target j path (lookup k.pairs) w e (clean-lookup f.pairs hs.0) (clean-lookup k.pairs hs.1)) (closes-turned w.conclusion g closes))))

module _ (inputs : List Literals) (steps : List Step) (clauses : List Literals) (derivation : Derivation inputs steps clauses)
    (clean_inputs : list_all (clean_clause true) inputs ≡ true) (clean_steps : list_all clean_in steps ≡ true) where
  clean-within : (k n : ℕ) → n < k → (c : Literals) → nth clauses n ≡ Some c → clean_clause true c ≡ true
  clean-within zero n below c is = absurd (omega arith)
  clean-within (suc k) n below c is =
      let s = through (nth steps n) (λ step. clause_of inputs step (take n clauses)) c (sym (derivation.each n) ∙ is) in
      clean-step inputs (take n clauses) clean_inputs
      (λ p d found. let found_at = nth_take n clauses p d found in clean-within k p (let less : p < n = found_at.1 in omega arith) d found_at.0)
      s.at (at_place clean_in steps n s.at s.is clean_steps) c s.gives

  clean-derived : (n : ℕ) → AllClean (take n clauses)
  clean-derived n p c found = let found_at = nth_take n clauses p c found in clean-within (suc p) p (omega arith) c found_at.0

  within-instances : (k n : ℕ) (g : Filling) → Closes g → Each (IsOfUses inputs (uses_within steps clauses k n g)) (evidence_within inputs steps clauses k n g)
  within-instances zero n g closes = tt
  within-instances (suc k) n g closes =
      each_of (IsOfUses inputs) (nth steps n) (λ step. step_evidence inputs (take n clauses) (evidence_within inputs steps clauses k) step g)
      (λ step. step_uses (take n clauses) (uses_within steps clauses k) step g)
      (λ step e. step-instances inputs (take n clauses) (clean-derived n) (evidence_within inputs steps clauses k) (uses_within steps clauses k) (λ p h ch. within-instances k p h ch) g closes step (at_place clean_in steps n step e clean_steps))

pub evidence_is_of_uses : EvidenceIsOfUses
unfolding evidence uses
evidence_is_of_uses inputs steps clauses derivation clean_inputs clean_steps n g closes = within-instances inputs steps clauses derivation clean_inputs clean_steps (suc n) n g closes

pub nth-among : {X : Type 0} (xs : List X) (n : ℕ) (x : X) → nth xs n ≡ Some x → Among x xs
nth-among [] n x e = absurd (none_some x e)
nth-among (y ∷ xs) zero x e = inl (sym (some_same y x e))
nth-among (y ∷ xs) (suc n) x e = inr (nth-among xs n x e)

instance_of : (inputs : List Literals) (used : List Use) (c : Literals) → IsOfUses inputs used c → IsEvidence inputs c
instance_of inputs used c (inl is) = inl (record { input = is.input; filling = is.of.filling; stands = nth-among inputs is.of.input is.input is.at; closes = is.closes; is = is.is })
instance_of inputs used c (inr is) = inr is

pub evidence_is_ground : EvidenceIsGround
evidence_is_ground inputs steps clauses derivation clean_inputs clean_steps n g closes =
    each_map (IsOfUses inputs (uses steps clauses n g)) (IsEvidence inputs) (instance_of inputs (uses steps clauses n g)) (evidence inputs steps clauses n g)
    (evidence_is_of_uses inputs steps clauses derivation clean_inputs clean_steps n g closes)
