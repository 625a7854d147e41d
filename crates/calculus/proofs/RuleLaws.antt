-- Each rule keeps what a truth assignment satisfies.
use Rattle.std.proofs.Common.{◌≡◌, ℕ, List, [], ◌∷◌, ◌++◌, map, Bool, true, false, not, ◌||◌, ◌&&◌, if◌then◌else◌, Some, codes, refl, sym, ap, ap₂, ◌∙◌}
use Rattle.std.specs.List.{list_all}
use Rattle.kif_tree.specs.declared.form.Form.{Form, out-Form}
use Rattle.kif_tree.specs.declared.form.Form.TheVariants as form
use Rattle.kif_tree.specs.declared.clause.Literal.{Literal}
use Rattle.kif_tree.specs.Terms.{same}
use Rattle.kif_tree.specs.SameLaws.{same-Decides}
use Rattle.kif_tree.specs.Clauses.{Literals, bind_literal, bind_clause, is_headed, heads_layer, is_answer, same_sign}
use Rattle.kif_tree.specs.Subst.{Filling, bind, via}
use Rattle.calculus.specs.Truth.{is_true, satisfies}
use Rattle.calculus.specs.declared.places.Frame.{Frame}
use Rattle.calculus.specs.declared.places.Opened.{Opened}
use Rattle.calculus.specs.declared.places.Sides.{Sides}
use Rattle.calculus.specs.declared.places.Replaced.{Replaced}
use Rattle.calculus.specs.Rules.{after, given, Picked, pick, others, framed, plugged, bind_frame, opened, is_empty, is_variable, sides, resolves, resolved, merges, factored, from_side, to_side, replaces, changed, replacement_by, replaced_by, replaced}
use Rattle.calculus.specs.Equality.{equal, symmetry, congruences}
use Rattle.calculus.specs.Evidence.{equalities}
use Rattle.kif_tree.proofs.SubstLaws.{bind-via}
use Rattle.calculus.proofs.TruthLaws.{tells, says, says-append, says-bind, signs, both, false_true, negated}
use Rattle.calculus.proofs.PlaceLaws.{through, allowed, some_same, picked, opened-whole, sides-whole, bind-plugged, bind-equal}
use Rattle.calculus.proofs.PathLaws.{Equated, symmetric, replaced-truth}

-- ---- tests

abbrev said : Bool → Bool → Bool → Bool
said answer positive truth = if answer then false else (if positive then truth else not truth)

contrary : (a p q t : Bool) → p ≡ true → q ≡ false → (said a p t && said a q t) ≡ false
contrary true p q t h k = refl
contrary false true true t h k = absurd (false_true (sym k))
contrary false true false true h k = refl
contrary false true false false h k = refl
contrary false false q t h k = absurd (false_true h)

opposed : (atoms : List Form) (p q : Bool) (a b : Form) → p ≡ true → q ≡ false → a ≡ b
    → (tells atoms (record { positive = p; atom = a }) && tells atoms (record { positive = q; atom = b })) ≡ false
opposed atoms p q a b h k e =
    ap (λ (x : Form). said (is_answer a) p (is_true atoms a) && said (is_answer x) q (is_true atoms x)) (sym e) ∙ contrary (is_answer a) p q (is_true atoms a) h k

pub cut : (p q a b c d : Bool) → (a || (p || b)) ≡ true → (c || (q || d)) ≡ true → (p && q) ≡ false → ((a || b) || (c || d)) ≡ true
cut p q true b c d left right apart = refl
cut p q false true c d left right apart = refl
cut p q false false true d left right apart = refl
cut p q false false false true left right apart = refl
cut true true false false false false left right apart = sym apart
cut true false false false false false left right apart = right
cut false q false false false false left right apart = left

amid : (a k b : Bool) → k ≡ true → (a || (k || b)) ≡ true
amid true k b h = refl
amid false true b h = refl
amid false false b h = absurd (false_true h)

merged : (a d b : Bool) → (a || (d || b)) ≡ true → (d ≡ true → a ≡ true) → (a || b) ≡ true
merged true d b h k = refl
merged false true b h k = absurd (false_true (k refl))
merged false false b h k = h

exchanged : (a e b c m d n : Bool) → (a || (e || b)) ≡ true → (c || (m || d)) ≡ true → (e ≡ true → m ≡ true → n ≡ true) → ((a || b) || (c || (n || d))) ≡ true
exchanged true e b c m d n source target k = refl
exchanged false e true c m d n source target k = refl
exchanged false e false true m d n source target k = refl
exchanged false true false false true d n source target k = amid false n d (k refl refl)
exchanged false true false false false d true source target k = refl
exchanged false true false false false d false source target k = target
exchanged false false false false m d n source target k = absurd (false_true source)

-- ---- resolution

meets : (f g t : Filling) (a b : Form) → same (bind f a) (bind g b) ≡ true → bind (via f t) a ≡ bind (via g t) b
meets f g t a b h = bind-via f t a ∙ ap (bind t) ((same-Decides (bind f a) (bind g b)).0 h) ∙ sym (bind-via g t b)

split : (atoms : List Form) (g : Filling) (clause : Literals) (i : ℕ) (p : Picked Literal) → pick clause i ≡ Some p
    → says atoms g clause ≡ (says atoms g p.before || (tells atoms (bind_literal g p.chosen) || says atoms g p.following))
split atoms g clause i p e = ap (says atoms g) (picked clause i p e) ∙ says-append atoms g p.before (p.chosen ∷ p.following)

left_over : (atoms : List Form) (f t : Filling) (p : Picked Literal) → says atoms t (bind_clause f (others p)) ≡ (says atoms (via f t) p.before || says atoms (via f t) p.following)
left_over atoms f t p = says-bind atoms f t (others p) ∙ says-append atoms (via f t) p.before p.following

pub resolved-holds : (atoms : List Form) (t : Filling) (left : Literals) (i : ℕ) (f : Filling) (right : Literals) (j : ℕ) (g : Filling) (conclusion : Literals)
    → resolved left i f right j g ≡ Some conclusion → says atoms (via f t) left ≡ true → says atoms (via g t) right ≡ true → says atoms t conclusion ≡ true
resolved-holds atoms t left i f right j g conclusion e l_true r_true =
    let l = through (pick left i) (λ l. after (pick right j) (λ r. given (resolves f g l.chosen r.chosen) (Some (bind_clause f (others l) ++ bind_clause g (others r))))) conclusion e in
    let r = through (pick right j) (λ r. given (resolves f g l.at.chosen r.chosen) (Some (bind_clause f (others l.at) ++ bind_clause g (others r)))) conclusion l.gives in
    let made = allowed (resolves f g l.at.chosen r.at.chosen) (Some (bind_clause f (others l.at) ++ bind_clause g (others r.at))) conclusion r.gives in
    let c0 = both l.at.chosen.positive _ made.0 in
    let c1 = both (not r.at.chosen.positive) _ c0.1 in
    let c2 = both (not (is_answer l.at.chosen.atom)) _ c1.1 in
    let c3 = both (not (is_answer r.at.chosen.atom)) (same (bind f l.at.chosen.atom) (bind g r.at.chosen.atom)) c2.1 in
    ap (says atoms t) (sym (some_same _ conclusion made.1))
    ∙ says-append atoms t (bind_clause f (others l.at)) (bind_clause g (others r.at))
    ∙ ap₂ ◌||◌ (left_over atoms f t l.at) (left_over atoms g t r.at)
    ∙ cut (tells atoms (bind_literal (via f t) l.at.chosen)) (tells atoms (bind_literal (via g t) r.at.chosen))
    (says atoms (via f t) l.at.before) (says atoms (via f t) l.at.following) (says atoms (via g t) r.at.before) (says atoms (via g t) r.at.following)
    (sym (split atoms (via f t) left i l.at l.is) ∙ l_true) (sym (split atoms (via g t) right j r.at r.is) ∙ r_true)
    (opposed atoms l.at.chosen.positive r.at.chosen.positive _ _ c0.0 (negated r.at.chosen.positive c1.0) (meets f g t l.at.chosen.atom r.at.chosen.atom c3.1))

-- ---- factoring

alike_told : (atoms : List Form) (p q : Bool) (a b : Form) → p ≡ q → a ≡ b → tells atoms (record { positive = p; atom = a }) ≡ tells atoms (record { positive = q; atom = b })
alike_told atoms p q a b e h = ap₂ (λ (s : Bool) (x : Form). tells atoms (record { positive = s; atom = x })) e h

pub factored-holds : (atoms : List Form) (t : Filling) (clause : Literals) (i j : ℕ) (f : Filling) (conclusion : Literals)
    → factored clause i j f ≡ Some conclusion → says atoms (via f t) clause ≡ true → says atoms t conclusion ≡ true
factored-holds atoms t clause i j f conclusion e held =
    let d = through (pick clause j) (λ d. after (pick d.before i) (λ k. given (merges f k.chosen d.chosen) (Some (bind_clause f (others d))))) conclusion e in
    let k = through (pick d.at.before i) (λ k. given (merges f k.chosen d.at.chosen) (Some (bind_clause f (others d.at)))) conclusion d.gives in
    let made = allowed (merges f k.at.chosen d.at.chosen) (Some (bind_clause f (others d.at))) conclusion k.gives in
    let c0 = both (same_sign k.at.chosen.positive d.at.chosen.positive) _ made.0 in
    let c1 = both (not (is_answer k.at.chosen.atom)) _ c0.1 in
    let c2 = both (not (is_answer d.at.chosen.atom)) (same (bind f k.at.chosen.atom) (bind f d.at.chosen.atom)) c1.1 in
    let told = alike_told atoms k.at.chosen.positive d.at.chosen.positive _ _ (signs k.at.chosen.positive d.at.chosen.positive c0.0) (meets f f t k.at.chosen.atom d.at.chosen.atom c2.1) in
    ap (says atoms t) (sym (some_same _ conclusion made.1))
    ∙ left_over atoms f t d.at
    ∙ merged (says atoms (via f t) d.at.before) (tells atoms (bind_literal (via f t) d.at.chosen)) (says atoms (via f t) d.at.following)
    (sym (split atoms (via f t) clause j d.at d.is) ∙ held)
    (λ h. split atoms (via f t) d.at.before i k.at k.is
    ∙ amid (says atoms (via f t) k.at.before) (tells atoms (bind_literal (via f t) k.at.chosen)) (says atoms (via f t) k.at.following) (told ∙ h))

-- ---- paramodulation

-- the head of a list does not hang on its arguments
answers : (frame : Frame) (a b : Form) → is_answer (framed frame a) ≡ is_answer (framed frame b)
unfolding is_headed
answers frame a b =
    ap (heads_layer (codes "!answer")) (form.outs-List (frame.head ∷ (frame.before ++ a ∷ frame.following)))
    ∙ sym (ap (heads_layer (codes "!answer")) (form.outs-List (frame.head ∷ (frame.before ++ b ∷ frame.following))))

answers_inside : (frames : List Frame) (a b : Form) → is_empty frames ≡ false → is_answer (plugged frames a) ≡ is_answer (plugged frames b)
answers_inside [] a b some = absurd (false_true (sym some))
answers_inside (frame ∷ frames) a b some = answers frame (plugged frames a) (plugged frames b)

told_inside : (atoms : List Form) (positive : Bool) (frames : List Frame) (a b : Form) → is_empty frames ≡ false → list_all (satisfies atoms) (congruences frames a b) ≡ true → Equated atoms a b
    → tells atoms (record { positive = positive; atom = plugged frames a }) ≡ tells atoms (record { positive = positive; atom = plugged frames b })
told_inside atoms positive frames a b some h e =
    ap₂ (λ (answer truth : Bool). said answer positive truth) (answers_inside frames a b some) (replaced-truth atoms frames a b some h e)

either_way : (flipped : Bool) (e : Sides) (test : Form → Bool) → test e.left ≡ test e.right → test (from_side flipped e) ≡ test (to_side flipped e)
either_way true e test h = sym h
either_way false e test h = h

some_frames : (f g : Frame → Frame) (frames : List Frame) → not (is_empty frames) ≡ true → is_empty (map f (map g frames)) ≡ false
some_frames f g [] h = absurd (false_true h)
some_frames f g (frame ∷ frames) h = refl

positive_truth : (a p t : Bool) → p ≡ true → said a p t ≡ true → t ≡ true
positive_truth true p t h k = absurd (false_true k)
positive_truth false true t h k = k
positive_truth false false t h k = absurd (false_true h)

-- the equality is true where its literal holds
used : (atoms : List Form) (f t : Filling) (l : Literal) (e : Sides) → sides l.atom ≡ Some e → l.positive ≡ true → tells atoms (bind_literal (via f t) l) ≡ true
    → is_true atoms (equal (bind t (bind f e.left)) (bind t (bind f e.right))) ≡ true
used atoms f t l e is positive h =
    let atom : bind (via f t) l.atom ≡ equal (bind t (bind f e.left)) (bind t (bind f e.right)) =
    ap (bind (via f t)) (sides-whole l.atom e is) ∙ bind-via f t (equal e.left e.right) ∙ ap (bind t) (bind-equal f e.left e.right) ∙ bind-equal t (bind f e.left) (bind f e.right) in
    ap (is_true atoms) (sym atom) ∙ positive_truth (is_answer (bind (via f t) l.atom)) l.positive (is_true atoms (bind (via f t) l.atom)) positive h

-- the atom before the replacement
before : (g f t : Filling) (path : List ℕ) (atom : Form) (o : Opened) (x : Form) → opened path atom ≡ Some o → bind g o.inner ≡ bind f x
    → bind (via g t) atom ≡ plugged (map (bind_frame t) (map (bind_frame g) o.frames)) (bind t (bind f x))
before g f t path atom o x is e =
    bind-via g t atom ∙ ap (λ y. bind t (bind g y)) (opened-whole path atom o is) ∙ ap (bind t) (bind-plugged g o.frames o.inner)
    ∙ bind-plugged t (map (bind_frame g) o.frames) (bind g o.inner) ∙ ap (λ y. plugged (map (bind_frame t) (map (bind_frame g) o.frames)) (bind t y)) e

replacement-holds : (atoms : List Form) (t : Filling) (source : Literals) (i : ℕ) (flipped : Bool) (f : Filling) (target : Literals) (j : ℕ) (path : List ℕ) (g : Filling)
    (s : Picked Literal) (e : Sides) (m : Picked Literal) (o : Opened)
    → pick source i ≡ Some s → sides s.chosen.atom ≡ Some e → pick target j ≡ Some m → opened path m.chosen.atom ≡ Some o
    → replaces f flipped e g s.chosen m.chosen o ≡ true
    → list_all (satisfies atoms) (equalities (replacement_by f flipped s e g m o) t) ≡ true
    → says atoms (via f t) source ≡ true → says atoms (via g t) target ≡ true → says atoms t (replacement_by f flipped s e g m o).conclusion ≡ true
replacement-holds atoms t source i flipped f target j path g s e m o s_is e_is m_is o_is allowed_here instances s_true t_true =
    let frames = map (bind_frame t) (map (bind_frame g) o.frames) in
    let left = bind t (bind f e.left) in
    let right = bind t (bind f e.right) in
    let to = to_side flipped e in
    let c0 = both s.chosen.positive _ allowed_here in
    let c1 = both (not (is_answer m.chosen.atom)) _ c0.1 in
    let c2 = both (not (is_empty o.frames)) _ c1.1 in
    let c3 = both (not (is_variable (out-Form o.inner))) (same (bind g o.inner) (bind f (from_side flipped e))) c2.1 in
    let meeting = (same-Decides (bind g o.inner) (bind f (from_side flipped e))).0 c3.1 in
    let given_ones = both (satisfies atoms (symmetry left right)) (list_all (satisfies atoms) (congruences frames left right)) instances in
    let carried : tells atoms (bind_literal (via f t) s.chosen) ≡ true → tells atoms (bind_literal (via g t) m.chosen) ≡ true → tells atoms (bind_literal t (changed f to g m.chosen o)) ≡ true =
    λ h k.
    let equated : Equated atoms left right = symmetric atoms left right given_ones.0 (used atoms f t s.chosen e e_is c0.0 h) in
    ap (λ (x : Form). tells atoms (record { positive = m.chosen.positive; atom = x })) (bind-plugged t (map (bind_frame g) o.frames) (bind f to))
    ∙ sym (either_way flipped e (λ x. tells atoms (record { positive = m.chosen.positive; atom = plugged frames (bind t (bind f x)) }))
    (told_inside atoms m.chosen.positive frames left right (some_frames (bind_frame t) (bind_frame g) o.frames c2.0) given_ones.1 equated))
    ∙ ap (λ (x : Form). tells atoms (record { positive = m.chosen.positive; atom = x })) (sym (before g f t path m.chosen.atom o (from_side flipped e) o_is meeting)) ∙ k in
    says-append atoms t (bind_clause f (others s)) (bind_clause g m.before ++ changed f to g m.chosen o ∷ bind_clause g m.following)
    ∙ ap₂ ◌||◌ (left_over atoms f t s)
    (says-append atoms t (bind_clause g m.before) (changed f to g m.chosen o ∷ bind_clause g m.following)
    ∙ ap₂ (λ (a b : Bool). a || (tells atoms (bind_literal t (changed f to g m.chosen o)) || b)) (says-bind atoms g t m.before) (says-bind atoms g t m.following))
    ∙ exchanged (says atoms (via f t) s.before) (tells atoms (bind_literal (via f t) s.chosen)) (says atoms (via f t) s.following)
    (says atoms (via g t) m.before) (tells atoms (bind_literal (via g t) m.chosen)) (says atoms (via g t) m.following) (tells atoms (bind_literal t (changed f to g m.chosen o)))
    (sym (split atoms (via f t) source i s s_is) ∙ s_true) (sym (split atoms (via g t) target j m m_is) ∙ t_true) carried

pub replaced-holds : (atoms : List Form) (t : Filling) (source : Literals) (i : ℕ) (flipped : Bool) (f : Filling) (target : Literals) (j : ℕ) (path : List ℕ) (g : Filling) (w : Replaced)
    → replaced source i flipped f target j path g ≡ Some w → list_all (satisfies atoms) (equalities w t) ≡ true
    → says atoms (via f t) source ≡ true → says atoms (via g t) target ≡ true → says atoms t w.conclusion ≡ true
replaced-holds atoms t source i flipped f target j path g w is instances s_true t_true =
    let s = through (pick source i) (λ s. after (sides s.chosen.atom) (λ e. after (pick target j) (λ m. after (opened path m.chosen.atom) (replaced_by f flipped s e g m)))) w is in
    let e = through (sides s.at.chosen.atom) (λ e. after (pick target j) (λ m. after (opened path m.chosen.atom) (replaced_by f flipped s.at e g m))) w s.gives in
    let m = through (pick target j) (λ m. after (opened path m.chosen.atom) (replaced_by f flipped s.at e.at g m)) w e.gives in
    let o = through (opened path m.at.chosen.atom) (replaced_by f flipped s.at e.at g m.at) w m.gives in
    let made = allowed (replaces f flipped e.at g s.at.chosen m.at.chosen o.at) (Some (replacement_by f flipped s.at e.at g m.at o.at)) w o.gives in
    let w_is : replacement_by f flipped s.at e.at g m.at o.at ≡ w = some_same _ w made.1 in
    ap (λ (v : Replaced). says atoms t v.conclusion) (sym w_is)
    ∙ replacement-holds atoms t source i flipped f target j path g s.at e.at m.at o.at s.is e.is m.is o.is made.0
    (ap (λ (v : Replaced). list_all (satisfies atoms) (equalities v t)) w_is ∙ instances) s_true t_true
