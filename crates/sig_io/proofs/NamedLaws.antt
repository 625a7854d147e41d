-- Files found by their names, and names that differ.
use Rattle.std.proofs.Common.{◌≡◌, ℕ, ◌<◌, suc, zero, List, [], ◌∷◌, length, get_or, refl, sym, subst, ap, ◌∙◌, cond, Bool, true, false, ◌||◌, find, arith}
use Rattle.std.specs.Prelude.{Some, Contains, ◌↔◌, ◌≢◌}
use Rattle.std.specs.Option.{option_map}
use Rattle.std.specs.Str.{bytes_eq}
use Rattle.std.specs.List.{list_any}
use Rattle.std.proofs.lemmas.List.{get_or_default, get_or-map, length-map}
use Rattle.std.proofs.lemmas.List.Kept.{AllPairs-cons}
use Rattle.std.proofs.lemmas.Map.Made.{Contains-tail}
use Rattle.std.proofs.lemmas.Slice.Eq.{bytes_eq-Decides}
use Rattle.sig_io.specs.declared.named.NamedFile.{NamedFile}
use Rattle.sig_io.specs.Named.{pairs_of, names_of, AreDistinct}
use Rattle.sig_io.specs.Told.{body_of}

pub body_found : (files : List NamedFile) (name : List ℕ) → body_of (pairs_of files) name ≡ option_map (λ f. f.body) (find (λ f. bytes_eq f.name name) files)
body_found [] name = refl
body_found (f ∷ fs) name =
    elim (bytes_eq f.name name) as (λ b. option_map (λ (p : List ℕ × List ℕ). p.1) (cond b (Some (f.name, f.body)) (find (λ p. bytes_eq p.0 name) (pairs_of fs)))
    ≡ option_map (λ (p : NamedFile). p.body) (cond b (Some f) (find (λ p. bytes_eq p.name name) fs)))
    [ true ↦ refl | false ↦ body_found fs name ]

-- a name that stands twice
pub distinct-repeated : (name : List ℕ) (names : List (List ℕ)) → Contains names name → AreDistinct (name ∷ names) → ⊥
distinct-repeated name names (k, within, is) apart = apart 0 (suc k) name (omega arith) (omega arith) (sym is)

pub distinct-tail : (name : List ℕ) (names : List (List ℕ)) → AreDistinct (name ∷ names) → AreDistinct names
distinct-tail name names apart = λ i j d below within. apart (suc i) (suc j) d (omega arith) (omega arith)

pub distinct-cons : (name : List ℕ) (names : List (List ℕ)) → (Contains names name → ⊥) → AreDistinct names → AreDistinct (name ∷ names)
distinct-cons name names new apart =
    AllPairs-cons (λ a b. a ≢ b) name names (λ k d within same. new (k, within, get_or_default names k name d within ∙ sym same)) apart

listed_here : (f : NamedFile) (fs : List NamedFile) (name : List ℕ) → (b : Bool) → bytes_eq f.name name ≡ b
    → (list_any (λ g. bytes_eq g.name name) fs ≡ true) ↔ Contains (names_of fs) name
    → ((b || list_any (λ g. bytes_eq g.name name) fs) ≡ true) ↔ Contains (names_of (f ∷ fs)) name
listed_here f fs name true e later = (λ _. (0, omega arith, (bytes_eq-Decides f.name name).0 e), λ _. refl)
listed_here f fs name false e later = (
  λ h. let found = later.0 h in (suc found.0, omega (arith, found.1), found.2),
  λ h. later.1 (Contains-tail f.name (names_of fs) name (λ same. let no_way : false ≡ true = sym e ∙ (bytes_eq-Decides f.name name).1 same in absurd (cc)) h),
)

pub any_named : (files : List NamedFile) (name : List ℕ) → (list_any (λ f. bytes_eq f.name name) files ≡ true) ↔ Contains (names_of files) name
any_named [] name = (λ h. absurd (cc), λ h. absurd (omega (arith, h.1)))
any_named (f ∷ fs) name = listed_here f fs name (bytes_eq f.name name) refl (any_named fs name)

-- a file whose name stands again after it
pub repeated : (files : List NamedFile) (f : NamedFile) (rest : List NamedFile) → files ≡ f ∷ rest
    → list_any (λ g. bytes_eq g.name f.name) rest ≡ true → AreDistinct (names_of files) → ⊥
repeated files f rest e found apart =
    let here : AreDistinct (names_of (f ∷ rest)) = subst (λ (fs : List NamedFile). AreDistinct (names_of fs)) e apart in
    distinct-repeated f.name (names_of rest) ((any_named rest f.name).0 found) here

-- a file whose name doesn't stand again
pub one_fewer : (files : List NamedFile) (f : NamedFile) (rest : List NamedFile) → files ≡ f ∷ rest
    → list_any (λ g. bytes_eq g.name f.name) rest ≡ false → AreDistinct (names_of files) ↔ AreDistinct (names_of rest)
one_fewer files f rest e none =
    let new : Contains (names_of rest) f.name → ⊥ = λ h. let no_way : false ≡ true = sym none ∙ (any_named rest f.name).1 h in absurd (cc) in (
      λ apart. distinct-tail f.name (names_of rest) (subst (λ (fs : List NamedFile). AreDistinct (names_of fs)) e apart),
      λ apart. subst (λ (fs : List NamedFile). AreDistinct (names_of fs)) (sym e) (distinct-cons f.name (names_of rest) new apart),
    )

-- each file is the one that is found under its name
pub own_body : (files : List NamedFile) → AreDistinct (names_of files) → (k : ℕ) (d : NamedFile) → k < length files
    → body_of (pairs_of files) (get_or files k d).name ≡ Some (get_or files k d).body
own_body [] apart k d within = absurd (omega arith)
own_body (f ∷ fs) apart zero d within =
    ap (λ (b : Bool). option_map (λ (p : List ℕ × List ℕ). p.1) (cond b (Some (f.name, f.body)) (find (λ p. bytes_eq p.0 f.name) (pairs_of fs)))) ((bytes_eq-Decides f.name f.name).1 refl)
own_body (f ∷ fs) apart (suc k) d within =
    let here : k < length fs = omega arith in
    let named_here : k < length (names_of fs) = omega (arith, length-map fs (λ (g : NamedFile). g.name)) in
    let other : f.name ≡ (get_or fs k d).name → ⊥ = λ same.
    apart 0 (suc k) f.name (omega arith) (omega arith) (same ∙ sym (get_or-map (λ (g : NamedFile). g.name) fs k d f.name here)) in
    later (bytes_eq f.name (get_or fs k d).name) refl other (own_body fs (distinct-tail f.name (names_of fs) apart) k d here)
  where
    later : (b : Bool) → bytes_eq f.name (get_or fs k d).name ≡ b → (f.name ≡ (get_or fs k d).name → ⊥)
        → body_of (pairs_of fs) (get_or fs k d).name ≡ Some (get_or fs k d).body
        → option_map (λ (p : List ℕ × List ℕ). p.1) (cond b (Some (f.name, f.body)) (find (λ p. bytes_eq p.0 (get_or fs k d).name) (pairs_of fs))) ≡ Some (get_or fs k d).body
    later true e other rest = absurd (other ((bytes_eq-Decides f.name (get_or fs k d).name).0 e))
    later false e other rest = rest
