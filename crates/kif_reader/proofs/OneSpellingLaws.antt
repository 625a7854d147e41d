-- Tokens spell one form at most.
use Rattle.std.proofs.Common.{◌≡◌, ℕ, List, [], ◌∷◌, ◌++◌, sym, ap, ◌∙◌, refl, subst, append_assoc}
use Rattle.std.specs.List.{flat_map}
use Rattle.kif_tree.specs.declared.form.Form.{Form}
use Rattle.kif_tree.specs.declared.form.Form.TheVariants as form
use Rattle.sigma_base.specs.Lists.{Each}
use Rattle.kif_tree.specs.FormLaws.{induction}
use Rattle.kif_reader.specs.Cut.{quoted}
use Rattle.kif_reader.specs.Spelling.{spelling, Spelled}
use Rattle.kif_reader.specs.declared.kinds.TokenKind.{TokenKind}
use Rattle.kif_reader.specs.declared.kinds.TokenKind.TheVariants.{Left, Right, Word, Variable, Row, Numeral, Quoted}
use Rattle.kif_reader.proofs.SpellingLaws.{spelling_word, spelling_variable, spelling_row, spelling_numeral, spelling_quoted, spelling_list}
use Rattle.kif_reader.proofs.UniqueLaws.{inside_unique}

abbrev Means : TokenKind → List ℕ → Spelled → Form → Type 0
Means Word bytes tail g = (g ≡ form.Word bytes) × (tail ≡ [])
Means Numeral bytes tail g = (g ≡ form.Numeral bytes) × (tail ≡ [])
Means Variable bytes tail g = (v : List ℕ) × (bytes ≡ 63 ∷ v) × (g ≡ form.Variable v) × (tail ≡ [])
Means Row bytes tail g = (v : List ℕ) × (bytes ≡ 64 ∷ v) × (g ≡ form.Row v) × (tail ≡ [])
Means Quoted bytes tail g = (v : List ℕ) × (bytes ≡ quoted v) × (g ≡ form.Quoted v) × (tail ≡ [])
Means Left bytes tail g = (parts : List Form) × (g ≡ form.List parts) × (tail ≡ flat_map spelling parts ++ (Right, 41 ∷ []) ∷ [])
Means Right bytes tail g = ⊥

record First (g : Form) : Type 0 where
  kind : TokenKind
  bytes : List ℕ
  tail : Spelled
  split : spelling g ≡ (kind, bytes) ∷ tail
  means : Means kind bytes tail g

first : (g : Form) → First g
first = induction First (record {
  word = λ t. record { kind = Word; bytes = t; tail = []; split = spelling_word t; means = (refl, refl) };
  variable = λ t. record { kind = Variable; bytes = 63 ∷ t; tail = []; split = spelling_variable t; means = (t, refl, refl, refl) };
  row = λ t. record { kind = Row; bytes = 64 ∷ t; tail = []; split = spelling_row t; means = (t, refl, refl, refl) };
  numeral = λ t. record { kind = Numeral; bytes = t; tail = []; split = spelling_numeral t; means = (refl, refl) };
  quoted = λ t. record { kind = Quoted; bytes = quoted t; tail = []; split = spelling_quoted t; means = (t, refl, refl, refl) };
  list = λ parts _. record { kind = Left; bytes = 40 ∷ []; tail = flat_map spelling parts ++ (Right, 41 ∷ []) ∷ []; split = spelling_list parts; means = (parts, refl, refl) };
})

-- the first token, and what is behind it
record Meets (kind : TokenKind) (bytes : List ℕ) (rest : Spelled) (g : Form) (ys : Spelled) : Type 0 where
  tail : Spelled
  means : Means kind bytes tail g
  same : rest ≡ tail ++ ys

meets : (kind : TokenKind) (bytes : List ℕ) (rest : Spelled) (g : Form) (ys : Spelled) → (kind, bytes) ∷ rest ≡ spelling g ++ ys → Meets kind bytes rest g ys
meets kind bytes rest g ys e =
    let f = first g in
    let whole : (kind, bytes) ∷ rest ≡ (f.kind, f.bytes) ∷ (f.tail ++ ys) = e ∙ ap (λ t. t ++ ys) f.split in
    let behind : rest ≡ f.tail ++ ys = cc in
    let pair : (kind, bytes) ≡ (f.kind, f.bytes) = cc in
    let k : f.kind ≡ kind = sym (ap (λ (p : TokenKind × List ℕ). p.0) pair) in
    let b : f.bytes ≡ bytes = sym (ap (λ (p : TokenKind × List ℕ). p.1) pair) in
    record { tail = f.tail; means = subst (λ i. Means i bytes f.tail g) k (subst (λ i. Means f.kind i f.tail g) b f.means); same = behind }

abbrev P : Form → Type 0
P f = (g : Form) (xs ys : Spelled) → spelling f ++ xs ≡ spelling g ++ ys → (f ≡ g) × (xs ≡ ys)

parts_same : (fs gs : List Form) (xs ys : Spelled) → Each P fs → flat_map spelling fs ++ (Right, 41 ∷ []) ∷ xs ≡ flat_map spelling gs ++ (Right, 41 ∷ []) ∷ ys → (fs ≡ gs) × (xs ≡ ys)
parts_same [] [] xs ys each e = (refl, cc)
parts_same [] (g ∷ gs) xs ys each e = absurd (meets Right (41 ∷ []) xs g (flat_map spelling gs ++ (Right, 41 ∷ []) ∷ ys) (e ∙ append_assoc (spelling g) (flat_map spelling gs) ((Right, 41 ∷ []) ∷ ys))).means
parts_same (f ∷ fs) [] xs ys each e = absurd (meets Right (41 ∷ []) ys f (flat_map spelling fs ++ (Right, 41 ∷ []) ∷ xs) (sym e ∙ append_assoc (spelling f) (flat_map spelling fs) ((Right, 41 ∷ []) ∷ xs))).means
parts_same (f ∷ fs) (g ∷ gs) xs ys each e =
    let one = each.0 g (flat_map spelling fs ++ (Right, 41 ∷ []) ∷ xs) (flat_map spelling gs ++ (Right, 41 ∷ []) ∷ ys) (sym (append_assoc (spelling f) (flat_map spelling fs) ((Right, 41 ∷ []) ∷ xs)) ∙ e ∙ append_assoc (spelling g) (flat_map spelling gs) ((Right, 41 ∷ []) ∷ ys)) in
    let rest = parts_same fs gs xs ys each.1 one.1 in
    ((λ i. one.0 i ∷ rest.0 i), rest.1)

pub one_spelling : (f g : Form) (xs ys : Spelled) → spelling f ++ xs ≡ spelling g ++ ys → (f ≡ g) × (xs ≡ ys)
one_spelling = induction P (record {
  word = λ t g xs ys e. let m = meets Word t xs g ys (ap (λ l. l ++ xs) (sym (spelling_word t)) ∙ e) in (sym m.means.0, m.same ∙ ap (λ l. l ++ ys) m.means.1);
  numeral = λ t g xs ys e. let m = meets Numeral t xs g ys (ap (λ l. l ++ xs) (sym (spelling_numeral t)) ∙ e) in (sym m.means.0, m.same ∙ ap (λ l. l ++ ys) m.means.1);
  variable = λ t g xs ys e. let m = meets Variable (63 ∷ t) xs g ys (ap (λ l. l ++ xs) (sym (spelling_variable t)) ∙ e) in let b = m.means.1 in let v : t ≡ m.means.0 = cc in (ap form.Variable v ∙ sym m.means.2, m.same ∙ ap (λ l. l ++ ys) m.means.3);
  row = λ t g xs ys e. let m = meets Row (64 ∷ t) xs g ys (ap (λ l. l ++ xs) (sym (spelling_row t)) ∙ e) in let b = m.means.1 in let v : t ≡ m.means.0 = cc in (ap form.Row v ∙ sym m.means.2, m.same ∙ ap (λ l. l ++ ys) m.means.3);
  quoted = λ t g xs ys e. let m = meets Quoted (quoted t) xs g ys (ap (λ l. l ++ xs) (sym (spelling_quoted t)) ∙ e) in let b = m.means.1 in let v = inside_unique t m.means.0 [] [] (cc) in (ap form.Quoted v.0 ∙ sym m.means.2, m.same ∙ ap (λ l. l ++ ys) m.means.3);
  list = λ parts each g xs ys e.
      let start : ((Left, 40 ∷ []) ∷ flat_map spelling parts) ++ (Right, 41 ∷ []) ∷ xs ≡ spelling g ++ ys = sym (append_assoc ((Left, 40 ∷ []) ∷ flat_map spelling parts) ((Right, 41 ∷ []) ∷ []) xs) ∙ ap (λ l. l ++ xs) (sym (spelling_list parts)) ∙ e in
      let m = meets Left (40 ∷ []) (flat_map spelling parts ++ (Right, 41 ∷ []) ∷ xs) g ys start in
      let r = parts_same parts m.means.0 xs ys each (m.same ∙ ap (λ l. l ++ ys) m.means.2 ∙ append_assoc (flat_map spelling m.means.0) ((Right, 41 ∷ []) ∷ []) ys) in
      (ap form.List r.0 ∙ sym m.means.1, r.1);
})
