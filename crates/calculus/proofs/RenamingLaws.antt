-- Why a tidy clause doesn't depend on the names of variables.
use Rattle.std.proofs.Common.{◌≡◌, ℕ, ◌+◌, ◌≤◌, List, [], ◌∷◌, ◌++◌, map, filter, Bool, true, false, not, ◌||◌, if◌then◌else◌, refl, sym, ap, ap₂, ◌∙◌, subst, arith}
use Rattle.std.specs.List.{list_any}
use Rattle.std.specs.Str.{bytes_eq}
use Rattle.std.specs.Int.Digits.{digits_of}
use Rattle.std.proofs.lemmas.Int.Digits.{same_from_digits_of}
use Rattle.std.proofs.lemmas.Slice.Eq.{bytes_eq-Decides}
use Rattle.std.proofs.lemmas.Bool.Decides.{same_from_decides}
use Rattle.sigma_base.specs.Lists.{Each, each_append, each_left, each_right, each_map, each_both, map_each}
use Rattle.kif_tree.specs.declared.form.Form.{Form, out-Form}
use Rattle.kif_tree.specs.declared.form.Form.TheVariants as form
use Rattle.kif_tree.specs.declared.form.Form.TheOpen.{Form-F}
use Rattle.kif_tree.specs.declared.clause.Literal.{Literal}
use Rattle.kif_tree.specs.Terms.{Bytes, joined, variables, distinct}
use Rattle.kif_tree.specs.FormLaws.{induction}
use Rattle.kif_tree.specs.Subst.{Filling, bind, via, lookup}
use Rattle.kif_tree.specs.Clauses.{Literals, bind_clause, clause_variables}
use Rattle.kif_tree.proofs.TermLaws.{variables-Word, variables-Variable, variables-Row, variables-Numeral, variables-Quoted, variables-List}
use Rattle.kif_tree.proofs.VariableLaws.{each_distinct}
use Rattle.kif_tree.proofs.SubstLaws.{bind-Word, bind-Variable, bind-Row, bind-Numeral, bind-Quoted, bind-List, bind-via, Agree}
use Rattle.calculus.specs.Tidy.{new_name, numbered, without_repeats, renaming, renamed, tidy}
use Rattle.calculus.specs.Laws.{TidyIsIdempotent, TidiesAlike}
use Rattle.calculus.proofs.TruthLaws.{false_true, members}
use Rattle.calculus.proofs.PairLaws.{clause-agree}
use Rattle.calculus.proofs.RepeatLaws.{Returns, returns-each, each-without, without-there, without-twice}

pub list_same : (xs ys : List Form) → form.List xs ≡ form.List ys → xs ≡ ys
list_same xs ys e = let layers : Form-F.List xs ≡ Form-F.List ys = sym (form.outs-List xs) ∙ ap out-Form e ∙ form.outs-List ys in cc

-- ---- a filling that leaves a form leaves its variables

abbrev Leaves : Filling → Bytes → Type 0
Leaves s v = s v ≡ form.Variable v

leaves_parts : (s : Filling) (parts : List Form) → Each (λ f. bind s f ≡ f → Each (Leaves s) (variables f)) parts → map (bind s) parts ≡ parts → Each (Leaves s) (joined (map variables parts))
leaves_parts s [] each e = tt
leaves_parts s (f ∷ parts) each e =
    let here : bind s f ≡ f = cc in
    let rest : map (bind s) parts ≡ parts = cc in
    each_append (Leaves s) (variables f) (joined (map variables parts)) (each.0 here) (leaves_parts s parts each.1 rest)

leaves : (s : Filling) (f : Form) → bind s f ≡ f → Each (Leaves s) (variables f)
leaves s = induction (λ f. bind s f ≡ f → Each (Leaves s) (variables f)) (record {
  word = λ text e. subst (Each (Leaves s)) (sym (variables-Word text)) tt;
  variable = λ text e. subst (Each (Leaves s)) (sym (variables-Variable text)) (sym (bind-Variable s text) ∙ e, tt);
  row = λ text e. subst (Each (Leaves s)) (sym (variables-Row text)) tt;
  numeral = λ text e. subst (Each (Leaves s)) (sym (variables-Numeral text)) tt;
  quoted = λ text e. subst (Each (Leaves s)) (sym (variables-Quoted text)) tt;
  list = λ parts each e. subst (Each (Leaves s)) (sym (variables-List parts)) (leaves_parts s parts each (list_same _ _ (sym (bind-List s parts) ∙ e)));
})

-- ---- the renaming that a filling is

abbrev name_in : Form-F Form → Bytes
name_in (Form-F.Word text) = []
name_in (Form-F.Variable text) = text
name_in (Form-F.Row text) = []
name_in (Form-F.Numeral text) = []
name_in (Form-F.Quoted text) = []
name_in (Form-F.List parts) = []

name_of : Form → Bytes
name_of f = name_in (out-Form f)

name_of-Variable : (v : Bytes) → name_of (form.Variable v) ≡ v
unfolding name_of
name_of-Variable v = ap name_in (form.outs-Variable v)

-- what becomes a variable is one
is_variable : (s : Filling) (v : Bytes) (f : Form) → bind s f ≡ form.Variable v → f ≡ form.Variable (name_of f)
is_variable s v = induction (λ f. bind s f ≡ form.Variable v → f ≡ form.Variable (name_of f)) (record {
  word = λ text e. let k : form.Word text ≡ form.Variable v = sym (bind-Word s text) ∙ e in absurd (cc);
  variable = λ text e. ap form.Variable (sym (name_of-Variable text));
  row = λ text e. let k : form.Row text ≡ form.Variable v = sym (bind-Row s text) ∙ e in absurd (cc);
  numeral = λ text e. let k : form.Numeral text ≡ form.Variable v = sym (bind-Numeral s text) ∙ e in absurd (cc);
  quoted = λ text e. let k : form.Quoted text ≡ form.Variable v = sym (bind-Quoted s text) ∙ e in absurd (cc);
  list = λ parts each e.
      let k : Form-F.List (map (bind s) parts) ≡ Form-F.Variable v =
      sym (form.outs-List (map (bind s) parts)) ∙ ap out-Form (sym (bind-List s parts) ∙ e) ∙ form.outs-Variable v in
      absurd (cc);
})

abbrev moved : Filling → Bytes → Bytes
moved s v = name_of (s v)

record Renames (there back : Filling) (v : Bytes) : Type 0 where
  pub to : there v ≡ form.Variable (moved there v)
  pub from : moved back (moved there v) ≡ v

renames : (there back : Filling) (v : Bytes) → Leaves (via there back) v → Renames there back v
renames there back v h =
    let to : there v ≡ form.Variable (moved there v) = is_variable back v (there v) h in
    let from : back (moved there v) ≡ form.Variable v = sym (bind-Variable back (moved there v)) ∙ ap (bind back) (sym to) ∙ h in
    record { to = to; from = ap name_of from ∙ name_of-Variable v }

flip : (a b : Bytes) → bytes_eq a b ≡ bytes_eq b a
flip a b = same_from_decides (bytes_eq a b) (bytes_eq b a) (bytes_eq-Decides a b) (λ h. sym ((bytes_eq-Decides b a).0 h), λ e. (bytes_eq-Decides b a).1 (sym e))

-- ---- names and numbers

module _ (there back : Filling) where
  kept : (v w : Bytes) → Renames there back v → Renames there back w → bytes_eq (moved there v) (moved there w) ≡ bytes_eq v w
  kept v w rv rw_ = same_from_decides (bytes_eq (moved there v) (moved there w)) (bytes_eq v w)
      (λ h. sym rv.from ∙ ap (moved back) ((bytes_eq-Decides (moved there v) (moved there w)).0 h) ∙ rw_.from, λ e. (bytes_eq-Decides (moved there v) (moved there w)).1 (ap (moved there) e))
      (bytes_eq-Decides v w)

  filter_kept : (v : Bytes) → Renames there back v → (ws : List Bytes) → Each (Renames there back) ws
      → filter (λ y. not (bytes_eq (moved there v) y)) (map (moved there) ws) ≡ map (moved there) (filter (λ y. not (bytes_eq v y)) ws)
  filter_kept v rv [] each = refl
  filter_kept v rv (w ∷ ws) each =
      ap₂ (λ (b : Bool) (ys : List Bytes). if not b then moved there w ∷ ys else ys) (kept v w rv each.0) (filter_kept v rv ws each.1) ∙ go (bytes_eq v w) (filter (λ y. not (bytes_eq v y)) ws)
    where
      go : (b : Bool) (ys : List Bytes) → (if not b then moved there w ∷ map (moved there) ys else map (moved there) ys) ≡ map (moved there) (if not b then w ∷ ys else ys)
      go true ys = refl
      go false ys = refl

  distinct_kept : (vs : List Bytes) → Each (Renames there back) vs → distinct (map (moved there) vs) ≡ map (moved there) (distinct vs)
  distinct_kept [] each = refl
  distinct_kept (v ∷ vs) each =
      ap (λ ys. moved there v ∷ filter (λ y. not (bytes_eq (moved there v) y)) ys) (distinct_kept vs each.1)
      ∙ ap (λ ys. moved there v ∷ ys) (filter_kept v each.0 (distinct vs) (each_distinct (Renames there back) vs each.1))

  number_kept : (n : ℕ) (vs : List Bytes) → Each (Renames there back) vs → (v : Bytes) → Renames there back v → list_any (bytes_eq v) vs ≡ true
      → lookup (numbered n (map (moved there) vs)) (moved there v) ≡ lookup (numbered n vs) v
  number_kept n [] each v rv here = absurd (false_true here)
  number_kept n (w ∷ vs) each v rv here =
      ap (λ (b : Bool). if b then form.Variable (new_name n) else lookup (numbered (n + 1) (map (moved there) vs)) (moved there v)) (kept w v each.0 rv)
      ∙ go (bytes_eq w v) (flip w v) here (number_kept (n + 1) vs each.1 v rv)
    where
      go : (b : Bool) → b ≡ bytes_eq v w → (bytes_eq v w || list_any (bytes_eq v) vs) ≡ true
          → (list_any (bytes_eq v) vs ≡ true → lookup (numbered (n + 1) (map (moved there) vs)) (moved there v) ≡ lookup (numbered (n + 1) vs) v)
          → (if b then form.Variable (new_name n) else lookup (numbered (n + 1) (map (moved there) vs)) (moved there v)) ≡ (if b then form.Variable (new_name n) else lookup (numbered (n + 1) vs) v)
      go true e found rest = refl
      go false e found rest = rest (ap (λ (b : Bool). b || list_any (bytes_eq v) vs) e ∙ found)

any_filter : (v x : Bytes) → bytes_eq v x ≡ false → (ys : List Bytes) → list_any (bytes_eq v) ys ≡ true → list_any (bytes_eq v) (filter (λ y. not (bytes_eq x y)) ys) ≡ true
any_filter v x apart [] h = absurd (false_true h)
any_filter v x apart (y ∷ ys) h = go (bytes_eq x y) refl h (any_filter v x apart ys)
  where
    go : (b : Bool) → bytes_eq x y ≡ b → (bytes_eq v y || list_any (bytes_eq v) ys) ≡ true → (list_any (bytes_eq v) ys ≡ true → list_any (bytes_eq v) (filter (λ z. not (bytes_eq x z)) ys) ≡ true)
        → list_any (bytes_eq v) (if not b then y ∷ filter (λ z. not (bytes_eq x z)) ys else filter (λ z. not (bytes_eq x z)) ys) ≡ true
    go true e found rest =
        let gone : bytes_eq v y ≡ false = ap (bytes_eq v) (sym ((bytes_eq-Decides x y).0 e)) ∙ apart in
        rest (ap (λ (b : Bool). b || list_any (bytes_eq v) ys) (sym gone) ∙ found)
    go false e found rest = keep (bytes_eq v y) (list_any (bytes_eq v) ys) (list_any (bytes_eq v) (filter (λ z. not (bytes_eq x z)) ys)) found rest
      where
        keep : (a b c : Bool) → (a || b) ≡ true → (b ≡ true → c ≡ true) → (a || c) ≡ true
        keep true b c h k = refl
        keep false b c h k = k h

pub in_distinct : (v : Bytes) (xs : List Bytes) → list_any (bytes_eq v) xs ≡ true → list_any (bytes_eq v) (distinct xs) ≡ true
in_distinct v [] h = h
in_distinct v (x ∷ xs) h = go (bytes_eq v x) refl h (in_distinct v xs)
  where
    go : (b : Bool) → bytes_eq v x ≡ b → (b || list_any (bytes_eq v) xs) ≡ true → (list_any (bytes_eq v) xs ≡ true → list_any (bytes_eq v) (distinct xs) ≡ true)
        → (b || list_any (bytes_eq v) (filter (λ y. not (bytes_eq x y)) (distinct xs))) ≡ true
    go true e found rest = refl
    go false e found rest = any_filter v x e (distinct xs) (rest found)

-- ---- the variables of the renamed clause

abbrev Variable_there : Filling → Bytes → Type 0
Variable_there s v = s v ≡ form.Variable (moved s v)

map_append : {X Y : Type 0} (f : X → Y) (xs ys : List X) → map f (xs ++ ys) ≡ map f xs ++ map f ys
map_append f [] ys = refl
map_append f (x ∷ xs) ys = ap (λ zs. f x ∷ zs) (map_append f xs ys)

variables_parts : (s : Filling) (parts : List Form) → Each (λ f. Each (Variable_there s) (variables f) → variables (bind s f) ≡ map (moved s) (variables f)) parts
    → Each (Variable_there s) (joined (map variables parts)) → joined (map variables (map (bind s) parts)) ≡ map (moved s) (joined (map variables parts))
variables_parts s [] each h = refl
variables_parts s (f ∷ parts) each h =
    ap₂ ◌++◌ (each.0 (each_left (Variable_there s) (variables f) (joined (map variables parts)) h))
    (variables_parts s parts each.1 (each_right (Variable_there s) (variables f) (joined (map variables parts)) h))
    ∙ sym (map_append (moved s) (variables f) (joined (map variables parts)))

variables_moved : (s : Filling) (f : Form) → Each (Variable_there s) (variables f) → variables (bind s f) ≡ map (moved s) (variables f)
variables_moved s = induction (λ f. Each (Variable_there s) (variables f) → variables (bind s f) ≡ map (moved s) (variables f)) (record {
  word = λ text h. plain (form.Word text) (bind-Word s text) (variables-Word text);
  variable = λ text h.
      ap variables (bind-Variable s text ∙ (subst (Each (Variable_there s)) (variables-Variable text) h).0) ∙ variables-Variable (moved s text)
      ∙ ap (map (moved s)) (sym (variables-Variable text));
  row = λ text h. plain (form.Row text) (bind-Row s text) (variables-Row text);
  numeral = λ text h. plain (form.Numeral text) (bind-Numeral s text) (variables-Numeral text);
  quoted = λ text h. plain (form.Quoted text) (bind-Quoted s text) (variables-Quoted text);
  list = λ parts each h.
      ap variables (bind-List s parts) ∙ variables-List (map (bind s) parts)
      ∙ variables_parts s parts each (subst (Each (Variable_there s)) (variables-List parts) h)
      ∙ ap (map (moved s)) (sym (variables-List parts));
})
  where
    plain : (f : Form) → bind s f ≡ f → variables f ≡ [] → variables (bind s f) ≡ map (moved s) (variables f)
    plain f e none = ap variables e ∙ none ∙ sym (ap (map (moved s)) none)

clause_variables_moved : (s : Filling) (c : Literals) → Each (Variable_there s) (clause_variables c) → clause_variables (bind_clause s c) ≡ map (moved s) (clause_variables c)
clause_variables_moved s [] h = refl
clause_variables_moved s (l ∷ ls) h =
    ap₂ ◌++◌ (variables_moved s l.atom (each_left (Variable_there s) (variables l.atom) (clause_variables ls) h)) (clause_variables_moved s ls (each_right (Variable_there s) (variables l.atom) (clause_variables ls) h))
    ∙ sym (map_append (moved s) (variables l.atom) (clause_variables ls))

leaves_clause : (there back : Filling) (c : Literals) → Each (Returns there back) c → Each (Leaves (via there back)) (clause_variables c)
leaves_clause there back [] h = tt
leaves_clause there back (l ∷ ls) h =
    each_append (Leaves (via there back)) (variables l.atom) (clause_variables ls)
    (leaves (via there back) l.atom (bind-via there back l.atom ∙ ap (λ (m : Literal). m.atom) h.0)) (leaves_clause there back ls h.1)

pub clause-via : (f g : Filling) (c : Literals) → bind_clause g (bind_clause f c) ≡ bind_clause (via f g) c
clause-via f g [] = refl
clause-via f g (l ∷ ls) =
    ap₂ (λ (a : Form) (rest : Literals). let made : Literal = record { positive = l.positive; atom = a } in made ∷ rest) (sym (bind-via f g l.atom)) (clause-via f g ls)

-- ---- the whole

renamed_alike : (there back : Filling) (c : Literals) → Each (Returns there back) c → renamed (bind_clause there c) ≡ renamed c
renamed_alike there back c returns =
    let names = clause_variables c in
    let all : Each (Renames there back) names = each_map (Leaves (via there back)) (Renames there back) (renames there back) names (leaves_clause there back c returns) in
    let names_there : clause_variables (bind_clause there c) ≡ map (moved there) names = clause_variables_moved there c (each_map (Renames there back) (Variable_there there) (λ v r. r.to) names all) in
    let numbers = numbered 1 (map (moved there) (distinct names)) in
    let numbers_there : numbered 1 (distinct (clause_variables (bind_clause there c))) ≡ numbers = ap (λ vs. numbered 1 (distinct vs)) names_there ∙ ap (numbered 1) (distinct_kept there back names all) in
    let same_numbers : Each (Agree (via there (lookup numbers)) (renaming c)) names =
    each_map (λ v. Renames there back v × (list_any (bytes_eq v) names ≡ true)) (Agree (via there (lookup numbers)) (renaming c))
    (λ v h. ap (bind (lookup numbers)) h.0.to ∙ bind-Variable (lookup numbers) (moved there v)
    ∙ number_kept there back 1 (distinct names) (each_distinct (Renames there back) names all) v h.0 (in_distinct v names h.1))
    names (each_both (Renames there back) (λ v. list_any (bytes_eq v) names ≡ true) names all (members names)) in
    ap (λ pairs. bind_clause (lookup pairs) (bind_clause there c)) numbers_there
    ∙ clause-via there (lookup numbers) c ∙ clause-agree (via there (lookup numbers)) (renaming c) c same_numbers

pub tidies_alike : TidiesAlike
unfolding tidy
tidies_alike first second there back to_second to_first =
    let returns = returns-each there back first (ap (bind_clause back) to_second ∙ to_first) in
    sym (renamed_alike there back (without_repeats first) (each-without (Returns there back) first returns))
    ∙ ap renamed (sym (without-there there back first returns) ∙ ap without_repeats to_second)

-- ---- a tidy clause stays

shift_same : (xs ys : List ℕ) → map (λ digit. 48 + digit) xs ≡ map (λ digit. 48 + digit) ys → xs ≡ ys
shift_same [] [] e = refl
shift_same [] (y ∷ ys) e = absurd (cc)
shift_same (x ∷ xs) [] e = absurd (cc)
shift_same (x ∷ xs) (y ∷ ys) e =
    let head : 48 + x ≡ 48 + y = cc in
    let rest : map (λ digit. 48 + digit) xs ≡ map (λ digit. 48 + digit) ys = cc in
    let here : x ≡ y = omega (arith, head) in
    ap₂ ◌∷◌ here (shift_same xs ys rest)

pub new_name-same : (m n : ℕ) → new_name m ≡ new_name n → m ≡ n
new_name-same m n e =
    let digits : map (λ digit. 48 + digit) (digits_of 10 m) ≡ map (λ digit. 48 + digit) (digits_of 10 n) = cc in
    same_from_digits_of 10 m n (omega arith) (shift_same (digits_of 10 m) (digits_of 10 n) digits)

abbrev old_names : ℕ → List Bytes → Filling
old_names n [] v = form.Variable v
old_names n (name ∷ names) v = if bytes_eq (new_name n) v then form.Variable name else old_names (n + 1) names v

record Numbered (n : ℕ) (names : List Bytes) (v : Bytes) : Type 0 where
  pub number : ℕ
  pub above : n ≤ number
  pub is : lookup (numbered n names) v ≡ form.Variable (new_name number)
  pub back : old_names n names (new_name number) ≡ form.Variable v

named : (n : ℕ) (names : List Bytes) (v : Bytes) → list_any (bytes_eq v) names ≡ true → Numbered n names v
named n [] v h = absurd (false_true h)
named n (name ∷ names) v h = go (bytes_eq name v) refl (flip name v) h (named (n + 1) names v)
  where
    ahead : (number : ℕ) → n + 1 ≤ number → bytes_eq (new_name n) (new_name number) ≡ false
    ahead number above = apart (bytes_eq (new_name n) (new_name number)) refl
      where
        apart : (b : Bool) → bytes_eq (new_name n) (new_name number) ≡ b → b ≡ false
        apart false e = refl
        apart true e = let equal_numbers : n ≡ number = new_name-same n number ((bytes_eq-Decides (new_name n) (new_name number)).0 e) in absurd (omega (arith, equal_numbers))

    go : (b : Bool) → bytes_eq name v ≡ b → bytes_eq name v ≡ bytes_eq v name → (bytes_eq v name || list_any (bytes_eq v) names) ≡ true
        → (list_any (bytes_eq v) names ≡ true → Numbered (n + 1) names v) → Numbered n (name ∷ names) v
    go true e turned there rest = record {
      number = n;
      above = omega arith;
      is = ap (λ (b : Bool). if b then form.Variable (new_name n) else lookup (numbered (n + 1) names) v) e;
      back = ap (λ (b : Bool). if b then form.Variable name else old_names (n + 1) names (new_name n)) ((bytes_eq-Decides (new_name n) (new_name n)).1 refl) ∙ ap form.Variable ((bytes_eq-Decides name v).0 e);
    }
    go false e turned there rest =
        let further = rest (ap (λ (b : Bool). b || list_any (bytes_eq v) names) (sym e ∙ turned) ∙ there) in
        record {
          number = further.number;
          above = omega (arith, further.above);
          is = ap (λ (b : Bool). if b then form.Variable (new_name n) else lookup (numbered (n + 1) names) v) e ∙ further.is;
          back = ap (λ (b : Bool). if b then form.Variable name else old_names (n + 1) names (new_name further.number)) (ahead further.number further.above) ∙ further.back;
        }

pub bind-identity : (f : Form) → bind form.Variable f ≡ f
bind-identity = induction (λ f. bind form.Variable f ≡ f) (record {
  word = λ text. bind-Word form.Variable text;
  variable = λ text. bind-Variable form.Variable text;
  row = λ text. bind-Row form.Variable text;
  numeral = λ text. bind-Numeral form.Variable text;
  quoted = λ text. bind-Quoted form.Variable text;
  list = λ parts each. bind-List form.Variable parts ∙ ap form.List (map_each (bind form.Variable) (λ f. f) parts each ∙ same_list parts);
})
  where
    same_list : (parts : List Form) → map (λ f. f) parts ≡ parts
    same_list [] = refl
    same_list (f ∷ parts) = ap (λ fs. f ∷ fs) (same_list parts)

clause-identity : (c : Literals) → bind_clause form.Variable c ≡ c
clause-identity [] = refl
clause-identity (l ∷ ls) = ap₂ (λ (a : Form) (rest : Literals). let made : Literal = record { positive = l.positive; atom = a } in made ∷ rest) (bind-identity l.atom) (clause-identity ls)

renamed_back : (c : Literals) → bind_clause (old_names 1 (distinct (clause_variables c))) (renamed c) ≡ c
renamed_back c =
    let names = clause_variables c in
    let back = old_names 1 (distinct names) in
    clause-via (renaming c) back c
    ∙ clause-agree (via (renaming c) back) form.Variable c
    (each_map (λ v. list_any (bytes_eq v) names ≡ true) (Agree (via (renaming c) back) form.Variable)
    (λ v h. let at = named 1 (distinct names) v (in_distinct v names h) in ap (bind back) at.is ∙ bind-Variable back (new_name at.number) ∙ at.back) names (members names))
    ∙ clause-identity c

pub tidy_again : TidyIsIdempotent
unfolding tidy
tidy_again clause =
    let c = without_repeats clause in
    let turned = tidies_alike c (renamed c) (renaming c) (old_names 1 (distinct (clause_variables c))) refl (renamed_back c) in
    sym turned ∙ ap renamed (without-twice clause)
