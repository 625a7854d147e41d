-- What the loop over tokens keeps.
use Rattle.std.proofs.Common.{◌≡◌, ℕ, ◌+◌, ◌≤◌, false, Some, List, [], ◌∷◌, ◌++◌, inl, inr, length, map, sym, ap, ◌∙◌, refl, subst, arith, append_assoc, append-nil, length-append}
use Rattle.std.specs.List.{flat_map}
use Rattle.std.proofs.lemmas.List.Concat.{flat_map-append}
use Rattle.std.proofs.lemmas.List.{map-append}
use Rattle.kif_tree.specs.declared.form.Form.{Form}
use Rattle.kif_tree.specs.declared.place.Located.{Located}
use Rattle.kif_reader.specs.Reading.{Progress}
use Rattle.kif_reader.specs.Spelling.{Lexed, bare, level, Reads, spelling, SpellsForm, SpellsForms, BeginsAt}
use Rattle.kif_reader.specs.Steps.{SpellsOpen, SpellsOpens, Adds}
use Rattle.kif_reader.specs.declared.kinds.Open.{Open}
use Rattle.kif_reader.specs.declared.kinds.TokenKind.TheVariants.{Left}

pub record Held (constituent : ℕ) (text : List ℕ) (p : Progress) (forms : List Located) (lists : List Open) : Type 0 where
  pub going : p.over ≡ false
  pub closed : List Lexed
  pub opened : List Lexed
  pub reads : Reads text (closed ++ opened) p.before p.rest
  pub nests : level 0 (closed ++ opened) ≡ Some (length lists)
  pub whole : SpellsForms constituent 1 forms closed
  pub open_lists : SpellsOpens lists opened
  pub few : length lists ≤ 200
  pub count : length forms + length p.rest ≤ length text

forms_push : (constituent number : ℕ) (forms : List Located) (located : Located) (tokens mine : List Lexed) → SpellsForms constituent number forms tokens → SpellsForm constituent (number + length forms) located mine → SpellsForms constituent number (forms ++ located ∷ []) (tokens ++ mine)
forms_push constituent number [] located tokens mine all one = (mine, [], ap (λ t. t ++ mine) all ∙ sym (append-nil mine), subst (λ k. SpellsForm constituent k located mine) (omega arith) one, refl)
forms_push constituent number (f ∷ fs) located tokens mine all one =
    (all.0, all.1 ++ mine, ap (λ t. t ++ mine) all.2 ∙ append_assoc all.0 all.1 mine, all.3, forms_push constituent (number + 1) fs located all.1 mine all.4 (subst (λ k. SpellsForm constituent k located mine) (omega arith) one))

pub opens_push : (lists : List Open) (last : Open) (tokens mine : List Lexed) → SpellsOpens lists tokens → SpellsOpen last mine → SpellsOpens (lists ++ last ∷ []) (tokens ++ mine)
opens_push [] last tokens mine all one = (mine, [], ap (λ t. t ++ mine) all ∙ sym (append-nil mine), one, refl)
opens_push (f ∷ fs) last tokens mine all one = (all.0, all.1 ++ mine, ap (λ t. t ++ mine) all.2 ∙ append_assoc all.0 all.1 mine, all.3, opens_push fs last all.1 mine all.4 one)

pub record Last (front : List Open) (last : Open) (tokens : List Lexed) : Type 0 where
  pub before : List Lexed
  pub mine : List Lexed
  pub split : tokens ≡ before ++ mine
  pub all : SpellsOpens front before
  pub one : SpellsOpen last mine

pub opens_last : (front : List Open) (last : Open) (tokens : List Lexed) → SpellsOpens (front ++ last ∷ []) tokens → Last front last tokens
opens_last [] last tokens all = record { before = []; mine = all.0; split = all.2 ∙ ap (λ t. all.0 ++ t) all.4 ∙ append-nil all.0; all = refl; one = all.3 }
opens_last (f ∷ fs) last tokens all =
    let rest = opens_last fs last all.1 all.4 in
    record { before = all.0 ++ rest.before; mine = rest.mine; split = all.2 ∙ ap (λ t. all.0 ++ t) rest.split ∙ sym (append_assoc all.0 rest.before rest.mine); all = (all.0, rest.before, refl, all.3, rest.all); one = rest.one }

pub begins_more : (line column : ℕ) (tokens more : List Lexed) → BeginsAt line column tokens → BeginsAt line column (tokens ++ more)
begins_more line column [] more is = absurd is
begins_more line column (t ∷ ts) more is = is

-- a form behind the others
pub record Rebuilt (constituent : ℕ) (forms : List Located) (lists : List Open) (count depth : ℕ) (tokens : List Lexed) : Type 0 where
  pub closed : List Lexed
  pub opened : List Lexed
  pub same : closed ++ opened ≡ tokens
  pub whole : SpellsForms constituent 1 forms closed
  pub open_lists : SpellsOpens lists opened
  pub deep : length lists ≡ depth
  pub few : length forms ≤ count + 1

pub record Part (part : Form) (line column : ℕ) (mine : List Lexed) : Type 0 where
  pub spelled : map bare mine ≡ spelling part
  pub place : BeginsAt line column mine

part_open : (part : Form) (line column : ℕ) (last : Open) (mine more : List Lexed) → SpellsOpen last mine → Part part line column more → SpellsOpen (record last { parts = last.parts ++ part ∷ [] }) (mine ++ more)
part_open part line column last mine more one is = record {
  spelled = map-append bare mine more ∙ (λ i. one.spelled i ++ is.spelled i) ∙ ap (λ l. (Left, 40 ∷ []) ∷ l) (ap (λ l. flat_map spelling last.parts ++ l) (sym (append-nil (spelling part))) ∙ sym (flat_map-append spelling last.parts (part ∷ [])));
  place = begins_more last.line last.column mine more one.place;
}

pub rebuild : (constituent : ℕ) (part : Form) (line column : ℕ) (forms new_forms : List Located) (lists new_lists : List Open) (closed opened mine : List Lexed) → SpellsForms constituent 1 forms closed → SpellsOpens lists opened → Part part line column mine → Adds constituent part line column forms new_forms lists new_lists → Rebuilt constituent new_forms new_lists (length forms) (length lists) ((closed ++ opened) ++ mine)
rebuild constituent part line column forms new_forms lists new_lists closed opened mine whole open_lists is (inl adds) =
    let empty : opened ≡ [] = subst (λ l. SpellsOpens l opened) adds.none open_lists in
    record {
      closed = closed ++ mine;
      opened = [];
      same = append-nil (closed ++ mine) ∙ ap (λ t. t ++ mine) (sym (append-nil closed) ∙ ap (λ t. closed ++ t) (sym empty));
      whole = subst (λ f. SpellsForms constituent 1 f (closed ++ mine)) (sym adds.new_is) (forms_push constituent 1 forms _ closed mine whole (record { spelled = is.spelled; place = is.place; number_is = omega arith; constituent_is = refl }));
      open_lists = subst (λ l. SpellsOpens l []) (sym adds.same) refl;
      deep = ap length (adds.same ∙ sym adds.none);
      few = omega (arith, ap length adds.new_is, length-append forms (record { form = part; place = record { constituent = constituent; form = length forms + 1; line = line; column = column } } ∷ []));
    }
rebuild constituent part line column forms new_forms lists new_lists closed opened mine whole open_lists is (inr adds) =
    let last = opens_last adds.front adds.last opened (subst (λ l. SpellsOpens l opened) adds.old_is open_lists) in
    record {
      closed = closed;
      opened = last.before ++ (last.mine ++ mine);
      same = ap (λ t. closed ++ t) (sym (append_assoc last.before last.mine mine) ∙ ap (λ t. t ++ mine) (sym last.split)) ∙ sym (append_assoc closed opened mine);
      whole = subst (λ f. SpellsForms constituent 1 f closed) (sym adds.same) whole;
      open_lists = subst (λ l. SpellsOpens l (last.before ++ (last.mine ++ mine))) (sym adds.new_is) (opens_push adds.front _ last.before (last.mine ++ mine) last.all (part_open part line column adds.last last.mine mine last.one is));
      deep = omega (arith, ap length adds.new_is, ap length adds.old_is, length-append adds.front (adds.last ∷ []), length-append adds.front (record adds.last { parts = adds.last.parts ++ part ∷ [] } ∷ []));
      few = omega (arith, ap length adds.same);
    }
