-- Conditions of lists of diagnostics, as the tests look at them.
use Rattle.std.proofs.Common.{◌≡◌, ◌-◌, ◌≤◌, Bool, true, false, List, [], ◌∷◌, length, get_or, take, drop, sym, ap, subst, ◌∙◌, inr}
use Rattle.std.specs.Bool.{OnTrue}
use Rattle.std.specs.Prelude.{Option, Some, Contains}
use Rattle.sigma_base.proofs.SliceLaws.{first_item}
use Rattle.kif_tree.specs.declared.place.Located.{Located}
use Rattle.kif_tree.specs.declared.place.Place.{Place}
use Rattle.taxonomy.proofs.ChainLaws.{contains_head, contains_tail}
use Rattle.diagnose.specs.declared.diagnostic.Diagnostic.{Diagnostic}
use Rattle.diagnose.specs.Diagnostics.{StandsBefore, OtherBefore, ComesBefore}
use Rattle.diagnose.specs.Order.{IsFormPlace}
use Rattle.diagnose.specs.SoFar.{HasPlace}
use Rattle.diagnose.proofs.WholeLaws.{parts_at}

on_true : (b : Bool) (P Q : Type 0) → (P → Q) → OnTrue b P → OnTrue b Q
on_true true P Q f h = f h
on_true false P Q f h = h

module _ (forms : List Located) (first : Located) (some : 1 ≤ length forms) (is : first ≡ get_or forms 0 first) where
  abbrev rest : List Located
  rest = take (length forms - 1) (drop 1 forms)

  split : forms ≡ first ∷ rest
  split = first_item forms first some is

  pub place_first : (place : Place) → first.place ≡ place → HasPlace forms place
  place_first place at = record { located = first; among = subst (λ (ls : List Located). Contains ls first) (sym split) (contains_head first rest); at = at }

  pub place_later : (place : Place) (b : Bool) → OnTrue b (HasPlace rest place) → OnTrue b (HasPlace forms place)
  place_later place b = on_true b (HasPlace rest place) (HasPlace forms place) (λ h. record {
    located = h.located;
    among = subst (λ (ls : List Located). Contains ls h.located) (sym split) (contains_tail first rest h.located h.among);
    at = h.at;
  })

  pub stands_first : (one other : Place) (b : Bool) → first.place ≡ one → OnTrue b (HasPlace rest other) → OnTrue b (StandsBefore forms one other)
  stands_first one other b at = on_true b (HasPlace rest other) (StandsBefore forms one other) go
    where
      go : HasPlace rest other → StandsBefore forms one other
      go h =
          let p = parts_at rest h.located h.among in
          subst (StandsBefore forms one) h.at (subst (λ (q : Place). StandsBefore forms q h.located.place) at (record {
            before = [];
            one = first.form;
            between = p.first;
            other = h.located.form;
            after = p.rest;
            stand = split ∙ ap (λ (ls : List Located). first ∷ ls) p.are;
          }))

  pub stands_later : (one other : Place) (b : Bool) → OnTrue b (StandsBefore rest one other) → OnTrue b (StandsBefore forms one other)
  stands_later one other b = on_true b (StandsBefore rest one other) (StandsBefore forms one other) (λ s. record {
    before = first ∷ s.before;
    one = s.one;
    between = s.between;
    other = s.other;
    after = s.after;
    stand = split ∙ ap (λ (ls : List Located). first ∷ ls) s.stand;
  })

pub some_place : (forms : List Located) (other : Option Place) (place : Place) (b : Bool) → other ≡ Some place → OnTrue b (HasPlace forms place) → OnTrue b (IsFormPlace forms other)
some_place forms other place b is = on_true b (HasPlace forms place) (IsFormPlace forms other) (λ h. subst (IsFormPlace forms) (sym is) (h.located, h.among, h.at))

pub by_other : (forms : List Located) (one second : Diagnostic) (b : Bool) → one.place ≡ second.place → one.code ≡ second.code → one.term ≡ second.term → OnTrue b (OtherBefore forms one.other second.other) → OnTrue b (ComesBefore forms one second)
by_other forms one second b places codes terms = on_true b (OtherBefore forms one.other second.other) (ComesBefore forms one second) (λ h. inr (places, inr (codes, inr (terms, h))))
