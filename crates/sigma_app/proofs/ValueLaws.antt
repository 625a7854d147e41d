-- Where the parser of command lines takes the words, each argument that was found has a value, and its values pass. This is for
-- commands of which each argument takes one value or more.
use Rattle.std.proofs.Common.{◌≡◌, ◌<◌, ◌≤◌, ℕ, ◌&&◌, ◌||◌, Bool, cond, true, false, not, zero, suc, refl, sym, ap, ap₂, ◌∙◌, arith, List, [], ◌∷◌, ◌++◌, length, length-append, drop, Option, Some, None, is_some, nat_le}
use Rattle.std.specs.Prelude.{encode_utf8, slice_get, option_and_then}
use Rattle.std.specs.List.{find, fold, list_all}
use Rattle.std.specs.Option.{option_map, option_map_or}
use Rattle.std.specs.Str.{bytes_eq, chars}
use Rattle.std.proofs.lemmas.Bool.{leb-true}
use Rattle.std.proofs.lemmas.Slice.Eq.{bytes_eq-Decides}
use Rattle.clap.specs.Lexer.{long_of, short_of}
use Rattle.clap.specs.Facts.{explicit_source, unwrap_or_range}
use Rattle.clap.specs.Walk.{Held, Names, Outcome, done, waits, plain, refused, Waiting, idle, option, positional, Row, Rule, Step, next, trailing, subcommand, value, Text, Walk, action_of, after_flag, after_step, all_of, arg_by_id, arg_by_index, arg_by_long, arg_by_short, at_row, attached_value, bundle_met, bundle_step, default_rows, finished, first_of, flag_met, has_row, is_pending, long_met, long_or_other, more_values, most_values, is_empty, nothing_held, option_met, option_word, plain_word, reacted, reading_by, rows_after, settled, settled_rows, short_met, short_or_plain, subcommand_met, subcommand_or_other, takes_several, takes_values, to_positional, used, used_as, used_by_id, walk, walk_from, walked, walked_from, with_default, with_values, without, word_met}
use Rattle.clap.specs.Simple.{Shape}
use Rattle.clap.specs.Values.{is_request}
use Rattle.clap.specs.Takes.{action_passes, default_passes, value_passes, values_pass, bundle_passes, bundle_step_passes, flag_word_passes, flags_pass, is_given, is_valid, level_passes, long_passes, option_passes, other_passes, positional_passes, react_passes, settle_passes, short_passes, step_passes, turn_passes, use_passes, walk_passes, word_passes}
use Rattle.clap.specs.declared.builder.action.ArgAction.{ArgAction}
use Rattle.clap.specs.declared.builder.action.ArgAction.TheVariants as action
use Rattle.clap.specs.declared.builder.value_parser.Reading.{Reading}
use Rattle.clap.specs.declared.parser.matches.ValueSource.{ValueSource}
use Rattle.clap.specs.declared.parser.matches.ValueSource.TheVariants.{DefaultValue, CommandLine}
use Rattle.clap.proofs.WalkLemmas.{both}
use Rattle.clap.proofs.SimpleLemmas.{is_nil}

false_true : false ≡ true → ⊥
false_true e = cc

none_some : (v : Text) → None ≡ Some v → ⊥
none_some v e = cc

some_same : (x v : Text) → Some x ≡ Some v → x ≡ v
some_same x v e = cc

-- ---- rows whose values pass

-- `ok` says which values pass for the argument of an id
module _ (ok : Text → Text → Bool) where
  -- a row has a value, and its values pass
  abbrev pub IsGood : Row → Type 0
  IsGood r = (0 < length r.values) × (list_all (ok r.id) r.values ≡ true)

  abbrev pub Full : List Row → Type 0
  Full [] = Unit {0}
  Full (r ∷ rows) = IsGood r × Full rows

  full_append : (xs ys : List Row) → Full xs → Full ys → Full (xs ++ ys)
  full_append [] ys a b = b
  full_append (x ∷ xs) ys a b = (a.0, full_append xs ys a.1 b)

  at_row_full : (id : Text) (change : Row → List Row) (missing rows : List Row) → ((r : Row) → bytes_eq r.id id ≡ true → IsGood r → Full (change r)) → Full missing → Full rows
      → Full (at_row id change missing rows)
  at_row_full id change missing [] changed new full = new
  at_row_full id change missing (r ∷ rows) changed new full = go (bytes_eq r.id id) refl (at_row_full id change missing rows changed new full.1)
    where
      go : (b : Bool) → bytes_eq r.id id ≡ b → Full (at_row id change missing rows) → Full (cond b (change r ++ rows) (r ∷ at_row id change missing rows))
      go true e later = full_append (change r) rows (changed r e full.0) full.1
      go false e later = (full.0, later)

  all_append : (p : Text → Bool) (xs ys : List Text) → list_all p xs ≡ true → list_all p ys ≡ true → list_all p (xs ++ ys) ≡ true
  all_append p [] ys e g = g
  all_append p (x ∷ xs) ys e g =
      let parts = both (p x) (list_all p xs) e in
      ap₂ (λ (a b : Bool). a && b) parts.0 (all_append p xs ys parts.1 g)

  with_values_full : (id : Text) (how : Reading) (s : ValueSource) (values : List Text) (rows : List Row) → 0 < length values → list_all (ok id) values ≡ true → Full rows
      → Full (with_values id how s values rows)
  with_values_full id how s values rows some pass full =
      at_row_full id (more_values s values) (record {
        id = id;
        values = values;
        count = None;
        source = Some s;
        reading = how;
      } ∷ []) rows
      (λ r same here. (
        (
          omega (arith, length-append r.values values),
          all_append (ok r.id) r.values values here.1 (ap (λ (t : Text). list_all (ok t) values) ((bytes_eq-Decides r.id id).0 same) ∙ pass),
        ),
        tt,
      ))
      ((some, pass), tt) full

  without_full : (id : Text) (rows : List Row) → Full rows → Full (without id rows)
  without_full id rows full = at_row_full id (λ _. []) [] rows (λ r same here. tt) tt full

  -- ---- arguments that take a value or more, which pass where the argument takes them

  abbrev pub Fits : Rule → Type 0
  Fits a = (0 < (unwrap_or_range a.range).start_inclusive) × ((v : Text) → value_passes a v ≡ true → ok a.id v ≡ true)

  abbrev pub EachFits : List Rule → Type 0
  EachFits [] = Unit {0}
  EachFits (a ∷ rules) = Fits a × EachFits rules

  abbrev pub IfFits : Option Rule → Type 0
  IfFits None = Unit {0}
  IfFits (Some a) = Fits a

  found_fits : (p : Rule → Bool) (c : List Rule) → EachFits c → IfFits (find p c)
  found_fits p [] each = tt
  found_fits p (a ∷ c) each = elim (p a) as (λ b. IfFits (cond b (Some a) (find p c))) [ true ↦ each.0 | false ↦ found_fits p c each.1 ]

  all_fit : (a : Rule) (values : List Text) → Fits a → values_pass a values ≡ true → list_all (ok a.id) values ≡ true
  all_fit a [] fits e = refl
  all_fit a (v ∷ vs) fits e =
      let parts = both (value_passes a v) (values_pass a vs) e in
      ap₂ (λ (x y : Bool). x && y) (fits.1 v parts.0) (all_fit a vs fits parts.1)

  action_values : (x : ArgAction) (again : Bool) (a : Rule) (v : Text) (vs : List Text) (rows : List Row) → action_passes x again a (v ∷ vs) rows ≡ true → values_pass a (v ∷ vs) ≡ true
  action_values action.Set again a v vs rows e = (both (not (has_row a.id rows) || again) (values_pass a (v ∷ vs)) e).1
  action_values action.SetTrue again a v vs rows e = (both (not (has_row a.id rows) || again) (values_pass a (v ∷ vs)) e).1
  action_values action.SetFalse again a v vs rows e = (both (not (has_row a.id rows) || again) (values_pass a (v ∷ vs)) e).1
  action_values action.Append again a v vs rows e = e
  action_values action.Count again a v vs rows e = e
  action_values action.Help again a v vs rows e = absurd (false_true e)
  action_values action.HelpShort again a v vs rows e = absurd (false_true e)
  action_values action.HelpLong again a v vs rows e = absurd (false_true e)
  action_values action.Version again a v vs rows e = absurd (false_true e)

  used_as_full : (x : ArgAction) (id : Text) (how : Reading) (v : Text) (vs : List Text) (rows : List Row) → list_all (ok id) (v ∷ vs) ≡ true → Full rows
      → Full (used_as x id how (v ∷ vs) rows)
  used_as_full action.Set id how v vs rows pass full = with_values_full id how CommandLine (v ∷ vs) (without id rows) (omega arith) pass (without_full id rows full)
  used_as_full action.SetTrue id how v vs rows pass full = with_values_full id how CommandLine (v ∷ vs) (without id rows) (omega arith) pass (without_full id rows full)
  used_as_full action.SetFalse id how v vs rows pass full = with_values_full id how CommandLine (v ∷ vs) (without id rows) (omega arith) pass (without_full id rows full)
  used_as_full action.Append id how v vs rows pass full = with_values_full id how CommandLine (v ∷ vs) rows (omega arith) pass full
  used_as_full action.Count id how v vs rows pass full = with_values_full id how CommandLine (v ∷ vs) (without id rows) (omega arith) pass (without_full id rows full)
  used_as_full action.Help id how v vs rows pass full = full
  used_as_full action.HelpShort id how v vs rows pass full = full
  used_as_full action.HelpLong id how v vs rows pass full = full
  used_as_full action.Version id how v vs rows pass full = full

  used_full : (again : Bool) (a : Rule) (values : List Text) (rows : List Row) → Fits a → use_passes again a values rows ≡ true → Full rows → Full (used a values rows)
  used_full again a [] rows fits e full =
      let few : (unwrap_or_range a.range).start_inclusive ≤ 0 = leb-true _ _ (both (nat_le (unwrap_or_range a.range).start_inclusive 0) _ e).0 in
      absurd (omega (arith, fits.0))
  used_full again a (v ∷ vs) rows fits e full =
      let outer = both (nat_le (unwrap_or_range a.range).start_inclusive (length (v ∷ vs))) _ e in
      let inner = both (nat_le (length (v ∷ vs)) (most_values a)) (action_passes (action_of a) again a (v ∷ vs) rows) outer.1 in
      used_as_full (action_of a) a.id (reading_by a) v vs rows (all_fit a (v ∷ vs) fits (action_values (action_of a) again a v vs rows inner.1)) full

  used_by_id_full : (again : Bool) (o : Option Rule) (values : List Text) (rows : List Row) → IfFits o → option_map_or (λ a. use_passes again a values rows) o true ≡ true → Full rows
      → Full (used_by_id o values rows)
  used_by_id_full again None values rows fits e full = full
  used_by_id_full again (Some a) values rows fits e full = used_full again a values rows fits e full

  default_rows_full : (a : Rule) (values : List Text) (rows : List Row) → list_all (ok a.id) values ≡ true → Full rows → Full (default_rows a.id (reading_by a) values rows)
  default_rows_full a [] rows pass full = full
  default_rows_full a (v ∷ vs) rows pass full = with_values_full a.id (reading_by a) DefaultValue (v ∷ vs) rows (omega arith) pass full

  not_empty : (v : Text) (vs : List Text) (b : Bool) → (is_empty (v ∷ vs) || b) ≡ true → b ≡ true
  not_empty v vs b e = go (is_empty (v ∷ vs)) refl e
    where
      go : (x : Bool) → is_empty (v ∷ vs) ≡ x → (x || b) ≡ true → b ≡ true
      go true none t = let no_way : v ∷ vs ≡ [] = is_nil (v ∷ vs) none in absurd (cc)
      go false none t = t

  defaults_fit : (a : Rule) → Fits a → default_passes a ≡ true → list_all (ok a.id) a.defaults ≡ true
  defaults_fit a fits e = go a.defaults e
    where
      go : (values : List Text) → (is_empty values || (not (is_request (action_of a)) && values_pass a values)) ≡ true → list_all (ok a.id) values ≡ true
      go [] t = refl
      go (v ∷ vs) t = all_fit a (v ∷ vs) fits (both (not (is_request (action_of a))) (values_pass a (v ∷ vs)) (not_empty v vs _ t)).1

  with_default_full : (rows : List Row) (a : Rule) → Fits a → default_passes a ≡ true → Full rows → Full (with_default rows a)
  with_default_full rows a fits e full =
      elim (has_row a.id rows) as (λ b. Full (cond b rows (default_rows a.id (reading_by a) a.defaults rows)))
      [ true ↦ full | false ↦ default_rows_full a a.defaults rows (defaults_fit a fits e) full ]

  with_defaults_full : (c : List Rule) (rows : List Row) → EachFits c → list_all default_passes c ≡ true → Full rows → Full (fold with_default rows c)
  with_defaults_full [] rows each e full = full
  with_defaults_full (a ∷ c) rows each e full =
      let parts = both (default_passes a) (list_all default_passes c) e in
      with_defaults_full c (with_default rows a) each.1 parts.1 (with_default_full rows a each.0 parts.0 full)

module _ (ok : Text → Text → Bool) (c : List Rule) (each : EachFits ok c) (again : Bool) where
  settled_rows_full : (p : Option (Text × List Text)) (rows : List Row)
      → option_map_or (λ q. option_map_or (λ a. use_passes again a q.1 rows) (arg_by_id c q.0) true) p true ≡ true → Full ok rows → Full ok (settled_rows c p rows)
  settled_rows_full None rows e full = full
  settled_rows_full (Some p) rows e full = used_by_id_full ok again (arg_by_id c p.0) p.1 rows (found_fits ok _ c each) e full

  settled_full : (h : Held) → settle_passes c again h ≡ true → Full ok h.rows → Full ok (settled c h).rows
  settled_full h e full = settled_rows_full h.pending h.rows e full

  reacted_full : (a : Rule) (values : List Text) (h : Held) → Fits ok a → react_passes c again a values h ≡ true → Full ok h.rows → Full ok (reacted c a values h).rows
  reacted_full a values h some e full =
      let parts = both (settle_passes c again h) _ e in
      used_full ok again a values (settled c h).rows some parts.1 (settled_full h parts.0 full)

  -- ---- words that are flags

  option_met_full : (a : Rule) (v : Option Text) (h : Held) → Fits ok a → option_passes c again a v h ≡ true → Full ok h.rows → Full ok (option_met c a v h).0.rows
  option_met_full a (Some v) h some e full = reacted_full a (v ∷ []) h some e full
  option_met_full a None h some e full = settled_full h e full

  flag_met_full : (a : Rule) (v : Option Text) (h : Held) → Fits ok a → (not (is_some v) && react_passes c again a [] h) ≡ true → Full ok h.rows → Full ok (flag_met c a v h).0.rows
  flag_met_full a (Some v) h some e full = full
  flag_met_full a None h some e full = reacted_full a [] h some e full

  long_met_full : (o : Option Rule) (v : Option Text) (h : Held) → IfFits ok o → long_passes c again o v h ≡ true → Full ok h.rows → Full ok (long_met c o v h).0.rows
  long_met_full None v h some e full = full
  long_met_full (Some a) v h some e full = go (takes_values a) e
    where
      go : (b : Bool) → cond b (option_passes c again a v h) (not (is_some v) && react_passes c again a [] h) ≡ true → Full ok (cond b (option_met c a v h) (flag_met c a v h)).0.rows
      go true t = option_met_full a v h some t full
      go false t = flag_met_full a v h some t full

  short_met_full : (o : Option Rule) (rest : Text) (h : Held) (then : Held → Held × Outcome) (passes : Held → Bool)
      → ((k : Held) → passes k ≡ true → Full ok k.rows → Full ok (then k).0.rows)
      → IfFits ok o → short_passes c again o rest h passes ≡ true → Full ok h.rows → Full ok (short_met c o rest h then).0.rows
  short_met_full None rest h then passes step some e full = full
  short_met_full (Some a) rest h then passes step some e full = go (takes_values a) e
    where
      go : (b : Bool) → cond b (option_passes c again a (attached_value rest) h) (react_passes c again a [] h && passes (reacted c a [] h)) ≡ true
          → Full ok (cond b (option_met c a (attached_value rest) h) (then (reacted c a [] h))).0.rows
      go true t = option_met_full a (attached_value rest) h some t full
      go false t =
          let parts = both (react_passes c again a [] h) _ t in
          step (reacted c a [] h) parts.1 (reacted_full a [] h some parts.0 full)

  bundle_step_full : (o : Option ℕ) (flags : Text) (skip : ℕ) (so_far : Outcome) (h : Held) (then : Text → ℕ → Outcome → Held → Held × Outcome) (passes : Text → ℕ → Held → Bool)
      → ((t : Text) (n : ℕ) (out : Outcome) (k : Held) → passes t n k ≡ true → Full ok k.rows → Full ok (then t n out k).0.rows)
      → bundle_step_passes c again o flags skip h passes ≡ true → Full ok h.rows → Full ok (bundle_step c o flags skip so_far h then).0.rows
  bundle_step_full None flags skip so_far h then passes step e full = full
  bundle_step_full (Some x) flags zero so_far h then passes step e full =
      let rest = drop (length (encode_utf8 x)) flags in
      short_met_full (arg_by_short c x) rest h (then rest 0 done) (passes rest 0) (step rest 0 done) (found_fits ok _ c each) e full
  bundle_step_full (Some x) flags (suc skip) so_far h then passes step e full = step (drop (length (encode_utf8 x)) flags) skip so_far h e full

  bundle_met_full : (k : ℕ) (flags : Text) (skip : ℕ) (so_far : Outcome) (h : Held) → flags_pass c again k flags skip h ≡ true → Full ok h.rows → Full ok (bundle_met c k flags skip so_far h).0.rows
  unfolding bundle_met flags_pass
  bundle_met_full zero flags skip so_far h e full = full
  bundle_met_full (suc k) flags skip so_far h e full =
      bundle_step_full (slice_get (chars flags) 0) flags skip so_far h (bundle_met c k) (flags_pass c again k) (bundle_met_full k) e full

  -- ---- the walk

  option_word_full : (o : Option Rule) (id word : Text) (h : Held) → Full ok h.rows → Full ok (option_word o id word h).0.rows
  option_word_full None id word h full = full
  option_word_full (Some a) id word h full = full

  plain_word_full : (waiting : Waiting) (word : Text) (h : Held) → Full ok h.rows → Full ok (plain_word c waiting word h).0.rows
  plain_word_full idle word h full = full
  plain_word_full (option id) word h full = option_word_full (arg_by_id c id) id word h full
  plain_word_full positional word h full = full

  after_flag_full : (waiting : Waiting) (word : Text) (h : Held) (out : Outcome) → Full ok h.rows → Full ok (after_flag c waiting word h out).0.rows
  after_flag_full waiting word h done full = full
  after_flag_full waiting word h (waits id) full = full
  after_flag_full waiting word h plain full = plain_word_full waiting word h full
  after_flag_full waiting word h refused full = plain_word_full waiting word h full

  short_or_plain_full : (waiting : Waiting) (word : Text) (o : Option Text) (h : Held) → option_map_or (λ flags. bundle_passes c again flags h) o true ≡ true → Full ok h.rows
      → Full ok (short_or_plain c waiting word o h).0.rows
  short_or_plain_full waiting word None h e full = plain_word_full waiting word h full
  short_or_plain_full waiting word (Some flags) h e full =
      after_flag_full waiting word _ _ (bundle_met_full (length flags) flags h.skip plain (record h { skip = 0 }) e full)

  long_or_other_full : (waiting : Waiting) (word : Text) (o : Option (Text × Option Text)) (h : Held) → flag_word_passes c again o word h ≡ true → Full ok h.rows
      → Full ok (long_or_other c waiting word o h).0.rows
  long_or_other_full waiting word None h e full = short_or_plain_full waiting word (short_of word) h e full
  long_or_other_full waiting word (Some p) h e full = after_flag_full waiting word _ _ (long_met_full (arg_by_long c p.0) p.1 h (found_fits ok _ c each) e full)

  to_positional_full : (o : Option Rule) (word : Text) (w : Walk) (h : Held) → option_map_or (λ a. positional_passes c again a h) o false ≡ true → Full ok h.rows
      → Full ok (to_positional c o word w h).held.rows
  to_positional_full None word w h e full = full
  to_positional_full (Some a) word w h e full = go (is_pending a h.pending && takes_several a) e
    where
      go : (b : Bool) → (b || settle_passes c again h) ≡ true → Full ok (cond b h (settled c h)).rows
      go true t = full
      go false t = settled_full h t full

module _ (ok : Text → Text → Bool) (s : Shape) (each : EachFits ok s.rules) (names : Names) where
  subcommand_or_other_full : (o : Option Text) (waiting : Waiting) (position : ℕ) (word : Text) (h : Held) → other_passes s o word h ≡ true → Full ok h.rows
      → Full ok (subcommand_or_other s.rules o waiting position word h).0.rows
  subcommand_or_other_full (Some name) waiting position word h e full = full
  subcommand_or_other_full None waiting position word h e full = go (bytes_eq word (45 ∷ 45 ∷ [])) e
    where
      go : (b : Bool) → (b || flag_word_passes s.rules s.args_override_self (long_of word) word h) ≡ true
          → Full ok (cond b (h, trailing position) (long_or_other s.rules waiting word (long_of word) h)).0.rows
      go true t = full
      go false t = long_or_other_full ok s.rules each s.args_override_self waiting word (long_of word) h t full

  word_met_full : (is_trailing : Bool) (waiting : Waiting) (position : ℕ) (word : Text) (h : Held) → word_passes s names is_trailing waiting word h ≡ true → Full ok h.rows
      → Full ok (word_met s.rules names is_trailing waiting position word h).0.rows
  word_met_full true waiting position word h e full = full
  word_met_full false waiting position word h e full = subcommand_or_other_full (subcommand_met names waiting word) waiting position word h e full

  after_step_full : (word : Text) (w : Walk) (h : Held) (step : Step) → step_passes s w.position h step ≡ true → Full ok h.rows → Full ok (after_step s.rules word w h step).held.rows
  after_step_full word w h (next waiting) e full = full
  after_step_full word w h (trailing position) e full = full
  after_step_full word w h (subcommand name) e full = full
  after_step_full word w h value e full = to_positional_full ok s.rules each s.args_override_self (arg_by_index s.rules w.position) word w h e full

  walked_from_full : (o : Option (Text × List Text)) (w : Walk) (word : Text)
      → (is_some o || (word_passes s names w.is_trailing w.waiting word w.held
      && step_passes s w.position (word_met s.rules names w.is_trailing w.waiting w.position word w.held).0 (word_met s.rules names w.is_trailing w.waiting w.position word w.held).1)) ≡ true
      → Full ok w.held.rows → Full ok (walked_from s.rules names o w word).held.rows
  walked_from_full (Some p) w word e full = full
  walked_from_full None w word e full =
      let parts = both (word_passes s names w.is_trailing w.waiting word w.held) _ e in
      after_step_full word w _ _ parts.1 (word_met_full w.is_trailing w.waiting w.position word w.held parts.0 full)

  walks_full : (w : Walk) (words : List Text) → walk_passes s names w words ≡ true → Full ok w.held.rows → Full ok (fold (walked s.rules names) w words).held.rows
  unfolding walk_passes walked
  walks_full w [] e full = full
  walks_full w (word ∷ words) e full =
      let parts = both (turn_passes s names w word) _ e in
      walks_full (walked s.rules names w word) words parts.1 (walked_from_full w.stopped w word parts.0 full)

-- words that a command takes fill the rows, and give what is required
pub level_full : (ok : Text → Text → Bool) (s : Shape) (words : List Text) → EachFits ok s.rules → level_passes s [] nothing_held words false ≡ true
    → Full ok (rows_after s.rules [] words) × (is_valid s (rows_after s.rules [] words) false ≡ true)
level_full ok s words each e =
    let end = (walk s.rules [] nothing_held words).held in
    let walks = both (walk_passes s [] (walk_from nothing_held) words) _ e in
    let settles = both (settle_passes s.rules s.args_override_self end) _ walks.1 in
    let valid = both (list_all default_passes s.rules) (is_valid s (finished s.rules end) false) settles.1 in (
      with_defaults_full ok s.rules (settled s.rules end).rows each valid.0
          (settled_full ok s.rules each s.args_override_self end settles.0 (walks_full ok s each [] (walk_from nothing_held) words walks.0 tt)),
      valid.1,
    )

-- ---- what is read of rows with values

some_first : (values : List Text) → 0 < length values → is_some (slice_get values 0) ≡ true
some_first [] some = absurd (omega arith)
some_first (v ∷ vs) some = refl

pub given_first : (ok : Text → Text → Bool) (id : Text) (rows : List Row) → Full ok rows → is_given id rows ≡ true → is_some (first_of id rows) ≡ true
given_first ok id [] full e = absurd (false_true e)
given_first ok id (r ∷ rows) full e = go (bytes_eq r.id id) e (given_first ok id rows full.1)
  where
    go : (b : Bool) → option_map_or (λ x. explicit_source x.source) (cond b (Some r) (find (λ x. bytes_eq x.id id) rows)) false ≡ true
        → (is_given id rows ≡ true → is_some (first_of id rows) ≡ true)
        → is_some (option_and_then (λ x. slice_get x.values 0) (cond b (Some r) (find (λ x. bytes_eq x.id id) rows))) ≡ true
    go true t later = some_first r.values full.0.0
    go false t later = later t

pub given_all : (id : Text) (rows : List Row) → is_given id rows ≡ true → is_some (all_of id rows) ≡ true
given_all id rows e = go (find (λ x. bytes_eq x.id id) rows) e
  where
    go : (o : Option Row) → option_map_or (λ x. explicit_source x.source) o false ≡ true → is_some (option_map (λ x. x.values) o) ≡ true
    go None t = absurd (false_true t)
    go (Some r) t = refl

-- the first value of an id passes
pub first_passes : (ok : Text → Text → Bool) (id : Text) (rows : List Row) (v : Text) → Full ok rows → first_of id rows ≡ Some v → ok id v ≡ true
first_passes ok id [] v full e = absurd (none_some v e)
first_passes ok id (r ∷ rows) v full e = go (bytes_eq r.id id) refl e (first_passes ok id rows v full.1)
  where
    value_of : (values : List Text) → list_all (ok r.id) values ≡ true → slice_get values 0 ≡ Some v → ok r.id v ≡ true
    value_of [] all is = absurd (none_some v is)
    value_of (x ∷ xs) all is = ap (ok r.id) (sym (some_same x v is)) ∙ (both (ok r.id x) (list_all (ok r.id) xs) all).0

    go : (b : Bool) → bytes_eq r.id id ≡ b → option_and_then (λ x. slice_get x.values 0) (cond b (Some r) (find (λ x. bytes_eq x.id id) rows)) ≡ Some v
        → (first_of id rows ≡ Some v → ok id v ≡ true) → ok id v ≡ true
    go true same is later = ap (λ (t : Text). ok t v) (sym ((bytes_eq-Decides r.id id).0 same)) ∙ value_of r.values full.0.1 is
    go false same is later = later is
