-- The parser of command lines looks at the parser of a value through the texts that it accepts and through how they are read. So
-- parsers that don't differ there give the same matches, and take the same words.
use Rattle.std.proofs.Common.{◌≡◌, ◌∙◌, ◌+◌, ℕ, ◌&&◌, ◌||◌, Bool, cond, true, false, not, zero, suc, refl, sym, ap, ap₂, List, [], ◌∷◌, map, length, drop, min, Option, Some, None, is_some, nat_le}
use Rattle.std.specs.Prelude.{encode_utf8, slice_get}
use Rattle.std.specs.List.{fold, list_all, list_any}
use Rattle.std.specs.Option.{option_map, option_map_or}
use Rattle.std.specs.Str.{bytes_eq, chars}
use Rattle.clap.specs.Lexer.{long_of, short_of}
use Rattle.clap.specs.Values.{reading_of}
use Rattle.clap.specs.ValueTests.{accepts}
use Rattle.clap.specs.Matches.{count_text}
use Rattle.clap.specs.Facts.{parser_of_value, unwrap_or_range}
use Rattle.clap.specs.Walk.{Held, Names, Outcome, done, waits, plain, refused, Waiting, idle, option, positional, Row, Rule, Step, next, trailing, subcommand, value, Text, Walk, action_of, after_flag, after_step, arg_by_id, arg_by_index, arg_by_long, arg_by_short, attached_value, bundle_met, bundle_step, count_of, default_rows, finished, flag_met, has_row, is_multiple, is_pending, long_met, long_or_other, most_values, next_position, nothing_held, option_met, option_word, plain_word, pushed, reacted, rows_after, settled, settled_rows, short_met, short_or_plain, subcommand_met, subcommand_or_other, takes_several, takes_values, to_positional, used, used_as, used_by_id, values_or_missing, walk, walk_from, walked, walked_from, with_default, word_met}
use Rattle.clap.specs.Facts.{explicit_source}
use Rattle.clap.specs.Values.{is_request}
use Rattle.clap.specs.Walk.{is_empty}
use Rattle.clap.specs.Simple.{Shape}
use Rattle.clap.specs.Takes.{action_passes, bundle_passes, bundle_step_passes, count_passes, default_passes, flag_word_passes, flags_pass, is_given, is_valid, level_passes, long_passes, option_passes, other_passes, positional_passes, react_passes, set_passes, settle_passes, short_passes, step_passes, turn_passes, use_passes, value_passes, values_pass, walk_passes}
use Rattle.clap.specs.declared.builder.action.ArgAction.{ArgAction}
use Rattle.clap.specs.declared.builder.action.ArgAction.TheVariants as action
use Rattle.clap.specs.declared.builder.value_parser.Reading.{Reading}
use Rattle.clap.specs.declared.builder.value_parser.ValueParser.{ValueParser}
use Rattle.clap.proofs.WalkLemmas.{find-map}

module _ (g : ValueParser → ValueParser) (reads : (p : ValueParser) → reading_of (g p) ≡ reading_of p) (passes : (ignores : Bool) (p : ValueParser) (text : Text) → accepts ignores (g p) text ≡ accepts ignores p text) where
  -- the rule with the other parser
  abbrev pub f : Rule → Rule
  f a = record a { parser = option_map g a.parser }

  reading_same : (o : Option ValueParser) → reading_of (parser_of_value (option_map g o)) ≡ reading_of (parser_of_value o)
  reading_same None = refl
  reading_same (Some p) = reads p

  missing_same : (a : Rule) (values : List Text) → values_or_missing (f a) values ≡ values_or_missing a values
  missing_same a [] = refl
  missing_same a (v ∷ vs) = refl

  used_same : (a : Rule) (values : List Text) (rows : List Row) → used (f a) values rows ≡ used a values rows
  used_same a values rows = ap₂ (λ (how : Reading) (vs : List Text). used_as (action_of a) a.id how vs rows) (reading_same a.parser) (missing_same a values)

  by_id : (c : List Rule) (id : Text) → arg_by_id (map f c) id ≡ option_map f (arg_by_id c id)
  by_id c id = sym (find-map (λ (a : Rule). bytes_eq a.id id) f c)

  by_long : (c : List Rule) (name : Text) → arg_by_long (map f c) name ≡ option_map f (arg_by_long c name)
  by_long c name = sym (find-map _ f c)

  by_short : (c : List Rule) (x : ℕ) → arg_by_short (map f c) x ≡ option_map f (arg_by_short c x)
  by_short c x = sym (find-map _ f c)

  by_index : (c : List Rule) (i : ℕ) → arg_by_index (map f c) i ≡ option_map f (arg_by_index c i)
  by_index c i = sym (find-map _ f c)

  used_by_id_same : (o : Option Rule) (values : List Text) (rows : List Row) → used_by_id (option_map f o) values rows ≡ used_by_id o values rows
  used_by_id_same None values rows = refl
  used_by_id_same (Some a) values rows = used_same a values rows

  settled_rows_same : (c : List Rule) (p : Option (Text × List Text)) (rows : List Row) → settled_rows (map f c) p rows ≡ settled_rows c p rows
  settled_rows_same c None rows = refl
  settled_rows_same c (Some p) rows = ap (λ (o : Option Rule). used_by_id o p.1 rows) (by_id c p.0) ∙ used_by_id_same (arg_by_id c p.0) p.1 rows

  settled_same : (c : List Rule) (h : Held) → settled (map f c) h ≡ settled c h
  settled_same c h = ap (λ (rs : List Row). record h { rows = rs; pending = None }) (settled_rows_same c h.pending h.rows)

  reacted_same : (c : List Rule) (a : Rule) (values : List Text) (h : Held) → reacted (map f c) (f a) values h ≡ reacted c a values h
  reacted_same c a values h =
      ap (λ (rs : List Row). record h { rows = rs; pending = None }) (used_same a values _ ∙ ap (used a values) (settled_rows_same c h.pending h.rows))

  -- ---- words that are flags

  option_met_same : (c : List Rule) (a : Rule) (v : Option Text) (h : Held) → option_met (map f c) (f a) v h ≡ option_met c a v h
  option_met_same c a (Some v) h = ap (λ (x : Held). (x, done)) (reacted_same c a (v ∷ []) h)
  option_met_same c a None h = ap (λ (x : Held). (record x { pending = Some (a.id, []) }, waits a.id)) (settled_same c h)

  flag_met_same : (c : List Rule) (a : Rule) (v : Option Text) (h : Held) → flag_met (map f c) (f a) v h ≡ flag_met c a v h
  flag_met_same c a (Some v) h = refl
  flag_met_same c a None h = ap (λ (x : Held). (x, done)) (reacted_same c a [] h)

  long_met_same : (c : List Rule) (o : Option Rule) (v : Option Text) (h : Held) → long_met (map f c) (option_map f o) v h ≡ long_met c o v h
  long_met_same c None v h = refl
  long_met_same c (Some a) v h = ap₂ (λ (x y : Held × Outcome). cond (takes_values a) x y) (option_met_same c a v h) (flag_met_same c a v h)

  short_met_same : (c : List Rule) (o : Option Rule) (rest : Text) (h : Held) (then other : Held → Held × Outcome) → ((k : Held) → then k ≡ other k)
      → short_met (map f c) (option_map f o) rest h then ≡ short_met c o rest h other
  short_met_same c None rest h then other same = refl
  short_met_same c (Some a) rest h then other same =
      ap₂ (λ (x y : Held × Outcome). cond (takes_values a) x y) (option_met_same c a (attached_value rest) h) (ap then (reacted_same c a [] h) ∙ same (reacted c a [] h))

  bundle_step_same : (c : List Rule) (o : Option ℕ) (flags : Text) (skip : ℕ) (so_far : Outcome) (h : Held) (then other : Text → ℕ → Outcome → Held → Held × Outcome)
      → ((t : Text) (n : ℕ) (out : Outcome) (k : Held) → then t n out k ≡ other t n out k)
      → bundle_step (map f c) o flags skip so_far h then ≡ bundle_step c o flags skip so_far h other
  bundle_step_same c None flags skip so_far h then other same = refl
  bundle_step_same c (Some x) flags zero so_far h then other same =
      let rest = drop (length (encode_utf8 x)) flags in
      ap (λ (o : Option Rule). short_met (map f c) o rest h (then rest 0 done)) (by_short c x)
      ∙ short_met_same c (arg_by_short c x) rest h (then rest 0 done) (other rest 0 done) (same rest 0 done)
  bundle_step_same c (Some x) flags (suc skip) so_far h then other same = same (drop (length (encode_utf8 x)) flags) skip so_far h

  bundle_met_same : (c : List Rule) (k : ℕ) (flags : Text) (skip : ℕ) (so_far : Outcome) (h : Held) → bundle_met (map f c) k flags skip so_far h ≡ bundle_met c k flags skip so_far h
  unfolding bundle_met
  bundle_met_same c zero flags skip so_far h = refl
  bundle_met_same c (suc k) flags skip so_far h =
      bundle_step_same c (slice_get (chars flags) 0) flags skip so_far h (bundle_met (map f c) k) (bundle_met c k) (bundle_met_same c k)

  -- ---- the walk

  option_word_same : (o : Option Rule) (id word : Text) (h : Held) → option_word (option_map f o) id word h ≡ option_word o id word h
  option_word_same None id word h = refl
  option_word_same (Some a) id word h = refl

  plain_word_same : (c : List Rule) (waiting : Waiting) (word : Text) (h : Held) → plain_word (map f c) waiting word h ≡ plain_word c waiting word h
  plain_word_same c idle word h = refl
  plain_word_same c (option id) word h =
      ap (λ (p : Held × Waiting). (p.0, next p.1)) (ap (λ (o : Option Rule). option_word o id word h) (by_id c id) ∙ option_word_same (arg_by_id c id) id word h)
  plain_word_same c positional word h = refl

  after_flag_same : (c : List Rule) (waiting : Waiting) (word : Text) (h : Held) (out : Outcome) → after_flag (map f c) waiting word h out ≡ after_flag c waiting word h out
  after_flag_same c waiting word h done = refl
  after_flag_same c waiting word h (waits id) = refl
  after_flag_same c waiting word h plain = plain_word_same c waiting word h
  after_flag_same c waiting word h refused = plain_word_same c waiting word h

  after_met_same : (c : List Rule) (waiting : Waiting) (word : Text) (p q : Held × Outcome) → p ≡ q → after_flag (map f c) waiting word p.0 p.1 ≡ after_flag c waiting word q.0 q.1
  after_met_same c waiting word p q e = ap (λ (r : Held × Outcome). after_flag (map f c) waiting word r.0 r.1) e ∙ after_flag_same c waiting word q.0 q.1

  short_or_plain_same : (c : List Rule) (waiting : Waiting) (word : Text) (o : Option Text) (h : Held) → short_or_plain (map f c) waiting word o h ≡ short_or_plain c waiting word o h
  short_or_plain_same c waiting word None h = plain_word_same c waiting word h
  short_or_plain_same c waiting word (Some flags) h =
      after_met_same c waiting word _ _ (bundle_met_same c (length flags) flags h.skip plain (record h { skip = 0 }))

  long_or_other_same : (c : List Rule) (waiting : Waiting) (word : Text) (o : Option (Text × Option Text)) (h : Held)
      → long_or_other (map f c) waiting word o h ≡ long_or_other c waiting word o h
  long_or_other_same c waiting word None h = short_or_plain_same c waiting word (short_of word) h
  long_or_other_same c waiting word (Some p) h =
      after_met_same c waiting word _ _ (ap (λ (o : Option Rule). long_met (map f c) o p.1 h) (by_long c p.0) ∙ long_met_same c (arg_by_long c p.0) p.1 h)

  subcommand_or_other_same : (c : List Rule) (o : Option Text) (waiting : Waiting) (position : ℕ) (word : Text) (h : Held)
      → subcommand_or_other (map f c) o waiting position word h ≡ subcommand_or_other c o waiting position word h
  subcommand_or_other_same c None waiting position word h =
      ap (λ (x : Held × Step). cond (bytes_eq word (45 ∷ 45 ∷ [])) (h, trailing position) x) (long_or_other_same c waiting word (long_of word) h)
  subcommand_or_other_same c (Some name) waiting position word h = refl

  word_met_same : (c : List Rule) (names : Names) (is_trailing : Bool) (waiting : Waiting) (position : ℕ) (word : Text) (h : Held)
      → word_met (map f c) names is_trailing waiting position word h ≡ word_met c names is_trailing waiting position word h
  word_met_same c names is_trailing waiting position word h =
      ap (λ (x : Held × Step). cond is_trailing (h, value) x) (subcommand_or_other_same c (subcommand_met names waiting word) waiting position word h)

  to_positional_same : (c : List Rule) (o : Option Rule) (word : Text) (w : Walk) (h : Held) → to_positional (map f c) (option_map f o) word w h ≡ to_positional c o word w h
  to_positional_same c None word w h = refl
  to_positional_same c (Some a) word w h =
      ap (λ (k : Held). record {
        held = pushed a.id word (cond (is_pending a h.pending && takes_several a) h k);
        waiting = cond (is_multiple a) positional idle;
        position = next_position a w.position;
        is_trailing = w.is_trailing || a.trailing_var_arg;
        stopped = None;
      }) (settled_same c h)

  after_step_same : (c : List Rule) (word : Text) (w : Walk) (h : Held) (step : Step) → after_step (map f c) word w h step ≡ after_step c word w h step
  after_step_same c word w h (next waiting) = refl
  after_step_same c word w h (trailing position) = refl
  after_step_same c word w h (subcommand name) = refl
  after_step_same c word w h value = ap (λ (o : Option Rule). to_positional (map f c) o word w h) (by_index c w.position) ∙ to_positional_same c (arg_by_index c w.position) word w h

  walked_from_same : (c : List Rule) (names : Names) (o : Option (Text × List Text)) (w : Walk) (word : Text) → walked_from (map f c) names o w word ≡ walked_from c names o w word
  walked_from_same c names None w word =
      let met = word_met c names w.is_trailing w.waiting w.position word w.held in
      ap (λ (m : Held × Step). after_step (map f c) word w m.0 m.1) (word_met_same c names w.is_trailing w.waiting w.position word w.held) ∙ after_step_same c word w met.0 met.1
  walked_from_same c names (Some p) w word = refl

  walked_same : (c : List Rule) (names : Names) (w : Walk) (word : Text) → walked (map f c) names w word ≡ walked c names w word
  unfolding walked
  walked_same c names w word = walked_from_same c names w.stopped w word

  walks_same : (c : List Rule) (names : Names) (w : Walk) (words : List Text) → fold (walked (map f c) names) w words ≡ fold (walked c names) w words
  walks_same c names w [] = refl
  walks_same c names w (word ∷ words) = ap (λ (v : Walk). fold (walked (map f c) names) v words) (walked_same c names w word) ∙ walks_same c names (walked c names w word) words

  walk_same : (c : List Rule) (names : Names) (h : Held) (words : List Text) → walk (map f c) names h words ≡ walk c names h words
  walk_same c names h words = walks_same c names (walk_from h) words

  with_default_same : (rows : List Row) (a : Rule) → with_default rows (f a) ≡ with_default rows a
  with_default_same rows a = ap (λ (how : Reading). cond (has_row a.id rows) rows (default_rows a.id how a.defaults rows)) (reading_same a.parser)

  with_defaults_same : (c : List Rule) (rows : List Row) → fold with_default rows (map f c) ≡ fold with_default rows c
  with_defaults_same [] rows = refl
  with_defaults_same (a ∷ c) rows = ap (λ (rs : List Row). fold with_default rs (map f c)) (with_default_same rows a) ∙ with_defaults_same c (with_default rows a)

  finished_same : (c : List Rule) (h : Held) → finished (map f c) h ≡ finished c h
  finished_same c h = with_defaults_same c (settled (map f c) h).rows ∙ ap (λ (rs : List Row). fold with_default rs c) (settled_rows_same c h.pending h.rows)

  pub rows_after_same : (c : List Rule) (names : Names) (words : List Text) → rows_after (map f c) names words ≡ rows_after c names words
  rows_after_same c names words =
      ap (λ (w : Walk). finished (map f c) w.held) (walk_same c names nothing_held words) ∙ finished_same c (walk c names nothing_held words).held

  -- ---- what is taken

  value_passes_same : (a : Rule) (v : Text) → value_passes (f a) v ≡ value_passes a v
  value_passes_same a v = go a.parser
    where
      go : (o : Option ValueParser) → accepts a.ignore_case (parser_of_value (option_map g o)) v ≡ accepts a.ignore_case (parser_of_value o) v
      go None = refl
      go (Some p) = passes a.ignore_case p v

  values_pass_same : (a : Rule) (vs : List Text) → values_pass (f a) vs ≡ values_pass a vs
  values_pass_same a [] = refl
  values_pass_same a (v ∷ vs) = ap₂ (λ (x y : Bool). x && y) (value_passes_same a v) (values_pass_same a vs)

  count_passes_same : (a : Rule) (values : List Text) (rows : List Row) → count_passes (f a) values rows ≡ count_passes a values rows
  count_passes_same a [] rows = value_passes_same a (count_text (min (count_of a.id rows + 1) 255))
  count_passes_same a (v ∷ vs) rows = values_pass_same a (v ∷ vs)

  set_passes_same : (again : Bool) (a : Rule) (values : List Text) (rows : List Row) → set_passes again (f a) values rows ≡ set_passes again a values rows
  set_passes_same again a values rows = ap (λ (x : Bool). (not (has_row a.id rows) || again) && x) (values_pass_same a values)

  action_passes_same : (x : ArgAction) (again : Bool) (a : Rule) (values : List Text) (rows : List Row) → action_passes x again (f a) values rows ≡ action_passes x again a values rows
  action_passes_same action.Set again a values rows = set_passes_same again a values rows
  action_passes_same action.SetTrue again a values rows = set_passes_same again a values rows
  action_passes_same action.SetFalse again a values rows = set_passes_same again a values rows
  action_passes_same action.Append again a values rows = values_pass_same a values
  action_passes_same action.Count again a values rows = count_passes_same a values rows
  action_passes_same action.Help again a values rows = refl
  action_passes_same action.HelpShort again a values rows = refl
  action_passes_same action.HelpLong again a values rows = refl
  action_passes_same action.Version again a values rows = refl

  use_passes_same : (again : Bool) (a : Rule) (values : List Text) (rows : List Row) → use_passes again (f a) values rows ≡ use_passes again a values rows
  use_passes_same again a values rows =
      ap (λ (x : Bool). nat_le (unwrap_or_range a.range).start_inclusive (length values) && (nat_le (length values) (most_values a) && x))
      (ap (λ (vs : List Text). action_passes (action_of a) again (f a) vs rows) (missing_same a values) ∙ action_passes_same (action_of a) again a (values_or_missing a values) rows)

  pending_passes_same : (again : Bool) (o : Option Rule) (values : List Text) (rows : List Row)
      → option_map_or (λ a. use_passes again a values rows) (option_map f o) true ≡ option_map_or (λ a. use_passes again a values rows) o true
  pending_passes_same again None values rows = refl
  pending_passes_same again (Some a) values rows = use_passes_same again a values rows

  settles_same : (c : List Rule) (again : Bool) (p : Option (Text × List Text)) (rows : List Row)
      → option_map_or (λ q. option_map_or (λ a. use_passes again a q.1 rows) (arg_by_id (map f c) q.0) true) p true
      ≡ option_map_or (λ q. option_map_or (λ a. use_passes again a q.1 rows) (arg_by_id c q.0) true) p true
  settles_same c again None rows = refl
  settles_same c again (Some p) rows =
      ap (λ (o : Option Rule). option_map_or (λ a. use_passes again a p.1 rows) o true) (by_id c p.0) ∙ pending_passes_same again (arg_by_id c p.0) p.1 rows

  settle_passes_same : (c : List Rule) (again : Bool) (h : Held) → settle_passes (map f c) again h ≡ settle_passes c again h
  settle_passes_same c again h = settles_same c again h.pending h.rows

  react_passes_same : (c : List Rule) (again : Bool) (a : Rule) (values : List Text) (h : Held) → react_passes (map f c) again (f a) values h ≡ react_passes c again a values h
  react_passes_same c again a values h =
      ap₂ (λ (x y : Bool). x && y) (settle_passes_same c again h)
      (ap (use_passes again (f a) values) (settled_rows_same c h.pending h.rows) ∙ use_passes_same again a values (settled c h).rows)

  option_passes_same : (c : List Rule) (again : Bool) (a : Rule) (v : Option Text) (h : Held) → option_passes (map f c) again (f a) v h ≡ option_passes c again a v h
  option_passes_same c again a None h = settle_passes_same c again h
  option_passes_same c again a (Some v) h = react_passes_same c again a (v ∷ []) h

  long_passes_same : (c : List Rule) (again : Bool) (o : Option Rule) (v : Option Text) (h : Held) → long_passes (map f c) again (option_map f o) v h ≡ long_passes c again o v h
  long_passes_same c again None v h = refl
  long_passes_same c again (Some a) v h =
      ap₂ (λ (x y : Bool). cond (takes_values a) x (not (is_some v) && y)) (option_passes_same c again a v h) (react_passes_same c again a [] h)

  short_passes_same : (c : List Rule) (again : Bool) (o : Option Rule) (rest : Text) (h : Held) (then other : Held → Bool) → ((k : Held) → then k ≡ other k)
      → short_passes (map f c) again (option_map f o) rest h then ≡ short_passes c again o rest h other
  short_passes_same c again None rest h then other same = refl
  short_passes_same c again (Some a) rest h then other same =
      ap₂ (λ (x y : Bool). cond (takes_values a) x y) (option_passes_same c again a (attached_value rest) h)
      (ap₂ (λ (x y : Bool). x && y) (react_passes_same c again a [] h) (ap then (reacted_same c a [] h) ∙ same (reacted c a [] h)))

  bundle_step_passes_same : (c : List Rule) (again : Bool) (o : Option ℕ) (flags : Text) (skip : ℕ) (h : Held) (then other : Text → ℕ → Held → Bool)
      → ((t : Text) (n : ℕ) (k : Held) → then t n k ≡ other t n k)
      → bundle_step_passes (map f c) again o flags skip h then ≡ bundle_step_passes c again o flags skip h other
  bundle_step_passes_same c again None flags skip h then other same = refl
  bundle_step_passes_same c again (Some x) flags zero h then other same =
      let rest = drop (length (encode_utf8 x)) flags in
      ap (λ (o : Option Rule). short_passes (map f c) again o rest h (then rest 0)) (by_short c x)
      ∙ short_passes_same c again (arg_by_short c x) rest h (then rest 0) (other rest 0) (same rest 0)
  bundle_step_passes_same c again (Some x) flags (suc skip) h then other same = same (drop (length (encode_utf8 x)) flags) skip h

  flags_pass_same : (c : List Rule) (again : Bool) (k : ℕ) (flags : Text) (skip : ℕ) (h : Held) → flags_pass (map f c) again k flags skip h ≡ flags_pass c again k flags skip h
  unfolding flags_pass
  flags_pass_same c again zero flags skip h = refl
  flags_pass_same c again (suc k) flags skip h =
      bundle_step_passes_same c again (slice_get (chars flags) 0) flags skip h (flags_pass (map f c) again k) (flags_pass c again k) (flags_pass_same c again k)

  bundles_same : (c : List Rule) (again : Bool) (o : Option Text) (h : Held)
      → option_map_or (λ flags. bundle_passes (map f c) again flags h) o true ≡ option_map_or (λ flags. bundle_passes c again flags h) o true
  bundles_same c again None h = refl
  bundles_same c again (Some flags) h = flags_pass_same c again (length flags) flags h.skip (record h { skip = 0 })

  flag_word_passes_same : (c : List Rule) (again : Bool) (o : Option (Text × Option Text)) (word : Text) (h : Held)
      → flag_word_passes (map f c) again o word h ≡ flag_word_passes c again o word h
  flag_word_passes_same c again None word h = bundles_same c again (short_of word) h
  flag_word_passes_same c again (Some p) word h =
      ap (λ (o : Option Rule). long_passes (map f c) again o p.1 h) (by_long c p.0) ∙ long_passes_same c again (arg_by_long c p.0) p.1 h

  -- the command with the other parsers
  abbrev shape_by : Shape → Shape
  shape_by s = record s { rules = map f s.rules }

  other_passes_same : (s : Shape) (o : Option Text) (word : Text) (h : Held) → other_passes (shape_by s) o word h ≡ other_passes s o word h
  other_passes_same s None word h = ap (λ (x : Bool). bytes_eq word (45 ∷ 45 ∷ []) || x) (flag_word_passes_same s.rules s.args_override_self (long_of word) word h)
  other_passes_same s (Some name) word h = refl

  positional_passes_same : (c : List Rule) (again : Bool) (o : Option Rule) (h : Held)
      → option_map_or (λ a. positional_passes (map f c) again a h) (option_map f o) false ≡ option_map_or (λ a. positional_passes c again a h) o false
  positional_passes_same c again None h = refl
  positional_passes_same c again (Some a) h = ap (λ (x : Bool). (is_pending a h.pending && takes_several a) || x) (settle_passes_same c again h)

  step_passes_same : (s : Shape) (position : ℕ) (h : Held) (step : Step) → step_passes (shape_by s) position h step ≡ step_passes s position h step
  step_passes_same s position h (next waiting) = refl
  step_passes_same s position h (trailing p) = refl
  step_passes_same s position h (subcommand name) = refl
  step_passes_same s position h value =
      ap (λ (o : Option Rule). option_map_or (λ a. positional_passes (map f s.rules) s.args_override_self a h) o false) (by_index s.rules position)
      ∙ positional_passes_same s.rules s.args_override_self (arg_by_index s.rules position) h

  turn_passes_same : (s : Shape) (names : Names) (w : Walk) (word : Text) → turn_passes (shape_by s) names w word ≡ turn_passes s names w word
  turn_passes_same s names w word =
      let met = word_met s.rules names w.is_trailing w.waiting w.position word w.held in
      ap₂ (λ (x y : Bool). is_some w.stopped || ((w.is_trailing || x) && y)) (other_passes_same s (subcommand_met names w.waiting word) word w.held)
      (ap (λ (m : Held × Step). step_passes (shape_by s) w.position m.0 m.1) (word_met_same s.rules names w.is_trailing w.waiting w.position word w.held)
      ∙ step_passes_same s w.position met.0 met.1)

  walk_passes_same : (s : Shape) (names : Names) (w : Walk) (words : List Text) → walk_passes (shape_by s) names w words ≡ walk_passes s names w words
  unfolding walk_passes
  walk_passes_same s names w [] = refl
  walk_passes_same s names w (word ∷ words) =
      ap₂ (λ (x y : Bool). x && y) (turn_passes_same s names w word)
      (ap (λ (v : Walk). walk_passes (shape_by s) names v words) (walked_same s.rules names w word) ∙ walk_passes_same s names (walked s.rules names w word) words)

  default_passes_same : (a : Rule) → default_passes (f a) ≡ default_passes a
  default_passes_same a = ap (λ (x : Bool). is_empty a.defaults || (not (is_request (action_of a)) && x)) (values_pass_same a a.defaults)

  defaults_pass_same : (c : List Rule) → list_all default_passes (map f c) ≡ list_all default_passes c
  defaults_pass_same [] = refl
  defaults_pass_same (a ∷ c) = ap₂ (λ (x y : Bool). x && y) (default_passes_same a) (defaults_pass_same c)

  free_same : (c : List Rule) → list_all (λ a. a.is_free) (map f c) ≡ list_all (λ a. a.is_free) c
  free_same [] = refl
  free_same (a ∷ c) = ap (λ (x : Bool). a.is_free && x) (free_same c)

  given_same : (c : List Rule) (rows : List Row) → list_all (λ a. not a.required || is_given a.id rows) (map f c) ≡ list_all (λ a. not a.required || is_given a.id rows) c
  given_same [] rows = refl
  given_same (a ∷ c) rows = ap (λ (x : Bool). (not a.required || is_given a.id rows) && x) (given_same c rows)

  valid_same : (s : Shape) (rows : List Row) (has : Bool) → is_valid (shape_by s) rows has ≡ is_valid s rows has
  valid_same s rows has =
      ap₂ (λ (x y : Bool). (not s.arg_required_else_help || (has || list_any (λ r. explicit_source r.source) rows))
      && ((not s.subcommand_required || has) && (x && ((s.subcommand_negates_reqs && has) || y)))) (free_same s.rules) (given_same s.rules rows)

  pub level_passes_same : (s : Shape) (names : Names) (h : Held) (words : List Text) (has : Bool) → level_passes (shape_by s) names h words has ≡ level_passes s names h words has
  level_passes_same s names h words has =
      let end = (walk s.rules names h words).held in
      ap₂ (λ (x y : Bool). x && y) (walk_passes_same s names (walk_from h) words)
      (ap (λ (w : Walk). settle_passes (map f s.rules) s.args_override_self w.held
      && (list_all default_passes (map f s.rules) && is_valid (shape_by s) (finished (map f s.rules) w.held) has)) (walk_same s.rules names h words)
      ∙ ap₂ (λ (x y : Bool). x && y) (settle_passes_same s.rules s.args_override_self end)
      (ap₂ (λ (x y : Bool). x && y) (defaults_pass_same s.rules)
      (ap (λ (rows : List Row). is_valid (shape_by s) rows has) (finished_same s.rules end) ∙ valid_same s (finished s.rules end) has)))
