-- Files that are found, one after the other.
use Rattle.std.proofs.Common.{◌≡◌, ◌≢◌, ℕ, ◌+◌, ◌<◌, ◌≤◌, List, [], ◌∷◌, ◌++◌, map, length, Bool, true, false, if◌then◌else◌, ◌||◌, nat_le, Option, Some, None, ◌⊎◌, inl, inr, refl, sym, ap, ◌∙◌, subst, arith, replicate, append_assoc, append-nil, take, drop, get_or}
use Rattle.std.specs.Prelude.{IfSome, Vec, find}
use Rattle.std.specs.Global.{Global}
use Rattle.std.specs.Option.{option_map}
use Rattle.std.specs.List.{list_any}
use Rattle.std.specs.Str.{bytes_eq}
use Rattle.std.proofs.lemmas.Slice.Eq.{bytes_eq-Decides}
use Rattle.std.proofs.lemmas.Bool.Decides.{nat_tests}
use Rattle.std.proofs.lemmas.Bool.{false≢true}
use Rattle.std.proofs.lemmas.List.{length-replicate, take-append-drop, map-append, map_more, length-map, length-take-le}
use Rattle.std.specs.Borrow.{Bor}
use Rattle.sigma_app.proofs.ItemLaws.{IsItem, item_more}
use Rattle.sigma_base.specs.Lists.{Each}
use Rattle.kif_tree.specs.declared.place.Located.{Located}
use Rattle.kif_tree.specs.Terms.{Bytes}
use Rattle.sig_io.specs.Causes.{Rose}
use Rattle.sig_io.specs.Told.{body_of}
use Rattle.kif_reader.specs.Spelling.{Spells}
use Rattle.sigma_app.specs.declared.files.Part.{Part}
use Rattle.sigma_app.specs.declared.files.Body.TheVariants as body
use Rattle.sigma_app.specs.declared.reply.Reply.{Reply}
use Rattle.sigma_app.specs.Requests.{stand_twice}
use Rattle.sigma_app.specs.Files.{Contents, byte_limit, IsWhole, AreWhole, live_size, AreShort, SpellParts}
use Rattle.sigma_app.specs.Tool.{Is, absent_text, long_text, IsFaulty, HasFault, IsAbsent, IsTooLong, Agrees}
use Rattle.sigma_app.specs.Run.{Over, OnFetches, FetchesOne}

-- ---- the first file of a name

abbrev Apart : Bytes → List Bytes → Type 0
Apart path paths = Each (λ other. other ≢ path) paths

differ : (a b : Bytes) → a ≢ b → bytes_eq a b ≡ false
differ a b h = by_test (bytes_eq a b) refl
  where
    by_test : (t : Bool) → bytes_eq a b ≡ t → t ≡ false
    by_test true e = absurd (h ((bytes_eq-Decides a b).0 e))
    by_test false e = refl

differs : (a b : Bytes) → bytes_eq a b ≡ false → b ≢ a
differs a b h e = false≢true (sym h ∙ (bytes_eq-Decides a b).1 (sym e))

abbrev names_in : Contents → List Bytes
names_in contents = map (λ (file : Bytes × Bytes). file.0) contents

abbrev choose : Bool → Bytes × Bytes → Contents → Bytes → Option Bytes
choose b file rest path = option_map (λ (f : Bytes × Bytes). f.1) (if b then Some file else find (λ (f : Bytes × Bytes). bytes_eq f.0 path) rest)

body_of-none : (contents : Contents) (path : Bytes) → Apart path (names_in contents) → body_of contents path ≡ None
body_of-none [] path h = refl
body_of-none (file ∷ contents) path h = ap (λ (b : Bool). choose b file contents path) (differ file.0 path h.0) ∙ body_of-none contents path h.1

body_of-more : (contents : Contents) (file : Bytes × Bytes) (path body : Bytes) → body_of contents path ≡ Some body → body_of (contents ++ file ∷ []) path ≡ Some body
body_of-more [] file path body e = let no_way : None ≡ Some body = e in absurd (cc)
body_of-more (first ∷ contents) file path body e = by_test (bytes_eq first.0 path) (body_of-more contents file path body) e
  where
    by_test : (b : Bool) → (body_of contents path ≡ Some body → body_of (contents ++ file ∷ []) path ≡ Some body)
        → choose b first contents path ≡ Some body → choose b first (contents ++ file ∷ []) path ≡ Some body
    by_test true more e = e
    by_test false more e = more e

body_of-last : (contents : Contents) (path body : Bytes) → Apart path (names_in contents) → body_of (contents ++ (path, body) ∷ []) path ≡ Some body
body_of-last [] path body h = ap (λ (b : Bool). choose b (path, body) [] path) ((bytes_eq-Decides path path).1 refl)
body_of-last (file ∷ contents) path body h =
    ap (λ (b : Bool). choose b file (contents ++ (path, body) ∷ []) path) (differ file.0 path h.0) ∙ body_of-last contents path body h.1

-- ---- whole files

whole_more : (contents : Contents) (file : Bytes × Bytes) (at : ℕ) (paths : List Bytes) (parts : List Part) → AreWhole contents at paths parts → AreWhole (contents ++ file ∷ []) at paths parts
whole_more contents file at [] parts h = h
whole_more contents file at (path ∷ paths) [] h = h
whole_more contents file at (path ∷ paths) (part ∷ parts) h =
    (record { held = body_of-more contents file path part.text h.0.held; short = h.0.short; named = h.0.named; numbered = h.0.numbered }, whole_more contents file (at + 1) paths parts h.1)

whole_push : (contents : Contents) (at : ℕ) (paths : List Bytes) (parts : List Part) (path : Bytes) (part : Part) → AreWhole contents at paths parts
    → IsWhole contents path (at + length paths) part → AreWhole contents at (paths ++ path ∷ []) (parts ++ part ∷ [])
whole_push contents at [] [] path part h one = (subst (λ (n : ℕ). IsWhole contents path n part) (omega arith) one, refl)
whole_push contents at [] (p ∷ parts) path part h one = let no_way : p ∷ parts ≡ [] = h in absurd (cc)
whole_push contents at (first ∷ paths) [] path part h one = absurd h
whole_push contents at (first ∷ paths) (p ∷ parts) path part h one =
    (h.0, whole_push contents (at + 1) paths parts path part h.1 (subst (λ (n : ℕ). IsWhole contents path n part) (omega arith) one))

pub whole_short : (contents : Contents) (at : ℕ) (paths : List Bytes) (parts : List Part) → AreWhole contents at paths parts → AreShort parts
whole_short contents at [] [] h = tt
whole_short contents at [] (p ∷ parts) h = let no_way : p ∷ parts ≡ [] = h in absurd (cc)
whole_short contents at (path ∷ paths) [] h = absurd h
whole_short contents at (path ∷ paths) (part ∷ parts) h = (h.0.short, whole_short contents (at + 1) paths parts h.1)

pub whole_length : (contents : Contents) (at : ℕ) (paths : List Bytes) (parts : List Part) → AreWhole contents at paths parts → length parts ≡ length paths
whole_length contents at [] [] h = refl
whole_length contents at [] (p ∷ parts) h = let no_way : p ∷ parts ≡ [] = h in absurd (cc)
whole_length contents at (path ∷ paths) [] h = absurd h
whole_length contents at (path ∷ paths) (part ∷ parts) h = let rest = whole_length contents (at + 1) paths parts h.1 in omega (arith, rest)

abbrev file_of : Part → Bytes × Bytes
file_of part = (part.name, part.text)

abbrev contents_of : List Part → Contents
contents_of parts = map file_of parts

whole_names : (contents : Contents) (at : ℕ) (paths : List Bytes) (parts : List Part) → AreWhole contents at paths parts → names_in (contents_of parts) ≡ paths
whole_names contents at [] [] h = refl
whole_names contents at [] (p ∷ parts) h = let no_way : p ∷ parts ≡ [] = h in absurd (cc)
whole_names contents at (path ∷ paths) [] h = absurd h
whole_names contents at (path ∷ paths) (part ∷ parts) h = λ i. h.0.named i ∷ whole_names contents (at + 1) paths parts h.1 i

-- ---- what was found agrees with what is told

-- the contents that are told, or else those of the parts
abbrev pub contents_in : Option Contents → List Part → Contents
contents_in (Some files) parts = files
contents_in None parts = contents_of parts

agrees_in : (told : Option Contents) (parts : List Part) → Agrees told (contents_in told parts)
agrees_in (Some files) parts = refl
agrees_in None parts = tt

-- the files so far are found
pub record Got (told : Option Contents) (before now : ℕ) (paths : List Bytes) (parts : List Part) : Type 0 where
  pub quiet : now ≡ before
  pub whole : AreWhole (contents_in told parts) 1 paths parts

contents-push : (parts : List Part) (part : Part) → contents_of (parts ++ part ∷ []) ≡ contents_of parts ++ file_of part ∷ []
contents-push [] part = refl
contents-push (p ∷ parts) part = ap (λ (c : Contents). file_of p ∷ c) (contents-push parts part)

got_whole : (told : Option Contents) (paths : List Bytes) (parts : List Part) (path : Bytes) (part : Part) → AreWhole (contents_in told parts) 1 paths parts → Apart path paths
    → part.name ≡ path → part.number ≡ 1 + length paths → length part.text ≤ byte_limit → IfSome told (λ files. body_of files path ≡ Some part.text)
    → AreWhole (contents_in told (parts ++ part ∷ [])) 1 (paths ++ path ∷ []) (parts ++ part ∷ [])
got_whole (Some files) paths parts path part whole apart named numbered short held =
    whole_push files 1 paths parts path part whole (record { held = held; short = short; named = named; numbered = numbered })
got_whole None paths parts path part whole apart named numbered short held =
    let free : Apart part.name (names_in (contents_of parts)) =
    subst (λ (p : Bytes). Apart p (names_in (contents_of parts))) (sym named) (subst (Apart path) (sym (whole_names (contents_of parts) 1 paths parts whole)) apart) in
    subst (λ (c : Contents). AreWhole c 1 (paths ++ path ∷ []) (parts ++ part ∷ [])) (sym (contents-push parts part))
    (whole_push (contents_of parts ++ file_of part ∷ []) 1 paths parts path part (whole_more (contents_of parts) (file_of part) 1 paths parts whole) (record {
      held = ap (body_of (contents_of parts ++ file_of part ∷ [])) (sym named) ∙ body_of-last (contents_of parts) part.name part.text free;
      short = short;
      named = named;
      numbered = numbered;
    }))

pub got_start : (told : Option Contents) (before now : ℕ) → now ≡ before → Got told before now [] []
got_start told before now quiet = record { quiet = quiet; whole = refl }

pub got_more : (told : Option Contents) (before now later : ℕ) (paths : List Bytes) (parts : List Part) (path : Bytes) (part : Part) → Got told before now paths parts → Apart path paths
    → part.name ≡ path → part.number ≡ 1 + length paths → FetchesOne path told now later (body.Text part.text) → Got told before later (paths ++ path ∷ []) (parts ++ part ∷ [])
got_more told before now later paths parts path part got apart named numbered one = record {
  quiet = one.0 ∙ got.quiet;
  whole = got_whole told paths parts path part got.whole apart named numbered one.1 one.2;
}

pub got_all : (told : Option Contents) (before now : ℕ) (paths : List Bytes) (parts : List Part) → Got told before now paths parts
    → (now ≡ before) × Over told (λ contents. AreWhole contents 1 paths parts)
got_all told before now paths parts got = (got.quiet, record { contents = contents_in told parts; agrees = agrees_in told parts; holds = got.whole })

-- ---- the file that ends the work

some_longer : (n : ℕ) → (bytes : Bytes) × (n < length bytes)
some_longer n = (replicate (n + 1) 0, omega (arith, length-replicate {A = ℕ} (n + 1) 0))

longer_fails : (n limit : ℕ) → limit < n → nat_le n limit ≡ false
longer_fails n limit h = grind (arith, nat_tests)

absent_over : (told : Option Contents) (all earlier later : List Bytes) (parts : List Part) (path : Bytes) (status : ℕ) (text : Bytes) → all ≡ earlier ++ path ∷ later
    → AreWhole (contents_in told parts) 1 earlier parts → Apart path earlier → IfSome told (λ files. body_of files path ≡ None) → Is 3 (absent_text path) status text
    → Over told (λ contents. IsAbsent contents all status text)
absent_over (Some files) all earlier later parts path status text stands whole apart held is =
    record { contents = files; agrees = refl; holds = record { path = path; reached = record { earlier = earlier; later = later; parts = parts; stands = stands; whole = whole }; absent = held; is = is } }
absent_over None all earlier later parts path status text stands whole apart held is = record {
  contents = contents_of parts;
  agrees = tt;
  holds = record {
    path = path;
    reached = record { earlier = earlier; later = later; parts = parts; stands = stands; whole = whole };
    absent = body_of-none (contents_of parts) path (subst (Apart path) (sym (whole_names (contents_of parts) 1 earlier parts whole)) apart);
    is = is;
  };
}

long_over : (told : Option Contents) (all earlier later : List Bytes) (parts : List Part) (path : Bytes) (status : ℕ) (text : Bytes) → all ≡ earlier ++ path ∷ later
    → AreWhole (contents_in told parts) 1 earlier parts → Apart path earlier → IfSome told (λ files. (bytes : Bytes) × (body_of files path ≡ Some bytes) × (byte_limit < length bytes))
    → Is 6 (long_text path) status text → Over told (λ contents. IsTooLong contents all status text)
long_over (Some files) all earlier later parts path status text stands whole apart (bytes, held, longer) is = record {
  contents = files;
  agrees = refl;
  holds = record {
    path = path;
    reached = record { earlier = earlier; later = later; parts = parts; stands = stands; whole = whole };
    body = bytes;
    held = held;
    long = longer_fails (length bytes) byte_limit longer;
    is = is;
  };
}
long_over None all earlier later parts path status text stands whole apart held is =
    let longer = some_longer byte_limit in
    record {
      contents = contents_of parts ++ (path, longer.0) ∷ [];
      agrees = tt;
      holds = record {
        path = path;
        reached = record { earlier = earlier; later = later; parts = parts; stands = stands; whole = whole_more (contents_of parts) (path, longer.0) 1 earlier parts whole };
        body = longer.0;
        held = body_of-last (contents_of parts) path longer.0 (subst (Apart path) (sym (whole_names (contents_of parts) 1 earlier parts whole)) apart);
        long = longer_fails (length longer.0) byte_limit longer.1;
        is = is;
      };
    }

pub got_stopped : (told : Option Contents) (before now later_count : ℕ) (all earlier later : List Bytes) (parts : List Part) (path : Bytes) (reply : Reply) → all ≡ earlier ++ path ∷ later
    → Got told before now earlier parts → Apart path earlier → FetchesOne path told now later_count (body.Stopped reply)
    → OnFetches all told before later_count (λ contents. IsAbsent contents all reply.status reply.text ⊎ IsTooLong contents all reply.status reply.text) reply.status reply.text
got_stopped told before now later_count all earlier later parts path reply stands got apart (inl (quiet, (is, held))) =
    let over = absent_over told all earlier later parts path reply.status reply.text stands got.whole apart held is in
    inl (quiet ∙ got.quiet, record { contents = over.contents; agrees = over.agrees; holds = inl over.holds })
got_stopped told before now later_count all earlier later parts path reply stands got apart (inr (inl (quiet, (is, held)))) =
    let over = long_over told all earlier later parts path reply.status reply.text stands got.whole apart held is in
    inl (quiet ∙ got.quiet, record { contents = over.contents; agrees = over.agrees; holds = inr over.holds })
got_stopped told before now later_count all earlier later parts path reply stands got apart (inr (inr (rose, is))) =
    inr (
      subst (λ (n : ℕ). Rose n later_count) got.quiet rose,
      record {
        path = path;
        reached = record { contents = contents_in told parts; agrees = agrees_in told parts; holds = record { earlier = earlier; later = later; parts = parts; stands = stands; whole = got.whole } };
        is = is;
      },
    )

-- ---- paths that differ

either_false : (a b : Bool) → (a || b) ≡ false → (a ≡ false) × (b ≡ false)
either_false true b h = let no_way : true ≡ false = h in absurd (cc)
either_false false b h = (refl, h)

not_among : (first path : Bytes) (earlier later : List Bytes) → list_any (bytes_eq first) (earlier ++ path ∷ later) ≡ false → first ≢ path
not_among first path [] later h = λ e. differs first path ((either_false (bytes_eq first path) (list_any (bytes_eq first) later) h).0) (sym e)
not_among first path (other ∷ earlier) later h = not_among first path earlier later ((either_false (bytes_eq first other) (list_any (bytes_eq first) (earlier ++ path ∷ later)) h).1)

-- where no path stands twice, each is apart from those before it
pub apart_before : (path : Bytes) (earlier later : List Bytes) → stand_twice (earlier ++ path ∷ later) ≡ false → Apart path earlier
apart_before path [] later h = tt
apart_before path (first ∷ earlier) later h =
    let parted = either_false (list_any (bytes_eq first) (earlier ++ path ∷ later)) (stand_twice (earlier ++ path ∷ later)) h in
    (not_among first path earlier later parted.0, apart_before path earlier later parted.1)

-- ---- forms of parts

pub spell_push : (parts : List Part) (part : Part) (forms mine : List Located) → SpellParts parts forms → Spells part.number part.text mine → SpellParts (parts ++ part ∷ []) (forms ++ mine)
spell_push [] part forms mine all one = (mine, [], ap (λ (fs : List Located). fs ++ mine) all ∙ sym (append-nil mine), one, refl)
spell_push (p ∷ parts) part forms mine all one =
    (all.0, all.1 ++ mine, ap (λ (fs : List Located). fs ++ mine) all.2 ∙ append_assoc all.0 all.1 mine, all.3, spell_push parts part all.1 mine all.4 one)

pub live-push : (parts : List Part) (part : Part) → live_size (parts ++ part ∷ []) ≡ live_size parts + length part.text
live-push [] part = omega arith
live-push (p ∷ parts) part = let rest = live-push parts part in omega (arith, rest)

-- ---- loops over files and parts

abbrev lent : List (Bor Bytes) → List Bytes
lent paths = map (λ (s : Bor Bytes). s.now) paths

-- the paths around that of this number
parted : (paths : List (Bor Bytes)) (i : ℕ) (d : Bor Bytes) → i < length paths → lent paths ≡ lent (take i paths) ++ (get_or paths i d).now ∷ lent (drop (i + 1) paths)
parted paths i d below =
    sym (ap lent (take-append-drop (i + 1) paths)) ∙ map-append (λ (s : Bor Bytes). s.now) (take (i + 1) paths) (drop (i + 1) paths)
    ∙ ap (λ (ps : List Bytes). ps ++ lent (drop (i + 1) paths)) (map_more (λ (s : Bor Bytes). s.now) paths i d below)
    ∙ append_assoc (lent (take i paths)) ((get_or paths i d).now ∷ []) (lent (drop (i + 1) paths))

apart_at : (paths : List (Bor Bytes)) (i : ℕ) (d : Bor Bytes) → i < length paths → stand_twice (lent paths) ≡ false → Apart (get_or paths i d).now (lent (take i paths))
apart_at paths i d below h = apart_before (get_or paths i d).now (lent (take i paths)) (lent (drop (i + 1) paths)) (ap stand_twice (sym (parted paths i d below)) ∙ h)

length-lent : (paths : List (Bor Bytes)) (i : ℕ) → i < length paths → length (lent (take i paths)) ≡ i
length-lent paths i below = length-map (take i paths) (λ (s : Bor Bytes). s.now) ∙ length-take-le i paths (omega (arith, below))

pub got_step : (told known : Option Contents) (before now later : ℕ) (paths : List (Bor Bytes)) (i number : ℕ) (d : Bor Bytes) (parts more : List Part) (part : Part)
    → i < length paths → number ≡ i → stand_twice (lent paths) ≡ false → known ≡ told → Got told before now (lent (take i paths)) parts
    → part.name ≡ (get_or paths i d).now → part.number ≡ number + 1 → FetchesOne (get_or paths i d).now known now later (body.Text part.text) → more ≡ parts ++ part ∷ []
    → Got told before later (lent (take (i + 1) paths)) more
got_step told known before now later paths i number d parts more part below counted apart same got named numbered one e =
    subst (λ (ps : List Part). Got told before later (lent (take (i + 1) paths)) ps) (sym e)
    (subst (λ (ps : List Bytes). Got told before later ps (parts ++ part ∷ [])) (sym (map_more (λ (s : Bor Bytes). s.now) paths i d below))
    (got_more told before now later (lent (take i paths)) parts (get_or paths i d).now part got (apart_at paths i d below apart) named
    (let count = length-lent paths i below in omega (arith, count, numbered, counted))
    (subst (λ (t : Option Contents). FetchesOne (get_or paths i d).now t now later (body.Text part.text)) same one)))

pub got_end : (told known : Option Contents) (before now later : ℕ) (paths : List (Bor Bytes)) (i : ℕ) (d : Bor Bytes) (parts : List Part) (reply : Reply)
    → i < length paths → stand_twice (lent paths) ≡ false → known ≡ told → Got told before now (lent (take i paths)) parts
    → FetchesOne (get_or paths i d).now known now later (body.Stopped reply)
    → OnFetches (lent paths) told before later (λ contents. IsAbsent contents (lent paths) reply.status reply.text ⊎ IsTooLong contents (lent paths) reply.status reply.text) reply.status reply.text
got_end told known before now later paths i d parts reply below apart same got one =
    got_stopped told before now later (lent paths) (lent (take i paths)) (lent (drop (i + 1) paths)) parts (get_or paths i d).now reply (parted paths i d below) got (apart_at paths i d below apart)
    (subst (λ (t : Option Contents). FetchesOne (get_or paths i d).now t now later (body.Stopped reply)) same one)

pub live_step : (parts : List Part) (i : ℕ) (part : Part) (size : ℕ) (bytes : Bytes) → IsItem parts i part → size ≡ live_size (take i parts) → bytes ≡ part.text
    → size + length bytes ≡ live_size (take (i + 1) parts)
live_step parts i part size bytes item e is =
    (λ j. e j + length (is j)) ∙ sym (live-push (take i parts) part) ∙ ap live_size (sym (item_more parts i part item))

around : (parts : List Part) (i : ℕ) (part : Part) → IsItem parts i part → parts ≡ take i parts ++ part ∷ drop (i + 1) parts
around parts i part item =
    sym (take-append-drop (i + 1) parts) ∙ ap (λ (ps : List Part). ps ++ drop (i + 1) parts) (item_more parts i part item) ∙ append_assoc (take i parts) (part ∷ []) (drop (i + 1) parts)

pub fault_at_part : (parts : List Part) (i : ℕ) (part : Part) (forms : List Located) (reply : Reply) → IsItem parts i part → SpellParts (take i parts) forms
    → IsFaulty part reply.status reply.text → HasFault parts reply.status reply.text
fault_at_part parts i part forms reply item spelled faulty = record {
  earlier = take i parts;
  part = part;
  later = drop (i + 1) parts;
  stands = around parts i part item;
  forms = forms;
  spelled = spelled;
  faulty = faulty;
}

pub spell_step : (parts : List Part) (i : ℕ) (part : Part) (forms : List Located) (more : Vec Located Global) (new : List Located) → IsItem parts i part → SpellParts (take i parts) forms
    → Spells part.number part.text more.items → new ≡ forms ++ more.items → SpellParts (take (i + 1) parts) new
spell_step parts i part forms more new item spelled mine e =
    subst (λ (fs : List Located). SpellParts (take (i + 1) parts) fs) (sym e)
    (subst (λ (ps : List Part). SpellParts ps (forms ++ more.items)) (sym (item_more parts i part item)) (spell_push (take i parts) part forms more.items spelled mine))
