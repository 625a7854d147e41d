-- A choice of some variables passes where a whole choice that agrees with it fits.
use Rattle.std.proofs.Common.{◌≡◌, ℕ, ◌<◌, ◌≤◌, List, [], ◌∷◌, ◌++◌, length, get_or, Bool, true, false, not, ◌&&◌, ◌||◌, nat_eq, nat_lt, Option, Some, None, is_some, filter, if◌then◌else◌, refl, sym, ap, ap₂, subst, ◌∙◌, arith, length-append}
use Rattle.std.proofs.lemmas.Bool.Decides.{nat_tests}
use Rattle.std.specs.List.{list_all, list_any}
use Rattle.std.specs.Str.{bytes_eq}
use Rattle.kif_tree.specs.declared.form.Form.{Form}
use Rattle.kif_tree.specs.Terms.{Bytes}
use Rattle.signatures.specs.Tables.{arity_in}
use Rattle.signatures.specs.declared.signatures.Signatures.{Signatures}
use Rattle.signatures.specs.declared.told.Arity.{Arity}
use Rattle.signatures.specs.declared.told.Arity.TheVariants.{Exactly, Any, Unstated}
use Rattle.taxonomy.specs.ChainDecision.{leads_by, is_kind, of_kind, starts, reaches}
use Rattle.taxonomy.specs.Chains.{later_kind}
use Rattle.taxonomy.specs.Told.{Link, word_text}
use Rattle.taxonomy.specs.declared.told.ChainKind.{ChainKind}
use Rattle.var_expand.specs.Choices.{Choice, sets, options, becomes_by, after, is_row}
use Rattle.var_expand.specs.Chosen.{set_to, is_set, first_word}
use Rattle.var_expand.specs.Gathered.{Demand}
use Rattle.var_expand.specs.Offered.{Offered}
use Rattle.var_expand.specs.Search.{Has, IsDrawn, Agrees, IsHopeless, IsOffer, keeps, relations_of, passes, has_room, takes_by, word_takes, count_passes, word_names, name_passes, words_lead, begins_chain, condition_passes}
use Rattle.var_expand.specs.declared.fitting.Problem.{Problem}
use Rattle.var_expand.proofs.AgreeLaws.{agrees_more, agrees_none, IsShaped, shaped_of, word_stays, length_of, chosen_of}
use Rattle.var_expand.proofs.ChoiceLaws.{becomes_unset}
use Rattle.var_expand.proofs.MemberLaws.{has_filter, has_at}

both : (a b : Bool) → (a && b) ≡ true → (a ≡ true) × (b ≡ true)
both true true e = (refl, refl)
both true false e = absurd (cc)
both false b e = absurd (cc)

and_true : (a b : Bool) → a ≡ true → b ≡ true → (a && b) ≡ true
and_true a b e h = ap (λ x. x && b) e ∙ h

true_false : true ≡ false → ⊥
true_false e = cc

pub by_test : {A : Type 0} (b : Bool) → (b ≡ true → A) → (b ≡ false → A) → A
by_test true f g = f refl
by_test false f g = g refl

none_unset : (set : Option (List Form)) → is_some set ≡ false → None ≡ set
none_unset None e = refl
none_unset (Some b) e = absurd (cc)

pub unset_is : (p : Choice) (f : Form) → is_set p f ≡ false → becomes_by p f ≡ f ∷ []
unset_is p f e = becomes_unset p f (none_unset (set_to p f) e)

-- ---- a word that is known stays known

known : (relations : List Bytes) (p w : Choice) (f : Form) (text : Bytes) → IsDrawn relations w → Agrees p w
    → first_word (becomes_by p f) ≡ Some text → first_word (becomes_by w f) ≡ Some text
known relations p w f text drawn agrees e = by_test (is_set p f)
    (λ h. ap first_word (sym (agrees.alike f h)) ∙ e)
    (λ h. let word : word_text f ≡ Some text = sym (ap first_word (unset_is p f h)) ∙ e in ap first_word (word_stays relations w f text drawn word) ∙ word)

-- ---- lengths

one_or_more : (b : List Form) → IsShaped b → 1 ≤ length b
one_or_more b shaped = let e : length b ≡ length (shaped.first ∷ shaped.later) = ap length shaped.is in omega (arith, e)

least : (relations : List Bytes) (p w : Choice) (f : Form) → IsDrawn relations w → Agrees p w → length (becomes_by p f) ≤ length (becomes_by w f)
least relations p w f drawn agrees = by_test (is_set p f)
    (λ h. let e : length (becomes_by p f) ≡ length (becomes_by w f) = ap length (agrees.alike f h) in omega (arith, e))
    (λ h. let e : length (becomes_by p f) ≡ 1 = ap length (unset_is p f h) in let m = one_or_more (becomes_by w f) (shaped_of relations w f drawn) in omega (arith, e, m))

equal_row : (relations : List Bytes) (p w : Choice) (f : Form) → IsDrawn relations w → is_set p f ≡ false → (row : Bool) → is_row f ≡ row → (row && true) ≡ false → length (becomes_by p f) ≡ length (becomes_by w f)
equal_row relations p w f drawn unset true row e = absurd (true_false e)
equal_row relations p w f drawn unset false row e = ap length (unset_is p f unset) ∙ sym (length_of relations w f drawn row)

equal : (relations : List Bytes) (p w : Choice) (f : Form) → IsDrawn relations w → Agrees p w → (is_row f && not (is_set p f)) ≡ false → length (becomes_by p f) ≡ length (becomes_by w f)
equal relations p w f drawn agrees e = by_test (is_set p f)
    (λ h. ap length (agrees.alike f h))
    (λ h. equal_row relations p w f drawn h (is_row f) refl (sym (ap (λ b. is_row f && not b) h) ∙ e))

least_all : (relations : List Bytes) (p w : Choice) (fs : List Form) → IsDrawn relations w → Agrees p w → length (after p fs) ≤ length (after w fs)
least_all relations p w [] drawn agrees = omega arith
least_all relations p w (f ∷ fs) drawn agrees =
    let here = least relations p w f drawn agrees in
    let rest = least_all relations p w fs drawn agrees in
    omega (arith, here, rest, length-append (becomes_by p f) (after p fs), length-append (becomes_by w f) (after w fs))

or_false : (a b : Bool) → (a || b) ≡ false → (a ≡ false) × (b ≡ false)
or_false false b e = (refl, e)
or_false true b e = absurd (cc)

equal_all : (relations : List Bytes) (p w : Choice) (fs : List Form) → IsDrawn relations w → Agrees p w → has_room p fs ≡ false → length (after p fs) ≡ length (after w fs)
equal_all relations p w [] drawn agrees e = refl
equal_all relations p w (f ∷ fs) drawn agrees e =
    let no = or_false (is_row f && not (is_set p f)) (has_room p fs) e in
    let here = equal relations p w f drawn agrees no.0 in
    let rest = equal_all relations p w fs drawn agrees no.1 in
    omega (arith, here, rest, length-append (becomes_by p f) (after p fs), length-append (becomes_by w f) (after w fs))

-- ---- counts

exactly : (n low high : ℕ) (room : Bool) → low ≤ high → (room ≡ false → low ≡ high) → (nat_eq high n || (nat_lt high n && false)) ≡ true → (nat_eq low n || (nat_lt low n && room)) ≡ true
exactly n low high room le same e = grind (arith, nat_tests)

takes_more : (arity : Arity) (low high : ℕ) (room : Bool) → low ≤ high → (room ≡ false → low ≡ high) → takes_by arity high false ≡ true → takes_by arity low room ≡ true
takes_more (Exactly n) low high room le same e = exactly n low high room le same e
takes_more Any low high room le same e = refl
takes_more Unstated low high room le same e = refl

word_takes_more : (signatures : Signatures) (known_word whole_word : Option Bytes) (low high : ℕ) (room : Bool) → ((text : Bytes) → known_word ≡ Some text → whole_word ≡ Some text)
    → low ≤ high → (room ≡ false → low ≡ high) → word_takes signatures whole_word high false ≡ true → word_takes signatures known_word low room ≡ true
word_takes_more signatures None whole low high room same le eq e = refl
word_takes_more signatures (Some text) whole low high room same le eq e =
    takes_more (arity_in signatures text) low high room le eq (sym (ap (λ word. word_takes signatures word high false) (same text refl)) ∙ e)

count_sound : (relations : List Bytes) (signatures : Signatures) (p w : Choice) (parts : List Form) → IsDrawn relations w → Agrees p w
    → count_passes signatures false w parts ≡ true → count_passes signatures true p parts ≡ true
count_sound relations signatures p w [] drawn agrees e = refl
count_sound relations signatures p w (head ∷ arguments) drawn agrees e =
    word_takes_more signatures (first_word (becomes_by p head)) (first_word (becomes_by w head)) (length (after p arguments)) (length (after w arguments)) (has_room p arguments)
    (λ text h. known relations p w head text drawn agrees h) (least_all relations p w arguments drawn agrees) (equal_all relations p w arguments drawn agrees) e

-- ---- names

names_more : (function : Bool) (known_word whole_word : Option Bytes) → ((text : Bytes) → known_word ≡ Some text → whole_word ≡ Some text)
    → word_names false function whole_word ≡ true → word_names true function known_word ≡ true
names_more function None whole same e = refl
names_more function (Some text) whole same e = sym (ap (word_names false function) (same text refl)) ∙ e

name_sound : (relations : List Bytes) (function : Bool) (p w : Choice) (parts : List Form) → IsDrawn relations w → Agrees p w
    → name_passes false function w parts ≡ true → name_passes true function p parts ≡ true
name_sound relations function p w [] drawn agrees e = refl
name_sound relations function p w (head ∷ arguments) drawn agrees e =
    names_more function (first_word (becomes_by p head)) (first_word (becomes_by w head)) (λ text h. known relations p w head text drawn agrees h) e

-- ---- conditions

any_kept : {X : Type 0} (p q r : X → Bool) → ((x : X) → q x ≡ true → r x ≡ true) → (xs : List X) → list_any q (filter p xs) ≡ true → list_any (λ x. r x && p x) xs ≡ true
any_kept p q r f [] e = absurd (cc)
any_kept {X = X} p q r f (x ∷ xs) e = go (p x) (q x) refl e (any_kept p q r f xs)
  where
    or_second : (a b : Bool) → b ≡ true → (a || b) ≡ true
    or_second true b h = refl
    or_second false b h = h

    go : (b c : Bool) → q x ≡ c → list_any q (if b then x ∷ filter p xs else filter p xs) ≡ true → (list_any q (filter p xs) ≡ true → list_any (λ y. r y && p y) xs ≡ true)
        → ((r x && b) || list_any (λ y. r y && p y) xs) ≡ true
    go true true k h later = ap (λ d. (d && true) || list_any (λ y. r y && p y) xs) (f x k)
    go true false k h later = or_second (r x && true) (list_any (λ y. r y && p y) xs) (later (sym (ap (λ d. d || list_any q (filter p xs)) k) ∙ h))
    go false c k h later = or_second (r x && false) (list_any (λ y. r y && p y) xs) (later h)

-- a chain begins with a told link
chain_begins : (links : List Link) (kind : ChainKind) (low high : Bytes) → leads_by links kind low high ≡ true → begins_chain links kind low ≡ true
unfolding leads_by
chain_begins links kind low high e =
    any_kept (λ (link : Link). is_kind kind link.kind) (starts (of_kind (later_kind kind) links) low high) (λ (link : Link). bytes_eq link.low low)
    (λ link h. (both (bytes_eq link.low low) (reaches (of_kind (later_kind kind) links) link.high high) h).0) links e

low_begins : (links : List Link) (demand : Demand) (low : Bytes) (high : Option Bytes) → words_lead links false demand (Some low) high ≡ true → begins_chain links demand.kind low ≡ true
low_begins links demand low None e = absurd (cc)
low_begins links demand low (Some high) e = chain_begins links demand.kind low high e

leads_more : (links : List Link) (demand : Demand) (low high whole_low whole_high : Option Bytes)
    → ((text : Bytes) → low ≡ Some text → whole_low ≡ Some text) → ((text : Bytes) → high ≡ Some text → whole_high ≡ Some text)
    → words_lead links false demand whole_low whole_high ≡ true → words_lead links true demand low high ≡ true
leads_more links demand None None wl wh f g e = refl
leads_more links demand None (Some h) wl wh f g e = refl
leads_more links demand (Some l) None wl wh f g e = low_begins links demand l wh (sym (ap (λ low. words_lead links false demand low wh) (f l refl)) ∙ e)
leads_more links demand (Some l) (Some h) wl wh f g e = sym (ap₂ (words_lead links false demand) (f l refl) (g h refl)) ∙ e

condition_sound : (relations : List Bytes) (links : List Link) (p w : Choice) (demand : Demand) → IsDrawn relations w → Agrees p w
    → condition_passes links false w demand ≡ true → condition_passes links true p demand ≡ true
condition_sound relations links p w demand drawn agrees e =
    leads_more links demand (first_word (becomes_by p demand.low)) (first_word (becomes_by p demand.high)) (first_word (becomes_by w demand.low)) (first_word (becomes_by w demand.high))
    (λ text h. known relations p w demand.low text drawn agrees h) (λ text h. known relations p w demand.high text drawn agrees h) e

-- ---- all together

all_sound : {X : Type 0} (weak strong : X → Bool) → ((x : X) → strong x ≡ true → weak x ≡ true) → (xs : List X) → list_all strong xs ≡ true → list_all weak xs ≡ true
all_sound weak strong f [] e = refl
all_sound weak strong f (x ∷ xs) e = let b = both (strong x) (list_all strong xs) e in and_true (weak x) (list_all weak xs) (f x b.0) (all_sound weak strong f xs b.1)

pub passes_sound : (problem : Problem) (p w : Choice) → IsDrawn (relations_of problem) w → Agrees p w → passes problem false w ≡ true → passes problem true p ≡ true
unfolding passes
passes_sound problem p w drawn agrees e =
    let relations = relations_of problem in
    let links = problem.taxonomy.now.links in
    let signatures = problem.signatures.now in
    let one = both (list_all (name_passes false true w) problem.arguments) (list_all (name_passes false false w) problem.sentences && (list_all (condition_passes links false w) problem.conditions && list_all (count_passes signatures false w) problem.lists)) e in
    let two = both (list_all (name_passes false false w) problem.sentences) (list_all (condition_passes links false w) problem.conditions && list_all (count_passes signatures false w) problem.lists) one.1 in
    let three = both (list_all (condition_passes links false w) problem.conditions) (list_all (count_passes signatures false w) problem.lists) two.1 in
    and_true _ _ (all_sound (name_passes true true p) (name_passes false true w) (λ parts h. name_sound relations true p w parts drawn agrees h) problem.arguments one.0)
    (and_true _ _ (all_sound (name_passes true false p) (name_passes false false w) (λ parts h. name_sound relations false p w parts drawn agrees h) problem.sentences two.0)
    (and_true _ _ (all_sound (condition_passes links true p) (condition_passes links false w) (λ demand h. condition_sound relations links p w demand drawn agrees h) problem.conditions three.0)
    (all_sound (count_passes signatures true p) (count_passes signatures false w) (λ parts h. count_sound relations signatures p w parts drawn agrees h) problem.lists three.1)))

-- ---- hopeless choices

never : (b : Bool) → (b ≡ true → ⊥) → b ≡ false
never true h = absurd (h refl)
never false h = refl

pub hopeless_now : (problem : Problem) (p : Choice) → passes problem true p ≡ false → IsHopeless problem p
hopeless_now problem p e = record { none = λ w whole agrees. never (passes problem false w) (λ h. true_false (sym (passes_sound problem p w whole.drawn agrees h) ∙ e)) }

-- no option of a variable is left
pub hopeless_offer : (problem : Problem) (offer : Offered) (p : Choice) → IsOffer problem offer
    → ((k : ℕ) (d : List Form) → k < length offer.allowed → IsHopeless problem (p ++ sets offer.variable (get_or offer.allowed k d) ∷ [])) → IsHopeless problem p
hopeless_offer problem offer p is h = record {
  none = λ w whole agrees.
      let b = becomes_by w offer.variable in
      let has : Has (options (relations_of problem) offer.variable) b = chosen_of (relations_of problem) w offer.variable whole.drawn (subst (λ vs. Has vs offer.variable) (sym whole.covers) is.is_variable) in
      by_test (keeps problem offer.variable b)
      (λ kept. let at = has_at offer.allowed b (subst (λ xs. Has xs b) (sym is.allows) (has_filter (keeps problem offer.variable) (options (relations_of problem) offer.variable) b has kept)) in
      (h at.0 b at.1).none w whole (agrees_more p w offer.variable (get_or offer.allowed at.0 b) agrees (sym at.2)))
      (λ left. (hopeless_now problem (sets offer.variable b ∷ []) left).none w whole (agrees_more [] w offer.variable b (agrees_none w) refl));
}

-- no option of a variable was left by a loop over all of them
pub hopeless_loop : (problem : Problem) (offer : Offered) (p : Choice) (items : List (List Form)) (i : ℕ) → IsOffer problem offer → items ≡ offer.allowed → length items ≤ i
    → ((k : ℕ) (d : List Form) → k < i → IsHopeless problem (p ++ sets offer.variable (get_or items k d) ∷ [])) → IsHopeless problem p
hopeless_loop problem offer p items i is e le h =
    hopeless_offer problem offer p is (λ k d lt. let long : length items ≡ length offer.allowed = ap length e in
    subst (λ xs. IsHopeless problem (p ++ sets offer.variable (get_or xs k d) ∷ [])) e (h k d (omega arith)))
