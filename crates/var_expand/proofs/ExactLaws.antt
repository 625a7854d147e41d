-- The tests of a whole choice tell just whether it fits.
use Rattle.std.proofs.Common.{◌≡◌, ℕ, ◌⊎◌, List, [], ◌∷◌, ◌++◌, map, filter, length, Bool, true, false, not, ◌&&◌, ◌||◌, nat_eq, nat_lt, if◌then◌else◌, Option, Some, None, refl, sym, ap, ap₂, subst, ◌∙◌, inl, inr}
use Rattle.std.specs.Prelude.{◌↔◌, codes}
use Rattle.std.specs.List.{list_all, flat_map}
use Rattle.std.specs.Str.{bytes_eq}
use Rattle.std.proofs.lemmas.Slice.Eq.{bytes_eq-Decides}
use Rattle.kif_tree.specs.declared.form.Form.{Form, out-Form, roll-Form, roll-out-Form}
use Rattle.kif_tree.specs.declared.form.Form.TheVariants as form
use Rattle.kif_tree.specs.declared.form.Form.TheOpen.{Form-F}
use Rattle.kif_tree.specs.Names.{parts_in, is_function_word}
use Rattle.kif_tree.specs.Profile.{compounds, operands, is_logical, begins, passes as word_passes, arguments_in, sentences}
use Rattle.kif_tree.specs.Terms.{Bytes}
use Rattle.sigma_base.specs.Lists.{Each}
use Rattle.signatures.specs.Tables.{arity_in}
use Rattle.signatures.specs.declared.signatures.Signatures.{Signatures}
use Rattle.signatures.specs.declared.told.Arity.{Arity}
use Rattle.signatures.specs.declared.told.Arity.TheVariants.{Exactly, Any, Unstated}
use Rattle.taxonomy.specs.ChainDecision.{leads_by-exact}
use Rattle.taxonomy.specs.Chains.{Chain}
use Rattle.taxonomy.specs.Told.{Link, word_text, word_layer, word_texts, text_before, kind_of}
use Rattle.taxonomy.specs.declared.told.ChainKind.{ChainKind}
use Rattle.taxonomy.specs.declared.told.ChainKind.TheVariants as kinds
use Rattle.var_expand.specs.Choices.{Choice, becomes_by, after, predicate_variables}
use Rattle.var_expand.specs.Chosen.{first_word}
use Rattle.var_expand.specs.Conditions.{conditions, conjuncts, antecedents, is_condition, is_one_of, is_word, IsMet, IsMetBy}
use Rattle.var_expand.specs.Fitting.{Fits, counts_fit, arguments_fit, sentences_fit, has_count, head_takes, takes, varies, has_variable_head, is_application, becomes_term}
use Rattle.var_expand.specs.Gathered.{Demand, is_as, if_applied, applied_below, kind_word, kind_of_head, demand_by, demand_parts, demands, all_demands, relates}
use Rattle.var_expand.specs.Search.{IsDrawn, takes_by, word_takes, count_passes, word_names, name_passes, words_lead, condition_passes, passes, relations_of}
use Rattle.var_expand.specs.Problems.{IsProblem}
use Rattle.var_expand.specs.Tested.{kind_leads, is_met_by, is_met, conditions_fit, fits_by}
use Rattle.var_expand.specs.declared.fitting.Problem.{Problem}
use Rattle.var_expand.proofs.AgreeLaws.{IsShaped, shaped_of, word_stays}
use Rattle.var_expand.proofs.GatherLaws.{flat_map-flat_map}
use Rattle.var_expand.proofs.WordLaws.{word_text-Word}

-- ---- tests and what they tell

both : (a b : Bool) → (a && b) ≡ true → (a ≡ true) × (b ≡ true)
both true true e = (refl, refl)
both true false e = absurd (cc)
both false b e = absurd (cc)

and_true : (a b : Bool) → a ≡ true → b ≡ true → (a && b) ≡ true
and_true a b e h = ap (λ x. x && b) e ∙ h

each_all : {X : Type 0} (p : X → Bool) (P : X → Type 0) → ((x : X) → p x ≡ true → P x) → (xs : List X) → list_all p xs ≡ true → Each P xs
each_all p P f [] e = tt
each_all p P f (x ∷ xs) e = let b = both (p x) (list_all p xs) e in (f x b.0, each_all p P f xs b.1)

all_each : {X : Type 0} (p : X → Bool) (P : X → Type 0) → ((x : X) → P x → p x ≡ true) → (xs : List X) → Each P xs → list_all p xs ≡ true
all_each p P f [] h = refl
all_each p P f (x ∷ xs) h = and_true (p x) (list_all p xs) (f x h.0) (all_each p P f xs h.1)

false_true : false ≡ true → ⊥
false_true e = cc

none_some : {X : Type 0} (x : X) → None ≡ Some x → ⊥
none_some x e = cc

led : (links : List Link) (kind : Option ChainKind) (low high : Bytes) → kind_leads links kind low high ≡ true → (k : ChainKind) × (kind ≡ Some k) × Chain links k low high
led links (Some kind) low high e = (kind, refl, (leads_by-exact links kind low high).0 e)
led links None low high e = absurd (false_true e)

leads : (links : List Link) (kind : Option ChainKind) (low high : Bytes) → (k : ChainKind) × (kind ≡ Some k) × Chain links k low high → kind_leads links kind low high ≡ true
leads links (Some kind) low high (k, e, chain) = let same : k ≡ kind = cc in (leads_by-exact links kind low high).1 (subst (λ x. Chain links x low high) same chain)
leads links None low high (k, e, chain) = absurd (none_some k e)

met_by : (links : List Link) (texts : Option (List Bytes)) → is_met_by links texts ≡ true → IsMetBy links texts
met_by links (Some (head ∷ low ∷ high ∷ [])) e = led links (kind_of head) low high e
met_by links (Some []) e = absurd (false_true e)
met_by links (Some (head ∷ [])) e = absurd (false_true e)
met_by links (Some (head ∷ low ∷ [])) e = absurd (false_true e)
met_by links (Some (head ∷ low ∷ high ∷ more ∷ rest)) e = absurd (false_true e)
met_by links None e = absurd (false_true e)

is_met_of : (links : List Link) (texts : Option (List Bytes)) → IsMetBy links texts → is_met_by links texts ≡ true
is_met_of links (Some (head ∷ low ∷ high ∷ [])) h = leads links (kind_of head) low high h
is_met_of links (Some []) h = absurd h
is_met_of links (Some (head ∷ [])) h = absurd h
is_met_of links (Some (head ∷ low ∷ [])) h = absurd h
is_met_of links (Some (head ∷ low ∷ high ∷ more ∷ rest)) h = absurd h
is_met_of links None h = absurd h

pub fits_tells : (links : List Link) (signatures : Signatures) (f : Form) (choice : Choice) → (fits_by links signatures f choice ≡ true) ↔ Fits links signatures f choice
fits_tells links signatures f choice = (there, back)
  where
    there : fits_by links signatures f choice ≡ true → Fits links signatures f choice
    there e =
        let one = both (arguments_fit f choice) (sentences_fit f choice && (conditions_fit links f choice && counts_fit signatures f choice)) e in
        let two = both (sentences_fit f choice) (conditions_fit links f choice && counts_fit signatures f choice) one.1 in
        let three = both (conditions_fit links f choice) (counts_fit signatures f choice) two.1 in
        record { counts = three.1; arguments = one.0; sentences = two.0; conditions = each_all (λ parts. is_met links (after choice parts)) (λ parts. IsMet links (after choice parts)) (λ parts h. met_by links (word_texts (after choice parts)) h) (conditions f) three.0 }

    back : Fits links signatures f choice → fits_by links signatures f choice ≡ true
    back fits = and_true _ _ fits.arguments (and_true _ _ fits.sentences (and_true _ _
        (all_each (λ parts. is_met links (after choice parts)) (λ parts. IsMet links (after choice parts)) (λ parts h. is_met_of links (word_texts (after choice parts)) h) (conditions f) fits.conditions) fits.counts))

-- ---- tests that agree

all_alike : {X : Type 0} (p q : X → Bool) → ((x : X) → p x ≡ q x) → (xs : List X) → list_all p xs ≡ list_all q xs
all_alike p q f [] = refl
all_alike p q f (x ∷ xs) = ap₂ ◌&&◌ (f x) (all_alike p q f xs)

all_map : {X Y : Type 0} (p : Y → Bool) (f : X → Y) (xs : List X) → list_all p (map f xs) ≡ list_all (λ x. p (f x)) xs
all_map p f [] = refl
all_map p f (x ∷ xs) = ap (λ b. p (f x) && b) (all_map p f xs)

-- ---- counts

exactly : (a b : Bool) → (a || (b && false)) ≡ a
exactly true b = refl
exactly false true = refl
exactly false false = refl

takes_exact : (arity : Arity) (n : ℕ) → takes_by arity n false ≡ takes arity n
takes_exact (Exactly a) n = exactly (nat_eq n a) (nat_lt n a)
takes_exact Any n = refl
takes_exact Unstated n = refl

word_exact : (signatures : Signatures) (layer : Form-F Form) (n : ℕ) → word_takes signatures (word_layer layer) n false ≡ head_takes signatures layer n
word_exact signatures (Form-F.Word text) n = takes_exact (arity_in signatures text) n
word_exact signatures (Form-F.Variable text) n = refl
word_exact signatures (Form-F.Row text) n = refl
word_exact signatures (Form-F.Numeral text) n = refl
word_exact signatures (Form-F.Quoted text) n = refl
word_exact signatures (Form-F.List parts) n = refl

some_none : {X : Type 0} (x : X) → Some x ≡ None → ⊥
some_none x e = cc

no_word_takes : (signatures : Signatures) (layer : Form-F Form) (n : ℕ) → word_layer layer ≡ None → head_takes signatures layer n ≡ true
no_word_takes signatures (Form-F.Word text) n e = absurd (some_none text e)
no_word_takes signatures (Form-F.Variable text) n e = refl
no_word_takes signatures (Form-F.Row text) n e = refl
no_word_takes signatures (Form-F.Numeral text) n e = refl
no_word_takes signatures (Form-F.Quoted text) n e = refl
no_word_takes signatures (Form-F.List parts) n e = refl

count_by : (signatures : Signatures) (first : Form) (later arguments : List Form) → (later ≡ []) ⊎ (word_text first ≡ None)
    → word_takes signatures (word_text first) (length arguments) false ≡ head_takes signatures (out-Form first) (length (later ++ arguments))
unfolding word_text
count_by signatures first later arguments (inl e) =
    word_exact signatures (out-Form first) (length arguments) ∙ sym (ap (λ xs. head_takes signatures (out-Form first) (length (xs ++ arguments))) e)
count_by signatures first later arguments (inr e) =
    ap (λ word. word_takes signatures word (length arguments) false) e ∙ sym (no_word_takes signatures (out-Form first) (length (later ++ arguments)) e)

count_exact : (relations : List Bytes) (signatures : Signatures) (choice : Choice) → IsDrawn relations choice → (parts : List Form) → count_passes signatures false choice parts ≡ has_count signatures (after choice parts)
count_exact relations signatures choice drawn [] = refl
count_exact relations signatures choice drawn (head ∷ arguments) =
    let shaped = shaped_of relations choice head drawn in
    ap (λ b. word_takes signatures (first_word b) (length (after choice arguments)) false) shaped.is
    ∙ count_by signatures shaped.first shaped.later (after choice arguments) shaped.word
    ∙ sym (ap (λ b. has_count signatures (b ++ after choice arguments)) shaped.is)

-- ---- names

unnamed : (function : Bool) → (false || not function) ≡ is_as function false
unnamed true = refl
unnamed false = refl

names_by : (function : Bool) (layer : Form-F Form) → word_names false function (word_layer layer) ≡ is_as function (word_passes is_function_word layer)
names_by function (Form-F.Word text) = refl
names_by function (Form-F.Variable text) = unnamed function
names_by function (Form-F.Row text) = unnamed function
names_by function (Form-F.Numeral text) = unnamed function
names_by function (Form-F.Quoted text) = unnamed function
names_by function (Form-F.List parts) = unnamed function

names_first : (function : Bool) (first : Form) → word_names false function (word_text first) ≡ is_as function (word_passes is_function_word (out-Form first))
unfolding word_text
names_first function first = names_by function (out-Form first)

name_exact : (relations : List Bytes) (function : Bool) (choice : Choice) → IsDrawn relations choice → (parts : List Form) → name_passes false function choice parts ≡ is_as function (begins is_function_word (after choice parts))
name_exact relations function choice drawn [] = unnamed function
name_exact relations function choice drawn (head ∷ arguments) =
    let shaped = shaped_of relations choice head drawn in
    ap (λ b. word_names false function (first_word b)) shaped.is
    ∙ names_first function shaped.first
    ∙ sym (ap (λ b. is_as function (begins is_function_word (b ++ after choice arguments))) shaped.is)

-- the lists that a variable heads, as they are gathered
applied : (fs : List Form) → flat_map if_applied fs ≡ map parts_in (filter is_application fs)
applied [] = refl
applied (f ∷ fs) = go (has_variable_head (parts_in f)) (applied fs)
  where
    go : (b : Bool) → flat_map if_applied fs ≡ map parts_in (filter is_application fs)
        → (if b then parts_in f ∷ [] else []) ++ flat_map if_applied fs ≡ map parts_in (if b then f ∷ filter is_application fs else filter is_application fs)
    go true e = ap (λ ys. parts_in f ∷ ys) e
    go false e = e

below : (logical : Bool) (lists : List (List Form)) → flat_map (applied_below logical) lists ≡ flat_map (λ parts. flat_map if_applied (operands parts)) (filter (λ parts. is_as logical (is_logical parts)) lists)
below logical [] = refl
below logical (parts ∷ lists) = go (is_as logical (is_logical parts)) (below logical lists)
  where
    go : (b : Bool) → flat_map (applied_below logical) lists ≡ flat_map (λ parts. flat_map if_applied (operands parts)) (filter (λ parts. is_as logical (is_logical parts)) lists)
        → (if b then flat_map if_applied (operands parts) else []) ++ flat_map (applied_below logical) lists
        ≡ flat_map (λ parts. flat_map if_applied (operands parts)) (if b then parts ∷ filter (λ parts. is_as logical (is_logical parts)) lists else filter (λ parts. is_as logical (is_logical parts)) lists)
    go true e = ap (λ ys. flat_map if_applied (operands parts) ++ ys) e
    go false e = e

below_all : (logical : Bool) (lists : List (List Form)) → flat_map (applied_below logical) lists ≡ flat_map if_applied (flat_map operands (filter (λ parts. is_as logical (is_logical parts)) lists))
below_all logical lists = below logical lists ∙ sym (flat_map-flat_map if_applied operands (filter (λ parts. is_as logical (is_logical parts)) lists))

names_exact : (relations : List Bytes) (function : Bool) (choice : Choice) → IsDrawn relations choice → (fs : List Form)
    → list_all (name_passes false function choice) (flat_map if_applied fs) ≡ list_all (λ f. is_as function (becomes_term choice f)) (filter is_application fs)
names_exact relations function choice drawn fs =
    ap (list_all (name_passes false function choice)) (applied fs)
    ∙ all_map (name_passes false function choice) parts_in (filter is_application fs)
    ∙ all_alike (λ f. name_passes false function choice (parts_in f)) (λ f. is_as function (becomes_term choice f)) (λ f. name_exact relations function choice drawn (parts_in f)) (filter is_application fs)

pub arguments_exact : (relations : List Bytes) (f : Form) (choice : Choice) → IsDrawn relations choice
    → list_all (name_passes false true choice) (flat_map (applied_below false) (compounds f)) ≡ arguments_fit f choice
arguments_exact relations f choice drawn = ap (list_all (name_passes false true choice)) (below_all false (compounds f)) ∙ names_exact relations true choice drawn (arguments_in f)

pub sentences_exact : (relations : List Bytes) (f : Form) (choice : Choice) → IsDrawn relations choice
    → list_all (name_passes false false choice) (if_applied f ++ flat_map (applied_below true) (compounds f)) ≡ sentences_fit f choice
sentences_exact relations f choice drawn = ap (λ ys. list_all (name_passes false false choice) (if_applied f ++ ys)) (below_all true (compounds f)) ∙ names_exact relations false choice drawn (sentences f)

-- ---- conditions

text_before_none : (texts : Option (List Bytes)) → text_before None texts ≡ None
text_before_none (Some texts) = refl
text_before_none None = refl

kind_of_word : (kind : ChainKind) → kind_of (kind_word kind) ≡ Some kind
kind_of_word kinds.Class = refl
kind_of_word kinds.Instance = refl
kind_of_word kinds.Relation = refl

texts_by : (first : Form) (later rest : List Form) → (later ≡ []) ⊎ (word_text first ≡ None) → text_before (word_text first) (word_texts (later ++ rest)) ≡ text_before (word_text first) (word_texts rest)
texts_by first later rest (inl e) = ap (λ xs. text_before (word_text first) (word_texts (xs ++ rest))) e
texts_by first later rest (inr e) = ap (λ word. text_before word (word_texts (later ++ rest))) e ∙ text_before_none (word_texts (later ++ rest))
    ∙ sym (ap (λ word. text_before word (word_texts rest)) e ∙ text_before_none (word_texts rest))

-- the texts of what a part becomes and of the others
texts_shaped : (b rest : List Form) → IsShaped b → word_texts (b ++ rest) ≡ text_before (first_word b) (word_texts rest)
texts_shaped b rest shaped = ap (λ xs. word_texts (xs ++ rest)) shaped.is ∙ texts_by shaped.first shaped.later rest shaped.word ∙ sym (ap (λ xs. text_before (first_word xs) (word_texts rest)) shaped.is)

leads_exact : (links : List Link) (demand : Demand) (low high : Option Bytes)
    → words_lead links false demand low high ≡ is_met_by links (text_before (Some (kind_word demand.kind)) (text_before low (text_before high (Some []))))
leads_exact links demand (Some low) (Some high) = sym (ap (λ kind. kind_leads links kind low high) (kind_of_word demand.kind))
leads_exact links demand (Some low) None = refl
leads_exact links demand None (Some high) = refl
leads_exact links demand None None = refl

pub condition_exact : (relations : List Bytes) (links : List Link) (choice : Choice) → IsDrawn relations choice → (demand : Demand)
    → condition_passes links false choice demand ≡ is_met links (after choice (demand_parts demand))
condition_exact relations links choice drawn demand =
    let head = form.Word (kind_word demand.kind) in
    let low = becomes_by choice demand.low in
    let high = becomes_by choice demand.high in
    let texts : word_texts (low ++ (high ++ [])) ≡ text_before (first_word low) (text_before (first_word high) (Some [])) =
    texts_shaped low (high ++ []) (shaped_of relations choice demand.low drawn) ∙ ap (text_before (first_word low)) (texts_shaped high [] (shaped_of relations choice demand.high drawn)) in
    leads_exact links demand (first_word low) (first_word high)
    ∙ sym (ap (λ b. is_met_by links (word_texts (b ++ (low ++ (high ++ []))))) (word_stays relations choice head (kind_word demand.kind) drawn (word_text-Word (kind_word demand.kind)))
    ∙ ap (λ word. is_met_by links (text_before word (word_texts (low ++ (high ++ []))))) (word_text-Word (kind_word demand.kind))
    ∙ ap (λ rest. is_met_by links (text_before (Some (kind_word demand.kind)) rest)) texts)

-- what a list demands is the condition that it is

kind_met : (text : Bytes) (word : Bytes) → bytes_eq word text ≡ true → text ≡ word
kind_met text word e = sym ((bytes_eq-Decides word text).0 e)

demand_of_word : (predicates : List Form) (head low high : Form) (text : Bytes) → head ≡ form.Word text → (instance subrelation one two : Bool)
    → bytes_eq (codes "instance") text ≡ instance → bytes_eq (codes "subrelation") text ≡ subrelation
    → map demand_parts (demand_by low high (if instance && one then Some kinds.Instance else if subrelation && two then Some kinds.Relation else None))
    ≡ (if (instance && one) || (subrelation && two) then (head ∷ low ∷ high ∷ []) ∷ [] else [])
demand_of_word predicates head low high text is true s true two e h = ap (λ first. (first ∷ low ∷ high ∷ []) ∷ []) (sym (is ∙ ap form.Word (kind_met text (codes "instance") e)))
demand_of_word predicates head low high text is true true false true e h = ap (λ first. (first ∷ low ∷ high ∷ []) ∷ []) (sym (is ∙ ap form.Word (kind_met text (codes "subrelation") h)))
demand_of_word predicates head low high text is true true false false e h = refl
demand_of_word predicates head low high text is true false false two e h = refl
demand_of_word predicates head low high text is false true one true e h = ap (λ first. (first ∷ low ∷ high ∷ []) ∷ []) (sym (is ∙ ap form.Word (kind_met text (codes "subrelation") h)))
demand_of_word predicates head low high text is false true one false e h = refl
demand_of_word predicates head low high text is false false one two e h = refl

demand_by_layer : (predicates : List Form) (head low high : Form) (layer : Form-F Form) → head ≡ roll-Form layer
    → map demand_parts (demand_by low high (kind_of_head predicates (word_layer layer) low high))
    ≡ (if (word_passes (bytes_eq (codes "instance")) layer && (is_one_of predicates low && is_word high)) || (word_passes (bytes_eq (codes "subrelation")) layer && relates predicates low high) then (head ∷ low ∷ high ∷ []) ∷ [] else [])
demand_by_layer predicates head low high (Form-F.Word text) e =
    demand_of_word predicates head low high text (e ∙ form.rolls-Word text) (bytes_eq (codes "instance") text) (bytes_eq (codes "subrelation") text) (is_one_of predicates low && is_word high) (relates predicates low high) refl refl
demand_by_layer predicates head low high (Form-F.Variable text) e = refl
demand_by_layer predicates head low high (Form-F.Row text) e = refl
demand_by_layer predicates head low high (Form-F.Numeral text) e = refl
demand_by_layer predicates head low high (Form-F.Quoted text) e = refl
demand_by_layer predicates head low high (Form-F.List parts) e = refl

demand_of_three : (predicates : List Form) (head low high : Form)
    → map demand_parts (demands predicates (head ∷ low ∷ high ∷ [])) ≡ (if is_condition predicates (head ∷ low ∷ high ∷ []) then (head ∷ low ∷ high ∷ []) ∷ [] else [])
unfolding word_text
demand_of_three predicates head low high = demand_by_layer predicates head low high (out-Form head) (sym (roll-out-Form head))

demand_of : (predicates parts : List Form) → map demand_parts (demands predicates parts) ≡ (if is_condition predicates parts then parts ∷ [] else [])
demand_of predicates [] = refl
demand_of predicates (head ∷ []) = refl
demand_of predicates (head ∷ low ∷ []) = refl
demand_of predicates (head ∷ low ∷ high ∷ []) = demand_of_three predicates head low high
demand_of predicates (head ∷ low ∷ high ∷ more ∷ rest) = refl

map_joined : {X Y : Type 0} (f : X → Y) (xs ys : List X) → map f (xs ++ ys) ≡ map f xs ++ map f ys
map_joined f [] ys = refl
map_joined f (x ∷ xs) ys = ap (λ zs. f x ∷ zs) (map_joined f xs ys)

demands_of : (predicates fs : List Form) → map demand_parts (flat_map (λ part. demands predicates (parts_in part)) fs) ≡ filter (is_condition predicates) (map parts_in fs)
demands_of predicates [] = refl
demands_of predicates (f ∷ fs) =
    map_joined demand_parts (demands predicates (parts_in f)) (flat_map (λ part. demands predicates (parts_in part)) fs)
    ∙ ap₂ ◌++◌ (demand_of predicates (parts_in f)) (demands_of predicates fs) ∙ go (is_condition predicates (parts_in f))
  where
    go : (b : Bool) → (if b then parts_in f ∷ [] else []) ++ filter (is_condition predicates) (map parts_in fs) ≡ (if b then parts_in f ∷ filter (is_condition predicates) (map parts_in fs) else filter (is_condition predicates) (map parts_in fs))
    go true = refl
    go false = refl

pub conditions_exact : (relations : List Bytes) (links : List Link) (f : Form) (choice : Choice) → IsDrawn relations choice
    → list_all (condition_passes links false choice) (all_demands (predicate_variables f) f) ≡ conditions_fit links f choice
conditions_exact relations links f choice drawn =
    let all = all_demands (predicate_variables f) f in
    let is : map demand_parts all ≡ conditions f =
    ap (map demand_parts) (sym (flat_map-flat_map (λ part. demands (predicate_variables f) (parts_in part)) conjuncts (antecedents (parts_in f))))
    ∙ demands_of (predicate_variables f) (flat_map conjuncts (antecedents (parts_in f))) in
    all_alike (condition_passes links false choice) (λ demand. is_met links (after choice (demand_parts demand))) (condition_exact relations links choice drawn) all
    ∙ sym (all_map (λ parts. is_met links (after choice parts)) demand_parts all)
    ∙ ap (list_all (λ parts. is_met links (after choice parts))) is

pub counts_exact : (relations : List Bytes) (signatures : Signatures) (f : Form) (choice : Choice) → IsDrawn relations choice
    → list_all (count_passes signatures false choice) (filter varies (compounds f)) ≡ counts_fit signatures f choice
counts_exact relations signatures f choice drawn = all_alike (count_passes signatures false choice) (λ parts. has_count signatures (after choice parts)) (count_exact relations signatures choice drawn) (filter varies (compounds f))

-- ---- all together

pub passes_exact : (problem : Problem) (f : Form) (rows : List Form) (signatures : Signatures) (links : List Link) (choice : Choice)
    → IsProblem f (filter varies (compounds f)) (predicate_variables f) rows signatures links problem → IsDrawn (relations_of problem) choice
    → passes problem false choice ≡ fits_by links signatures f choice
unfolding passes
passes_exact problem f rows signatures links choice is drawn =
    let relations = relations_of problem in
    ap₂ ◌&&◌ (ap (list_all (name_passes false true choice)) is.arguments ∙ arguments_exact relations f choice drawn)
    (ap₂ ◌&&◌ (ap (list_all (name_passes false false choice)) is.sentences ∙ sentences_exact relations f choice drawn)
    (ap₂ ◌&&◌ (ap₂ (λ told all. list_all (condition_passes told false choice) all) is.links is.conditions ∙ conditions_exact relations links f choice drawn)
    (ap₂ (λ told all. list_all (count_passes told false choice) all) is.signatures is.lists ∙ counts_exact relations signatures f choice drawn)))
