-- Words that may be names.
use Rattle.std.proofs.Common.{BuildHasherDefault, FoldHasher, ◌≡◌, ◌||◌, ◌&&◌, List, [], ◌∷◌, ◌++◌, Bool, true, false, not, refl, sym, ap, subst, ◌∙◌}
use Rattle.std.specs.Prelude.{Option, Some, None, is_some, unwrap_or}
use Rattle.std.specs.HashMap.{HashMap, keys}
use Rattle.std.specs.Str.{bytes_eq}
use Rattle.std.proofs.lemmas.Slice.Eq.{bytes_eq-Decides}
use Rattle.sigma_base.specs.Lists.{Each, each_append, each_map}
use Rattle.kif_tree.specs.Shape.{is_among, logical_words}
use Rattle.kif_tree.specs.Terms.{Bytes}
use Rattle.signatures.specs.declared.inherited.Inherited.{Inherited}
use Rattle.signatures.specs.declared.nearest.Note.{Note}
use Rattle.signatures.specs.declared.told.Arity.{Arity}
use Rattle.signatures.specs.declared.told.Arity.TheVariants.{Unstated}
use Rattle.signatures.specs.Arities.{shown_heads, built_in}
use Rattle.signatures.specs.Inherited.{find_near, first_found, value_in}
use Rattle.signatures.specs.Layers.{near_of}
use Rattle.signatures.specs.Marks.{Marks, has, Marked, is_word, is_stated}
use Rattle.signatures.specs.Names.{MarksKeys, AreCandidates, is_name}
use Rattle.signatures.specs.Tables.{arity_by}
use Rattle.signatures.specs.WordTables.{Key, find}
use Rattle.signatures.proofs.KeyLaws.{of_keys}

or_true : (b : Bool) → (b || true) ≡ true
or_true true = refl
or_true false = refl

pub marked_word : {V S : Type 0} (table : HashMap Key V S) (old mid new : Marks S) (done rest more : List Key) (key : Key) (word : Bytes) → rest ≡ key ∷ more → word ≡ key.items → done ++ rest ≡ keys table
    → Marked (is_word word) mid new → ((w : Bytes) → has old w ≡ true → has mid w ≡ true) → Each (λ (k : Key). has mid k.items ≡ true) done
    → (both_done : List Key) × (both_done ++ more ≡ keys table) × ((w : Bytes) → has old w ≡ true → has new w ≡ true) × Each (λ (k : Key). has new k.items ≡ true) both_done
marked_word table old mid new done rest more key word is same whole marked kept each = (
  done ++ key ∷ [],
  append_one done key more ∙ ap (λ (ks : List Key). done ++ ks) (sym is) ∙ whole,
  (λ w h. still w (kept w h)),
  each_append (λ (k : Key). has new k.items ≡ true) done (key ∷ []) (each_map (λ (k : Key). has mid k.items ≡ true) (λ (k : Key). has new k.items ≡ true) (λ k h. still k.items h) done each) (here, tt),
)
  where
    append_one : (ks : List Key) (key : Key) (more : List Key) → (ks ++ key ∷ []) ++ more ≡ ks ++ key ∷ more
    append_one [] key more = refl
    append_one (k ∷ ks) key more = ap (λ (xs : List Key). k ∷ xs) (append_one ks key more)

    still : (w : Bytes) → has mid w ≡ true → has new w ≡ true
    still w h = marked w ∙ ap (λ b. b || bytes_eq w word) h

    here : has new key.items ≡ true
    here = marked key.items ∙ ap (λ b. has mid key.items || b) ((bytes_eq-Decides key.items word).1 (sym same)) ∙ or_true (has mid key.items)

pub marks_all : {V S : Type 0} (table : HashMap Key V S) (old new : Marks S) (done rest : List Key) → rest ≡ [] → done ++ rest ≡ keys table → ((w : Bytes) → has old w ≡ true → has new w ≡ true) → Each (λ (k : Key). has new k.items ≡ true) done
    → MarksKeys table old new
marks_all table old new done rest is whole kept each = record {
  kept = kept;
  marked = λ word found. of_keys (λ (w : Bytes). has new w ≡ true) table word found (subst (Each (λ (k : Key). has new k.items ≡ true)) (sym (append_none done) ∙ ap (λ (ks : List Key). done ++ ks) (sym is) ∙ whole) each);
}
  where
    append_none : (ks : List Key) → ks ++ [] ≡ ks
    append_none [] = refl
    append_none (k ∷ ks) = ap (λ (xs : List Key). k ∷ xs) (append_none ks)

abbrev Words : Type 0
Words = Marks (BuildHasherDefault FoldHasher)

pub are_candidates : (heads : Words) (arities : Inherited Arity) (none first second third : Words) → MarksKeys heads none first → MarksKeys arities.own first second → MarksKeys arities.nearest second third → AreCandidates heads arities third
are_candidates heads arities none first second third one two three = λ word plain named. used word plain (both_last word named)
  where
    last : (a b c : Bool) → (a && (b && c)) ≡ true → c ≡ true
    last true true c h = h
    last true false c h = absurd (cc)
    last false b c h = absurd (cc)

    both_last : (word : Bytes) → is_name heads arities word ≡ true → (has heads word || is_stated (arity_by arities word)) ≡ true
    both_last word h = last (not (is_among logical_words word)) (not (is_among shown_heads word)) (has heads word || is_stated (arity_by arities word)) h

    used : (word : Bytes) → built_in word ≡ None → (has heads word || is_stated (arity_by arities word)) ≡ true → has third word ≡ true
    used word plain h = go (find heads word) refl h
      where
        by_near : (o : Option Note) → find arities.nearest word ≡ o → is_stated (unwrap_or (find_near arities.own (near_of o)) Unstated) ≡ true → has third word ≡ true
        by_near None e h = absurd (cc)
        by_near (Some note) e h = three.marked word (note, e)

        by_own : (o : Option Arity) → find arities.own word ≡ o → is_stated (unwrap_or (first_found o (find_near arities.own (near_of (find arities.nearest word)))) Unstated) ≡ true → has third word ≡ true
        by_own (Some arity) e h = three.kept word (two.marked word (arity, e))
        by_own None e h = by_near (find arities.nearest word) refl h

        go : (o : Option (Unit {0})) → find heads word ≡ o → (is_some o || is_stated (arity_by arities word)) ≡ true → has third word ≡ true
        go (Some value) e h = three.kept word (two.kept word (one.marked word (value, e)))
        go None e h = by_own (find arities.own word) refl (ap (λ (o : Option Arity). is_stated (unwrap_or (first_found o (value_in arities word)) Unstated)) (sym plain) ∙ h)
