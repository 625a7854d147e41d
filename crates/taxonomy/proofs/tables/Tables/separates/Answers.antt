use Rattle.std.proofs.Common.{ℕ, List, subst, sym}
use Rattle.std.specs.Prelude.{Contains, Some, None}
use Rattle.taxonomy.specs.Numbered.{word}
use Rattle.taxonomy.specs.Tables.{shown}
use Rattle.taxonomy.proofs.ChainLaws.{NoneFoundIn, none_of_first, none_of_second, two_found, same_found, one_alone}
use Rattle.taxonomy.proofs.NameLaws.{distinct_words}
use Rattle.taxonomy.proofs.tables.Tables.separates.Goals as goal

pub returns-in_default : goal.returns-in_default
returns-in_default c = none_of_first (shown c.args.self.now).links c.args.self.now.names.words.items c.args.group.now.words c.args.group.now.place (word c.args.self.now.names.words.items c.args.first) (word c.args.self.now.names.words.items c.args.second) (subst (λ (group : List ℕ). NoneFoundIn (shown c.args.self.now).links c.args.self.now.names.words.items group (word c.args.self.now.names.words.items c.args.first) None) c.items-words.ensures c.in_default.ensures)

pub returns-in_default-above : goal.returns-in_default-above
returns-in_default-above c = none_of_second (shown c.args.self.now).links c.args.self.now.names.words.items c.args.group.now.words c.args.group.now.place (word c.args.self.now.names.words.items c.args.first) (word c.args.self.now.names.words.items c.args.second) (subst (λ (group : List ℕ). NoneFoundIn (shown c.args.self.now).links c.args.self.now.names.words.items group (word c.args.self.now.names.words.items c.args.second) None) c.items-words.ensures c.in_default-above.ensures)

pub returns-in-Some-above-2 : goal.returns-in-Some-above-2
returns-in-Some-above-2 c =
    two_found (shown c.args.self.now).links c.args.self.now.names.words.items c.args.group.now.words c.args.group.now.place (word c.args.self.now.names.words.items c.args.first) (word c.args.self.now.names.words.items c.args.second) c.in-Some.one c.in-Some-above-2.field-0 (distinct_words c.args.self.now.names.keys.entries c.args.self.now.names.places.items c.args.self.now.names.words.items c.requires.tables.numbered) c.requires.group
    (subst (λ (group : List ℕ). Contains group c.in-Some.one) c.items-words.ensures c.in-Some.ensures.0)
    (subst (λ (group : List ℕ). Contains group c.in-Some-above-2.field-0) c.items-words.ensures c.in-Some-above-2.ensures.0)
    (λ same. c.in-Some-above-2.ensures.1 (sym same)) c.in-Some.ensures.2 c.in-Some-above-2.ensures.2

pub returns-in-Some-above-3 : goal.returns-in-Some-above-3
returns-in-Some-above-3 c =
    two_found (shown c.args.self.now).links c.args.self.now.names.words.items c.args.group.now.words c.args.group.now.place (word c.args.self.now.names.words.items c.args.first) (word c.args.self.now.names.words.items c.args.second) c.in-Some-above-3.field-0 c.in-Some.one (distinct_words c.args.self.now.names.keys.entries c.args.self.now.names.places.items c.args.self.now.names.words.items c.requires.tables.numbered) c.requires.group
    (subst (λ (group : List ℕ). Contains group c.in-Some-above-3.field-0) c.items-words.ensures c.in-Some-above-3.ensures.0)
    (subst (λ (group : List ℕ). Contains group c.in-Some.one) c.items-words.ensures c.in-Some.ensures.0)
    c.in-Some-above-3.ensures.1 c.in-Some-above-3.ensures.2
    (same_found (shown c.args.self.now).links c.args.self.now.names.words.items c.args.group.now.words (word c.args.self.now.names.words.items c.args.second) c.in-Some.one c.in-Some-above.field-0 (subst (λ (group : List ℕ). NoneFoundIn (shown c.args.self.now).links c.args.self.now.names.words.items group (word c.args.self.now.names.words.items c.args.second) (Some c.in-Some.one)) c.items-words.ensures c.in_default-above-2.ensures)
    (subst (λ (group : List ℕ). Contains group c.in-Some-above.field-0) c.items-words.ensures c.in-Some-above.ensures.0) c.in-Some-above.ensures.2)

pub returns : goal.returns
returns c =
    one_alone (shown c.args.self.now).links c.args.self.now.names.words.items c.args.group.now.words c.args.group.now.place (word c.args.self.now.names.words.items c.args.first) (word c.args.self.now.names.words.items c.args.second) c.in-Some.one (subst (λ (group : List ℕ). NoneFoundIn (shown c.args.self.now).links c.args.self.now.names.words.items group (word c.args.self.now.names.words.items c.args.first) (Some c.in-Some.one)) c.items-words.ensures c.in_default-above-3.ensures)
    (subst (λ (group : List ℕ). NoneFoundIn (shown c.args.self.now).links c.args.self.now.names.words.items group (word c.args.self.now.names.words.items c.args.second) (Some c.in-Some.one)) c.items-words.ensures c.in_default-above-2.ensures)
