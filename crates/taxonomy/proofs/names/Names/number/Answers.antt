use Rattle.std.proofs.Common.{◌≡◌, ◌<◌, ℕ, [], length, get_or, sym, subst, arith}
use Rattle.std.proofs.lemmas.List.{get_or_read}
use Rattle.taxonomy.proofs.NameLaws.{not_among, place_below}
use Rattle.taxonomy.proofs.names.Names.number.Goals as goal

pub index-requires : goal.index-requires
index-requires c =
    let there = (c.requires.found c.args.word.now c.in-Some.key.now (sym c.in-Some.ensures.value)).0 in
    omega (arith, there, c.args.self.now.places.ok.0)

pub returns-in-Some : goal.returns-in-Some
returns-in-Some c =
    let numbers = c.args.self.now.places.items in
    let there = c.requires.found c.args.word.now c.in-Some.key.now (sym c.in-Some.ensures.value) in
    let read : c.index.result.now ≡ get_or numbers c.in-Some.key.now 0 = get_or_read numbers c.in-Some.key.now c.index.result.now there.0 c.index.ensures 0 in
    subst (λ (n : ℕ). (n < length c.args.self.now.words.items) × (get_or c.args.self.now.words.items n [] ≡ c.args.word.now)) (sym read)
    (place_below (length c.args.self.now.words.items) numbers c.in-Some.key.now c.requires.within there.0, there.1)

pub returns-in-None : goal.returns-in-None
returns-in-None c = not_among c.args.self.now.keys.entries c.args.self.now.places.items c.args.self.now.words.items c.args.word.now c.requires c.in-None.ensures.value
