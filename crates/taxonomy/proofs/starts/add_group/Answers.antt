use Rattle.std.proofs.Common.{List, subst, sym}
use Rattle.taxonomy.specs.Starts.{Piece, IsTwice}
use Rattle.taxonomy.proofs.StartLaws.{twice_of_shared}
use Rattle.taxonomy.proofs.starts.add_group.Goals as goal

pub returns-clause-shared : goal.returns-clause-shared
returns-clause-shared c = λ number shared.
    c.sweep.ensures.twice number
    (subst (λ (pieces : List Piece). IsTwice pieces number) (sym c.as_slice.ensures.value)
    (twice_of_shared c.args.sets.now c.args.words.now c.in_ok-pieces.pieces.items c.sort.new.self.items number c.in_ok-pieces.ensures c.in_ok-sort.ensures.permutation shared))
