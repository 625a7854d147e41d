use Rattle.std.proofs.Common.{◌∷◌, [], refl}
use Rattle.infer.proofs.ConclusionLaws.{found_same, found_apart}
use Rattle.infer.proofs.pairs.conclusions.Goals as goal
use Rattle.infer.proofs.pairs.conclusions.Goals.{then-not-same+in_ok-add_paramodulations-2, else-not-same}

pub returns-clause-all : goal.returns-clause-all
returns-clause-all c =
    let given_clause = c.args.given.now in
    let partner = c.args.partner.now in
    let clauses = given_clause ∷ partner ∷ [] in
    let resolved = c.in_ok-add_resolutions.ensures.adds in
    let forth = c.in_ok-add_paramodulations.ensures.adds clauses refl refl in
    let start = c.new-found.result in
    let middle = c.add_resolutions.new.found in
    let last = c.add_paramodulations.new.found in
    elim c.if-not-same.branch [
      | then-not-same+in_ok-add_paramodulations-2 w ↦
          found_apart given_clause partner c.args.same start middle last c.new-found.ensures resolved forth
          w.add_paramodulations-then-not-same.new.found c.if-not-same.found w.if-not-same.true
          (w.in_ok-add_paramodulations-2.ensures.adds clauses refl refl) w.found-is
      | else-not-same w ↦
          found_same given_clause partner c.args.same start middle last c.new-found.ensures resolved forth
          c.if-not-same.found w.if-not-same.false w.found-is
    ]
