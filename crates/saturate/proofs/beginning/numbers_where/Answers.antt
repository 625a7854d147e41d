use Rattle.std.proofs.Common.{◌≡◌, ◌++◌, ◌∷◌, [], List, Bool, true, false, ℕ, sym, ap, ◌∙◌}
use Rattle.std.proofs.Math.Bool.{beq}
use Rattle.kif_tree.specs.Clauses.{same_sign}
use Rattle.saturate.specs.Inputs.{is_query_number}
use Rattle.saturate.proofs.BeginningLaws.{filtered_with, filtered_without, signs_equal, signs_differ}
use Rattle.saturate.proofs.beginning.numbers_where.Goals as goal
use Rattle.saturate.proofs.beginning.numbers_where.Goals.{then-is_of_query-of_query+in_ok-push, else-is_of_query-of_query}

pub loop-number-preserved : goal.loop-number-preserved
loop-number-preserved c =
    let n = c.loop-number.number in
    let of_query = c.args.of_query in
    let p : ℕ → Bool = λ number. same_sign of_query (is_query_number c.args.inputs.now number) in
    elim c.if-is_of_query-of_query.branch [
      | then-is_of_query-of_query+in_ok-push w ↦
          let same : beq (is_query_number c.args.inputs.now n) of_query ≡ true = sym (ap (λ (b : Bool). beq b of_query) c.is_of_query.ensures) ∙ w.if-is_of_query-of_query.true in
          w.numbers-is ∙ w.in_ok-push.ensures.ok ∙ ap (λ (ns : List ℕ). ns ++ n ∷ []) c.loop-number.invariant
          ∙ sym (filtered_with p n (signs_equal of_query (is_query_number c.args.inputs.now n) same))
      | else-is_of_query-of_query w ↦
          let other : beq (is_query_number c.args.inputs.now n) of_query ≡ false = sym (ap (λ (b : Bool). beq b of_query) c.is_of_query.ensures) ∙ w.if-is_of_query-of_query.false in
          w.numbers-is ∙ c.loop-number.invariant ∙ sym (filtered_without p n (signs_differ of_query (is_query_number c.args.inputs.now n) other))
    ]
