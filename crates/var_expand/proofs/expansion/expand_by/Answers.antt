use Rattle.std.proofs.Common.{◌≡◌, ◌∙◌, ap, subst, filter, take, List}
use Rattle.std.proofs.lemmas.Result.{IfOk-weaker}
use Rattle.kif_tree.specs.declared.form.Form.{Form}
use Rattle.kif_tree.specs.Profile.{compounds}
use Rattle.var_expand.specs.Choices.{predicate_variables, row_variables}
use Rattle.var_expand.specs.Fitting.{varies}
use Rattle.var_expand.specs.Problems.{IsProblem, answer, passing}
use Rattle.var_expand.proofs.FinalLaws.{predicates_of, rows_of, problem_distinct, expansion_is}
use Rattle.var_expand.proofs.expansion.expand_by.Goals as goal

pub solve-requires : goal.solve-requires
solve-requires c =
    let f = c.args.form.now in
    let first : c.items-4.result.now ≡ predicate_variables f = c.items-4.ensures ∙ predicates_of f c.items-2.result.now c.items.result.now c.in_ok-predicates.predicates (c.items-2.ensures ∙ c.requires) (c.items.ensures ∙ c.in_ok-free.ensures) c.in_ok-predicates.ensures in
    let second : c.in_ok-rows.rows ≡ row_variables f = rows_of f c.items-3.result.now c.in_ok-rows.rows (c.items-3.ensures ∙ c.in_ok-free.ensures) c.in_ok-rows.ensures in
    problem_distinct f c.items-4.result.now c.in_ok-rows.rows c.args.signatures.now c.args.taxonomy.now.links c.in_ok-problem.problem
    (subst (λ (varying : List (List Form)). IsProblem f varying c.items-4.result.now c.in_ok-rows.rows c.args.signatures.now c.args.taxonomy.now.links c.in_ok-problem.problem) c.requires c.in_ok-problem.ensures) first second

pub returns : goal.returns
returns c =
    let f = c.args.form.now in
    let predicates = c.in_ok-predicates.predicates in
    let problem = c.in_ok-problem.problem in
    let first : predicates ≡ predicate_variables f = predicates_of f c.items-2.result.now c.items.result.now predicates (c.items-2.ensures ∙ c.requires) (c.items.ensures ∙ c.in_ok-free.ensures) c.in_ok-predicates.ensures in
    let second : c.in_ok-rows.rows ≡ row_variables f = rows_of f c.items-3.result.now c.in_ok-rows.rows (c.items-3.ensures ∙ c.in_ok-free.ensures) c.in_ok-rows.ensures in
    let told = subst (λ (varying : List (List Form)). IsProblem f varying c.items-4.result.now c.in_ok-rows.rows c.args.signatures.now c.args.taxonomy.now.links problem) c.requires c.in_ok-problem.ensures in
    let is = subst (λ (names : List Form). IsProblem f (filter varies (compounds f)) names c.in_ok-rows.rows c.args.signatures.now c.args.taxonomy.now.links problem) c.items-4.ensures told in
    IfOk-weaker c.solve.result _ _ (λ expanded h. expansion_is c.args.taxonomy.now.links c.args.signatures.now f predicates c.in_ok-rows.rows problem expanded is first second
    (h ∙ ap (λ (names : List Form). answer f names (take 20001 (passing problem))) c.items-5.ensures)) c.solve.ensures
