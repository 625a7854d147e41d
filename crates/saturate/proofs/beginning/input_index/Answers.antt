use Rattle.std.proofs.Common.{◌≡◌, ◌<◌, ◌∙◌, length, subst, arith}
use Rattle.std.proofs.lemmas.List.{length-map}
use Rattle.kif_tree.specs.declared.clause.InputClause.{InputClause}
use Rattle.infer.specs.Checks.{clauses_of}
use Rattle.infer.specs.Conclusions.{clause_at}
use Rattle.saturate.specs.Indexes.{AreListed, listed}
use Rattle.saturate.proofs.BeginningLaws.{input_next}
use Rattle.saturate.proofs.StateLaws.{listed_prints, key_listed, codes_listed}
use Rattle.saturate.proofs.beginning.input_index.Goals as goal

pub rarest_key-key-requires : goal.rarest_key-key-requires
rarest_key-key-requires c =
    let inputs = c.args.inputs.now in
    let many = length-map inputs (λ (input : InputClause). input.clause) in
    let below : c.loop-number.number < length (clauses_of inputs) = omega (arith, c.count-number-end.ensures, many) in
    let is = c.index-fingerprints-number.is ∙ listed_prints (clauses_of inputs) c.args.fingerprints.now c.loop-number.number c.index-fingerprints-number.result c.requires.fingerprints below in
    let codes = codes_listed (clause_at (clauses_of inputs) c.loop-number.number) c.index-fingerprints-number.result is in
    record { first = codes.0; others = codes.1 }

pub loop-number-preserved : goal.loop-number-preserved
loop-number-preserved c =
    let inputs = c.args.inputs.now in
    let many = length-map inputs (λ (input : InputClause). input.clause) in
    let below : c.loop-number.number < length inputs = omega (arith, c.count-number-end.ensures) in
    let below_many : c.loop-number.number < length (clauses_of inputs) = omega (arith, c.count-number-end.ensures, many) in
    let is = c.index-fingerprints-number.is ∙ listed_prints (clauses_of inputs) c.args.fingerprints.now c.loop-number.number c.index-fingerprints-number.result c.requires.fingerprints below_many in
    input_next inputs (listed c.loop-number.index) (listed c.list.new.index) c.loop-number.number c.loop-number.invariant below
    (record {
      place = c.rarest_key-key.result;
      is_key = key_listed (clause_at (clauses_of inputs) c.loop-number.number) c.index-fingerprints-number.result c.rarest_key-key.result is c.rarest_key-key.ensures;
      lists = c.in_ok-list.ensures;
    })

pub returns : goal.returns
returns c =
    let whole : c.loop-number.number ≡ length c.args.inputs.now = omega (arith, c.count-number-end.ensures) in
    subst (AreListed c.args.inputs.now (listed c.loop-number.index)) whole c.loop-number.invariant
