use Rattle.std.proofs.Common.{ap, ◌∙◌}
use Rattle.std.proofs.lemmas.Result.{on_ok_weaker}
use Rattle.infer.specs.Conclusions.{clause_at}
use Rattle.saturate.specs.declared.table.FingerprintTable.{FingerprintTable}
use Rattle.saturate.specs.Indexes.{IsListed, listed}
use Rattle.saturate.specs.Runs.{clauses}
use Rattle.saturate.proofs.StateLaws.{listed_prints, key_listed, codes_listed}
use Rattle.saturate.proofs.reached.State.list.Goals as goal

pub rarest_key-key-requires : goal.rarest_key-key-requires
rarest_key-key-requires c =
    let all = clauses c.args.self.now.reached in
    let is = c.index-items-number.is ∙ listed_prints all c.items.result.now c.args.number c.index-items-number.result (c.items.ensures ∙ ap (λ (table : FingerprintTable). table.all) c.requires.fingerprints) c.requires.number in
    let codes = codes_listed (clause_at all c.args.number) c.index-items-number.result is in
    record { first = codes.0; others = codes.1 }

pub returns-clause-listed : goal.returns-clause-listed
returns-clause-listed c =
    let all = clauses c.args.self.now.reached in
    let is = c.index-items-number.is ∙ listed_prints all c.items.result.now c.args.number c.index-items-number.result (c.items.ensures ∙ ap (λ (table : FingerprintTable). table.all) c.requires.fingerprints) c.requires.number in
    on_ok_weaker c.list.result
    (λ (lists : IsListed (listed c.args.self.now.listed) (listed c.list.new.index) c.rarest_key-key.result c.args.number). record {
      place = c.rarest_key-key.result;
      is_key = key_listed (clause_at all c.args.number) c.index-items-number.result c.rarest_key-key.result is c.rarest_key-key.ensures;
      lists = lists;
    })
    c.list.ensures
