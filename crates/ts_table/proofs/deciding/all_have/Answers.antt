use Rattle.std.proofs.Common.{◌≡◌, true, false, rules}
use Rattle.std.proofs.lemmas.List.{take_all}
use Rattle.ts_table.specs.declared.candidates.Candidate.{Candidate}
use Rattle.ts_table.proofs.ListLemmas.{not_all, yes_all, end_all}
use Rattle.ts_table.proofs.deciding.all_have.Goals as goal

pub returns-then-not-is_side : goal.returns-then-not-is_side
returns-then-not-is_side c =
    let test : c.is_side.result ≡ false = search (rules, c.if-not-is_side.true) in
    not_all (λ (r : Candidate). r.weight.assoc ≡ c.args.side) c.args.candidates.now c.loop-candidate.candidate-index _ c.is_side.result c.loop-candidate-test.true test c.is_side.ensures

pub loop-candidate-preserved : goal.loop-candidate-preserved
loop-candidate-preserved c =
    let test : c.is_side.result ≡ true = search (rules, c.if-not-is_side.false) in
    yes_all (λ (r : Candidate). r.weight.assoc ≡ c.args.side) c.args.candidates.now c.loop-candidate.candidate-index _ c.is_side.result c.loop-candidate-test.true test c.is_side.ensures c.loop-candidate.invariant

pub returns : goal.returns
returns c = end_all (λ (r : Candidate). r.weight.assoc ≡ c.args.side) c.args.candidates.now c.loop-candidate.candidate-index (take_all _ _ c.loop-candidate-test.false) c.loop-candidate.invariant
