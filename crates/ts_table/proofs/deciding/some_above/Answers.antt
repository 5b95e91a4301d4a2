use Rattle.std.proofs.Common.{◌≡◌, false, rules}
use Rattle.std.proofs.lemmas.List.{take_all}
use Rattle.ts_table.specs.declared.candidates.Candidate.{Candidate}
use Rattle.ts_table.specs.Marks.{HigherBy}
use Rattle.ts_table.proofs.ListLemmas.{none_more, end_none}
use Rattle.ts_table.proofs.deciding.some_above.Goals as goal

pub loop-candidate-preserved : goal.loop-candidate-preserved
loop-candidate-preserved c =
    let test : c.is_higher.result ≡ false = search (rules, c.if-is_higher.false) in
    none_more (λ (q : Candidate). HigherBy c.args.grammar.now q.weight c.args.weight) c.args.candidates.now c.loop-candidate.candidate-index _ c.is_higher.result c.loop-candidate-test.true test c.is_higher.ensures c.loop-candidate.invariant

pub returns : goal.returns
returns c = end_none (λ (q : Candidate). HigherBy c.args.grammar.now q.weight c.args.weight) c.args.candidates.now c.loop-candidate.candidate-index (take_all _ _ c.loop-candidate-test.false) c.loop-candidate.invariant
