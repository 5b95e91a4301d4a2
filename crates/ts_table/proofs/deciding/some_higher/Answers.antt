use Rattle.std.proofs.Common.{◌≡◌, false, rules}
use Rattle.std.specs.List.{Contains}
use Rattle.std.proofs.lemmas.List.{take_all}
use Rattle.ts_table.specs.declared.candidates.Candidate.{Candidate}
use Rattle.ts_table.specs.Marks.{HigherBy}
use Rattle.ts_table.proofs.ListLemmas.{none_more, end_none}
use Rattle.ts_table.proofs.deciding.some_higher.Goals as goal

pub loop-candidate-preserved : goal.loop-candidate-preserved
loop-candidate-preserved c =
    let test : c.some_above.result ≡ false = search (rules, c.if-some_above.false) in
    none_more (λ (r : Candidate). (q : Candidate) × Contains c.args.above.now q × HigherBy c.args.grammar.now q.weight r.weight) c.args.below.now c.loop-candidate.candidate-index _ c.some_above.result c.loop-candidate-test.true test c.some_above.ensures c.loop-candidate.invariant

pub returns : goal.returns
returns c = end_none (λ (r : Candidate). (q : Candidate) × Contains c.args.above.now q × HigherBy c.args.grammar.now q.weight r.weight) c.args.below.now c.loop-candidate.candidate-index (take_all _ _ c.loop-candidate-test.false) c.loop-candidate.invariant
