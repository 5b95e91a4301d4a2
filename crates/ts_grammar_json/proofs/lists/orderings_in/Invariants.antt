use Rattle.ts_grammar_json.specs.Faults.{each_from, list}
use Rattle.ts_grammar_json.specs.File.{list_of, ranked_faults, ranked_of, each_read}
use Rattle.ts_grammar_json.proofs.ListLemmas.{SoFar}
use Rattle.ts_grammar_json.proofs.lists.orderings_in.Given as goal

abbrev pub invariant-loop-at : goal.invariant-loop-at
invariant-loop-at l = SoFar (λ k js. each_from k (list ranked_faults) js) (each_read (list_of ranked_of)) l.items l.at l.orderings
