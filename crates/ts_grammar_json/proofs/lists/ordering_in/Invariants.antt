use Rattle.ts_grammar_json.specs.Faults.{each_from}
use Rattle.ts_grammar_json.specs.File.{ranked_faults, ranked_of, each_read}
use Rattle.ts_grammar_json.proofs.ListLemmas.{SoFar}
use Rattle.ts_grammar_json.proofs.lists.ordering_in.Given as goal

abbrev pub invariant-loop-at : goal.invariant-loop-at
invariant-loop-at l = SoFar (λ k js. each_from k ranked_faults js) (each_read ranked_of) l.items l.at l.ordering
