use Rattle.ts_grammar_json.specs.Faults.{each_from}
use Rattle.ts_grammar_json.specs.File.{is_text, text_at, each_read}
use Rattle.ts_grammar_json.proofs.ListLemmas.{SoFar}
use Rattle.ts_grammar_json.proofs.lists.texts_in.Given as goal

abbrev pub invariant-loop-at : goal.invariant-loop-at
invariant-loop-at l = SoFar (λ k js. each_from k is_text js) (each_read text_at) l.items l.at l.texts
