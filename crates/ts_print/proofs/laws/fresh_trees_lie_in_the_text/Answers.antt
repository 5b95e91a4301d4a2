use Rattle.ts_print.proofs.SpanLemmas.{fresh_lies}
use Rattle.ts_print.proofs.laws.fresh_trees_lie_in_the_text.Goals as goal

pub returns : goal.returns
returns c = fresh_lies c.bare_trees.ensures.keeps c.token_within.ensures.text
