use Rattle.std.proofs.Common.{◌≡◌, length}
use Rattle.ts_core.specs.declared.flat.FlatGrammar.{FlatGrammar}
use Rattle.ts_lexer.specs.Rules.{IsRules}
use Rattle.ts_lexer.specs.Ahead.{contents_of, HasMoreRows, HavePairs}
use Rattle.ts_lexer.proofs.ahead.pairs_of.Given as goal

abbrev pub invariant-loop-at : goal.invariant-loop-at
invariant-loop-at l = record {
  marks : length l.view.marks.items ≡ length l.fn.view.marks.items;
  count : length l.pairs.items ≡ l.at;
  more : HasMoreRows l.fn.tables l.tables;
  pairs : (g : FlatGrammar) → IsRules g l.fn.tables.rules → length l.fn.view.marks.items ≡ length g.tokens → HavePairs g l.tables (contents_of l.lists.keys) l.pairs.items;
}
