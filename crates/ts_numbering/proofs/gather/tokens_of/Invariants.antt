use Rattle.std.proofs.Common.{take}
use Rattle.ts_numbering.specs.Keys.{trees, AreSeenTokens}
use Rattle.ts_numbering.proofs.gather.tokens_of.Given as goal

abbrev pub invariant-loop-tree : goal.invariant-loop-tree
invariant-loop-tree l = AreSeenTokens (trees (take l.tree-index l.seen)) (trees l.tokens.first.keys) (trees l.tokens.again.keys)
