use Rattle.std.proofs.Common.{◌≡◌, take}
use Rattle.ts_tokens.specs.Extras.{symbols_told, symbols_of_all}
use Rattle.ts_tokens.proofs.causes.symbols_of.Given as goal

abbrev pub invariant-loop-tree : goal.invariant-loop-tree
invariant-loop-tree l = symbols_told l.symbols.items ≡ symbols_of_all (take l.tree-index l.extras)
