use Rattle.std.proofs.Common.{take}
use Rattle.ts_rules.specs.FirstSights.{Not}
use Rattle.ts_tokens.specs.Keywords.{HasEnd}
use Rattle.ts_tokens.proofs.word.has_end.Given as goal

abbrev pub invariant-loop-node : goal.invariant-loop-node
invariant-loop-node l = Not (HasEnd l.nodes (take l.node-index l.members))
