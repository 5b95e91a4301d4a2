use Rattle.std.proofs.Common.{◌≡◌, ◌<◌, ◌+◌, ◌++◌, ℕ, length, map, drop, reverse}
use Rattle.spec_trees.specs.Trees.{all_spans}
use Rattle.ts_table.specs.declared.view.ParseTable.{ParseTable}
use Rattle.ts_gss.specs.Stacks.{stack_at, trees_on, IsOneStack}
use Rattle.ts_steps.specs.LiveHeads.{packed_own, packed_layers, GainsStacks, CanLay}
use Rattle.ts_steps.proofs.StackLemmas.{Laid}
use Rattle.ts_steps.proofs.reducing.lay.Given as goal

abbrev pub invariant-loop-extra : goal.invariant-loop-extra
invariant-loop-extra l = record {
  there : l.top < length l.graph;
  one : IsOneStack l.initial.graph l.below → IsOneStack l.graph l.top;
  grows : GainsStacks l.initial.graph l.graph;
  trees : reverse l.extras ++ trees_on (stack_at l.initial.graph l.below) ≡ reverse (drop l.extra-index l.extras) ++ trees_on (stack_at l.graph l.top);
  layers : map packed_own (reverse l.extras) ++ packed_layers (stack_at l.initial.graph l.below) ≡ map packed_own (reverse (drop l.extra-index l.extras)) ++ packed_layers (stack_at l.graph l.top);
  good : (t : ParseTable) (size place : ℕ) → CanLay t size place (stack_at l.initial.graph l.below) l.state l.extras
      → Laid t size (place + all_spans l.extras) (stack_at l.graph l.top) l.state (drop l.extra-index l.extras);
}
