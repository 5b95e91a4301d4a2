use Rattle.std.proofs.Common.{ℕ, List, length, ◌≤◌}
use Rattle.ts_core.specs.declared.flat.FlatGrammar.{FlatGrammar}
use Rattle.ts_bits.specs.declared.set.BitSet.{BitSet}
use Rattle.ts_items.specs.declared.part.Part.{Part}
use Rattle.ts_items.specs.Closing.{AddsSets}
use Rattle.ts_items.specs.Collection.{most_states}
use Rattle.ts_items.specs.Numbers.{AreStates, HasRows, AreGotos, AreOnce}
use Rattle.ts_items.proofs.numbering.gotos_of.Given as goal

abbrev pub invariant-loop-symbol : goal.invariant-loop-symbol
invariant-loop-symbol l = record {
  grows : AddsSets l.initial.kernels.keys l.kernels.keys;
  once : AreOnce l.initial.kernels.keys → AreOnce l.kernels.keys;
  few : length l.initial.kernels.keys ≤ most_states → length l.kernels.keys ≤ most_states;
  states : (g : FlatGrammar) (lines : ℕ) (pool : List BitSet) (parts : List Part) → HasRows g lines pool parts l.moved → AreStates g lines pool l.initial.kernels.keys → AreStates g lines pool l.kernels.keys;
  gotos : (g : FlatGrammar) (lines : ℕ) (pool : List BitSet) (parts : List Part) → HasRows g lines pool parts l.moved → AreGotos g pool l.kernels.keys parts l.symbol l.gotos.items;
}
