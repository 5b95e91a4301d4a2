use Rattle.std.proofs.Common.{◌≡◌, ℕ, ◌≤◌, length, Some}
use Rattle.spec_trees.specs.declared.tree.Tree.{Tree}
use Rattle.spec_trees.specs.declared.tree.Stretch.{Stretch}
use Rattle.spec_forced.specs.Sound.{States}
use Rattle.spec_packing.specs.Packing.{WasMet}
use Rattle.ts_gss.specs.Stacks.{IsOneStack}
use Rattle.ts_steps.specs.declared.found.FoundToken.{FoundToken}
use Rattle.ts_steps.specs.LiveHeads.{config_of, packed_of}
use Rattle.ts_steps.specs.Heads.{AreStatesOf, IsOwnHead, StandOnHead}
use Rattle.ts_steps.specs.Looking.{IsTokenAhead}
use Rattle.ts_steps.specs.Reparsing.{AreHonest, AreHonestlyLent, StandsFor}
use Rattle.ts_steps.specs.Weights.{config_weight}
use Rattle.ts_steps.proofs.ThroughLemmas.{GoneThrough}
use Rattle.ts_steps.proofs.reparsing.reparse.Given as goal

abbrev pub invariant-loop-next : goal.invariant-loop-next
invariant-loop-next g l = record {
  made : g.L.Tokens.made_for l.lexer l.table;
  least : g.O.Offers.least l.offers ≤ l.head.place;
  gives : (place state : ℕ) (t : Tree) → g.O.Offers.gives l.offers place state t → g.O.Offers.gives l.initial.offers place state t;
  lends : (place state symbol : ℕ) (s : Stretch) → g.O.Offers.lends l.offers place state symbol s → g.O.Offers.lends l.initial.offers place state symbol s;
  live : IsOwnHead l.table (length (g.L.Text.Content.bytes l.text)) l.graph l.head;
  one : IsOneStack l.initial.graph l.fn.start.top → IsOneStack l.graph l.head.top;
  later : l.fn.start.place ≤ l.head.place;
  weight : config_weight l.table.grammar (length (g.L.Text.Content.bytes l.text)) (config_of l.graph l.head) ≤ config_weight l.table.grammar (length (g.L.Text.Content.bytes l.text)) (config_of l.initial.graph l.fn.start);
  stands : (states : States) → AreStatesOf l.table states → AreHonest l.table.grammar states (g.L.Text.Content.bytes l.text) (g.O.Offers.gives l.initial.offers)
      → AreHonestlyLent l.table.grammar states (g.L.Text.Content.bytes l.text) (g.O.Offers.lends l.initial.offers)
      → StandOnHead l.table states (g.L.Text.Content.bytes l.text) l.initial.graph l.fn.start
      → StandsFor l.table states (g.L.Text.Content.bytes l.text) (config_of l.initial.graph l.fn.start) l.graph l.head;
  layers : (states : States) → AreStatesOf l.table states → AreHonest l.table.grammar states (g.L.Text.Content.bytes l.text) (g.O.Offers.gives l.initial.offers)
      → AreHonestlyLent l.table.grammar states (g.L.Text.Content.bytes l.text) (g.O.Offers.lends l.initial.offers)
      → StandOnHead l.table states (g.L.Text.Content.bytes l.text) l.initial.graph l.fn.start → WasMet l.table.grammar (g.L.Text.Content.bytes l.text) (packed_of l.initial.graph l.fn.start)
      → GoneThrough l.table.grammar (g.L.Text.Content.bytes l.text) (packed_of l.initial.graph l.fn.start) l.graph l.head;
  known : (f : FoundToken) → l.ahead ≡ Some f → IsTokenAhead l.table (g.L.Text.Content.bytes l.text) l.graph l.head f;
}

abbrev pub decreases-loop-next : goal.decreases-loop-next
decreases-loop-next g l = config_weight l.table.grammar (length (g.L.Text.Content.bytes l.text)) (config_of l.graph l.head)
