use Rattle.std.proofs.Common.{ℕ, ◌≤◌, length}
use Rattle.std.specs.Prelude.{IfSome}
use Rattle.spec_trees.specs.declared.tree.Tree.{Tree}
use Rattle.spec_trees.specs.declared.tree.Stretch.{Stretch}
use Rattle.spec_forced.specs.Sound.{States}
use Rattle.spec_crossing.specs.Resting.{PackedRests}
use Rattle.ts_gss.specs.Stacks.{IsOneStack}
use Rattle.ts_steps.specs.LiveHeads.{config_of, packed_of}
use Rattle.ts_reductions.specs.Lines.{IsSetting}
use Rattle.ts_steps.specs.Heads.{AreStatesOf, IsOwnHead, StandOnHead}
use Rattle.ts_steps.specs.Reparsing.{AreHonest, AreHonestlyLent}
use Rattle.ts_glr.specs.Turns.{turn_weight}
use Rattle.ts_glr.proofs.parsing.parse_with.Given as goal

abbrev pub invariant-loop-spread : goal.invariant-loop-spread
invariant-loop-spread g l = record {
  made : g.L.Tokens.made_for l.lexer l.table;
  least : g.O.Offers.least l.offers ≤ l.head.place;
  gives : (place state : ℕ) (t : Tree) → g.O.Offers.gives l.offers place state t → g.O.Offers.gives l.initial.offers place state t;
  lends : (place state symbol : ℕ) (s : Stretch) → g.O.Offers.lends l.offers place state symbol s → g.O.Offers.lends l.initial.offers place state symbol s;
  own : IsOwnHead l.table (length (g.L.Text.Content.bytes l.text)) l.stacks l.head;
  one : IsOneStack l.stacks l.head.top;
  kept : IfSome l.kept (IsSetting l.table (length (g.L.Text.Content.bytes l.text)));
  rests : (states : States) → AreStatesOf l.table states → AreHonest l.table.grammar states (g.L.Text.Content.bytes l.text) (g.O.Offers.gives l.initial.offers)
      → AreHonestlyLent l.table.grammar states (g.L.Text.Content.bytes l.text) (g.O.Offers.lends l.initial.offers)
      → PackedRests l.table.grammar (g.L.Text.Content.bytes l.text) l.stuck (packed_of l.stacks l.head) × StandOnHead l.table states (g.L.Text.Content.bytes l.text) l.stacks l.head;
}

abbrev pub decreases-loop-spread : goal.decreases-loop-spread
decreases-loop-spread g l = turn_weight l.table.grammar (length (g.L.Text.Content.bytes l.text)) (config_of l.stacks l.head)
