use Rattle.std.proofs.Common.{◌-◌, ◌≤◌, ◌↔◌, length}
use Rattle.ts_places.specs.Nothing.{ComesToNothing, IsOfNothing}
use Rattle.ts_places.proofs.nothing.is_of_nothing.Given as goal

abbrev pub invariant-loop-token : goal.invariant-loop-token
invariant-loop-token g l = record {
  made : g.L.Tokens.made_for l.lexer l.table;
  within : l.place ≤ length (g.L.Text.Content.bytes l.text);
  same : IsOfNothing l.table (g.L.Text.Content.bytes l.text) ↔ ComesToNothing l.table (g.L.Text.Content.bytes l.text) l.place;
}

abbrev pub decreases-loop-token : goal.decreases-loop-token
decreases-loop-token g l = length (g.L.Text.Content.bytes l.text) - l.place
