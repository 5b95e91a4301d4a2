use Rattle.std.proofs.Common.{◌≡◌, ℕ, List, ◌++◌, length, take}
use Rattle.ts_reductions.specs.declared.top.Top.{Top}
use Rattle.ts_reductions.specs.Again.{AreLed}
use Rattle.ts_places.specs.Looking.{AllStandAt, AreSights}
use Rattle.ts_places.proofs.looking.look_all.Given as goal

abbrev pub invariant-loop-number : goal.invariant-loop-number
invariant-loop-number g l = record {
  made : g.L.Tokens.made_for l.lexer l.table;
  count : length l.sights.tops.items ≡ length l.sights.spans.items;
  more : (more : List Top) × (l.sights.tops.items ≡ l.initial.sights.tops.items ++ more);
  sights : (look : ℕ) (before : List ℕ) → AllStandAt l.graph look l.numbers → AreSights l.table (g.L.Text.Content.bytes l.text) l.graph look before l.initial.sights → AreLed l.table (g.L.Text.Content.bytes l.text) l.graph l.initial.sights.tops.items l.room
      → AreSights l.table (g.L.Text.Content.bytes l.text) l.graph look (before ++ take l.number-index l.numbers) l.sights;
}
