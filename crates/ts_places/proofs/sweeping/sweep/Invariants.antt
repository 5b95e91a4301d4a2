use Rattle.std.proofs.Common.{ℕ}
use Rattle.spec_graph.specs.States.{AreRanks}
use Rattle.ts_table.specs.Ranks.{unit_rank}
use Rattle.ts_reductions.specs.Sound.{Base}
use Rattle.ts_places.specs.Passing.{first_key}
use Rattle.ts_places.specs.Seeking.{seek_at, AreDue}
use Rattle.ts_places.specs.Sweeping.{CanSweep, IsWholeBy, IsSweptTo}
use Rattle.ts_places.proofs.sweeping.sweep.Given as goal

abbrev pub invariant-loop-next : goal.invariant-loop-next
invariant-loop-next g l = record {
  made : g.L.Tokens.made_for l.lexer l.table;
  due : AreDue l.table l.graph (seek_at l.place l.below) l.sights.tops.items l.kept.dues.items;
  can : (base : Base) → CanSweep l.table (g.L.Text.Content.bytes l.text) base l.setting l.initial.graph l.place l.initial.sights → CanSweep l.table (g.L.Text.Content.bytes l.text) base l.setting l.graph l.place l.sights;
  swept : (base : Base) (most : ℕ) → CanSweep l.table (g.L.Text.Content.bytes l.text) base l.setting l.initial.graph l.place l.initial.sights → AreRanks l.table.grammar (unit_rank l.table.grammar) most
      → IsWholeBy l.table (g.L.Text.Content.bytes l.text) base l.initial.graph (first_key most l.place) → IsSweptTo l.table (g.L.Text.Content.bytes l.text) base most l.initial.graph l.graph l.place l.below;
}

abbrev pub decreases-loop-next : goal.decreases-loop-next
decreases-loop-next g l = l.below
