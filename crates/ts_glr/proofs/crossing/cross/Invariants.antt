use Rattle.std.proofs.Common.{◌-◌, suc, length}
use Rattle.ts_glr.specs.Spreading.{IsSpreadFor}
use Rattle.ts_glr.proofs.crossing.cross.Given as goal

abbrev pub invariant-loop-spread : goal.invariant-loop-spread
invariant-loop-spread g l = record {
  made : g.L.Tokens.made_for l.lexer l.table;
  spread : IsSpreadFor l.table (g.L.Text.Content.bytes l.text) l.setting l.fn.stacks l.fn.start l.spread;
}

abbrev pub decreases-loop-spread : goal.decreases-loop-spread
decreases-loop-spread g l = suc (length (g.L.Text.Content.bytes l.text)) - l.spread.place
