use Rattle.std.proofs.Common.{refl, sym, subst, Option, Some}
use Rattle.std.specs.Global.{Vec}
use Rattle.ts_core.specs.declared.symbol.Symbol.{Symbol}
use Rattle.ts_table.specs.Rows.{IsStillLeast}
use Rattle.ts_table.proofs.building.with_entry.Goals as goal

pub returns-in-Some : goal.returns-in-Some
returns-in-Some c = subst (λ (f : Option (Vec Symbol)). IsStillLeast c.args.old c.args.token f (Some c.least.result)) (sym c.in-Some.is) (c.least.result, refl, c.least.ensures)
