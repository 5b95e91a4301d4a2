use Rattle.std.proofs.Common.{take, ◌∷◌, []}
use Rattle.ts_base.specs.Bytes.{Bytes}
use Rattle.ts_table.specs.declared.view.ParseTable.{ParseTable}
use Rattle.ts_places.specs.Choosing.{HasForm}
use Rattle.ts_places.specs.EndLaws.{EndLaws}
use Rattle.ts_places.specs.Best.{CanChoose}
use Rattle.ts_places.proofs.BestLemmas.{KeepsWays}
use Rattle.ts_places.proofs.best.keep_roots.Given as goal

abbrev pub invariant-loop-way : goal.invariant-loop-way
invariant-loop-way l = (laws : EndLaws) (t : ParseTable) (text : Bytes) (can : CanChoose t text l.graph l.size (l.head ∷ [])) → HasForm t.grammar l.initial.best
    → KeepsWays laws t text l.graph can.sound l.size l.head (take l.way-index l.way-items) l.initial.best l.best
