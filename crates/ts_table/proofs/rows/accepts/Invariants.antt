use Rattle.std.proofs.Common.{take}
use Rattle.std.specs.List.{Contains}
use Rattle.ts_items.specs.declared.part.Part.{Part}
use Rattle.ts_table.specs.Rows.{IsAcceptPart}
use Rattle.ts_table.proofs.rows.accepts.Given as goal

abbrev pub invariant-loop-part : goal.invariant-loop-part
invariant-loop-part l = (q : Part) → Contains (take l.part-index l.parts) q → IsAcceptPart l.pool.keys q → ⊥
