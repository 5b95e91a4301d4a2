use Rattle.std.proofs.Common.{All, take}
use Rattle.ts_text.specs.Edit.{IsPartOf}
use Rattle.ts_text.proofs.edit.are_within.Given as goal

abbrev pub invariant-loop-part : goal.invariant-loop-part
invariant-loop-part l = All (IsPartOf l.text) (take l.part-index l.parts)
