use Rattle.ts_text.specs.Parts.{IsSize}
use Rattle.ts_text.proofs.edit.size_after.Given as goal

abbrev pub invariant-loop-part : goal.invariant-loop-part
invariant-loop-part l = IsSize l.text l.parts l.part-index l.place l.size
