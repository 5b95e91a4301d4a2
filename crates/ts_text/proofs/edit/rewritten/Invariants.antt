use Rattle.ts_text.specs.Parts.{IsRewritten}
use Rattle.ts_text.specs.Written.{written}
use Rattle.ts_text.proofs.edit.rewritten.Given as goal

abbrev pub invariant-loop-part : goal.invariant-loop-part
invariant-loop-part l = IsRewritten l.text l.parts l.part-index l.place (written l.writer)
