use Rattle.std.proofs.Common.{map}
use Rattle.serde_json.specs.View.{view}
use Rattle.ts_script.specs.Said.{IsNumber, whole}
use Rattle.ts_script.specs.Forms.{AreAll}
use Rattle.ts_script.proofs.form.numbers.Given as goal

abbrev pub invariant-loop-value : goal.invariant-loop-value
invariant-loop-value l = AreAll IsNumber whole (map view l.yielded) l.found
