use Rattle.std.proofs.Common.{map}
use Rattle.serde_json.specs.View.{view}
use Rattle.ts_script.specs.Said.{HasPlaces, piece_data}
use Rattle.ts_script.specs.Forms.{AreAll}
use Rattle.ts_script.proofs.form.pieces.Given as goal

abbrev pub invariant-loop-value : goal.invariant-loop-value
invariant-loop-value l = AreAll HasPlaces piece_data (map view l.yielded) l.found
