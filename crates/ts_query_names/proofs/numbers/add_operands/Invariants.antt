use Rattle.std.proofs.Common.{◌≡◌, take}
use Rattle.std.specs.List.{flat_map}
use Rattle.std.specs.Str.{bytes_eq}
use Rattle.ts_query_names.specs.Kinds.{with_new}
use Rattle.ts_query_names.specs.LentNames.{told}
use Rattle.ts_query_names.specs.Mentions.{operand_capture}
use Rattle.ts_query_names.proofs.numbers.add_operands.Given as goal

abbrev pub invariant-loop-operand : goal.invariant-loop-operand
invariant-loop-operand l = told l.found.keys ≡ with_new bytes_eq (told l.initial.found.keys) (flat_map operand_capture (take l.operand-index l.operands))
