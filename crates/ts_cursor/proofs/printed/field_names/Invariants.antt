use Rattle.std.proofs.Common.{◌≡◌, map, take}
use Rattle.spec_trees.specs.Shown.{field_name}
use Rattle.ts_cursor.proofs.printed.field_names.Given as goal

abbrev pub invariant-loop-field : goal.invariant-loop-field
invariant-loop-field l = l.names ≡ map (field_name l.grammar) (take l.field-index l.fields)
