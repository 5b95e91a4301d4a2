use Rattle.std.proofs.Common.{◌≡◌, take}
use Rattle.ts_query_names.specs.LentNames.{told}
use Rattle.ts_query_syntax.proofs.reader.name_list.Given as goal

abbrev pub invariant-loop-name : goal.invariant-loop-name
invariant-loop-name l = l.found ≡ told (take l.name-index l.names.keys)
