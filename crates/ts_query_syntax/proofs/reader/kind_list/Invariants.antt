use Rattle.std.proofs.Common.{◌≡◌, take, map}
use Rattle.ts_query_names.specs.LentNames.{kinds_told}
use Rattle.ts_query_syntax.specs.Queries.{kind_name}
use Rattle.ts_query_syntax.proofs.reader.kind_list.Given as goal

abbrev pub invariant-loop-name : goal.invariant-loop-name
invariant-loop-name l = map kind_name l.found ≡ kinds_told (take l.name-index l.kinds.keys)
