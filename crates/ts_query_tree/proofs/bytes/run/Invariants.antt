use Rattle.std.proofs.Common.{◌≡◌, ◌+◌, drop}
use Rattle.std.specs.List.{prefix_len}
use Rattle.ts_query_tree.specs.Words.{passes}
use Rattle.ts_query_tree.proofs.bytes.run.Given as goal

abbrev pub invariant-bytes : goal.invariant-bytes
invariant-bytes l = prefix_len (passes l.test) l.rest ≡ l.i + prefix_len (passes l.test) (drop l.i l.rest)
