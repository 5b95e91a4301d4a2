use Rattle.std.proofs.Common.{length, ◌-◌}
use Rattle.std.specs.Prelude.{string_bytes}
use Rattle.ts_query_tree.proofs.WordLemmas.{IsPiece}
use Rattle.ts_query_tree.proofs.sight.quoted.Given as goal

abbrev pub invariant-pieces : goal.invariant-pieces
invariant-pieces l = IsPiece l.text l.from l.kept l.at (string_bytes l.read)

abbrev pub decreases-pieces : goal.decreases-pieces
decreases-pieces l = length l.text - l.at
