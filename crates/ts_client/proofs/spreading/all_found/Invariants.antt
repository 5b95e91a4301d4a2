use Rattle.std.proofs.Common.{◌≡◌, Some, map}
use Rattle.ts_client.proofs.spreading.all_found.Given as goal

abbrev pub invariant-loop-place : goal.invariant-loop-place
invariant-loop-place l = l.yielded ≡ map Some l.results
