use Rattle.std.proofs.Common.{◌≡◌}
use Rattle.ts_replay.specs.Running.{books_of}
use Rattle.ts_replay.proofs.replaying.books.Given as goal

abbrev pub invariant-loop-document : goal.invariant-loop-document
invariant-loop-document l = l.books ≡ books_of l.yielded
