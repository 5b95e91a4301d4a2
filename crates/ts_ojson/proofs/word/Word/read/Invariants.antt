use Rattle.std.proofs.Common.{◌≤◌, ◌-◌, ◌+◌, length}
use Rattle.ts_ojson.specs.Machine.{Frames}
use Rattle.ts_ojson.specs.States.{word}
use Rattle.ts_ojson.specs.Places.{Reaches}
use Rattle.ts_ojson.proofs.word.Word.read.Given as goal

abbrev pub invariant-loop-read : goal.invariant-loop-read
invariant-loop-read l = record {
  within : (1 ≤ l.read) × (l.from + l.read ≤ length l.text) × (l.read ≤ length l.letters);
  reaches : (k : Frames) → Reaches l.text (l.from + 1) (word l.self 1) k → Reaches l.text (l.from + l.read) (word l.self l.read) k;
}

abbrev pub decreases-loop-read : goal.decreases-loop-read
decreases-loop-read l = length l.letters - l.read
