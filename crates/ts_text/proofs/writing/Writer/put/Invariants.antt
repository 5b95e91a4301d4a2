use Rattle.std.proofs.Common.{◌≡◌, ◌+◌, ◌++◌, length}
use denote.Shadow.{shadow}
use denote.Text.{Utf8}
use Rattle.ts_text.specs.Written.{pending_of, written}
use Rattle.ts_text.proofs.writing.Writer.put.Given as goal

abbrev pub invariant-loop-rest : goal.invariant-loop-rest
invariant-loop-rest l = shadow (Utf8 l.rest) × (written l.self ++ l.rest ≡ written l.fn.self ++ l.fn.text)

abbrev pub decreases-loop-rest : goal.decreases-loop-rest
decreases-loop-rest l = length (pending_of l.self) + length l.rest
