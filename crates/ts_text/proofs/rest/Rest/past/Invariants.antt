use Rattle.std.proofs.Common.{length}
use denote.Shadow.{shadow}
use denote.Text.{Utf8}
use Rattle.ts_text.specs.Pieces.{IsPast}
use Rattle.ts_text.proofs.rest.Rest.past.Given as goal

abbrev pub invariant-loop-head : goal.invariant-loop-head
invariant-loop-head l = shadow (Utf8 l.head) × IsPast l.fn.self l.fn.count l.head l.later l.count

abbrev pub decreases-loop-head : goal.decreases-loop-head
decreases-loop-head l = length l.later
