use Rattle.std.proofs.Common.{◌≡◌, ◌+◌, ◌≤◌, drop}
use Rattle.std.specs.List.{prefix_len}
use Rattle.spec_lexing.specs.Seen.{is_inner}
use Rattle.ts_lexer.proofs.answering.inner_bytes.Given as goal

abbrev pub invariant-loop-end : goal.invariant-loop-end
invariant-loop-end l = record {
  rises : l.place ≤ l.end;
  inner : l.place + prefix_len is_inner (drop l.place l.text) ≡ l.end + prefix_len is_inner (drop l.end l.text);
}
