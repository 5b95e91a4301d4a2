-- What the short form of a summary stands for.
use Rattle.std.specs.Prelude.{ℕ, Option, Some, None, nat_lt, if◌then◌else◌}
use Rattle.ts_node.specs.declared.node.Summary.{Summary}
use Rattle.ts_node.specs.declared.short.ShortSummary.{ShortSummary}

-- the state that stands in a short form: none at the greatest number
abbrev pub state_in : ℕ → Option ℕ
state_in state = if nat_lt state 65535 then Some state else None

-- the summary that a short one stands for
abbrev pub summary_of : ShortSummary → Summary
summary_of s = record {
  symbol = s.symbol;
  depth = s.depth;
  size = s.size;
  pad = s.pad;
  extent = s.extent;
  settled = s.settled;
  state = state_in s.state;
  nodes = s.nodes;
  production = s.production;
  dynamic = s.dynamic;
}
