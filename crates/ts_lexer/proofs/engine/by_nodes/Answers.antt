use Rattle.std.proofs.Common.{arith}
use Rattle.ts_lexer.proofs.engine.by_nodes.Goals as goal

pub returns-clause-engine : goal.returns-clause-engine
returns-clause-engine c g rules automaton marks = record {
  way = record { rules = rules; automaton = automaton; size = omega (arith, c.in_ok-walk.ensures, c.len.ensures, c.args.automaton.nodes.ok.0) };
  marks = marks;
  count = omega (arith, c.in_ok-pairs.ensures.len, c.in_ok-pairs.pairs.ok.0, c.len-2.ensures.len);
  pairs = λ k valid p a b. tt;
}
