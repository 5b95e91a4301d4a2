use Rattle.std.proofs.Common.{refl, arith}
use Rattle.ts_gss.specs.Stacks.{stack_at, trees_on}
use Rattle.ts_crossing.proofs.ForkLemmas.{fork_bytes}
use Rattle.ts_crossing.proofs.MadeLemmas.{trees_made}
use Rattle.ts_crossing.proofs.laws.own_stacks_enter.Goals as goal

pub returns-clause-fork : goal.returns-clause-fork
returns-clause-fork c t text stacks h table short own fork =
    let bytes = fork_bytes c.enter_laws_hold.ensures t text stacks h fork own.live.stack.good in
    record {
      table = table;
      short = short;
      live = own.live;
      made = trees_made c.made_laws_hold.ensures t.grammar (trees_on (stack_at stacks h.top)) own.live.stack.good own.own own.made bytes;
      bytes = bytes;
    }

pub returns-clause-start : goal.returns-clause-start
returns-clause-start c t text table short = record {
  table = table;
  short = short;
  live = record {
    there = omega arith;
    stack = record { states = tt; depths = tt; good = tt; spans = refl; reach = tt; within = omega arith };
  };
  made = tt;
  bytes = tt;
}
