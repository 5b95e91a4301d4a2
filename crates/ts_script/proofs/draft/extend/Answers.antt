use Rattle.std.proofs.Common.{◌≡◌, ◌≤◌, suc, ◌+◌, max, length, arith}
use Rattle.std.proofs.Math.Nat.{le-max_left}
use Rattle.ts_script.proofs.draft.extend.Goals as goal

pub loop-alloc-preserved : goal.loop-alloc-preserved
loop-alloc-preserved c =
    let grown : length c.push_empty.new.clients.items ≡ length c.loop-alloc.clients.items + 1 = c.in_ok-push_empty.ensures.count in
    let longer : length c.args.clients.now.items ≤ length c.loop-alloc.clients.items = c.loop-alloc.invariant.0 in
    let top : suc c.args.client ≤ max (suc c.args.client) (length c.args.clients.now.items) = le-max_left (suc c.args.client) (length c.args.clients.now.items) in (
      omega (arith, grown, longer),
      omega (arith, grown, top, c.loop-alloc-test.true, c.len.ensures),
      c.in_ok-push_empty.ensures.steps c.args.clients.now.items longer c.loop-alloc.invariant.2,
    )
