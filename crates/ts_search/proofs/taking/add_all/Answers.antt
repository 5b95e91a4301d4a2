use Rattle.ts_search.proofs.TakeLemmas.{adds_first, adds_list}
use Rattle.ts_search.proofs.taking.add_all.Goals as goal

pub returns-then-is_none : goal.returns-then-is_none
returns-then-is_none c = adds_first c.args.out.now.items c.args.more.items ((rw c.as_slice.ensures.value at c.is_none.ensures).0 c.if-is_none.true)

pub returns : goal.returns
returns c = adds_list c.args.out.now.items c.args.more.items c.append.new.self.items c.in_ok-append.ensures.items
