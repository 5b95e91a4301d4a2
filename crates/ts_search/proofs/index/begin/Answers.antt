use Rattle.ts_search.proofs.IndexLemmas.{puts_new}
use Rattle.ts_search.proofs.index.begin.Goals as goal

pub returns : goal.returns
returns c = puts_new c.args.groups.now.items c.args.one.now c.push-2.new.self.items c.push.new.self (rw c.new-numbers.ensures.items at c.in_ok-push.ensures.items) c.in_ok-push-2.ensures.items
