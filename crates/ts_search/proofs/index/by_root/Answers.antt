use Rattle.std.proofs.Common.{length}
use Rattle.ts_search.proofs.IndexLemmas.{rooted_moved}
use Rattle.ts_search.proofs.index.by_root.Goals as goal

pub returns : goal.returns
returns c = rooted_moved c.args.patterns.now (length c.args.patterns.now) _ _ c.sort_unstable.ensures.permutation c.in_ok-all.ensures
