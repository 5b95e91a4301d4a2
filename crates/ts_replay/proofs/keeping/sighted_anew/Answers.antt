use Rattle.ts_replay.proofs.SightLemmas.{seen_anew}
use Rattle.ts_replay.proofs.keeping.sighted_anew.Goals as goal

pub returns-clause-sight : goal.returns-clause-sight
returns-clause-sight c = seen_anew c.args.grammar.now c.in_ok-version.version c.args.held.now c.in_ok-tree.tree c.args.root.now c.in_ok-version.ensures c.in_ok-tree.ensures c.requires
