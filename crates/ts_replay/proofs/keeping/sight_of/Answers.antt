use Rattle.ts_replay.proofs.SightLemmas.{seen_before}
use Rattle.ts_replay.proofs.keeping.sight_of.Goals as goal

pub returns-in-Some-clause-sight : goal.returns-in-Some-clause-sight
returns-in-Some-clause-sight c = seen_before c.args.grammar.now c.args.kept c.in-Some.sighted c.in-Some.ensures.same c.requires.kept
