use Rattle.std.proofs.lemmas.Option.{slice_get_within}
use Rattle.ts_crossing.proofs.DownLemmas.{token_only, no_token}
use Rattle.ts_crossing.proofs.leaving.last_token.Goals as goal

pub returns-in-None : goal.returns-in-None
returns-in-None c = λ k last. c.in-None.ensures k last.down

pub node-requires : goal.node-requires
node-requires c = slice_get_within c.args.graph.now.links c.in-Some.link c.in-Some.ensures.link c.in-Some.ensures.at

pub returns-then-is_token : goal.returns-then-is_token
returns-then-is_token c = token_only c.args.graph.now.links c.args.head c.in-Some.link c.in-Some.ensures c.node.result.now c.node.ensures (c.is_token.ensures.yes c.if-is_token.true)

pub returns-else-is_token : goal.returns-else-is_token
returns-else-is_token c = no_token c.args.graph.now.links c.args.head c.in-Some.link c.in-Some.ensures c.node.result.now c.node.ensures (c.is_token.ensures.no c.if-is_token.false)
