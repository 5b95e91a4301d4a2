use Rattle.std.proofs.Common.{refl}
use Rattle.ts_tokens.specs.Paths.{graph_of}
use Rattle.ts_tokens.proofs.PathLemmas.{ranks_fall}
use Rattle.ts_tokens.proofs.paths.ranked.Goals as goal

pub returns-then-visit_all : goal.returns-then-visit_all
returns-then-visit_all c = rw c.in_ok-ranks_in.ensures (ranks_fall (graph_of c.args.graph.now) _ (c.if-visit_all.ensures.ranked refl))
