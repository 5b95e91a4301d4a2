use Rattle.ts_search.proofs.taking.all_embeddings.Goals as goal

pub returns : goal.returns
returns c f = (c.in_ok-found.ensures.only f, c.in_ok-found.ensures.all c.if-limit.false f)
