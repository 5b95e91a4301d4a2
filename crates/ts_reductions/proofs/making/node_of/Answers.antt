use Rattle.ts_reductions.proofs.making.node_of.Goals as goal

pub reduce-requires-clause-fits : goal.reduce-requires-clause-fits
reduce-requires-clause-fits c = c.requires.fits

pub reduce-requires-clause-node : goal.reduce-requires-clause-node
reduce-requires-clause-node c = c.node_laws_hold.ensures.node _ _ _ _ _ c.requires
