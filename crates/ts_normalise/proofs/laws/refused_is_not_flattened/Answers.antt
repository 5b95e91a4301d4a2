use Rattle.ts_normalise.proofs.laws.refused_is_not_flattened.Goals as goal

pub returns : goal.returns
returns c g e f refused flat = flat.accepted e refused
