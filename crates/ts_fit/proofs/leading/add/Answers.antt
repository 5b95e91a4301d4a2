use Rattle.ts_fit.proofs.GrowLemmas.{adds_key}
use Rattle.ts_fit.proofs.leading.add.Goals as goal

pub returns : goal.returns
returns c = let e = c.in_ok-insert.ensures.keys in rw e (adds_key c.args.found.now.keys c.args.place)
