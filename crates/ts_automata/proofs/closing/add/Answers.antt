use Rattle.std.proofs.Common.{nat_eq}
use Rattle.ts_automata.proofs.AddsLemmas.{adds_key}
use Rattle.ts_automata.proofs.NumberLemmas.{same_nat}
use Rattle.ts_automata.proofs.closing.add.Goals as goal

pub returns : goal.returns
returns c = let e = c.in_ok-insert.ensures.keys in rw e (adds_key nat_eq same_nat c.args.found.now.keys c.args.node)
