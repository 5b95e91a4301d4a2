use Rattle.std.proofs.Common.{arith}
use Rattle.ts_table.proofs.SetLemmas.{has_at_place}
use Rattle.ts_table.proofs.candidates.begins.Goals as goal

pub returns : goal.returns
returns c = has_at_place c.args.firsts.now c.args.symbol c.from-symbol.result c.args.token c.from.result c.index-firsts-symbol.result c.contains.result c.from-symbol.ensures c.from.ensures (let lt = c.if-symbol-firsts.false in omega (arith, lt)) c.index-firsts-symbol.is c.contains.ensures
