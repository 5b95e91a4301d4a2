use Rattle.std.proofs.lemmas.Result.{on_ok_weaker}
use Rattle.ts_items.proofs.PartLemmas.{begins_lines}
use Rattle.ts_items.proofs.closing.add_symbol.Goals as goal

pub returns-in_ok-place-in-Some-clause-adds : goal.returns-in_ok-place-in-Some-clause-adds
returns-in_ok-place-in-Some-clause-adds c = on_ok_weaker c.add_lines.result (begins_lines c.place_of.new.pool.keys c.args.lines.now c.args.tokens.now c.in-Some._token c.in_ok-place-in-Some.place c.args.parts.now.items c.add_lines.new.parts.items c.in-Some.ensures.some.1 c.in_ok-place-in-Some.ensures.inside c.in_ok-place-in-Some.ensures.same) c.add_lines.ensures
