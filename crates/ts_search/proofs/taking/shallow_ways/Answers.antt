use Rattle.ts_search.specs.Rows.{seen_row}
use Rattle.ts_search.proofs.ShallowLemmas.{shallow_none, shallow_one}
use Rattle.ts_search.proofs.taking.shallow_ways.Goals as goal

pub returns-then-looks : goal.returns-then-looks
returns-then-looks c =
    shallow_one c.args.sight.now c.args.item.now c.args.n (seen_row c.args.row) c.requires.node c.requires.shallow (c.looks.ensures.0 c.if-looks.true) c.requires.field c.in_ok-own.own c.in_ok-ways.ways.items
    (rw c.as_slice.ensures at c.in_ok-own.ensures) c.in_ok-ways.ensures

pub returns : goal.returns
returns c = shallow_none c.args.sight.now c.args.item.now c.args.n (seen_row c.args.row) c.requires.node c.requires.shallow (λ h. let y = c.looks.ensures.1 h in let f = c.if-looks.false in cc) c.new.result.items c.new.ensures.items
