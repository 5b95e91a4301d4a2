use Rattle.std.proofs.Common.{◌≡◌, true, false, rules}
use Rattle.ts_table.proofs.ContestLemmas.{same_not, same_both}
use Rattle.ts_table.proofs.conflicts.are_same.Goals as goal

pub returns-then-not-are_among : goal.returns-then-not-are_among
returns-then-not-are_among c =
    let test : c.are_among.result ≡ false = search (rules, c.if-not-are_among.true) in
    same_not c.args.a.now c.args.b.now c.are_among.result test c.are_among.ensures

pub returns : goal.returns
returns c =
    let test : c.are_among.result ≡ true = search (rules, c.if-not-are_among.false) in
    same_both c.args.a.now c.args.b.now c.are_among.result c.are_among-2.result test c.are_among.ensures c.are_among-2.ensures
