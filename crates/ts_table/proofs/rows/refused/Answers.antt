use Rattle.std.proofs.Common.{◌≡◌, true, false, rules, arith}
use Rattle.ts_table.proofs.ContestLemmas.{refused_declared, refused_not}
use Rattle.ts_table.proofs.rows.refused.Goals as goal

pub returns-then-is_declared : goal.returns-then-is_declared
returns-then-is_declared c =
    let test : c.is_declared.result ≡ true = search (rules, c.if-is_declared.true) in
    refused_declared c.args.grammar.now c.args.cell.now c.args.actions c.in_ok-rules.rules.items c.as_slice-2.result.now c.as_slice.result.now c.is_declared.result c.in_ok-rules.ensures c.as_slice-2.ensures.value c.as_slice.ensures c.is_declared.ensures test

pub returns : goal.returns
returns c =
    let test : c.is_declared.result ≡ false = search (rules, c.if-is_declared.false) in
    refused_not c.args.grammar.now c.args.cell.now c.args.actions c.in_ok-rules.rules c.as_slice-2.result.now c.as_slice.result.now c.is_declared.result (let le = c.if-actions-lt2.false in omega (arith, le)) c.in_ok-rules.ensures c.as_slice-2.ensures.value c.as_slice.ensures c.is_declared.ensures test
