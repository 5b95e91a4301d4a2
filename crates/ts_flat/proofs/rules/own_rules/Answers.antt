use Rattle.std.proofs.Common.{sym, subst, List, take, arith}
use Rattle.ts_base.specs.Bytes.{Bytes}
use Rattle.ts_core.specs.declared.flat.FlatRule.{FlatRule}
use Rattle.ts_numbering.specs.Numberings.{numbers_of, lists_of}
use Rattle.ts_rules.specs.FirstSights.{Each}
use Rattle.ts_rules.specs.Names.{told}
use Rattle.ts_rules.specs.Normal.{IsOwnRule}
use Rattle.ts_tokens.specs.Names.{HaveSame}
use Rattle.ts_flat.proofs.EachLemmas.{each_begin, each_next, each_all, told_long}
use Rattle.ts_flat.proofs.rules.own_rules.Goals as goal

pub loop-at-init : goal.loop-at-init
loop-at-init c =
    let n = numbers_of c.args.numbering.now in
    let x = lists_of c.args.numbering.now in
    subst (λ (rules : List FlatRule). Each (IsOwnRule c.args.grammar.now n x) (take 0 x.rules) rules) (sym c.new-rules.ensures) (each_begin (IsOwnRule c.args.grammar.now n x) x.rules)

pub loop-at-preserved : goal.loop-at-preserved
loop-at-preserved c =
    let n = numbers_of c.args.numbering.now in
    let x = lists_of c.args.numbering.now in
    let es = c.args.numbering.now.survey.rules.entries in
    let same = subst (λ (names : List Bytes). HaveSame (told c.in_ok-supertypes.supertypes.keys) names) c.as_slice.ensures c.in_ok-supertypes.ensures in
    each_next (IsOwnRule c.args.grammar.now n x) x.rules c.loop-at.rules _ c.loop-at.at c.in_ok-rule.rule (omega (arith, c.loop-at-test.true, c.len.ensures.len, told_long es))
    (λ rule h. c.in_ok-rule.ensures c.args.grammar.now rule same h) c.in_ok-push.ensures.ok c.loop-at.invariant

pub returns : goal.returns
returns c =
    let n = numbers_of c.args.numbering.now in
    let x = lists_of c.args.numbering.now in
    let es = c.args.numbering.now.survey.rules.entries in
    each_all (IsOwnRule c.args.grammar.now n x) x.rules c.loop-at.rules c.loop-at.at (omega (arith, c.loop-at-test.false, c.len.ensures.len, told_long es)) c.loop-at.invariant
