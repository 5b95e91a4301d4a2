use Rattle.std.proofs.Common.{sym, subst, List, take, arith}
use Rattle.ts_core.specs.declared.flat.FlatRule.{FlatRule}
use Rattle.ts_entries.specs.Owners.{IsOwnerSymbol}
use Rattle.ts_numbering.specs.Numberings.{numbers_of, lists_of}
use Rattle.ts_rules.specs.FirstSights.{Each}
use Rattle.ts_rules.specs.Normal.{IsRepetition}
use Rattle.ts_flat.proofs.EachLemmas.{each_begin, each_next, each_all, each_there}
use Rattle.ts_flat.proofs.rules.repetitions.Goals as goal

pub loop-at-init : goal.loop-at-init
loop-at-init c =
    let n = numbers_of c.args.numbering.now in
    let x = lists_of c.args.numbering.now in
    λ g owners. subst (λ (rules : List FlatRule). Each (IsRepetition g n x) (take 0 x.contents) rules) (sym c.new-rules.ensures) (each_begin (IsRepetition g n x) x.contents)

pub loop-at-preserved : goal.loop-at-preserved
loop-at-preserved c =
    let n = numbers_of c.args.numbering.now in
    let x = lists_of c.args.numbering.now in
    λ g owners.
    each_next (IsRepetition g n x) x.contents c.loop-at.rules _ c.loop-at.at c.in_ok-rule.rule (omega (arith, c.loop-at-test.true, c.requires.owners))
    (λ content h. c.in_ok-rule.ensures g content h (each_there (IsOwnerSymbol g n) x.contents c.args.owners.now c.loop-at.at content c.owner_at-owner.result owners h c.owner_at-owner.ensures))
    c.in_ok-push.ensures.ok (c.loop-at.invariant g owners)

pub returns : goal.returns
returns c =
    let n = numbers_of c.args.numbering.now in
    let x = lists_of c.args.numbering.now in
    λ g owners. each_all (IsRepetition g n x) x.contents c.loop-at.rules c.loop-at.at (omega (arith, c.loop-at-test.false, c.requires.owners)) (c.loop-at.invariant g owners)
