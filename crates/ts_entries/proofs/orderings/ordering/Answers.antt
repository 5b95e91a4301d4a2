use Rattle.std.proofs.Common.{sym, subst, List, take}
use Rattle.ts_core.specs.declared.flat.Entry.{Entry}
use Rattle.ts_numbering.specs.Numberings.{numbers_of}
use Rattle.ts_rules.specs.Normal.{AreEntries, IsKeptEntry, entry}
use Rattle.ts_entries.proofs.KeptLemmas.{kept_begin, kept_left, kept_more}
use Rattle.ts_entries.proofs.orderings.ordering.Goals as goal

pub loop-one-init : goal.loop-one-init
loop-one-init c = λ g survey.
    let n = numbers_of c.args.numbering.now in
    subst (λ (es : List Entry). AreEntries g n (take 0 c.args.ranked.now) es) (sym c.new-entries.ensures) (kept_begin (IsKeptEntry g) (entry n) c.args.ranked.now)

pub loop-one-preserved-in-None : goal.loop-one-preserved-in-None
loop-one-preserved-in-None c = λ g survey.
    kept_left (IsKeptEntry g) (entry (numbers_of c.args.numbering.now)) c.args.ranked.now c.loop-one.entries c.loop-one.one-index c.one-item.result c.loop-one-test.true c.one-item.is
    (c.in-None.ensures g survey) (c.loop-one.invariant g survey)

pub loop-one-preserved : goal.loop-one-preserved
loop-one-preserved c = λ g survey.
    kept_more (IsKeptEntry g) (entry (numbers_of c.args.numbering.now)) c.args.ranked.now c.loop-one.entries _ c.loop-one.one-index c.one-item.result c.in-Some.entry c.loop-one-test.true c.one-item.is
    (c.in-Some.ensures g survey).0 (c.in-Some.ensures g survey).1 c.in_ok-push-in-Some.ensures.ok (c.loop-one.invariant g survey)
