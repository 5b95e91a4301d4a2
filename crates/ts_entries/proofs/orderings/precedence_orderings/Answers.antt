use Rattle.std.proofs.Common.{sym, subst, List, take}
use Rattle.ts_core.specs.declared.flat.Entry.{Entry}
use Rattle.ts_core.specs.declared.rule.Ranked.{Ranked}
use Rattle.ts_numbering.specs.Numberings.{numbers_of}
use Rattle.ts_rules.specs.FirstSights.{Each}
use Rattle.ts_rules.specs.Normal.{AreEntries}
use Rattle.ts_entries.proofs.MemberLemmas.{each_begin, each_more}
use Rattle.ts_entries.proofs.orderings.precedence_orderings.Goals as goal

pub loop-ranked-init : goal.loop-ranked-init
loop-ranked-init c =
    let R = AreEntries c.args.grammar.now (numbers_of c.args.numbering.now) in
    subst (λ (es : List (List Entry)). Each R (take 0 c.as_slice-ranked-items.result.now) es) (sym c.in_ok-orderings.ensures) (each_begin R c.as_slice-ranked-items.result.now)

pub loop-ranked-preserved : goal.loop-ranked-preserved
loop-ranked-preserved c =
    let g = c.args.grammar.now in
    let n = numbers_of c.args.numbering.now in
    each_more (AreEntries g n) c.as_slice-ranked-items.result.now c.loop-ranked.orderings _ c.loop-ranked.ranked-index c.ranked-item.result c.in_ok-entries.entries c.loop-ranked-test.true c.ranked-item.is
    (subst (λ (ranked : List Ranked). AreEntries g n ranked c.in_ok-entries.entries) c.as_slice.ensures (c.in_ok-entries.ensures g c.requires.survey)) c.in_ok-push.ensures.ok c.loop-ranked.invariant
