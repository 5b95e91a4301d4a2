use Rattle.std.proofs.Common.{sym, subst, List, take}
use Rattle.ts_core.specs.declared.symbol.Symbol.{Symbol}
use Rattle.ts_numbering.specs.Numberings.{numbers_of}
use Rattle.ts_rules.specs.FirstSights.{Each}
use Rattle.ts_rules.specs.Normal.{AreSymbols}
use Rattle.ts_base.specs.Bytes.{Bytes}
use Rattle.ts_entries.proofs.MemberLemmas.{each_begin, each_more}
use Rattle.ts_entries.proofs.orderings.conflict_sets.Goals as goal

pub loop-names-init : goal.loop-names-init
loop-names-init c =
    let R = AreSymbols c.args.grammar.now (numbers_of c.args.numbering.now) in
    subst (λ (ss : List (List Symbol)). Each R (take 0 c.as_slice-names-items.result.now) ss) (sym c.in_ok-sets.ensures) (each_begin R c.as_slice-names-items.result.now)

pub loop-names-preserved : goal.loop-names-preserved
loop-names-preserved c =
    let g = c.args.grammar.now in
    let n = numbers_of c.args.numbering.now in
    each_more (AreSymbols g n) c.as_slice-names-items.result.now c.loop-names.sets _ c.loop-names.names-index c.names-item.result c.in_ok-symbols.symbols c.loop-names-test.true c.names-item.is
    (subst (λ (names : List Bytes). AreSymbols g n names c.in_ok-symbols.symbols) c.as_slice.ensures (c.in_ok-symbols.ensures g c.requires.survey)) c.in_ok-push.ensures.ok c.loop-names.invariant
