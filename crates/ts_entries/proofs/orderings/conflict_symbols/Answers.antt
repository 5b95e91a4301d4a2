use Rattle.std.proofs.Common.{◌≡◌, ◌∙◌, sym, subst, true, false, List, take}
use Rattle.ts_base.specs.Bytes.{Bytes}
use Rattle.ts_core.specs.declared.symbol.Symbol.{Symbol}
use Rattle.ts_numbering.specs.Numberings.{numbers_of}
use Rattle.ts_rules.specs.FirstSights.{Not}
use Rattle.ts_rules.specs.Normal.{AreSymbols}
use Rattle.ts_rules.specs.Numbers.{IsInlined}
use Rattle.ts_rules.specs.Productions.{symbol}
use Rattle.ts_entries.proofs.KeptLemmas.{kept_begin, kept_left, kept_more, kept_all}
use Rattle.ts_entries.proofs.orderings.conflict_symbols.Goals as goal

pub loop-name-init : goal.loop-name-init
loop-name-init c = λ g survey.
    let n = numbers_of c.args.numbering.now in
    subst (λ (ss : List Symbol). AreSymbols g n (take 0 c.args.names.now) ss) (sym c.new-symbols.ensures) (kept_begin (λ (name : Bytes). Not (IsInlined g name)) (λ (name : Bytes). symbol (n.rule name)) c.args.names.now)

pub loop-name-preserved-then-is_inlined : goal.loop-name-preserved-then-is_inlined
loop-name-preserved-then-is_inlined c = λ g survey.
    let n = numbers_of c.args.numbering.now in
    let yes : c.is_inlined.result ≡ true = cc in
    kept_left (λ (name : Bytes). Not (IsInlined g name)) (λ (name : Bytes). symbol (n.rule name)) c.args.names.now c.loop-name.symbols c.loop-name.name-index c.name-item.result c.loop-name-test.true c.name-item.is
    (λ no. no ((c.is_inlined.ensures g survey).0 yes)) (c.loop-name.invariant g survey)

pub loop-name-preserved : goal.loop-name-preserved
loop-name-preserved c = λ g survey.
    let n = numbers_of c.args.numbering.now in
    let no : c.is_inlined.result ≡ false = cc in
    kept_more (λ (name : Bytes). Not (IsInlined g name)) (λ (name : Bytes). symbol (n.rule name)) c.args.names.now c.loop-name.symbols _ c.loop-name.name-index c.name-item.result _ c.loop-name-test.true c.name-item.is
    (λ inlined. let e : true ≡ false = sym ((c.is_inlined.ensures g survey).1 inlined) ∙ no in cc) c.rule_symbol.ensures c.in_ok-push.ensures.ok (c.loop-name.invariant g survey)

pub returns : goal.returns
returns c = λ g survey.
    let n = numbers_of c.args.numbering.now in
    kept_all (λ (name : Bytes). Not (IsInlined g name)) (λ (name : Bytes). symbol (n.rule name)) c.args.names.now c.loop-name.symbols c.loop-name.name-index c.loop-name-test.false (c.loop-name.invariant g survey)
