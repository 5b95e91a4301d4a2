use Rattle.std.proofs.Common.{◌≡◌, ◌∙◌, sym, subst, true, false, List}
use Rattle.ts_base.specs.Bytes.{Bytes}
use Rattle.ts_numbering.specs.Numberings.{numbers_of}
use Rattle.ts_entries.specs.Supertypes.{AreSupertypes}
use Rattle.ts_entries.proofs.SupertypeLemmas.{numbers_left, numbers_more, numbers_all}
use Rattle.ts_entries.proofs.supertypes.supertype_numbers.Goals as goal

pub loop-name-preserved-then-is_inlined : goal.loop-name-preserved-then-is_inlined
loop-name-preserved-then-is_inlined c =
    let g = c.args.grammar.now in
    let t : c.is_inlined.result ≡ true = cc in
    numbers_left g (numbers_of c.args.numbering.now) c.loop-name.numbers c.as_slice-name-items.result.now c.loop-name.name-index c.name-item.result c.loop-name-test.true c.name-item.is
    ((c.is_inlined.ensures g c.requires.survey).0 t) c.loop-name.invariant

pub loop-name-preserved : goal.loop-name-preserved
loop-name-preserved c =
    let g = c.args.grammar.now in
    let f : c.is_inlined.result ≡ false = cc in
    numbers_more g (numbers_of c.args.numbering.now) c.loop-name.numbers c.insert.new.self c.as_slice-name-items.result.now c.loop-name.name-index c.name-item.result c.rule_number.result c.loop-name-test.true c.name-item.is
    (λ inlined. let e : true ≡ false = sym ((c.is_inlined.ensures g c.requires.survey).1 inlined) ∙ f in cc) c.rule_number.ensures c.in_ok-insert.ensures.updates.0 c.loop-name.invariant

pub returns : goal.returns
returns c =
    let g = c.args.grammar.now in
    let n = numbers_of c.args.numbering.now in
    subst (λ (names : List Bytes). AreSupertypes g n names c.loop-name.numbers) c.as_slice-name-items.ensures
    (numbers_all g n c.loop-name.numbers c.as_slice-name-items.result.now c.loop-name.name-index c.loop-name-test.false c.loop-name.invariant)
