use Rattle.std.proofs.Common.{◌≡◌, ◌∙◌, sym, ap, subst, true, false, refl, inl, inr, List, get_or}
use Rattle.ts_numbering.specs.Numberings.{numbers_of}
use Rattle.ts_rules.specs.Productions.{symbol}
use Rattle.ts_rules.specs.Sights.{NamedRule}
use Rattle.ts_entries.proofs.OwnerLemmas.{first_of}
use Rattle.ts_entries.proofs.owners.chosen_symbol.Goals as goal

pub returns-then-is_inlined : goal.returns-then-is_inlined
returns-then-is_inlined c =
    let g = c.args.grammar.now in (
      c.index-as_slice-0.result.0,
      inr ((c.is_inlined.ensures g c.requires.survey).0 c.if-is_inlined.true, first_of g.rules c.index-as_slice-0.result c.requires.file.some_rule (subst (λ (rs : List NamedRule). c.index-as_slice-0.result ≡ get_or rs 0 c.index-as_slice-0.result) c.as_slice.ensures c.index-as_slice-0.is)),
      c.rule_symbol.ensures ∙ ap (λ (r : NamedRule). symbol ((numbers_of c.args.numbering.now).rule r.0)) (sym c.index-as_slice-0.is),
    )

pub returns-else-is_inlined : goal.returns-else-is_inlined
returns-else-is_inlined c =
    (c.args.name.now, inl (λ inlined. let e : true ≡ false = sym ((c.is_inlined.ensures c.args.grammar.now c.requires.survey).1 inlined) ∙ c.if-is_inlined.false in cc, refl), c.rule_symbol-else-is_inlined.ensures)
