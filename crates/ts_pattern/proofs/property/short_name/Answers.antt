use Rattle.std.proofs.Common.{◌≡◌, ◌+◌, true, sym, ap, ◌∙◌}
use Rattle.ucd_sets.specs.Loose.{normalize}
use Rattle.ts_pattern.specs.declared.property.Table.TheVariants.{Any}
use Rattle.ts_pattern.specs.Characters.{is_name_char}
use Rattle.ts_pattern.specs.Escapes.{named, found}
use Rattle.ts_pattern.proofs.PropertyLemmas.{short_found}
use Rattle.ts_pattern.proofs.property.short_name.Goals as goal

pub returns-clause-value : goal.returns-clause-value
returns-clause-value c =
    let passes : c.is_name_char.result ≡ true = cc in
    c.found.ensures
    ∙ ap (found c.args.at c.args.lacking (c.args.at + 3)) (c.named-set.ensures ∙ ap (named Any) (c.deref.ensures.value ∙ c.in_ok-name.ensures ∙ ap normalize c.part.ensures))
    ∙ short_found c.args.text.now c.args.at c.args.lacking (sym (c.is_name_char.ensures.value ∙ ap is_name_char c.peek.ensures.value) ∙ passes)
