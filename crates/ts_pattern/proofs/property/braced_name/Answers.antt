use Rattle.std.proofs.Common.{◌≡◌, ◌+◌, ◌≤◌, sym, ap, ◌∙◌, arith}
use Rattle.ucd_sets.specs.Loose.{normalize}
use Rattle.ts_pattern.specs.Escapes.{named, found}
use Rattle.ts_pattern.proofs.PropertyLemmas.{braced_found}
use Rattle.ts_pattern.proofs.property.braced_name.Goals as goal

pub returns-clause-value : goal.returns-clause-value
returns-clause-value c =
    let some : 1 ≤ c.args.count = omega arith in
    let closed : c.peek.result ≡ 125 = omega arith in
    c.found.ensures
    ∙ ap (found c.args.at c.args.lacking (c.args.start + c.args.count + 1)) (c.named-set.ensures ∙ ap (named c.args.table) (c.deref.ensures.value ∙ c.in_ok-name.ensures ∙ ap normalize c.part.ensures))
    ∙ braced_found c.args.text.now c.args.at c.args.lacking c.args.table c.args.start c.args.count some (sym c.peek.ensures.value ∙ closed)
