use Rattle.std.proofs.Common.{◌∙◌, ap, List}
use Rattle.ts_table.specs.declared.marks.Mark.{Mark}
use Rattle.ts_table.specs.Marks.{mark_before}
use Rattle.ts_table.proofs.MarkLemmas.{line_weight, first_weight}
use Rattle.ts_table.proofs.marks.Marks.weight.Goals as goal

pub returns-then-line-eq0 : goal.returns-then-line-eq0
returns-then-line-eq0 c g are = first_weight g c.args.self.now c.args.line c.args.dot c.weight_by.result are c.if-line-eq0.true c.weight_by.ensures

pub returns : goal.returns
returns c g are = line_weight g c.args.self.now c.args.line c.from.result c.args.dot c.index-production.result.now c.before-2.result c.weight_by-2.result are (λ e. c.if-line-eq0.false e) c.from.ensures c.requires c.index-production.ensures
    (c.before-2.ensures ∙ ap (λ (l : List Mark). mark_before l c.args.dot) c.as_slice.ensures.value) c.weight_by-2.ensures
