use Rattle.std.proofs.Common.{◌∙◌, ap, List}
use Rattle.ts_table.specs.declared.marks.Mark.{Mark}
use Rattle.ts_table.specs.Marks.{symbol_of_mark}
use Rattle.ts_table.proofs.MarkLemmas.{right_symbol, start_past}
use Rattle.ts_table.proofs.marks.Marks.symbol_at.Goals as goal

pub returns-then-line-eq0 : goal.returns-then-line-eq0
returns-then-line-eq0 c g are = start_past g c.args.line c.args.dot c.if-line-eq0.true c.requires.1

pub returns : goal.returns
returns c g are = right_symbol g c.args.self.now c.args.line c.from.result c.args.dot c.index.result.now c.symbol_in.result are (λ e. c.if-line-eq0.false e) c.from.ensures c.requires.0 c.index.ensures
    (c.symbol_in.ensures ∙ ap (λ (l : List Mark). symbol_of_mark l c.from-2.result) c.as_slice.ensures.value ∙ ap (symbol_of_mark c.index.result.now.steps.items) c.from-2.ensures)
