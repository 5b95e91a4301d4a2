use Rattle.std.proofs.Common.{◌≡◌, ◌≤◌, sym, subst, length}
use Rattle.ts_items.specs.Tables.{GrammarTables}
use Rattle.ts_items.specs.Productions.{right_of}
use Rattle.ts_items.specs.Parts.{line_of}
use Rattle.ts_items.proofs.TableLemmas.{line_right}
use Rattle.ts_items.proofs.tables.Tabled.right_of.Goals as goal

pub returns : goal.returns
returns c =
    let below = subst (λ (t : GrammarTables). c.args.line ≤ length t.tables.productions.items) (sym c.self.view_is) c.requires in
    subst (λ (t : GrammarTables). c.as_slice-2.result.now ≡ right_of t.grammar (line_of c.args.line)) c.self.view_is
    (line_right c.self.inside.grammar.now c.self.inside.tables c.args.line c.from.result c.index.result.now c.as_slice-2.result.now c.self.invariant (λ e. c.if-line-eq0.false e) c.from.ensures below c.index.ensures c.as_slice-2.ensures.value)
