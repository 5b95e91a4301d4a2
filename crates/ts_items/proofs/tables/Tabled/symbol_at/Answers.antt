use Rattle.std.proofs.Common.{◌∙◌, sym, ap, ℕ, List, slice_get}
use Rattle.std.proofs.lemmas.Option.{slice_get_past}
use Rattle.ts_items.proofs.TableLemmas.{symbol_inside, symbol_short}
use Rattle.ts_items.proofs.tables.Tabled.symbol_at.Goals as goal

pub returns-then-place-right-clause-inside : goal.returns-then-place-right-clause-inside
returns-then-place-right-clause-inside c = symbol_inside c.args.self.now.grammar c.args.self.now.tables c.args.line c.args.place c.right_of-right.result.now c.stands.ensures c.requires c.right_of-right.ensures c.if-place-right.true _

pub returns-then-place-right-clause-short : goal.returns-then-place-right-clause-short
returns-then-place-right-clause-short c some = symbol_short c.args.self.now.grammar c.args.self.now.tables c.args.line c.args.place c.right_of-right.result.now c.stands.ensures c.requires c.right_of-right.ensures c.if-place-right.true

pub returns-else-place-right-clause-is : goal.returns-else-place-right-clause-is
returns-else-place-right-clause-is c = sym (ap (λ (l : List ℕ). slice_get l c.args.place) (sym c.right_of-right.ensures) ∙ slice_get_past c.right_of-right.result.now c.args.place c.if-place-right.false)
