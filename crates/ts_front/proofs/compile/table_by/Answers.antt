use Rattle.std.proofs.Common.{sym, subst}
use Rattle.ts_core.specs.declared.flat.FlatGrammar.{FlatGrammar}
use Rattle.ts_front.specs.Grammars.{IsFormOf}
use Rattle.ts_front.specs.Tables.{HasTable}
use Rattle.ts_front.proofs.CompileLemmas.{table_line}
use Rattle.ts_front.proofs.compile.table_by.Goals as goal

pub returns-in-Ok-clause-form : goal.returns-in-Ok-clause-form
returns-in-Ok-clause-form c = subst (λ (f : FlatGrammar). IsFormOf c.args.bytes.now f) (sym c.in-Ok.ensures.grammar) c.requires.form

pub returns-in-Ok-clause-has : goal.returns-in-Ok-clause-has
returns-in-Ok-clause-has c = subst HasTable (sym c.in-Ok.ensures.grammar) c.in-Ok.ensures.has

pub returns-in_ok-line-in-Err-clause-refused : goal.returns-in_ok-line-in-Err-clause-refused
returns-in_ok-line-in-Err-clause-refused c = c.refusal.ensures c.args.bytes.now (table_line c.args.bytes.now c.args.grammar c.in-Err.fault _ c.requires.form c.in-Err.ensures.refused c.in_ok-line-in-Err.ensures)
