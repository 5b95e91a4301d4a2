use Rattle.ts_langfile.proofs.VerdictLemmas.{completes, is_exact}
use Rattle.ts_langfile.proofs.reader.read.Goals as goal

pub returns-clause-complete : goal.returns-clause-complete
returns-clause-complete c = λ f reads fit. completes c.args.bytes.now c.fit_grammar.result c.fit_grammar.ensures.ok c.fit_grammar.ensures.refused f reads fit

pub returns-clause-exact : goal.returns-clause-exact
returns-clause-exact c = λ e some fault. is_exact c.args.bytes.now c.fit_grammar.result c.fit_grammar.ensures.ok c.fit_grammar.ensures.fit c.fit_grammar.ensures.refused e some fault
