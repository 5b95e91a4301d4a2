use Rattle.ts_workers.proofs.OpenLemmas.{lexers_left, lexer_taken}
use Rattle.ts_workers.proofs.hiring.next_lexer.Goals as goal

pub returns-in-Some-clause-lexers : goal.returns-in-Some-clause-lexers
returns-in-Some-clause-lexers c = lexers_left c.args.table.now c.args.lexers.now.items c.pop.new.self.items c.pop.result c.requires.lexers c.pop.ensures.items

pub returns-in-Some-clause-lexer : goal.returns-in-Some-clause-lexer
returns-in-Some-clause-lexer c = lexer_taken c.args.table.now c.args.lexers.now.items c.pop.new.self.items c.pop.result c.in-Some.lexer c.requires.lexers c.pop.ensures.items c.in-Some.is
