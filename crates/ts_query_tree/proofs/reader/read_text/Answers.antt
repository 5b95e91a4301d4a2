use Rattle.std.proofs.Common.{subst}
use Rattle.ts_query_tree.specs.Reads.{IsOutcome}
use Rattle.ts_query_tree.proofs.reader.read_text.Goals as goal

pub returns-in-Whole-clause-ok : goal.returns-in-Whole-clause-ok
returns-in-Whole-clause-ok c = subst (IsOutcome c.args.text.now) c.in-Whole.is c.in_ok-parts.ensures

pub returns-in-Syntax-clause-refused : goal.returns-in-Syntax-clause-refused
returns-in-Syntax-clause-refused c = (subst (IsOutcome c.args.text.now) c.in-Syntax.is c.in_ok-parts.ensures).0
