use Rattle.ts_lexer.proofs.AheadLemmas.{ready_pair}
use Rattle.ts_lexer.proofs.scanning.read_by_tables.Goals as goal

pub returns-clause-read : goal.returns-clause-read
returns-clause-read c g valid rest tail rules ready automaton =
    c.read_by_row.ensures.read g valid c.args.first rest tail rules (c.row_for-row.ensures g valid (ready_pair g valid c.args.tables.now c.args.view.now c.args.pair c.in-Some.pair c.in-Some.is ready)) automaton
