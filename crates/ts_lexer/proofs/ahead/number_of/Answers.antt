use Rattle.ts_lexer.proofs.VerdictLemmas.{verdict_eq, verdict_decides, numbered}
use Rattle.ts_lexer.proofs.ahead.number_of.Goals as goal

pub returns : goal.returns
returns c =
    let s = c.in_ok-number.ensures.stored in
    numbered verdict_eq verdict_decides c.args.rows.now.keys c.insert_full.new.self.keys c.args.row c.in_ok-number.number c.in_ok-number.ensures.keys s.0 s.1 s.2
