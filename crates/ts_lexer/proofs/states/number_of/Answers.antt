use Rattle.ts_lexer.proofs.VerdictLemmas.{symbol_eq, symbol_decides, numbered}
use Rattle.ts_lexer.proofs.states.number_of.Goals as goal

pub returns : goal.returns
returns c =
    let s = c.in_ok-number.ensures.stored in
    numbered symbol_eq symbol_decides c.args.lists.now.keys c.insert_full.new.self.keys c.args.list c.in_ok-number.number c.in_ok-number.ensures.keys s.0 s.1 s.2
