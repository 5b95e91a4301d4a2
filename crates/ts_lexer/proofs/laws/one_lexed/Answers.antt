use Rattle.ts_lexer.proofs.AnswerLemmas.{one_lexed}
use Rattle.ts_lexer.proofs.laws.one_lexed.Goals as goal

pub returns : goal.returns
returns c t state text place a b x y =
    one_lexed
    (record { one_found = c.one_answer.ensures.lex; one_seen = c.one_answer.ensures.seen; same_found = c.same_tokens.ensures.lex; same_seen = c.same_tokens.ensures.seen })
    t state text place a b x y
