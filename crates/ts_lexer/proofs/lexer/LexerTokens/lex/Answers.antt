use Rattle.ts_lexer.specs.Answers.{IsLexedAt}
use Rattle.ts_lexer.proofs.StateLemmas.{state_list, list_within}
use Rattle.ts_lexer.proofs.AnswerLemmas.{settled}
use Rattle.ts_lexer.proofs.lexer.LexerTokens.lex.Goals as goal

pub lex-lexed-requires-clause-list : goal.lex-lexed-requires-clause-list
lex-lexed-requires-clause-list c =
    let t = c.requires.made.0 in
    list_within t c.args.state c.args.self.now.engine.lists.keys c.index-list.result.now
    (state_list t c.args.state _ c.args.self.now.numbers.items c.index-list.result.now c.requires.made.1.lists c.requires.made.2 c.index-list.ensures)

pub returns-clause-answer : goal.returns-clause-answer
returns-clause-answer c t m below =
    let list = state_list t c.args.state _ c.args.self.now.numbers.items c.index-list.result.now m.lists below c.index-list.ensures in
    record { valid = list.valid; are_valid = list.are_valid; answer = c.lex-lexed.ensures.answer t.grammar list.valid m.engine list.at }

pub returns-clause-settled : goal.returns-clause-settled
returns-clause-settled c t other at found m below says agree =
    let list = state_list t c.args.state _ c.args.self.now.numbers.items c.index-list.result.now m.lists below c.index-list.ensures in
    let here : IsLexedAt t c.args.state c.args.text.now c.args.place c.lex-lexed.result =
    record { valid = list.valid; are_valid = list.are_valid; answer = c.lex-lexed.ensures.answer t.grammar list.valid m.engine list.at } in
    settled c.seen_decides.ensures t c.args.state c.args.text.now other c.args.place at c.lex-lexed.result found c.lex-lexed.ensures.utf8 here says agree
