use Rattle.std.proofs.Common.{true}
use Rattle.ts_lexer.proofs.SameLemmas.{same_lexes, same_seen}
use Rattle.ts_lexer.proofs.laws.same_tokens.Goals as goal

pub returns-clause-lex : goal.returns-clause-lex
returns-clause-lex c g valid other rest f same x = same_lexes g valid other (λ s. (same s).0) (λ s. (same s).1) true rest f x

pub returns-clause-seen : goal.returns-clause-seen
returns-clause-seen c g valid other rest n same x = same_seen g valid other (λ s. (same s).0) (λ s. (same s).1) true rest n x
