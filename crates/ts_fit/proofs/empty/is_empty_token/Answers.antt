use Rattle.std.proofs.Common.{[]}
use Rattle.ts_core.specs.declared.flat.TokenDef.{TokenDef}
use Rattle.spec_lexing.specs.Words.{Word, regular_of}
use Rattle.ts_fit.proofs.ListLemmas.{read_one}
use Rattle.ts_fit.proofs.empty.is_empty_token.Goals as goal

pub returns : goal.returns
returns c =
    read_one c.args.grammar.now.tokens c.args.place c.get.result.now (λ (d : TokenDef). Word (regular_of d.re) []) c.matches_nothing.result c.get.ensures c.matches_nothing.ensures
