use Rattle.std.proofs.Common.{◌∙◌, ap, List, ◌∷◌, ◌++◌, map}
use Rattle.ts_core.specs.declared.re.Re.{Re}
use Rattle.spec_lexing.specs.Words.{Regular, regular_of}
use Rattle.ts_tokens.proofs.word.grammar_of.Goals as goal

pub returns : goal.returns
returns c =
    ap (λ (xs : List Regular). xs ++ map regular_of c.new-2.result) c.in_ok-tokens_of.ensures
    ∙ ap (λ (rs : List Re). regular_of c.args.re ∷ map regular_of rs) c.new-2.ensures
