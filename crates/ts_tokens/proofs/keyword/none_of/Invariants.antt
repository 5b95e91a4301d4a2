use Rattle.std.proofs.Common.{◌≡◌, length, take, None}
use Rattle.ts_core.specs.declared.rule.Grammar.{Grammar}
use Rattle.ts_rules.specs.Tokens.{Patterns}
use Rattle.ts_tokens.specs.Definitions.{AreKeywords, trees_of}
use Rattle.ts_tokens.proofs.keyword.none_of.Given as goal

abbrev pub invariant-loop-token : goal.invariant-loop-token
invariant-loop-token l = (length l.flags.items ≡ l._token-index) × ((pattern : Patterns) (g : Grammar) → g.word ≡ None → AreKeywords pattern g (trees_of (take l._token-index l.tokens)) l.flags.items)
