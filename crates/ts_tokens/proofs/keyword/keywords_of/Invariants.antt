use Rattle.std.proofs.Common.{◌≡◌, length, take, Some}
use Rattle.ts_base.specs.Bytes.{Bytes}
use Rattle.ts_core.specs.declared.rule.Grammar.{Grammar}
use Rattle.ts_rules.specs.FileGrammar.{IsFileGrammar}
use Rattle.ts_rules.specs.Numbers.{NamesToken}
use Rattle.ts_tokens.specs.Definitions.{AreKeywords, trees_of}
use Rattle.ts_tokens.specs.Keywords.{HasRoomFor}
use Rattle.ts_tokens.specs.Patterns.{meaning}
use Rattle.ts_tokens.proofs.keyword.keywords_of.Given as goal

abbrev pub invariant-loop-token : goal.invariant-loop-token
invariant-loop-token l = (length l.flags.items ≡ l.token-index) × HasRoomFor l.automaton l.walk × ((g : Grammar) (name : Bytes) → IsFileGrammar g → g.word ≡ Some name → NamesToken g name l.word → AreKeywords (meaning l.patterns) g (trees_of (take l.token-index l.tokens)) l.flags.items)
