-- What is seen from a stack of a parser.
use Rattle.std.specs.Prelude.{◌≡◌, ℕ, ◌+◌, suc, ◌<◌, ◌≤◌, ◌⊎◌, true, List, length, drop}
use Rattle.ts_base.specs.Bytes.{Bytes}
use Rattle.ts_core.specs.declared.symbol.Symbol.{Symbol}
use Rattle.spec_grammar.specs.Symbols.{is_extra}
use Rattle.spec_lexing.specs.Seen.{Seen}
use Rattle.spec_runs.specs.Configurations.{HasMove, AreValidTokens}
use Rattle.spec_runs.specs.Runs.{StopsAt}
use Rattle.ts_table.specs.declared.view.ParseTable.{ParseTable}
use Rattle.ts_gss.specs.declared.layer.Layer.{Layer}
use Rattle.ts_lexer.specs.declared.lexed.Lexed.{Lexed}
use Rattle.ts_lexer.specs.declared.lexed.Lexed.TheVariants.{Token, Absent}
use Rattle.ts_steps.specs.declared.found.FoundToken.{FoundToken}
use Rattle.ts_steps.specs.declared.head.StackHead.{StackHead}
use Rattle.ts_steps.specs.LiveHeads.{config_of, read_on}
use Rattle.ts_steps.specs.Heads.{IsDecidedAhead}

-- The token is seen from the stack, and the bytes that were examined for it decide it. They lie in
-- the text and its end, and are more than the token, which has bytes if it is not the end.
pub record IsTokenAhead (t : ParseTable) (text : Bytes) (stacks : List (List Layer)) (h : StackHead)
    (f : FoundToken) : Type 0 where
  pub decided : IsDecidedAhead t text stacks h f
  pub known : HasMove t.grammar (read_on stacks h) f.token.0 ⊎ (is_extra t.grammar f.token.0 ≡ true)
  pub past : f.pad + f.size < f.extent
  pub reach : h.place + f.extent ≤ suc (length text)
  pub some : 0 < f.token.0 → 0 < f.size

-- what was lexed is what the stack sees
abbrev pub SeesAhead : ParseTable → Bytes → List (List Layer) → StackHead → Lexed → Type 0
SeesAhead t text stacks h (Token symbol pad size extent) = IsTokenAhead t text stacks h
    (record { token = symbol; pad = pad; size = size; extent = extent })
SeesAhead t text stacks h (Absent place extent) =
    StopsAt t.grammar text (config_of stacks h) place

-- so many bytes were examined to find what the stack sees
pub record IsExtentAhead (t : ParseTable) (text : Bytes) (stacks : List (List Layer))
    (h : StackHead) (extent : ℕ) : Type 0 where
  pub valid : List Symbol
  pub are_valid : AreValidTokens t.grammar (read_on stacks h) valid
  pub seen : Seen t.grammar valid (drop h.place text) extent
