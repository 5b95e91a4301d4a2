-- The laws of other crates that the proofs of a look and of shifts rest on.
use Rattle.std.specs.Prelude.{◌≡◌, ℕ, suc, ◌+◌, ◌<◌, ◌≤◌, List, ◌∷◌, ◌++◌, length}
use Rattle.ts_base.specs.Bytes.{Bytes}
use Rattle.ts_core.specs.declared.flat.FlatGrammar.{FlatGrammar}
use Rattle.ts_core.specs.declared.symbol.Symbol.{Symbol}
use Rattle.spec_lexing.specs.Lexing.{Found, token, Lex}
use Rattle.spec_lexing.specs.Matching.{BeginsSpelled}
use Rattle.spec_lexing.specs.Seen.{Seen}
use Rattle.spec_tables.specs.Actions.{Act, shift}
use Rattle.spec_tables.specs.Fit.{Fit}
use Rattle.spec_tables.specs.Items.{IsToken}
use Rattle.spec_trees.specs.declared.tree.Tree.{Tree}
use Rattle.spec_trees.specs.Trees.{all_spans, bare}
use Rattle.spec_trees.specs.Made.{as_extra}
use Rattle.spec_runs.specs.BareTrees.{KeepsAll}
use Rattle.spec_runs.specs.Configurations.{AreValidTokens}
use Rattle.spec_runs.specs.Moves.{StandsBefore}
use Rattle.spec_graph.specs.declared.graph.Head.{Head}
use Rattle.spec_graph.specs.declared.graph.Link.{Link}
use Rattle.spec_graph.specs.States.{AreStates, AreRanks}
use Rattle.spec_graph.specs.Laying.{Parsing, from_start, IsMet, IsReading, Lays}
use Rattle.spec_graph.specs.Grounded.{IsGrounded}
use Rattle.spec_graph.specs.Keys.{Key, IsNextKey}
use Rattle.spec_graph.specs.Links.{IsGraph, IsWholeTo, HasNoneDue, AreDone, HasGrown, AreAdded, IsOpened}
use Rattle.spec_graph.specs.Replacing.{Replaces}
use Rattle.ts_table.specs.declared.view.ParseTable.{ParseTable}
use Rattle.ts_table.specs.Tables.{IsTable, IsStateOf}
use Rattle.ts_lexer.specs.States.{AreValid, HaveSameSymbols}

-- For proofs alone: laws of lexing, and of the valid tokens of states.
pub record LookLaws : Type 0 where
  pub known : (t : ParseTable) (read : List ℕ) (state : ℕ) (valid : List Symbol) → IsTable t
      → IsStateOf t read state → AreValid t state valid → AreValidTokens t.grammar read valid
  pub one_answer : (g : FlatGrammar) (valid : List Symbol) (rest : Bytes) (f h : Found)
      → Lex g valid rest f → Lex g valid rest h → f ≡ h
  pub same_tokens : (g : FlatGrammar) (valid other : List Symbol) (rest : Bytes) (f : Found)
      → HaveSameSymbols valid other → Lex g valid rest f → Lex g other rest f
  pub token_seen : (g : FlatGrammar) (valid : List Symbol) (rest : Bytes) (s : Symbol)
      (pad size n : ℕ)
      → Lex g valid rest (token s pad size) → Seen g valid rest n → pad + size < n
  pub begins_within : (rest : Bytes) (u : List ℕ) (n : ℕ) → BeginsSpelled rest u n
      → n ≤ length rest

-- For proofs alone: laws of bare trees, of trees that replace others, of shifts, and of the stack from
-- which runs go on.
pub record LeafLaws : Type 0 where
  pub keeps : (t : Tree) → KeepsAll t
  pub extra : (t : Tree) → bare (as_extra t) ≡ as_extra (bare t)
  pub same : (t : Tree) → Replaces t t
  pub through : (t u v : Tree) → Replaces t u → Replaces u v → Replaces t v
  pub shifts : (g : FlatGrammar) (read : List ℕ) (t : ℕ) → Act g read t shift
      → IsToken g t × StandsBefore g read t
  pub low : (P : Parsing) → IsGrounded P → (above below : List Tree) (t : Tree)
      → IsReading P (above ++ t ∷ below) → all_spans below < P.place
  pub embeds : (P : Parsing) → Fit P.grammar → AreStates P.grammar P.goto → IsMet P
      → (read now : List ℕ) (from place : ℕ) (w : List Tree)
      → Lays P read from w place now → Lays (from_start P) read from w place now

-- For proofs alone: laws of graphs that are whole up to later keys, and of keys that follow others.
pub record NextLaws : Type 0 where
  pub next_place : (P : Parsing) → Fit P.grammar → AreStates P.grammar P.goto → IsGrounded P
      → (rank : ℕ → ℕ) (most : ℕ) → AreRanks P.grammar rank most
      → (heads : List Head) (links : List Link) (heads' : List Head) (links' : List Link)
      (k m : Key) → IsGraph P heads links
      → IsWholeTo P rank heads links k → AreDone P rank heads links heads' links' k
      → HasGrown P heads links heads' links' → AreAdded P rank heads heads' links' m
      → IsOpened P heads' links' k.look → IsNextKey most k m → m.look ≡ suc k.look
      → IsWholeTo P rank heads' links' m
  pub ranks : (P : Parsing) → Fit P.grammar → AreStates P.grammar P.goto → IsGrounded P
      → (rank : ℕ → ℕ) (most : ℕ) → AreRanks P.grammar rank most
      → (heads : List Head) (links : List Link) → IsGraph P heads links
      → (n look begins r : ℕ) → IsWholeTo P rank heads links
      (record { look = look; begins = begins; rank = n + r })
      → ((i : ℕ) → r < i → i ≤ n + r → HasNoneDue P rank heads links
      (record { look = look; begins = begins; rank = i }))
      → IsWholeTo P rank heads links (record { look = look; begins = begins; rank = r })
  pub starts : (P : Parsing) → Fit P.grammar → AreStates P.grammar P.goto → IsGrounded P
      → (rank : ℕ → ℕ) (most : ℕ) → AreRanks P.grammar rank most
      → (heads : List Head) (links : List Link) → IsGraph P heads links
      → (n look begins : ℕ) → IsWholeTo P rank heads links
      (record { look = look; begins = n + begins; rank = most })
      → ((b i : ℕ) → begins < b → b ≤ n + begins → i ≤ most → HasNoneDue P rank heads links
      (record { look = look; begins = b; rank = i }))
      → IsWholeTo P rank heads links (record { look = look; begins = begins; rank = most })
  pub look : (most look : ℕ) → IsNextKey most
      (record { look = look; begins = 0; rank = 0 })
      (record { look = suc look; begins = suc look; rank = most })
