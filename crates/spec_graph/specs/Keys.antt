-- The order in which nodes are made, and what is laid before a node is made.
use Rattle.std.specs.Prelude.{◌≡◌, ℕ, ◌+◌, ◌<◌, ◌≤◌, ◌⊎◌, List, [], ◌∷◌, ◌++◌, length, reverse}
use Rattle.ts_core.specs.declared.flat.Production.{Production}
use Rattle.ts_core.specs.declared.symbol.Symbol.{Symbol}
use Rattle.spec_lexing.specs.Lexing.{token}
use Rattle.spec_tables.specs.Actions.{Act, shift}
use Rattle.spec_trees.specs.declared.tree.Tree.{Tree}
use Rattle.spec_trees.specs.Trees.{span_of, all_spans, tree_depth}
use Rattle.spec_trees.specs.Made.{filling, most_depth}
use Rattle.spec_runs.specs.Configurations.{token_tree, AreExtras}
use Rattle.spec_graph.specs.States.{ShareState}
use Rattle.spec_graph.specs.Laying.{Parsing, IsReading, SeesAt, PassesAt, ReducesAt, extra_tree, node_made, Taken, Lays}

-- the place of the token on which a node is made, the place where the node begins, and the rank of
-- its rule
pub record Key : Type 0 where
  pub look : ℕ
  pub begins : ℕ
  pub rank : ℕ

-- The first comes before the second: its token stands earlier; or at the same place the node begins
-- later, or at the same place with a higher rank.
abbrev pub Earlier : Key → Key → Type 0
Earlier k m =
    (k.look < m.look)
    ⊎ ((k.look ≡ m.look)
    × ((m.begins < k.begins) ⊎ ((k.begins ≡ m.begins) × (m.rank < k.rank))))

-- the key of some node: it begins no later than its token stands, and ranks are below the bound
abbrev pub IsKey : ℕ → Key → Type 0
IsKey most k = (k.begins ≤ k.look) × (k.rank < most)

-- the second key comes right after the first
abbrev pub IsNextKey : ℕ → Key → Key → Type 0
IsNextKey most k m = (j : Key) → IsKey most j → Earlier j m → Earlier j k ⊎ (j ≡ k)

-- Trees and extras that are laid as said, each before the key: it stood on some reading of the
-- stack from which runs go on, or is a token that stands before the key's, or a node with an
-- earlier key.
pub data LaysBefore (P : Parsing) (rank : ℕ → ℕ) (k : Key)
    : List ℕ → ℕ → List Tree → ℕ → List ℕ → Type 0 where
  flat_before : (read : List ℕ) (from : ℕ) → LaysBefore P rank k read from [] from read
  stood_before : (read : List ℕ) (from : ℕ) (w : List Tree) (place : ℕ) (now : List ℕ) (t : Tree)
      (above below : List Tree) → LaysBefore P rank k read from w place now
      → IsReading P (above ++ t ∷ below)
      → place ≡ all_spans below → ShareState P.goto (filling below) now
      → LaysBefore P rank k read from (t ∷ w) (place + span_of t) (filling (t ∷ []) ++ now)
  shifted_before : (read : List ℕ) (from : ℕ) (w : List Tree) (place : ℕ) (now : List ℕ)
      (symbol : Symbol) (pad size : ℕ) → LaysBefore P rank k read from w place now
      → P.place ≤ place → place < k.look
      → SeesAt P now place (token symbol pad size) → Act P.grammar now symbol.0 shift
      → LaysBefore P rank k read from (token_tree symbol pad size ∷ w) (place + (pad + size))
      (symbol.0 ∷ now)
  passed_before : (read : List ℕ) (from : ℕ) (w : List Tree) (place : ℕ) (now : List ℕ)
      (symbol : Symbol) (pad size : ℕ) → LaysBefore P rank k read from w place now
      → P.place ≤ place → place < k.look → PassesAt P now place symbol pad size
      → LaysBefore P rank k read from (extra_tree symbol pad size ∷ w) (place + (pad + size)) now
  made_before : (read : List ℕ) (from : ℕ) (w : List Tree) (place : ℕ) (now : List ℕ)
      (children : List Tree) (end : ℕ) (over : List ℕ) (extras : List Tree)
      (look number left : ℕ) (p : Production) → LaysBefore P rank k read from w place now
      → Lays P now place (reverse children) end over → Lays P over end extras look over
      → AreExtras extras → P.place ≤ look → Taken children w read from
      → ReducesAt P over look number left p now → length (filling children) ≡ length p.steps
      → tree_depth (node_made P number children) ≤ most_depth
      → Earlier (record { look = look; begins = place; rank = rank left }) k
      → LaysBefore P rank k read from (node_made P number children ∷ w) end (left ∷ now)
