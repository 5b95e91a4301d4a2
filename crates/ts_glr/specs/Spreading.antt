-- All ways to read a text on the graph of stacks, from a stack on at which several moves stay. It
-- serves private clauses and proofs alone.
use Rattle.std.specs.Prelude.{◌≡◌, ℕ, ◌<◌, ◌≤◌, suc, List, [], ◌∷◌, length, Option}
use Rattle.ts_base.specs.Bytes.{Bytes}
use Rattle.spec_forced.specs.Sound.{States}
use Rattle.spec_graph.specs.Laying.{IsBegun}
use Rattle.spec_crossing.specs.Resting.{PackedRests}
use Rattle.ts_table.specs.declared.view.ParseTable.{ParseTable}
use Rattle.ts_gss.specs.declared.layer.Layer.{Layer}
use Rattle.ts_gss.specs.Stacks.{stack_at, state_on}
use Rattle.ts_steps.specs.declared.head.StackHead.{StackHead}
use Rattle.ts_steps.specs.LiveHeads.{packed_of}
use Rattle.ts_steps.specs.Heads.{AreStatesOf, StandOnHead}
use Rattle.ts_reductions.specs.declared.setting.Setting.{Setting}
use Rattle.ts_reductions.specs.Sound.{Base, parsing_from}
use Rattle.ts_reductions.specs.Keeping.{AreOwn, StandOnGraph}
use Rattle.ts_places.specs.Sweeping.{IsTooDeep}
use Rattle.ts_places.specs.Following.{IsWholeAt, CanFollow}
use Rattle.ts_places.specs.Ends.{AreEnds}
use Rattle.ts_places.specs.Nothing.{IsOfNothing}
use Rattle.ts_crossing.specs.declared.leaving.Left.{Left}
use Rattle.ts_crossing.specs.Leaving.{IsStack, IsLeft}
use Rattle.ts_glr.specs.declared.spread.Spread.{Spread}
use Rattle.ts_glr.specs.declared.spread.Passed.{Passed}
use Rattle.ts_glr.specs.declared.spread.Passed.TheVariants.{On, Over, Deep}
use Rattle.ts_glr.specs.declared.crossing.Asked.{Asked}
use Rattle.ts_glr.specs.declared.crossing.Asked.TheVariants.{Waits, Fails, Leaves}

-- if the stack of the head has extras alone, the text is not of nothing
abbrev pub IsOfSomeFrom : ParseTable → Bytes → List (List Layer) → StackHead → Type 0
IsOfSomeFrom t text stacks h = state_on (stack_at stacks h.top) ≡ 0 → IsOfNothing t text → ⊥

-- The graph is sound over the stack of the head but for the extras on top. All that is asked for
-- before the place was done, these are the heads that stand there or past it, and the ends before.
-- A parser made the trees of the graph, and they stand where those on the stack of the head do.
pub record IsSpread (t : ParseTable) (text : Bytes) (s : Setting) (first : List (List Layer))
    (h : StackHead) (spread : Spread) : Type 0 where
  pub base : Base
  pub most : ℕ
  pub begun : IsBegun (parsing_from t text base) (packed_of first h)
  pub can : CanFollow t text s base most spread.graph spread.place spread.frontier
  pub ends : AreEnds t text spread.graph base.place spread.place spread.ends
  pub within : spread.place ≤ length text
  pub own : AreOwn t.grammar spread.graph
  pub stand : (states : States) → AreStatesOf t states → StandOnHead t states text first h
      → StandOnGraph t.grammar states text base spread.graph

-- all that is asked for was done, to the end of the text
pub record IsSpreadOut (t : ParseTable) (text : Bytes) (first : List (List Layer))
    (h : StackHead) (spread : Spread) : Type 0 where
  pub base : Base
  pub most : ℕ
  pub begun : IsBegun (parsing_from t text base) (packed_of first h)
  pub low : base.place ≤ length text
  pub whole : IsWholeAt t text base most spread.graph (suc (length text))
  pub ends : AreEnds t text spread.graph base.place (suc (length text)) spread.ends
  pub own : AreOwn t.grammar spread.graph
  pub stand : (states : States) → AreStatesOf t states → StandOnHead t states text first h
      → StandOnGraph t.grammar states text base spread.graph

-- some node would be too deep
pub record IsSpreadDeep (t : ParseTable) (text : Bytes) (first : List (List Layer))
    (h : StackHead) (spread : Spread) : Type 0 where
  pub base : Base
  pub begun : IsBegun (parsing_from t text base) (packed_of first h)
  pub deep : IsTooDeep t text base spread.graph

-- What is known of runs at a stack is so of the one at which the graph begins, and its trees stand.
pub record GoesBackTo (t : ParseTable) (text : Bytes) (stacks : List (List Layer))
    (start : StackHead) (first : List (List Layer)) (h : StackHead) : Type 0 where
  pub within : h.place ≤ length text
  pub rests : (stuck : Option ℕ) → PackedRests t.grammar text stuck (packed_of stacks start)
      → PackedRests t.grammar text stuck (packed_of first h)
  pub stand : (states : States) → AreStatesOf t states → StandOnHead t states text stacks start
      → StandOnHead t states text first h

-- the graph was begun for a stack, at that stack or at the start of the text
pub record IsSpreadFor (t : ParseTable) (text : Bytes) (s : Setting) (stacks : List (List Layer))
    (start : StackHead) (spread : Spread) : Type 0 where
  pub first : List (List Layer)
  pub head : StackHead
  pub back : GoesBackTo t text stacks start first head
  pub low : head.place ≤ start.place
  pub laid : IsSpread t text s first head spread

-- what following the graph over a place came to
abbrev pub PassesTo : ParseTable → Bytes → Setting → List (List Layer) → StackHead → Spread → Spread
    → Passed → Type 0
PassesTo t text s first h old new On =
    IsSpread t text s first h new × (old.place < new.place)
PassesTo t text s first h old new Over = IsSpreadOut t text first h new
PassesTo t text s first h old new Deep = IsSpreadDeep t text first h new

-- all that was followed stays as it was
pub record StaysSpread (old new : Spread) : Type 0 where
  pub graph : new.graph ≡ old.graph
  pub frontier : new.frontier ≡ old.frontier
  pub ends : new.ends ≡ old.ends
  pub place : new.place ≡ old.place

-- One head waits alone, past the place, and nothing was accepted. These are the trees of the only
-- way down from it.
pub record IsLeftOf (spread : Spread) (from : ℕ) (l : Left) : Type 0 where
  pub head : ℕ
  pub numbers : List ℕ
  pub foot : ℕ
  pub stack : IsStack spread.graph head numbers foot
  pub is : IsLeft spread.graph head stack.way l.stacks l.head
  pub alone : spread.frontier.heads.items ≡ head ∷ []
  pub none : spread.ends.accepting.items ≡ []
  pub past : from < spread.place

-- what asking for one stack that is left came to: where it is, nothing of the graph is left
abbrev pub AsksFor : Spread → Spread → ℕ → Asked → Type 0
AsksFor old new from Waits = StaysSpread old new
AsksFor old new from Fails = StaysSpread old new
AsksFor old new from (Leaves l) = IsLeftOf old from l
