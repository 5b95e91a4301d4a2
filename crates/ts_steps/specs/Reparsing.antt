-- What a parse over one stack comes to.
use Rattle.std.specs.Prelude.{◌≡◌, ℕ, ◌<◌, ◌≤◌, ◌⊎◌, true, List, length, None, All}
use Rattle.ts_base.specs.Bytes.{Bytes}
use Rattle.ts_core.specs.declared.flat.FlatGrammar.{FlatGrammar}
use Rattle.spec_tables.specs.Actions.{Move, accept}
use Rattle.spec_trees.specs.declared.tree.Tree.{Tree}
use Rattle.spec_trees.specs.declared.tree.Stretch.{Stretch}
use Rattle.spec_trees.specs.Trees.{children_of, is_settled, state_of, span_of, all_spans}
use Rattle.spec_trees.specs.Choice.{IsInForm}
use Rattle.spec_runs.specs.Configurations.{Configuration, HasMove}
use Rattle.spec_runs.specs.Runs.{CanMove, Run, ComesTooDeep, AcceptsTree, StopsAt}
use Rattle.spec_runs.specs.Outcomes.{FreshOutcome, SomeIsTooDeep, tree_outcome, stuck_outcome}
use Rattle.spec_packing.specs.Packing.{PackedStack, own_config, WasMet, GoesThrough, PackedStepsOn, PackedIsTooDeep}
use Rattle.spec_forced.specs.OnlyRuns.{IsOnlyStep, OnlyRun, Meet, IsFork, FreshBy, FreshFrom}
use Rattle.spec_forced.specs.Sound.{States, IsSound, IsHonest, IsHonestStretch}
use Rattle.ts_table.specs.declared.view.ParseTable.{ParseTable}
use Rattle.ts_gss.specs.declared.layer.Layer.{Layer}
use Rattle.ts_gss.specs.Stacks.{stack_at, state_on, IsOneStack}
use Rattle.ts_steps.specs.declared.head.StackHead.{StackHead}
use Rattle.ts_steps.specs.Good.{EachTree}
use Rattle.ts_steps.specs.LiveHeads.{config_of, packed_of, read_on, AreAlone}
use Rattle.ts_steps.specs.declared.reparsed.Fork.{Fork}
use Rattle.ts_steps.specs.declared.reparsed.Reparsed.{Reparsed}
use Rattle.ts_steps.specs.declared.reparsed.Reparsed.TheVariants.{Accepted, Stuck, Deep, Forks}
use Rattle.ts_steps.specs.declared.reparsed.Going.{Going}
use Rattle.ts_steps.specs.declared.reparsed.Going.TheVariants.{On, Reduced, Ended}
use Rattle.ts_steps.specs.Heads.{AreStatesOf, IsOwnWithin, IsOwnHead, StandOnHead, IsTaken}
use Rattle.ts_steps.specs.Looking.{IsTokenAhead}
use Rattle.ts_steps.specs.Weights.{config_weight}

-- a node that may be offered: a settled one with bytes, which a parser of the grammar made
pub record IsOffered (g : FlatGrammar) (t : Tree) : Type 0 where
  pub settled : is_settled t ≡ true
  pub own : IsOwnWithin g t
  pub some : 0 < span_of t

-- elements that may be lent: settled ones with bytes, over nodes that may be offered
pub record IsLent (g : FlatGrammar) (s : Stretch) : Type 0 where
  pub settled : All (λ e. e.settled ≡ true) s.elements
  pub offered : EachTree (IsOffered g) s.children
  pub parts : length s.elements ≤ all_spans s.children

-- all that may be offered is honest
abbrev pub AreHonest : FlatGrammar → States → Bytes → (ℕ → ℕ → Tree → Type 0) → Type 0
AreHonest g states text Gives =
    (place state : ℕ) (t : Tree) → Gives place state t → IsHonest g states text place state t

-- all that may be lent is honest
abbrev pub AreHonestlyLent : FlatGrammar → States → Bytes → (ℕ → ℕ → ℕ → Stretch → Type 0) → Type 0
AreHonestlyLent g states text Lends =
    (place state symbol : ℕ) (s : Stretch) → Lends place state symbol s
    → IsHonestStretch g states text place state symbol s

-- For proofs alone: the only runs from a configuration and from the stack of the head meet, and its
-- trees stand.
pub record StandsFor (t : ParseTable) (states : States) (text : Bytes) (c : Configuration)
    (stacks : List (List Layer)) (h : StackHead) : Type 0 where
  pub meet : Meet t.grammar text c (config_of stacks h)
  pub stand : StandOnHead t states text stacks h

-- where several moves stay, this is so of the stack there
abbrev pub OnFork : (Fork → Type 0) → Reparsed → Type 0
OnFork P (Accepted u) = Unit {0}
OnFork P (Stuck place) = Unit {0}
OnFork P Deep = Unit {0}
OnFork P (Forks k) = P k

-- Several moves stay on the token that the stack sees. It is one that a parser made, ends no earlier
-- than the one from which it began, and weighs no more.
pub record IsForkFrom (t : ParseTable) (text : Bytes) (old new : List (List Layer))
    (h : StackHead) (k : Fork) : Type 0 where
  pub own : IsOwnHead t (length text) new k.head
  pub later : h.place ≤ k.head.place
  pub weight : config_weight t.grammar (length text) (config_of new k.head)
      ≤ config_weight t.grammar (length text) (config_of old h)
  pub fork : IsFork t.grammar text (config_of new k.head)
  pub one : IsOneStack old h.top → IsOneStack new k.head.top
  pub sees : IsTokenAhead t text new k.head k.found

-- What is so of the result, whatever was offered: a tree is one that a parser of the grammar made,
-- and its root has no state.
abbrev pub IsOwnResult : ParseTable → Reparsed → Type 0
IsOwnResult t (Accepted u) =
    IsInForm t.grammar u × EachTree (IsOwnWithin t.grammar) (children_of u) × (state_of u ≡ None)
IsOwnResult t (Stuck place) = Unit {0}
IsOwnResult t Deep = Unit {0}
IsOwnResult t (Forks k) = Unit {0}

-- What all runs from the trees on the stack of the head come to, with a tree that is sound. Where
-- several moves stay, they all lead to that stack by one way, and its trees stand. That a node
-- would be too deep is said of its layers alone.
abbrev pub IsResult : ParseTable → States → Bytes → List (List Layer) → List (List Layer)
    → StackHead → Reparsed → Type 0
IsResult t states text old new h (Accepted u) =
    FreshFrom t.grammar text (config_of old h) (tree_outcome u) × IsSound t.grammar states text u
IsResult t states text old new h (Stuck place) =
    FreshFrom t.grammar text (config_of old h) (stuck_outcome place)
IsResult t states text old new h Deep = Unit {0}
IsResult t states text old new h (Forks k) =
    OnlyRun t.grammar text (config_of old h) (config_of new k.head)
    × StandOnHead t states text new k.head

-- what all runs come to that go through what the layers stand for
abbrev pub FreshThrough : FlatGrammar → Bytes → PackedStack → FreshOutcome → Type 0
FreshThrough g text k =
    FreshBy ((d : Configuration) × GoesThrough g text k d × ComesTooDeep g text d)
    (λ u. (d : Configuration) × GoesThrough g text k d × AcceptsTree g text d u)
    (λ q. (d : Configuration) × GoesThrough g text k d × StopsAt g text d q)

-- no run ends at the configuration
pub record IsNoEnd (g : FlatGrammar) (text : Bytes) (d : Configuration) : Type 0 where
  pub unaccepted : (u : Tree) → AcceptsTree g text d u → ⊥
  pub unstuck : (q : ℕ) → StopsAt g text d q → ⊥
  pub shallow : ComesTooDeep g text d → ⊥

-- The new layers were met, a run leads to their own trees from those of the old ones, and each run
-- that goes through what the old ones stand for goes through what the new ones stand for, or does
-- not end where it is.
pub record LeadThrough (g : FlatGrammar) (text : Bytes) (k n : PackedStack) : Type 0 where
  pub met : WasMet g text n
  pub run : Run g text (own_config k) (own_config n)
  pub on : (d : Configuration) → GoesThrough g text k d
      → IsNoEnd g text d ⊎ GoesThrough g text n d

-- What all runs come to that go through what the layers of the head's stack stand for, if they were
-- met. Where several moves stay, they go through what the new layers stand for.
abbrev pub ComesByLayers : ParseTable → Bytes → List (List Layer) → List (List Layer) → StackHead
    → Reparsed → Type 0
ComesByLayers t text old new h (Accepted u) =
    FreshThrough t.grammar text (packed_of old h) (tree_outcome u)
ComesByLayers t text old new h (Stuck place) =
    FreshThrough t.grammar text (packed_of old h) (stuck_outcome place)
ComesByLayers t text old new h Deep = SomeIsTooDeep t.grammar text
ComesByLayers t text old new h (Forks k) =
    LeadThrough t.grammar text (packed_of old h) (packed_of new k.head)

-- ---- under way. It serves private clauses and proofs alone.

-- the node was taken over from the offers, and it stands if it is honest
pub record IsTakenFrom (t : ParseTable) (size : ℕ) (old new : List (List Layer)) (h : StackHead)
    (node : Tree) (k : StackHead) : Type 0 where
  pub taken : IsTaken t size old new h node k
  pub some : 0 < span_of node
  pub stand : (states : States) (text : Bytes) → length text ≡ size → AreStatesOf t states
      → IsHonest t.grammar states text h.place (state_on (stack_at old h.top)) node
      → StandOnHead t states text old h → StandOnHead t states text new k

-- to accept is the only move that can be done there
pub record IsOnlyAccept (g : FlatGrammar) (text : Bytes) (c : Configuration) : Type 0 where
  pub here : CanMove g text c accept
  pub only : (move : Move) → CanMove g text c move → move ≡ accept

-- What the end of a parse at a stack comes to. Where several moves stay, all stacks do.
abbrev pub EndsFrom : ParseTable → Bytes → List (List Layer) → List (List Layer) → StackHead
    → Reparsed → Type 0
EndsFrom t text old new h (Accepted u) =
    FreshFrom t.grammar text (config_of old h) (tree_outcome u) × IsInForm t.grammar u
    × EachTree (IsOwnWithin t.grammar) (children_of u) × (state_of u ≡ None)
    × ((states : States) → AreStatesOf t states → StandOnHead t states text old h
    → IsSound t.grammar states text u)
    × IsOnlyAccept t.grammar text (config_of old h)
EndsFrom t text old new h (Stuck place) =
    FreshFrom t.grammar text (config_of old h) (stuck_outcome place)
    × StopsAt t.grammar text (config_of old h) place
EndsFrom t text old new h Deep = PackedIsTooDeep t.grammar text (packed_of old h)
    × (AreAlone (packed_of old h).stack → ComesTooDeep t.grammar text (config_of old h))
EndsFrom t text old new h (Forks k) =
    (k.head ≡ h) × (new ≡ old) × IsFork t.grammar text (config_of old h)
    × IsTokenAhead t text old h k.found

-- a move of the only stack that is the only step leads from one head to another
pub record LeadsOn (t : ParseTable) (text : Bytes) (old new : List (List Layer)) (h k : StackHead)
    : Type 0 where
  pub own : IsOwnHead t (length text) new k
  pub step : IsOnlyStep t.grammar text (config_of old h) (config_of new k)
  pub layers : PackedStepsOn t.grammar text (packed_of old h) (packed_of new k)
  pub exact : AreAlone (packed_of old h).stack → AreAlone (packed_of new k).stack
  pub one : IsOneStack old h.top → IsOneStack new k.top
  pub stand : (states : States) → AreStatesOf t states → StandOnHead t states text old h
      → StandOnHead t states text new k

-- What a move of the only stack comes to. Behind a reduction the same token is seen again, if some
-- move stays on it there.
abbrev pub GoesTo : ParseTable → Bytes → List (List Layer) → List (List Layer) → StackHead → Going
    → Type 0
GoesTo t text old new h (On k) = LeadsOn t text old new h k
GoesTo t text old new h (Reduced k f) = LeadsOn t text old new h k
    × (HasMove t.grammar (read_on new k) f.token.0 → IsTokenAhead t text new k f)
GoesTo t text old new h (Ended r) = EndsFrom t text old new h r
