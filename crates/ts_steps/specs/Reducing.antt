-- What a reduction of the only stack puts on it.
use Rattle.std.specs.Prelude.{◌≡◌, ℕ, ◌+◌, ◌<◌, ◌≤◌, ◌↔◌, Bool, true, List, ◌∷◌, ◌++◌, length, reverse, IsTrue, Some, []}
use Rattle.ts_core.specs.declared.flat.Production.{Production}
use Rattle.spec_grammar.specs.Symbols.{production_at}
use Rattle.spec_trees.specs.declared.tree.Tree.{Tree}
use Rattle.spec_trees.specs.Trees.{all_spans}
use Rattle.spec_trees.specs.Made.{EndBy, BeginsFilled, filling, reduced}
use Rattle.spec_runs.specs.Configurations.{AreExtras}
use Rattle.spec_forced.specs.Sound.{EachHasState}
use Rattle.ts_table.specs.declared.view.ParseTable.{ParseTable}
use Rattle.ts_table.specs.Tables.{IsStateOf}
use Rattle.ts_gss.specs.declared.layer.Layer.{Layer}
use Rattle.ts_steps.specs.LiveHeads.{IsGathered, AreLayersTaken}
use Rattle.ts_steps.specs.declared.ahead.TokenAhead.{TokenAhead}
use Rattle.ts_steps.specs.declared.gathering.Gathered.{Gathered}
use Rattle.ts_steps.specs.declared.topmost.TopSeen.{TopSeen}
use Rattle.ts_steps.specs.Heads.{state_where}

-- So many bytes cover all lexings of a node's making, and no fewer do: those of its children and of
-- the extras behind them, and that of the token ahead.
pub record CoversMaking (extent ahead : ℕ) (children extras : List Tree) : Type 0 where
  pub inner : EndBy extent 0 children
  pub lifted : EndBy extent (all_spans children) extras
  pub reach : all_spans children + (all_spans extras + ahead) ≤ extent
  pub least : (limit : ℕ) → EndBy limit 0 children → EndBy limit (all_spans children) extras
      → all_spans children + (all_spans extras + ahead) ≤ limit → extent ≤ limit

-- No choice was made in making the node: its move is said to be the only one, its production has
-- steps, and what it is made of has states, the extras behind its children among them.
pub record IsWithoutChoice (only : Bool) (steps : ℕ) (children extras : List Tree)
    : Type 0 where
  pub move : only ≡ true
  pub some : 0 < steps
  pub inner : EachHasState children
  pub lifted : EachHasState extras

-- In the place of the children, as many as the production has steps, stands the node over them. It
-- has the state below it just where no choice was made, and above it are the extras that were
-- behind them, the last one first.
pub record IsNodePut (t : ParseTable) (number : ℕ) (a : TokenAhead) (old new : List Tree)
    : Type 0 where
  pub left : ℕ
  pub production : Production
  pub at : production_at t.grammar number ≡ Some (left, production)
  pub extras : List Tree
  pub children : List Tree
  pub below : List Tree
  pub all_extras : AreExtras extras
  pub old_is : old ≡ reverse extras ++ (reverse children ++ below)
  pub no_more : BeginsFilled (reverse children ++ below)
  pub begins : BeginsFilled children
  pub count : length (filling children) ≡ length production.steps
  pub state : ℕ
  pub leads : IsStateOf t (filling below) state
  pub stated : Bool
  pub choice : IsTrue stated ↔ IsWithoutChoice a.only (length production.steps) children extras
  pub extent : ℕ
  pub covers : CoversMaking extent a.found.extent children extras
  pub new_is : new ≡ reverse extras
      ++ reduced t.grammar number extent (state_where stated state) children ∷ below

-- ---- under way

-- what a reduction took off a stack. It serves private clauses and proofs alone.
pub record IsGatheredBy (t : ParseTable) (size : ℕ) (stack : List Layer) (place count ahead : ℕ)
    (r : Gathered) (below : List Layer) : Type 0 where
  pub gathered : IsGathered t size stack place count r.extras.items r.children.items r.extent below
  pub covers : CoversMaking r.extent ahead r.children.items r.extras.items
  pub stated : IsTrue r.stated ↔ (EachHasState r.children.items × EachHasState r.extras.items)
  pub layers : AreLayersTaken stack r.extras.items r.children.items r.first r.others below

-- what a reduction sees of the node on top, where this is its only child. It serves private clauses
-- and proofs alone.
pub record IsTopSeen (t : ParseTable) (size : ℕ) (stack : List Layer) (place count ahead : ℕ)
    (child : Tree) (s : TopSeen) (below : List Layer) : Type 0 where
  pub gathered : IsGathered t size stack place count [] (child ∷ []) s.extent below
  pub covers : CoversMaking s.extent ahead (child ∷ []) []
  pub stated : IsTrue s.stated ↔ (EachHasState (child ∷ []) × EachHasState [])
  pub layers : AreLayersTaken stack [] (child ∷ []) s.depth 0 below
