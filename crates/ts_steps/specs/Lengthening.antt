-- A repetition on top of a stack, and elements that are put behind it at once. It serves private
-- clauses and proofs alone.
use Rattle.std.specs.Prelude.{◌≡◌, ℕ, ◌+◌, ◌<◌, ◌≤◌, suc, List, ◌∷◌, length}
use Rattle.ts_base.specs.Bytes.{Bytes}
use Rattle.spec_trees.specs.declared.tree.Tree.{Tree}
use Rattle.spec_trees.specs.declared.tree.Stretch.{Stretch}
use Rattle.spec_trees.specs.Trees.{symbol_of, node_extent, elements_of, span_of, all_spans}
use Rattle.spec_trees.specs.Made.{reach_of}
use Rattle.spec_forced.specs.OnlyRuns.{Meet}
use Rattle.spec_forced.specs.Sound.{States, EachHasState, IsHonestStretch}
use Rattle.ts_table.specs.declared.view.ParseTable.{ParseTable}
use Rattle.ts_gss.specs.declared.layer.Layer.{Layer}
use Rattle.ts_gss.specs.Stacks.{stack_at, state_on, AreExact}
use Rattle.ts_gss.specs.Paths.{IsLifted}
use Rattle.ts_steps.specs.declared.head.StackHead.{StackHead}
use Rattle.ts_steps.specs.declared.lengthening.ListEnd.{ListEnd}
use Rattle.ts_steps.specs.LiveHeads.{config_of, read_on}
use Rattle.ts_steps.specs.Heads.{AreStatesOf, IsOwnHead, StandOnHead}

-- the repetition on top of a stack, which ends at the place
pub record IsListOn (stacks : List (List Layer)) (under place : ℕ) (e : ListEnd) : Type 0 where
  pub under_is : e.under ≡ under
  pub place_is : e.place ≡ place
  pub layer : Layer
  pub below : List Layer
  pub stack_is : stack_at stacks under ≡ layer ∷ below
  pub some : 0 < length (elements_of layer.tree)
  pub named : symbol_of layer.tree ≡ e.symbol.0
  pub state_is : state_on below ≡ e.state

-- the repetition below the extras on top of the stack of a head, which all have states
pub record IsListEnd (stacks : List (List Layer)) (h : StackHead) (e : ListEnd) : Type 0 where
  pub extras : List Tree
  pub there : e.under < length stacks
  pub lifted : IsLifted (stack_at stacks h.top) extras (stack_at stacks e.under)
  pub stated : EachHasState extras
  pub spans : e.place + all_spans extras ≡ h.place
  pub list : IsListOn stacks e.under e.place e

-- So many bytes cover what was examined for the repetition, which ends at the place, and for
-- elements behind it, which end within the text, and later than the parser came.
pub record HasRoom (size place reached : ℕ) (t : Tree) (s : Stretch) (extent : ℕ) : Type 0 where
  pub later : reached < place + all_spans s.children
  pub within : place + all_spans s.children ≤ size
  pub own : node_extent t ≤ extent
  pub reach : span_of t + reach_of s.elements s.children ≤ extent
  pub room : place + extent ≤ suc size + span_of t

-- The repetition of the old stack has the elements behind its own on the new one, in the place of
-- the extras above it. The trees stand there if the elements are honest, and the only runs from
-- both stacks meet.
pub record IsLengthened (t : ParseTable) (size : ℕ) (old new : List (List Layer)) (h : StackHead)
    (e : ListEnd) (s : Stretch) (k : StackHead) : Type 0 where
  pub own : IsOwnHead t size new k
  pub later : h.place < k.place
  pub symbols : read_on new k ≡ read_on old h
  pub exact : AreExact (stack_at old h.top) → AreExact (stack_at new k.top)
  pub stand : (states : States) (text : Bytes) → length text ≡ size → AreStatesOf t states
      → IsHonestStretch t.grammar states text e.place e.state e.symbol.0 s
      → StandOnHead t states text old h
      → StandOnHead t states text new k × Meet t.grammar text (config_of old h) (config_of new k)
