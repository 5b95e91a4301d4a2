-- What is seen from a live stack, and what one action on it comes to. It serves private clauses and
-- proofs alone.
use Rattle.std.specs.Prelude.{◌≡◌, ℕ, ◌<◌, ◌≤◌, ◌⊎◌, List, length, Option, Some, None}
use Rattle.ts_base.specs.Bytes.{Bytes}
use Rattle.ts_core.specs.declared.action.Action.{Action}
use Rattle.ts_core.specs.declared.action.Action.TheVariants.{Shift, Reduce, Accept}
use Rattle.ts_core.specs.declared.flat.FlatGrammar.{FlatGrammar}
use Rattle.spec_lexing.specs.Lexing.{token}
use Rattle.spec_trees.specs.declared.tree.Tree.{Tree}
use Rattle.spec_trees.specs.Trees.{children_of, state_of, tree_depth, bare}
use Rattle.spec_trees.specs.Made.{most_depth}
use Rattle.spec_trees.specs.Choice.{IsInForm}
use Rattle.spec_runs.specs.Configurations.{Configuration, NextIs, IsReduction, token_tree, pushed}
use Rattle.spec_packing.specs.Packing.{PackedTree, PackedStack, packed_with, IsPackedReduction}
use Rattle.spec_forced.specs.Sound.{States, StandOnStack, IsSound}
use Rattle.spec_crossing.specs.Resting.{Withstands}
use Rattle.ts_table.specs.declared.view.ParseTable.{ParseTable}
use Rattle.ts_gss.specs.declared.layer.Layer.{Layer}
use Rattle.ts_gss.specs.Stacks.{stack_at, trees_on}
use Rattle.ts_steps.specs.declared.found.FoundToken.{FoundToken}
use Rattle.ts_steps.specs.declared.head.StackHead.{StackHead}
use Rattle.ts_steps.specs.Good.{EachTree}
use Rattle.ts_steps.specs.LiveHeads.{config_of, packed_of, IsRootOf}
use Rattle.ts_steps.specs.Heads.{AreStatesOf, IsOwnWithin, IsOwnHead, StandOnHead}
use Rattle.ts_glr.specs.declared.acting.Moved.{Moved}
use Rattle.ts_glr.specs.declared.acting.Moved.TheVariants.{To, Ended, TooDeep}

-- ---- what is seen

-- the configuration sees the token
pub record SeesToken (g : FlatGrammar) (text : Bytes) (c : Configuration) (f : FoundToken)
    : Type 0 where
  pub next : NextIs g text c (token f.token f.pad f.size)

-- ---- the best tree so far

-- of the best tree so far and a new one, one was kept than which neither is better
pub record KeepsBest (old new : Option Tree) (t : Tree) : Type 0 where
  pub mine : Withstands new (bare t)
  pub others : (u : Tree) → Withstands old u → Withstands new u
  pub from : (new ≡ Some t) ⊎ (new ≡ old)

-- the best tree so far is one of the grammar
abbrev pub HasForm : FlatGrammar → Option Tree → Type 0
HasForm g best = (b : Tree) → best ≡ Some b → IsInForm g b

-- ---- one action

-- where the action leads on the token: acceptance, and a node that is too deep, lead nowhere
abbrev pub ActionLeads : FlatGrammar → Configuration → FoundToken → Action → Configuration → Type 0
ActionLeads g c f (Shift next) e = e ≡ pushed c (token_tree f.token f.pad f.size)
ActionLeads g c f (Reduce number) e =
    (node : Tree) × (after : List Tree) × IsReduction g number c.stack node after
    × (tree_depth node ≤ most_depth) × (e ≡ record { stack = after; place = c.place })
ActionLeads g c f Accept e = ⊥

-- where it leads from layers
abbrev pub LayersLead : FlatGrammar → PackedStack → FoundToken → Action → PackedStack → Type 0
LayersLead g k f (Shift next) n = n ≡ packed_with k (token_tree f.token f.pad f.size)
LayersLead g k f (Reduce number) n =
    (node : PackedTree) × (after : List PackedTree) × IsPackedReduction g number k.stack node after
    × (node.depth ≤ most_depth) × (n ≡ record { stack = after; place = k.place })
LayersLead g k f Accept n = ⊥

-- the action is a reduction that makes a layer that is too deep
abbrev pub IsTooDeep : FlatGrammar → PackedStack → Action → Type 0
IsTooDeep g k a =
    (number : ℕ) × (node : PackedTree) × (after : List PackedTree) × (a ≡ Reduce number)
    × IsPackedReduction g number k.stack node after × (most_depth < node.depth)

-- ---- stacks and roots whose nodes stand

-- the trees on the stack of the head stand, if these do
abbrev pub StandAfter : ParseTable → Bytes → List Tree → List (List Layer) → StackHead → Type 0
StandAfter t text trees stacks h =
    (states : States) → AreStatesOf t states → StandOnStack t.grammar states text trees
    → StandOnHead t states text stacks h

-- The accepted root has no state, and children that a parser of the grammar made. It is sound, if
-- these trees stand.
pub record IsSoundRoot (t : ParseTable) (text : Bytes) (trees : List Tree) (u : Tree)
    : Type 0 where
  pub own : EachTree (IsOwnWithin t.grammar) (children_of u)
  pub none : state_of u ≡ None
  pub sound : (states : States) → AreStatesOf t states → StandOnStack t.grammar states text trees
      → IsSound t.grammar states text u

-- what an action on a token that a head sees came to
abbrev pub IsActed : ParseTable → Bytes → List (List Layer) → List (List Layer) → StackHead
    → FoundToken → Option Tree → Option Tree → Action → Moved → Type 0
IsActed t text old new h f best after a (To k) =
    IsOwnHead t (length text) new k
    × ActionLeads t.grammar (config_of old h) f a (config_of new k)
    × LayersLead t.grammar (packed_of old h) f a (packed_of new k)
    × StandAfter t text (trees_on (stack_at old h.top)) new k × (after ≡ best)
IsActed t text old new h f best after a Ended =
    (a ≡ Accept)
    × ((u : Tree) × IsRootOf (config_of old h).stack (bare u) × KeepsBest best after u
    × IsSoundRoot t text (trees_on (stack_at old h.top)) u)
IsActed t text old new h f best after a TooDeep = IsTooDeep t.grammar (packed_of old h) a
