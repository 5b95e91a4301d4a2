-- What a walk over a tree finds: the visible nodes of some of a node's children.
use Rattle.std.specs.Prelude.{◌≡◌, ℕ, suc, ◌-◌, ◌++◌, Bool, if◌then◌else◌, List, map, take, drop, slice_get, Option, Some, None, option_map, unwrap_or}
use Rattle.std.specs.Borrow.{Bor}
use Rattle.std.specs.Option.{option_copied}
use Rattle.ts_core.specs.declared.flat.Step.{Step}
use Rattle.ts_core.specs.declared.flat.FlatGrammar.{FlatGrammar}
use Rattle.spec_trees.specs.declared.tree.Tree.{Tree}
use Rattle.spec_trees.specs.declared.visible.VisibleNode.{VisibleNode}
use Rattle.spec_trees.specs.declared.visible.Focus.{Focus}
use Rattle.spec_trees.specs.Trees.{symbol_of, production_of, elements_of, children_of}
use Rattle.spec_trees.specs.Made.{fills_from}
use Rattle.spec_trees.specs.Family.{LieWithin}
use Rattle.spec_trees.specs.VisibleNodes.{Marks, no_marks, marks_of, marks_at, children_marks, showing, shown_all}

-- a focus on the node of a number
abbrev pub focus_of : List VisibleNode → ℕ → Focus
focus_of nodes number = record { nodes = nodes; number = number }

-- the start of the node of a number
abbrev pub start_of : List VisibleNode → ℕ → ℕ
start_of nodes k = unwrap_or (option_map (λ node. node.start) (slice_get nodes k)) 0

-- the marks of a step, where there is one
abbrev pub marks_by : Option Step → Marks
marks_by None = no_marks
marks_by (Some step) = marks_of step

-- the same of a step that is lent
abbrev pub step_marks : Option (Bor Step) → Marks
step_marks step = marks_by (option_copied step)

-- the step that a child fills after so many filled steps, and none where it is an extra
abbrev pub fills : ℕ → Bool → Option ℕ
fills filled extra = if extra then None else Some filled

-- how many steps are filled after that child
abbrev pub filled_after : ℕ → Bool → ℕ
filled_after filled extra = if extra then filled else suc filled

-- these nodes come to those before, and end by a place
pub record AppendsNodes (limit : ℕ) (part before after : List VisibleNode) : Type 0 where
  pub nodes : after ≡ before ++ part
  pub lie : LieWithin limit part

-- the children from one number up to another
abbrev pub window : List Tree → ℕ → ℕ → List Tree
window ts from to = take (to - from) (drop from ts)

-- what nodes one after another come to, with these marks
abbrev pub among : FlatGrammar → List Tree → List Marks → ℕ → ℕ → List ℕ → List VisibleNode
among g ts marks depth place fields =
    shown_all (map (λ (t : Tree). (t, showing g t)) ts) marks depth place fields

-- what the children of one production come to, from one of them on
abbrev pub part_nodes : FlatGrammar → List Step → ℕ → List Tree → ℕ → ℕ → List ℕ → List VisibleNode
part_nodes g steps filled ts depth place fields =
    among g ts (map (marks_at steps) (fills_from filled ts)) depth place fields

-- what all children of a node come to
abbrev pub inner_nodes : FlatGrammar → Tree → ℕ → ℕ → List ℕ → List VisibleNode
inner_nodes g t depth place fields =
    among g (children_of t)
    (children_marks g (symbol_of t) (production_of t) (elements_of t) (children_of t))
    depth place fields
