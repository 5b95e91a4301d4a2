-- The visible tree: the nodes that show, in preorder, with their depths, names, fields and ranges.
use Rattle.std.specs.Prelude.{ℕ, suc, ◌+◌, Bool, true, ◌||◌, not, nat_eq, if◌then◌else◌, List, [], ◌∷◌, ◌++◌, map, take, drop, slice_get, Option, Some, None, option_map, unwrap_or}
use Rattle.std.specs.List.{list_any}
use Rattle.std.proofs.Common.{is_some}
use Rattle.ts_base.specs.Bytes.{Bytes}
use Rattle.ts_core.specs.declared.flat.Alias.{Alias}
use Rattle.ts_core.specs.declared.flat.Step.{Step}
use Rattle.ts_core.specs.declared.flat.FlatGrammar.{FlatGrammar}
use Rattle.spec_grammar.specs.Symbols.{production_at, first_production, node_name, node_kind, is_hidden_kind, is_named_kind}
use Rattle.spec_trees.specs.declared.tree.Tree.{Tree}
use Rattle.spec_trees.specs.declared.tree.Element.{Element}
use Rattle.spec_trees.specs.declared.tree.Tree.TheOpen.{Tree-F}
use Rattle.spec_trees.specs.declared.tree.Tree.TheFolds.{para-Tree}
use Rattle.spec_trees.specs.declared.visible.VisibleNode.{VisibleNode}
use Rattle.spec_trees.specs.Trees.{symbol_of, span_of}
use Rattle.spec_trees.specs.Made.{fills_from}

-- ---- the marks under which a node stands

-- the alias and the field of the step that a node fills
pub record Marks : Type 0 where
  pub alias : Option Alias
  pub field : Option ℕ

-- those of an extra and of the root
abbrev pub no_marks : Marks
no_marks = record { alias = None; field = None }

-- those of a step
abbrev pub marks_of : Step → Marks
marks_of step = record { alias = step.alias; field = step.field }

-- the marks of the step of this place
abbrev pub marks_at : List Step → Option ℕ → Marks
marks_at steps None = no_marks
marks_at steps (Some place) = unwrap_or (option_map marks_of (slice_get steps place)) no_marks

-- the steps of the production of a number
abbrev pub steps_at : FlatGrammar → ℕ → List Step
steps_at g number = unwrap_or (option_map (λ p. p.1.steps) (production_at g number)) []

-- the marks of an element's children: those of the steps of its alternative
abbrev pub element_marks : FlatGrammar → ℕ → Element → List Tree → List Marks
element_marks g symbol e ts =
    map (marks_at (steps_at g (first_production g symbol + e.alternative))) (fills_from 0 ts)

-- the same of elements one after another
abbrev pub elements_marks : FlatGrammar → ℕ → List Element → List Tree → List Marks
elements_marks g symbol [] ts = []
elements_marks g symbol (e ∷ es) ts =
    element_marks g symbol e (take e.children ts)
    ++ elements_marks g symbol es (drop e.children ts)

-- the marks of the children of a node, in order
abbrev pub children_marks : FlatGrammar → ℕ → Option ℕ → List Element → List Tree → List Marks
children_marks g symbol None elements ts = elements_marks g symbol elements ts
children_marks g symbol (Some number) elements ts =
    map (marks_at (steps_at g number)) (fills_from 0 ts)

-- ---- fields, by their numbers, each once

-- fields with one more, where they have it not yet
abbrev pub with_field : List ℕ → Option ℕ → List ℕ
with_field fields None = fields
with_field fields (Some field) =
    if list_any (nat_eq field) fields then fields else fields ++ field ∷ []

-- ---- one node

-- a node shows under its alias, or by its own symbol
abbrev pub is_shown : FlatGrammar → ℕ → Option Alias → Bool
is_shown g symbol alias = is_some alias || not (is_hidden_kind (node_kind g symbol))

-- the name under which a node shows: its alias's, or that of its symbol's nodes
abbrev pub shown_name : FlatGrammar → ℕ → Option Alias → Bytes
shown_name g symbol alias = unwrap_or (option_map (λ a. a.name) alias) (node_name g symbol)

-- whether a node shows as named: as its alias is, or its symbol's nodes are
abbrev pub shown_named : FlatGrammar → ℕ → Option Alias → Bool
shown_named g symbol alias =
    unwrap_or (option_map (λ a. a.named) alias) (is_named_kind (node_kind g symbol))

-- a node as it shows, from its start on
abbrev pub visible_node : ℕ → Bytes → Bool → List ℕ → ℕ → ℕ → VisibleNode
visible_node depth name named fields start size = record {
  depth = depth;
  name = name;
  named = named;
  fields = fields;
  start = start;
  end = start + size;
}

-- ---- the list

-- what a node comes to at a depth and a place, under the fields of hidden steps and its own marks
abbrev pub Showing : Type 0
Showing = ℕ → ℕ → List ℕ → Marks → List VisibleNode

-- the first of several marks
abbrev pub first_marks : List Marks → Marks
first_marks [] = no_marks
first_marks (m ∷ ms) = m

-- nodes one after another, each from where the one before ends
abbrev pub shown_all : List (Tree × Showing) → List Marks → ℕ → ℕ → List ℕ → List VisibleNode
shown_all [] marks depth place fields = []
shown_all (child ∷ rest) marks depth place fields =
    child.1 depth place fields (first_marks marks)
    ++ shown_all rest (drop 1 marks) depth (place + span_of child.0) fields

-- the children of a node, with their marks
abbrev pub shown_children
    : FlatGrammar → Tree-F (Tree × Showing) → ℕ → ℕ → List ℕ → List VisibleNode
shown_children g t depth place fields =
    shown_all t.children
    (children_marks g t.symbol.0 t.production t.elements (map (λ c. c.0) t.children))
    depth place fields

-- A node that shows stands before its children, which are one deeper and begin without fields. In
-- place of a hidden node stand its children, under its fields too.
abbrev pub showing_step : FlatGrammar → Tree-F (Tree × Showing) → Showing
showing_step g t depth place fields marks =
    if is_shown g t.symbol.0 marks.alias
    then visible_node depth
    (shown_name g t.symbol.0 marks.alias)
    (shown_named g t.symbol.0 marks.alias)
    (with_field fields marks.field)
    (place + t.pad) t.size
    ∷ shown_children g t (suc depth) place []
    else shown_children g t depth place (with_field fields marks.field)

-- what a tree comes to
abbrev pub showing : FlatGrammar → Tree → Showing
showing g = para-Tree Showing (showing_step g)

-- The root always shows, named, under its rule's name.
abbrev pub root_alias : FlatGrammar → ℕ → Alias
root_alias g symbol = record { name = node_name g symbol; named = true }

-- the marks of the root
abbrev pub root_marks : FlatGrammar → ℕ → Marks
root_marks g symbol = record { alias = Some (root_alias g symbol); field = None }

-- The visible nodes of a root, which stands at the text's start. A node's place in the list is its
-- number.
abbrev pub visible_nodes : FlatGrammar → Tree → List VisibleNode
visible_nodes g root = showing g root 0 0 [] (root_marks g (symbol_of root))
