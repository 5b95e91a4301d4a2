-- The tree after an edit, before the new text is parsed.
use Rattle.std.specs.Prelude.{ℕ, ◌+◌, ◌-◌, false, not, ◌&&◌, List, [], ◌∷◌, map, take, drop}
use Rattle.ts_text.specs.declared.edit.Edit.{Edit}
use Rattle.spec_trees.specs.declared.tree.Tree.{Tree}
use Rattle.spec_trees.specs.declared.tree.Element.{Element}
use Rattle.spec_trees.specs.declared.tree.Tree.TheOpen.{Tree-F}
use Rattle.spec_trees.specs.declared.tree.Tree.TheViews.{roll-Tree, out-Tree}
use Rattle.spec_trees.specs.declared.tree.Tree.TheFolds.{para-Tree}
use Rattle.spec_trees.specs.Trees.{children_of, elements_of, pad_of, span_of, all_spans}
use Rattle.spec_reuse.specs.Changes.{is_met, moved}
use Rattle.spec_reuse.specs.Places.{lead_of}

-- what a node that begins at this place of the old text becomes
abbrev pub Marking : Type 0
Marking = ℕ → Tree

-- what nodes one after another become, each from where the one before ends
abbrev pub marked_all : List (Tree × Marking) → ℕ → List Tree
marked_all [] place = []
marked_all (c ∷ cs) place = c.1 place ∷ marked_all cs (place + span_of c.0)

-- What an element that begins at this place becomes: it stays settled where it was and no part of
-- the edit meets what was examined for it.
abbrev pub marked_element : Edit → Element → ℕ → Element
marked_element edit e place =
    record e { settled = e.settled && not (is_met edit.parts place e.extent) }

-- what elements one after another become over their children, each from where the one before ends
abbrev pub marked_elements : Edit → List Element → List Tree → ℕ → List Element
marked_elements edit [] ts place = []
marked_elements edit (e ∷ es) ts place =
    marked_element edit e place
    ∷ marked_elements edit es (drop e.children ts) (place + all_spans (take e.children ts))

-- The three places where its pad, its own bytes and what follows it begin go where the edit moves
-- them. It stays settled where it was and no part of the edit meets what was examined for it. So do
-- the nodes and elements in it.
abbrev pub marked_step : Edit → Tree-F (Tree × Marking) → Marking
marked_step edit t place = roll-Tree (record {
  symbol = t.symbol;
  production = t.production;
  pad = moved edit (place + t.pad) - moved edit place;
  size = moved edit (place + (t.pad + t.size)) - moved edit (place + t.pad);
  dynamic = t.dynamic;
  extent = t.extent;
  state = t.state;
  settled = t.settled && not (is_met edit.parts place t.extent);
  extra = t.extra;
  elements = marked_elements edit t.elements (map (λ c. c.0) t.children) place;
  children = marked_all t.children place;
})

-- what a node below the root becomes
abbrev pub marked_below : Edit → Tree → Marking
marked_below edit = para-Tree Marking (marked_step edit)

-- what nodes below the root become that stand one after another from a place on
abbrev pub all_marked : Edit → List Tree → ℕ → List Tree
all_marked edit ts place = marked_all (map (λ t. (t, marked_below edit t)) ts) place

-- The tree of a text after an edit. The root is not settled. It begins at the start of the new text
-- too, so that what is put before its first child is its own pad.
abbrev pub marked : Edit → Tree → Tree
marked edit t = roll-Tree (record (out-Tree t) {
  pad = moved edit (pad_of t);
  size = moved edit (span_of t) - moved edit (pad_of t);
  settled = false;
  elements = marked_elements edit (elements_of t) (children_of t) (lead_of t);
  children = all_marked edit (children_of t) (lead_of t);
})
