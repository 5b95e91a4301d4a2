-- A link that is packed, as contracts see it.
use Rattle.std.proofs.Common.{◌≡◌, ◌∙◌, sym, ap, subst, ℕ, ◌<◌, List, length, set, slice_get, Option, Some}
use Rattle.std.specs.Option.{option_map}
use Rattle.std.proofs.lemmas.Option.{slice_get_within, slice_get-map}
use Rattle.spec_trees.specs.declared.tree.Tree.{Tree}
use Rattle.ts_base.proofs.PlaceLemmas.{set_here, set_there}
use Rattle.spec_graph.specs.declared.graph.Head.{Head}
use Rattle.spec_graph.specs.declared.graph.Link.{Link}
use Rattle.ts_graph.specs.declared.graph.Cell.{Cell}
use Rattle.ts_graph.specs.declared.view.GraphView.{GraphView}
use Rattle.ts_graph.specs.Down.{IsPacked}
use Rattle.ts_graph.specs.Cells.{link_of, links_of, graph_of}
use Rattle.ts_graph.proofs.ListLemmas.{at_mapped}

module _ (heads : List Head) (cells : List Cell) {base : ℕ} (g : GraphView) (view : graph_of heads (links_of cells) base ≡ g) (k : ℕ) (old : Cell) (cell_there : slice_get cells k ≡ Some old) where
  within : k < length cells
  within = slice_get_within cells k old cell_there

  pub link_there : slice_get g.links k ≡ Some (link_of old)
  link_there = subst (λ (x : GraphView). slice_get x.links k ≡ Some (link_of old)) view (at_mapped link_of cells k old cell_there)

  pub packed_link : (new : Cell) (tree : Tree) (depth : ℕ) → IsPacked (link_of old) tree depth (link_of new)
      → (l m : Link) → slice_get g.links k ≡ Some l → slice_get (links_of (set cells k new)) k ≡ Some m → IsPacked l tree depth m
  packed_link new tree depth packed l m at there =
      let e : Some (link_of old) ≡ Some l = sym link_there ∙ at in
      let first : link_of old ≡ l = cc in
      let f : Some (link_of new) ≡ Some m = sym (at_mapped link_of (set cells k new) k new (set_here cells k new within)) ∙ there in
      let second : link_of new ≡ m = cc in
      subst (λ (x : Link). IsPacked l tree depth x) second (subst (λ (x : Link). IsPacked x tree depth (link_of new)) first packed)

  pub other_links : (new : Cell) (j : ℕ) → (j ≡ k → ⊥) → slice_get (links_of (set cells k new)) j ≡ slice_get g.links j
  other_links new j other =
      slice_get-map link_of (set cells k new) j
      ∙ ap (λ (o : Option Cell). option_map link_of o) (set_there cells k j new other)
      ∙ sym (slice_get-map link_of cells j)
      ∙ ap (λ (x : GraphView). slice_get x.links j) view
