-- What was read where a way leads down: the symbols of its trees.
use Rattle.std.proofs.Common.{◌≡◌, ◌∙◌, subst, ℕ, List, [], append-nil, arith}
use Rattle.spec_trees.specs.Trees.{all_spans}
use Rattle.spec_trees.specs.Made.{filling}
use Rattle.spec_graph.specs.declared.graph.Head.{Head}
use Rattle.spec_graph.specs.declared.graph.Link.{Link}
use Rattle.spec_graph.specs.Laying.{Parsing}
use Rattle.spec_graph.specs.Links.{IsAt, IsWay, way_trees, IsGraph}
use Rattle.spec_graph.proofs.SightLemmas.{Facts}
use Rattle.spec_graph.proofs.LayLemmas.{IsBase, lays_read, lays_spans}
use Rattle.spec_graph.proofs.GraphLemmas.{WayLaid, ways}
use Rattle.spec_graph.proofs.OutcomeLemmas.{own_trees}

module _ (P : Parsing) (facts : Facts P) (base : IsBase P) (heads : List Head) (links : List Link) (graph : IsGraph P heads links) (h place : ℕ) (read : List ℕ) (way : List Link)
    (at : IsAt P heads h read place) (down : IsWay links h way 0) where
  laid : WayLaid P facts base heads 0 [] 0 (way_trees way) h place
  laid = ways P facts base heads links 0 [] 0 graph.start way (way_trees way) h place read
      at down (own_trees P facts base heads links graph way h 0 down)

  read_is : laid.now ≡ filling (way_trees way)
  read_is = lays_read P facts [] 0 (way_trees way) place laid.now laid.lays ∙ append-nil (filling (way_trees way))

  pub way_at : IsAt P heads h (filling (way_trees way)) place
  way_at =
      let a = laid.at in
      subst (λ (r : List ℕ). IsAt P heads h r place) read_is (record { head = a.head; is = a.is; state = a.state; place_is = a.place_is })

  pub way_spans : all_spans (way_trees way) ≡ place
  way_spans = let s = lays_spans P facts base [] 0 (way_trees way) place laid.now laid.lays in omega (arith, s)
