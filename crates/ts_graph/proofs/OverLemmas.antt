-- A graph that has no heads and links but those of the stack over which it lies.
use Rattle.std.proofs.Common.{◌≡◌, ◌∙◌, sym, ap, subst, ℕ, ◌≤◌, false, List, [], ◌∷◌, ◌++◌, append-nil, length, slice_get, Some, arith}
use Rattle.std.proofs.lemmas.Option.{slice_get_within}
use Rattle.spec_trees.specs.Trees.{all_spans}
use Rattle.spec_graph.specs.declared.graph.Head.{Head}
use Rattle.spec_graph.specs.declared.graph.Link.{Link}
use Rattle.ts_gss.specs.declared.layer.Layer.{Layer}
use Rattle.ts_gss.specs.Stacks.{stack_at, trees_on, IsOneStack}
use Rattle.ts_gss.proofs.OneLemmas.{one_first}
use Rattle.ts_graph.specs.declared.graph.Row.{Row}
use Rattle.ts_graph.specs.declared.graph.Cell.{Cell}
use Rattle.ts_graph.specs.Cells.{heads_of, newest_of, links_of, graph_of, IsSound, IsKept}
use Rattle.ts_graph.specs.Under.{HaveBytes, LiesUnder, heads_on, links_on, graph_over, rows_on, rows_over, cells_on, cells_over}
use Rattle.ts_graph.proofs.UnderLemmas.{rows_heads, cells_links, stack_sound, stack_kept, stack_long}

-- each layer has a byte
layers_few : (layers : List Layer) → HaveBytes (trees_on layers) → length layers ≤ all_spans (trees_on layers)
layers_few [] bytes = omega arith
layers_few (l ∷ layers) bytes = let b = bytes.0 in let few = layers_few layers bytes.1 in omega (arith, b, few)

module _ (stacks : List (List Layer)) (base place : ℕ) (one : IsOneStack stacks base) (spans : all_spans (trees_on (stack_at stacks base)) ≡ place) (bytes : HaveBytes (trees_on (stack_at stacks base)))
    (rows : List Row) (cells : List Cell) (no_rows : rows ≡ []) (no_cells : cells ≡ []) where
  abbrev layers : List Layer
  layers = stack_at stacks base

  all_rows : rows_over layers rows ≡ rows_on layers
  all_rows = ap (λ (rs : List Row). rows_on layers ++ rs) no_rows ∙ append-nil (rows_on layers)

  all_cells : cells_over layers cells ≡ cells_on layers
  all_cells = ap (λ (cs : List Cell). cells_on layers ++ cs) no_cells ∙ append-nil (cells_on layers)

  deep : length layers ≡ base
  deep = stack_long stacks base one.lie base (omega arith)

  pub bare_sound : IsSound (heads_of (rows_over layers rows)) (newest_of (rows_over layers rows)) (cells_over layers cells)
  bare_sound =
      subst (λ (rs : List Row). IsSound (heads_of rs) (newest_of rs) (cells_over layers cells)) (sym all_rows)
      (subst (λ (cs : List Cell). IsSound (heads_of (rows_on layers)) (newest_of (rows_on layers)) cs) (sym all_cells) (stack_sound layers bytes))

  pub bare_kept : IsKept (heads_of (rows_over layers rows)) base (cells_over layers cells) false
  bare_kept =
      subst (λ (rs : List Row). IsKept (heads_of rs) base (cells_over layers cells) false) (sym all_rows)
      (subst (λ (cs : List Cell). IsKept (heads_of (rows_on layers)) base cs false) (sym all_cells)
      (subst (λ (n : ℕ). IsKept (heads_of (rows_on layers)) n (cells_on layers) false) deep (stack_kept layers)))

  pub bare_under : LiesUnder stacks base place cells
  bare_under = record {
    one = one;
    spans = spans;
    bytes = bytes;
    few = let f = layers_few layers bytes in let d = deep in omega (arith, f, d, spans);
    own = λ k c at. absurd (let w = slice_get_within [] k c (subst (λ (cs : List Cell). slice_get cs k ≡ Some c) no_cells at) in omega (arith, w));
  }

  pub bare_view : graph_of (heads_of (rows_over layers rows)) (links_of (cells_over layers cells)) base ≡ graph_over layers
  bare_view =
      ap (λ (hs : List Head). graph_of hs (links_of (cells_over layers cells)) base) (ap heads_of all_rows ∙ rows_heads layers)
      ∙ ap (λ (ls : List Link). graph_of (heads_on layers) ls base) (ap links_of all_cells ∙ cells_links layers)
      ∙ ap (λ (n : ℕ). graph_of (heads_on layers) (links_on layers) n) (sym deep)

-- ---- over the empty stack

module _ (stacks : List (List Layer)) (is : stacks ≡ [] ∷ []) (rows : List Row) (cells : List Cell) (no_rows : rows ≡ []) (no_cells : cells ≡ []) where
  one : IsOneStack stacks 0
  one = subst (λ (ss : List (List Layer)). IsOneStack ss 0) (sym is) one_first

  empty : stack_at stacks 0 ≡ []
  empty = one.lie.lowest

  spans : all_spans (trees_on (stack_at stacks 0)) ≡ 0
  spans = ap (λ (ls : List Layer). all_spans (trees_on ls)) empty

  bytes : HaveBytes (trees_on (stack_at stacks 0))
  bytes = subst (λ (ls : List Layer). HaveBytes (trees_on ls)) (sym empty) tt

  pub first_sound : IsSound (heads_of (rows_over (stack_at stacks 0) rows)) (newest_of (rows_over (stack_at stacks 0) rows)) (cells_over (stack_at stacks 0) cells)
  first_sound = bare_sound stacks 0 0 one spans bytes rows cells no_rows no_cells

  pub first_kept : IsKept (heads_of (rows_over (stack_at stacks 0) rows)) 0 (cells_over (stack_at stacks 0) cells) false
  first_kept = bare_kept stacks 0 0 one spans bytes rows cells no_rows no_cells

  pub first_under : LiesUnder stacks 0 0 cells
  first_under = bare_under stacks 0 0 one spans bytes rows cells no_rows no_cells

  pub first_view : graph_of (heads_of (rows_over (stack_at stacks 0) rows)) (links_of (cells_over (stack_at stacks 0) cells)) 0 ≡ graph_over []
  first_view = bare_view stacks 0 0 one spans bytes rows cells no_rows no_cells ∙ ap (λ (ls : List Layer). graph_over ls) empty
