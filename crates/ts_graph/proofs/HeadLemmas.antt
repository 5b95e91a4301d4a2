-- Heads in rows: one is found by its number, a new one is put at the end, and what is kept beside
-- them changes.
use Rattle.std.proofs.Common.{◌≡◌, ◌∙◌, sym, ap, refl, subst, ℕ, inr, Bool, List, [], ◌∷◌, ◌++◌, length, set, get_or, slice_get, Option, Some, None}
use Rattle.std.proofs.Math.Seq.{map-set_same}
use Rattle.std.proofs.lemmas.List.{length-map, map-append, map-set}
use Rattle.std.proofs.lemmas.Option.{slice_get_within}
use Rattle.ts_base.proofs.PlaceLemmas.{in_prefix}
use Rattle.spec_graph.specs.declared.graph.Head.{Head}
use Rattle.spec_graph.specs.declared.graph.Link.{Link}
use Rattle.ts_graph.specs.declared.graph.Row.{Row}
use Rattle.ts_graph.specs.declared.graph.Cell.{Cell}
use Rattle.ts_graph.specs.declared.view.GraphView.{GraphView}
use Rattle.ts_graph.specs.Cells.{heads_of, newest_of, links_of, graph_of, IsSound, IsKept}
use Rattle.ts_graph.specs.Down.{links_down, links_from, KeepNumbers, OpensAt}
use Rattle.ts_graph.proofs.ListLemmas.{at_mapped}
use Rattle.ts_graph.proofs.CellLemmas.{sound_open}
use Rattle.ts_graph.proofs.KeptLemmas.{kept_open}

-- ---- a head by its number

module _ (rows : List Row) (links : List Link) {base : ℕ} (g : GraphView) (view : graph_of (heads_of rows) links base ≡ g) where
  pub many : length g.heads ≡ length rows
  many = sym (ap (λ (x : GraphView). length x.heads) view) ∙ length-map rows (λ (r : Row). r.head)

  pub row_head : (k : ℕ) (row : Row) → slice_get rows k ≡ Some row → slice_get g.heads k ≡ Some row.head
  row_head k row at = subst (λ (x : GraphView). slice_get x.heads k ≡ Some row.head) view (at_mapped (λ (r : Row). r.head) rows k row at)

-- ---- one more head

pub heads_pushed : (rows : List Row) (row : Row) → heads_of (rows ++ row ∷ []) ≡ heads_of rows ++ row.head ∷ []
heads_pushed rows row = map-append (λ (r : Row). r.head) rows (row ∷ [])

pub newest_pushed : (rows : List Row) (row : Row) → newest_of (rows ++ row ∷ []) ≡ newest_of rows ++ row.newest ∷ []
newest_pushed rows row = map-append (λ (r : Row). r.newest) rows (row ∷ [])

pub stay_more : (heads new : List Head) (head : Head) → new ≡ heads ++ head ∷ [] → KeepNumbers heads new
stay_more heads new head is h x at =
    subst (λ (xs : List Head). slice_get xs h ≡ Some x) (sym is)
    (in_prefix heads (head ∷ []) h (slice_get_within heads h x at) ∙ at)

-- the last of more heads
pub last_at : (heads : List Head) (head : Head) → slice_get (heads ++ head ∷ []) (length heads) ≡ Some head
last_at [] head = refl
last_at (x ∷ heads) head = last_at heads head

pub opens_last : (heads new : List Head) (head : Head) (number : ℕ) → new ≡ heads ++ head ∷ [] → number ≡ length heads → OpensAt heads new head number
opens_last heads new head number is at = record {
  at = subst (λ (xs : List Head). slice_get xs number ≡ Some head) (sym is)
      (subst (λ (n : ℕ). slice_get (heads ++ head ∷ []) n ≡ Some head) (sym at) (last_at heads head));
  added = inr (is, at);
}

-- ---- what is kept beside the heads

pub heads_set : (rows : List Row) (k : ℕ) (row d : Row) → row.head ≡ (get_or rows k d).head → heads_of (set rows k row) ≡ heads_of rows
heads_set rows k row d same = map-set_same (λ (r : Row). r.head) rows k row d same

pub newest_same : (rows : List Row) (k : ℕ) (row d : Row) → row.newest ≡ (get_or rows k d).newest → newest_of (set rows k row) ≡ newest_of rows
newest_same rows k row d same = map-set_same (λ (r : Row). r.newest) rows k row d same

pub newest_set : (rows : List Row) (k : ℕ) (row : Row) (o : Option ℕ) → row.newest ≡ o → newest_of (set rows k row) ≡ set (newest_of rows) k o
newest_set rows k row o is = map-set (λ (r : Row). r.newest) rows k row ∙ ap (λ (x : Option ℕ). set (newest_of rows) k x) is

-- ---- what holds of the kept graph

module _ (rows : List Row) (cells : List Cell) (s : IsSound (heads_of rows) (newest_of rows) cells) where
  pub row_newest : {base : ℕ} (g : GraphView) → graph_of (heads_of rows) (links_of cells) base ≡ g → (k : ℕ) (row : Row) → slice_get rows k ≡ Some row → links_from g.links k row.newest ≡ links_down g.links k
  row_newest g view k row at =
      subst (λ (x : GraphView). links_from x.links k row.newest ≡ links_down x.links k) view
      (s.begins k row.newest (at_mapped (λ (r : Row). r.newest) rows k row at))

  -- one more head, whatever is beside it
  module _ (row : Row) (mid new : List Row) (is : mid ≡ rows ++ row ∷ []) (heads_are : heads_of new ≡ heads_of mid) (newest_are : newest_of new ≡ newest_of mid) where
    pub added_heads : heads_of new ≡ heads_of rows ++ row.head ∷ []
    added_heads = heads_are ∙ ap (λ (rs : List Row). heads_of rs) is ∙ heads_pushed rows row

    pub sound_added : row.newest ≡ None → IsSound (heads_of new) (newest_of new) cells
    sound_added none =
        sound_open (heads_of rows) (newest_of rows) (newest_of new) cells s row.head (heads_of new)
        (newest_are ∙ ap (λ (rs : List Row). newest_of rs) is ∙ newest_pushed rows row ∙ ap (λ (o : Option ℕ). newest_of rows ++ o ∷ []) none) added_heads

    pub kept_added : {base : ℕ} (extras : Bool) → IsKept (heads_of rows) base cells extras → IsKept (heads_of new) base cells extras
    kept_added extras kept = kept_open (heads_of rows) cells extras s.each_once kept row.head (heads_of new) added_heads

-- a newer link
module _ (rows : List Row) (k : ℕ) (row d : Row) (same : row.head ≡ (get_or rows k d).head) (cells : List Cell) where
  pub sound_set : (n : ℕ) → row.newest ≡ Some n → IsSound (heads_of rows) (set (newest_of rows) k (Some n)) cells → IsSound (heads_of (set rows k row)) (newest_of (set rows k row)) cells
  sound_set n is s =
      subst (λ (hs : List Head). IsSound hs (newest_of (set rows k row)) cells) (sym (heads_set rows k row d same))
      (subst (λ (ns : List (Option ℕ)). IsSound (heads_of rows) ns cells) (sym (newest_set rows k row (Some n) is)) s)

  pub kept_set : {base : ℕ} (extras : Bool) → IsKept (heads_of rows) base cells extras → IsKept (heads_of (set rows k row)) base cells extras
  kept_set {base = base} extras kept = subst (λ (hs : List Head). IsKept hs base cells extras) (sym (heads_set rows k row d same)) kept
