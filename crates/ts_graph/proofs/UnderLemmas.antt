-- The stack over which a graph lies: its heads and links by their numbers, and what holds of them alone.
use Rattle.std.proofs.Common.{◌≡◌, ◌∙◌, sym, ap, refl, subst, ℕ, zero, suc, ◌+◌, ◌-◌, ◌<◌, ◌≤◌, ◌⊎◌, inl, inr, ⊎_elim, Bool, true, false, nat_lt, List, [], ◌∷◌, ◌++◌, length, length-append, set, slice_get, Option, Some, None, arith}
use Rattle.std.specs.Option.{option_map_or}
use Rattle.std.proofs.lemmas.Bool.{ltb-true, ltb-false}
use Rattle.std.proofs.lemmas.List.{length-map, map-append}
use Rattle.std.proofs.lemmas.Option.{slice_get_within}
use Rattle.spec_trees.specs.Trees.{span_of}
use Rattle.ts_base.proofs.PlaceLemmas.{in_prefix, at_end, push_cases}
use Rattle.spec_graph.specs.declared.graph.Head.{Head}
use Rattle.spec_graph.specs.declared.graph.Link.{Link}
use Rattle.spec_graph.specs.Links.{IsWay}
use Rattle.ts_gss.specs.declared.layer.Layer.{Layer}
use Rattle.ts_gss.specs.Stacks.{packed_layer, stack_at, trees_on, state_on, under_top, LieInOne, IsOneStack}
use Rattle.ts_graph.specs.declared.graph.Row.{Row}
use Rattle.ts_graph.specs.declared.graph.Cell.{Cell}
use Rattle.ts_graph.specs.Down.{links_down, links_from, link_with, place_at, HasNone}
use Rattle.ts_graph.specs.declared.view.GraphView.{GraphView}
use Rattle.ts_graph.specs.Cells.{heads_of, newest_of, link_of, links_of, graph_of, IsSound, IsKept}
use Rattle.ts_graph.specs.Under.{HaveBytes, LiesOver, LiesUnder, head_over, heads_on, links_on, row_with, rows_on, rows_over, cell_over, cells_on, cells_over, state_at, layer_of_link, layers_of}
use Rattle.ts_graph.proofs.ListLemmas.{mapped_at, at_mapped, at_has, has_contained}
use Rattle.ts_graph.proofs.CellLemmas.{none_past, sound_open, sound_push}
use Rattle.ts_graph.proofs.HeadLemmas.{heads_pushed, newest_pushed, last_at}

-- ---- the lists

pub rows_heads : (layers : List Layer) → heads_of (rows_on layers) ≡ heads_on layers
rows_heads [] = refl
rows_heads (l ∷ layers) =
    heads_pushed (rows_on layers) (row_with (head_over (l ∷ layers)) (Some (length layers)))
    ∙ ap (λ (hs : List Head). hs ++ head_over (l ∷ layers) ∷ []) (rows_heads layers)

pub cells_pushed : (cells : List Cell) (c : Cell) → links_of (cells ++ c ∷ []) ≡ links_of cells ++ link_of c ∷ []
cells_pushed cells c = map-append link_of cells (c ∷ [])

pub cells_links : (layers : List Layer) → links_of (cells_on layers) ≡ links_on layers
cells_links [] = refl
cells_links (l ∷ layers) =
    cells_pushed (cells_on layers) (cell_over l (length layers))
    ∙ ap (λ (ls : List Link). ls ++ link_with (suc (length layers)) (length layers) l.tree l.depth ∷ []) (cells_links layers)

pub rows_many : (layers : List Layer) → length (rows_on layers) ≡ suc (length layers)
rows_many [] = refl
rows_many (l ∷ layers) =
    let row = row_with (head_over (l ∷ layers)) (Some (length layers)) in
    let more = length-append (rows_on layers) (row ∷ []) in
    let many = rows_many layers in
    omega (arith, more, many)

pub cells_many : (layers : List Layer) → length (cells_on layers) ≡ length layers
cells_many [] = refl
cells_many (l ∷ layers) =
    let more = length-append (cells_on layers) (cell_over l (length layers) ∷ []) in
    let many = cells_many layers in
    omega (arith, more, many)

pub heads_many : (layers : List Layer) → length (heads_on layers) ≡ suc (length layers)
heads_many layers =
    ap (λ (hs : List Head). length hs) (sym (rows_heads layers)) ∙ length-map (rows_on layers) (λ (r : Row). r.head) ∙ rows_many layers

-- the highest of its heads
pub head_last : (layers : List Layer) → slice_get (heads_on layers) (length layers) ≡ Some (head_over layers)
head_last [] = refl
head_last (l ∷ layers) =
    subst (λ (n : ℕ). slice_get (heads_on layers ++ head_over (l ∷ layers) ∷ []) n ≡ Some (head_over (l ∷ layers))) (heads_many layers)
    (last_at (heads_on layers) (head_over (l ∷ layers)))

-- none of its cells tells a place past the start
pub cells_zero : (layers : List Layer) (k : ℕ) (c : Cell) → slice_get (cells_on layers) k ≡ Some c → c.lowest ≡ 0
cells_zero [] k c at = absurd (let w = slice_get_within [] k c at in omega (arith, w))
cells_zero (l ∷ layers) k c at = by (λ there. cells_zero layers k c there) (push_cases (cells_on layers) (cell_over l (length layers)) k c at)
  where
    by : (slice_get (cells_on layers) k ≡ Some c → c.lowest ≡ 0) → ((k < length (cells_on layers)) × (slice_get (cells_on layers) k ≡ Some c)) ⊎ ((k ≡ length (cells_on layers)) × (cell_over l (length layers) ≡ c)) → c.lowest ≡ 0
    by below (inl w) = below w.1
    by below (inr w) = sym (ap (λ (x : Cell). x.lowest) w.1)

-- ---- they are sound by themselves

set_last : (xs : List (Option ℕ)) (a b : Option ℕ) (n : ℕ) → n ≡ length xs → set (xs ++ a ∷ []) n b ≡ xs ++ b ∷ []
set_last xs a b n is = subst (λ (m : ℕ). set (xs ++ a ∷ []) m b ≡ xs ++ b ∷ []) (sym is) (by xs)
  where
    by : (ys : List (Option ℕ)) → set (ys ++ a ∷ []) (length ys) b ≡ ys ++ b ∷ []
    by [] = refl
    by (y ∷ ys) = ap (λ (zs : List (Option ℕ)). y ∷ zs) (by ys)

sound_first : IsSound (heads_of (rows_on [])) (newest_of (rows_on [])) (cells_on [])
sound_first = record {
  each_once = record {
    above_there = λ k l at. absurd (no_link k l at);
    below_there = λ k l at. absurd (no_link k l at);
    falls = λ k l at. absurd (no_link k l at);
    one_each = λ j k a b p q. absurd (no_link j p.link p.at);
  };
  chained = λ k c at. absurd (let w = slice_get_within [] k c at in omega (arith, w));
  room = omega arith;
  begins = begins;
}
  where
    no_link : (k : ℕ) (l : Link) → slice_get [] k ≡ Some l → ⊥
    no_link k l at = let w = slice_get_within [] k l at in omega (arith, w)

    begins : (h : ℕ) (o : Option ℕ) → slice_get (None ∷ []) h ≡ Some o → links_from [] h o ≡ links_down [] h
    begins zero o at =
        let e : Some None ≡ Some o = at in
        let f : None ≡ o = cc in
        subst (λ (p : Option ℕ). links_from [] 0 p ≡ links_down [] 0) f refl
    begins (suc h) o at = absurd (let w = slice_get_within (None ∷ []) (suc h) o at in omega (arith, w))

module _ (l : Layer) (layers : List Layer) (some : 0 < span_of l.tree) (s : IsSound (heads_of (rows_on layers)) (newest_of (rows_on layers)) (cells_on layers)) where
  abbrev n : ℕ
  n = length layers

  abbrev heads : List Head
  heads = heads_of (rows_on layers)

  abbrev head : Head
  head = head_over (l ∷ layers)

  abbrev more : List Head
  more = heads ++ head ∷ []

  many : length heads ≡ suc n
  many = length-map (rows_on layers) (λ (r : Row). r.head) ∙ rows_many layers

  slots : length (newest_of (rows_on layers)) ≡ suc n
  slots = length-map (rows_on layers) (λ (r : Row). r.newest) ∙ rows_many layers

  opened : IsSound more (newest_of (rows_on layers) ++ None ∷ []) (cells_on layers)
  opened = sound_open heads (newest_of (rows_on layers)) (newest_of (rows_on layers) ++ None ∷ []) (cells_on layers) s head more refl refl

  long : length more ≡ suc (suc n)
  long = let a = length-append heads (head ∷ []) in let m = many in omega (arith, a, m)

  place_of : (hs : List Head) (h : ℕ) (x : Head) → slice_get hs h ≡ Some x → place_at hs h ≡ x.place
  place_of hs h x at = ap (λ (o : Option Head). option_map_or (λ (y : Head). y.place) o 0) at

  low_at : slice_get more n ≡ Some (head_over layers)
  low_at =
      in_prefix heads (head ∷ []) n (let m = many in omega (arith, m))
      ∙ subst (λ (hs : List Head). slice_get hs n ≡ Some (head_over layers)) (sym (rows_heads layers)) (head_last layers)

  high_at : slice_get more (suc n) ≡ Some head
  high_at = subst (λ (m : ℕ). slice_get more m ≡ Some head) many (last_at heads head)

  falls : place_at more n < place_at more (suc n)
  falls =
      let a = place_of more n (head_over layers) low_at in
      let b = place_of more (suc n) head high_at in
      omega (arith, a, b, some)

  none : HasNone (links_of (cells_on layers)) (suc n) n
  none k b =
      let w = s.each_once.above_there k b.link b.at in
      let m = many in
      let e = b.above_is in
      omega (arith, w, m, e)

  begin : links_from (links_of (cells_on layers)) (suc n) None ≡ links_down (links_of (cells_on layers)) (suc n)
  begin = sym (none_past heads (newest_of (rows_on layers)) (cells_on layers) s (suc n) (let m = many in omega (arith, m)))

  pub stack_more : IsSound (heads_of (rows_on (l ∷ layers))) (newest_of (rows_on (l ∷ layers))) (cells_on (l ∷ layers))
  stack_more =
      let row = row_with head (Some n) in
      let up : suc n < length more = (let g = long in omega (arith, g)) in
      let down : n < length more = (let g = long in omega (arith, g)) in
      let p = sound_push more (newest_of (rows_on layers) ++ None ∷ []) (cells_on layers) (cell_over l n) opened up down falls none begin in
      let spots : newest_of (rows_on layers ++ row ∷ []) ≡ set (newest_of (rows_on layers) ++ None ∷ []) (suc n) (Some (length (cells_on layers))) =
      newest_pushed (rows_on layers) row
      ∙ sym (set_last (newest_of (rows_on layers)) None (Some n) (suc n) (sym slots))
      ∙ ap (λ (m : ℕ). set (newest_of (rows_on layers) ++ None ∷ []) (suc n) (Some m)) (sym (cells_many layers)) in
      subst (λ (hs : List Head). IsSound hs (newest_of (rows_on layers ++ row ∷ [])) (cells_on layers ++ cell_over l n ∷ [])) (sym (heads_pushed (rows_on layers) row))
      (subst (λ (ns : List (Option ℕ)). IsSound more ns (cells_on layers ++ cell_over l n ∷ [])) (sym spots) p)

pub stack_sound : (layers : List Layer) → HaveBytes (trees_on layers) → IsSound (heads_of (rows_on layers)) (newest_of (rows_on layers)) (cells_on layers)
stack_sound [] bytes = sound_first
stack_sound (l ∷ layers) bytes = stack_more l layers bytes.0 (stack_sound layers bytes.1)

pub stack_kept : (layers : List Layer) → IsKept (heads_of (rows_on layers)) (length layers) (cells_on layers) false
stack_kept layers = record {
  bounded = λ k c at j d there same low. let z = cells_zero layers k c at in omega (arith, z);
  filled = λ none k c own at. absurd (let w = slice_get_within (cells_on layers) k c at in let m = cells_many layers in omega (arith, w, m, own));
}

-- ---- by their numbers

pub stack_long : (stacks : List (List Layer)) (top : ℕ) → LieInOne stacks top → (k : ℕ) → k ≤ top → length (stack_at stacks k) ≡ k
stack_long stacks top lie zero low = ap (λ (ls : List Layer). length ls) lie.lowest
stack_long stacks top lie (suc k) low =
    let w = lie.each k (omega (arith, low)) in
    ap (λ (ls : List Layer). length ls) w.1 ∙ ap (λ (n : ℕ). suc n) (stack_long stacks top lie k (omega (arith, low)))

at_or_below : (k n : ℕ) → k ≤ suc n → (k ≡ suc n) ⊎ (k ≤ n)
at_or_below zero n lt = inr (omega arith)
at_or_below (suc zero) zero lt = inl refl
at_or_below (suc (suc k)) zero lt = absurd (omega (arith, lt))
at_or_below (suc k) (suc n) lt = ⊎_elim (λ is. inl (ap (λ (m : ℕ). suc m) is)) (λ less. inr (omega (arith, less))) (at_or_below k n (omega (arith, lt)))

module _ (stacks : List (List Layer)) (top : ℕ) (lie : LieInOne stacks top) where
  -- a head of the stack is that of one of the stacks below it
  head_by : (high : ℕ) → high ≤ top → (k : ℕ) → k ≤ high → slice_get (heads_on (stack_at stacks high)) k ≡ Some (head_over (stack_at stacks k))
  head_by zero within zero low =
      subst (λ (ls : List Layer). slice_get (heads_on ls) 0 ≡ Some (head_over ls)) (sym lie.lowest) refl
  head_by zero within (suc k) low = absurd (omega (arith, low))
  head_by (suc high) within k low = by (λ less. head_by high (omega (arith, within)) k less) (at_or_below k high low)
    where
      w : (l : Layer) × (stack_at stacks (suc high) ≡ l ∷ stack_at stacks high)
      w = lie.each high (omega (arith, within))

      many : length (heads_on (stack_at stacks high)) ≡ suc high
      many = heads_many (stack_at stacks high) ∙ ap (λ (n : ℕ). suc n) (stack_long stacks top lie high (omega (arith, within)))

      by : (k ≤ high → slice_get (heads_on (stack_at stacks high)) k ≡ Some (head_over (stack_at stacks k))) → (k ≡ suc high) ⊎ (k ≤ high)
          → slice_get (heads_on (stack_at stacks (suc high))) k ≡ Some (head_over (stack_at stacks k))
      by below (inl is) =
          subst (λ (m : ℕ). slice_get (heads_on (stack_at stacks (suc high))) m ≡ Some (head_over (stack_at stacks m))) (sym is)
          (subst (λ (ls : List Layer). slice_get (heads_on ls) (suc high) ≡ Some (head_over ls)) (sym w.1)
          (subst (λ (m : ℕ). slice_get (heads_on (w.0 ∷ stack_at stacks high)) m ≡ Some (head_over (w.0 ∷ stack_at stacks high))) many
          (last_at (heads_on (stack_at stacks high)) (head_over (w.0 ∷ stack_at stacks high)))))
      by below (inr less) =
          ap (λ (ls : List Layer). slice_get (heads_on ls) k) w.1
          ∙ in_prefix (heads_on (stack_at stacks high)) (head_over (w.0 ∷ stack_at stacks high) ∷ []) k (let m = many in omega (arith, m, less))
          ∙ below less

  pub stack_head : (k : ℕ) → k ≤ top → slice_get (heads_on (stack_at stacks top)) k ≡ Some (head_over (stack_at stacks k))
  stack_head k low = head_by top (omega arith) k low

  -- and a cell of it is that of the top of one
  cell_by : (high : ℕ) → high ≤ top → (k : ℕ) (l : Layer) → k < high → stack_at stacks (suc k) ≡ l ∷ stack_at stacks k → slice_get (cells_on (stack_at stacks high)) k ≡ Some (cell_over l k)
  cell_by zero within k l low is = absurd (omega (arith, low))
  cell_by (suc high) within k l low is = by (λ less. cell_by high (omega (arith, within)) k l less is) (at_or_below (suc k) high (omega (arith, low)))
    where
      w : (m : Layer) × (stack_at stacks (suc high) ≡ m ∷ stack_at stacks high)
      w = lie.each high (omega (arith, within))

      deep : length (stack_at stacks high) ≡ high
      deep = stack_long stacks top lie high (omega (arith, within))

      many : length (cells_on (stack_at stacks high)) ≡ high
      many = cells_many (stack_at stacks high) ∙ deep

      last_is : k ≡ high → cell_over w.0 (length (stack_at stacks high)) ≡ cell_over l k
      last_is same =
          let e : l ∷ stack_at stacks k ≡ w.0 ∷ stack_at stacks k =
          sym is ∙ subst (λ (m : ℕ). stack_at stacks (suc m) ≡ w.0 ∷ stack_at stacks m) (sym same) w.1 in
          let f : l ≡ w.0 = cc in
          ap (λ (x : Layer). cell_over x (length (stack_at stacks high))) (sym f) ∙ ap (λ (m : ℕ). cell_over l m) (deep ∙ sym same)

      by : (k < high → slice_get (cells_on (stack_at stacks high)) k ≡ Some (cell_over l k)) → (suc k ≡ suc high) ⊎ (suc k ≤ high)
          → slice_get (cells_on (stack_at stacks (suc high))) k ≡ Some (cell_over l k)
      by below (inl e) =
          let same : k ≡ high = omega (arith, e) in
          ap (λ (ls : List Layer). slice_get (cells_on ls) k) w.1
          ∙ ap (λ (m : ℕ). slice_get (cells_on (stack_at stacks high) ++ cell_over w.0 (length (stack_at stacks high)) ∷ []) m) (same ∙ sym many)
          ∙ at_end (cells_on (stack_at stacks high)) (cell_over w.0 (length (stack_at stacks high)))
          ∙ ap (λ (c : Cell). Some c) (last_is same)
      by below (inr less) =
          ap (λ (ls : List Layer). slice_get (cells_on ls) k) w.1
          ∙ in_prefix (cells_on (stack_at stacks high)) (cell_over w.0 (length (stack_at stacks high)) ∷ []) k (let m = many in omega (arith, m, less))
          ∙ below (omega (arith, less))

  pub stack_cell : (k : ℕ) (l : Layer) → k < top → stack_at stacks (suc k) ≡ l ∷ stack_at stacks k → slice_get (cells_on (stack_at stacks top)) k ≡ Some (cell_over l k)
  stack_cell k l low is = cell_by top (omega arith) k l low is

-- ---- one stack above another

-- a head of a state at a place
abbrev pub head_with : ℕ → ℕ → Head
head_with state place = record { state = state; place = place }

pub one_some : (stacks : List (List Layer)) (top : ℕ) → IsOneStack stacks top → (at : ℕ) → 0 < at → at ≤ top → 0 < length (stack_at stacks at)
one_some stacks top one zero some low = absurd (omega (arith, some))
one_some stacks top one (suc k) some low = let w = one.lie.each k (omega (arith, low)) in let n = ap (λ (ls : List Layer). length ls) w.1 in omega (arith, n)

pub one_below : (stacks : List (List Layer)) (top : ℕ) → IsOneStack stacks top → (at : ℕ) → 0 < at → at ≤ top → stack_at stacks (at - 1) ≡ under_top (stack_at stacks at)
one_below stacks top one zero some low = absurd (omega (arith, some))
one_below stacks top one (suc k) some low =
    let w = one.lie.each k (omega (arith, low)) in
    let less : suc k - 1 ≡ k = omega arith in
    ap (λ (n : ℕ). stack_at stacks n) less ∙ sym (ap under_top w.1)

-- ---- with others past them

pub no_more : (n : ℕ) → 0 + n ≡ n
no_more n = omega arith

pub one_more_sum : (m n : ℕ) → suc m + n ≡ suc (m + n)
one_more_sum m n = omega arith

pub in_suffix : {X : Type 0} (xs ys : List X) (i : ℕ) → slice_get (xs ++ ys) (length xs + i) ≡ slice_get ys i
in_suffix [] ys i = ap (λ (n : ℕ). slice_get ys n) (no_more i)
in_suffix (x ∷ xs) ys i = ap (λ (n : ℕ). slice_get (x ∷ (xs ++ ys)) n) (one_more_sum (length xs) i) ∙ in_suffix xs ys i

-- one that stands no lower than so many is one of the second list
past_prefix : {X : Type 0} (xs ys : List X) (k : ℕ) (y : X) → length xs ≤ k → slice_get (xs ++ ys) k ≡ Some y → (i : ℕ) × (k ≡ length xs + i) × (slice_get ys i ≡ Some y)
past_prefix [] ys k y past at = (k, sym (no_more k), at)
past_prefix (x ∷ xs) ys zero y past at = absurd (omega (arith, past))
past_prefix (x ∷ xs) ys (suc k) y past at =
    let r = past_prefix xs ys k y (omega (arith, past)) at in
    (r.0, ap (λ (n : ℕ). suc n) r.1 ∙ sym (one_more_sum (length xs) r.0), r.2)

pub set_suffix : {X : Type 0} (xs ys : List X) (i : ℕ) (v : X) → set (xs ++ ys) (length xs + i) v ≡ xs ++ set ys i v
set_suffix [] ys i v = ap (λ (n : ℕ). set ys n v) (no_more i)
set_suffix {X = X} (x ∷ xs) ys i v =
    ap (λ (n : ℕ). set (x ∷ (xs ++ ys)) n v) (one_more_sum (length xs) i) ∙ ap (λ (zs : List X). x ∷ zs) (set_suffix xs ys i v)

module _ (stacks : List (List Layer)) (base place : ℕ) (cells : List Cell) (under : LiesUnder stacks base place cells) (rows : List Row) where
  abbrev layers : List Layer
  layers = stack_at stacks base

  pub deep : length layers ≡ base
  deep = stack_long stacks base under.one.lie base (omega arith)

  pub rows_base : length (rows_on layers) ≡ suc base
  rows_base = rows_many layers ∙ ap (λ (n : ℕ). suc n) deep

  pub cells_base : length (cells_on layers) ≡ base
  cells_base = cells_many layers ∙ deep

  -- a row past those of the stack, and a cell
  pub row_at : (i : ℕ) (row : Row) → slice_get rows i ≡ Some row → slice_get (rows_over layers rows) (suc base + i) ≡ Some row
  row_at i row at =
      ap (λ (n : ℕ). slice_get (rows_over layers rows) (n + i)) (sym rows_base) ∙ in_suffix (rows_on layers) rows i ∙ at

  pub cell_at : (i : ℕ) (c : Cell) → slice_get cells i ≡ Some c → slice_get (cells_over layers cells) (base + i) ≡ Some c
  cell_at i c at =
      ap (λ (n : ℕ). slice_get (cells_over layers cells) (n + i)) (sym cells_base) ∙ in_suffix (cells_on layers) cells i ∙ at

  -- a head of the stack, and a cell of it
  pub low_head : (k : ℕ) → k ≤ base → slice_get (heads_of (rows_over layers rows)) k ≡ Some (head_over (stack_at stacks k))
  low_head k low =
      ap (λ (hs : List Head). slice_get hs k) (map-append (λ (r : Row). r.head) (rows_on layers) rows)
      ∙ in_prefix (heads_of (rows_on layers)) (heads_of rows) k
      (let m = length-map (rows_on layers) (λ (r : Row). r.head) in let n = rows_base in omega (arith, m, n, low))
      ∙ ap (λ (hs : List Head). slice_get hs k) (rows_heads layers)
      ∙ stack_head stacks base under.one.lie k low

  pub low_cell : (k : ℕ) (l : Layer) → k < base → stack_at stacks (suc k) ≡ l ∷ stack_at stacks k → slice_get (cells_over layers cells) k ≡ Some (cell_over l k)
  low_cell k l low is =
      in_prefix (cells_on layers) cells k (let n = cells_base in omega (arith, n, low))
      ∙ stack_cell stacks base under.one.lie k l low is

  -- what contracts see lies over the stack
  pub lies_over : (g : GraphView) → graph_of (heads_of (rows_over layers rows)) (links_of (cells_over layers cells)) base ≡ g → LiesOver g
  lies_over g view = subst (λ (x : GraphView). LiesOver x) view record {
    there =
        let m = length-map (rows_over layers rows) (λ (r : Row). r.head) in
        let n = length-append (rows_on layers) rows in
        let b = rows_base in
        omega (arith, m, n, b);
    lower = λ k low.
        let w = under.one.lie.each k low in
        (link_of (cell_over w.0 k), at_mapped link_of (cells_over layers cells) k (cell_over w.0 k) (low_cell k w.0 low w.1), refl, refl);
    own = λ k l at past.
        let d = mapped_at link_of (cells_over layers cells) k l at in
        let r = past_prefix (cells_on layers) cells k d.0 (let n = cells_base in omega (arith, n, past)) d.1 in
        subst (λ (m : Link). base < m.above) d.2 (under.own r.0 d.0 r.2);
  }

  -- its layers are those of the only way down from one of its heads
  module _ (g : GraphView) (view : graph_of (heads_of (rows_over layers rows)) (links_of (cells_over layers cells)) base ≡ g) where
    lower_is : (k : ℕ) → k < base → (l : Link) → slice_get g.links k ≡ Some l → (m : Layer) × (stack_at stacks (suc k) ≡ m ∷ stack_at stacks k) × (l ≡ link_of (cell_over m k))
    lower_is k low l at =
        let w = under.one.lie.each k low in
        let here : slice_get g.links k ≡ Some (link_of (cell_over w.0 k)) =
        subst (λ (x : GraphView). slice_get x.links k ≡ Some (link_of (cell_over w.0 k))) view (at_mapped link_of (cells_over layers cells) k (cell_over w.0 k) (low_cell k w.0 low w.1)) in
        let both : Some l ≡ Some (link_of (cell_over w.0 k)) = sym at ∙ here in
        let same : l ≡ link_of (cell_over w.0 k) = cc in
        (w.0, w.1, same)

    state_low : (k : ℕ) → k ≤ base → state_at g.heads k ≡ state_on (stack_at stacks k)
    state_low k low =
        ap (λ (o : Option Head). option_map_or (λ (x : Head). x.state) o 0)
        (subst (λ (x : GraphView). slice_get x.heads k ≡ Some (head_over (stack_at stacks k))) view (low_head k low))

    -- the number of a link down from a head of the stack
    number_low : (j h : ℕ) (l : Link) → slice_get g.links j ≡ Some l → l.above ≡ h → h ≤ base → j < base
    number_low j h l at above low = by (nat_lt j base) refl
      where
        by : (b : Bool) → nat_lt j base ≡ b → j < base
        by true e = ltb-true j base e
        by false e =
            absurd (let past = ltb-false j base e in
            let base_is : g.base ≡ base = sym (ap (λ (x : GraphView). x.base) view) in
            let own = (lies_over g view).own j l at (omega (arith, past, base_is)) in
            omega (arith, own, above, low, base_is))

    pub way_on : (way : List Link) (h : ℕ) → h ≤ base → IsWay g.links h way 0 → stack_at stacks h ≡ layers_of g.heads way
    way_on [] h low is = ap (λ (n : ℕ). stack_at stacks n) is ∙ under.one.lie.lowest
    way_on (l ∷ way) h low is =
        let n = at_has g.links l (has_contained g.links l is.0) in
        let less : n.0 < base = number_low n.0 h l n.1 is.1 low in
        let w = lower_is n.0 less l n.1 in
        let up : suc n.0 ≡ h = sym (ap (λ (x : Link). x.above) w.2) ∙ is.1 in
        let down : l.below ≡ n.0 = ap (λ (x : Link). x.below) w.2 in
        let rest : stack_at stacks n.0 ≡ layers_of g.heads way = way_on way n.0 (omega (arith, less)) (subst (λ (m : ℕ). IsWay g.links m way 0) down is.2) in
        let state : state_at g.heads (suc n.0) ≡ w.0.state = state_low (suc n.0) (omega (arith, less)) ∙ ap (λ (ls : List Layer). state_on ls) w.1 in
        let layer : layer_of_link g.heads l ≡ w.0 =
        ap (λ (x : Link). layer_of_link g.heads x) w.2 ∙ ap (λ (s : ℕ). packed_layer w.0.tree s w.0.depth) state in
        ap (λ (m : ℕ). stack_at stacks m) (sym up)
        ∙ w.1
        ∙ ap (λ (ls : List Layer). w.0 ∷ ls) rest
        ∙ ap (λ (x : Layer). x ∷ layers_of g.heads way) (sym layer)
