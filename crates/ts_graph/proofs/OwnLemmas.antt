-- Heads and links past those of the stack, as they are kept, and as contracts see them.
use Rattle.std.proofs.Common.{◌-◌, ◌≡◌, ◌∙◌, sym, ap, refl, subst, ℕ, zero, suc, ◌+◌, ◌<◌, ◌≤◌, ◌⊎◌, inl, inr, Bool, true, false, true≢false, List, [], ◌∷◌, ◌++◌, append_assoc, length, length-append, take, set, get_or, slice_get, Option, Some, None, nat_eq, nat_lt, arith}
use Rattle.std.proofs.lemmas.Bool.{eq-eqb, eqb-true, ltb-true, ltb-false}
use Rattle.std.proofs.lemmas.List.{length-map, map-append}
use Rattle.std.proofs.lemmas.Option.{slice_get_read, slice_get_within}
use Rattle.spec_trees.specs.declared.tree.Tree.{Tree}
use Rattle.ts_base.proofs.PlaceLemmas.{set_here, set_there, in_prefix, at_end, push_cases}
use Rattle.spec_graph.specs.declared.graph.Head.{Head}
use Rattle.spec_graph.specs.declared.graph.Link.{Link}
use Rattle.ts_gss.specs.declared.layer.Layer.{Layer}
use Rattle.ts_gss.specs.Stacks.{stack_at, tree_on, depth_on}
use Rattle.ts_graph.specs.declared.graph.Row.{Row}
use Rattle.ts_graph.specs.declared.graph.Cell.{Cell}
use Rattle.ts_graph.specs.declared.view.GraphView.{GraphView}
use Rattle.ts_graph.specs.Bounds.{IsBound, AllPast}
use Rattle.ts_graph.specs.Down.{links_down, links_from}
use Rattle.ts_graph.specs.Cells.{heads_of, newest_of, link_of, links_of, graph_of, IsSound, IsKept, IsCellOf}
use Rattle.ts_graph.specs.Under.{LiesUnder, LiesOver, head_over, row_with, rows_on, rows_over, cell_over, cells_on, cells_over}
use Rattle.ts_graph.proofs.ListLemmas.{at_mapped}
use Rattle.ts_graph.proofs.HeadLemmas.{newest_pushed, row_head, row_newest}
use Rattle.ts_graph.proofs.KeptLemmas.{cell_bound, all_plain, past_all}
use Rattle.ts_graph.proofs.UnderLemmas.{no_more, one_more_sum, set_suffix, rows_many, rows_base, cells_base, deep, row_at, cell_at, low_cell, lies_over}

get_suffix : {X : Type 0} (xs ys : List X) (i : ℕ) (d : X) → get_or (xs ++ ys) (length xs + i) d ≡ get_or ys i d
get_suffix [] ys i d = ap (λ (n : ℕ). get_or ys n d) (no_more i)
get_suffix (x ∷ xs) ys i d = ap (λ (n : ℕ). get_or (x ∷ (xs ++ ys)) n d) (one_more_sum (length xs) i) ∙ get_suffix xs ys i d

-- the number before one, if there is one
abbrev before : ℕ → Option ℕ
before zero = None
before (suc k) = Some k

-- the newest link of a head of the stack is that of the number before
newest_by : (ls : List Layer) (h : ℕ) → h ≤ length ls → slice_get (newest_of (rows_on ls)) h ≡ Some (before h)
newest_by [] zero low = refl
newest_by [] (suc h) low = absurd (omega (arith, low))
newest_by (l ∷ ls) h low =
    ap (λ (ns : List (Option ℕ)). slice_get ns h) (newest_pushed (rows_on ls) (row_with (head_over (l ∷ ls)) (Some (length ls)))) ∙ by (λ less. newest_by ls h less) (nat_lt h (suc (length ls))) refl
  where
    many : length (newest_of (rows_on ls)) ≡ suc (length ls)
    many = length-map (rows_on ls) (λ (r : Row). r.newest) ∙ rows_many ls

    by : (h ≤ length ls → slice_get (newest_of (rows_on ls)) h ≡ Some (before h)) → (b : Bool) → nat_lt h (suc (length ls)) ≡ b
        → slice_get (newest_of (rows_on ls) ++ Some (length ls) ∷ []) h ≡ Some (before h)
    by below true e =
        let less = ltb-true h (suc (length ls)) e in
        in_prefix (newest_of (rows_on ls)) (Some (length ls) ∷ []) h (let m = many in omega (arith, m, less)) ∙ below (omega (arith, less))
    by below false e =
        let past = ltb-false h (suc (length ls)) e in
        let last : h ≡ suc (length ls) = omega (arith, past, low) in
        ap (λ (n : ℕ). slice_get (newest_of (rows_on ls) ++ Some (length ls) ∷ []) n) (last ∙ sym many)
        ∙ at_end (newest_of (rows_on ls)) (Some (length ls))
        ∙ ap (λ (n : ℕ). Some (before n)) (sym last)

pub one_link : (links : List Link) (k : ℕ) (a b : Link) → slice_get links k ≡ Some a → slice_get links k ≡ Some b → a ≡ b
one_link links k a b x y = let e : Some a ≡ Some b = sym x ∙ y in cc

-- ---- rows past those of the stack that change

pub row_pushed : (layers : List Layer) (rows : List Row) (row : Row) (new : List Row) → new ≡ rows ++ row ∷ [] → rows_over layers new ≡ rows_over layers rows ++ row ∷ []
row_pushed layers rows row new is = ap (λ (rs : List Row). rows_on layers ++ rs) is ∙ sym (append_assoc (rows_on layers) rows (row ∷ []))

pub cell_pushed : (layers : List Layer) (cells : List Cell) (c : Cell) (new : List Cell) → new ≡ cells ++ c ∷ [] → cells_over layers new ≡ cells_over layers cells ++ c ∷ []
cell_pushed layers cells c new is = ap (λ (cs : List Cell). cells_on layers ++ cs) is ∙ sym (append_assoc (cells_on layers) cells (c ∷ []))

pub over_heads : (layers : List Layer) (rows new : List Row) → heads_of new ≡ heads_of rows → heads_of (rows_over layers new) ≡ heads_of (rows_over layers rows)
over_heads layers rows new is =
    map-append (λ (r : Row). r.head) (rows_on layers) new
    ∙ ap (λ (hs : List Head). heads_of (rows_on layers) ++ hs) is
    ∙ sym (map-append (λ (r : Row). r.head) (rows_on layers) rows)

pub over_newest : (layers : List Layer) (rows new : List Row) → newest_of new ≡ newest_of rows → newest_of (rows_over layers new) ≡ newest_of (rows_over layers rows)
over_newest layers rows new is =
    map-append (λ (r : Row). r.newest) (rows_on layers) new
    ∙ ap (λ (ns : List (Option ℕ)). newest_of (rows_on layers) ++ ns) is
    ∙ sym (map-append (λ (r : Row). r.newest) (rows_on layers) rows)

module _ (stacks : List (List Layer)) (base place : ℕ) (cells : List Cell) (under : LiesUnder stacks base place cells) (rows : List Row) where
  abbrev layers : List Layer
  layers = stack_at stacks base

  -- ---- what is put in the place of a row or of a cell

  pub row_set : (i : ℕ) (row : Row) → set (rows_over layers rows) (suc base + i) row ≡ rows_over layers (set rows i row)
  row_set i row =
      ap (λ (n : ℕ). set (rows_over layers rows) (n + i) row) (sym (rows_base stacks base place cells under rows)) ∙ set_suffix (rows_on layers) rows i row

  pub row_get : (i : ℕ) (d : Row) → get_or (rows_over layers rows) (suc base + i) d ≡ get_or rows i d
  row_get i d =
      ap (λ (n : ℕ). get_or (rows_over layers rows) (n + i) d) (sym (rows_base stacks base place cells under rows)) ∙ get_suffix (rows_on layers) rows i d

  pub cell_set : (i : ℕ) (c : Cell) → set (cells_over layers cells) (base + i) c ≡ cells_over layers (set cells i c)
  cell_set i c =
      ap (λ (n : ℕ). set (cells_over layers cells) (n + i) c) (sym (cells_base stacks base place cells under rows)) ∙ set_suffix (cells_on layers) cells i c

  -- ---- the stack below stays

  pub under_pushed : (c : Cell) (new : List Cell) → new ≡ cells ++ c ∷ [] → base < c.above → LiesUnder stacks base place new
  under_pushed c new is above = record {
    one = under.one;
    spans = under.spans;
    bytes = under.bytes;
    few = under.few;
    own = λ k d at. by k d (push_cases cells c k d (subst (λ (cs : List Cell). slice_get cs k ≡ Some d) is at));
  }
    where
      by : (k : ℕ) (d : Cell) → ((k < length cells) × (slice_get cells k ≡ Some d)) ⊎ ((k ≡ length cells) × (c ≡ d)) → base < d.above
      by k d (inl w) = under.own k d w.1
      by k d (inr w) = subst (λ (x : Cell). base < x.above) w.1 above

  pub under_set : (i : ℕ) (c d : Cell) → slice_get cells i ≡ Some c → d.above ≡ c.above → LiesUnder stacks base place (set cells i d)
  under_set i c d at same = record {
    one = under.one;
    spans = under.spans;
    bytes = under.bytes;
    few = under.few;
    own = λ k x is. by k x is (nat_eq k i) refl;
  }
    where
      by : (k : ℕ) (x : Cell) → slice_get (set cells i d) k ≡ Some x → (b : Bool) → nat_eq k i ≡ b → base < x.above
      by k x is true e =
          let here = subst (λ (n : ℕ). slice_get (set cells i d) n ≡ Some d) (sym (eqb-true k i e)) (set_here cells i d (slice_get_within cells i c at)) in
          let both : Some d ≡ Some x = sym here ∙ is in
          let one : d ≡ x = cc in
          let own = under.own i c at in
          let up = ap (λ (y : Cell). y.above) one in
          omega (arith, own, same, up)
      by k x is false e = under.own k x (sym (set_there cells i k d (λ f. true≢false (sym (eq-eqb k i f) ∙ e))) ∙ is)

  -- ---- as contracts see it

  module _ (g : GraphView) (view : graph_of (heads_of (rows_over layers rows)) (links_of (cells_over layers cells)) base ≡ g) where
    base_is : g.base ≡ base
    base_is = sym (ap (λ (x : GraphView). x.base) view)

    pub heads_all : length g.heads ≡ suc base + length rows
    heads_all =
        let m = length-map (rows_over layers rows) (λ (r : Row). r.head) in
        let n = length-append (rows_on layers) rows in
        let b = rows_base stacks base place cells under rows in
        let v = ap (λ (x : GraphView). length x.heads) view in
        omega (arith, m, n, b, v)

    pub links_all : length g.links ≡ base + length cells
    links_all =
        let m = length-map (cells_over layers cells) link_of in
        let n = length-append (cells_on layers) cells in
        let b = cells_base stacks base place cells under rows in
        let v = ap (λ (x : GraphView). length x.links) view in
        omega (arith, m, n, b, v)

    -- a head that has a row
    module _ (s : IsSound (heads_of (rows_over layers rows)) (newest_of (rows_over layers rows)) (cells_over layers cells)) (number i : ℕ) (row : Row) (number_is : number ≡ suc base + i) (low : i < length rows) (read : row ≡ get_or rows i row) where
      at : slice_get (rows_over layers rows) number ≡ Some row
      at = subst (λ (n : ℕ). slice_get (rows_over layers rows) n ≡ Some row) (sym number_is)
          (row_at stacks base place cells under rows i row (slice_get_read rows (length rows) i row refl low read))

      pub own_row : (g.base < number) × (slice_get g.heads number ≡ Some row.head) × (links_from g.links number row.newest ≡ links_down g.links number)
      own_row = (
        let b = base_is in omega (arith, b, number_is),
        row_head (rows_over layers rows) (links_of (cells_over layers cells)) g view number row at,
        row_newest (rows_over layers rows) (cells_over layers cells) s g view number row at,
      )

    -- a link that has a cell
    module _ (s : IsSound (heads_of (rows_over layers rows)) (newest_of (rows_over layers rows)) (cells_over layers cells)) (extras : Bool) (kept : IsKept (heads_of (rows_over layers rows)) base (cells_over layers cells) extras) (link i : ℕ) (c : Cell)
        (link_is : link ≡ base + i) (low : i < length cells) (read : c ≡ get_or cells i c) where
      pub own_cell : slice_get (cells_over layers cells) link ≡ Some c
      own_cell = subst (λ (n : ℕ). slice_get (cells_over layers cells) n ≡ Some c) (sym link_is)
          (cell_at stacks base place cells under rows i c (slice_get_read cells (length cells) i c refl low read))

      pub is_cell : IsCellOf g link c
      is_cell = record {
        own = let b = base_is in omega (arith, b, link_is);
        link = subst (λ (x : GraphView). slice_get x.links link ≡ Some (link_of c)) view (at_mapped link_of (cells_over layers cells) link c own_cell);
        earlier = subst (λ (x : GraphView). links_from x.links c.above c.earlier ≡ links_down (take link x.links) c.above) view (s.chained link c own_cell);
        lowest = cell_bound (heads_of (rows_over layers rows)) (cells_over layers cells) extras kept g view link c own_cell;
      }

    -- a head and a link of the stack
    pub low_first : IsSound (heads_of (rows_over layers rows)) (newest_of (rows_over layers rows)) (cells_over layers cells) → (h : ℕ) → h ≤ base → (o : Option ℕ) → slice_get (newest_of (rows_on layers)) h ≡ Some o → links_from g.links h o ≡ links_down g.links h
    low_first s h low o at =
        subst (λ (x : GraphView). links_from x.links h o ≡ links_down x.links h) view
        (s.begins h o
        (ap (λ (ns : List (Option ℕ)). slice_get ns h) (map-append (λ (r : Row). r.newest) (rows_on layers) rows)
        ∙ in_prefix (newest_of (rows_on layers)) (newest_of rows) h
        (let m = length-map (rows_on layers) (λ (r : Row). r.newest) in let b = rows_base stacks base place cells under rows in omega (arith, m, b, low))
        ∙ at))

    pub low_link : (k : ℕ) → k < base → (m : Layer) × (stack_at stacks (suc k) ≡ m ∷ stack_at stacks k) × (slice_get (cells_over layers cells) k ≡ Some (cell_over m k)) × (slice_get g.links k ≡ Some (link_of (cell_over m k)))
    low_link k low =
        let w = under.one.lie.each k low in
        let c = low_cell stacks base place cells under rows k w.0 low w.1 in
        (w.0, w.1, c, subst (λ (x : GraphView). slice_get x.links k ≡ Some (link_of (cell_over w.0 k))) view (at_mapped link_of (cells_over layers cells) k (cell_over w.0 k) c))

    pub low_next : IsSound (heads_of (rows_over layers rows)) (newest_of (rows_over layers rows)) (cells_over layers cells) → (k : ℕ) → k < base → (l : Link) → slice_get g.links k ≡ Some l → links_from g.links l.above None ≡ links_down (take k g.links) l.above
    low_next s k low l at =
        let w = low_link k low in
        let both : Some l ≡ Some (link_of (cell_over w.0 k)) = sym at ∙ w.3 in
        let same : link_of (cell_over w.0 k) ≡ l = cc in
        subst (λ (m : Link). links_from g.links m.above None ≡ links_down (take k g.links) m.above) same
        (subst (λ (x : GraphView). links_from x.links (suc k) None ≡ links_down (take k x.links) (suc k)) view (s.chained k (cell_over w.0 k) w.2))

    -- where all links down from a head lead past a place, no tree of which is an extra
    pub all_past_own : (extras : Bool) → IsKept (heads_of (rows_over layers rows)) base (cells_over layers cells) extras → extras ≡ false → (at wanting link low : ℕ) (l : Link) → slice_get g.links link ≡ Some l → IsBound g.heads g.links link l.above low → at < low → wanting ≡ 1 → (link < g.base → low ≡ 0)
        → AllPast g.heads g.links at wanting link
    all_past_own extras kept none at wanting link low l is bound past one own =
        past_all g.heads g.links at wanting link low l is bound past one (λ j m there same. all_plain (heads_of (rows_over layers rows)) (cells_over layers cells) extras kept g view none j m (past_base j m there same (nat_lt j g.base) refl) there)
      where
        lies : LiesOver g
        lies = lies_over stacks base place cells under rows g view

        link_own : (b : Bool) → nat_lt link g.base ≡ b → g.base < l.above
        link_own true e = absurd (let z = own (ltb-true link g.base e) in omega (arith, z, past))
        link_own false e = lies.own link l is (ltb-false link g.base e)

        past_base : (j : ℕ) (m : Link) → slice_get g.links j ≡ Some m → m.above ≡ l.above → (b : Bool) → nat_lt j g.base ≡ b → g.base ≤ j
        past_base j m there same false e = ltb-false j g.base e
        past_base j m there same true e =
            let less : j < g.base = ltb-true j g.base e in
            let w = lies.lower j less in
            let both : Some m ≡ Some w.0 = sym there ∙ w.1 in
            let one : m ≡ w.0 = cc in
            let up = ap (λ (x : Link). x.above) one in
            let here = w.2 in
            let high = link_own (nat_lt link g.base) refl in
            absurd (omega (arith, up, here, same, high, less))

    -- the same of a number that contracts tell to be below the base
    pub low_base : (k : ℕ) → k < g.base → k < base
    low_base k low = let b = base_is in omega (arith, b, low)

    pub low_is : (k : ℕ) (low : k < g.base) (l : Link) → slice_get g.links k ≡ Some l → l ≡ link_of (cell_over (low_link k (low_base k low)).0 k)
    low_is k low l at =
        let w = low_link k (low_base k low) in
        let both : Some l ≡ Some (link_of (cell_over w.0 k)) = sym at ∙ w.3 in
        cc

    pub low_there : (k : ℕ) → k < g.base → k + 1 < length stacks
    low_there k low = let b = low_base k low in let n = under.one.count in omega (arith, b, n)

    -- the stack of a number above another is not empty
    low_top : (k : ℕ) (low : k < g.base) → (m : Layer) × (stack_at stacks (k + 1) ≡ m ∷ stack_at stacks k) × (m ≡ (low_link k (low_base k low)).0)
    low_top k low =
        let w = low_link k (low_base k low) in
        (w.0, subst (λ (n : ℕ). stack_at stacks n ≡ w.0 ∷ stack_at stacks k) (let e : suc k ≡ k + 1 = omega arith in e) w.1, refl)

    pub low_some : (k : ℕ) → k < g.base → 0 < length (stack_at stacks (k + 1))
    low_some k low = let w = low_top k low in let n = ap (λ (ls : List Layer). length ls) w.1 in omega (arith, n)

    pub low_tree : (k : ℕ) → k < g.base → (node : Tree) → Some node ≡ tree_on (stack_at stacks (k + 1)) → (l : Link) → slice_get g.links k ≡ Some l → node ≡ l.tree
    low_tree k low node is l at =
        let w = low_top k low in
        let both : Some node ≡ Some w.0.tree = is ∙ ap tree_on w.1 in
        let one : node ≡ w.0.tree = cc in
        one ∙ ap (λ (m : Layer). m.tree) w.2 ∙ sym (ap (λ (x : Link). x.tree) (low_is k low l at))

    pub low_depth : (k : ℕ) → k < g.base → (depth : ℕ) → Some depth ≡ depth_on (stack_at stacks (k + 1)) → (l : Link) → slice_get g.links k ≡ Some l → depth ≡ l.depth
    low_depth k low depth is l at =
        let w = low_top k low in
        let both : Some depth ≡ Some w.0.depth = is ∙ ap depth_on w.1 in
        let one : depth ≡ w.0.depth = cc in
        one ∙ ap (λ (m : Layer). m.depth) w.2 ∙ sym (ap (λ (x : Link). x.depth) (low_is k low l at))

    -- the only link down from a head of the stack
    newest_on : (ls : List Layer) (h : ℕ) → h ≤ length ls → slice_get (newest_of (rows_on ls)) h ≡ Some (before h)
    newest_on ls h low = newest_by ls h low

    pub first_none : IsSound (heads_of (rows_over layers rows)) (newest_of (rows_over layers rows)) (cells_over layers cells) → (h : ℕ) → h ≡ 0 → links_from g.links h None ≡ links_down g.links h
    first_none s h z =
        low_first s h (omega (arith, z)) None
        (ap (λ (n : ℕ). slice_get (newest_of (rows_on layers)) n) z ∙ newest_on layers 0 (omega arith))

    pub first_low : IsSound (heads_of (rows_over layers rows)) (newest_of (rows_over layers rows)) (cells_over layers cells) → (h k : ℕ) → h ≡ suc k → h ≤ base → links_from g.links h (Some k) ≡ links_down g.links h
    first_low s h k is low =
        low_first s h low (Some k)
        (ap (λ (n : ℕ). slice_get (newest_of (rows_on layers)) n) is
        ∙ newest_on layers (suc k) (let d = deep stacks base place cells under rows in omega (arith, d, low, is)))

    -- ---- a link that leads down from a head past those of the stack

    pub own_link_past : (link : ℕ) → link < length g.links → ((l : Link) → slice_get g.links link ≡ Some l → g.base < l.above) → base ≤ link
    own_link_past link there own = by (nat_lt link base) refl
      where
        by : (b : Bool) → nat_lt link base ≡ b → base ≤ link
        by false e = ltb-false link base e
        by true e =
            let w = low_link link (ltb-true link base e) in
            let high = own (link_of (cell_over w.0 link)) w.3 in
            let less = ltb-true link base e in
            let b = base_is in
            absurd (omega (arith, high, less, b))

    module _ (link : ℕ) (there : link < length g.links) (own : (l : Link) → slice_get g.links link ≡ Some l → g.base < l.above) where
      number_is : link ≡ base + (link - base)
      number_is = let p = own_link_past link there own in omega (arith, p)

      low_number : link - base < length cells
      low_number = let p = own_link_past link there own in let n = links_all in omega (arith, p, n, there)

      pub own_read : (c : Cell) → c ≡ get_or cells (link - base) c → slice_get cells (link - base) ≡ Some c
      own_read c read = slice_get_read cells (length cells) (link - base) c refl low_number read

      pub cell_read : (c : Cell) → c ≡ get_or cells (link - base) c → slice_get (cells_over layers cells) link ≡ Some c
      cell_read c read =
          subst (λ (n : ℕ). slice_get (cells_over layers cells) n ≡ Some c) (sym number_is) (cell_at stacks base place cells under rows (link - base) c (own_read c read))

      pub cell_put : (c : Cell) → set (cells_over layers cells) link c ≡ cells_over layers (set cells (link - base) c)
      cell_put c = ap (λ (n : ℕ). set (cells_over layers cells) n c) number_is ∙ cell_set (link - base) c

    pub cells_long : (count : ℕ) → count ≡ length cells → base + count ≡ length (cells_over layers cells)
    cells_long count is =
        let n = length-append (cells_on layers) cells in
        let b = cells_base stacks base place cells under rows in
        omega (arith, n, b, is)

  -- a row in the place of another
  pub row_put : (number i : ℕ) (row : Row) → number ≡ suc base + i → set (rows_over layers rows) number row ≡ rows_over layers (set rows i row)
  row_put number i row is = ap (λ (n : ℕ). set (rows_over layers rows) n row) is ∙ row_set i row

  pub row_same : (number i : ℕ) (row d : Row) → number ≡ suc base + i → row.head ≡ (get_or rows i d).head → row.head ≡ (get_or (rows_over layers rows) number d).head
  row_same number i row d is same =
      same ∙ ap (λ (r : Row). r.head) (sym (row_get i d)) ∙ ap (λ (n : ℕ). (get_or (rows_over layers rows) n d).head) (sym is)
