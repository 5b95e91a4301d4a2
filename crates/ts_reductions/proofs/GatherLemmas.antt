-- Walking over the links of a way.
use Rattle.std.proofs.Common.{◌≡◌, ◌∙◌, sym, ap, refl, subst, ℕ, zero, suc, ◌+◌, ◌-◌, ◌<◌, ◌≤◌, max, true, false, List, [], ◌∷◌, ◌++◌, append-nil, append_assoc, length, map, take, drop, reverse, get_or, slice_get, Some, arith}
use Rattle.std.proofs.lemmas.List.{reverse-append, drop_all}
use Rattle.spec_trees.specs.declared.tree.Tree.{Tree}
use Rattle.spec_trees.specs.Trees.{is_extra_node, maximum}
use Rattle.spec_trees.specs.Made.{most_depth}
use Rattle.spec_graph.specs.declared.graph.Link.{Link}
use Rattle.spec_graph.specs.Links.{way_trees, depths_of}
use Rattle.ts_graph.specs.Ways.{AreAt}
use Rattle.ts_reductions.specs.Asking.{outer_of}
use Rattle.ts_reductions.specs.Depths.{depth_when, AreShallow}
use Rattle.ts_reductions.proofs.WayLemmas.{outer_extra, outer_none}

module _ (links : List Link) where
  pub at_long : (ks : List ℕ) (way : List Link) → AreAt links ks way → length ks ≡ length way
  at_long [] [] a = refl
  at_long [] (l ∷ way) a = absurd a
  at_long (k ∷ ks) [] a = absurd a
  at_long (k ∷ ks) (l ∷ way) a = ap (λ (n : ℕ). suc n) (at_long ks way a.1)

  pub at_one : (ks : List ℕ) (v w : List Link) → AreAt links ks v → AreAt links ks w → v ≡ w
  at_one [] [] [] a b = refl
  at_one [] [] (m ∷ w) a b = absurd b
  at_one [] (l ∷ v) w a b = absurd a
  at_one (k ∷ ks) [] w a b = absurd a
  at_one (k ∷ ks) (l ∷ v) [] a b = absurd b
  at_one (k ∷ ks) (l ∷ v) (m ∷ w) a b =
      let e : Some l ≡ Some m = sym a.0 ∙ b.0 in
      let same : l ≡ m = cc in
      ap (λ (x : Link). x ∷ v) same ∙ ap (λ (x : List Link). m ∷ x) (at_one ks v w a.1 b.1)

  pub record Step (way : List Link) (i k : ℕ) : Type 0 where
    pub link : Link
    pub at : slice_get links k ≡ Some link
    pub rest : drop i way ≡ link ∷ drop (i + 1) way

  pub at_step : (ks : List ℕ) (way : List Link) (i : ℕ) → AreAt links ks way → i < length ks → Step way i (get_or ks i 0)
  at_step [] way i a lt = absurd (omega (arith, lt))
  at_step (j ∷ ks) [] i a lt = absurd a
  at_step (j ∷ ks) (l ∷ way) zero a lt = record { link = l; at = a.0; rest = refl }
  at_step (j ∷ ks) (l ∷ way) (suc i) a lt =
      let r = at_step ks way i a.1 (omega (arith, lt)) in
      let n : suc (i + 1) ≡ suc i + 1 = omega arith in
      record { link = r.link; at = r.at; rest = r.rest ∙ ap (λ (x : ℕ). r.link ∷ drop x (l ∷ way)) n }

  pub at_take : (n : ℕ) (ks : List ℕ) (way : List Link) → AreAt links ks way → AreAt links (take n ks) (take n way)
  at_take zero ks way a = tt
  at_take (suc n) [] [] a = tt
  at_take (suc n) [] (l ∷ way) a = absurd a
  at_take (suc n) (k ∷ ks) [] a = absurd a
  at_take (suc n) (k ∷ ks) (l ∷ way) a = (a.0, at_take n ks way a.1)

  pub at_drop : (n : ℕ) (ks : List ℕ) (way : List Link) → AreAt links ks way → AreAt links (drop n ks) (drop n way)
  at_drop zero ks way a = a
  at_drop (suc n) [] [] a = tt
  at_drop (suc n) [] (l ∷ way) a = absurd a
  at_drop (suc n) (k ∷ ks) [] a = absurd a
  at_drop (suc n) (k ∷ ks) (l ∷ way) a = at_drop n ks way a.1

-- ---- the extras on top

pub lifted_more : (way : List Link) (i : ℕ) (l : Link) → drop i way ≡ l ∷ drop (i + 1) way → is_extra_node l.tree ≡ true → length (outer_of way) ≡ i + length (outer_of (drop i way)) → length (outer_of way) ≡ (i + 1) + length (outer_of (drop (i + 1) way))
lifted_more way i l is e before =
    let x = ap (λ (w : List Link). length (outer_of w)) is in
    let y = ap (λ (w : List Link). length w) (outer_extra l (drop (i + 1) way) e) in
    omega (arith, before, x, y)

pub lifted_stop : (way : List Link) (i : ℕ) (l : Link) → drop i way ≡ l ∷ drop (i + 1) way → is_extra_node l.tree ≡ false → length (outer_of way) ≡ i + length (outer_of (drop i way)) → i ≡ length (outer_of way)
lifted_stop way i l is e before =
    let x = ap (λ (w : List Link). length (outer_of w)) is in
    let y = ap (λ (w : List Link). length w) (outer_none l (drop (i + 1) way) e) in
    omega (arith, before, x, y)

pub lifted_end : (way : List Link) (i : ℕ) → length way ≤ i → length (outer_of way) ≡ i + length (outer_of (drop i way)) → i ≡ length (outer_of way)
lifted_end way i le before = let x = ap (λ (w : List Link). length (outer_of w)) (drop_all i way le) in omega (arith, before, x)

-- what is cut off there
pub cut_outer : (way outer inner : List Link) → way ≡ outer ++ inner → (take (length outer) way ≡ outer) × (drop (length outer) way ≡ inner)
cut_outer way outer inner is = (ap (λ (w : List Link). take (length outer) w) is ∙ front outer, ap (λ (w : List Link). drop (length outer) w) is ∙ back outer)
  where
    front : (v : List Link) → take (length v) (v ++ inner) ≡ v
    front [] = refl
    front (l ∷ v) = ap (λ (w : List Link). l ∷ w) (front v)

    back : (v : List Link) → drop (length v) (v ++ inner) ≡ inner
    back [] = refl
    back (l ∷ v) = back v

-- ---- trees

pub trees_more : (way : List Link) (i : ℕ) (l : Link) (nodes new whole : List Tree) (u : Tree) → drop i way ≡ l ∷ drop (i + 1) way → u ≡ l.tree → new ≡ nodes ++ u ∷ [] → nodes ++ way_trees (drop i way) ≡ whole → new ++ way_trees (drop (i + 1) way) ≡ whole
trees_more way i l nodes new whole u is u_is new_is before =
    ap (λ (ts : List Tree). ts ++ way_trees (drop (i + 1) way)) new_is
    ∙ append_assoc nodes (u ∷ []) (way_trees (drop (i + 1) way))
    ∙ ap (λ (x : Tree). nodes ++ x ∷ way_trees (drop (i + 1) way)) u_is
    ∙ ap (λ (w : List Link). nodes ++ way_trees w) (sym is)
    ∙ before

pub trees_end : (way : List Link) (i : ℕ) (nodes new : List Tree) → length way ≤ i → nodes ++ way_trees (drop i way) ≡ way_trees way → new ≡ reverse nodes → new ≡ reverse (way_trees way)
trees_end way i nodes new le before is =
    is ∙ ap (λ (ts : List Tree). reverse ts) (sym (append-nil nodes) ∙ ap (λ (w : List Link). nodes ++ way_trees w) (sym (drop_all i way le)) ∙ before)

-- what a list has of the links from a place on, the lowest first
module _ {X : Type 0} (f : Link → X) where
  pub up_first : (way : List Link) (size : ℕ) (xs : List X) → length way ≤ size → xs ≡ [] → xs ≡ reverse (map f (drop size way))
  up_first way size xs all is = is ∙ sym (ap (λ (w : List Link). reverse (map f w)) (drop_all size way all))

  pub up_next : (way : List Link) (left : ℕ) (l : Link) (xs new : List X) (x : X) → drop (left - 1) way ≡ l ∷ drop ((left - 1) + 1) way → 0 < left → x ≡ f l → new ≡ xs ++ x ∷ [] → xs ≡ reverse (map f (drop left way))
      → new ≡ reverse (map f (drop (left - 1) way))
  up_next way left l xs new x rest some same is before =
      let same_place : (left - 1) + 1 ≡ left = omega (arith, some) in
      let whole : drop (left - 1) way ≡ l ∷ drop left way = rest ∙ ap (λ (n : ℕ). l ∷ drop n way) same_place in
      is ∙ ap (λ (ys : List X). ys ++ x ∷ []) before ∙ ap (λ (y : X). reverse (map f (drop left way)) ++ y ∷ []) same
      ∙ sym (reverse-append (f l ∷ []) (map f (drop left way)))
      ∙ sym (ap (λ (w : List Link). reverse (map f w)) whole)

-- ---- depths

maximum_append : (xs ys : List ℕ) → maximum (xs ++ ys) ≡ max (maximum xs) (maximum ys)
maximum_append [] ys = omega arith
maximum_append (x ∷ xs) ys = omega (arith, maximum_append xs ys)

maximum_turned : (xs : List ℕ) → maximum (reverse xs) ≡ maximum xs
maximum_turned [] = refl
maximum_turned (x ∷ xs) =
    let a = ap maximum (reverse-append (x ∷ []) xs) in
    let b = maximum_append (reverse xs) (x ∷ []) in
    omega (arith, a, b, maximum_turned xs)

pub depth_all : (ds : List ℕ) (n depth : ℕ) → n ≡ maximum ds → depth ≡ 1 + n → depth ≡ depth_when false (reverse ds)
depth_all ds n depth is over = omega (arith, is, over, maximum_turned ds)

depths_append : (v w : List Link) → depths_of (v ++ w) ≡ depths_of v ++ depths_of w
depths_append [] w = refl
depths_append (l ∷ v) w = ap (λ (ds : List ℕ). l.depth ∷ ds) (depths_append v w)

one_left : (way : List Link) (n : ℕ) → suc n ≡ length way → (l : Link) × (drop n way ≡ l ∷ [])
one_left [] n e = absurd (omega (arith, e))
one_left (l ∷ []) zero e = (l, refl)
one_left (l ∷ m ∷ way) zero e = absurd (omega (arith, e))
one_left (l ∷ way) (suc n) e = one_left way n (omega (arith, e))

take_drop : (way : List Link) (n : ℕ) → way ≡ take n way ++ drop n way
take_drop way zero = refl
take_drop [] (suc n) = refl
take_drop (l ∷ way) (suc n) = ap (λ (w : List Link). l ∷ w) (take_drop way n)

pub depth_longer : (way : List Link) (n a b depth : ℕ) → suc n ≡ length way → a ≡ maximum (depths_of (drop n way)) → b ≡ maximum (depths_of (take n way)) → depth ≡ max a (1 + b) → depth ≡ depth_when true (reverse (depths_of way))
depth_longer way n a b depth long first more is =
    let l = one_left way n long in
    let x = ap (λ (w : List Link). maximum (depths_of w)) l.1 in
    let parts : depths_of way ≡ depths_of (take n way) ++ l.0.depth ∷ [] = ap depths_of (take_drop way n) ∙ depths_append (take n way) (drop n way) ∙ ap (λ (w : List Link). depths_of (take n way) ++ depths_of w) l.1 in
    let turned : reverse (depths_of way) ≡ l.0.depth ∷ reverse (depths_of (take n way)) = ap (λ (ds : List ℕ). reverse ds) parts ∙ reverse-append (depths_of (take n way)) (l.0.depth ∷ []) in
    let y = ap (depth_when true) turned in
    omega (arith, is, first, more, x, y, maximum_turned (depths_of (take n way)))

pub depth_more : (way : List Link) (i : ℕ) (l : Link) (depth new d : ℕ) → drop i way ≡ l ∷ drop (i + 1) way → d ≡ l.depth → new ≡ max d depth → max depth (maximum (depths_of (drop i way))) ≡ maximum (depths_of way)
    → max new (maximum (depths_of (drop (i + 1) way))) ≡ maximum (depths_of way)
depth_more way i l depth new d is d_is new_is before =
    let x = ap (λ (w : List Link). maximum (depths_of w)) is in
    omega (arith, x, d_is, new_is, before)

pub depth_end : (way : List Link) (i depth : ℕ) → length way ≤ i → max depth (maximum (depths_of (drop i way))) ≡ maximum (depths_of way) → depth ≡ maximum (depths_of way)
depth_end way i depth le before = let x = ap (λ (w : List Link). maximum (depths_of w)) (drop_all i way le) in omega (arith, before, x)

-- ---- shallow ways

pub shallow_take : (n : ℕ) (way : List Link) → AreShallow way → AreShallow (take n way)
shallow_take zero way a = tt
shallow_take (suc n) [] a = tt
shallow_take (suc n) (l ∷ way) a = (a.0, shallow_take n way a.1)

pub shallow_drop : (n : ℕ) (way : List Link) → AreShallow way → AreShallow (drop n way)
shallow_drop zero way a = a
shallow_drop (suc n) [] a = tt
shallow_drop (suc n) (l ∷ way) a = shallow_drop n way a.1

pub shallow_first : (way : List Link) (i : ℕ) (l : Link) → AreShallow way → drop i way ≡ l ∷ drop (i + 1) way → l.depth ≤ most_depth
shallow_first way i l a is = (subst AreShallow is (shallow_drop i way a)).0
