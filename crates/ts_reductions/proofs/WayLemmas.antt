-- Ways by what is on them: the extras above, and the children below.
use Rattle.std.proofs.Common.{◌≡◌, ◌∙◌, sym, ap, refl, subst, ℕ, suc, ◌+◌, Bool, true, false, List, [], ◌∷◌, ◌++◌, length, map, reverse, arith}
use Rattle.std.specs.Prelude.{if◌then◌else◌}
use Rattle.std.specs.List.{Contains}
use Rattle.std.proofs.lemmas.List.{reverse-append}
use Rattle.spec_trees.specs.declared.tree.Tree.{Tree}
use Rattle.spec_trees.specs.Trees.{symbol_of, is_extra_node, all_spans, bare}
use Rattle.spec_trees.specs.Made.{filling, BeginsFilled, EndBy}
use Rattle.spec_runs.specs.Configurations.{AreExtras}
use Rattle.spec_runs.specs.BareTrees.{KeepsAll}
use Rattle.spec_graph.specs.declared.graph.Head.{Head}
use Rattle.spec_graph.specs.declared.graph.Link.{Link}
use Rattle.spec_graph.specs.Laying.{Parsing}
use Rattle.spec_graph.specs.Links.{IsWay, way_trees, depths_of}
use Rattle.ts_graph.specs.Down.{place_at}
use Rattle.ts_table.specs.declared.view.ParseTable.{ParseTable}
use Rattle.ts_reductions.specs.SoundLinks.{bare_links, IsHeld}
use Rattle.ts_reductions.specs.Asking.{inner_of, outer_of}
use Rattle.ts_reductions.specs.Depths.{AreShallow}
use Rattle.ts_reductions.specs.Good.{IsGoodTree, AreGoodTrees}
use Rattle.ts_reductions.proofs.SmallLemmas.{filling_tree, filling_extra, bare_member, spans_turned, end_by_both}

-- ---- the two parts

-- the case of one link
module _ (l : Link) (way : List Link) where
  pub outer_extra : is_extra_node l.tree ≡ true → outer_of (l ∷ way) ≡ l ∷ outer_of way
  outer_extra e = ap (λ (b : Bool). if b then l ∷ outer_of way else []) e

  pub outer_none : is_extra_node l.tree ≡ false → outer_of (l ∷ way) ≡ []
  outer_none e = ap (λ (b : Bool). if b then l ∷ outer_of way else []) e

  pub inner_extra : is_extra_node l.tree ≡ true → inner_of (l ∷ way) ≡ inner_of way
  inner_extra e = ap (λ (b : Bool). if b then inner_of way else l ∷ way) e

  pub inner_all : is_extra_node l.tree ≡ false → inner_of (l ∷ way) ≡ l ∷ way
  inner_all e = ap (λ (b : Bool). if b then inner_of way else l ∷ way) e

pub record Parts (way outer inner : List Link) : Type 0 where
  pub whole : way ≡ outer ++ inner
  pub extras : AreExtras (way_trees outer)
  pub begins : BeginsFilled (way_trees inner)

pub parts : (way : List Link) → Parts way (outer_of way) (inner_of way)
parts [] = record { whole = refl; extras = tt; begins = tt }
parts (l ∷ way) = by (is_extra_node l.tree) refl (parts way)
  where
    by : (b : Bool) → is_extra_node l.tree ≡ b → Parts way (outer_of way) (inner_of way) → Parts (l ∷ way) (outer_of (l ∷ way)) (inner_of (l ∷ way))
    by true e p =
        subst (λ (v : List Link). Parts (l ∷ way) v (inner_of (l ∷ way))) (sym (outer_extra l way e))
        (subst (λ (w : List Link). Parts (l ∷ way) (l ∷ outer_of way) w) (sym (inner_extra l way e))
        (record { whole = ap (λ (w : List Link). l ∷ w) p.whole; extras = (e, p.extras); begins = p.begins }))
    by false e p =
        subst (λ (v : List Link). Parts (l ∷ way) v (inner_of (l ∷ way))) (sym (outer_none l way e))
        (subst (λ (w : List Link). Parts (l ∷ way) [] w) (sym (inner_all l way e))
        (record { whole = refl; extras = tt; begins = e }))

-- the parts are told by what they are
pub parts_only : (outer inner : List Link) → AreExtras (way_trees outer) → BeginsFilled (way_trees inner) → (outer_of (outer ++ inner) ≡ outer) × (inner_of (outer ++ inner) ≡ inner)
parts_only [] [] a b = (refl, refl)
parts_only [] (l ∷ inner) a b = (outer_none l inner b, inner_all l inner b)
parts_only (l ∷ outer) inner a b =
    let r = parts_only outer inner a.1 b in
    (outer_extra l (outer ++ inner) a.0 ∙ ap (λ (w : List Link). l ∷ w) r.0, inner_extra l (outer ++ inner) a.0 ∙ r.1)

-- ---- trees of ways

pub trees_append : (v w : List Link) → way_trees (v ++ w) ≡ way_trees v ++ way_trees w
trees_append [] w = refl
trees_append (l ∷ v) w = ap (λ (ts : List Tree). l.tree ∷ ts) (trees_append v w)

pub trees_bare : (way : List Link) → way_trees (bare_links way) ≡ map bare (way_trees way)
trees_bare [] = refl
trees_bare (l ∷ way) = ap (λ (ts : List Tree). bare l.tree ∷ ts) (trees_bare way)

pub depths_bare : (way : List Link) → depths_of (bare_links way) ≡ depths_of way
depths_bare [] = refl
depths_bare (l ∷ way) = ap (λ (ds : List ℕ). l.depth ∷ ds) (depths_bare way)

pub way_bare : (links : List Link) (way : List Link) (h b : ℕ) → IsWay links h way b → IsWay (bare_links links) h (bare_links way) b
way_bare links [] h b w = w
way_bare links (l ∷ way) h b w = (bare_member links l w.0, w.1, way_bare links way l.below b w.2)

pub way_cut : (links : List Link) (v w : List Link) (h b : ℕ) → IsWay links h (v ++ w) b → (e : ℕ) × IsWay links h v e × IsWay links e w b
way_cut links [] w h b is = (h, refl, is)
way_cut links (l ∷ v) w h b is = let r = way_cut links v w l.below b is.2 in (r.0, (is.0, is.1, r.1), r.2)

pub way_join : (links : List Link) (v w : List Link) (h e b : ℕ) → IsWay links h v e → IsWay links e w b → IsWay links h (v ++ w) b
way_join links [] w h e b is on = subst (λ (n : ℕ). IsWay links n w b) (sym is) on
way_join links (l ∷ v) w h e b is on = (is.0, is.1, way_join links v w l.below e b is.2 on)

module _ (keeps : (t : Tree) → KeepsAll t) where
  pub bare_extras : (ts : List Tree) → AreExtras ts → AreExtras (map bare ts)
  bare_extras [] a = tt
  bare_extras (t ∷ ts) a = ((keeps t).extra ∙ a.0, bare_extras ts a.1)

  pub extras_bare : (ts : List Tree) → AreExtras (map bare ts) → AreExtras ts
  extras_bare [] a = tt
  extras_bare (t ∷ ts) a = (sym (keeps t).extra ∙ a.0, extras_bare ts a.1)

  pub bare_begins : (ts : List Tree) → BeginsFilled ts → BeginsFilled (map bare ts)
  bare_begins [] a = tt
  bare_begins (t ∷ ts) a = (keeps t).extra ∙ a

  pub begins_bare : (ts : List Tree) → BeginsFilled (map bare ts) → BeginsFilled ts
  begins_bare [] a = tt
  begins_bare (t ∷ ts) a = sym (keeps t).extra ∙ a

  pub bare_filling : (ts : List Tree) → filling (map bare ts) ≡ filling ts
  bare_filling [] = refl
  bare_filling (t ∷ ts) = by (is_extra_node t) refl (bare_filling ts)
    where
      by : (b : Bool) → is_extra_node t ≡ b → filling (map bare ts) ≡ filling ts → filling (map bare (t ∷ ts)) ≡ filling (t ∷ ts)
      by true e r = filling_extra (bare t) (map bare ts) ((keeps t).extra ∙ e) ∙ r ∙ sym (filling_extra t ts e)
      by false e r = filling_tree (bare t) (map bare ts) ((keeps t).extra ∙ e) ∙ ap (λ (l : List ℕ). symbol_of (bare t) ∷ l) r ∙ ap (λ (n : ℕ). n ∷ filling ts) (keeps t).symbol ∙ sym (filling_tree t ts e)

pub map_turned : (f : Tree → Tree) (ts : List Tree) → map f (reverse ts) ≡ reverse (map f ts)
map_turned f [] = refl
map_turned f (t ∷ ts) = ap (λ (l : List Tree). map f l) (reverse-append (t ∷ []) ts) ∙ map_over (reverse ts) (t ∷ []) ∙ ap (λ (l : List Tree). l ++ f t ∷ []) (map_turned f ts) ∙ sym (reverse-append (f t ∷ []) (map f ts))
  where
    map_over : (xs ys : List Tree) → map f (xs ++ ys) ≡ map f xs ++ map f ys
    map_over [] ys = refl
    map_over (x ∷ xs) ys = ap (λ (l : List Tree). f x ∷ l) (map_over xs ys)

-- ---- what is held on a way

pub way_good : (t : ParseTable) (links : List Link) → ((l : Link) → Contains links l → IsGoodTree t.grammar l.tree) → (way : List Link) (h b : ℕ) → IsWay links h way b → AreGoodTrees t.grammar (way_trees way)
way_good t links good [] h b w = tt
way_good t links good (l ∷ way) h b w = (good l w.0, way_good t links good way l.below b w.2)

pub way_shallow : (P : Parsing) (heads : List Head) (links : List Link) → ((l : Link) → Contains links l → IsHeld P heads l) → (way : List Link) (h b : ℕ) → IsWay links h way b → AreShallow way
way_shallow P heads links held [] h b w = tt
way_shallow P heads links held (l ∷ way) h b w = ((held l w.0).not_deep, way_shallow P heads links held way l.below b w.2)

module _ (P : Parsing) (heads : List Head) (links : List Link) (held : (l : Link) → Contains links l → IsHeld P heads l) where
  pub way_spans : (way : List Link) (h b : ℕ) → IsWay links h way b → place_at heads b + all_spans (way_trees way) ≡ place_at heads h
  way_spans [] h b w = let e = ap (place_at heads) w in omega (arith, e)
  way_spans (l ∷ way) h b w =
      let r = way_spans way l.below b w.2 in
      let s = (held l w.0).spans in
      let e = ap (place_at heads) w.1 in
      omega (arith, r, s, e)

  pub way_reach : (way : List Link) (h b : ℕ) → IsWay links h way b → EndBy (suc (length P.text)) (place_at heads b) (reverse (way_trees way))
  way_reach [] h b w = tt
  way_reach (l ∷ way) h b w =
      let r = way_reach way l.below b w.2 in
      let low = way_spans way l.below b w.2 in
      let k = held l w.0 in
      let sum : place_at heads b + all_spans (reverse (way_trees way)) ≡ place_at heads l.below = ap (λ (n : ℕ). place_at heads b + n) (spans_turned (way_trees way)) ∙ low in
      subst (λ (ts : List Tree). EndBy (suc (length P.text)) (place_at heads b) ts) (sym (reverse-append (l.tree ∷ []) (way_trees way)))
      (end_by_both (suc (length P.text)) (place_at heads b) (reverse (way_trees way)) (l.tree ∷ []) r
      ((let x = k.reach in omega (arith, x, sum)), tt))
