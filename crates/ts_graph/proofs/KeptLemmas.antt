-- How low links lead down, and whether a tree is an extra: what is kept beside the graph stays right,
-- and walks over links may end early by it.
use Rattle.std.proofs.Common.{◌≡◌, ◌∙◌, sym, ap, refl, subst, ℕ, ◌-◌, ◌<◌, ◌≤◌, ◌⊎◌, inl, inr, Bool, true, false, true≢false, ◌||◌, List, [], ◌∷◌, ◌++◌, append-nil, length, take, map, set, slice_get, Option, Some, None, nat_eq, arith}
use Rattle.std.specs.Prelude.{if◌then◌else◌}
use Rattle.std.specs.List.{flat_map}
use Rattle.std.specs.Option.{option_map_or}
use Rattle.std.proofs.lemmas.Bool.{eq-eqb, eqb-true}
use Rattle.std.proofs.lemmas.List.{length-take-le}
use Rattle.std.proofs.lemmas.Option.{slice_get_within}
use Rattle.spec_trees.specs.declared.tree.Tree.{Tree}
use Rattle.spec_trees.specs.Trees.{is_extra_node}
use Rattle.ts_base.proofs.PlaceLemmas.{set_here, set_there, in_prefix, push_cases}
use Rattle.spec_graph.specs.declared.graph.Head.{Head}
use Rattle.spec_graph.specs.declared.graph.Link.{Link}
use Rattle.ts_graph.specs.declared.graph.Cell.{Cell}
use Rattle.ts_graph.specs.declared.latest.Spot.{Spot}
use Rattle.ts_graph.specs.declared.ways.Part.{Part}
use Rattle.ts_graph.specs.declared.view.GraphView.{GraphView}
use Rattle.ts_graph.specs.Down.{links_down, links_from, place_at, HoldsEachOnce, IsPacked}
use Rattle.ts_graph.specs.Cells.{link_of, links_of, graph_of, IsKept}
use Rattle.ts_graph.specs.Bounds.{IsBound, LeadNoLower, AllPast, NoneLeads}
use Rattle.ts_graph.specs.Parts.{below_at, wanting_past, next_of, nexts_of, leads, done_of, undone_of, done_to, undone_to}
use Rattle.ts_graph.specs.Ways.{EndsBy}
use Rattle.ts_graph.specs.Latest.{Finds, spot_past}
use Rattle.ts_graph.proofs.ListLemmas.{Has, mapped_at, at_mapped}
use Rattle.ts_graph.proofs.DownLemmas.{down_has, down_is, down_within}
use Rattle.ts_graph.proofs.BetweenLemmas.{GoDown, go_at}
use Rattle.ts_graph.proofs.CellLemmas.{AreAlike}
use Rattle.ts_graph.proofs.PartLemmas.{Lengthens, below_is}
use Rattle.ts_graph.proofs.LatestLemmas.{ends_here, finds_without}

-- ---- one more head, one more link, and a packed one

pub kept_open : (heads : List Head) {base : ℕ} (cells : List Cell) (extras : Bool) → HoldsEachOnce heads (links_of cells) → IsKept heads base cells extras → (head : Head) (new : List Head) → new ≡ heads ++ head ∷ [] → IsKept new base cells extras
kept_open heads {base = base} cells extras each kept head new is = subst (λ (hs : List Head). IsKept hs base cells extras) (sym is) record {
  bounded = λ k c at j d there same low.
      let within = each.below_there j (link_of d) (at_mapped link_of cells j d there) in
      let place : place_at (heads ++ head ∷ []) d.below ≡ place_at heads d.below = ap (λ (o : Option Head). option_map_or (λ (x : Head). x.place) o 0) (in_prefix heads (head ∷ []) d.below within) in
      let b = kept.bounded k c at j d there same low in
      omega (arith, place, b);
  filled = kept.filled;
}

module _ (heads : List Head) {base : ℕ} (cells : List Cell) (extras : Bool) (kept : IsKept heads base cells extras) where
  pub kept_push : (c : Cell) → c.lowest ≤ place_at heads c.below → ((j : ℕ) (d : Cell) → slice_get cells j ≡ Some d → d.above ≡ c.above → c.lowest ≤ place_at heads d.below)
      → (more : Bool) → (more ≡ false → (extras ≡ false) × (is_extra_node c.node ≡ false)) → IsKept heads base (cells ++ c ∷ []) more
  kept_push c own others more plain = record {
    bounded = λ k e at j d there same low. by k e j d same low (push_cases cells c k e at) (push_cases cells c j d there);
    filled = λ none k d past at. filled_by k d none past (push_cases cells c k d at);
  }
    where
      by : (k : ℕ) (e : Cell) (j : ℕ) (d : Cell) → d.above ≡ e.above → j ≤ k
          → ((k < length cells) × (slice_get cells k ≡ Some e)) ⊎ ((k ≡ length cells) × (c ≡ e))
          → ((j < length cells) × (slice_get cells j ≡ Some d)) ⊎ ((j ≡ length cells) × (c ≡ d)) → e.lowest ≤ place_at heads d.below
      by k e j d same low (inl v) (inl w) = kept.bounded k e v.1 j d w.1 same low
      by k e j d same low (inl v) (inr w) = absurd (let a = v.0 in let b = w.0 in omega (arith, a, b, low))
      by k e j d same low (inr v) (inl w) =
          let there = others j d w.1 (same ∙ ap (λ (x : Cell). x.above) (sym v.1)) in
          subst (λ (x : Cell). x.lowest ≤ place_at heads d.below) v.1 there
      by k e j d same low (inr v) (inr w) =
          subst (λ (x : Cell). x.lowest ≤ place_at heads d.below) v.1
          (subst (λ (x : Cell). c.lowest ≤ place_at heads x.below) w.1 own)

      filled_by : (k : ℕ) (d : Cell) → more ≡ false → base ≤ k → ((k < length cells) × (slice_get cells k ≡ Some d)) ⊎ ((k ≡ length cells) × (c ≡ d)) → is_extra_node d.node ≡ false
      filled_by k d none past (inl w) = kept.filled (plain none).0 k d past w.1
      filled_by k d none past (inr w) = subst (λ (x : Cell). is_extra_node x.node ≡ false) w.1 (plain none).1

  pub kept_pack : (k : ℕ) (c d : Cell) → slice_get cells k ≡ Some c → AreAlike c d → d.lowest ≡ c.lowest → (more : Bool) → (more ≡ false → (extras ≡ false) × (is_extra_node d.node ≡ false)) → IsKept heads base (set cells k d) more
  kept_pack k c d at alike lowest more plain = record {
    bounded = λ i x is j z there same low.
        let y = old_of i x is in
        let w = old_of j z there in
        let above : w.0.above ≡ y.0.above = sym w.2 ∙ same ∙ y.2 in
        let b = kept.bounded i y.0 y.1 j w.0 w.1 above low in
        let e = y.3 in
        let f : place_at heads z.below ≡ place_at heads w.0.below = ap (λ (h : ℕ). place_at heads h) w.4 in
        omega (arith, b, e, f);
    filled = λ none i x past is. filled_by i x none past is (nat_eq i k) refl;
  }
    where
      here : (i : ℕ) (x : Cell) → slice_get (set cells k d) i ≡ Some x → i ≡ k → d ≡ x
      here i x is same =
          let low : k < length cells = slice_get_within cells k c at in
          let own = subst (λ (n : ℕ). slice_get (set cells k d) n ≡ Some d) (sym same) (set_here cells k d low) in
          let f : Some d ≡ Some x = sym own ∙ is in
          cc

      elsewhere : (i : ℕ) (x : Cell) → slice_get (set cells k d) i ≡ Some x → nat_eq i k ≡ false → slice_get cells i ≡ Some x
      elsewhere i x is e = sym (set_there cells k i d (λ f. true≢false (sym (eq-eqb i k f) ∙ e))) ∙ is

      old_of : (i : ℕ) (x : Cell) → slice_get (set cells k d) i ≡ Some x → (y : Cell) × (slice_get cells i ≡ Some y) × (x.above ≡ y.above) × (x.lowest ≡ y.lowest) × (x.below ≡ y.below)
      old_of i x is = by (nat_eq i k) refl
        where
          by : (b : Bool) → nat_eq i k ≡ b → (y : Cell) × (slice_get cells i ≡ Some y) × (x.above ≡ y.above) × (x.lowest ≡ y.lowest) × (x.below ≡ y.below)
          by true e =
              let same : i ≡ k = eqb-true i k e in
              let g = here i x is same in (
                c,
                subst (λ (n : ℕ). slice_get cells n ≡ Some c) (sym same) at,
                ap (λ (y : Cell). y.above) (sym g) ∙ alike.above,
                ap (λ (y : Cell). y.lowest) (sym g) ∙ lowest,
                ap (λ (y : Cell). y.below) (sym g) ∙ alike.below,
              )
          by false e = (x, elsewhere i x is e, refl, refl, refl)

      filled_by : (i : ℕ) (x : Cell) → more ≡ false → base ≤ i → slice_get (set cells k d) i ≡ Some x → (b : Bool) → nat_eq i k ≡ b → is_extra_node x.node ≡ false
      filled_by i x none past is true e = subst (λ (y : Cell). is_extra_node y.node ≡ false) (here i x is (eqb-true i k e)) (plain none).1
      filled_by i x none past is false e = kept.filled (plain none).0 i x past (elsewhere i x is e)

-- the tree that is kept where one is packed is one of the two
pub packed_plain : (old new : Link) (tree : Tree) (depth : ℕ) → IsPacked old tree depth new → is_extra_node old.tree ≡ false → is_extra_node tree ≡ false → is_extra_node new.tree ≡ false
packed_plain old new tree depth packed old_plain plain = by (is_extra_node new.tree) refl
  where
    by : (b : Bool) → is_extra_node new.tree ≡ b → is_extra_node new.tree ≡ false
    by false e = e
    by true e =
        absurd (let same = packed.no_better (λ better. true≢false (sym e ∙ ap (λ (t : Tree). is_extra_node t) (packed.better better) ∙ plain)) in
        true≢false (sym e ∙ ap (λ (t : Tree). is_extra_node t) same ∙ old_plain))

pub neither : (a b : Bool) → (a || b) ≡ false → (a ≡ false) × (b ≡ false)
neither true b e = absurd (true≢false e)
neither false b e = (refl, e)

-- ---- as contracts see it

module _ (heads : List Head) {base : ℕ} (cells : List Cell) (extras : Bool) (kept : IsKept heads base cells extras) (g : GraphView) (view : graph_of heads (links_of cells) base ≡ g) where
  pub cell_bound : (k : ℕ) (c : Cell) → slice_get cells k ≡ Some c → IsBound g.heads g.links k c.above c.lowest
  cell_bound k c at = subst (λ (x : GraphView). IsBound x.heads x.links k c.above c.lowest) view
      (λ j l there same low.
      let d = mapped_at link_of cells j l there in
      let b = kept.bounded k c at j d.0 d.1 (ap (λ (m : Link). m.above) d.2 ∙ same) low in
      subst (λ (m : Link). c.lowest ≤ place_at heads m.below) d.2 b)

  pub all_plain : extras ≡ false → (j : ℕ) (l : Link) → g.base ≤ j → slice_get g.links j ≡ Some l → is_extra_node l.tree ≡ false
  all_plain none = subst (λ (x : GraphView). (j : ℕ) (l : Link) → x.base ≤ j → slice_get x.links j ≡ Some l → is_extra_node l.tree ≡ false) view
      (λ j l past there.
      let d = mapped_at link_of cells j l there in
      subst (λ (m : Link). is_extra_node m.tree ≡ false) d.2 (kept.filled none j d.0 past d.1))

pub kept_pushed : (heads : List Head) {base : ℕ} (cells : List Cell) (extras : Bool) → IsKept heads base cells extras → (g : GraphView) → graph_of heads (links_of cells) base ≡ g → (c : Cell) (head : Head) → slice_get g.heads c.below ≡ Some head → c.lowest ≤ head.place
    → LeadNoLower g.heads g.links c.above c.lowest → (new : List Cell) → new ≡ cells ++ c ∷ [] → (more : Bool) → (more ≡ false → (extras ≡ false) × (is_extra_node c.node ≡ false)) → IsKept heads base new more
kept_pushed heads {base = base} cells extras kept g view c head at own others new is more plain =
    let there : slice_get heads c.below ≡ Some head = subst (λ (x : GraphView). slice_get x.heads c.below ≡ Some head) (sym view) at in
    let place : place_at heads c.below ≡ head.place = ap (λ (o : Option Head). option_map_or (λ (x : Head). x.place) o 0) there in
    let lead = subst (λ (x : GraphView). LeadNoLower x.heads x.links c.above c.lowest) (sym view) others in
    subst (λ (cs : List Cell). IsKept heads base cs more) (sym is)
    (kept_push heads cells extras kept c (omega (arith, place, own))
    (λ j d there same. lead j (link_of d) (at_mapped link_of cells j d there) same) more plain)

-- one tree fewer is wanting behind a link that is no extra
wanting_none : (links : List Link) (j : ℕ) (l : Link) → slice_get links j ≡ Some l → is_extra_node l.tree ≡ false → wanting_past links 1 j ≡ 0
wanting_none links j l at plain =
    ap (λ (o : Option Link). option_map_or (λ (m : Link). if is_extra_node m.tree then 1 else 1 - 1) o 1) at
    ∙ ap (λ (b : Bool). if b then 1 else 1 - 1) plain

pub past_all : (heads : List Head) (links : List Link) (place wanting k low : ℕ) (c : Link) → slice_get links k ≡ Some c → IsBound heads links k c.above low → place < low → wanting ≡ 1
    → ((j : ℕ) (l : Link) → slice_get links j ≡ Some l → l.above ≡ c.above → is_extra_node l.tree ≡ false) → AllPast heads links place wanting k
past_all heads links place wanting k low c at bound past one plain m is j l there same up =
    let f : Some c ≡ Some m = sym at ∙ is in
    let g : c ≡ m = cc in
    let own : l.above ≡ c.above = same ∙ ap (λ (x : Link). x.above) (sym g) in
    let b = bound j l there own up in
    (omega (arith, past, b), subst (λ (n : ℕ). wanting_past links n j ≡ 0) (sym one) (wanting_none links j l there (plain j l there own)))

-- ---- the links from one on

from_up : (links : List Link) (h k j : ℕ) → k < length links → Has (links_from links h (Some k)) j → j ≤ k
from_up links h k j low (inl e) = omega (arith, e)
from_up links h k j low (inr w) =
    let a = down_within (take k links) h j w in
    let b = length-take-le k links (omega (arith, low)) in
    omega (arith, a, b)

-- the first of the links down from a head is the last of them
down_up : (links : List Link) (h k : ℕ) → links_from links h (Some k) ≡ links_down links h → (j : ℕ) (l : Link) → slice_get links j ≡ Some l → l.above ≡ h → j ≤ k
down_up links h k is j l at same =
    let first : Has (links_down links h) k = subst (λ (ks : List ℕ). Has ks k) is (inl refl) in
    from_up links h k j (down_within links h k first) (subst (λ (ks : List ℕ). Has ks j) (sym is) (down_is links h j l at same))

pub none_down : (heads : List Head) (links : List Link) (h low : ℕ) → links_from links h None ≡ links_down links h → LeadNoLower heads links h low
none_down heads links h low is j l at same = absurd (subst (λ (ks : List ℕ). Has ks j) (sym is) (down_is links h j l at same))

pub some_down : (heads : List Head) (links : List Link) (h k low least : ℕ) (c : Link) → slice_get links k ≡ Some c → IsBound heads links k c.above low → least ≤ low → links_from links h (Some k) ≡ links_down links h → LeadNoLower heads links h least
some_down heads links h k low least c at bound less is j l there same =
    let first : Has (links_down links h) k = subst (λ (ks : List ℕ). Has ks k) is (inl refl) in
    let r = down_has links h k first in
    let f : Some c ≡ Some r.0 = sym at ∙ r.1 in
    let g : c ≡ r.0 = cc in
    let above : c.above ≡ h = ap (λ (x : Link). x.above) g ∙ r.2 in
    let b = bound j l there (same ∙ sym above) (down_up links h k is j l there same) in
    omega (arith, b, less)

pub first_within : (links : List Link) (h k : ℕ) → links_from links h (Some k) ≡ links_down links h → k < length links
first_within links h k is = down_within links h k (subst (λ (ks : List ℕ). Has ks k) is (inl refl))

-- where none of them leads anywhere
module _ (heads : List Head) (links : List Link) (place wanting h k : ℕ) (go : GoDown links h (Some k)) (past : AllPast heads links place wanting k) where
  pub each_past : (j : ℕ) → Has (links_from links h (Some k)) j → (place < place_at heads (below_at links j)) × (wanting_past links wanting j ≡ 0)
  each_past j there =
      let m = go_at links h k go in
      let l = go.each j there in
      let low = slice_get_within links k m.0 m.1 in
      let r = past m.0 m.1 j l.0 l.1 (l.2 ∙ sym m.2) (from_up links h k j low there) in
      (subst (λ (n : ℕ). place < place_at heads n) (sym (below_is links j l.0 l.1)) r.0, r.1)

-- ways that are made longer
flat_none : {A : Type 0} (f : Part → List A) (links : List Link) (p : Part) (ks : List ℕ) → ((j : ℕ) → Has ks j → f (next_of links p j) ≡ []) → flat_map f (map (next_of links p) ks) ≡ []
flat_none f links p [] none = refl
flat_none {A = A} f links p (k ∷ ks) none =
    ap (λ (xs : List A). xs ++ flat_map f (map (next_of links p) ks)) (none k (inl refl)) ∙ flat_none f links p ks (λ j there. none j (inr there))

pub lengthens_past : {A : Type 0} (f : Part → List A) (links : List Link) (p : Part) (next : Option ℕ) (before found : List A) → Lengthens A f links p next before found → ((j : ℕ) → Has (links_from links p.way.below next) j → f (next_of links p j) ≡ []) → found ≡ before ++ flat_map f (nexts_of links p)
lengthens_past {A = A} f links p next before found l none =
    sym (append-nil found) ∙ ap (λ (xs : List A). found ++ xs) (sym (flat_none f links p (links_from links p.way.below next) none)) ∙ l.is

leads_none : (heads : List Head) (links : List Link) (place wanting j : ℕ) → place < place_at heads (below_at links j) → wanting_past links wanting j ≡ 0 → leads heads (Some place) (below_at links j) (wanting_past links wanting j) ≡ false
leads_none heads links place wanting j past zero_is =
    ap (λ (n : ℕ). leads heads (Some place) (below_at links j) n) zero_is ∙ by (nat_eq (place_at heads (below_at links j)) place) refl
  where
    by : (b : Bool) → nat_eq (place_at heads (below_at links j)) place ≡ b → b ≡ false
    by true e = absurd (let f = eqb-true (place_at heads (below_at links j)) place e in omega (arith, past, f))
    by false e = refl

module _ (heads : List Head) (links : List Link) (p : Part) (k : ℕ) (go : GoDown links p.way.below (Some k)) where
  pub undone_none : (place : Option ℕ) → NoneLeads heads links place p.wanting k → (j : ℕ) → Has (links_from links p.way.below (Some k)) j → undone_to heads place (next_of links p j) ≡ []
  undone_none None past j there = absurd past
  undone_none (Some place) past j there =
      let r = each_past heads links place p.wanting p.way.below k go past j there in
      ap (λ (b : Bool). if b then undone_of (next_of links p j) else []) (leads_none heads links place p.wanting j r.0 r.1)

  pub done_none : (place : Option ℕ) → NoneLeads heads links place p.wanting k → (j : ℕ) → Has (links_from links p.way.below (Some k)) j → done_to heads place (next_of links p j) ≡ []
  done_none None past j there = absurd past
  done_none (Some place) past j there =
      let r = each_past heads links place p.wanting p.way.below k go past j there in
      ap (λ (b : Bool). if b then done_of (next_of links p j) else []) (leads_none heads links place p.wanting j r.0 r.1)

-- spots that are left out
pub finds_past : (heads : List Head) (links : List Link) (most h count : ℕ) (old : List Spot) (n : ℕ) (best : Option ℕ) (ks : List ℕ) → ((j : ℕ) → Has ks j → (most < place_at heads (below_at links j)) × (wanting_past links n j ≡ 0))
    → Finds heads links h count most (old ++ map (spot_past links n) ks) best → Finds heads links h count most old best
finds_past heads links most h count old n best [] past f = subst (λ (xs : List Spot). Finds heads links h count most xs best) (append-nil old) f
finds_past heads links most h count old n best (k ∷ ks) past f =
    finds_past heads links most h count old n best ks (λ j there. past j (inr there))
    (finds_without heads links most h count old (map (spot_past links n) ks) (spot_past links n k) best
    (λ p e. absurd (let r = past k (inl refl) in
    let late = r.0 in
    let here = ends_here heads links most (below_at links k) p (subst (λ (w : ℕ). EndsBy heads links (below_at links k) w most p) r.1 e) in
    let low = e.low in
    omega (arith, late, here, low))) f)
