-- A way over one link more, and the only way down, link by link.
use Rattle.std.proofs.Common.{◌≡◌, ◌∙◌, sym, ap, refl, subst, ℕ, ◌+◌, ◌<◌, ◌≤◌, inl, inr, false, List, [], ◌∷◌, ◌++◌, append-nil, append_assoc, length, take, slice_get, Option, Some, None, arith}
use Rattle.std.specs.Prelude.{MatchOption}
use Rattle.std.proofs.lemmas.Option.{slice_get_within}
use Rattle.spec_trees.specs.declared.tree.Tree.{Tree}
use Rattle.spec_trees.specs.Trees.{is_extra_node}
use Rattle.spec_trees.specs.Made.{EndsFilled}
use Rattle.spec_graph.specs.declared.graph.Head.{Head}
use Rattle.spec_graph.specs.declared.graph.Link.{Link}
use Rattle.spec_graph.specs.Links.{IsWay, way_trees}
use Rattle.ts_graph.specs.Down.{links_down, links_from, place_at, HoldsEachOnce}
use Rattle.ts_graph.specs.Ways.{AreAt, TakesFilled, IsOnlyWay, EndsBy, IsLatestEnd}
use Rattle.ts_graph.specs.Parts.{wanting_past}
use Rattle.ts_graph.proofs.ListLemmas.{Has, has_contained, contained_has, has_at, at_has}
use Rattle.ts_graph.proofs.DownLemmas.{down_has, down_is}
use Rattle.ts_graph.proofs.WayLemmas.{filled, filled_first, no_extra, wants, ends_rest, none_ends, at_more}

-- ---- the lowest tree

ends_first : (t : Tree) (ts : List Tree) → EndsFilled ts → (ts ≡ [] → is_extra_node t ≡ false) → EndsFilled (t ∷ ts)
ends_first t [] ends alone [] last e = let f : t ∷ [] ≡ last ∷ [] = e in let same : t ≡ last = cc in subst (λ (u : Tree). is_extra_node u ≡ false) same (alone refl)
ends_first t [] ends alone (x ∷ []) last e = absurd (let f : t ∷ [] ≡ x ∷ last ∷ [] = e in cc)
ends_first t [] ends alone (x ∷ y ∷ before) last e = absurd (let f : t ∷ [] ≡ x ∷ y ∷ (before ++ last ∷ []) = e in cc)
ends_first t (u ∷ us) ends alone [] last e = absurd (let f : t ∷ u ∷ us ≡ last ∷ [] = e in cc)
ends_first t (u ∷ us) ends alone (x ∷ before) last e =
    let f : t ∷ (u ∷ us) ≡ x ∷ (before ++ last ∷ []) = e in
    let rest : u ∷ us ≡ before ++ last ∷ [] = cc in
    ends before last rest

ends_behind : (t : Tree) (ts : List Tree) → EndsFilled (t ∷ ts) → EndsFilled ts
ends_behind t ts ends before last e = ends (t ∷ before) last (ap (λ (us : List Tree). t ∷ us) e)

-- ---- over one link more

-- a way begins with a link, behind which another goes on
pub record TakesOver (links : List Link) (h n b : ℕ) (taken : List Link) : Type 0 where
  pub link : Link
  pub rest : List Link
  pub number : ℕ
  pub is : taken ≡ link ∷ rest
  pub at : slice_get links number ≡ Some link
  pub down : Has (links_down links h) number
  pub takes : TakesFilled links link.below (wanting_past links n number) rest b

module _ (links : List Link) where
  -- a way behind a link is one from above it
  pub takes_on : (k : ℕ) (l : Link) (n b : ℕ) (rest : List Link) → slice_get links k ≡ Some l → 0 < n → TakesFilled links l.below (wanting_past links n k) rest b → TakesFilled links l.above n (l ∷ rest) b
  takes_on k l n b rest at some t = record {
    way = (contained_has links l (has_at links k l at), refl, t.way);
    filled =
        let a = filled_first l rest in
        let c = t.filled in
        let w = wants links k l n at some in
        omega arith;
    ends = ends_first l.tree (way_trees rest) t.ends (λ none. alone rest none t.filled);
  }
    where
      alone : (u : List Link) → way_trees u ≡ [] → filled u ≡ wanting_past links n k → is_extra_node l.tree ≡ false
      alone [] none count =
          let w = wants links k l n at some in
          let zeros : wanting_past links n k ≡ 0 = sym count in
          no_extra l (omega arith)
      alone (m ∷ u) none count = absurd (let f : m.tree ∷ way_trees u ≡ [] = none in cc)

  -- each way that wants some trees goes over a link
  pub takes_over : (h n b : ℕ) (taken : List Link) → 0 < n → TakesFilled links h n taken b → TakesOver links h n b taken
  takes_over h n b [] some t =
      absurd (let none : filled [] ≡ 0 = refl in
      let c = t.filled in
      omega arith)
  takes_over h n b (l ∷ rest) some t =
      let k = at_has links l (has_contained links l t.way.0) in
      let a = filled_first l rest in
      let c = t.filled in
      let w = wants links k.0 l n k.1 some in
      record {
        link = l;
        rest = rest;
        number = k.0;
        is = refl;
        at = k.1;
        down = down_is links h k.0 l k.1 t.way.1;
        takes = record {
          way = t.way.2;
          filled = omega arith;
          ends = ends_behind l.tree (way_trees rest) t.ends;
        };
      }

-- ---- the only link

pub only_is : (links : List Link) (h k : ℕ) → links_from links h (Some k) ≡ links_down links h → ((l : Link) → slice_get links k ≡ Some l → links_down (take k links) l.above ≡ []) → links_down links h ≡ k ∷ []
only_is links h k first alone =
    let r = down_has links h k (subst (λ (ks : List ℕ). Has ks k) first (inl refl)) in
    let none : links_down (take k links) h ≡ [] = subst (λ (x : ℕ). links_down (take k links) x ≡ []) r.2 (alone r.0 r.1) in
    sym first ∙ ap (λ (ks : List ℕ). k ∷ ks) none

module _ (links : List Link) (h k : ℕ) (down : links_down links h ≡ k ∷ []) where
  only_has : (l : Link) × (slice_get links k ≡ Some l) × (l.above ≡ h)
  only_has = down_has links h k (subst (λ (ks : List ℕ). Has ks k) (sym down) (inl refl))

  pub down_link : (l : Link) × (slice_get links k ≡ Some l) × (k < length links)
  down_link = let r = only_has in (r.0, r.1, slice_get_within links k r.0 r.1)

module _ (heads : List Head) (links : List Link) (each : HoldsEachOnce heads links) (h k : ℕ) (down : links_down links h ≡ k ∷ []) where
  pub down_there : (below : ℕ) → ((l : Link) → slice_get links k ≡ Some l → below ≡ l.below) → below < length heads
  down_there below is = let r = only_has links h k down in let e = is r.0 r.1 in let low = each.below_there k r.0 r.1 in omega (arith, e, low)

  pub down_falls : (l : Link) → slice_get links k ≡ Some l → place_at heads l.below < place_at heads h
  down_falls l at =
      let r = only_has links h k down in
      let e : Some l ≡ Some r.0 = sym at ∙ r.1 in
      let same : l ≡ r.0 = cc in
      subst (λ (x : ℕ). place_at heads l.below < place_at heads x) (ap (λ (m : Link). m.above) same ∙ r.2) (each.falls k l at)

-- ---- the only way

-- Each way down from the head with so many trees begins with the links of these numbers, and goes
-- on from a head with so many more.
pub record GoesOnly (links : List Link) (h count : ℕ) (numbers : List ℕ) (b wanting : ℕ)
    : Type 0 where
  pub taken : List Link
  pub at : AreAt links numbers taken
  pub on : (rest : List Link) (end : ℕ) → TakesFilled links b wanting rest end
      → TakesFilled links h count (taken ++ rest) end
  pub all : (other : List Link) (end : ℕ) → TakesFilled links h count other end
      → (rest : List Link) × (other ≡ taken ++ rest) × TakesFilled links b wanting rest end

module _ (links : List Link) (h count : ℕ) where
  pub only_first : GoesOnly links h count [] h count
  only_first = record { taken = []; at = tt; on = λ rest end t. t; all = λ other end t. (other, refl, t) }

  module _ (numbers : List ℕ) (b wanting k : ℕ) (l : Link) (g : GoesOnly links h count numbers b wanting) (some : 0 < wanting)
      (down : links_down links b ≡ k ∷ []) (at : slice_get links k ≡ Some l) where
    above_is : l.above ≡ b
    above_is =
        let r = down_has links b k (subst (λ (ks : List ℕ). Has ks k) (sym down) (inl refl)) in
        let e : Some l ≡ Some r.0 = sym at ∙ r.1 in
        let same : l ≡ r.0 = cc in
        ap (λ (m : Link). m.above) same ∙ r.2

    behind : (rest : List Link) (end : ℕ) (o : TakesOver links b wanting end rest) → (o.number ≡ k) × (o.link ≡ l)
    behind rest end o = by (subst (λ (ks : List ℕ). Has ks o.number) down o.down)
      where
        by : Has (k ∷ []) o.number → (o.number ≡ k) × (o.link ≡ l)
        by (inl e) = (sym e, (let f : Some o.link ≡ Some l = sym o.at ∙ ap (λ (n : ℕ). slice_get links n) (sym e) ∙ at in cc))
        by (inr w) = absurd w

    pub only_more : GoesOnly links h count (numbers ++ k ∷ []) l.below (wanting_past links wanting k)
    only_more = record {
      taken = g.taken ++ l ∷ [];
      at = at_more links numbers g.taken k l g.at at;
      on = λ rest end t.
          subst (λ (ls : List Link). TakesFilled links h count ls end) (sym (append_assoc g.taken (l ∷ []) rest))
          (g.on (l ∷ rest) end (subst (λ (x : ℕ). TakesFilled links x wanting (l ∷ rest) end) above_is (takes_on links k l wanting end rest at some t)));
      all = λ other end t.
          let a = g.all other end t in
          let o = takes_over links b wanting end a.0 some a.2 in
          let same = behind a.0 end o in (
            o.rest,
            a.1 ∙ ap (λ (ls : List Link). g.taken ++ ls) (o.is ∙ ap (λ (m : Link). m ∷ o.rest) same.1) ∙ sym (append_assoc g.taken (l ∷ []) o.rest),
            subst (λ (m : Link). TakesFilled links m.below (wanting_past links wanting k) o.rest end) same.1
                (subst (λ (n : ℕ). TakesFilled links o.link.below (wanting_past links wanting n) o.rest end) same.0 o.takes),
          );
    }

  -- the same of what the calls tell
  pub only_on : (numbers : List ℕ) (b wanting k : ℕ) → GoesOnly links h count numbers b wanting → 0 < wanting → links_down links b ≡ k ∷ [] → (below : ℕ) → ((l : Link) → slice_get links k ≡ Some l → below ≡ l.below) → (now : ℕ) → now ≡ wanting_past links wanting k
      → GoesOnly links h count (numbers ++ k ∷ []) below now
  only_on numbers b wanting k g some down below is now past =
      let l = down_link links b k down in
      subst (λ (n : ℕ). GoesOnly links h count (numbers ++ k ∷ []) below n) (sym past)
      (subst (λ (x : ℕ). GoesOnly links h count (numbers ++ k ∷ []) x (wanting_past links wanting k)) (sym (is l.0 l.1)) (only_more numbers b wanting k l.0 g some down l.1))

  pub only_last : (numbers : List ℕ) (b wanting : ℕ) → GoesOnly links h count numbers b wanting → wanting ≡ 0 → IsOnlyWay links h count numbers b
  only_last numbers b wanting g none = record {
    taken = g.taken;
    at = g.at;
    takes = subst (λ (ls : List Link). TakesFilled links h count ls b) (append-nil g.taken)
        (g.on [] b (subst (λ (n : ℕ). TakesFilled links b n [] b) (sym none) (record { way = refl; filled = refl; ends = none_ends })));
    only = λ other end t.
        let a = g.all other end t in
        let u = subst (λ (n : ℕ). TakesFilled links b n a.0 end) none a.2 in
        let empty : a.0 ≡ [] = ends_rest [] a.0 u.ends u.filled in (
          a.1 ∙ ap (λ (ls : List Link). g.taken ++ ls) empty ∙ append-nil g.taken,
          sym (subst (λ (ls : List Link). IsWay links b ls end) empty u.way),
        );
  }

-- ---- where it ends

module _ (heads : List Head) (links : List Link) (h count most : ℕ) (numbers : List ℕ) (b : ℕ) (o : IsOnlyWay links h count numbers b) where
  ends_there : (p : ℕ) → EndsBy heads links h count most p → p ≡ place_at heads b
  ends_there p e = sym e.at ∙ ap (λ (x : ℕ). place_at heads x) (o.only e.taken e.below e.takes).1

  pub only_latest : (place : ℕ) (found : Option ℕ) → place_at heads b ≡ place → MatchOption found (most < place) (λ p. (p ≡ place) × (place ≤ most))
      → MatchOption found ((p : ℕ) → EndsBy heads links h count most p → ⊥) (λ p. IsLatestEnd heads links h count most p)
  only_latest place None at past = λ p e. let same = ends_there p e in let low = e.low in omega (arith, at, past)
  only_latest place (Some p) at is = record {
    ends = record {
      taken = o.taken;
      below = b;
      takes = o.takes;
      at = at ∙ sym is.0;
      low = let low = is.1 in let same = is.0 in omega (arith, low, same);
    };
    latest = λ other e. let same = ends_there other e in let f = is.0 in omega (arith, at, same, f);
  }
