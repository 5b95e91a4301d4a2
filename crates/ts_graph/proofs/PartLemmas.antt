-- Ways that are made longer by a link: the steps of the loops, and how far down they can go.
use Rattle.std.proofs.Common.{◌≡◌, ◌∙◌, sym, ap, refl, subst, ℕ, zero, suc, ◌+◌, ◌<◌, ◌≤◌, inl, inr, Bool, true, false, true≢false, List, [], ◌∷◌, ◌++◌, append-nil, append_assoc, length, take, map, get_or, slice_get, Option, Some, nat_eq, arith}
use Rattle.std.specs.Prelude.{All, if◌then◌else◌}
use Rattle.std.specs.List.{flat_map}
use Rattle.std.specs.Option.{option_map_or}
use Rattle.std.proofs.lemmas.List.Elements.{Contains-get_or}
use Rattle.spec_graph.specs.declared.graph.Head.{Head}
use Rattle.spec_graph.specs.declared.graph.Link.{Link}
use Rattle.ts_graph.specs.declared.ways.Part.{Part}
use Rattle.ts_graph.specs.Down.{links_down, links_from, place_at, HoldsEachOnce}
use Rattle.ts_graph.specs.Parts.{below_at, way_of, part_of, next_of, nexts_of, all_nexts, undone_of, undone_among, leads, undone_to, all_undone, CanGoOn, highest}
use Rattle.ts_graph.proofs.ListLemmas.{Has, has_contained, has_flat, has_mapped}
use Rattle.ts_graph.proofs.DownLemmas.{down_has}

-- ---- all links down from one way

-- What was found, with what the links from here on give, is what was there before, with what all
-- links down give.
pub record Lengthens (A : Type 0) (f : Part → List A) (links : List Link) (p : Part) (next : Option ℕ) (before found : List A) : Type 0 where
  pub is : found ++ flat_map f (map (next_of links p) (links_from links p.way.below next)) ≡ before ++ flat_map f (nexts_of links p)

module _ {A : Type 0} (f : Part → List A) (links : List Link) (p : Part) where
  pub lengthens_first : (next : Option ℕ) (before : List A) → links_from links p.way.below next ≡ links_down links p.way.below → Lengthens A f links p next before before
  lengthens_first next before is = record { is = ap (λ (ks : List ℕ). before ++ flat_map f (map (next_of links p) ks)) is }

  pub lengthens_more : (k : ℕ) (next : Option ℕ) (before found new : List A) → links_from links p.way.below next ≡ links_down (take k links) p.way.below → Lengthens A f links p (Some k) before found → new ≡ found ++ f (next_of links p k) → Lengthens A f links p next before new
  lengthens_more k next before found new goes so_far is = record {
    is =
        ap (λ (xs : List A). xs ++ flat_map f (map (next_of links p) (links_from links p.way.below next))) is
        ∙ append_assoc found (f (next_of links p k)) (flat_map f (map (next_of links p) (links_from links p.way.below next)))
        ∙ ap (λ (ks : List ℕ). found ++ (f (next_of links p k) ++ flat_map f (map (next_of links p) ks))) goes
        ∙ so_far.is;
  }

-- ---- which ways these are

pub undone_has : (parts : List Part) (q : Part) → Has (undone_among parts) q → Has parts q × (0 < q.wanting)
undone_has parts q h =
    let r = has_flat undone_of parts q h in
    by r.0 r.1 (nat_eq r.0.wanting 0) refl r.2
  where
    some : (n : ℕ) → nat_eq n 0 ≡ false → 0 < n
    some zero e = absurd (true≢false e)
    some (suc n) e = omega arith

    by : (p : Part) → Has parts p → (b : Bool) → nat_eq p.wanting 0 ≡ b → Has (if b then [] else p ∷ []) q → Has parts q × (0 < q.wanting)
    by p there true e w = absurd w
    by p there false e (inr w) = absurd w
    by p there false e (inl is) = (subst (λ (x : Part). Has parts x) is there, subst (λ (x : Part). 0 < x.wanting) is (some p.wanting e))

-- the same of those that may lead to a place
pub all_undone_has : (heads : List Head) (place : Option ℕ) (parts : List Part) (q : Part) → Has (all_undone heads place parts) q → Has parts q × (0 < q.wanting)
all_undone_has heads place parts q h =
    let r = has_flat (undone_to heads place) parts q h in
    by r.0 r.1 (leads heads place r.0.way.below r.0.wanting) r.2
  where
    only : (p : Part) → Has parts p → Has (p ∷ []) q → Has parts q
    only p there (inl e) = subst (λ (x : Part). Has parts x) e there
    only p there (inr f) = absurd f

    by : (p : Part) → Has parts p → (b : Bool) → Has (if b then undone_of p else []) q → Has parts q × (0 < q.wanting)
    by p there true w =
        let u = undone_has (p ∷ []) q (subst (λ (xs : List Part). Has xs q) (sym (append-nil (undone_of p))) w) in
        (only p there u.0, u.1)
    by p there false w = absurd w

-- a way with one more link, taken apart
pub record IsNext (links : List Link) (parts : List Part) (q : Part) : Type 0 where
  pub part : Part
  pub there : Has parts part
  pub number : ℕ
  pub link : Link
  pub at : slice_get links number ≡ Some link
  pub above_is : link.above ≡ part.way.below
  pub down : Has (links_down links part.way.below) number
  pub is : next_of links part number ≡ q

pub next_has : (links : List Link) (parts : List Part) (q : Part) → Has (all_nexts links parts) q → IsNext links parts q
next_has links parts q h =
    let r = has_flat (nexts_of links) parts q h in
    let k = has_mapped (next_of links r.0) (links_down links r.0.way.below) q r.2 in
    let l = down_has links r.0.way.below k.0 k.1 in
    record { part = r.0; there = r.1; number = k.0; link = l.0; at = l.1; above_is = l.2; down = k.1; is = k.2 }

pub below_is : (links : List Link) (k : ℕ) (l : Link) → slice_get links k ≡ Some l → below_at links k ≡ l.below
below_is links k l at = ap (λ (o : Option Link). option_map_or (λ (m : Link). m.below) o 0) at

read_link : (links : List Link) (k : ℕ) → k < length links → (l : Link) × (slice_get links k ≡ Some l)
read_link [] k low = absurd (omega (arith, low))
read_link (l ∷ links) zero low = (l, refl)
read_link (l ∷ links) (suc k) low = read_link links k (omega (arith, low))

pub behind_is : (links : List Link) (k : ℕ) → k < length links → (head : ℕ) → ((l : Link) → slice_get links k ≡ Some l → head ≡ l.below) → below_at links k ≡ head
behind_is links k low head is = let l = read_link links k low in below_is links k l.0 l.1 ∙ sym (is l.0 l.1)

pub behind_low : (heads : List Head) (links : List Link) → HoldsEachOnce heads links → (k : ℕ) → k < length links → (head : ℕ) → ((l : Link) → slice_get links k ≡ Some l → head ≡ l.below) → head < length heads
behind_low heads links each k low head is = let l = read_link links k low in subst (λ (h : ℕ). h < length heads) (sym (is l.0 l.1)) (each.below_there k l.0 l.1)

next_below : (links : List Link) (parts : List Part) (q : Part) (n : IsNext links parts q) → q.way.below ≡ n.link.below
next_below links parts q n = sym (ap (λ (p : Part). p.way.below) n.is) ∙ below_is links n.number n.link n.at

-- all of them can go on
module _ (heads : List Head) (links : List Link) (each : HoldsEachOnce heads links) (place : Option ℕ) (parts : List Part) where
  pub nexts_go_on : (q : Part) → Has (all_undone heads place (all_nexts links parts)) q → CanGoOn heads q
  nexts_go_on q h =
      let u = all_undone_has heads place (all_nexts links parts) q h in
      let n = next_has links parts q u.0 in
      let low = each.below_there n.number n.link n.at in
      (subst (λ (b : ℕ). b < length heads) (sym (next_below links parts q n)) low, u.1)

  -- ---- and they are lower

  member_low : (ps : List Part) (p : Part) → Has ps p → place_at heads p.way.below + 1 ≤ highest heads ps
  member_low [] p h = absurd h
  member_low (x ∷ ps) p (inl e) = let f : place_at heads x.way.below ≡ place_at heads p.way.below = ap (λ (y : Part). place_at heads y.way.below) e in omega arith
  member_low (x ∷ ps) p (inr h) = let f = member_low ps p h in omega arith

  all_low : (ps : List Part) (n : ℕ) → ((p : Part) → Has ps p → place_at heads p.way.below + 1 ≤ n) → highest heads ps ≤ n
  all_low [] n each_low = omega arith
  all_low (x ∷ ps) n each_low =
      let f = each_low x (inl refl) in
      let g = all_low ps n (λ p h. each_low p (inr h)) in
      omega arith

  next_low : (q : Part) → Has (all_undone heads place (all_nexts links parts)) q → place_at heads q.way.below + 2 ≤ highest heads parts
  next_low q h =
      let u = all_undone_has heads place (all_nexts links parts) q h in
      let n = next_has links parts q u.0 in
      let falls = each.falls n.number n.link n.at in
      let above = member_low parts n.part n.there in
      let e : place_at heads n.link.above ≡ place_at heads n.part.way.below = ap (λ (x : ℕ). place_at heads x) n.above_is in
      let f : place_at heads q.way.below ≡ place_at heads n.link.below = ap (λ (x : ℕ). place_at heads x) (next_below links parts q n) in
      omega arith

  pub highest_falls : (p : Part) → Has parts p → highest heads (all_undone heads place (all_nexts links parts)) < highest heads parts
  highest_falls p there = by (highest heads parts) refl
    where
      by : (n : ℕ) → highest heads parts ≡ n → highest heads (all_undone heads place (all_nexts links parts)) < highest heads parts
      by zero e = absurd (let f = member_low parts p there in omega arith)
      by (suc n) e =
          let f = all_low (all_undone heads place (all_nexts links parts)) n (λ q h. let g = next_low q h in omega arith) in
          omega arith

pub all_has : {X : Type 0} (P : X → Type 0) (xs : List X) → ((x : X) → Has xs x → P x) → All P xs
all_has P xs each k d low = each (get_or xs k d) (has_contained xs (get_or xs k d) (Contains-get_or xs k d low))

-- the way of no link can go on, where it wants more
pub first_goes_on : (heads : List Head) (place : Option ℕ) (h count : ℕ) (p : Part) (parts : List Part) → p ≡ part_of (way_of [] h) count → parts ≡ undone_to heads place p → h < length heads → (q : Part) → Has parts q → CanGoOn heads q
first_goes_on heads place h count p parts p_is is low q there =
    let u = all_undone_has heads place (p ∷ []) q (subst (λ (xs : List Part). Has xs q) (is ∙ sym (append-nil (undone_to heads place p))) there) in
    (by u.0, u.1)
  where
    by : Has (p ∷ []) q → q.way.below < length heads
    by (inl e) = subst (λ (x : Part). x.way.below < length heads) e (subst (λ (x : Part). x.way.below < length heads) (sym p_is) low)
    by (inr w) = absurd w

-- a list that is not empty has a member
pub some_member : {X : Type 0} (xs : List X) → 0 < length xs → (x : X) × Has xs x
some_member [] low = absurd (omega (arith, low))
some_member (x ∷ xs) low = (x, inl refl)

pub no_member : {X : Type 0} (xs : List X) → length xs ≡ 0 → xs ≡ []
no_member [] e = refl
no_member (x ∷ xs) e = absurd (omega (arith, e))
