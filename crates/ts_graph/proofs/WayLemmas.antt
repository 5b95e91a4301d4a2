-- All ways down that end where they are asked for are listed: each that is done, and each that is
-- under way, is one; each other way goes on from one that is under way.
use Rattle.std.proofs.Common.{◌≡◌, ◌∙◌, sym, ap, refl, subst, ℕ, ◌+◌, ◌-◌, ◌<◌, ◌≤◌, ◌⊎◌, inl, inr, Bool, true, false, true≢false, List, [], ◌∷◌, ◌++◌, append-nil, append_assoc, length, length-append, slice_get, Option, Some, None, nat_eq, nat_lt, arith}
use Rattle.std.specs.Prelude.{if◌then◌else◌}
use Rattle.std.specs.List.{Contains, flat_map}
use Rattle.std.specs.Option.{option_map_or}
use Rattle.std.proofs.lemmas.Bool.{eq-eqb, eqb-true, lt-ltb, le-ltb}
use Rattle.std.proofs.lemmas.List.{map-append}
use Rattle.spec_trees.specs.declared.tree.Tree.{Tree}
use Rattle.spec_trees.specs.Trees.{symbol_of, is_extra_node}
use Rattle.spec_trees.specs.Made.{filling, EndsFilled}
use Rattle.spec_graph.specs.declared.graph.Head.{Head}
use Rattle.spec_graph.specs.declared.graph.Link.{Link}
use Rattle.spec_graph.specs.Links.{IsWay, way_trees}
use Rattle.ts_graph.specs.declared.ways.Way.{Way}
use Rattle.ts_graph.specs.declared.ways.Part.{Part}
use Rattle.ts_graph.specs.Down.{links_down, place_at, HoldsEachOnce}
use Rattle.ts_graph.specs.Ways.{AreAt, TakesFilled, ListsWays, ListsWaysTo}
use Rattle.ts_graph.specs.Parts.{wanting_past, way_of, part_of, next_of, nexts_of, all_nexts, done_of, undone_of, done_among, undone_among, leads, done_to, undone_to, all_done, all_undone, EndsAt, ListsWaysIn}
use Rattle.ts_graph.proofs.ListLemmas.{Has, Apart, has_left, has_right, has_cases, has_at, at_has, has_contained, contained_has, has_flat, flat_has, has_mapped, mapped_has, apart_append, apart_flat, apart_map, apart_places, same_last}
use Rattle.ts_graph.proofs.DownLemmas.{down_is, down_apart}
use Rattle.ts_graph.proofs.PartLemmas.{IsNext, next_has, below_is, undone_has}

-- ---- the links of numbers

at_same : (links : List Link) (ns : List ℕ) (t u : List Link) → AreAt links ns t → AreAt links ns u → t ≡ u
at_same links [] [] [] a b = refl
at_same links [] [] (m ∷ u) a b = absurd b
at_same links [] (l ∷ t) u a b = absurd a
at_same links (k ∷ ns) [] u a b = absurd a
at_same links (k ∷ ns) (l ∷ t) [] a b = absurd b
at_same links (k ∷ ns) (l ∷ t) (m ∷ u) a b =
    let e : Some l ≡ Some m = sym a.0 ∙ b.0 in
    let first : l ≡ m = cc in
    let rest = at_same links ns t u a.1 b.1 in
    ap (λ (x : Link). x ∷ t) first ∙ ap (λ (xs : List Link). m ∷ xs) rest

pub at_more : (links : List Link) (ns : List ℕ) (t : List Link) (k : ℕ) (l : Link) → AreAt links ns t → slice_get links k ≡ Some l → AreAt links (ns ++ k ∷ []) (t ++ l ∷ [])
at_more links [] [] k l a e = (e, tt)
at_more links [] (m ∷ t) k l a e = absurd a
at_more links (n ∷ ns) [] k l a e = absurd a
at_more links (n ∷ ns) (m ∷ t) k l a e = (a.0, at_more links ns t k l a.1 e)

way_more : (links : List Link) (h b : ℕ) (t : List Link) (l : Link) → IsWay links h t b → Contains links l → l.above ≡ b → IsWay links h (t ++ l ∷ []) l.below
way_more links h b [] l is there above = (there, above ∙ sym is, refl)
way_more links h b (m ∷ t) l is there above = (is.0, is.1, way_more links m.below b t l is.2 there above)

same_below : (links : List Link) (h b c : ℕ) (t : List Link) → IsWay links h t b → IsWay links h t c → b ≡ c
same_below links h b c [] is other = sym is ∙ other
same_below links h b c (m ∷ t) is other = same_below links m.below b c t is.2 other.2

-- ---- how many are no extras

abbrev pub filled : List Link → ℕ
filled t = length (filling (way_trees t))

-- how many the link alone counts for
abbrev pub one : Link → ℕ
one l = if is_extra_node l.tree then 0 else 1

pub filled_first : (l : Link) (t : List Link) → filled (l ∷ t) ≡ one l + filled t
filled_first l t = by (is_extra_node l.tree)
  where
    by : (b : Bool) → length (if b then filling (way_trees t) else symbol_of l.tree ∷ filling (way_trees t)) ≡ (if b then 0 else 1) + filled t
    by true = omega arith
    by false = omega arith

filled_both : (t u : List Link) → filled (t ++ u) ≡ filled t + filled u
filled_both [] u = omega arith
filled_both (l ∷ t) u =
    let a = filled_first l (t ++ u) in
    let b = filled_first l t in
    let c = filled_both t u in
    omega arith

filled_more : (t : List Link) (l : Link) → filled (t ++ l ∷ []) ≡ filled t + one l
filled_more t l =
    let a = filled_both t (l ∷ []) in
    let b = filled_first l [] in
    omega arith

pub no_extra : (l : Link) → 0 < one l → is_extra_node l.tree ≡ false
no_extra l some = by (is_extra_node l.tree) refl
  where
    by : (b : Bool) → is_extra_node l.tree ≡ b → is_extra_node l.tree ≡ false
    by true e = absurd (let f : one l ≡ 0 = ap (λ (b : Bool). if b then 0 else 1) e in omega arith)
    by false e = e

counts_one : (l : Link) → is_extra_node l.tree ≡ false → one l ≡ 1
counts_one l e = ap (λ (b : Bool). if b then 0 else 1) e

pub wants : (links : List Link) (k : ℕ) (l : Link) (n : ℕ) → slice_get links k ≡ Some l → 0 < n → wanting_past links n k + one l ≡ n
wants links k l n at some = by (is_extra_node l.tree) refl
  where
    past : wanting_past links n k ≡ (if is_extra_node l.tree then n else n - 1)
    past = ap (λ (o : Option Link). option_map_or (λ (m : Link). if is_extra_node m.tree then n else n - 1) o n) at

    by : (b : Bool) → is_extra_node l.tree ≡ b → wanting_past links n k + one l ≡ n
    by true e =
        let f : wanting_past links n k ≡ n = past ∙ ap (λ (b : Bool). if b then n else n - 1) e in
        let g : one l ≡ 0 = ap (λ (b : Bool). if b then 0 else 1) e in
        omega arith
    by false e =
        let f : wanting_past links n k ≡ n - 1 = past ∙ ap (λ (b : Bool). if b then n else n - 1) e in
        let g : one l ≡ 1 = ap (λ (b : Bool). if b then 0 else 1) e in
        omega arith

-- ---- the lowest tree

trees_more : (t : List Link) (l : Link) → way_trees (t ++ l ∷ []) ≡ way_trees t ++ l.tree ∷ []
trees_more t l = map-append (λ (m : Link). m.tree) t (l ∷ [])

ends_more : (t : List Link) (l : Link) → is_extra_node l.tree ≡ false → EndsFilled (way_trees (t ++ l ∷ []))
ends_more t l e before last is =
    let same = same_last (way_trees t) before l.tree last (sym (trees_more t l) ∙ is) in
    subst (λ (x : Tree). is_extra_node x ≡ false) same.1 e

-- a list that is not empty has a last element
record EndsIn (l : Link) (t : List Link) : Type 0 where
  front : List Link
  last : Link
  is : l ∷ t ≡ front ++ last ∷ []

ends_in : (l : Link) (t : List Link) → EndsIn l t
ends_in l [] = record { front = []; last = l; is = refl }
ends_in l (m ∷ t) = let r = ends_in m t in record { front = l ∷ r.front; last = r.last; is = ap (λ (xs : List Link). l ∷ xs) r.is }

-- where all are counted, and the lowest would count, nothing is left
pub ends_rest : (front rest : List Link) → EndsFilled (way_trees (front ++ rest)) → filled rest ≡ 0 → rest ≡ []
ends_rest front [] ends none = refl
ends_rest front (l ∷ rest) ends none =
    let r = ends_in l rest in
    let whole : front ++ (l ∷ rest) ≡ (front ++ r.front) ++ r.last ∷ [] = ap (λ (xs : List Link). front ++ xs) r.is ∙ sym (append_assoc front r.front (r.last ∷ [])) in
    let last = ends (way_trees (front ++ r.front)) r.last.tree (ap (λ (xs : List Link). way_trees xs) whole ∙ trees_more (front ++ r.front) r.last) in
    let a : filled (l ∷ rest) ≡ filled (r.front ++ r.last ∷ []) = ap (λ (xs : List Link). filled xs) r.is in
    let b = filled_more r.front r.last in
    let c = counts_one r.last last in
    absurd (omega arith)

-- ---- ways under way

-- a way of so many links, that was counted; where it wants no more, its lowest tree is no extra
record IsPart (links : List Link) (h count level : ℕ) (p : Part) : Type 0 where
  taken : List Link
  at : AreAt links p.way.links taken
  way : IsWay links h taken p.way.below
  counted : filled taken + p.wanting ≡ count
  ends : p.wanting ≡ 0 → EndsFilled (way_trees taken)
  long : length p.way.links ≡ level

-- a way goes on from one of these
record GoesOn (links : List Link) (parts : List Part) (taken : List Link) (b : ℕ) : Type 0 where
  part : Part
  there : Has parts part
  front : List Link
  rest : List Link
  at : AreAt links part.way.links front
  is : taken ≡ front ++ rest
  way : IsWay links part.way.below rest b

-- a way is among those that are done
record IsDone (links : List Link) (done : List Way) (taken : List Link) (b : ℕ) : Type 0 where
  way : Way
  there : Has done way
  at : AreAt links way.links taken
  below : way.below ≡ b

-- Each way that is done is shorter than those under way, which may be done too. Only ways to some
-- heads are meant.
record Spreads (W : ℕ → Type 0) (links : List Link) (h count : ℕ) (parts : List Part) (done : List Way) : Type 0 where
  level : ℕ
  each_part : (p : Part) → Has parts p → IsPart links h count level p
  each_done : (w : Way) → Has done w → (taken : List Link) × AreAt links w.links taken × TakesFilled links h count taken w.below × W w.below
  short : (w : Way) → Has done w → length w.links < level
  parts_apart : Apart parts
  done_apart : Apart done
  every : (taken : List Link) (b : ℕ) → TakesFilled links h count taken b → W b → IsDone links done taken b ⊎ GoesOn links parts taken b

-- The same where those under way want more.
pub record Searches (W : ℕ → Type 0) (links : List Link) (h count : ℕ) (parts : List Part) (done : List Way) : Type 0 where
  level : ℕ
  each_part : (p : Part) → Has parts p → IsPart links h count level p
  pub more : (p : Part) → Has parts p → 0 < p.wanting
  each_done : (w : Way) → Has done w → (taken : List Link) × AreAt links w.links taken × TakesFilled links h count taken w.below × W w.below
  short : (w : Way) → Has done w → length w.links ≤ level
  parts_apart : Apart parts
  done_apart : Apart done
  every : (taken : List Link) (b : ℕ) → TakesFilled links h count taken b → W b → IsDone links done taken b ⊎ GoesOn links parts taken b

-- ---- the start

pub none_ends : EndsFilled []
none_ends [] last e = absurd (let f : [] ≡ last ∷ [] = e in cc)
none_ends (x ∷ before) last e = absurd (let f : [] ≡ x ∷ (before ++ last ∷ []) = e in cc)

module _ (W : ℕ → Type 0) (links : List Link) (h count : ℕ) where
  spreads_first : Spreads W links h count (part_of (way_of [] h) count ∷ []) []
  spreads_first = record {
    level = 0;
    each_part = λ p w. by p w;
    each_done = λ w there. absurd there;
    short = λ w there. absurd there;
    parts_apart = (λ w. w, tt);
    done_apart = tt;
    every = λ taken b takes meant. inr record {
      part = part_of (way_of [] h) count;
      there = inl refl;
      front = [];
      rest = taken;
      at = tt;
      is = refl;
      way = takes.way;
    };
  }
    where
      own : IsPart links h count 0 (part_of (way_of [] h) count)
      own = record {
        taken = [];
        at = tt;
        way = refl;
        counted = omega arith;
        ends = λ e. none_ends;
        long = refl;
      }

      by : (p : Part) → Has (part_of (way_of [] h) count ∷ []) p → IsPart links h count 0 p
      by p (inl e) = subst (λ (x : Part). IsPart links h count 0 x) e own
      by p (inr w) = absurd w

-- ---- sorting out

done_has : (parts : List Part) (w : Way) → Has (done_among parts) w → (p : Part) × Has parts p × (p.wanting ≡ 0) × (p.way ≡ w)
done_has parts w h =
    let r = has_flat done_of parts w h in
    by r.0 r.1 (nat_eq r.0.wanting 0) refl r.2
  where
    by : (p : Part) → Has parts p → (b : Bool) → nat_eq p.wanting 0 ≡ b → Has (if b then p.way ∷ [] else []) w → (q : Part) × Has parts q × (q.wanting ≡ 0) × (q.way ≡ w)
    by p there true e (inl is) = (p, there, eqb-true p.wanting 0 e, is)
    by p there true e (inr f) = absurd f
    by p there false e f = absurd f

one_done : (p : Part) (w : Way) → Has (done_of p) w → (p.wanting ≡ 0) × (p.way ≡ w)
one_done p w h = by (nat_eq p.wanting 0) refl h
  where
    by : (b : Bool) → nat_eq p.wanting 0 ≡ b → Has (if b then p.way ∷ [] else []) w → (p.wanting ≡ 0) × (p.way ≡ w)
    by true e (inl is) = (eqb-true p.wanting 0 e, is)
    by true e (inr f) = absurd f
    by false e f = absurd f

one_undone : (p q : Part) → Has (undone_of p) q → p ≡ q
one_undone p q h = by (nat_eq p.wanting 0) h
  where
    by : (b : Bool) → Has (if b then [] else p ∷ []) q → p ≡ q
    by true f = absurd f
    by false (inl is) = is
    by false (inr f) = absurd f

apart_done : (p : Part) → Apart (done_of p)
apart_done p = by (nat_eq p.wanting 0)
  where
    by : (b : Bool) → Apart (if b then p.way ∷ [] else [])
    by true = (λ w. w, tt)
    by false = tt

apart_undone : (p : Part) → Apart (undone_of p)
apart_undone p = by (nat_eq p.wanting 0)
  where
    by : (b : Bool) → Apart (if b then [] else p ∷ [])
    by true = tt
    by false = (λ w. w, tt)

-- a way is known by its links and what it wants
same_part : (p q : Part) → p.way.links ≡ q.way.links → p.way.below ≡ q.way.below → p.wanting ≡ q.wanting → p ≡ q
same_part p q a b c =
    ap (λ (ns : List ℕ). part_of (way_of ns p.way.below) p.wanting) a
    ∙ ap (λ (n : ℕ). part_of (way_of q.way.links n) p.wanting) b
    ∙ ap (λ (n : ℕ). part_of (way_of q.way.links q.way.below) n) c

module _ (W : ℕ → Type 0) (links : List Link) (h count : ℕ) (parts : List Part) (done : List Way) (s : Spreads W links h count parts done) where
  -- where a way wants no more, nothing is left of one that goes on from it
  none_left : (taken : List Link) (b : ℕ) → TakesFilled links h count taken b → (g : GoesOn links parts taken b) → g.part.wanting ≡ 0 → g.rest ≡ []
  none_left taken b takes g z =
      let p = s.each_part g.part g.there in
      let same : p.taken ≡ g.front = at_same links g.part.way.links p.taken g.front p.at g.at in
      let a = p.counted in
      let c : filled p.taken ≡ filled g.front = ap (λ (t : List Link). filled t) same in
      let d : filled taken ≡ filled (g.front ++ g.rest) = ap (λ (t : List Link). filled t) g.is in
      let f = takes.filled in
      let both = filled_both g.front g.rest in
      ends_rest g.front g.rest (subst (λ (t : List Link). EndsFilled (way_trees t)) g.is takes.ends) (omega arith)

  -- and where nothing is left, it wants no more
  wants_none : (taken : List Link) (b : ℕ) → TakesFilled links h count taken b → (g : GoesOn links parts taken b) → g.rest ≡ [] → g.part.wanting ≡ 0
  wants_none taken b takes g e =
      let p = s.each_part g.part g.there in
      let same : p.taken ≡ g.front = at_same links g.part.way.links p.taken g.front p.at g.at in
      let a = p.counted in
      let c : filled p.taken ≡ filled g.front = ap (λ (t : List Link). filled t) same in
      let d : filled taken ≡ filled (g.front ++ g.rest) = ap (λ (t : List Link). filled t) g.is in
      let f = takes.filled in
      let both = filled_both g.front g.rest in
      let none : filled g.rest ≡ 0 = ap (λ (t : List Link). filled t) e in
      omega arith

  done_now : (w : Way) → Has (done_among parts) w → (p : Part) × Has parts p × (p.wanting ≡ 0) × (p.way ≡ w)
  done_now = done_has parts

  long_now : (w : Way) → Has (done_among parts) w → length w.links ≡ s.level
  long_now w there =
      let r = done_now w there in
      ap (λ (x : Way). length x.links) (sym r.3) ∙ (s.each_part r.0 r.1).long

  takes_now : ((p : Part) → Has parts p → p.wanting ≡ 0 → W p.way.below) → (w : Way) → Has (done_among parts) w → (taken : List Link) × AreAt links w.links taken × TakesFilled links h count taken w.below × W w.below
  takes_now meant w there =
      let r = done_now w there in
      let p = s.each_part r.0 r.1 in
      let counted = p.counted in
      let none = r.2 in
      subst (λ (x : Way). (taken : List Link) × AreAt links x.links taken × TakesFilled links h count taken x.below × W x.below) r.3
      (p.taken, p.at, record { way = p.way; filled = omega arith; ends = p.ends r.2 }, meant r.0 r.1 r.2)

  -- where those that want no more end as is meant
  sorted_out : ((p : Part) → Has parts p → p.wanting ≡ 0 → W p.way.below) → Searches W links h count (undone_among parts) (done ++ done_among parts)
  sorted_out meant = record {
    level = s.level;
    each_part = λ p there. s.each_part p (undone_has parts p there).0;
    more = λ p there. (undone_has parts p there).1;
    each_done = λ w there. by_each w (has_cases done (done_among parts) w there);
    short = λ w there. by_short w (has_cases done (done_among parts) w there);
    parts_apart = apart_flat undone_of parts s.parts_apart (λ p there. apart_undone p) (λ p q r a b u v. one_undone p r u ∙ sym (one_undone q r v));
    done_apart =
        apart_append done (done_among parts) s.done_apart
        (apart_flat done_of parts s.parts_apart (λ p there. apart_done p) (λ p q w a b u v.
        let x = one_done p w u in
        let y = one_done q w v in
        let way : p.way ≡ q.way = x.1 ∙ sym y.1 in
        same_part p q (ap (λ (z : Way). z.links) way) (ap (λ (z : Way). z.below) way) (x.0 ∙ sym y.0)))
        (λ w u v. let a = s.short w u in let b = long_now w v in absurd (omega arith));
    every = λ taken b takes ends. by_every taken b takes (s.every taken b takes ends);
  }
    where
      by_each : (w : Way) → Has done w ⊎ Has (done_among parts) w → (taken : List Link) × AreAt links w.links taken × TakesFilled links h count taken w.below × W w.below
      by_each w (inl there) = s.each_done w there
      by_each w (inr there) = takes_now meant w there

      by_short : (w : Way) → Has done w ⊎ Has (done_among parts) w → length w.links ≤ s.level
      by_short w (inl there) = let a = s.short w there in omega arith
      by_short w (inr there) = let a = long_now w there in omega arith

      sorted : (taken : List Link) (b : ℕ) → TakesFilled links h count taken b → (g : GoesOn links parts taken b) → (z : Bool) → nat_eq g.part.wanting 0 ≡ z
          → IsDone links (done ++ done_among parts) taken b ⊎ GoesOn links (undone_among parts) taken b
      sorted taken b takes g true e =
          let none : g.rest ≡ [] = none_left taken b takes g (eqb-true g.part.wanting 0 e) in
          let whole : g.front ≡ taken = sym (append-nil g.front) ∙ ap (λ (t : List Link). g.front ++ t) (sym none) ∙ sym g.is in
          let way : IsWay links g.part.way.below [] b = subst (λ (t : List Link). IsWay links g.part.way.below t b) none g.way in
          let own : Has (done_of g.part) g.part.way = subst (λ (x : Bool). Has (if x then g.part.way ∷ [] else []) g.part.way) (sym e) (inl refl) in
          inl record {
            way = g.part.way;
            there = has_right done (done_among parts) g.part.way (flat_has done_of parts g.part g.part.way g.there own);
            at = subst (λ (t : List Link). AreAt links g.part.way.links t) whole g.at;
            below = way;
          }
      sorted taken b takes g false e =
          let own : Has (undone_of g.part) g.part = subst (λ (x : Bool). Has (if x then [] else g.part ∷ []) g.part) (sym e) (inl refl) in
          inr record {
            part = g.part;
            there = flat_has undone_of parts g.part g.part g.there own;
            front = g.front;
            rest = g.rest;
            at = g.at;
            is = g.is;
            way = g.way;
          }

      by_every : (taken : List Link) (b : ℕ) → TakesFilled links h count taken b → IsDone links done taken b ⊎ GoesOn links parts taken b
          → IsDone links (done ++ done_among parts) taken b ⊎ GoesOn links (undone_among parts) taken b
      by_every taken b takes (inl d) = inl record { way = d.way; there = has_left done (done_among parts) d.way d.there; at = d.at; below = d.below }
      by_every taken b takes (inr g) = sorted taken b takes g (nat_eq g.part.wanting 0) refl

-- ---- those that may lead where ways are to end

-- the way alone, where it may
abbrev kept_of : List Head → Option ℕ → Part → List Part
kept_of heads place p = if leads heads place p.way.below p.wanting then p ∷ [] else []

abbrev kept : List Head → Option ℕ → List Part → List Part
kept heads place parts = flat_map (kept_of heads place) parts

one_kept : (heads : List Head) (place : Option ℕ) (p q : Part) → Has (kept_of heads place p) q → (p ≡ q) × (leads heads place p.way.below p.wanting ≡ true)
one_kept heads place p q there = by (leads heads place p.way.below p.wanting) refl there
  where
    by : (b : Bool) → leads heads place p.way.below p.wanting ≡ b → Has (if b then p ∷ [] else []) q → (p ≡ q) × (leads heads place p.way.below p.wanting ≡ true)
    by true e (inl is) = (is, e)
    by true e (inr f) = absurd f
    by false e f = absurd f

kept_has : (heads : List Head) (place : Option ℕ) (parts : List Part) (q : Part) → Has (kept heads place parts) q → Has parts q × (leads heads place q.way.below q.wanting ≡ true)
kept_has heads place parts q there =
    let r = has_flat (kept_of heads place) parts q there in
    let k = one_kept heads place r.0 q r.2 in
    (subst (λ (x : Part). Has parts x) k.0 r.1, subst (λ (x : Part). leads heads place x.way.below x.wanting ≡ true) k.0 k.1)

has_kept : (heads : List Head) (place : Option ℕ) (parts : List Part) (p : Part) → Has parts p → leads heads place p.way.below p.wanting ≡ true → Has (kept heads place parts) p
has_kept heads place parts p there may =
    flat_has (kept_of heads place) parts p p there
    (subst (λ (b : Bool). Has (if b then p ∷ [] else []) p) (sym may) (inl refl))

apart_kept : (heads : List Head) (place : Option ℕ) (p : Part) → Apart (kept_of heads place p)
apart_kept heads place p = by (leads heads place p.way.below p.wanting)
  where
    by : (b : Bool) → Apart (if b then p ∷ [] else [])
    by true = (λ w. w, tt)
    by false = tt

undone_kept : (heads : List Head) (place : Option ℕ) (parts : List Part) → all_undone heads place parts ≡ undone_among (kept heads place parts)
undone_kept heads place [] = refl
undone_kept heads place (p ∷ parts) = by (undone_kept heads place parts) (leads heads place p.way.below p.wanting)
  where
    by : all_undone heads place parts ≡ undone_among (kept heads place parts) → (b : Bool) → (if b then undone_of p else []) ++ all_undone heads place parts ≡ undone_among ((if b then p ∷ [] else []) ++ kept heads place parts)
    by rest true = ap (λ (xs : List Part). undone_of p ++ xs) rest
    by rest false = rest

done_kept : (heads : List Head) (place : Option ℕ) (parts : List Part) → all_done heads place parts ≡ done_among (kept heads place parts)
done_kept heads place [] = refl
done_kept heads place (p ∷ parts) = by (done_kept heads place parts) (leads heads place p.way.below p.wanting)
  where
    by : all_done heads place parts ≡ done_among (kept heads place parts) → (b : Bool) → (if b then done_of p else []) ++ all_done heads place parts ≡ done_among ((if b then p ∷ [] else []) ++ kept heads place parts)
    by rest true = ap (λ (xs : List Way). done_of p ++ xs) rest
    by rest false = rest

-- heads on the way down stand ever lower
pub way_falls : (heads : List Head) (links : List Link) → HoldsEachOnce heads links → (h b : ℕ) (t : List Link) → IsWay links h t b → place_at heads b + length t ≤ place_at heads h
way_falls heads links each h b [] is = let e : place_at heads h ≡ place_at heads b = ap (λ (x : ℕ). place_at heads x) is in omega arith
way_falls heads links each h b (l ∷ t) is =
    let k = at_has links l (has_contained links l is.0) in
    let falls = each.falls k.0 l k.1 in
    let e : place_at heads l.above ≡ place_at heads h = ap (λ (x : ℕ). place_at heads x) is.1 in
    let rest = way_falls heads links each l.below b t is.2 in
    omega arith

-- a way that wants no more, and may lead there, ends there
leads_ends : (heads : List Head) (place : Option ℕ) (p : Part) → leads heads place p.way.below p.wanting ≡ true → p.wanting ≡ 0 → EndsAt heads place p.way.below
leads_ends heads None p may none = tt
leads_ends heads (Some place) p may none =
    eqb-true (place_at heads p.way.below) place
    (ap (λ (n : ℕ). if nat_eq n 0 then nat_eq (place_at heads p.way.below) place else nat_lt place (place_at heads p.way.below)) (sym none) ∙ may)

-- and one that may not does not
leads_not : (heads : List Head) (links : List Link) → HoldsEachOnce heads links → (place : Option ℕ) (p : Part) (rest : List Link) (b : ℕ) → leads heads place p.way.below p.wanting ≡ false → IsWay links p.way.below rest b
    → (p.wanting ≡ 0 → rest ≡ []) → (rest ≡ [] → p.wanting ≡ 0) → EndsAt heads place b → ⊥
leads_not heads links each None p rest b may way none_left wants_none ends = true≢false may
leads_not heads links each (Some place) p rest b may way none_left wants_none ends = by (nat_eq p.wanting 0) refl
  where
    h : ℕ
    h = p.way.below

    below : (t : List Link) → rest ≡ t → (nat_eq p.wanting 0 ≡ false) → place < place_at heads h
    below [] e some = absurd (true≢false (sym (eq-eqb p.wanting 0 (wants_none e)) ∙ some))
    below (l ∷ t) e some =
        let f = way_falls heads links each h b (l ∷ t) (subst (λ (u : List Link). IsWay links h u b) e way) in
        let at = ends in
        omega (arith, f, at)

    by : (z : Bool) → nat_eq p.wanting 0 ≡ z → ⊥
    by true e =
        let same : h ≡ b = subst (λ (u : List Link). IsWay links h u b) (none_left (eqb-true p.wanting 0 e)) way in
        let there : place_at heads h ≡ place = ap (λ (x : ℕ). place_at heads x) same ∙ ends in
        let is : nat_eq (place_at heads h) place ≡ false = ap (λ (z : Bool). if z then nat_eq (place_at heads h) place else nat_lt place (place_at heads h)) (sym e) ∙ may in
        true≢false (sym (eq-eqb (place_at heads h) place there) ∙ is)
    by false e =
        let is : nat_lt place (place_at heads h) ≡ false = ap (λ (z : Bool). if z then nat_eq (place_at heads h) place else nat_lt place (place_at heads h)) (sym e) ∙ may in
        true≢false (sym (lt-ltb place (place_at heads h) (below rest refl e)) ∙ is)

module _ (heads : List Head) (links : List Link) (each : HoldsEachOnce heads links) (place : Option ℕ) (h count : ℕ) (parts : List Part) (done : List Way) (s : Spreads (EndsAt heads place) links h count parts done) where
  spreads_kept : Spreads (EndsAt heads place) links h count (kept heads place parts) done
  spreads_kept = record {
    level = s.level;
    each_part = λ p there. s.each_part p (kept_has heads place parts p there).0;
    each_done = s.each_done;
    short = s.short;
    parts_apart =
        apart_flat (kept_of heads place) parts s.parts_apart (λ p there. apart_kept heads place p)
        (λ p q r a b u v. (one_kept heads place p r u).0 ∙ sym (one_kept heads place q r v).0);
    done_apart = s.done_apart;
    every = λ taken b takes ends. by_every taken b takes ends (s.every taken b takes ends);
  }
    where
      by_kept : (taken : List Link) (b : ℕ) → TakesFilled links h count taken b → EndsAt heads place b → (g : GoesOn links parts taken b) → (z : Bool) → leads heads place g.part.way.below g.part.wanting ≡ z → GoesOn links (kept heads place parts) taken b
      by_kept taken b takes ends g true may = record {
        part = g.part;
        there = has_kept heads place parts g.part g.there may;
        front = g.front;
        rest = g.rest;
        at = g.at;
        is = g.is;
        way = g.way;
      }
      by_kept taken b takes ends g false may =
          absurd (leads_not heads links each place g.part g.rest b may g.way
          (none_left (EndsAt heads place) links h count parts done s taken b takes g)
          (wants_none (EndsAt heads place) links h count parts done s taken b takes g) ends)

      by_every : (taken : List Link) (b : ℕ) → TakesFilled links h count taken b → EndsAt heads place b → IsDone links done taken b ⊎ GoesOn links parts taken b → IsDone links done taken b ⊎ GoesOn links (kept heads place parts) taken b
      by_every taken b takes ends (inl d) = inl d
      by_every taken b takes ends (inr g) = inr (by_kept taken b takes ends g (leads heads place g.part.way.below g.part.wanting) refl)

  kept_sorted : Searches (EndsAt heads place) links h count (all_undone heads place parts) (done ++ all_done heads place parts)
  kept_sorted =
      let sorted = sorted_out (EndsAt heads place) links h count (kept heads place parts) done spreads_kept
      (λ p there none. leads_ends heads place p (kept_has heads place parts p there).1 none) in
      subst (λ (ps : List Part). Searches (EndsAt heads place) links h count ps (done ++ all_done heads place parts)) (sym (undone_kept heads place parts))
      (subst (λ (ws : List Way). Searches (EndsAt heads place) links h count (undone_among (kept heads place parts)) (done ++ ws)) (sym (done_kept heads place parts)) sorted)

-- ---- one link more

module _ (W : ℕ → Type 0) (links : List Link) (h count : ℕ) (parts : List Part) (done : List Way) (s : Searches W links h count parts done) where
  next_part : (q : Part) → IsNext links parts q → IsPart links h count (s.level + 1) q
  next_part q n =
      let p = s.each_part n.part n.there in
      let b = below_is links n.number n.link n.at in
      let a = p.counted in
      let w = wants links n.number n.link n.part.wanting n.at (s.more n.part n.there) in
      let more = s.more n.part n.there in
      let f = filled_more p.taken n.link in
      let l = p.long in
      subst (λ (x : Part). IsPart links h count (s.level + 1) x) n.is record {
        taken = p.taken ++ n.link ∷ [];
        at = at_more links n.part.way.links p.taken n.number n.link p.at n.at;
        way = subst (λ (x : ℕ). IsWay links h (p.taken ++ n.link ∷ []) x) (sym b) (way_more links h n.part.way.below p.taken n.link p.way (contained_has links n.link (has_at links n.number n.link n.at)) n.above_is);
        counted = omega arith;
        ends = λ e. ends_more p.taken n.link (no_extra n.link (omega arith));
        long = omega (arith, length-append n.part.way.links (n.number ∷ []));
      }

  same_links : (p q : Part) → Has parts p → Has parts q → p.way.links ≡ q.way.links → p ≡ q
  same_links p q hp hq e =
      let a = s.each_part p hp in
      let b = s.each_part q hq in
      let same : a.taken ≡ b.taken = at_same links q.way.links a.taken b.taken (subst (λ (ns : List ℕ). AreAt links ns a.taken) e a.at) b.at in
      let ends = same_below links h p.way.below q.way.below b.taken (subst (λ (t : List Link). IsWay links h t p.way.below) same a.way) b.way in
      let c : filled a.taken ≡ filled b.taken = ap (λ (t : List Link). filled t) same in
      let d = a.counted in
      let f = b.counted in
      same_part p q e ends (omega arith)

  links_of_next : (p : Part) (q : Part) → Has (nexts_of links p) q → (k : ℕ) × (p.way.links ++ k ∷ [] ≡ q.way.links)
  links_of_next p q there =
      let k = has_mapped (next_of links p) (links_down links p.way.below) q there in
      (k.0, ap (λ (x : Part). x.way.links) k.2)

  spreads : Spreads W links h count (all_nexts links parts) done
  spreads = record {
    level = s.level + 1;
    each_part = λ q there. next_part q (next_has links parts q there);
    each_done = s.each_done;
    short = λ w there. let a = s.short w there in omega arith;
    parts_apart =
        apart_flat (nexts_of links) parts s.parts_apart
        (λ p there. apart_map (next_of links p) (links_down links p.way.below) (down_apart links p.way.below)
        (λ j k a b e. (same_last p.way.links p.way.links j k (ap (λ (x : Part). x.way.links) e)).1))
        (λ p q r a b u v.
        let x = links_of_next p r u in
        let y = links_of_next q r v in
        same_links p q a b (same_last p.way.links q.way.links x.0 y.0 (x.1 ∙ sym y.1)).0);
    done_apart = s.done_apart;
    every = λ taken b takes ends. by_every taken b takes (s.every taken b takes ends);
  }
    where
      further : (taken : List Link) (b : ℕ) → TakesFilled links h count taken b → (g : GoesOn links parts taken b) → (rest : List Link) → g.rest ≡ rest → GoesOn links (all_nexts links parts) taken b
      further taken b takes g [] e =
          let p = s.each_part g.part g.there in
          let same : p.taken ≡ g.front = at_same links g.part.way.links p.taken g.front p.at g.at in
          let a = p.counted in
          let c : filled p.taken ≡ filled g.front = ap (λ (t : List Link). filled t) same in
          let d : filled taken ≡ filled (g.front ++ g.rest) = ap (λ (t : List Link). filled t) g.is in
          let f = takes.filled in
          let both = filled_both g.front g.rest in
          let none : filled g.rest ≡ 0 = ap (λ (t : List Link). filled t) e in
          let more = s.more g.part g.there in
          absurd (omega arith)
      further taken b takes g (l ∷ rest) e =
          let way : IsWay links g.part.way.below (l ∷ rest) b = subst (λ (t : List Link). IsWay links g.part.way.below t b) e g.way in
          let k = at_has links l (has_contained links l way.0) in
          let below = below_is links k.0 l k.1 in
          record {
            part = next_of links g.part k.0;
            there = flat_has (nexts_of links) parts g.part (next_of links g.part k.0) g.there
                (mapped_has (next_of links g.part) (links_down links g.part.way.below) k.0 (down_is links g.part.way.below k.0 l k.1 way.1));
            front = g.front ++ l ∷ [];
            rest = rest;
            at = at_more links g.part.way.links g.front k.0 l g.at k.1;
            is = g.is ∙ ap (λ (t : List Link). g.front ++ t) e ∙ sym (append_assoc g.front (l ∷ []) rest);
            way = subst (λ (x : ℕ). IsWay links x rest b) (sym below) way.2;
          }

      by_every : (taken : List Link) (b : ℕ) → TakesFilled links h count taken b → IsDone links done taken b ⊎ GoesOn links parts taken b
          → IsDone links done taken b ⊎ GoesOn links (all_nexts links parts) taken b
      by_every taken b takes (inl d) = inl d
      by_every taken b takes (inr g) = inr (further taken b takes g g.rest refl)

-- ---- the loop

module _ (heads : List Head) (links : List Link) (each : HoldsEachOnce heads links) (place : Option ℕ) (h count : ℕ) where
  pub searches_first : (p : Part) (parts : List Part) (done : List Way) → p ≡ part_of (way_of [] h) count → parts ≡ [] ++ undone_to heads place p → done ≡ [] ++ done_to heads place p → Searches (EndsAt heads place) links h count parts done
  searches_first p parts done p_is parts_is done_is =
      let first = kept_sorted heads links each place h count (part_of (way_of [] h) count ∷ []) [] (spreads_first (EndsAt heads place) links h count) in
      let e = parts_is ∙ ap (λ (x : Part). undone_to heads place x) p_is ∙ sym (append-nil (undone_to heads place (part_of (way_of [] h) count))) in
      let f = done_is ∙ ap (λ (x : Part). done_to heads place x) p_is ∙ sym (append-nil (done_to heads place (part_of (way_of [] h) count))) in
      subst (λ (ps : List Part). Searches (EndsAt heads place) links h count ps done) (sym e)
      (subst (λ (ws : List Way). Searches (EndsAt heads place) links h count (all_undone heads place (part_of (way_of [] h) count ∷ [])) ws) (sym f) first)

  pub searches_more : (parts new : List Part) (done more : List Way) → Searches (EndsAt heads place) links h count parts done
      → new ≡ all_undone heads place (all_nexts links parts) → more ≡ done ++ all_done heads place (all_nexts links parts) → Searches (EndsAt heads place) links h count new more
  searches_more parts new done more s new_is more_is =
      let next = kept_sorted heads links each place h count (all_nexts links parts) done (spreads (EndsAt heads place) links h count parts done s) in
      subst (λ (ps : List Part). Searches (EndsAt heads place) links h count ps more) (sym new_is)
      (subst (λ (ws : List Way). Searches (EndsAt heads place) links h count (all_undone heads place (all_nexts links parts)) ws) (sym more_is) next)

  pub searches_last : (done : List Way) → Searches (EndsAt heads place) links h count [] done → ListsWaysIn heads links h count place done
  searches_last done s = record {
    each = λ w there. s.each_done w (has_contained done w there);
    all = λ taken b takes ends. by taken b (s.every taken b takes ends);
    once = λ i j w e f. apart_places done i j w s.done_apart e f;
  }
    where
      by : (taken : List Link) (b : ℕ) → IsDone links done taken b ⊎ GoesOn links [] taken b → (w : Way) × Contains done w × AreAt links w.links taken × (w.below ≡ b)
      by taken b (inl d) = (d.way, contained_has done d.way d.there, d.at, d.below)
      by taken b (inr g) = absurd g.there

-- ---- all of them, or those to a place

pub lists_all : (heads : List Head) (links : List Link) (h count : ℕ) (ways : List Way) → ListsWaysIn heads links h count None ways → ListsWays links h count ways
lists_all heads links h count ways lists = record {
  each = λ w there. let r = lists.each w there in (r.0, r.1, r.2);
  all = λ taken b takes. lists.all taken b takes tt;
  once = lists.once;
}

pub lists_to : (heads : List Head) (links : List Link) (h count place : ℕ) (ways : List Way) → ListsWaysIn heads links h count (Some place) ways → ListsWaysTo heads links h count place ways
lists_to heads links h count place ways lists = record { each = lists.each; all = lists.all; once = lists.once }

-- a head below a place leads there by no way
pub none_below : (heads : List Head) (place h wanting : ℕ) → place_at heads h < place → leads heads (Some place) h wanting ≡ false
none_below heads place h wanting low = by (nat_eq wanting 0)
  where
    other : (z : Bool) → nat_eq (place_at heads h) place ≡ z → nat_eq (place_at heads h) place ≡ false
    other true e = absurd (let f = eqb-true (place_at heads h) place e in omega (arith, low, f))
    other false e = e

    by : (z : Bool) → (if z then nat_eq (place_at heads h) place else nat_lt place (place_at heads h)) ≡ false
    by true = other (nat_eq (place_at heads h) place) refl
    by false = le-ltb place (place_at heads h) (omega (arith, low))
