-- The graph that is kept as cells stays sound by one more head, one more link, and a packed one.
use Rattle.std.proofs.Common.{◌≡◌, ◌∙◌, sym, ap, refl, subst, ℕ, zero, suc, ◌<◌, ◌≤◌, ◌⊎◌, inl, inr, Bool, true, false, true≢false, List, [], ◌∷◌, ◌++◌, length, length-append, take, set, slice_get, Option, Some, None, nat_eq, arith}
use Rattle.std.specs.Option.{option_map_or}
use Rattle.std.proofs.Math.ListN.{length-set}
use Rattle.std.proofs.lemmas.Bool.{eq-eqb, eqb-true}
use Rattle.std.proofs.lemmas.List.{length-map, map-append, take-append-le, take_all}
use Rattle.std.proofs.lemmas.Option.{slice_get_within}
use Rattle.ts_base.proofs.PlaceLemmas.{set_here, set_there, in_prefix, push_cases}
use Rattle.spec_graph.specs.declared.graph.Head.{Head}
use Rattle.spec_graph.specs.declared.graph.Link.{Link}
use Rattle.ts_graph.specs.declared.graph.Cell.{Cell}
use Rattle.ts_graph.specs.Down.{numbers_down, links_down, links_from, place_at, IsBetween, HasNone, HoldsEachOnce}
use Rattle.ts_graph.specs.declared.view.GraphView.{GraphView}
use Rattle.ts_graph.specs.Cells.{link_of, links_of, graph_of, IsSound}
use Rattle.ts_graph.proofs.ListLemmas.{mapped_at, at_mapped}
use Rattle.ts_graph.proofs.DownLemmas.{down_none, down_more, down_other, from_push, from_push_all, down_same, from_same, aboves}

-- ---- no head, and one more head

module _ (heads : List Head) (newest : List (Option ℕ)) (cells : List Cell) (s : IsSound heads newest cells) where
  -- a head that is not there yet has no link
  pub none_past : (h : ℕ) → length heads ≤ h → links_down (links_of cells) h ≡ []
  none_past h past = down_none (links_of cells) h (λ k l at is. let low = s.each_once.above_there k l at in absurd (omega arith))

  pub sound_room : (new : List (Option ℕ)) → new ≡ newest ++ None ∷ [] → IsSound heads new cells
  sound_room new is = subst (λ (xs : List (Option ℕ)). IsSound heads xs cells) (sym is) record {
    each_once = s.each_once;
    chained = s.chained;
    room = let low = s.room in omega (arith, length-append newest (None ∷ []));
    begins = λ h o at. by h o (push_cases newest None h o at);
  }
    where
      by : (h : ℕ) (o : Option ℕ) → ((h < length newest) × (slice_get newest h ≡ Some o)) ⊎ ((h ≡ length newest) × (None ≡ o)) → links_from (links_of cells) h o ≡ links_down (links_of cells) h
      by h o (inl w) = s.begins h o w.1
      by h o (inr w) =
          let low = s.room in
          let e = w.0 in
          subst (λ (p : Option ℕ). links_from (links_of cells) h p ≡ links_down (links_of cells) h) w.1 (sym (none_past h (omega arith)))

  place_grown : (head : Head) (h : ℕ) → h < length heads → place_at (heads ++ head ∷ []) h ≡ place_at heads h
  place_grown head h low = ap (λ (o : Option Head). option_map_or (λ (x : Head). x.place) o 0) (in_prefix heads (head ∷ []) h low)

  pub sound_head : (head : Head) (new : List Head) → new ≡ heads ++ head ∷ [] → length heads < length newest → IsSound new newest cells
  sound_head head new is low = subst (λ (xs : List Head). IsSound xs newest cells) (sym is) record {
    each_once = record {
      above_there = λ k l at. let a = s.each_once.above_there k l at in omega (arith, length-append heads (head ∷ []));
      below_there = λ k l at. let a = s.each_once.below_there k l at in omega (arith, length-append heads (head ∷ []));
      falls = λ k l at.
          let a = place_grown head l.above (s.each_once.above_there k l at) in
          let b = place_grown head l.below (s.each_once.below_there k l at) in
          let f = s.each_once.falls k l at in
          rw (a, b) f;
      one_each = s.each_once.one_each;
    };
    chained = s.chained;
    room = omega (arith, length-append heads (head ∷ []));
    begins = s.begins;
  }

pub sound_open : (heads : List Head) (newest spots : List (Option ℕ)) (cells : List Cell) → IsSound heads newest cells → (head : Head) (new : List Head)
    → spots ≡ newest ++ None ∷ [] → new ≡ heads ++ head ∷ [] → IsSound new spots cells
sound_open heads newest spots cells s head new is more =
    let room = s.room in
    let long : length spots ≡ length (newest ++ None ∷ []) = ap (λ (xs : List (Option ℕ)). length xs) is in
    let low : length heads < length spots = omega (arith, length-append newest (None ∷ [])) in
    sound_head heads spots cells (sound_room heads newest cells s spots is) head new more low

-- ---- one more link

module _ (heads : List Head) (newest : List (Option ℕ)) (cells : List Cell) (c : Cell) (s : IsSound heads newest cells)
    (above : c.above < length heads) (below : c.below < length heads) (falls : place_at heads c.below < place_at heads c.above)
    (none : HasNone (links_of cells) c.above c.below) (begin : links_from (links_of cells) c.above c.earlier ≡ links_down (links_of cells) c.above) where
  count : length (links_of cells) ≡ length cells
  count = length-map cells link_of

  pub links_pushed : links_of (cells ++ c ∷ []) ≡ links_of cells ++ link_of c ∷ []
  links_pushed = map-append link_of cells (c ∷ [])

  abbrev Chained : List Link → Type 0
  Chained ls = (k : ℕ) (d : Cell) → slice_get (cells ++ c ∷ []) k ≡ Some d → links_from ls d.above d.earlier ≡ links_down (take k ls) d.above

  chained : Chained (links_of cells ++ link_of c ∷ [])
  chained k d at = by (push_cases cells c k d at)
    where
      by : ((k < length cells) × (slice_get cells k ≡ Some d)) ⊎ ((k ≡ length cells) × (c ≡ d))
          → links_from (links_of cells ++ link_of c ∷ []) d.above d.earlier ≡ links_down (take k (links_of cells ++ link_of c ∷ [])) d.above
      by (inl w) =
          let low = w.0 in
          let many = count in
          let within : k ≤ length (links_of cells) = omega arith in
          from_push (links_of cells) (link_of c) d.above d.earlier k (s.chained k d w.1) within
          ∙ ap (λ (xs : List Link). links_down xs d.above) (sym (take-append-le k (links_of cells) (link_of c ∷ []) within))
      by (inr w) =
          let e = w.0 in
          let many = count in
          let within : k ≤ length (links_of cells) = omega arith in
          let past : length (links_of cells) ≤ k = omega arith in
          let all : take k (links_of cells ++ link_of c ∷ []) ≡ links_of cells = take-append-le k (links_of cells) (link_of c ∷ []) within ∙ take_all k (links_of cells) past in
          subst (λ (x : Cell). links_from (links_of cells ++ link_of c ∷ []) x.above x.earlier ≡ links_down (take k (links_of cells ++ link_of c ∷ [])) x.above) w.1
          (from_push_all (links_of cells) (link_of c) c.above c.earlier begin ∙ ap (λ (xs : List Link). links_down xs c.above) (sym all))

  abbrev Begins : List Link → Type 0
  Begins ls = (h : ℕ) (o : Option ℕ) → slice_get (set newest c.above (Some (length cells))) h ≡ Some o → links_from ls h o ≡ links_down ls h

  begins : Begins (links_of cells ++ link_of c ∷ [])
  begins h o at = by (nat_eq c.above h) refl
    where
      by : (b : Bool) → nat_eq c.above h ≡ b → links_from (links_of cells ++ link_of c ∷ []) h o ≡ links_down (links_of cells ++ link_of c ∷ []) h
      by true e =
          let same : c.above ≡ h = eqb-true c.above h e in
          let room = s.room in
          let here = subst (λ (n : ℕ). slice_get (set newest c.above (Some (length cells))) n ≡ Some (Some (length cells))) same (set_here newest c.above (Some (length cells)) (omega arith)) in
          let f : Some (Some (length cells)) ≡ Some o = sym here ∙ at in
          let g : Some (length cells) ≡ o = cc in
          let many = count in
          let all : take (length cells) (links_of cells ++ link_of c ∷ []) ≡ links_of cells = take-append-le (length cells) (links_of cells) (link_of c ∷ []) (omega arith) ∙ take_all (length cells) (links_of cells) (omega arith) in
          subst (λ (p : Option ℕ). links_from (links_of cells ++ link_of c ∷ []) h p ≡ links_down (links_of cells ++ link_of c ∷ []) h) g
          (ap (λ (xs : List Link). length cells ∷ links_down xs h) all
          ∙ ap (λ (n : ℕ). n ∷ links_down (links_of cells) h) (sym count)
          ∙ sym (down_more (links_of cells) (link_of c) h same))
      by false e =
          let other : c.above ≡ h → ⊥ = λ f. true≢false (sym (eq-eqb c.above h f) ∙ e) in
          let old : slice_get newest h ≡ Some o = sym (set_there newest c.above h (Some (length cells)) (λ f. other (sym f))) ∙ at in
          from_push_all (links_of cells) (link_of c) h o (s.begins h o old)
          ∙ sym (down_other (links_of cells) (link_of c) h other)

  -- a link was there, or it is the new one
  abbrev Cases : ℕ → Link → Type 0
  Cases k l = ((k < length (links_of cells)) × (slice_get (links_of cells) k ≡ Some l)) ⊎ ((k ≡ length (links_of cells)) × (link_of c ≡ l))

  both : (i a b : ℕ) (l m : Link) → slice_get (links_of cells) i ≡ Some l → l.above ≡ a → l.below ≡ b → link_of c ≡ m → m.above ≡ a → m.below ≡ b → ⊥
  both i a b l m at la lb is ma mb =
      none i record {
        link = l;
        at = at;
        above_is = la ∙ sym ma ∙ sym (ap (λ (x : Link). x.above) is);
        below_is = lb ∙ sym mb ∙ sym (ap (λ (x : Link). x.below) is);
      }

  each : HoldsEachOnce heads (links_of cells ++ link_of c ∷ [])
  each = record {
    above_there = λ k l at. by_above k l (push_cases (links_of cells) (link_of c) k l at);
    below_there = λ k l at. by_below k l (push_cases (links_of cells) (link_of c) k l at);
    falls = λ k l at. by_place k l (push_cases (links_of cells) (link_of c) k l at);
    one_each = λ j k a b p q. by_two j k a b p q (push_cases (links_of cells) (link_of c) j p.link p.at) (push_cases (links_of cells) (link_of c) k q.link q.at);
  }
    where
      by_above : (k : ℕ) (l : Link) → Cases k l → l.above < length heads
      by_above k l (inl w) = s.each_once.above_there k l w.1
      by_above k l (inr w) = subst (λ (m : Link). m.above < length heads) w.1 above

      by_below : (k : ℕ) (l : Link) → Cases k l → l.below < length heads
      by_below k l (inl w) = s.each_once.below_there k l w.1
      by_below k l (inr w) = subst (λ (m : Link). m.below < length heads) w.1 below

      by_place : (k : ℕ) (l : Link) → Cases k l → place_at heads l.below < place_at heads l.above
      by_place k l (inl w) = s.each_once.falls k l w.1
      by_place k l (inr w) = subst (λ (m : Link). place_at heads m.below < place_at heads m.above) w.1 falls

      by_two : (j k a b : ℕ) (p : IsBetween (links_of cells ++ link_of c ∷ []) a b j) (q : IsBetween (links_of cells ++ link_of c ∷ []) a b k) → Cases j p.link → Cases k q.link → j ≡ k
      by_two j k a b p q (inl v) (inl w) =
          s.each_once.one_each j k a b
          record { link = p.link; at = v.1; above_is = p.above_is; below_is = p.below_is }
          record { link = q.link; at = w.1; above_is = q.above_is; below_is = q.below_is }
      by_two j k a b p q (inl v) (inr w) = absurd (both j a b p.link q.link v.1 p.above_is p.below_is w.1 q.above_is q.below_is)
      by_two j k a b p q (inr v) (inl w) = absurd (both k a b q.link p.link w.1 q.above_is q.below_is v.1 p.above_is p.below_is)
      by_two j k a b p q (inr v) (inr w) = v.0 ∙ sym w.0

  pub sound_push : IsSound heads (set newest c.above (Some (length cells))) (cells ++ c ∷ [])
  sound_push = record {
    each_once = subst (λ (ls : List Link). HoldsEachOnce heads ls) (sym links_pushed) each;
    chained = subst Chained (sym links_pushed) chained;
    room = let low = s.room in omega (arith, length-set newest c.above (Some (length cells)));
    begins = subst Begins (sym links_pushed) begins;
  }

-- the same of the graph that contracts see
pub pushed : (heads : List Head) (newest : List (Option ℕ)) (cells : List Cell) (c : Cell) → IsSound heads newest cells
    → {base : ℕ} (g : GraphView) → graph_of heads (links_of cells) base ≡ g → (new : List Cell) (n : ℕ) → new ≡ cells ++ c ∷ [] → n ≡ length cells
    → c.above < length g.heads → c.below < length g.heads → place_at g.heads c.below < place_at g.heads c.above
    → HasNone g.links c.above c.below → links_from g.links c.above c.earlier ≡ links_down g.links c.above
    → IsSound heads (set newest c.above (Some n)) new
pushed heads newest cells c s g view new n is count above below falls none begin =
    subst (λ (cs : List Cell). IsSound heads (set newest c.above (Some n)) cs) (sym is)
    (subst (λ (m : ℕ). IsSound heads (set newest c.above (Some m)) (cells ++ c ∷ [])) (sym count)
    (sound_push heads newest cells c s
    (subst (λ (x : GraphView). c.above < length x.heads) (sym view) above)
    (subst (λ (x : GraphView). c.below < length x.heads) (sym view) below)
    (subst (λ (x : GraphView). place_at x.heads c.below < place_at x.heads c.above) (sym view) falls)
    (subst (λ (x : GraphView). HasNone x.links c.above c.below) (sym view) none)
    (subst (λ (x : GraphView). links_from x.links c.above c.earlier ≡ links_down x.links c.above) (sym view) begin)))

-- ---- a link that is packed

-- two cells between the same heads, with the same link before them
pub record AreAlike (c d : Cell) : Type 0 where
  pub above : d.above ≡ c.above
  pub below : d.below ≡ c.below
  pub earlier : d.earlier ≡ c.earlier

alike_itself : (c : Cell) → AreAlike c c
alike_itself c = record { above = refl; below = refl; earlier = refl }

aboves_set : (cells : List Cell) (k : ℕ) (c d : Cell) → slice_get cells k ≡ Some c → d.above ≡ c.above → aboves (links_of (set cells k d)) ≡ aboves (links_of cells)
aboves_set [] k c d at e = refl
aboves_set (x ∷ cells) zero c d at e =
    let f : Some x ≡ Some c = at in
    let same : x ≡ c = cc in
    ap (λ (n : ℕ). n ∷ aboves (links_of cells)) (e ∙ ap (λ (y : Cell). y.above) (sym same))
aboves_set (x ∷ cells) (suc k) c d at e = ap (λ (ns : List ℕ). x.above ∷ ns) (aboves_set cells k c d at e)

module _ (cells : List Cell) (k : ℕ) (c d : Cell) (at : slice_get cells k ≡ Some c) (alike : AreAlike c d) where
  old_of : (i : ℕ) (x : Cell) → slice_get (set cells k d) i ≡ Some x → (y : Cell) × (slice_get cells i ≡ Some y) × AreAlike y x
  old_of i x is = by (nat_eq i k) refl
    where
      by : (b : Bool) → nat_eq i k ≡ b → (y : Cell) × (slice_get cells i ≡ Some y) × AreAlike y x
      by true e =
          let same : i ≡ k = eqb-true i k e in
          let low : k < length cells = slice_get_within cells k c at in
          let here = subst (λ (n : ℕ). slice_get (set cells k d) n ≡ Some d) (sym same) (set_here cells k d low) in
          let f : Some d ≡ Some x = sym here ∙ is in
          let g : d ≡ x = cc in
          (c, subst (λ (n : ℕ). slice_get cells n ≡ Some c) (sym same) at, subst (λ (z : Cell). AreAlike c z) g alike)
      by false e =
          let other : i ≡ k → ⊥ = λ f. true≢false (sym (eq-eqb i k f) ∙ e) in
          (x, sym (set_there cells k i d other) ∙ is, alike_itself x)

  same_aboves : aboves (links_of (set cells k d)) ≡ aboves (links_of cells)
  same_aboves = aboves_set cells k c d at alike.above

  link_old : (i : ℕ) (l : Link) → slice_get (links_of (set cells k d)) i ≡ Some l → (m : Link) × (slice_get (links_of cells) i ≡ Some m) × (l.above ≡ m.above) × (l.below ≡ m.below)
  link_old i l is =
      let x = mapped_at link_of (set cells k d) i l is in
      let y = old_of i x.0 x.1 in
      (link_of y.0, at_mapped link_of cells i y.0 y.1, sym (ap (λ (m : Link). m.above) x.2) ∙ y.2.above, sym (ap (λ (m : Link). m.below) x.2) ∙ y.2.below)

  module _ (heads : List Head) (newest : List (Option ℕ)) (s : IsSound heads newest cells) where
    pub sound_pack : IsSound heads newest (set cells k d)
    sound_pack = record {
      each_once = record {
        above_there = λ i l is. let m = link_old i l is in let e = m.2 in let low = s.each_once.above_there i m.0 m.1 in omega arith;
        below_there = λ i l is. let m = link_old i l is in let e = m.3 in let low = s.each_once.below_there i m.0 m.1 in omega arith;
        falls = λ i l is.
            let m = link_old i l is in
            let a : place_at heads l.above ≡ place_at heads m.0.above = ap (λ (h : ℕ). place_at heads h) m.2 in
            let b : place_at heads l.below ≡ place_at heads m.0.below = ap (λ (h : ℕ). place_at heads h) m.3 in
            let f = s.each_once.falls i m.0 m.1 in
            omega arith;
        one_each = λ i j a b p q. s.each_once.one_each i j a b (between_old i a b p) (between_old j a b q);
      };
      chained = λ i x is.
          let y = old_of i x is in
          from_same (links_of cells) (links_of (set cells k d)) x.above x.earlier same_aboves
          ∙ ap (λ (n : ℕ). links_from (links_of cells) n x.earlier) y.2.above
          ∙ ap (λ (o : Option ℕ). links_from (links_of cells) y.0.above o) y.2.earlier
          ∙ s.chained i y.0 y.1
          ∙ ap (λ (n : ℕ). links_down (take i (links_of cells)) n) (sym y.2.above)
          ∙ sym (down_same (links_of cells) (links_of (set cells k d)) x.above i same_aboves);
      room = s.room;
      begins = λ h o is.
          from_same (links_of cells) (links_of (set cells k d)) h o same_aboves
          ∙ s.begins h o is
          ∙ ap (λ (ns : List ℕ). numbers_down h 0 ns) (sym same_aboves);
    }
      where
        between_old : (i a b : ℕ) → IsBetween (links_of (set cells k d)) a b i → IsBetween (links_of cells) a b i
        between_old i a b p = let m = link_old i p.link p.at in record {
          link = m.0;
          at = m.1;
          above_is = sym m.2 ∙ p.above_is;
          below_is = sym m.3 ∙ p.below_is;
        }
