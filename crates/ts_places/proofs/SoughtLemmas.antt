-- The first key of all reductions that are listed, sought from the last one on.
use Rattle.std.proofs.Common.{◌≡◌, ◌∙◌, sym, ap, refl, subst, ℕ, suc, ◌<◌, ◌≤◌, ◌⊎◌, inl, inr, ⊎_elim, List, length, set, slice_get, Option, Some, None, arith}
use Rattle.std.specs.List.{Contains}
use Rattle.std.proofs.lemmas.Bool.{cases_order}
use Rattle.std.proofs.lemmas.Option.{slice_get_within}
use Rattle.ts_base.proofs.PlaceLemmas.{set_here, set_there}
use Rattle.spec_graph.specs.declared.graph.Link.{Link}
use Rattle.ts_graph.specs.declared.view.GraphView.{GraphView}
use Rattle.ts_table.specs.declared.view.ParseTable.{ParseTable}
use Rattle.ts_reductions.specs.declared.batch.Batch.{Batch}
use Rattle.ts_reductions.specs.declared.top.Top.{Top}
use Rattle.ts_reductions.specs.Asking.{HasReduction, IsAsked, ByNumber, ByTops}
use Rattle.ts_places.specs.declared.seeking.Seek.{Seek}
use Rattle.ts_places.specs.declared.seeking.Due.{Due}
use Rattle.ts_places.specs.declared.seeking.Sought.{Sought}
use Rattle.ts_places.specs.Seeking.{Seeks, IsNext, IsFirst, IsKnown, IsDue, OfKnown, AreDue, SeeksDue}
use Rattle.ts_places.proofs.SmallLemmas.{at_contained, contained_at, read_at}
use Rattle.ts_places.proofs.SeekLemmas.{seeks_as, seeks_more, is_next}

module _ (t : ParseTable) (g : GraphView) (seek : Seek) (tops : List Top) (was : List Due) (a : AreDue t g seek tops was) where
  -- those of the reductions from a number on, and those whose first key was known
  abbrev OfFrom : ℕ → Top → ℕ → List Link → ℕ → Type 0
  OfFrom left = λ u n w b. (j : ℕ) × (d : Due) × (left ≤ j) × (slice_get was j ≡ Some d) × (d.top ≡ u) × (d.number ≡ n)

  abbrev Meant : ℕ → Top → ℕ → List Link → ℕ → Type 0
  Meant left = λ u n w b. OfKnown was u n w b ⊎ OfFrom left u n w b

  pub record SoughtTo (left : ℕ) (dues : List Due) (found : Option Batch) : Type 0 where
    pub count : length dues ≡ length was
    pub each : (j : ℕ) (d : Due) → slice_get dues j ≡ Some d → (o : Due) × (slice_get was j ≡ Some o) × (d.top ≡ o.top) × (d.number ≡ o.number) × (j < left → d ≡ o) × IsFirst t g seek d.top d.number d.first
    pub seeks : Seeks t g seek (Meant left) None found

  was_due : (j : ℕ) (o : Due) → slice_get was j ≡ Some o → Contains tops o.top × IsDue t g seek o
  was_due j o at = a.each o (subst (λ (l : List Due). Contains l o) a.is (contained_at was j o at))

  pub sought_first : (left : ℕ) (found : Option Batch) → length was ≤ left → Seeks t g seek (OfKnown was) None found → SoughtTo left was found
  sought_first left found long s = record {
    count = refl;
    each = λ j d at. (d, at, refl, refl, (λ lt. refl), (was_due j d at).1.1);
    seeks = seeks_as t g seek (OfKnown was) (Meant left) None found (λ k u n w b m asked. inl m)
        (λ k u n w b m asked. ⊎_elim (λ known. known) (λ f. absurd (let low = slice_get_within was f.0 f.1 f.3 in let h = f.2 in omega (arith, low, h, long))) m) s;
  }

  module _ (left next : ℕ) (is : left ≡ suc next) (dues : List Due) (found : Option Batch) (r : SoughtTo left dues found) (d : Due) (at : slice_get dues next ≡ Some d) where
    abbrev o : Due
    o = (r.each next d at).0

    o_at : slice_get was next ≡ Some o
    o_at = (r.each next d at).1

    same : d ≡ o
    same = (r.each next d at).4 (omega (arith, is))

    d_at : slice_get was next ≡ Some d
    d_at = o_at ∙ ap (λ (x : Due). Some x) (sym same)

    pub sought_top : Contains tops d.top
    sought_top = (was_due next d d_at).0

    pub sought_has : HasReduction t g d.top d.number
    sought_has = (was_due next d d_at).1.0

    more : (u : Top) (n : ℕ) (w : List Link) (b : ℕ) → Meant left u n w b → Meant next u n w b
    more u n w b (inl known) = inl known
    more u n w b (inr f) = inr (f.0, f.1, (let h = f.2 in omega (arith, h, is)), f.3, f.4, f.5)

    split : (u : Top) (n : ℕ) (w : List Link) (b : ℕ) → Meant next u n w b → Meant left u n w b ⊎ ((u ≡ d.top) × (n ≡ d.number))
    split u n w b (inl known) = inl (inl known)
    split u n w b (inr f) = by (cases_order f.0 next)
      where
        by : (f.0 ≡ next) ⊎ ((f.0 < next) ⊎ (next < f.0)) → Meant left u n w b ⊎ ((u ≡ d.top) × (n ≡ d.number))
        by (inl e) =
            let both : Some f.1 ≡ Some d = sym f.3 ∙ ap (λ (j : ℕ). slice_get was j) e ∙ d_at in
            let one : f.1 ≡ d = cc in
            inr (sym f.4 ∙ ap (λ (x : Due). x.top) one, sym f.5 ∙ ap (λ (x : Due). x.number) one)
        by (inr (inl lt)) = absurd (let h = f.2 in omega (arith, h, lt))
        by (inr (inr gt)) = inl (inr (f.0, f.1, omega (arith, gt, is), f.3, f.4, f.5))

    earlier : (j : ℕ) → j < next → j < left
    earlier j lt = omega (arith, lt, is)

    -- its first key was known
    pub sought_known : IsKnown d.first → SoughtTo next dues found
    sought_known known = record {
      count = r.count;
      each = λ j x x_at. let w = r.each j x x_at in (w.0, w.1, w.2, w.3, (λ lt. w.4 (earlier j lt)), w.5);
      seeks = seeks_as t g seek (Meant left) (Meant next) None found (λ k u n w b m asked. more u n w b m)
          (λ k u n w b m asked. ⊎_elim (λ old. old) (λ own. inl (d, contained_at was next d d_at, sym own.0, sym own.1, known)) (split u n w b m)) r.seeks;
    }

    -- it was sought
    pub sought_more : (s : Sought) → SeeksDue t g seek d found s → (new : List Due) → new ≡ set dues next s.due → length new ≡ length dues → SoughtTo next new s.found
    sought_more s h new new_is many = record {
      count = many ∙ r.count;
      each = λ j x x_at. by j x (subst (λ (l : List Due). slice_get l j ≡ Some x) new_is x_at) (cases_order j next);
      seeks = seeks_more t g seek (Meant left) (ByNumber d.top d.number) (Meant next) (λ k u n w b m asked. more u n w b m)
          (λ k u n w b m asked. inr (next, d, (omega arith), d_at, sym m.0, sym m.1))
          (λ u n w b m. split u n w b m) None found s.found r.seeks h.seeks;
    }
      where
        other : (j : ℕ) (x : Due) → slice_get (set dues next s.due) j ≡ Some x → (j ≡ next → ⊥) → (o : Due) × (slice_get was j ≡ Some o) × (x.top ≡ o.top) × (x.number ≡ o.number) × (j < next → x ≡ o) × IsFirst t g seek x.top x.number x.first
        other j x x_at none = let w = r.each j x (sym (set_there dues next j s.due none) ∙ x_at) in (w.0, w.1, w.2, w.3, (λ lt. w.4 (earlier j lt)), w.5)

        own : IsFirst t g seek s.due.top s.due.number s.due.first
        own = subst (λ (u : Top). IsFirst t g seek u s.due.number s.due.first) (sym h.top_is) (subst (λ (n : ℕ). IsFirst t g seek d.top n s.due.first) (sym h.number_is) h.first)

        by : (j : ℕ) (x : Due) → slice_get (set dues next s.due) j ≡ Some x → (j ≡ next) ⊎ ((j < next) ⊎ (next < j)) → (o : Due) × (slice_get was j ≡ Some o) × (x.top ≡ o.top) × (x.number ≡ o.number) × (j < next → x ≡ o) × IsFirst t g seek x.top x.number x.first
        by j x x_at (inl e) =
            let both : Some s.due ≡ Some x = sym (set_here dues next s.due (slice_get_within dues next d at)) ∙ ap (λ (n : ℕ). slice_get (set dues next s.due) n) (sym e) ∙ x_at in
            let one : s.due ≡ x = cc in (
              d,
              ap (λ (n : ℕ). slice_get was n) e ∙ d_at,
              ap (λ (y : Due). y.top) (sym one) ∙ h.top_is,
              ap (λ (y : Due). y.number) (sym one) ∙ h.number_is,
              (λ lt. absurd (omega (arith, lt, e))),
              subst (λ (y : Due). IsFirst t g seek y.top y.number y.first) one own,
            )
        by j x x_at (inr (inl lt)) = other j x x_at (λ e. omega (arith, e, lt))
        by j x x_at (inr (inr gt)) = other j x x_at (λ e. omega (arith, e, gt))

  module _ (left : ℕ) (none : left ≡ 0) (dues : List Due) (found : Option Batch) (r : SoughtTo left dues found) where
    pub sought_next : IsNext t g seek tops found
    sought_next = is_next t g seek tops found (seeks_as t g seek (Meant left) (ByTops tops) None found (λ k u n w b m asked. there u n w b m) (λ k u n w b m asked. inr (from k u n w b m asked)) r.seeks)
      where
        there : (u : Top) (n : ℕ) (w : List Link) (b : ℕ) → Meant left u n w b → Contains tops u
        there u n w b (inl known) = subst (λ (x : Top). Contains tops x) known.2 (a.each known.0 (subst (λ (l : List Due). Contains l known.0) a.is known.1)).0
        there u n w b (inr f) = subst (λ (x : Top). Contains tops x) f.4 (was_due f.0 f.1 f.3).0

        from : (k : Batch) (u : Top) (n : ℕ) (w : List Link) (b : ℕ) → Contains tops u → IsAsked t g k u n w b → OfFrom left u n w b
        from k u n w b m asked =
            let d = a.all u n m (record { head = asked.head; at = asked.at; acts = asked.acts }) in
            let j = at_contained was d.0 (subst (λ (l : List Due). Contains l d.0) (sym a.is) d.1) in
            (j.0, d.0, (omega (arith, none)), j.1, d.2, d.3)

    pub sought_due : AreDue t g seek tops dues
    sought_due = record {
      more = dues;
      is = refl;
      each = λ d there.
          let j = at_contained dues d there in
          let w = r.each j.0 d j.1 in
          let m = was_due j.0 w.0 w.1 in (
            subst (λ (u : Top). Contains tops u) (sym w.2) m.0,
            (subst (λ (u : Top). HasReduction t g u d.number) (sym w.2) (subst (λ (n : ℕ). HasReduction t g w.0.top n) (sym w.3) m.1.0), w.5),
          );
      all = λ u n m has.
          let o = a.all u n m has in
          let j = at_contained was o.0 (subst (λ (l : List Due). Contains l o.0) (sym a.is) o.1) in
          let low = slice_get_within was j.0 o.0 j.1 in
          let c = r.count in
          let d = read_at dues j.0 (omega (arith, low, c)) in
          let w = r.each j.0 d.0 d.1 in
          let f : Some w.0 ≡ Some o.0 = sym w.1 ∙ j.1 in
          let one : w.0 ≡ o.0 = cc in
          (d.0, contained_at dues j.0 d.0 d.1, w.2 ∙ ap (λ (y : Due). y.top) one ∙ o.2, w.3 ∙ ap (λ (y : Due). y.number) one ∙ o.3);
    }
