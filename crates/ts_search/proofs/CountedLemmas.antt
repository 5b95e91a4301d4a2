-- Places at which an item captures nothing, of which one is enough.
use Rattle.std.proofs.Common.{◌≡◌, ◌∙◌, sym, ap, refl, subst, ℕ, suc, zero, ◌+◌, ◌-◌, ◌%◌, ◌<◌, ◌≤◌, ◌⊎◌, inl, inr, ⊎_elim, List, [], ◌∷◌, ◌++◌, length, Some, Bool, true, false, arith}
use Rattle.std.specs.List.{Contains}
use Rattle.std.proofs.lemmas.Bool.{cases_lt}
use Rattle.std.proofs.lemmas.List.{append-nil}
use Rattle.std.proofs.lemmas.List.Elements.{Contains-append_cases, Contains-append_left}
use Rattle.spec_matches.specs.declared.found.Capture.{Capture}
use Rattle.spec_matches.specs.declared.placing.Slot.{Slot}
use Rattle.spec_matches.specs.declared.placing.Run.{Run}
use Rattle.spec_matches.specs.declared.placing.Placing.{Placing}
use Rattle.spec_matches.specs.Embedding.{Along, Covers, Placed, Rounds, first_sibling_taken, near_of, offset}
use Rattle.ts_search.specs.declared.stand.Siblings.{Siblings}
use Rattle.ts_search.specs.declared.stand.Stand.{Stand}
use Rattle.ts_search.specs.declared.stand.Wanted.TheVariants.{Captures}
use Rattle.ts_search.specs.Adding.{FindsLike, Gains}
use Rattle.ts_search.specs.Memory.{HasSameCaptures, WaysOf}
use Rattle.ts_search.specs.Next.{Passes, TakesFirst}
use Rattle.ts_search.specs.Passing.{IsFree}
use Rattle.ts_search.specs.Steps.{HeadFrom, HeadTaken, HeadWay}
use Rattle.ts_search.specs.Table.{Takes}
use Rattle.ts_search.proofs.GainLemmas.{late, not_both}
use Rattle.ts_search.proofs.GrowLemmas.{no_growth}
use Rattle.ts_search.proofs.NextLemmas.{any_counts}
use Rattle.ts_search.proofs.PassingLemmas.{earlier_way}
use Rattle.ts_search.proofs.PlaceLemmas.{cases_lt_or_eq, none_in_nil}
use Rattle.ts_search.proofs.SingleLemmas.{IsOne, mod_one, place, width}
use Rattle.ts_search.proofs.WayLemmas.{ahead_of, way_heads}

silent_or : (u : List Capture) → (u ≡ []) ⊎ (length u ≡ 0 → ⊥)
silent_or [] = inl refl
silent_or (x ∷ u) = inr (λ e. omega (arith, e))

module _ (s : Siblings) (is : List Slot) (at : Stand) (free : IsFree s at.slot is) where
  abbrev T : ℕ → ℕ → ℕ → List Capture → Type 0
  T = Takes s.table

  abbrev After : ℕ → Placing → Type 0
  After p = WaysOf s is (at.number + 1) (p + 1) true

  one_slot : IsOne at.slot
  one_slot = record { one = free.loose.one; few = free.loose.few; alone = free.loose.alone }

  -- a way that begins with the sibling at a place: its captures, and then those of a tail
  record Parts (p : ℕ) (f : Placing) : Type 0 where
    after : at.lo ≤ p
    inside : p < length s.named
    own : List Capture
    takes : T at.number 0 p own
    tail : Placing
    follows : After p tail
    same : f.captures ≡ own ++ tail.captures

  along_one : (p n : ℕ) (u : List Capture) → n ≡ 1 → Along T at.number at.slot p n p u → T at.number 0 p u
  along_one p zero u e a = absurd (omega (arith, e))
  along_one p (suc n) u e a = subst (T at.number 0 p) (sym (a.2 ∙ ap (λ (l : List Capture). a.0 ++ l) rest ∙ append-nil a.0)) (subst (λ (o : ℕ). T at.number o p a.0) (place at.slot one_slot p p) a.3)
    where
      rest : a.1 ≡ []
      rest = subst (λ (m : ℕ). Along T at.number at.slot p m (p + 1) a.1) (let z : n ≡ 0 = omega (arith, e) in z) a.4

  parts_of : (p : ℕ) (f : Placing) → HeadFrom s is at p f → Parts p f
  parts_of p f (past, h) =
      let placed = h.full.embeds.0 in
      let some = placed.fits.some in
      let within = placed.fits.inside in
      let one : past - p ≡ 1 = width at.slot one_slot (past - p) placed.fits.rounds in
      let end : past ≡ p + 1 = omega (arith, some, one) in
      let tail : Placing = record { first = first_sibling_taken h.rest; near = near_of h.rest; captures = h.gives.1 } in
      let behind : WaysOf s is (at.number + 1) past true tail = record {
        runs = h.rest;
        full = record { embeds = h.full.embeds.1; widest = λ ws more e. h.full.widest (Some (record { first = p; past = past }) ∷ ws) (inr (refl, more)) (h.full.embeds.0, e) };
        gives = h.gives.4;
        first = refl;
        near = refl;
      } in
      record {
        after = placed.after;
        inside = omega (arith, some, within);
        own = h.gives.0;
        takes = along_one p (past - p) h.gives.0 one h.gives.3;
        tail = tail;
        follows = subst (λ (q : ℕ). WaysOf s is (at.number + 1) q true tail) end behind;
        same = h.gives.2;
      }

  module _ (p : ℕ) (inside : p < length s.named) (low : at.lo ≤ p) (u : List Capture) (taken : T at.number 0 p u) where
    abbrev run : Run
    run = record { first = p; past = p + 1 }

    wide : (p + 1) - p ≡ 1
    wide = omega arith

    rounds : Rounds at.slot ((p + 1) - p)
    rounds = (ap (λ (n : ℕ). ((p + 1) - p) % (n + 1)) free.loose.alone ∙ mod_one ((p + 1) - p), inr (wide ∙ ap (λ (n : ℕ). n + 1) (sym free.loose.alone)))

    here : T at.number (offset at.slot p p) p u
    here = subst (λ (o : ℕ). T at.number o p u) (sym (place at.slot one_slot p p)) taken

    covers : Covers T at.number at.slot run
    covers q from below = let e : q ≡ p = omega (arith, from, below) in (u, subst (λ (j : ℕ). T at.number (offset at.slot p j) j u) (sym e) here)

    placed : Placed T s.named at.slot at.number at.lo at.beside run
    placed = record {
      fits = record { some = omega arith; inside = omega (arith, inside); rounds = rounds; covers = covers };
      after = low;
      anchored = λ t. absurd (not_both at.slot.tied t free.loose.free);
    }

    along : Along T at.number at.slot p ((p + 1) - p) p u
    along = subst (λ (n : ℕ). Along T at.number at.slot p n p u) (sym wide) (u, [], sym (append-nil u), here, refl)

    way_of : (tail : Placing) → After p tail → (f : Placing) × HeadFrom s is at p f × (f.captures ≡ u ++ tail.captures)
    way_of tail w =
        let h : HeadTaken s is at run (u ++ tail.captures) = ahead_of s is at run Captures free.loose.few [] placed tail w (no_growth s is at free.loose.few run tail) u (u ++ tail.captures) along refl in
        (record { first = Some p; near = true; captures = u ++ tail.captures }, (p + 1, h), refl)

  -- a tail stands behind an earlier place as well
  earlier_tail : (a p : ℕ) → a ≤ p → (tail : Placing) → After p tail → After a tail
  earlier_tail a p le tail w = earlier_way s is (at.number + 1) (a + 1) (p + 1) true true tail free.rest (omega (arith, le)) w

-- the ways that begin before a place, as far as their captures go, and whether one of these places
-- captures nothing
pub record Counted (s : Siblings) (is : List Slot) (at : Stand) (silent : Bool) (first : ℕ) (u v : Bool) (out : List Placing) : Type 0 where
  pub low : at.lo ≤ first
  pub only : (f : Placing) → Contains out f → (p : ℕ) × HeadFrom s is at p f
  pub earlier : v ≡ false → u ≡ false
  pub all : v ≡ false → (p : ℕ) → p < first → (f : Placing) → HeadFrom s is at p f → (g : Placing) × Contains out g × HasSameCaptures f g
  pub quiet : silent ≡ true → (p : ℕ) × (at.lo ≤ p) × (p < first) × (p < length s.named) × Takes s.table at.number 0 p []

module _ (s : Siblings) (is : List Slot) (at : Stand) where
  pub counted_none : (silent w : Bool) (out : List Placing) → silent ≡ false → out ≡ [] → Counted s is at silent at.lo w w out
  counted_none silent w out unset e = record {
    low = omega arith;
    only = λ f h. absurd (none_in_nil f (subst (λ (l : List Placing). Contains l f) e h));
    earlier = λ c. c;
    all = λ c p lt f h. absurd (let after = h.1.full.embeds.0.after in omega (arith, after, lt));
    quiet = λ t. absurd (not_both silent t unset);
  }

  pub counted_more : (silent next : Bool) (first : ℕ) (u v m w : Bool) (a b : List Placing) → m ≡ v → first < length s.named → Counted s is at silent first u v a → Gains (HeadFrom s is at first) m w a b
      → (next ≡ true → (silent ≡ true) ⊎ Takes s.table at.number 0 first []) → Counted s is at next (first + 1) u w b
  counted_more silent next first u v m w a b same inside before one mark = record {
    low = (let l = before.low in omega (arith, l));
    only = λ f h. ⊎_elim (λ old. before.only f old) (λ new. (first, one.only f new)) (Contains-append_cases a one.more f (subst (λ (l : List Placing). Contains l f) one.is h));
    earlier = λ e. before.earlier (sym same ∙ one.earlier e);
    all = λ e p lt f h. ⊎_elim (λ old. kept e p old f h) (λ new. (f, one.added e f (subst (λ (q : ℕ). HeadFrom s is at q f) new h), refl)) (cases_lt_or_eq p first lt);
    quiet = λ t. ⊎_elim (λ old. let q = before.quiet old in (q.0, q.1, (let below = q.2 in omega (arith, below)), q.3, q.4)) (λ here. (first, before.low, omega arith, inside, here)) (mark t);
  }
    where
      kept : w ≡ false → (p : ℕ) → p < first → (f : Placing) → HeadFrom s is at p f → (g : Placing) × Contains b g × HasSameCaptures f g
      kept e p lt f h =
          let y = before.all (sym same ∙ one.earlier e) p lt f h in
          (y.0, subst (λ (l : List Placing). Contains l y.0) (sym one.is) (Contains-append_left a one.more y.0 y.1), y.2)

  module _ (free : IsFree s at.slot is) where
    -- a way that begins at a place that is passed has the captures of one from before
    passed_way : (silent : Bool) (from to : ℕ) (u v : Bool) (out : List Placing) → Passes (TakesFirst s.table silent at.number) from to → Counted s is at silent from u v out → v ≡ false → (p : ℕ) → from ≤ p → p < to → (f : Placing) → HeadFrom s is at p f
        → (g : Placing) × Contains out g × HasSameCaptures f g
    passed_way false from to u v out passes before e p le lt f h =
        let it = parts_of s is at free p f h in
        absurd (passes.1 p le lt (it.own, it.takes, any_counts it.own))
    passed_way true from to u v out passes before e p le lt f h = ⊎_elim (λ none. found none) (λ some. absurd (passes.1 p le lt (it.own, it.takes, λ t. some))) (silent_or it.own)
      where
        it : Parts s is at free p f
        it = parts_of s is at free p f h

        found : it.own ≡ [] → (g : Placing) × Contains out g × HasSameCaptures f g
        found none =
            let q = before.quiet refl in
            let earlier : q.0 ≤ p = (let below = q.2 in omega (arith, below, le)) in
            let way = way_of s is at free q.0 q.3 q.1 [] q.4 it.tail (earlier_tail s is at free q.0 p earlier it.tail it.follows) in
            let y = before.all e q.0 q.2 way.0 way.1 in
            (y.0, y.1, it.same ∙ ap (λ (l : List Capture). l ++ it.tail.captures) none ∙ sym way.2 ∙ y.2)

    pub counted_on : (silent : Bool) (from to : ℕ) (u v : Bool) (out : List Placing) → Passes (TakesFirst s.table silent at.number) from to → Counted s is at silent from u v out → Counted s is at silent to u v out
    counted_on silent from to u v out passes before = record {
      low = (let l = before.low in let on = passes.0 in omega (arith, l, on));
      only = before.only;
      earlier = before.earlier;
      all = λ e p lt f h. ⊎_elim (λ old. before.all e p old f h) (λ le. passed_way silent from to u v out passes before e p le lt f h) (cases_lt p from);
      quiet = λ t. let q = before.quiet t in (q.0, q.1, (let below = q.2 in let on = passes.0 in omega (arith, below, on)), q.3, q.4);
    }

    abbrev Whole : Placing → Type 0
    Whole = WaysOf s (at.slot ∷ is) at.number at.lo at.beside

    way_from : (p : ℕ) (f : Placing) → HeadFrom s is at p f → Whole f
    way_from p f (past, h) = (way_heads s is at f).1 (inr (record { first = p; past = past }, h))

    pub counted_all : (silent : Bool) (first : ℕ) (u v : Bool) (out : List Placing) → length s.named ≤ first → Counted s is at silent first u v out → FindsLike HasSameCaptures Whole u v out
    counted_all silent first u v out past counted = record { only = λ f h. let x = counted.only f h in way_from x.0 f x.1; earlier = counted.earlier; all = λ e f w. let r = run_of f w in counted.all e r.0.first (low r.0 f r.1) f (r.0.past, r.1) }
      where
        run_of : (f : Placing) → Whole f → (r : Run) × HeadWay s is at (Some r) f
        run_of f w = ⊎_elim (λ h. absurd (not_both at.slot.optional h.full.embeds.0 free.loose.one)) (λ h. h) ((way_heads s is at f).0 w)

        low : (r : Run) (f : Placing) → HeadWay s is at (Some r) f → r.first < first
        low r f h =
            let some = h.full.embeds.0.fits.some in
            let inside = h.full.embeds.0.fits.inside in
            omega (arith, some, inside, past)

    pub counted_part : (silent : Bool) (first : ℕ) (u v w : Bool) (out : List Placing) → w ≡ true → Counted s is at silent first u v out → FindsLike HasSameCaptures Whole u w out
    counted_part silent first u v w out cut counted = record {
      only = λ f h. let x = counted.only f h in way_from x.0 f x.1;
      earlier = late u w cut;
      all = λ e. absurd (not_both w cut e);
    }
