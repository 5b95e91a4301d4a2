-- Whether an item could take more than a run, told by the siblings beside that run.
use Rattle.std.proofs.Common.{◌≡◌, ◌∙◌, sym, ap, refl, subst, ℕ, zero, suc, ◌+◌, ◌-◌, ◌%◌, ◌≤◌, inl, inr, ⊎_elim, List, [], ◌∷◌, Option, Some, None, Bool, true, false, arith, ◌↔◌}
use Rattle.spec_matches.specs.declared.found.Capture.{Capture}
use Rattle.spec_matches.specs.declared.placing.Slot.{Slot}
use Rattle.spec_matches.specs.declared.placing.Run.{Run}
use Rattle.spec_matches.specs.declared.placing.Placing.{Placing}
use Rattle.ts_search.specs.declared.stand.Stand.{Stand}
use Rattle.ts_search.specs.declared.stand.Siblings.{Siblings}
use Rattle.spec_matches.specs.Embedding.{Covers, Placed, Rounds, offset}
use Rattle.ts_search.specs.Table.{Takes}
use Rattle.ts_search.specs.Steps.{Allows, BeginsLate, GoesPast, CanWiden, IsPlainMany, TakesAt, Widens}
use Rattle.ts_search.proofs.PlaceLemmas.{cases_lt_or_eq}
use Rattle.ts_search.proofs.RunLemmas.{covers_more}

not_both : (b : Bool) → b ≡ true → b ≡ false → ⊥
not_both b t f = let e : true ≡ false = sym t ∙ f in cc

mod_one : (d : ℕ) → d % (0 + 1) ≡ 0
mod_one d = omega arith

-- a run of a plain item begins its rounds anywhere
plain_offset : (i : Slot) → IsPlainMany i → (first p : ℕ) → offset i first p ≡ 0
plain_offset i m first p = subst (λ (n : ℕ). (p - first) % (n + 1) ≡ 0) (sym m.1) (mod_one (p - first))

plain_rounds : (i : Slot) → IsPlainMany i → (d : ℕ) → Rounds i d
plain_rounds i m d = (subst (λ (n : ℕ). d % (n + 1) ≡ 0) (sym m.1) (mod_one d), inl m.0)

module _ (named : List Bool) (closed : Bool) where
  -- what is allowed at two places is so between them
  allows_between : (is : List Slot) (x y z : ℕ) (o : Option ℕ) (near : Bool) → x ≤ y → y ≤ z → Allows named closed is x o near → Allows named closed is z o near → Allows named closed is y o near
  allows_between [] x y z o near low high a b = λ c p from below. a c p (omega arith) below
  allows_between (i ∷ is) x y z None near low high a b = tt
  allows_between (i ∷ is) x y z (Some h) near low high a b = ((let le = b.0 in omega arith), (λ n t p from below. a.1 n t p (omega arith) below))

  -- where no later place is allowed the tail begins right here
  pub begins_at : (is : List Slot) (x : ℕ) (o : Option ℕ) (near : Bool) → Allows named closed is x o near → (Allows named closed is (x + 1) o near → ⊥) → o ≡ Some x
  begins_at [] x o near a none = absurd (none (λ c p from below. a c p (omega arith) below))
  begins_at (i ∷ is) x None near a none = absurd (none tt)
  begins_at (i ∷ is) x (Some h) near a none =
      ⊎_elim
      (λ lt. absurd (none (omega arith, (λ n t p from below. a.1 n t p (omega arith) below))))
      (λ (e : x ≡ h). ap Some (sym e)) (cases_lt_or_eq x h (let le = a.0 in omega arith))

module _ (s : Siblings) (is : List Slot) (at : Stand) where
  abbrev T : ℕ → ℕ → ℕ → List Capture → Type 0
  T = Takes s.table

  abbrev Place : Run → Type 0
  Place r = Placed T s.named at.slot at.number at.lo at.beside r

  at_offset : IsPlainMany at.slot → (first p : ℕ) → TakesAt s at p → (c : List Capture) × T at.number (offset at.slot first p) p c
  at_offset m first p t = (t.0, subst (λ (o : ℕ). T at.number o p t.0) (sym (plain_offset at.slot m first p)) t.1)

  from_offset : IsPlainMany at.slot → (first p : ℕ) → (c : List Capture) × T at.number (offset at.slot first p) p c → TakesAt s at p
  from_offset m first p t = (t.0, subst (λ (o : ℕ). T at.number o p t.0) (plain_offset at.slot m first p) t.1)

  -- the run from one place earlier on
  pub late_placed : (r : Run) → BeginsLate s at r.first → Place r → Place (record { first = r.first - 1; past = r.past })
  late_placed r late placed = record {
    fits = record {
      some = let some = placed.fits.some in omega arith;
      inside = placed.fits.inside;
      rounds = plain_rounds at.slot late.many (r.past - (r.first - 1));
      covers = covers;
    };
    after = let later = late.later in omega arith;
    anchored = λ t b p from below. placed.anchored t b p from (omega arith);
  }
    where
      covers : Covers T at.number at.slot (record { first = r.first - 1; past = r.past })
      covers p from below =
          ⊎_elim
          (λ lt. at_offset late.many (r.first - 1) p (from_offset late.many r.first p (placed.fits.covers p (let later = late.later in omega arith) below)))
          (λ (e : r.first - 1 ≡ p). at_offset late.many (r.first - 1) p (subst (TakesAt s at) e late.taken)) (cases_lt_or_eq (r.first - 1) p (omega arith))

  -- the run up to one place later
  on_placed : (r : Run) → GoesPast s at r.past → Place r → Place (record { first = r.first; past = r.past + 1 })
  on_placed r goes placed = record {
    fits = record {
      some = let some = placed.fits.some in omega arith;
      inside = let inside = goes.inside in omega arith;
      rounds = plain_rounds at.slot goes.many (r.past + 1 - r.first);
      covers = covers_more T at.number at.slot r.first r.past placed.fits.covers (at_offset goes.many r.first r.past goes.taken);
    };
    after = placed.after;
    anchored = placed.anchored;
  }

  one_round : (d : ℕ) → at.slot.many ≡ false → Rounds at.slot d → d ≡ at.slot.more + 1
  one_round d few r = ⊎_elim (λ m. absurd (not_both at.slot.many m few)) (λ e. e) r.1

  -- a run of an item that is taken once doesn't grow
  pub no_growth : at.slot.many ≡ false → (r : Run) (t : Placing) → CanWiden s is at r t → ⊥
  no_growth few r t (inl late) = not_both at.slot.many late.many.0 few
  no_growth few r t (inr (inl on)) = not_both at.slot.many on.on.many.0 few
  no_growth few r t (inr (inr g)) = not_both at.slot.many g.many few

  pub grows_iff : (r : Run) (t : Placing) → Place r → Allows s.named s.closed is r.past t.first t.near → CanWiden s is at r t ↔ Widens s is at (Some r) t
  grows_iff r t placed allowed = (to, from)
    where
      to : CanWiden s is at r t → Widens s is at (Some r) t
      to (inl late) = record {
        quantified = inr late.many.0;
        run = record { first = r.first - 1; past = r.past };
        by = record {
          wider = ((let later = late.later in omega arith), omega arith, inl (let later = late.later in omega arith));
          placed = late_placed r late placed;
          allowed = allowed;
        };
      }
      to (inr (inl on)) = record {
        quantified = inr on.on.many.0;
        run = record { first = r.first; past = r.past + 1 };
        by = record { wider = (omega arith, omega arith, inr (omega arith)); placed = on_placed r on.on placed; allowed = on.allowed };
      }
      to (inr (inr g)) = g.widens

      few : at.slot.many ≡ false → (w : Widens s is at (Some r) t) → CanWiden s is at r t
      few e w =
          let one = one_round (r.past - r.first) e placed.fits.rounds in
          let two = one_round (w.run.past - w.run.first) e w.by.placed.fits.rounds in
          let some = placed.fits.some in
          let left = w.by.wider.0 in
          let right = w.by.wider.1 in
          absurd (⊎_elim (λ lt. omega arith) (λ lt. omega arith) w.by.wider.2)

      plain : IsPlainMany at.slot → (w : Widens s is at (Some r) t) → CanWiden s is at r t
      plain m w =
          let some = placed.fits.some in
          let left = w.by.wider.0 in
          let right = w.by.wider.1 in
          let after = w.by.placed.after in
          let inside = w.by.placed.fits.inside in
          ⊎_elim
          (λ lt. inl (record {
            many = m;
            later = omega arith;
            taken = from_offset m w.run.first (r.first - 1) (w.by.placed.fits.covers (r.first - 1) (omega arith) (omega arith));
          }))
          (λ lt. inr (inl (record {
            on = record {
              many = m;
              inside = omega arith;
              taken = from_offset m w.run.first r.past (w.by.placed.fits.covers r.past (omega arith) lt);
            };
            allowed = allows_between s.named s.closed is r.past (r.past + 1) w.run.past t.first t.near (omega arith) (omega arith) allowed w.by.allowed;
          })))
          w.by.wider.2

      by_more : at.slot.many ≡ true → (n : ℕ) → at.slot.more ≡ n → (w : Widens s is at (Some r) t) → CanWiden s is at r t
      by_more m zero e w = plain (m, e) w
      by_more m (suc n) e w = inr (inr (record { many = m; group = λ z. let f : 0 ≡ suc n = sym z ∙ e in omega (arith, f); widens = w }))

      by_many : (b : Bool) → at.slot.many ≡ b → (w : Widens s is at (Some r) t) → CanWiden s is at r t
      by_many true e w = by_more e at.slot.more refl w
      by_many false e w = few e w

      from : Widens s is at (Some r) t → CanWiden s is at r t
      from w = by_many at.slot.many refl w
