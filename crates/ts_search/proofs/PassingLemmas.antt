-- Items that are passed over.
use Rattle.std.proofs.Common.{◌≡◌, ◌∙◌, sym, ap, refl, subst, ℕ, zero, suc, ◌+◌, ◌-◌, ◌%◌, ◌<◌, ◌≤◌, inl, inr, ⊎_elim, List, [], ◌∷◌, ◌++◌, length, drop, slice_get, Option, Some, None, Bool, true, false, ◌↔◌, arith}
use Rattle.std.proofs.lemmas.Bool.{cases_lt}
use Rattle.std.proofs.lemmas.List.{length-drop}
use Rattle.spec_matches.specs.declared.found.Capture.{Capture}
use Rattle.spec_matches.specs.declared.placing.Slot.{Slot}
use Rattle.spec_matches.specs.declared.placing.Run.{Run}
use Rattle.spec_matches.specs.declared.placing.Placing.{Placing}
use Rattle.spec_matches.specs.Embedding.{Along, Covers, Embeds, IsQuantified, Placed, Rounds, Widened, first_sibling_taken, near_of, offset}
use Rattle.ts_search.specs.declared.stand.Key.{Key}
use Rattle.ts_search.specs.declared.stand.Siblings.{Siblings}
use Rattle.ts_search.specs.declared.stand.Stand.{Stand}
use Rattle.ts_search.specs.declared.stand.Wanted.{Wanted}
use Rattle.ts_search.specs.declared.stand.Wanted.TheVariants.{Captures}
use Rattle.ts_search.specs.Adding.{FindsMost}
use Rattle.ts_search.specs.Memory.{IsMemo, TellsOf, Told, WaysOf}
use Rattle.ts_search.specs.Passing.{AreLoose, IsLoose, MayPass, Settles}
use Rattle.ts_search.specs.Steps.{HeadTaken, HeadWay, NoneTaken, TakesAt}
use Rattle.ts_search.specs.Table.{AreSilent, Takes}
use Rattle.ts_search.proofs.GainLemmas.{finds_nothing, finds_same, not_both}
use Rattle.ts_search.proofs.GrowLemmas.{no_growth}
use Rattle.ts_search.proofs.MemoLemmas.{rest_is}
use Rattle.ts_search.proofs.PlaceLemmas.{there}
use Rattle.ts_search.proofs.SingleLemmas.{IsOne, mod_one, place, width}
use Rattle.ts_search.proofs.WayLemmas.{ahead_of, way_heads}
use Rattle.ts_search.proofs.WidenLemmas.{no_offset}

not_quantified : (i : Slot) → IsLoose i → IsQuantified i → ⊥
not_quantified i loose (inl h) = not_both i.optional h loose.one
not_quantified i loose (inr h) = not_both i.many h loose.few

-- ---- behind a later place stand the same ways as behind an earlier one, or fewer

module _ (s : Siblings) where
  abbrev Behind : List Slot → ℕ → ℕ → Bool → List (Option Run) → Type 0
  Behind is k lo b rs = Embeds (Takes s.table) s.named s.closed is k lo b rs

  earlier_embeds : (is : List Slot) (k lo x : ℕ) (b c : Bool) (rs : List (Option Run)) → AreLoose s.closed is → lo ≤ x → Behind is k x c rs → Behind is k lo b rs
  earlier_embeds [] k lo x b c [] loose le e = λ t. absurd (not_both s.closed t loose)
  earlier_embeds [] k lo x b c (r ∷ rs) loose le e = e
  earlier_embeds (i ∷ is) k lo x b c [] loose le e = e
  earlier_embeds (i ∷ is) k lo x b c (None ∷ rs) loose le e = absurd (not_both i.optional e.0 loose.one)
  earlier_embeds (i ∷ is) k lo x b c (Some r ∷ rs) loose le e =
      (record { fits = e.0.fits; after = (let a = e.0.after in omega (arith, a, le)); anchored = λ t. absurd (not_both i.tied t loose.free) }, e.1)

  earlier_widest : (is : List Slot) (k lo x : ℕ) (b c : Bool) (rs : List (Option Run)) → AreLoose s.closed is → Behind is k x c rs → ((ws : List (Option Run)) → Widened is rs ws → Behind is k x c ws → ⊥)
      → (ws : List (Option Run)) → Widened is rs ws → Behind is k lo b ws → ⊥
  earlier_widest [] k lo x b c rs loose e fixed ws h g = h
  earlier_widest (i ∷ is) k lo x b c [] loose e fixed ws h g = e
  earlier_widest (i ∷ is) k lo x b c (None ∷ rs) loose e fixed ws h g = not_both i.optional e.0 loose.one
  earlier_widest (i ∷ is) k lo x b c (Some r ∷ rs) loose e fixed [] h g = h
  earlier_widest (i ∷ is) k lo x b c (Some r ∷ rs) loose e fixed (w ∷ ws) (inl h) g = not_quantified i loose h.0
  earlier_widest (i ∷ is) k lo x b c (Some r ∷ rs) loose e fixed (w ∷ ws) (inr h) g =
      let f : Behind (i ∷ is) k lo b (Some r ∷ ws) = subst (λ (o : Option Run). Behind (i ∷ is) k lo b (o ∷ ws)) h.0 g in
      fixed (Some r ∷ ws) (inr (refl, h.1)) (e.0, f.1)

  pub earlier_way : (is : List Slot) (k lo x : ℕ) (b c : Bool) (f : Placing) → AreLoose s.closed is → lo ≤ x → WaysOf s is k x c f → WaysOf s is k lo b f
  earlier_way is k lo x b c f loose le w = record {
    runs = w.runs;
    full = record {
      embeds = earlier_embeds is k lo x b c w.runs loose le w.full.embeds;
      widest = earlier_widest is k lo x b c w.runs loose w.full.embeds w.full.widest;
    };
    gives = w.gives;
    first = w.first;
    near = w.near;
  }

-- ---- an item by which nothing is captured

no_length : (c : List Capture) → length c ≡ 0 → c ≡ []
no_length [] e = refl
no_length (x ∷ c) e = absurd (omega (arith, e))

pub silent_takes : (table : List (List (List (List (List Capture))))) (silent : List Bool) → AreSilent table silent → (k : ℕ) → slice_get silent k ≡ Some true → (o p : ℕ) (c : List Capture) → Takes table k o p c → c ≡ []
silent_takes table silent are k is o p c t =
    no_length c (are k t.rows is t.are_rows t.row (there t.rows o t.row t.is_row) t.ways (there t.row p t.ways t.are_ways) c t.one)

module _ (s : Siblings) (is : List Slot) (at : Stand) (loose : IsLoose at.slot) (rest : AreLoose s.closed is) (silent : (o p : ℕ) (c : List Capture) → Takes s.table at.number o p c → c ≡ []) where
  abbrev T : ℕ → ℕ → ℕ → List Capture → Type 0
  T = Takes s.table

  one_slot : IsOne at.slot
  one_slot = record { one = loose.one; few = loose.few; alone = loose.alone }

  -- what the item and those after it come to, and those after it alone
  abbrev With : Placing → Type 0
  With = Told Captures at.lo (WaysOf s (at.slot ∷ is) at.number at.lo at.beside)

  abbrev Without : ℕ → Placing → Type 0
  Without p = Told Captures (p + 1) (WaysOf s is (at.number + 1) (p + 1) true)

  along_silent : (first n p : ℕ) (u : List Capture) → Along T at.number at.slot first n p u → u ≡ []
  along_silent first zero p u a = a
  along_silent first (suc n) p u a =
      a.2 ∙ ap (λ (l : List Capture). l ++ a.1) (silent (offset at.slot first p) p a.0 a.3) ∙ along_silent first n (p + 1) a.1 a.4

  -- each way begins with a run of the item
  begins_at_run : (g : Placing) → WaysOf s (at.slot ∷ is) at.number at.lo at.beside g → (r : Run) × HeadWay s is at (Some r) g
  begins_at_run g w = ⊎_elim (λ h. absurd (not_both at.slot.optional h.full.embeds.0 loose.one)) (λ h. h) ((way_heads s is at g).0 w)

  taken_first : (r : Run) → Placed T s.named at.slot at.number at.lo at.beside r → TakesAt s at r.first
  taken_first r placed =
      let x = placed.fits.covers r.first (omega arith) placed.fits.some in
      (x.0, subst (λ (o : ℕ). T at.number o r.first x.0) (no_offset at.slot.more r.first) x.1)

  pub pass_to : (p : ℕ) → NoneTaken s at p → (t : Placing) → With t → Without p t
  pass_to p none t (g, w, bare) = let b = begins_at_run g w in by b.0 b.1
    where
      by : (r : Run) → HeadWay s is at (Some r) g → Without p t
      by r h =
          let placed = h.full.embeds.0 in
          let some = placed.fits.some in
          let one : r.past - r.first ≡ 1 = width at.slot one_slot (r.past - r.first) placed.fits.rounds in
          let low : p ≤ r.first = ⊎_elim (λ lt. absurd (none r.first placed.after lt (taken_first r placed))) (λ le. le) (cases_lt r.first p) in
          let tail : Placing = record { first = first_sibling_taken h.rest; near = near_of h.rest; captures = h.gives.1 } in
          let after : WaysOf s is (at.number + 1) r.past true tail = record {
            runs = h.rest;
            full = record { embeds = h.full.embeds.1; widest = λ ws more e. h.full.widest (Some r ∷ ws) (inr (refl, more)) (h.full.embeds.0, e) };
            gives = h.gives.4;
            first = refl;
            near = refl;
          } in
          let same : g.captures ≡ h.gives.1 = h.gives.2 ∙ ap (λ (l : List Capture). l ++ h.gives.1) (along_silent r.first (r.past - r.first) r.first h.gives.0 h.gives.3) in (
            tail,
            earlier_way s is (at.number + 1) (p + 1) r.past true true tail rest (omega (arith, some, one, low)) after,
            bare ∙ ap (λ (l : List Capture). record { first = None; near = false; captures = l }) same,
          )

  module _ (p : ℕ) (inside : p < length s.named) (low : at.lo ≤ p) (taken : TakesAt s at p) where
    abbrev run : Run
    run = record { first = p; past = p + 1 }

    wide : (p + 1) - p ≡ 1
    wide = omega arith

    rounds : Rounds at.slot ((p + 1) - p)
    rounds = (ap (λ (n : ℕ). ((p + 1) - p) % (n + 1)) loose.alone ∙ mod_one ((p + 1) - p), inr (wide ∙ ap (λ (n : ℕ). n + 1) (sym loose.alone)))

    here : T at.number (offset at.slot p p) p []
    here =
        subst (λ (o : ℕ). T at.number o p []) (sym (place at.slot one_slot p p))
        (subst (T at.number 0 p) (silent 0 p taken.0 taken.1) taken.1)

    covers : Covers T at.number at.slot run
    covers q from below = let e : q ≡ p = omega (arith, from, below) in ([], subst (λ (j : ℕ). T at.number (offset at.slot p j) j []) (sym e) here)

    placed : Placed T s.named at.slot at.number at.lo at.beside run
    placed = record {
      fits = record { some = omega arith; inside = omega (arith, inside); rounds = rounds; covers = covers };
      after = low;
      anchored = λ t. absurd (not_both at.slot.tied t loose.free);
    }

    along : Along T at.number at.slot p ((p + 1) - p) p []
    along = subst (λ (n : ℕ). Along T at.number at.slot p n p []) (sym wide) ([], [], refl, here, refl)

    pub pass_from : (t : Placing) → Without p t → With t
    pass_from t (g, w, bare) =
        let f : Placing = record { first = Some p; near = true; captures = g.captures } in
        let h : HeadTaken s is at run g.captures = ahead_of s is at run Captures loose.few [] placed g w (no_growth s is at loose.few run g) [] g.captures along refl in
        (f, (way_heads s is at f).1 (inr (run, h)), bare)

-- ---- keys

pub settles_itself : (s : Siblings) (all : List Slot) (key : Key) → key.number ≤ length all → Settles s all key key
settles_itself s all key inside = record { later = omega arith; inside = inside; same = λ t. ((λ h. h), (λ h. h)) }

module _ (s : Siblings) (all is : List Slot) (i : Slot) (key : Key) (asks : key.wanted ≡ Captures) (begins : drop key.number all ≡ i ∷ is) (may : MayPass s i is key.number) (silence : AreSilent s.table s.silent) where
  abbrev pub at : Stand
  at = record { slot = i; number = key.number; lo = key.lo; beside = key.beside }

  quiet : (o p : ℕ) (c : List Capture) → Takes s.table key.number o p c → c ≡ []
  quiet = silent_takes s.table s.silent silence key.number may.silent

  asked : (t : Placing) → TellsOf s all key t ↔ Told Captures key.lo (WaysOf s (i ∷ is) key.number key.lo key.beside) t
  asked t =
      subst (λ (w : Wanted). Told w key.lo (WaysOf s (drop key.number all) key.number key.lo key.beside) t ↔ Told Captures key.lo (WaysOf s (i ∷ is) key.number key.lo key.beside) t) (sym asks)
      (subst (λ (l : List Slot). Told Captures key.lo (WaysOf s l key.number key.lo key.beside) t ↔ Told Captures key.lo (WaysOf s (i ∷ is) key.number key.lo key.beside) t) (sym begins) ((λ h. h), (λ h. h)))

  module _ (p : ℕ) (none : NoneTaken s at p) (inside : p < length s.named) (taken : (key.lo ≤ p) × TakesAt s at p) where
    abbrev pub next : Key
    next = record { number = key.number + 1; lo = p + 1; beside = true; wanted = key.wanted }

    follows : (t : Placing) → TellsOf s all next t ↔ Told Captures (p + 1) (WaysOf s is (key.number + 1) (p + 1) true) t
    follows t =
        subst (λ (w : Wanted). Told w (p + 1) (WaysOf s (drop (key.number + 1) all) (key.number + 1) (p + 1) true) t ↔ Told Captures (p + 1) (WaysOf s is (key.number + 1) (p + 1) true) t) (sym asks)
        (subst (λ (l : List Slot). Told Captures (p + 1) (WaysOf s l (key.number + 1) (p + 1) true) t ↔ Told Captures (p + 1) (WaysOf s is (key.number + 1) (p + 1) true) t)
        (rest_is all (drop key.number all) is i key.number refl begins) ((λ h. h), (λ h. h)))

    passes : (t : Placing) → TellsOf s all key t ↔ TellsOf s all next t
    passes t = (
      (λ h. (follows t).1 (pass_to s is at may.free.loose may.free.rest quiet p none t ((asked t).0 h))),
      (λ h. (asked t).1 (pass_from s is at may.free.loose may.free.rest quiet p inside taken.0 taken.1 t ((follows t).0 h))),
    )

    pub settles_on : (to : Key) → Settles s all next to → Settles s all key to
    settles_on to on = record {
      later = (let l = on.later in omega (arith, l));
      inside = on.inside;
      same = λ t. ((λ h. (on.same t).0 ((passes t).0 h)), (λ h. (passes t).1 ((on.same t).1 h)));
    }

    pub nowhere : ((t : Placing) → TellsOf s all next t → ⊥) → (t : Placing) → TellsOf s all key t → ⊥
    nowhere none_on t h = none_on t ((passes t).0 h)

pub next_inside : (all is : List Slot) (i : Slot) (k : ℕ) → drop k all ≡ i ∷ is → k < length all
next_inside all is i k e =
    let l : length (drop k all) ≡ length all - k = length-drop k all in
    let m : length (drop k all) ≡ length (i ∷ is) = ap length e in
    omega (arith, l, m)

-- ---- what is kept for a key

-- what is kept for the last key that asks for the same
pub kept_tails : (s : Siblings) (all rest : List Slot) (from to : Key) → rest ≡ drop from.number all → Settles s all from to → (u v : Bool) (look : Key → Option (List Placing)) → IsMemo s all v look → (v ≡ false → u ≡ false)
    → (found : List Placing) → look to ≡ Some found → FindsMost (Told from.wanted from.lo (WaysOf s rest from.number from.lo from.beside)) u v found
kept_tails s all rest from to is settles u v look memo earlier found at =
    subst (λ (l : List Slot). FindsMost (Told from.wanted from.lo (WaysOf s l from.number from.lo from.beside)) u v found) (sym is)
    (record {
      only = λ t h. (settles.same t).1 (kept.only t h);
      earlier = earlier;
      all = λ e t h. kept.all e t ((settles.same t).0 h);
    })
  where
    kept : FindsMost (TellsOf s all to) v v found
    kept = memo to found at

-- .. where none ask for the same there are none
pub no_tails : (s : Siblings) (all rest : List Slot) (from : Key) → rest ≡ drop from.number all → ((t : Placing) → TellsOf s all from t → ⊥) → (w : Bool) → FindsMost (Told from.wanted from.lo (WaysOf s rest from.number from.lo from.beside)) w w []
no_tails s all rest from is none w =
    subst (λ (l : List Slot). FindsMost (Told from.wanted from.lo (WaysOf s l from.number from.lo from.beside)) w w []) (sym is) (finds_nothing (TellsOf s all from) w [] refl none)

-- what is found for the last key that asks for the same
pub settled_finds : (s : Siblings) (all slots : List Slot) (from to : Key) → slots ≡ drop to.number all → Settles s all from to → (u v : Bool) (found : List Placing)
    → FindsMost (Told to.wanted to.lo (WaysOf s slots to.number to.lo to.beside)) u v found → FindsMost (TellsOf s all from) u v found
settled_finds s all slots from to is settles u v found finds =
    finds_same (TellsOf s all to) (TellsOf s all from) u v found
    (subst (λ (l : List Slot). FindsMost (Told to.wanted to.lo (WaysOf s l to.number to.lo to.beside)) u v found) is finds)
    (λ t. (settles.same t).1) (λ t. (settles.same t).0)
