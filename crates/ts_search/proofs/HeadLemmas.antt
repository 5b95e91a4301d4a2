-- The ways of a list of items, by what the first takes.
use Rattle.std.proofs.Common.{◌≡◌, ◌∙◌, sym, ap, refl, subst, ℕ, ◌+◌, ◌-◌, ◌<◌, ◌≤◌, ◌⊎◌, inl, inr, ⊎_elim, List, [], ◌∷◌, length, Option, Some, None, Bool, true, false, cond, arith, ◌↔◌}
use Rattle.std.specs.List.{Contains}
use Rattle.std.proofs.lemmas.Bool.{cases_lt}
use Rattle.spec_matches.specs.declared.found.Capture.{Capture}
use Rattle.spec_matches.specs.declared.placing.Slot.{Slot}
use Rattle.spec_matches.specs.declared.placing.Run.{Run}
use Rattle.ts_search.specs.declared.stand.Stand.{Stand}
use Rattle.ts_search.specs.declared.stand.Siblings.{Siblings}
use Rattle.spec_matches.specs.declared.placing.Placing.{Placing}
use Rattle.ts_search.specs.Adding.{Adds, FindsLike, FindsMost, Gains, OfSome}
use Rattle.spec_matches.specs.Embedding.{Rounds, Unnamed, Placed, Full, GivesCaptures, Along, IsWayFrom, first_sibling_taken, near_of}
use Rattle.ts_search.specs.Next.{Passes, TakesFirst}
use Rattle.ts_search.specs.Table.{Takes}
use Rattle.ts_search.specs.declared.stand.Wanted.{Wanted}
use Rattle.ts_search.specs.declared.stand.Wanted.TheVariants.{All, Captures, Here}
use Rattle.ts_search.specs.Memory.{Begun, HasSameCaptures, IsBare, Told, WaysOf}
use Rattle.ts_search.specs.Steps.{AnyStays, BeginsLate, HeadFrom, HeadNone, HeadTaken, HeadWay, NoneBefore, Reaches, RunBefore, Shown, Suits, TakenFrom, TakesAt}
use Rattle.ts_search.proofs.GrowLemmas.{late_placed}
use Rattle.ts_search.proofs.WidenLemmas.{no_offset}
use Rattle.ts_search.proofs.NextLemmas.{passes_taken}
use Rattle.ts_search.proofs.PlaceLemmas.{cases_lt_or_eq, none_in_nil}
use Rattle.ts_search.proofs.AddLemmas.{adds_none, one_in, in_one}
use Rattle.ts_search.proofs.GainLemmas.{finds_cut, finds_same, gains_both, gains_empty, gains_finds, gains_none, gains_same}
use Rattle.ts_search.proofs.WayLemmas.{ahead_from, ahead_to, none_from, none_to, way_heads}

module _ (s : Siblings) (is : List Slot) (at : Stand) where
  abbrev After : ℕ → Bool → Placing → Type 0
  After lo b = IsWayFrom (Takes s.table) s.named s.closed is (at.number + 1) lo b

  module _ (r : Run) (wanted : Wanted) (suits : Suits s at r.past wanted) (u v : Bool) (tails : List Placing)
      (are : FindsMost (Told wanted r.past (After r.past true)) u v tails) (placed : Placed (Takes s.table) s.named at.slot at.number at.lo at.beside r) where
    pub adds_head_run : (w x : Bool) (fronts : List (List Capture)) (a b : List (List Capture)) → FindsMost (Along (Takes s.table) at.number at.slot r.first (r.past - r.first) r.first) v w fronts
        → Gains (OfSome (RunBefore s is at r fronts) tails) w x a b → Gains (HeadTaken s is at r) u x a b
    adds_head_run w x fronts a b fits gains = record {
      more = gains.more;
      is = gains.is;
      only = λ c m.
          let h = gains.only c m in
          ahead_to s is at r wanted suits tails placed are.only c (h.0, h.1, h.2.stays, h.2.some.0, fits.only h.2.some.0 h.2.some.1, h.2.some.2);
      earlier = λ e. are.earlier (fits.earlier (gains.earlier e));
      added = λ e c h.
          let y = ahead_from s is at r wanted suits tails placed (are.all (fits.earlier (gains.earlier e))) c h in
          gains.added e c (y.0, y.1, record { stays = y.2; some = (y.3, fits.all (gains.earlier e) y.3 y.4, y.5) });
    }

    pub adds_no_run : (a : List (List Capture)) → (AnyStays s is at r tails → ⊥) → Gains (HeadTaken s is at r) u v a a
    adds_no_run a none = gains_none (HeadTaken s is at r) u v a are.earlier (λ e c h. let y = ahead_from s is at r wanted suits tails placed (are.all e) c h in none (y.0, y.1, y.2))

  pub begun_told : (here : Bool) (lo : ℕ) (W : Placing → Type 0) (t : Placing) → Told (cond here Here All) lo W t ↔ Begun here lo W t
  begun_told true lo W t = ((λ h. (h.0, (λ e. h.1))), (λ h. (h.0, h.1 refl)))
  begun_told false lo W t = ((λ h. (h, (λ e. let f : false ≡ true = e in cc))), (λ h. h.0))

  pub adds_head_none : (here : Bool) (u v : Bool) (tails a b : List Placing) → FindsMost (Told (cond here Here All) at.lo (After at.lo false)) u v tails → at.slot.optional ≡ true
      → Adds (OfSome (NoneBefore s is at) tails) a b → Gains (HeadNone s is at here) u v a b
  adds_head_none here u v tails a b are optional adds = record {
    more = adds.more;
    is = adds.is;
    only = λ f m. none_to s is at here tails (λ t h. (begun_told here at.lo (After at.lo false) t).0 (are.only t h)) optional f (adds.only f m);
    earlier = are.earlier;
    added = λ e f h. adds.added f (none_from s is at here tails (λ t y. are.all e t ((begun_told here at.lo (After at.lo false) t).1 y)) f h);
  }

  pub adds_no_head : (here : Bool) (a : List Placing) → at.slot.optional ≡ false → Adds (HeadNone s is at here) a a
  adds_no_head here a e = adds_none (HeadNone s is at here) a (λ f h. let o = h.0.full.embeds.0 in cc)

  -- captures of a run that begins at a place and ends up to another
  abbrev pub TakenUpTo : ℕ → ℕ → List Capture → Type 0
  TakenUpTo first last c = (past : ℕ) × (past ≤ last) × HeadTaken s is at (record { first = first; past = past }) c

  pub up_to_none : (first : ℕ) (w : Bool) (a : List (List Capture)) → a ≡ [] → Gains (TakenUpTo first first) w w [] a
  up_to_none first w a e = gains_empty (TakenUpTo first first) w a e (λ c h. let some = h.2.full.embeds.0.fits.some in let le = h.1 in omega arith)

  pub up_to_more : (first last : ℕ) (u v m w : Bool) (a b c : List (List Capture)) → m ≡ v → Gains (TakenUpTo first last) u v a b → Gains (HeadTaken s is at (record { first = first; past = last + 1 })) m w b c
      → Gains (TakenUpTo first (last + 1)) u w a c
  up_to_more first last u v m w a b c same before one =
      gains_both (TakenUpTo first last) (HeadTaken s is at (record { first = first; past = last + 1 })) (TakenUpTo first (last + 1)) u v w a b c before
      (subst (λ (t : Bool). Gains (HeadTaken s is at (record { first = first; past = last + 1 })) t w b c) same one)
      (λ f h. (h.0, omega (arith, h.1), h.2)) (λ f h. (last + 1, omega arith, h))
      (λ f h. ⊎_elim (λ lt. inl (h.0, omega arith, h.2)) (λ e. inr (subst (λ (p : ℕ). HeadTaken s is at (record { first = first; past = p }) f) e h.2)) (cases_lt_or_eq h.0 (last + 1) (omega (arith, h.1))))

  pub up_to_all : (first last end : ℕ) (u v : Bool) (b : List (List Capture)) → end ≤ last → Reaches s at first end → Gains (TakenUpTo first last) u v [] b → FindsMost (TakenFrom s is at first) u v b
  up_to_all first last end u v b past reaches before =
      gains_finds (TakenFrom s is at first) u v b
      (gains_same (TakenUpTo first last) (TakenFrom s is at first) u v [] b before (λ f h. (h.0, h.2)) (λ f h. (h.0, (let le = ((reaches h.0).0 h.1.full.embeds.0.fits).1 in omega arith), h.1)))

  pub up_to_part : (first last : ℕ) (u v w : Bool) (b : List (List Capture)) → w ≡ true → Gains (TakenUpTo first last) u v [] b → FindsMost (TakenFrom s is at first) u w b
  up_to_part first last u v w b cut before = finds_cut (TakenUpTo first last) (TakenFrom s is at first) u v w b before cut (λ f h. (h.0, h.2))

  pub adds_first : (first : ℕ) (u v : Bool) (lists kept : List (List Capture)) (a b : List Placing) → FindsMost (TakenFrom s is at first) u v lists → ((c : List Capture) → Contains kept c ↔ Contains lists c)
      → Adds (OfSome (Shown (Some first) true) kept) a b → Gains (HeadFrom s is at first) u v a b
  adds_first first u v lists kept a b all each adds = record { more = adds.more; is = adds.is; only = λ f h. to f (adds.only f h); earlier = all.earlier; added = λ e f h. adds.added f (from e f h) }
    where
      to : (f : Placing) → OfSome (Shown (Some first) true) kept f → HeadFrom s is at first f
      to f (c, there, is_it) =
          let x = all.only c ((each c).0 there) in
          subst (HeadFrom s is at first) (sym is_it) (x.0, x.1)

      from : v ≡ false → (f : Placing) → HeadFrom s is at first f → OfSome (Shown (Some first) true) kept f
      from e f (past, h) =
          let r : Run = record { first = first; past = past } in
          let is_it : f ≡ record { first = Some first; near = true; captures = f.captures } = (λ k. record { first = h.first k; near = h.near k; captures = f.captures }) in
          (f.captures, (each f.captures).1 (all.all e f.captures (past, subst (HeadWay s is at (Some r)) is_it h)), is_it)

  pub none_first : (first : ℕ) (a : List Placing) → (TakesAt s at first → ⊥) → Adds (HeadFrom s is at first) a a
  none_first first a none = adds_none (HeadFrom s is at first) a no_way
    where
      no_way : (f : Placing) → HeadFrom s is at first f → ⊥
      no_way f (past, h) =
          let some = h.full.embeds.0.fits.some in
          let x = h.full.embeds.0.fits.covers first (omega arith) some in
          none (x.0, subst (λ (o : ℕ). Takes s.table at.number o first x.0) (no_offset at.slot.more first) x.1)

  pub late_first : (first : ℕ) (a : List Placing) → BeginsLate s at first → Adds (HeadFrom s is at first) a a
  late_first first a late = adds_none (HeadFrom s is at first) a no_way
    where
      no_way : (f : Placing) → HeadFrom s is at first f → ⊥
      no_way f (past, h) =
          let r : Run = record { first = first; past = past } in
          let wide : Run = record { first = first - 1; past = past } in
          h.full.widest (Some wide ∷ h.rest) (inl (inr late.many.0, wide, refl, ((let later = late.later in omega arith), omega arith, inl (let later = late.later in omega arith)), refl))
          (late_placed s is at r late h.full.embeds.0, h.full.embeds.1)

  pub no_anchor : (first : ℕ) (a : List Placing) → ((at.slot.tied ≡ true → at.beside ≡ true → Unnamed s.named at.lo first) → ⊥) → Adds (HeadFrom s is at first) a a
  no_anchor first a fails = adds_none (HeadFrom s is at first) a (λ f h. fails h.1.full.embeds.0.anchored)

  pub placed_of : (first last end : ℕ) → at.lo ≤ first → first ≤ last → last < end → Reaches s at first end → (at.slot.tied ≡ true → at.beside ≡ true → Unnamed s.named at.lo first) → Rounds at.slot (last + 1 - first)
      → Placed (Takes s.table) s.named at.slot at.number at.lo at.beside (record { first = first; past = last + 1 })
  placed_of first last end after low below reaches anchored rounds = record { fits = (reaches (last + 1)).1 (omega arith, omega arith, rounds); after = after; anchored = anchored }

  pub no_rounds : (r : Run) (a : List (List Capture)) → (Rounds at.slot (r.past - r.first) → ⊥) → Adds (HeadTaken s is at r) a a
  no_rounds r a fails = adds_none (HeadTaken s is at r) a (λ f h. fails h.full.embeds.0.fits.rounds)

  -- ways in which the first item takes nothing, or a run that begins before a place
  abbrev pub HeadBelow : Bool → ℕ → Placing → Type 0
  HeadBelow here first f = HeadNone s is at here f ⊎ ((r : Run) × (r.first < first) × (here ≡ true → r.first ≡ at.lo) × HeadWay s is at (Some r) f)

  pub below_none : (here : Bool) (u v : Bool) (a b : List Placing) → a ≡ [] → Gains (HeadNone s is at here) u v a b → Gains (HeadBelow here at.lo) u v [] b
  below_none here u v a b e before =
      subst (λ (l : List Placing). Gains (HeadBelow here at.lo) u v l b) e
      (gains_same (HeadNone s is at here) (HeadBelow here at.lo) u v a b before (λ f h. inl h)
      (λ f h. ⊎_elim (λ n. n) (λ r. let after = r.3.full.embeds.0.after in let lt = r.1 in absurd (omega arith)) h))

  pub below_more : (here : Bool) (first : ℕ) (u v m w : Bool) (a b c : List Placing) → (here ≡ true → first ≡ at.lo) → m ≡ v → Gains (HeadBelow here first) u v a b → Gains (HeadFrom s is at first) m w b c
      → Gains (HeadBelow here (first + 1)) u w a c
  below_more here first u v m w a b c only same before one =
      gains_both (HeadBelow here first) (HeadFrom s is at first) (HeadBelow here (first + 1)) u v w a b c before (subst (λ (t : Bool). Gains (HeadFrom s is at first) t w b c) same one)
      (λ f h. ⊎_elim (λ n. inl n) (λ r. inr (r.0, omega (arith, r.1), r.2, r.3)) h) (λ f h. inr (record { first = first; past = h.0 }, omega arith, only, h.1)) either
    where
      split : (f : Placing) (r : Run) → (here ≡ true → r.first ≡ at.lo) → HeadWay s is at (Some r) f → (r.first < first) ⊎ (r.first ≡ first) → HeadBelow here first f ⊎ HeadFrom s is at first f
      split f r begins h (inl lt) = inl (inr (r, lt, begins, h))
      split f r begins h (inr e) = inr (r.past, subst (λ (n : ℕ). HeadWay s is at (Some (record { first = n; past = r.past })) f) e h)

      either : (f : Placing) → HeadBelow here (first + 1) f → HeadBelow here first f ⊎ HeadFrom s is at first f
      either f (inl n) = inl (inl n)
      either f (inr (r, lt, begins, h)) = split f r begins h (cases_lt_or_eq r.first first lt)

  -- a run begins where the item takes a sibling
  pub way_takes : (r : Run) (f : Placing) → HeadWay s is at (Some r) f → TakesAt s at r.first
  way_takes r f h =
      let some = h.full.embeds.0.fits.some in
      let x = h.full.embeds.0.fits.covers r.first (omega arith) some in
      (x.0, subst (λ (o : ℕ). Takes s.table at.number o r.first x.0) (no_offset at.slot.more r.first) x.1)

  -- places are passed that it does not take
  pub below_on : (here : Bool) (from to : ℕ) (u v : Bool) (b : List Placing) → Passes (TakesFirst s.table false at.number) from to → Gains (HeadBelow here from) u v [] b → Gains (HeadBelow here to) u v [] b
  below_on here from to u v b passes before = gains_same (HeadBelow here from) (HeadBelow here to) u v [] b before on back
    where
      on : (f : Placing) → HeadBelow here from f → HeadBelow here to f
      on f (inl n) = inl n
      on f (inr (r, lt, begins, h)) = inr (r, omega (arith, lt, passes.0), begins, h)

      back : (f : Placing) → HeadBelow here to f → HeadBelow here from f
      back f (inl n) = inl n
      back f (inr (r, lt, begins, h)) =
          ⊎_elim (λ below. inr (r, below, begins, h)) (λ le. absurd (passes_taken s.table at.number from to passes r.first le lt (way_takes r f h))) (cases_lt r.first from)

  some_is : (a b : ℕ) → Some a ≡ Some b → a ≡ b
  some_is a b e = cc

  module _ (here : Bool) (first : ℕ) (f : Placing) where
    begins : HeadBelow here first f → Begun here at.lo (WaysOf s (at.slot ∷ is) at.number at.lo at.beside) f
    begins (inl (h, here_it)) = ((way_heads s is at f).1 (inl h), here_it)
    begins (inr (r, lt, here_it, h)) = ((way_heads s is at f).1 (inr (r, h)), (λ y. h.first ∙ ap Some (here_it y)))

    module _ (end : ℕ) (past : end ≤ first) (ends : (p : ℕ) → at.lo ≤ p → p < length s.named → (here ≡ true → p ≡ at.lo) → p < end) where
      below : (here ≡ true → f.first ≡ Some at.lo) → HeadWay s is at None f ⊎ ((r : Run) × HeadWay s is at (Some r) f) → HeadBelow here first f
      below it (inl h) = inl (h, it)
      below it (inr (r, h)) =
          let only : here ≡ true → r.first ≡ at.lo = (λ y. some_is r.first at.lo (sym h.first ∙ it y)) in
          let placed = h.full.embeds.0 in
          let some = placed.fits.some in
          let inside = placed.fits.inside in
          let low = ends r.first placed.after (omega arith) only in
          inr (r, omega arith, only, h)

      from_begun : Begun here at.lo (WaysOf s (at.slot ∷ is) at.number at.lo at.beside) f → HeadBelow here first f
      from_begun (w, it) = below it ((way_heads s is at f).0 w)

  pub below_all : (here : Bool) (first end : ℕ) (u v : Bool) (b : List Placing) → end ≤ first → ((p : ℕ) → at.lo ≤ p → p < length s.named → (here ≡ true → p ≡ at.lo) → p < end) → Gains (HeadBelow here first) u v [] b
      → FindsMost (Begun here at.lo (WaysOf s (at.slot ∷ is) at.number at.lo at.beside)) u v b
  below_all here first end u v b past ends before =
      finds_same (HeadBelow here first) (Begun here at.lo (WaysOf s (at.slot ∷ is) at.number at.lo at.beside)) u v b (gains_finds (HeadBelow here first) u v b before)
      (begins here first) (λ f. from_begun here first f end past ends)

  pub below_part : (here : Bool) (first : ℕ) (u v w : Bool) (b : List Placing) → w ≡ true → Gains (HeadBelow here first) u v [] b → FindsMost (Begun here at.lo (WaysOf s (at.slot ∷ is) at.number at.lo at.beside)) u w b
  below_part here first u v w b cut before = finds_cut (HeadBelow here first) (Begun here at.lo (WaysOf s (at.slot ∷ is) at.number at.lo at.beside)) u v w b before cut (begins here first)

-- the ways of no items
pub end_way : (s : Siblings) (k lo : ℕ) (b : Bool) → (s.closed ≡ true → b ≡ true → Unnamed s.named lo (length s.named))
    → (f : Placing) → Contains (record { first = None; near = false; captures = [] } ∷ []) f ↔ IsWayFrom (Takes s.table) s.named s.closed [] k lo b f
end_way s k lo b may f = (to, from)
  where
    to : Contains (record { first = None; near = false; captures = [] } ∷ []) f → IsWayFrom (Takes s.table) s.named s.closed [] k lo b f
    to h =
        let is_it = one_in (record { first = None; near = false; captures = [] }) f h in
        record {
          runs = [];
          full = record { embeds = may; widest = λ ws w m. w };
          gives = ap (λ (g : Placing). g.captures) is_it;
          first = ap (λ (g : Placing). g.first) is_it;
          near = ap (λ (g : Placing). g.near) is_it;
        }

    by : (runs : List (Option Run)) → Full (Takes s.table) s.named s.closed [] k lo b runs → GivesCaptures (Takes s.table) [] k runs f.captures → f.first ≡ first_sibling_taken runs → f.near ≡ near_of runs → f ≡ record { first = None; near = false; captures = [] }
    by [] full gives first near = λ i. record { first = first i; near = near i; captures = gives i }
    by (r ∷ rs) full gives first near = absurd full.embeds

    from : IsWayFrom (Takes s.table) s.named s.closed [] k lo b f → Contains (record { first = None; near = false; captures = [] } ∷ []) f
    from w = in_one (record { first = None; near = false; captures = [] }) f (by w.runs w.full w.gives w.first w.near)

pub no_end : (s : Siblings) (k lo : ℕ) (b : Bool) → ((s.closed ≡ true → b ≡ true → Unnamed s.named lo (length s.named)) → ⊥)
    → (f : Placing) → Contains [] f ↔ IsWayFrom (Takes s.table) s.named s.closed [] k lo b f
no_end s k lo b fails f = ((λ h. absurd (none_in_nil f h)), (λ w. absurd (by w.runs w.full)))
  where
    by : (runs : List (Option Run)) → Full (Takes s.table) s.named s.closed [] k lo b runs → ⊥
    by [] full = fails full.embeds
    by (r ∷ rs) full = full.embeds

pub no_items : (is : List Slot) → length is ≡ 0 → is ≡ []
no_items [] e = refl
no_items (i ∷ is) e = absurd (omega arith)

none_is : (a : ℕ) → None ≡ Some a → ⊥
none_is a e = cc

-- none of them begins anywhere
pub no_here : (s : Siblings) (k lo : ℕ) (b here : Bool) → here ≡ true → (f : Placing) → Contains [] f ↔ Begun here lo (WaysOf s [] k lo b) f
no_here s k lo b here e f = ((λ h. absurd (none_in_nil f h)), (λ w. absurd (by w.0.runs w.0.full w.0.first (w.1 e))))
  where
    by : (runs : List (Option Run)) → Full (Takes s.table) s.named s.closed [] k lo b runs → f.first ≡ first_sibling_taken runs → f.first ≡ Some lo → ⊥
    by [] full first it = none_is lo (sym first ∙ it)
    by (r ∷ rs) full first it = full.embeds

-- those that may begin anywhere are all
pub begun_all : (here : Bool) → here ≡ false → (lo : ℕ) (W : Placing → Type 0) (f : Placing) → W f ↔ Begun here lo W f
begun_all here e lo W f = ((λ h. (h, (λ (t : here ≡ true). let x : true ≡ false = sym t ∙ e in cc))), (λ h. h.0))

-- ways as they are asked for
module _ (lo : ℕ) (W : Placing → Type 0) (u v : Bool) (found : List Placing) where
  pub told_all : FindsMost (Begun false lo W) u v found → FindsMost (Told All lo W) u v found
  told_all are = finds_same (Begun false lo W) (Told All lo W) u v found are (λ f h. h.0) (λ f h. (begun_all false refl lo W f).0 h)

  pub of_all : FindsMost (Told All lo W) u v found → FindsMost W u v found
  of_all are = finds_same (Told All lo W) W u v found are (λ f h. h) (λ f h. h)

  pub told_here : FindsMost (Begun true lo W) u v found → FindsMost (Told Here lo W) u v found
  told_here are = finds_same (Begun true lo W) (Told Here lo W) u v found are (λ f h. (h.0, h.1 refl)) (λ f h. (h.0, (λ e. h.1)))

  -- all ways, or ways that have the captures of all
  pub all_alike : FindsMost (Begun false lo W) u v found → FindsLike HasSameCaptures W u v found
  all_alike are = record { only = λ f h. (are.only f h).0; earlier = are.earlier; all = λ e f h. (f, are.all e f ((begun_all false refl lo W f).0 h), refl) }

  pub told_bare : (bares : List Placing) → FindsLike HasSameCaptures W u v found → ((f : Placing) → Contains bares f ↔ OfSome IsBare found f) → FindsMost (Told Captures lo W) u v bares
  told_bare bares are bare = record {
    only = λ f h. let x = (bare f).0 h in (x.0, are.only x.0 x.1, x.2);
    earlier = are.earlier;
    all = λ e f h.
        let y = are.all e h.0 h.1 in
        (bare f).1 (y.0, y.1, h.2 ∙ ap (λ (c : List Capture). record { first = None; near = false; captures = c }) y.2);
  }

pub like_exact : (W : Placing → Type 0) (w : Bool) (found : List Placing) → ((f : Placing) → Contains found f ↔ W f) → FindsLike HasSameCaptures W w w found
like_exact W w found are = record { only = λ f. (are f).0; earlier = λ e. e; all = λ e f h. (f, (are f).1 h, refl) }

pub like_at : (s : Siblings) (slots it : List Slot) (k lo : ℕ) (b : Bool) (u v : Bool) (found : List Placing) → slots ≡ it → FindsLike HasSameCaptures (WaysOf s it k lo b) u v found → FindsLike HasSameCaptures (WaysOf s slots k lo b) u v found
like_at s slots it k lo b u v found e h = subst (λ (l : List Slot). FindsLike HasSameCaptures (WaysOf s l k lo b) u v found) (sym e) h

-- the same for an equal wish, and for equal items
pub told_at : (lo : ℕ) (W : Placing → Type 0) (u v : Bool) (found : List Placing) (asked it : Wanted) → asked ≡ it → FindsMost (Told it lo W) u v found → FindsMost (Told asked lo W) u v found
told_at lo W u v found asked it e h = subst (λ (w : Wanted). FindsMost (Told w lo W) u v found) (sym e) h

pub begun_at : (s : Siblings) (slots it : List Slot) (k lo : ℕ) (b here : Bool) (u v : Bool) (found : List Placing) → slots ≡ it → FindsMost (Begun here lo (WaysOf s it k lo b)) u v found → FindsMost (Begun here lo (WaysOf s slots k lo b)) u v found
begun_at s slots it k lo b here u v found e h = subst (λ (l : List Slot). FindsMost (Begun here lo (WaysOf s l k lo b)) u v found) (sym e) h

pub begun_iff : (here : Bool) → here ≡ false → (lo : ℕ) (W : Placing → Type 0) (v : List Placing) (f : Placing) → Contains v f ↔ W f → Contains v f ↔ Begun here lo W f
begun_iff here e lo W v f are = let x = begun_all here e lo W f in ((λ h. x.0 (are.0 h)), (λ h. are.1 (x.1 h)))
