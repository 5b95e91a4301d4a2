-- Keys that ask for the same from the first sibling on that their item takes.
use Rattle.std.proofs.Common.{◌≡◌, sym, refl, subst, ℕ, ◌≤◌, ⊎_elim, List, [], ◌∷◌, length, drop, Option, Some, None, ◌↔◌, arith}
use Rattle.std.proofs.lemmas.Bool.{cases_lt}
use Rattle.spec_matches.specs.declared.placing.Slot.{Slot}
use Rattle.spec_matches.specs.declared.placing.Run.{Run}
use Rattle.spec_matches.specs.declared.placing.Placing.{Placing}
use Rattle.spec_matches.specs.Embedding.{Embeds}
use Rattle.ts_search.specs.declared.stand.Key.{Key}
use Rattle.ts_search.specs.declared.stand.Siblings.{Siblings}
use Rattle.ts_search.specs.declared.stand.Stand.{Stand}
use Rattle.ts_search.specs.declared.stand.Wanted.{Wanted}
use Rattle.ts_search.specs.declared.stand.Wanted.TheVariants.{All, Here, Captures}
use Rattle.ts_search.specs.Memory.{TellsOf, Told, WaysOf}
use Rattle.ts_search.specs.Passing.{MayMove, Settles}
use Rattle.ts_search.specs.Steps.{HeadWay, NoneTaken}
use Rattle.ts_search.specs.Table.{Takes}
use Rattle.ts_search.proofs.GainLemmas.{not_both}
use Rattle.ts_search.proofs.HeadLemmas.{way_takes}
use Rattle.ts_search.proofs.WayLemmas.{way_heads}
use Rattle.ts_search.proofs.WidenLemmas.{no_offset}

module _ (s : Siblings) (i : Slot) (is : List Slot) (key : Key) (may : MayMove i key) (p : ℕ) where
  abbrev at : Stand
  at = record { slot = i; number = key.number; lo = key.lo; beside = key.beside }

  abbrev From : ℕ → List (Option Run) → Type 0
  From lo rs = Embeds (Takes s.table) s.named s.closed (i ∷ is) key.number lo key.beside rs

  abbrev Ways : ℕ → Placing → Type 0
  Ways lo = WaysOf s (i ∷ is) key.number lo key.beside

  -- each way begins with a run of the item
  begins : (g : Placing) → Ways key.lo g → (r : Run) × HeadWay s is at (Some r) g
  begins g w = ⊎_elim (λ h. absurd (not_both i.optional h.full.embeds.0 may.some)) (λ h. h) ((way_heads s is at g).0 w)

  told_way : (w : Wanted) (lo : ℕ) (t : Placing) → Told w lo (Ways lo) t → (g : Placing) × Ways lo g
  told_way All lo t h = (t, h)
  told_way Here lo t h = (t, h.0)
  told_way Captures lo t (g, w, bare) = (g, w)

  module _ (none : NoneTaken s at p) where
    pub nowhere_on : length s.named ≤ p → (t : Placing) → Told key.wanted key.lo (Ways key.lo) t → ⊥
    nowhere_on past t h = let g = told_way key.wanted key.lo t h in let b = begins g.0 g.1 in by b.0 g.0 b.1
      where
        by : (r : Run) (g : Placing) → HeadWay s is at (Some r) g → ⊥
        by r g h =
            let placed = h.full.embeds.0 in
            let some = placed.fits.some in
            let inside = placed.fits.inside in
            none r.first placed.after (omega (arith, some, inside, past)) (way_takes s is at r g h)

    module _ (low : key.lo ≤ p) where
      on : (rs : List (Option Run)) → From key.lo rs → From p rs
      on [] e = e
      on (None ∷ rs) e = absurd (not_both i.optional e.0 may.some)
      on (Some r ∷ rs) e = (record { fits = e.0.fits; after = after; anchored = λ t b. absurd (may.free t b) }, e.1)
        where
          after : p ≤ r.first
          after =
              let some = e.0.fits.some in
              let x = e.0.fits.covers r.first (omega arith) some in
              ⊎_elim
              (λ lt. absurd (none r.first e.0.after lt (x.0, subst (λ (o : ℕ). Takes s.table key.number o r.first x.0) (no_offset i.more r.first) x.1)))
              (λ le. le) (cases_lt r.first p)

      back : (rs : List (Option Run)) → From p rs → From key.lo rs
      back [] e = e
      back (None ∷ rs) e = absurd (not_both i.optional e.0 may.some)
      back (Some r ∷ rs) e = (record { fits = e.0.fits; after = (let after = e.0.after in omega (arith, after, low)); anchored = λ t b. absurd (may.free t b) }, e.1)

      ways : (g : Placing) → Ways key.lo g ↔ Ways p g
      ways g = (
        (λ w. record { runs = w.runs; full = record { embeds = on w.runs w.full.embeds; widest = λ ws more e. w.full.widest ws more (back ws e) }; gives = w.gives; first = w.first; near = w.near }),
        (λ w. record { runs = w.runs; full = record { embeds = back w.runs w.full.embeds; widest = λ ws more e. w.full.widest ws more (on ws e) }; gives = w.gives; first = w.first; near = w.near }),
      )

      told_on : (w : Wanted) → (w ≡ Here → ⊥) → (t : Placing) → Told w key.lo (Ways key.lo) t ↔ Told w p (Ways p) t
      told_on All anywhere t = ways t
      told_on Here anywhere t = absurd (anywhere refl)
      told_on Captures anywhere t = ((λ h. (h.0, (ways h.0).0 h.1, h.2)), (λ h. (h.0, (ways h.0).1 h.1, h.2)))

      pub tells_on : (t : Placing) → Told key.wanted key.lo (Ways key.lo) t ↔ Told key.wanted p (Ways p) t
      tells_on = told_on key.wanted may.anywhere

module _ (s : Siblings) (all is : List Slot) (i : Slot) (key : Key) (may : MayMove i key) (begins_so : drop key.number all ≡ i ∷ is) (p : ℕ) where
  abbrev pub from : Stand
  from = record { slot = i; number = key.number; lo = key.lo; beside = key.beside }

  pub never : NoneTaken s from p → length s.named ≤ p → (t : Placing) → TellsOf s all key t → ⊥
  never none past t h = nowhere_on s i is key may p none past t (subst (λ (l : List Slot). Told key.wanted key.lo (WaysOf s l key.number key.lo key.beside) t) begins_so h)

  abbrev pub moved : Key
  moved = record { number = key.number; lo = p; beside = key.beside; wanted = key.wanted }

  pub settles_there : NoneTaken s from p → key.lo ≤ p → key.number ≤ length all → Settles s all key moved
  settles_there none low inside = record {
    later = omega arith;
    inside = inside;
    same = λ t. subst (λ (l : List Slot). Told key.wanted key.lo (WaysOf s l key.number key.lo key.beside) t ↔ Told key.wanted p (WaysOf s l key.number p key.beside) t) (sym begins_so) (tells_on s i is key may p none low t);
  }
