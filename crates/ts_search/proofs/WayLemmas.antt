-- A full embedding of a list of items is one of the items after the first, and what the first takes.
use Rattle.std.proofs.Common.{◌≡◌, ◌∙◌, sym, ap, refl, subst, ℕ, ◌+◌, ◌-◌, ◌≤◌, ◌⊎◌, inl, inr, List, [], ◌∷◌, ◌++◌, Option, Some, None, Bool, true, false, ◌↔◌}
use Rattle.std.specs.List.{Contains}
use Rattle.spec_matches.specs.declared.found.Capture.{Capture}
use Rattle.spec_matches.specs.declared.placing.Slot.{Slot}
use Rattle.spec_matches.specs.declared.placing.Run.{Run}
use Rattle.ts_search.specs.declared.stand.Stand.{Stand}
use Rattle.ts_search.specs.declared.stand.Siblings.{Siblings}
use Rattle.spec_matches.specs.declared.placing.Placing.{Placing}
use Rattle.ts_search.specs.Adding.{OfSome}
use Rattle.spec_matches.specs.Embedding.{Placed, Embeds, Full, GivesCaptures, Along, Widened, IsWayFrom, first_sibling_taken, near_of}
use Rattle.ts_search.specs.Table.{Takes}
use Rattle.ts_search.specs.declared.stand.Wanted.{Wanted}
use Rattle.ts_search.specs.declared.stand.Wanted.TheVariants.{All, Here, Captures}
use Rattle.ts_search.specs.Memory.{Begun, Told}
use Rattle.ts_search.specs.Steps.{Allows, CanWiden, HeadNone, HeadTaken, HeadWay, NoneBefore, Suits, Widens}
use Rattle.ts_search.proofs.GrowLemmas.{begins_at, grows_iff, no_growth}

not_true : false ≡ true → ⊥
not_true e = cc

some_is : (a b : ℕ) → Some a ≡ Some b → a ≡ b
some_is a b e = cc

none_is : (a : ℕ) → None ≡ Some a → ⊥
none_is a e = cc

module _ (takes : ℕ → ℕ → ℕ → List Capture → Type 0) (named : List Bool) (closed : Bool) where
  far : (i : Slot) (is : List Slot) (x : ℕ) (o : Option ℕ) → Allows named closed (i ∷ is) x o false ↔ ((h : ℕ) → o ≡ Some h → x ≤ h)
  far i is x None = ((λ u h e. absurd (none_is h e)), (λ f. tt))
  far i is x (Some g) = ((λ u h e. subst (λ (n : ℕ). x ≤ n) (some_is g h e) u.0), (λ f. (f g refl, (λ e. absurd (not_true e)))))

  -- an embedding that begins beside nothing, from another place on
  moves_far : (is : List Slot) (k lo x : ℕ) (rs : List (Option Run)) → Embeds takes named closed is k lo false rs → Embeds takes named closed is k x false rs ↔ ((h : ℕ) → first_sibling_taken rs ≡ Some h → x ≤ h)
  moves_far [] k lo x [] e = ((λ m h f. absurd (none_is h f)), (λ h c b. absurd (not_true b)))
  moves_far [] k lo x (r ∷ rs) e = absurd e
  moves_far (i ∷ is) k lo x [] e = absurd e
  moves_far (i ∷ is) k lo x (None ∷ rs) e = let rest = moves_far is (k + 1) lo x rs e.1 in ((λ m. rest.0 m.1), (λ h. (e.0, rest.1 h)))
  moves_far (i ∷ is) k lo x (Some r ∷ rs) e = (
    (λ m h f. subst (λ (n : ℕ). x ≤ n) (some_is r.first h f) m.0.after),
    (λ h. (record { fits = e.0.fits; after = h r.first refl; anchored = λ t b. absurd (not_true b) }, e.1)),
  )

  -- an embedding, after a run that ends at another place
  pub moves : (is : List Slot) (k lo : ℕ) (b : Bool) (x : ℕ) (rs : List (Option Run)) → Embeds takes named closed is k lo b rs
      → Embeds takes named closed is k x true rs ↔ Allows named closed is x (first_sibling_taken rs) (near_of rs)
  moves [] k lo b x [] e = ((λ m c. m c refl), (λ a c t. a c))
  moves [] k lo b x (r ∷ rs) e = absurd e
  moves (i ∷ is) k lo b x [] e = absurd e
  moves (i ∷ is) k lo b x (None ∷ rs) e =
      let rest = moves_far is (k + 1) lo x rs e.1 in
      let other = far i is x (first_sibling_taken rs) in
      ((λ m. other.1 (rest.0 m.1)), (λ a. (e.0, rest.1 (other.0 a))))
  moves (i ∷ is) k lo b x (Some r ∷ rs) e = (
    (λ m. (m.0.after, (λ n t. m.0.anchored t refl))),
    (λ a. (record { fits = e.0.fits; after = a.0; anchored = λ t n. a.1 refl t }, e.1)),
  )

module _ (s : Siblings) (is : List Slot) (at : Stand) where
  abbrev T : ℕ → ℕ → ℕ → List Capture → Type 0
  T = Takes s.table

  abbrev WayAfter : ℕ → Bool → Placing → Type 0
  WayAfter lo b = IsWayFrom T s.named s.closed is (at.number + 1) lo b

  abbrev E : List (Option Run) → Type 0
  E rs = Embeds T s.named s.closed (at.slot ∷ is) at.number at.lo at.beside rs

  -- a tail says what a wider run of the first item may do
  allowed_of : (lo : ℕ) (b : Bool) (t : Placing) (w : WayAfter lo b t) (x : ℕ) → Embeds T s.named s.closed is (at.number + 1) x true w.runs ↔ Allows s.named s.closed is x t.first t.near
  allowed_of lo b t w x =
      let m = moves T s.named s.closed is (at.number + 1) lo b x w.runs w.full.embeds in
      subst (λ (n : Bool). Embeds T s.named s.closed is (at.number + 1) x true w.runs ↔ Allows s.named s.closed is x t.first n) (sym w.near)
      (subst (λ (o : Option ℕ). Embeds T s.named s.closed is (at.number + 1) x true w.runs ↔ Allows s.named s.closed is x o (near_of w.runs)) (sym w.first) m)

  widest_none : (t : Placing) (w : WayAfter at.lo false t) → (Widens s is at None t → ⊥) → (ws : List (Option Run)) → Widened (at.slot ∷ is) (None ∷ w.runs) ws → E ws → ⊥
  widest_none t w fixed [] h e = h
  widest_none t w fixed (x ∷ ws) (inl (q, r, is_run, wider, same)) e =
      let f : E (Some r ∷ w.runs) = subst (λ (l : List (Option Run)). E (Some r ∷ l)) same (subst (λ (o : Option Run). E (o ∷ ws)) is_run e) in
      fixed (record { quantified = q; run = r; by = record { wider = wider; placed = f.0; allowed = (allowed_of at.lo false t w r.past).0 f.1 } })
  widest_none t w fixed (x ∷ ws) (inr (is_none, more)) e =
      let f : E (None ∷ ws) = subst (λ (o : Option Run). E (o ∷ ws)) is_none e in
      w.full.widest ws more f.1

  widest_run : (r : Run) (t : Placing) (w : WayAfter r.past true t) → (Widens s is at (Some r) t → ⊥) → (ws : List (Option Run)) → Widened (at.slot ∷ is) (Some r ∷ w.runs) ws → E ws → ⊥
  widest_run r t w fixed [] h e = h
  widest_run r t w fixed (x ∷ ws) (inl (q, r2, is_run, wider, same)) e =
      let f : E (Some r2 ∷ w.runs) = subst (λ (l : List (Option Run)). E (Some r2 ∷ l)) same (subst (λ (o : Option Run). E (o ∷ ws)) is_run e) in
      fixed (record { quantified = q; run = r2; by = record { wider = wider; placed = f.0; allowed = (allowed_of r.past true t w r2.past).0 f.1 } })
  widest_run r t w fixed (x ∷ ws) (inr (is_same, more)) e =
      let f : E (Some r ∷ ws) = subst (λ (o : Option Run). E (o ∷ ws)) is_same e in
      w.full.widest ws more f.1

  pub none_to : (here : Bool) (tails : List Placing) → ((t : Placing) → Contains tails t → Begun here at.lo (WayAfter at.lo false) t) → at.slot.optional ≡ true
      → (f : Placing) → OfSome (NoneBefore s is at) tails f → HeadNone s is at here f
  none_to here tails only optional f (t, there, n) =
      let begun = only t there in
      let w = begun.0 in
      let head : HeadWay s is at None f = record {
        rest = w.runs;
        full = record { embeds = (optional, w.full.embeds); widest = widest_none t w n.fixed };
        gives = subst (λ (g : Placing). GivesCaptures T is (at.number + 1) w.runs g.captures) (sym n.is_it) w.gives;
        first = ap (λ (g : Placing). g.first) n.is_it ∙ w.first;
        near = ap (λ (g : Placing). g.near) n.is_it;
      } in
      (head, (λ h. ap (λ (g : Placing). g.first) n.is_it ∙ begun.1 h))

  pub none_from : (here : Bool) (tails : List Placing) → ((t : Placing) → Begun here at.lo (WayAfter at.lo false) t → Contains tails t)
      → (f : Placing) → HeadNone s is at here f → OfSome (NoneBefore s is at) tails f
  none_from here tails all f (h, begins) =
      let t : Placing = record { first = first_sibling_taken h.rest; near = near_of h.rest; captures = f.captures } in
      let w : WayAfter at.lo false t = record {
        runs = h.rest;
        full = record { embeds = h.full.embeds.1; widest = λ ws more e. h.full.widest (None ∷ ws) (inr (refl, more)) (h.full.embeds.0, e) };
        gives = h.gives;
        first = refl;
        near = refl;
      } in (
        t,
        all t (w, (λ y. sym h.first ∙ begins y)),
        record {
          fixed = λ v. h.full.widest (Some v.run ∷ h.rest) (inl (v.quantified, v.run, refl, v.by.wider, refl)) (v.by.placed, (allowed_of at.lo false t w v.run.past).1 v.by.allowed);
          is_it = λ k. record { first = h.first k; near = h.near k; captures = f.captures };
        },
      )

  told_to : (r : Run) (wanted : Wanted) → Suits s at r.past wanted → (t : Placing) → Told wanted r.past (WayAfter r.past true) t → (CanWiden s is at r t → ⊥)
      → (g : Placing) × WayAfter r.past true g × (g.captures ≡ t.captures) × (CanWiden s is at r g → ⊥)
  told_to r All suits t w stays = (t, w, refl, stays)
  told_to r Here suits t w stays = (t, w.0, refl, stays)
  told_to r Captures suits t (g, w, bare) stays = (g, w, ap (λ (f : Placing). f.captures) (sym bare), no_growth s is at suits r g)

  told_from : (r : Run) (wanted : Wanted) → Suits s at r.past wanted → (g : Placing) → WayAfter r.past true g → (CanWiden s is at r g → ⊥)
      → (t : Placing) × Told wanted r.past (WayAfter r.past true) t × (t.captures ≡ g.captures) × (CanWiden s is at r t → ⊥)
  told_from r All suits g w stays = (g, w, refl, stays)
  told_from r Here suits g w stays =
      let near_it : g.first ≡ Some r.past =
      begins_at s.named s.closed is r.past g.first g.near ((allowed_of r.past true g w r.past).0 w.full.embeds) (λ a. stays (inr (inl (record { on = suits; allowed = a })))) in
      (g, (w, near_it), refl, stays)
  told_from r Captures suits g w stays =
      let t : Placing = record { first = None; near = false; captures = g.captures } in
      (t, (g, w, refl), refl, no_growth s is at suits r t)

  -- the captures of a run, and then those of a tail before which it stays
  abbrev pub Ahead : Run → List Placing → List Capture → Type 0
  Ahead r tails c = (t : Placing) × Contains tails t × (CanWiden s is at r t → ⊥) × (u : List Capture) × Along T at.number at.slot r.first (r.past - r.first) r.first u × (c ≡ u ++ t.captures)

  module _ (r : Run) (wanted : Wanted) (suits : Suits s at r.past wanted) (tails : List Placing) (placed : Placed T s.named at.slot at.number at.lo at.beside r) where
    pub ahead_of : (g : Placing) (w : WayAfter r.past true g) → (CanWiden s is at r g → ⊥) → (u c : List Capture) → Along T at.number at.slot r.first (r.past - r.first) r.first u → c ≡ u ++ g.captures → HeadTaken s is at r c
    ahead_of g w free u c along e = record {
      rest = w.runs;
      full = record {
        embeds = (placed, w.full.embeds);
        widest = widest_run r g w (λ v. free ((grows_iff s is at r g placed ((allowed_of r.past true g w r.past).0 w.full.embeds)).1 v));
      };
      gives = (u, g.captures, e, along, w.gives);
      first = refl;
      near = refl;
    }

    pub ahead_to : ((t : Placing) → Contains tails t → Told wanted r.past (WayAfter r.past true) t) → (c : List Capture) → Ahead r tails c → HeadTaken s is at r c
    ahead_to only c (t, there, stays, u, along, e) =
        let g = told_to r wanted suits t (only t there) stays in
        ahead_of g.0 g.1 g.3 u c along (e ∙ ap (λ (v : List Capture). u ++ v) (sym g.2))

    pub ahead_from : ((t : Placing) → Told wanted r.past (WayAfter r.past true) t → Contains tails t) → (c : List Capture) → HeadTaken s is at r c → Ahead r tails c
    ahead_from all c h =
        let u : List Capture = h.gives.0 in
        let v : List Capture = h.gives.1 in
        let same : c ≡ u ++ v = h.gives.2 in
        let g : Placing = record { first = first_sibling_taken h.rest; near = near_of h.rest; captures = v } in
        let w : WayAfter r.past true g = record {
          runs = h.rest;
          full = record { embeds = h.full.embeds.1; widest = λ ws more e. h.full.widest (Some r ∷ ws) (inr (refl, more)) (h.full.embeds.0, e) };
          gives = h.gives.4;
          first = refl;
          near = refl;
        } in
        let fixed : Widens s is at (Some r) g → ⊥ =
        λ x. h.full.widest (Some x.run ∷ h.rest) (inl (x.quantified, x.run, refl, x.by.wider, refl)) (x.by.placed, (allowed_of r.past true g w x.run.past).1 x.by.allowed) in
        let t = told_from r wanted suits g w (λ x. fixed ((grows_iff s is at r g placed ((allowed_of r.past true g w r.past).0 w.full.embeds)).0 x)) in
        (t.0, all t.0 t.1, t.3, u, h.gives.3, same ∙ ap (λ (l : List Capture). u ++ l) (sym t.2))

  -- the first item takes nothing or a run
  pub way_heads : (f : Placing) → IsWayFrom T s.named s.closed (at.slot ∷ is) at.number at.lo at.beside f ↔ (HeadWay s is at None f ⊎ ((r : Run) × HeadWay s is at (Some r) f))
  way_heads f = (to, from)
    where
      by : (runs : List (Option Run)) → Full T s.named s.closed (at.slot ∷ is) at.number at.lo at.beside runs → GivesCaptures T (at.slot ∷ is) at.number runs f.captures → f.first ≡ first_sibling_taken runs → f.near ≡ near_of runs
          → HeadWay s is at None f ⊎ ((r : Run) × HeadWay s is at (Some r) f)
      by [] full gives first near = absurd full.embeds
      by (None ∷ rs) full gives first near = inl (record { rest = rs; full = full; gives = gives; first = first; near = near })
      by (Some r ∷ rs) full gives first near = inr (r, record { rest = rs; full = full; gives = gives; first = first; near = near })

      to : IsWayFrom T s.named s.closed (at.slot ∷ is) at.number at.lo at.beside f → HeadWay s is at None f ⊎ ((r : Run) × HeadWay s is at (Some r) f)
      to w = by w.runs w.full w.gives w.first w.near

      from : HeadWay s is at None f ⊎ ((r : Run) × HeadWay s is at (Some r) f) → IsWayFrom T s.named s.closed (at.slot ∷ is) at.number at.lo at.beside f
      from (inl h) = record { runs = None ∷ h.rest; full = h.full; gives = h.gives; first = h.first; near = h.near }
      from (inr (r, h)) = record { runs = Some r ∷ h.rest; full = h.full; gives = h.gives; first = h.first; near = h.near }
