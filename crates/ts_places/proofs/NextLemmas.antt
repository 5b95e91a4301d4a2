-- Where the last reductions at a place and the shifts there were done, the graph is whole up to the
-- next place.
use Rattle.std.proofs.Common.{◌≡◌, ◌∙◌, sym, ap, refl, subst, ℕ, suc, ◌+◌, ◌<◌, ◌≤◌, ◌⊎◌, inl, inr, ⊎_elim, List, [], ◌∷◌, ◌++◌, Option, Some, arith}
use Rattle.std.specs.List.{Contains}
use Rattle.std.proofs.lemmas.Bool.{cases_order}
use Rattle.std.proofs.lemmas.List.{length-map}
use Rattle.std.proofs.lemmas.Option.{slice_get_within, slice_get-map}
use Rattle.std.specs.Option.{option_map}
use Rattle.ts_base.specs.Bytes.{Bytes}
use Rattle.ts_core.specs.declared.flat.Production.{Production}
use Rattle.spec_trees.specs.declared.tree.Tree.{Tree}
use Rattle.spec_trees.specs.Trees.{span_of}
use Rattle.spec_trees.specs.Made.{filling}
use Rattle.spec_runs.specs.Configurations.{token_tree}
use Rattle.spec_graph.specs.declared.graph.Head.{Head}
use Rattle.spec_graph.specs.declared.graph.Link.{Link}
use Rattle.spec_graph.specs.States.{AreRanks}
use Rattle.spec_lexing.specs.Lexing.{token}
use Rattle.spec_graph.specs.Laying.{Parsing, SeesAt, PassesAt, node_made, Taken, CanMakeNode, extra_tree}
use Rattle.spec_graph.specs.Grounded.{IsGrounded}
use Rattle.spec_graph.specs.Keys.{Key, Earlier, IsNextKey, LaysBefore, flat_before, stood_before, shifted_before, passed_before, made_before}
use Rattle.spec_graph.specs.Links.{IsAt, IsWay, HasLink, IsWholeTo, AreDone, HasGrown, AreAdded, IsOpened}
use Rattle.ts_graph.specs.declared.view.GraphView.{GraphView}
use Rattle.ts_graph.specs.Down.{place_at}
use Rattle.ts_table.specs.declared.view.ParseTable.{ParseTable}
use Rattle.ts_table.specs.Tables.{IsTable}
use Rattle.ts_table.specs.Ranks.{unit_rank}
use Rattle.ts_reductions.specs.SoundLinks.{bare_link, bare_links}
use Rattle.ts_reductions.specs.Sound.{Base, parsing_from, parsing_of, IsSoundBy}
use Rattle.ts_reductions.specs.Reducing.{AreReduced}
use Rattle.ts_reductions.specs.Laying.{HasPassed}
use Rattle.ts_places.specs.ShiftLaws.{LeafLaws, NextLaws}
use Rattle.ts_places.specs.Shifting.{AreShifted}
use Rattle.ts_places.proofs.HeadLemmas.{one_head}
use Rattle.ts_places.proofs.SmallLemmas.{contained_at, at_contained, read_at}
use Rattle.ts_places.proofs.GrowLemmas.{place_is_at, at_back, grows_more, grows_grown, link_stays}
use Rattle.ts_places.proofs.FarLemmas.{no_middle, before_none, node_behind}

member_bare : (links : List Link) (n : Link) → Contains (bare_links links) n → (l : Link) × Contains links l × (bare_link l ≡ n)
member_bare links n h =
    let k = at_contained (bare_links links) n h in
    let r = read_at links k.0 (subst (λ (m : ℕ). k.0 < m) (length-map links bare_link) (slice_get_within (bare_links links) k.0 n k.1)) in
    let same : Some (bare_link r.0) ≡ Some n = sym (slice_get-map bare_link links k.0 ∙ ap (λ (o : Option Link). option_map bare_link o) r.1) ∙ k.1 in
    (r.0, contained_at links k.0 r.0 r.1, cc)

-- the head at the start of the text is that of the empty stack
zero_head : (t : ParseTable) (text : Bytes) (base : Base) (g : GraphView) → IsSoundBy t text base g → (b : ℕ) (read : List ℕ) → IsAt (parsing_of t text) g.heads b read 0 → b ≡ 0
zero_head t text base g sound b read a = let d = sound.laid.graph.down b a.head a.is in by d.0 d.1
  where
    by : (way : List Link) → IsWay (bare_links g.links) b way 0 → b ≡ 0
    by [] w = w
    by (l ∷ way) w =
        let o = member_bare g.links l w.0 in
        let h = sound.laid.held o.0 o.1 in
        let s = h.spans in
        let up : o.0.above ≡ b = ap (λ (x : Link). x.above) o.2 ∙ w.1 in
        let place : place_at g.heads o.0.above ≡ 0 = ap (place_at g.heads) up ∙ place_is_at g.heads b a.head a.is ∙ a.place_is in
        let some = h.some in
        absurd (omega (arith, s, place, some))

module _ (laws : LeafLaws) (next_laws : NextLaws) (t : ParseTable) (table : IsTable t) (most : ℕ) (ranks : AreRanks t.grammar (unit_rank t.grammar) most) (text : Bytes) (base : Base) (old mid new : GraphView) (k m : Key) (early : base.place ≤ k.look) (sound : IsSoundBy t text base old) (r : AreReduced t text base old mid k) (s : AreShifted t text base mid new k.look) (next : IsNextKey most k m) (look_is : m.look ≡ suc k.look) where
  abbrev P : Parsing
  P = parsing_from t text base

  abbrev rank : ℕ → ℕ
  rank = unit_rank t.grammar

  -- the last of all keys at the place
  abbrev last : Key
  last = record { look = k.look; begins = 0; rank = 0 }

  grown : HasGrown P old.heads (bare_links old.links) new.heads (bare_links new.links)
  grown = grows_grown laws P old new (grows_more laws old mid new r.grows s.grows)

  shifted_grown : HasGrown P mid.heads (bare_links mid.links) new.heads (bare_links new.links)
  shifted_grown = grows_grown laws P mid new s.grows

  opened : IsOpened P new.heads (bare_links new.links) k.look
  opened = s.opened

  ground : IsGrounded P
  ground = sound.laid.parsed.grounded

  done : AreDone P rank old.heads (bare_links old.links) new.heads (bare_links new.links) k
  done number left p h e b outer inner over now end due =
      let w = r.done number left p h e b outer inner over now end due in
      let n = s.grows.links w.1 w.2 in (
        w.0,
        n.0,
        n.1,
        n.3 ∙ w.3,
        subst (λ (x : ℕ). IsAt P new.heads x (left ∷ now) end) (sym n.2) (s.grown.heads_stay w.1.above (left ∷ now) end w.4),
        laws.through n.0.tree w.1.tree _ n.4 w.5,
        (let x = w.6 in let y = n.5 in omega (arith, x, y)),
      )

  -- a node that begins behind the start and comes before the next key comes before the last one
  sooner : (look begins left : ℕ) → 0 < begins → begins < look → Earlier (record { look = look; begins = begins; rank = rank left }) m → Earlier (record { look = look; begins = begins; rank = rank left }) last
  sooner look begins left low lt earlier =
      ⊎_elim (λ before. by (no_later before)) (λ same. by (let e = ap (λ (j : Key). j.look) same in omega (arith, e)))
      (next (record { look = look; begins = begins; rank = rank left }) (omega (arith, lt), ranks.below left) earlier)
    where
      no_later : Earlier (record { look = look; begins = begins; rank = rank left }) k → look ≤ k.look
      no_later (inl less) = omega (arith, less)
      no_later (inr same) = let e = same.0 in omega (arith, e)

      by : look ≤ k.look → Earlier (record { look = look; begins = begins; rank = rank left }) last
      by le = order (cases_order look k.look)
        where
          order : (look ≡ k.look) ⊎ ((look < k.look) ⊎ (k.look < look)) → Earlier (record { look = look; begins = begins; rank = rank left }) last
          order (inl e) = inr (e, inl low)
          order (inr (inl less)) = inl less
          order (inr (inr more)) = absurd (omega (arith, le, more))

  -- ---- on a head that the reductions added

  module _ (b : ℕ) (read : List ℕ) (from : ℕ) (at : IsAt P mid.heads b read from) (past : P.place ≤ from) (low : 0 < from)
      (links : (u : Tree) (place : ℕ) (now : List ℕ) → LaysBefore P rank last read from (u ∷ []) place now → HasLink P mid.heads (bare_links mid.links) b u place now) where
    abbrev Linked : Tree → ℕ → List ℕ → Type 0
    Linked u place now = HasLink P new.heads (bare_links new.links) b u place now

    still : (u : Tree) (place : ℕ) (now : List ℕ) → LaysBefore P rank last read from (u ∷ []) place now → Linked u place now
    still u place now l = link_stays P mid.heads new.heads (bare_links mid.links) (bare_links new.links) shifted_grown b u place now (links u place now l)

    at_new : IsAt P new.heads b read from
    at_new = shifted_grown.heads_stay b read from at

    module _ (w : List Tree) (place : ℕ) (now : List ℕ) (l : LaysBefore P rank m read from w place now) (none : w ≡ []) where
      from_is : from ≡ place
      from_is = (before_none P rank m read from w place now l none).0

      read_is : read ≡ now
      read_is = (before_none P rank m read from w place now l none).1

      flat_there : LaysBefore P rank last read from [] place now
      flat_there =
          subst (λ (n : ℕ). LaysBefore P rank last read from [] n now) from_is
          (subst (λ (x : List ℕ). LaysBefore P rank last read from [] from x) read_is (flat_before read from))

      at_there : IsAt P new.heads b now place
      at_there = subst (λ (x : List ℕ). IsAt P new.heads b x place) read_is (subst (λ (n : ℕ). IsAt P new.heads b read n) from_is at_new)

    lays_linked : (all : List Tree) (place : ℕ) (now : List ℕ) (u : Tree) → LaysBefore P rank m read from all place now → all ≡ u ∷ [] → Linked u place now
    lays_linked _ _ _ u (flat_before _ _) e = absurd (no_middle [] u [] e)
    lays_linked _ _ _ u (stood_before _ _ w place now v above below l is at share) e =
        let none : w ≡ [] = cc in
        let one : v ≡ u = cc in
        subst (λ (x : Tree). Linked x (place + span_of v) (filling (v ∷ []) ++ now)) one
        (still v (place + span_of v) (filling (v ∷ []) ++ now) (stood_before read from [] place now v above below (flat_there w place now l none) is at share))
    lays_linked _ _ _ u (shifted_before _ _ w place now x pad size l after lt sees act) e =
        let none : w ≡ [] = cc in
        let one : token_tree x pad size ≡ u = cc in
        subst (λ (v : Tree). Linked v (place + (pad + size)) (x.0 ∷ now)) one (by none (cases_order place k.look))
      where
        by : w ≡ [] → (place ≡ k.look) ⊎ ((place < k.look) ⊎ (k.look < place)) → Linked (token_tree x pad size) (place + (pad + size)) (x.0 ∷ now)
        by none (inl here) =
            subst (λ (n : ℕ). Linked (token_tree x pad size) (n + (pad + size)) (x.0 ∷ now)) (sym here)
            (opened.shifts b now x pad size (subst (λ (n : ℕ). IsAt P new.heads b now n) here (at_there w place now l none)) (subst (λ (n : ℕ). SeesAt P now n (token x pad size)) here sees) act)
        by none (inr (inl before)) =
            still (token_tree x pad size) (place + (pad + size)) (x.0 ∷ now) (shifted_before read from [] place now x pad size (flat_there w place now l none) after before sees act)
        by none (inr (inr behind)) = absurd (omega (arith, behind, lt, look_is))
    lays_linked _ _ _ u (passed_before _ _ w place now x pad size l after lt passes) e =
        let none : w ≡ [] = cc in
        let one : extra_tree x pad size ≡ u = cc in
        subst (λ (v : Tree). Linked v (place + (pad + size)) now) one (by none (cases_order place k.look))
      where
        by : w ≡ [] → (place ≡ k.look) ⊎ ((place < k.look) ⊎ (k.look < place)) → Linked (extra_tree x pad size) (place + (pad + size)) now
        by none (inl here) =
            subst (λ (n : ℕ). Linked (extra_tree x pad size) (n + (pad + size)) now) (sym here)
            (opened.passes b now x pad size (subst (λ (n : ℕ). IsAt P new.heads b now n) here (at_there w place now l none)) (subst (λ (n : ℕ). PassesAt P now n x pad size) here passes))
        by none (inr (inl before)) =
            still (extra_tree x pad size) (place + (pad + size)) now (passed_before read from [] place now x pad size (flat_there w place now l none) after before passes)
        by none (inr (inr behind)) = absurd (omega (arith, behind, lt, look_is))
    lays_linked _ _ _ u (made_before _ _ w place now ks end over xs look number left p l inner outer all after taken folds count deep earlier) e =
        let none : w ≡ [] = cc in
        let one : node_made P number ks ≡ u = cc in
        let from_so = from_is w place now l none in
        let lt = node_behind laws t table text base ground now place (omega (arith, past, from_so)) (omega (arith, low, from_so)) ks end over xs look w read inner outer (subst (λ (n : ℕ). Taken ks w read n) from_so taken) in
        subst (λ (v : Tree). Linked v end (left ∷ now)) one
        (still (node_made P number ks) end (left ∷ now)
        (made_before read from [] place now ks end over xs look number left p (flat_there w place now l none) inner outer all after (subst (λ (v : List Tree). Taken ks v read from) none taken) folds count deep
        (sooner look place left (omega (arith, low, from_so)) lt earlier)))

  -- all that is laid on a head before the next key has a link, and no node is made there before it
  abbrev Little : ℕ → List ℕ → ℕ → Type 0
  Little b read from =
      ((u : Tree) (place : ℕ) (now : List ℕ) → LaysBefore P rank m read from (u ∷ []) place now → HasLink P new.heads (bare_links new.links) b u place now)
      × ((ks : List Tree) (end : ℕ) (over : List ℕ) (xs : List Tree) (look number left : ℕ) (p : Production) → CanMakeNode P read from ks end over xs look number left p
      → Earlier (record { look = look; begins = from; rank = rank left }) m → ⊥)

  added : AreAdded P rank old.heads new.heads (bare_links new.links) m
  added = record { each = λ b read from a. by b read from ((s.added m (omega (arith, look_is))).each b read from a) }
    where
      start : (b : ℕ) (read : List ℕ) → IsAt P mid.heads b read 0 → IsAt P old.heads b read 0
      start b read a =
          let e : b ≡ 0 = zero_head t text base mid r.sound b read a in
          let o = sound.laid.graph.start in
          subst (λ (n : ℕ). IsAt P old.heads n read 0) (sym e) (at_back P old.heads mid.heads r.grows.stay 0 o.head o.is read 0 (subst (λ (n : ℕ). IsAt P mid.heads n read 0) e a))

      on_new : (b : ℕ) (read : List ℕ) (from : ℕ) → IsAt P mid.heads b read from → P.place ≤ from → (0 ≡ from) ⊎ ((0 < from) ⊎ (from < 0))
          → ((u : Tree) (place : ℕ) (now : List ℕ) → LaysBefore P rank last read from (u ∷ []) place now → HasLink P mid.heads (bare_links mid.links) b u place now)
          → ((ks : List Tree) (end : ℕ) (over : List ℕ) (xs : List Tree) (look number left : ℕ) (p : Production) → CanMakeNode P read from ks end over xs look number left p → Earlier (record { look = look; begins = from; rank = rank left }) last → ⊥)
          → IsAt P old.heads b read from ⊎ Little b read from
      on_new b read from at past (inl e) links nodes = inl (subst (λ (n : ℕ). IsAt P old.heads b read n) e (start b read (subst (λ (n : ℕ). IsAt P mid.heads b read n) (sym e) at)))
      on_new b read from at past (inr (inl low)) links nodes = inr (
        (λ u place now l. lays_linked b read from at past low links (u ∷ []) place now u l refl),
        (λ ks end over xs look number left p c earlier.
            nodes ks end over xs look number left p c (sooner look from left low (node_behind laws t table text base ground read from past low ks end over xs look [] read c.inner c.outer c.taken) earlier)),
      )
      on_new b read from at past (inr (inr less)) links nodes = absurd (omega (arith, less))

      -- a new head stands where the stack ends or past it
      stands_past : (b : ℕ) (read : List ℕ) (from : ℕ) → (at : IsAt P mid.heads b read from) → (at.head.place ≡ k.look) ⊎ HasPassed P mid b → P.place ≤ from
      stands_past b read from at (inl e) = let f = at.place_is in omega (arith, e, f, early)
      stands_past b read from at (inr p) =
          let e = ap (λ (x : Head). x.place) (one_head mid.heads b p.at.head at.head p.at.is at.is) in
          let f = at.place_is in
          let g = p.at.place_is in
          let h = p.late in
          omega (arith, e, f, g, h)

      by_mid : (b : ℕ) (read : List ℕ) (from : ℕ) → IsAt P mid.heads b read from → IsAt P old.heads b read from ⊎ Little b read from
      by_mid b read from at = ⊎_elim
          (λ was. inl (record { head = at.head; is = was; state = at.state; place_is = at.place_is }))
          (λ n. ⊎_elim (λ was. inl was) (λ little. on_new b read from at (stands_past b read from at n.1) (cases_order 0 from) little.0 little.1) ((r.added last refl).each b read from at))
          (r.only b at.head at.is)

      by : (b : ℕ) (read : List ℕ) (from : ℕ) → IsAt P mid.heads b read from ⊎ Little b read from → IsAt P old.heads b read from ⊎ Little b read from
      by b read from (inl at) = by_mid b read from at
      by b read from (inr little) = inr little

  pub whole_next : IsWholeTo P rank old.heads (bare_links old.links) k → IsWholeTo P rank new.heads (bare_links new.links) m
  whole_next whole =
      next_laws.next_place P sound.laid.parsed.fit sound.laid.parsed.states ground rank most ranks old.heads (bare_links old.links) new.heads (bare_links new.links) k m sound.laid.graph whole
      done grown added opened next look_is
