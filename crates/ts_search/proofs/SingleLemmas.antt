-- A pattern of one plain item matches where the item takes a node.
use Rattle.std.proofs.Common.{◌≡◌, ◌∙◌, sym, ap, refl, subst, ℕ, ◌+◌, ◌-◌, ◌%◌, ◌<◌, inl, inr, List, [], ◌∷◌, ◌++◌, length, Option, Some, None, Bool, slice_get, true, false, ◌↔◌, arith}
use Rattle.std.specs.List.{Contains}
use Rattle.std.specs.List.Sorted.{IsStrictlySortedBy}
use Rattle.std.specs.BTreeSet.{BTreeSet}
use Rattle.std.proofs.Math.Nat.{mod-lt}
use Rattle.std.proofs.lemmas.List.{append-nil, length-map}
use Rattle.ts_query_syntax.specs.declared.read_query.Item.{Item}
use Rattle.ts_query_syntax.specs.declared.read_query.Pattern.{Pattern}
use Rattle.spec_matches.specs.declared.found.Capture.{Capture}
use Rattle.spec_matches.specs.declared.found.Match.{Match}
use Rattle.spec_matches.specs.declared.placing.Slot.{Slot}
use Rattle.spec_matches.specs.declared.placing.Run.{Run}
use Rattle.spec_matches.specs.declared.placing.Placing.{Placing}
use Rattle.spec_matches.specs.declared.scene.Scene.{Scene}
use Rattle.spec_matches.specs.Siblings.{named_at, nameds}
use Rattle.spec_matches.specs.Embedding.{offset, Rounds, Covers, Placed, Embeds, Unnamed, Widened, Full, Along, GivesCaptures, IsWayFrom, IsQuantified, first_sibling_taken, near_of}
use Rattle.spec_matches.specs.Taking.{On, Embedded}
use Rattle.spec_matches.specs.Matches.{capture_cmp}
use Rattle.ts_search.specs.Adding.{OfSome}
use Rattle.ts_search.specs.Ways.{TakenOf, slot_of}
use Rattle.ts_search.specs.Gathering.{Gathers, GathersSome, HitsIn}
use Rattle.ts_search.specs.Lone.{IsOnce}
use Rattle.ts_search.specs.Single.{IsAlone, HitAt, HitsAt}
use Rattle.ts_search.proofs.PlaceLemmas.{there, at_of, same_at}
use Rattle.ts_search.proofs.ShapeLemmas.{slots_are}
use Rattle.ts_search.proofs.GatherLemmas.{gathers_same}
use Rattle.ts_search.proofs.LimitLemmas.{some_same}

not_both : (b : Bool) → b ≡ false → b ≡ true → ⊥
not_both b f t = let e : false ≡ true = sym f ∙ t in cc

pub mod_one : (n : ℕ) → n % (0 + 1) ≡ 0
mod_one n = let h : n % (0 + 1) < 0 + 1 = mod-lt n (omega arith) in omega arith

-- a slot that takes one sibling
pub record IsOne (s : Slot) : Type 0 where
  pub one : s.optional ≡ false
  pub few : s.many ≡ false
  pub alone : s.more ≡ 0

module _ (s : Slot) (o : IsOne s) where
  not_quantified : IsQuantified s → ⊥
  not_quantified (inl h) = not_both s.optional o.one h
  not_quantified (inr h) = not_both s.many o.few h

  pub width : (d : ℕ) → Rounds s d → d ≡ 1
  width d (whole, inl many) = absurd (not_both s.many o.few many)
  width d (whole, inr e) = e ∙ ap (λ (n : ℕ). n + 1) o.alone

  pub place : (first p : ℕ) → offset s first p ≡ 0
  place first p = ap (λ (n : ℕ). (p - first) % (n + 1)) o.alone ∙ mod_one (p - first)

  module _ (takes : ℕ → ℕ → ℕ → List Capture → Type 0) (named : List Bool) (closed : Bool) where
    -- what one way of the slot alone is
    pub record At (f : Placing) : Type 0 where
      pub place_of : ℕ
      pub first : f.first ≡ Some place_of
      pub near : f.near ≡ true
      pub inside : place_of < length named
      pub takes_it : takes 0 0 place_of f.captures
      pub before_it : s.tied ≡ true → Unnamed named 0 place_of
      pub after_it : closed ≡ true → Unnamed named (place_of + 1) (length named)

    to_at : (f : Placing) → IsWayFrom takes named closed (s ∷ []) 0 0 true f → At f
    to_at f w = by w.runs w.full w.gives w.first w.near
      where
        by : (runs : List (Option Run)) → Full takes named closed (s ∷ []) 0 0 true runs → GivesCaptures takes (s ∷ []) 0 runs f.captures → f.first ≡ first_sibling_taken runs → f.near ≡ near_of runs → At f
        by [] full gives first near = absurd full.embeds
        by (None ∷ rs) full gives first near = absurd (not_both s.optional o.one full.embeds.0)
        by (Some r ∷ r2 ∷ rs) full gives first near = absurd full.embeds.1
        by (Some r ∷ []) full gives first near =
            let fits = full.embeds.0.fits in
            let d : r.past - r.first ≡ 1 = width (r.past - r.first) fits.rounds in
            let some = fits.some in
            let inside = fits.inside in
            let along = subst (λ (n : ℕ). Along takes 0 s r.first n r.first gives.0) d gives.3 in
            let taken = subst (λ (p : ℕ). takes 0 p r.first along.0) (place r.first r.first) along.3 in
            let u : gives.0 ≡ along.0 = along.2 ∙ ap (λ (l : List Capture). along.0 ++ l) along.4 ∙ append-nil along.0 in
            let v : gives.1 ≡ [] = gives.4 in
            let c : f.captures ≡ along.0 = gives.2 ∙ ap (λ (l : List Capture). gives.0 ++ l) v ∙ append-nil gives.0 ∙ u in
            let past : r.past ≡ r.first + 1 = omega arith in
            record {
              place_of = r.first;
              first = first;
              near = near;
              inside = omega arith;
              takes_it = subst (takes 0 0 r.first) (sym c) taken;
              before_it = λ t. full.embeds.0.anchored t refl;
              after_it = λ e. subst (λ (p : ℕ). Unnamed named p (length named)) past (full.embeds.1 e refl);
            }

    from_at : (f : Placing) → At f → IsWayFrom takes named closed (s ∷ []) 0 0 true f
    from_at f a = record {
      runs = Some run ∷ [];
      full = record { embeds = (placed, (λ e b. a.after_it e)); widest = widest };
      gives = (f.captures, [], sym (append-nil f.captures), along, refl);
      first = a.first;
      near = a.near;
    }
      where
        p : ℕ
        p = a.place_of

        run : Run
        run = record { first = a.place_of; past = a.place_of + 1 }

        takes_there : takes 0 (offset s a.place_of a.place_of) a.place_of f.captures
        takes_there = subst (λ (o : ℕ). takes 0 o a.place_of f.captures) (sym (place a.place_of a.place_of)) a.takes_it

        one : (a.place_of + 1) - a.place_of ≡ 1
        one = omega arith

        rounds : Rounds s ((a.place_of + 1) - a.place_of)
        rounds = (ap (λ (n : ℕ). ((a.place_of + 1) - a.place_of) % (n + 1)) o.alone ∙ mod_one ((a.place_of + 1) - a.place_of), inr (one ∙ ap (λ (n : ℕ). n + 1) (sym o.alone)))

        covers : Covers takes 0 s run
        covers q low below = let e : q ≡ a.place_of = omega arith in (f.captures, subst (λ (j : ℕ). takes 0 (offset s a.place_of j) j f.captures) (sym e) takes_there)

        placed : Placed takes named s 0 0 true run
        placed = record {
          fits = record { some = omega arith; inside = (let i = a.inside in omega arith); rounds = rounds; covers = covers };
          after = omega arith;
          anchored = λ t b. a.before_it t;
        }

        widest : (ws : List (Option Run)) → Widened (s ∷ []) (Some run ∷ []) ws → Embeds takes named closed (s ∷ []) 0 0 true ws → ⊥
        widest [] h e = h
        widest (w ∷ ws) (inl h) e = not_quantified h.0
        widest (w ∷ ws) (inr h) e = h.1

        along : Along takes 0 s a.place_of ((a.place_of + 1) - a.place_of) a.place_of f.captures
        along = subst (λ (n : ℕ). Along takes 0 s a.place_of n a.place_of f.captures) (sym one) (f.captures, [], sym (append-nil f.captures), takes_there, refl)

    pub one_way : (f : Placing) → IsWayFrom takes named closed (s ∷ []) 0 0 true f ↔ At f
    one_way f = (to_at f, from_at f)

module _ (scene : Scene) (i : Item) (once : IsOnce i) where
  pub is_one : IsOne (slot_of i)
  is_one = record { one = once.one; few = once.few; alone = once.alone }

  abbrev pub Here : List ℕ → ℕ → ℕ → ℕ → List Capture → Type 0
  Here siblings = On (TakenOf scene (i ∷ [])) siblings

  -- a way of an item alone
  pub lone_way : (closed : Bool) (siblings : List ℕ) (f : Placing) → Embedded scene (i ∷ []) closed siblings f ↔ At (slot_of i) is_one (Here siblings) (nameds scene.nodes siblings) closed f
  lone_way closed siblings f =
      subst (λ (l : List Slot). IsWayFrom (Here siblings) (nameds scene.nodes siblings) closed l 0 0 true f ↔ At (slot_of i) is_one (Here siblings) (nameds scene.nodes siblings) closed f) (sym (slots_are (i ∷ [])))
      (one_way (slot_of i) is_one (Here siblings) (nameds scene.nodes siblings) closed f)

-- a pattern of one plain item matches in siblings where the item takes one of them
module _ (scene : Scene) (kept : Match → Type 0) (k : ℕ) (i : Item) (pattern : Pattern) (alone : IsAlone i pattern) (siblings : List ℕ) where
  is_way : (f : Placing)
      → Embedded scene pattern.items pattern.closed siblings f ↔ At (slot_of i) (is_one scene i alone.single.once) (Here scene i alone.single.once siblings) (nameds scene.nodes siblings) false f
  is_way f =
      subst (λ (is : List Item). Embedded scene is pattern.closed siblings f ↔ At (slot_of i) (is_one scene i alone.single.once) (Here scene i alone.single.once siblings) (nameds scene.nodes siblings) false f) (sym alone.is_it)
      (subst (λ (b : Bool). Embedded scene (i ∷ []) b siblings f ↔ At (slot_of i) (is_one scene i alone.single.once) (Here scene i alone.single.once siblings) (nameds scene.nodes siblings) false f) (sym alone.unclosed)
      (lone_way scene i alone.single.once false siblings f))

  pub to_hits : (m : Match) → OfSome (HitsAt scene kept k i) siblings m → HitsIn scene kept k pattern siblings m
  to_hits m (n, inside, (c, takes, hit)) =
      let f : Placing = record { first = Some inside.0; near = true; captures = c } in (
        f,
        (is_way f).1 (record {
          place_of = inside.0;
          first = refl;
          near = refl;
          inside = (let l = length-map siblings (named_at scene.nodes) in let w = inside.1 in omega arith);
          takes_it = (n, at_of siblings n inside, takes);
          before_it = λ t. absurd (not_both (slot_of i).tied alone.single.loose t);
          after_it = λ e. absurd (not_both false refl e);
        }),
        record {
          pattern = hit.pattern;
          comes = record { place = inside.0; first = refl; root = at_of siblings n inside ∙ ap Some (sym hit.root); members = hit.members; order = hit.order };
          keeps = hit.keeps;
        },
      )

  pub of_hits : (m : Match) → HitsIn scene kept k pattern siblings m → OfSome (HitsAt scene kept k i) siblings m
  of_hits m (f, embeds, hit) =
      let w = (is_way f).0 embeds in
      let e : Some w.place_of ≡ Some hit.comes.place = sym w.first ∙ hit.comes.first in
      let same : w.place_of ≡ hit.comes.place = cc in
      let n = w.takes_it.0 in
      let at : slice_get siblings hit.comes.place ≡ Some n = subst (λ (j : ℕ). slice_get siblings j ≡ Some n) same w.takes_it.1 in
      let r : m.root ≡ n = same_at siblings hit.comes.place m.root n hit.comes.root at in
      (n, there siblings hit.comes.place n at, (f.captures, w.takes_it.2, record { pattern = hit.pattern; root = r; members = hit.comes.members; order = hit.comes.order; keeps = hit.keeps }))

  pub single_hits : (u v : Bool) (a b : BTreeSet Match) → GathersSome (OfSome (HitsAt scene kept k i) siblings) u v a b → GathersSome (HitsIn scene kept k pattern siblings) u v a b
  single_hits u v a b adds = some_same (OfSome (HitsAt scene kept k i) siblings) (HitsIn scene kept k pattern siblings) u v a b adds to_hits of_hits

pub way_hit : (kept : Match → Type 0) (k n : ℕ) (captures cs : List Capture)
    → ((xs ys : List Capture) → IsStrictlySortedBy capture_cmp xs → IsStrictlySortedBy capture_cmp ys → ((c : Capture) → Contains xs c ↔ Contains ys c) → xs ≡ ys)
    → ((c : Capture) → Contains cs c ↔ Contains captures c) → IsStrictlySortedBy capture_cmp cs → (a b : BTreeSet Match)
    → Gathers (λ m. (m ≡ record { root = n; pattern = k; captures = cs }) × kept m) a b → Gathers (HitAt kept k n captures) a b
way_hit kept k n captures cs one_order members order a b adds = gathers_same (λ m. (m ≡ made) × kept m) (HitAt kept k n captures) a b adds to (λ m h. (only m h, h.keeps))
  where
    made : Match
    made = record { root = n; pattern = k; captures = cs }

    to : (m : Match) → (m ≡ made) × kept m → HitAt kept k n captures m
    to m (is, keeps) = record {
      pattern = ap (λ (x : Match). x.pattern) is;
      root = ap (λ (x : Match). x.root) is;
      members = λ c. subst (λ (l : List Capture). Contains l c ↔ Contains captures c) (ap (λ (x : Match). x.captures) (sym is)) (members c);
      order = subst (IsStrictlySortedBy capture_cmp) (ap (λ (x : Match). x.captures) (sym is)) order;
      keeps = keeps;
    }

    only : (m : Match) → HitAt kept k n captures m → m ≡ made
    only m h =
        let r = h.root in
        let p = h.pattern in
        let c : m.captures ≡ cs = one_order m.captures cs h.order order (λ x. ((λ w. (members x).1 ((h.members x).0 w)), (λ w. (h.members x).1 ((members x).0 w)))) in
        λ i. record { root = r i; pattern = p i; captures = c i }

pub only_one : (xs : List Item) (x : Item) → length xs ≡ 1 → slice_get xs 0 ≡ Some x → xs ≡ x ∷ []
only_one [] x l e = absurd (omega (arith, l))
only_one (y ∷ []) x l e = ap (λ (z : Item). z ∷ []) (same e)
  where
    same : Some y ≡ Some x → y ≡ x
    same f = cc
only_one (y ∷ z ∷ zs) x l e = absurd (omega (arith, l))
