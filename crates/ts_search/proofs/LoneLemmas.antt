-- The ways of one item that takes one sibling, and of no item.
use Rattle.std.proofs.Common.{◌≡◌, ◌∙◌, sym, ap, refl, subst, ℕ, ◌+◌, ◌-◌, ◌<◌, ◌≤◌, ◌⊎◌, inl, inr, ⊎_elim, List, [], ◌∷◌, map, length, Option, Some, None, option_map, Bool, slice_get, true, false, ◌↔◌, arith}
use Rattle.std.specs.List.{Contains}
use Rattle.std.proofs.lemmas.Bool.{cases_lt}
use Rattle.std.proofs.lemmas.List.{length-map}
use Rattle.std.proofs.lemmas.Option.{slice_get_within, slice_get-map}
use Rattle.spec_trees.specs.declared.visible.VisibleNode.{VisibleNode}
use Rattle.ts_query_syntax.specs.declared.read_query.Item.{Item}
use Rattle.spec_matches.specs.declared.found.Capture.{Capture}
use Rattle.spec_matches.specs.declared.placing.Placing.{Placing}
use Rattle.spec_matches.specs.declared.scene.Scene.{Scene}
use Rattle.spec_matches.specs.Siblings.{named_at, nameds}
use Rattle.spec_matches.specs.Embedding.{Unnamed, first_sibling_taken, near_of}
use Rattle.spec_matches.specs.Taking.{Embedded}
use Rattle.ts_search.specs.declared.stand.Wanted.TheVariants.{Captures}
use Rattle.ts_search.specs.Adding.{Adds, IsLike, Yields}
use Rattle.ts_search.specs.Lone.{FirstTakes, IsClosedStart, IsLone, IsOnce, IsTiedEnd, WholeOf}
use Rattle.ts_search.specs.Memory.{Told}
use Rattle.ts_search.specs.Sets.{SameMembers, SameWay}
use Rattle.ts_search.specs.Ways.{TakenOf, slot_of}
use Rattle.ts_search.proofs.AddLemmas.{in_one, one_in}
use Rattle.ts_search.proofs.PlaceLemmas.{cases_lt_or_eq, in_map, of_map, same_at}
use Rattle.ts_search.proofs.SetLemmas.{same_itself, same_of, same_through}
use Rattle.ts_search.proofs.SingleLemmas.{lone_way}
use Rattle.ts_search.proofs.YieldLemmas.{like_each, like_to, yields_both, yields_exact, yields_nothing, yields_same}

not_both : (b : Bool) → b ≡ false → b ≡ true → ⊥
not_both b f t = let e : false ≡ true = sym f ∙ t in cc

-- ---- what anchors allow

module _ (nodes : List VisibleNode) (siblings : List ℕ) where
  seen_at : (p n : ℕ) → slice_get siblings p ≡ Some n → slice_get (nameds nodes siblings) p ≡ Some (named_at nodes n)
  seen_at p n at = slice_get-map (named_at nodes) siblings p ∙ ap (λ (o : Option ℕ). option_map (named_at nodes) o) at

  pub named_here : (p n : ℕ) → slice_get siblings p ≡ Some n → named_at nodes n ≡ true → slice_get (nameds nodes siblings) p ≡ Some true
  named_here p n at named = seen_at p n at ∙ ap Some named

  pub unnamed_here : (p n : ℕ) → slice_get siblings p ≡ Some n → named_at nodes n ≡ false → slice_get (nameds nodes siblings) p ≡ Some true → ⊥
  unnamed_here p n at unnamed h =
      let e : Some (named_at nodes n) ≡ Some true = sym (seen_at p n at) ∙ h in
      let f : named_at nodes n ≡ true = cc in
      not_both (named_at nodes n) unnamed f

  pub tied_loose : (tied : Bool) → tied ≡ false → IsTiedEnd nodes siblings tied (length siblings)
  tied_loose tied loose = record { inside = omega arith; only = λ p below t. absurd (not_both tied loose t); all = λ p below h. below }

  pub before_none : Unnamed (nameds nodes siblings) 0 0
  before_none p low below named = omega arith

  pub before_more : (place n : ℕ) → slice_get siblings place ≡ Some n → named_at nodes n ≡ false → Unnamed (nameds nodes siblings) 0 place → Unnamed (nameds nodes siblings) 0 (place + 1)
  before_more place n at unnamed before p low below named =
      ⊎_elim (λ lt. before p low lt named) (λ e. unnamed_here place n at unnamed (subst (λ (q : ℕ). slice_get (nameds nodes siblings) q ≡ Some true) e named)) (cases_lt_or_eq p place below)

  pub tied_at : (tied : Bool) (place n : ℕ) → tied ≡ true → slice_get siblings place ≡ Some n → named_at nodes n ≡ true → Unnamed (nameds nodes siblings) 0 place → IsTiedEnd nodes siblings tied (place + 1)
  tied_at tied place n behind at named before = record {
    inside = (let w = slice_get_within siblings place n at in omega arith);
    only = λ p below t q low less. before q low (omega arith);
    all = λ p below h. ⊎_elim (λ late. absurd (h behind place (omega arith) late (named_here place n at named))) (λ le. omega arith) (cases_lt place p);
  }

  pub tied_none : (tied : Bool) (place : ℕ) → length siblings ≤ place → Unnamed (nameds nodes siblings) 0 place → IsTiedEnd nodes siblings tied (length siblings)
  tied_none tied place past before = record { inside = omega arith; only = λ p below t q low less. before q low (omega arith); all = λ p below h. below }

  pub closed_loose : (closed : Bool) → closed ≡ false → IsClosedStart nodes siblings closed 0
  closed_loose closed loose = record { only = λ p low t. absurd (not_both closed loose t); all = λ p below h. omega arith }

  pub after_none : Unnamed (nameds nodes siblings) (length siblings - 0) (length siblings)
  after_none p low below named = omega arith

  pub after_more : (after place n : ℕ) → after < length siblings → place ≡ length siblings - 1 - after → slice_get siblings place ≡ Some n → named_at nodes n ≡ false → Unnamed (nameds nodes siblings) (length siblings - after) (length siblings)
      → Unnamed (nameds nodes siblings) (length siblings - (after + 1)) (length siblings)
  after_more after place n some is at unnamed before p low below named =
      ⊎_elim (λ lt. before p (omega arith) below named)
      (λ le. let e : p ≡ place = omega arith in unnamed_here place n at unnamed (subst (λ (q : ℕ). slice_get (nameds nodes siblings) q ≡ Some true) e named))
      (cases_lt place p)

  pub closed_at : (closed : Bool) (after place n : ℕ) → closed ≡ true → after < length siblings → place ≡ length siblings - 1 - after → slice_get siblings place ≡ Some n → named_at nodes n ≡ true
      → Unnamed (nameds nodes siblings) (length siblings - after) (length siblings) → IsClosedStart nodes siblings closed place
  closed_at closed after place n shut some is at named before = record {
    only = λ p low t q less below. before q (omega arith) below;
    all = λ p below h. ⊎_elim (λ early. absurd (h shut place (omega arith) (omega arith) (named_here place n at named))) (λ le. le) (cases_lt p place);
  }

  pub closed_none : (closed : Bool) (after : ℕ) → length siblings ≤ after → Unnamed (nameds nodes siblings) (length siblings - after) (length siblings) → IsClosedStart nodes siblings closed 0
  closed_none closed after past before = record { only = λ p low t q less below. before q (omega arith) below; all = λ p below h. omega arith }

-- ---- the siblings that the first of some items takes

some_in : (xs : List (List Capture)) → 0 < length xs → (c : List Capture) × Contains xs c
some_in [] h = absurd (omega (arith, h))
some_in (x ∷ xs) h = (x, (0, omega arith, refl))

module _ (scene : Scene) (is : List Item) (siblings : List ℕ) (from : ℕ) where
  pub first_none : (w : Bool) (a : List (List Capture)) → a ≡ [] → Yields SameMembers (FirstTakes scene is siblings from from) w w a
  first_none w a e = yields_nothing SameMembers (FirstTakes scene is siblings from from) w a e (λ c h. let l = h.low in let b = h.high in omega arith)

  wider : (k to : ℕ) → k ≤ to → (c : List Capture) → FirstTakes scene is siblings from k c → FirstTakes scene is siblings from to c
  wider k to le c h = record { place = h.place; low = h.low; high = (let b = h.high in omega arith); taken = h.taken }

  pub first_more : (k n : ℕ) (u v x w : Bool) (a more b : List (List Capture)) → from ≤ k → slice_get siblings k ≡ Some n → x ≡ v → Yields SameMembers (FirstTakes scene is siblings from k) u v a → Yields SameMembers (TakenOf scene is 0 0 n) x w more → Adds (Contains more) a b
      → Yields SameMembers (FirstTakes scene is siblings from (k + 1)) u w b
  first_more k n u v x w a more b low at same before one adds =
      yields_both SameMembers (FirstTakes scene is siblings from k) (TakenOf scene is 0 0 n) (FirstTakes scene is siblings from (k + 1)) u v w a more b before (subst (λ (t : Bool). Yields SameMembers (TakenOf scene is 0 0 n) t w more) same one) adds
      (λ c h. wider k (k + 1) (omega arith) c h)
      (λ c h. record { place = k; low = low; high = omega arith; taken = (n, at, h) })
      (λ c h. ⊎_elim (λ lt. inl (record { place = h.place; low = h.low; high = lt; taken = h.taken })) (λ e. inr (here c h e)) (cases_lt_or_eq h.place k h.high))
    where
      here : (c : List Capture) (h : FirstTakes scene is siblings from (k + 1) c) → h.place ≡ k → TakenOf scene is 0 0 n c
      here c h e =
          let m : h.taken.0 ≡ n = same_at siblings k h.taken.0 n (subst (λ (p : ℕ). slice_get siblings p ≡ Some h.taken.0) e h.taken.1) at in
          subst (λ (j : ℕ). TakenOf scene is 0 0 j c) m h.taken.2

  -- some were left out, and one at least is there
  pub first_cut : (k to : ℕ) (u v now : Bool) (a : List (List Capture)) → k ≤ to → now ≡ true → 0 < length a → Yields SameMembers (FirstTakes scene is siblings from k) u v a → Yields SameMembers (FirstTakes scene is siblings from to) u now a
  first_cut k to u v now a le cut some yields = record {
    part = record {
      only = λ c h. like_to SameMembers (FirstTakes scene is siblings from k) (FirstTakes scene is siblings from to) (wider k to le) c (yields.part.only c h);
      any = λ c h. some_in a some;
    };
    earlier = λ e. absurd (not_both now e cut);
    all = λ e c h. absurd (not_both now e cut);
  }

  pub first_all : (k to : ℕ) (u v : Bool) (a : List (List Capture)) → to ≤ k → (k ≡ from) ⊎ (k ≤ to) → Yields SameMembers (FirstTakes scene is siblings from k) u v a → Yields SameMembers (FirstTakes scene is siblings from to) u v a
  first_all k to u v a past inside yields = yields_same SameMembers (FirstTakes scene is siblings from k) (FirstTakes scene is siblings from to) u v a yields (less inside) (λ c h. wider to k past c h)
    where
      less : (k ≡ from) ⊎ (k ≤ to) → (c : List Capture) → FirstTakes scene is siblings from k c → FirstTakes scene is siblings from to c
      less (inl e) c h = let l = h.low in let b = h.high in absurd (omega arith)
      less (inr le) c h = wider k to le c h

-- ---- one item

module _ (scene : Scene) (closed : Bool) (siblings : List ℕ) (u v : Bool) (ways : List (List Capture)) where
  lone_at : (i : Item) → IsOnce i → (tied : Bool) → (slot_of i).tied ≡ tied → (from to : ℕ) → IsClosedStart scene.nodes siblings closed from → IsTiedEnd scene.nodes siblings tied to
      → Yields SameMembers (FirstTakes scene (i ∷ []) siblings from to) u v ways → Yields SameMembers (WholeOf scene (i ∷ []) closed siblings) u v ways
  lone_at i once tied behind from to starts ends yields = yields_same SameMembers (FirstTakes scene (i ∷ []) siblings from to) (WholeOf scene (i ∷ []) closed siblings) u v ways yields forth back
    where
      many : length (nameds scene.nodes siblings) ≡ length siblings
      many = length-map siblings (named_at scene.nodes)

      forth : (c : List Capture) → FirstTakes scene (i ∷ []) siblings from to c → WholeOf scene (i ∷ []) closed siblings c
      forth c t =
          let within = slice_get_within siblings t.place t.taken.0 t.taken.1 in
          let w = (lone_way scene i once closed siblings (record { first = Some t.place; near = true; captures = c })).1 (record {
            place_of = t.place;
            first = refl;
            near = refl;
            inside = omega (arith, many);
            takes_it = t.taken;
            before_it = λ e. ends.only t.place t.high (sym behind ∙ e);
            after_it = λ e. subst (λ (n : ℕ). Unnamed (nameds scene.nodes siblings) (t.place + 1) n) (sym many) (starts.only t.place t.low e);
          }) in
          record { runs = w.runs; full = w.full; gives = w.gives }

      back : (c : List Capture) → WholeOf scene (i ∷ []) closed siblings c → FirstTakes scene (i ∷ []) siblings from to c
      back c h =
          let a = (lone_way scene i once closed siblings (record { first = first_sibling_taken h.runs; near = near_of h.runs; captures = c })).0 (record { runs = h.runs; full = h.full; gives = h.gives; first = refl; near = refl }) in
          let within = slice_get_within siblings a.place_of a.takes_it.0 a.takes_it.1 in
          record {
            place = a.place_of;
            low = starts.all a.place_of within (λ e. subst (λ (n : ℕ). Unnamed (nameds scene.nodes siblings) (a.place_of + 1) n) many (a.after_it e));
            high = ends.all a.place_of within (λ t. a.before_it (behind ∙ t));
            taken = a.takes_it;
          }

  pub lone_are : (is : List Item) (tied : Bool) (from to : ℕ) → IsLone is tied → IsClosedStart scene.nodes siblings closed from → IsTiedEnd scene.nodes siblings tied to
      → Yields SameMembers (FirstTakes scene is siblings from to) u v ways → Yields SameMembers (WholeOf scene is closed siblings) u v ways
  lone_are is tied from to lone starts ends =
      subst (λ (l : List Item). Yields SameMembers (FirstTakes scene l siblings from to) u v ways → Yields SameMembers (WholeOf scene l closed siblings) u v ways) (sym lone.is_it)
      (lone_at lone.item lone.once tied lone.behind from to starts ends)

-- ---- no item

module _ (scene : Scene) (closed : Bool) (siblings : List ℕ) (w : Bool) where
  pub free_at : closed ≡ false → (c : List Capture) → Contains ([] ∷ []) c ↔ WholeOf scene [] closed siblings c
  free_at loose c = (
    (λ h. record { runs = []; full = record { embeds = λ t b. absurd (not_both closed loose t); widest = λ ws h e. h }; gives = one_in [] c h }),
    (λ h. in_one [] c h.gives),
  )

  pub free_are : (is : List Item) (ways : List (List Capture)) → is ≡ [] → closed ≡ false → ways ≡ [] ∷ [] → Yields SameMembers (WholeOf scene is closed siblings) w w ways
  free_are is ways none loose are =
      subst (λ (l : List Item). Yields SameMembers (WholeOf scene l closed siblings) w w ways) (sym none)
      (subst (λ (l : List (List Capture)). Yields SameMembers (WholeOf scene [] closed siblings) w w l) (sym are) (yields_exact SameMembers (WholeOf scene [] closed siblings) w ([] ∷ []) (like_each SameMembers same_itself (WholeOf scene [] closed siblings) ([] ∷ []) (free_at loose))))

-- ---- ways with places

module _ (scene : Scene) (is : List Item) (closed : Bool) (siblings : List ℕ) where
  pub whole_are : (u v : Bool) (found : List Placing) (ways : List (List Capture)) → Yields SameWay (Told Captures 0 (Embedded scene is closed siblings)) u v found → ways ≡ map (λ (f : Placing). f.captures) found
      → Yields SameMembers (WholeOf scene is closed siblings) u v ways
  whole_are u v found ways are e = record {
    part = record { only = only; any = λ c h. let g = are.part.any (bare c) (embeds c h) in (g.0.captures, in_of g.0 g.1) };
    earlier = are.earlier;
    all = λ t c h. let g = are.all t (bare c) (embeds c h) in (g.0.captures, in_of g.0 g.1, g.2.captures);
  }
    where
      bare : List Capture → Placing
      bare c = record { first = None; near = false; captures = c }

      embeds : (c : List Capture) (h : WholeOf scene is closed siblings c) → Told Captures 0 (Embedded scene is closed siblings) (bare c)
      embeds c h = (record { first = first_sibling_taken h.runs; near = near_of h.runs; captures = c }, record { runs = h.runs; full = h.full; gives = h.gives; first = refl; near = refl }, refl)

      in_of : (f : Placing) → Contains found f → Contains ways f.captures
      in_of f h = subst (λ (l : List (List Capture)). Contains l f.captures) (sym e) (in_map (λ (g : Placing). g.captures) found f h)

      only : (c : List Capture) → Contains ways c → IsLike SameMembers (WholeOf scene is closed siblings) c
      only c h =
          let f = of_map (λ (g : Placing). g.captures) found (record { first = None; near = true; captures = [] }) c (subst (λ (l : List (List Capture)). Contains l c) e h) in
          let g = are.part.only f.0 f.1 in
          let w = g.1 in
          let same : SameMembers f.0.captures w.0.captures = same_through f.0.captures g.0.captures w.0.captures g.2.captures (same_of g.0.captures w.0.captures (ap (λ (p : Placing). p.captures) w.2)) in
          (w.0.captures, record { runs = w.1.runs; full = w.1.full; gives = w.1.gives }, subst (λ (d : List Capture). SameMembers d w.0.captures) f.2 same)
