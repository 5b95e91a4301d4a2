-- The heads that stand at a place or past it, in a graph that grows.
use Rattle.std.proofs.Common.{◌≡◌, ◌∙◌, sym, ap, refl, subst, ℕ, suc, min, ◌+◌, ◌<◌, ◌≤◌, ◌⊎◌, inl, inr, ⊎_elim, List, [], ◌∷◌, ◌++◌, length, take, get_or, slice_get, Option, Some, None, ◌↔◌, arith}
use Rattle.std.specs.List.{Contains}
use Rattle.std.proofs.lemmas.Bool.{cases_order}
use Rattle.std.proofs.lemmas.List.{take_all}
use Rattle.std.proofs.lemmas.List.Elements.{Contains-append_left, Contains-push, Contains-push_cases}
use Rattle.std.proofs.lemmas.Option.{slice_get_within}
use Rattle.spec_graph.specs.declared.graph.Head.{Head}
use Rattle.ts_graph.specs.declared.view.GraphView.{GraphView}
use Rattle.ts_graph.specs.Down.{KeepNumbers}
use Rattle.ts_graph.proofs.ListLemmas.{Has, has_contained, contained_has}
use Rattle.ts_places.specs.Looking.{IsHeadAt, AllStandAt, HasAllAt}
use Rattle.ts_places.proofs.SmallLemmas.{none_contained, one_taken, read_at, item_in}
use Rattle.ts_places.proofs.HeadLemmas.{one_head}
use Rattle.ts_places.specs.Frontiers.{StandsFrom, AllStandFrom, AreOpen, IsAloneFrom, AreThoseAt, AreThosePast, AddsPast, sooner, IsLeastPlace, IsNextOpen}

-- a head of this number is another's
other_head : (g : GraphView) (h k : ℕ) (head other : Head) → h ≡ k → slice_get g.heads h ≡ Some head → slice_get g.heads k ≡ Some other → head ≡ other
other_head g h k head other e a b = one_head g.heads k head other (subst (λ (n : ℕ). slice_get g.heads n ≡ Some head) e a) b

-- ---- heads from a number on

-- those of them below another number were put to others
pub record AddsUpTo (g : GraphView) (from to place : ℕ) (old new : List ℕ) : Type 0 where
  pub past : from ≤ to
  pub are : (h : ℕ) → Contains new h ↔ (Contains old h ⊎ ((from ≤ h) × (h < to) × StandsFrom g (suc place) h))

module _ (g : GraphView) (from place : ℕ) (old : List ℕ) where
  pub none_added : AddsUpTo g from from place old old
  none_added = record {
    past = omega arith;
    are = λ h. ((λ w. inl w), (λ v. ⊎_elim (λ w. w) (λ n. absurd (let a = n.0 in let b = n.1 in omega (arith, a, b))) v));
  }

  module _ (k : ℕ) (heads : List ℕ) (a : AddsUpTo g from k place old heads) (head : Head) (is : slice_get g.heads k ≡ Some head) where
    widened : (h : ℕ) → Contains old h ⊎ ((from ≤ h) × (h < k) × StandsFrom g (suc place) h) → Contains old h ⊎ ((from ≤ h) × (h < k + 1) × StandsFrom g (suc place) h)
    widened h (inl w) = inl w
    widened h (inr n) = inr (n.0, (let b = n.1 in omega (arith, b)), n.2)

    pub one_left_out : head.place ≤ place → AddsUpTo g from (k + 1) place old heads
    one_left_out low = record {
      past = let p = a.past in omega (arith, p);
      are = λ h. ((λ w. widened h ((a.are h).0 w)), (λ v. back h v));
    }
      where
        by : (h : ℕ) → from ≤ h → h < k + 1 → StandsFrom g (suc place) h → (h ≡ k) ⊎ ((h < k) ⊎ (k < h)) → Contains heads h
        by h low_h high st (inl e) =
            let p = ap (λ (x : Head). x.place) (other_head g h k st.0 head e st.1 is) in
            let q = st.2 in
            absurd (omega (arith, p, q, low))
        by h low_h high st (inr (inl lt)) = (a.are h).1 (inr (low_h, lt, st))
        by h low_h high st (inr (inr lt)) = absurd (omega (arith, high, lt))

        back : (h : ℕ) → Contains old h ⊎ ((from ≤ h) × (h < k + 1) × StandsFrom g (suc place) h) → Contains heads h
        back h (inl w) = (a.are h).1 (inl w)
        back h (inr n) = by h n.0 n.1 n.2 (cases_order h k)

    pub one_added : (more : List ℕ) → more ≡ heads ++ k ∷ [] → place < head.place → AddsUpTo g from (k + 1) place old more
    one_added more more_is late = record {
      past = let p = a.past in omega (arith, p);
      are = λ h. (
        (λ w. forth h (Contains-push_cases heads k h (subst (λ (l : List ℕ). Contains l h) more_is w))),
        (λ v. subst (λ (l : List ℕ). Contains l h) (sym more_is) (back h v)),
      );
    }
      where
        forth : (h : ℕ) → Contains heads h ⊎ (k ≡ h) → Contains old h ⊎ ((from ≤ h) × (h < k + 1) × StandsFrom g (suc place) h)
        forth h (inl w) = widened h ((a.are h).0 w)
        forth h (inr e) = inr ((let p = a.past in omega (arith, p, e)), (omega (arith, e)), subst (λ (n : ℕ). StandsFrom g (suc place) n) e (head, is, omega (arith, late)))

        by : (h : ℕ) → from ≤ h → h < k + 1 → StandsFrom g (suc place) h → (h ≡ k) ⊎ ((h < k) ⊎ (k < h)) → Contains (heads ++ k ∷ []) h
        by h low high st (inl e) = subst (λ (n : ℕ). Contains (heads ++ k ∷ []) n) (sym e) (Contains-push heads k)
        by h low high st (inr (inl lt)) = Contains-append_left heads (k ∷ []) h ((a.are h).1 (inr (low, lt, st)))
        by h low high st (inr (inr lt)) = absurd (omega (arith, high, lt))

        back : (h : ℕ) → Contains old h ⊎ ((from ≤ h) × (h < k + 1) × StandsFrom g (suc place) h) → Contains (heads ++ k ∷ []) h
        back h (inl w) = Contains-append_left heads (k ∷ []) h ((a.are h).1 (inl w))
        back h (inr n) = by h n.0 n.1 n.2 (cases_order h k)

  pub all_added : (k : ℕ) (heads : List ℕ) → AddsUpTo g from k place old heads → length g.heads ≤ k → AddsPast g from place old heads
  all_added k heads a many h = (
    (λ w. ⊎_elim (λ o. inl o) (λ n. inr (n.0, n.2)) ((a.are h).0 w)),
    (λ v. ⊎_elim (λ o. (a.are h).1 (inl o)) (λ n. (a.are h).1 (inr (n.0, (let low = slice_get_within g.heads h n.1.0 n.1.1 in omega (arith, low, many)), n.1))) v),
  )

-- all heads of a graph: those at the place, and those past it
-- where the head of the stack below stands alone there, it is all
pub alone_open : (g : GraphView) (place : ℕ) (heads : List ℕ) → heads ≡ g.base ∷ [] → IsAloneFrom g place → AreOpen g place heads
alone_open g place heads is alone h = (
  λ there. subst (λ k. StandsFrom g place k) (one (has_contained (g.base ∷ []) h (subst (λ (hs : List ℕ). Contains hs h) is there))) alone.there,
  λ st. subst (λ (hs : List ℕ). Contains hs h) (sym is) (contained_has (g.base ∷ []) h (inl (sym (alone.alone h st)))),
)
  where
    one : Has (g.base ∷ []) h → g.base ≡ h
    one (inl e) = e
    one (inr none) = absurd none

-- ---- those of the heads that stand somewhere

-- some of the heads are those of which this is so
abbrev AreThose : (ℕ → Type 0) → List ℕ → List ℕ → Type 0
AreThose P heads some_heads = (h : ℕ) → Contains some_heads h ↔ (Contains heads h × P h)

module _ (P : ℕ → Type 0) where
  none_those : AreThose P [] []
  none_those h = ((λ w. absurd (none_contained h w)), (λ v. absurd (none_contained h v.0)))

  -- one more of the heads, which is not one of those, or is put to them
  module _ (heads those : List ℕ) (k : ℕ) (are : AreThose P heads those) where
    left_out : (P k → ⊥) → AreThose P (heads ++ k ∷ []) those
    left_out none h = (
      (λ w. let v = (are h).0 w in (Contains-append_left heads (k ∷ []) h v.0, v.1)),
      (λ v. ⊎_elim (λ w. (are h).1 (w, v.1)) (λ e. absurd (none (subst P (sym e) v.1))) (Contains-push_cases heads k h v.0)),
    )

    put : P k → AreThose P (heads ++ k ∷ []) (those ++ k ∷ [])
    put there h = (
      (λ w. ⊎_elim (λ u. let v = (are h).0 u in (Contains-append_left heads (k ∷ []) h v.0, v.1)) (λ e. here e) (Contains-push_cases those k h w)),
      (λ v. ⊎_elim (λ w. Contains-append_left those (k ∷ []) h ((are h).1 (w, v.1))) (λ e. subst (λ (n : ℕ). Contains (those ++ k ∷ []) n) e (Contains-push those k)) (Contains-push_cases heads k h v.0)),
    )
      where
        here : k ≡ h → Contains (heads ++ k ∷ []) h × P h
        here e = (subst (λ (n : ℕ). Contains (heads ++ k ∷ []) n) e (Contains-push heads k), subst P e there)

module _ (g : GraphView) (place : ℕ) (heads those : List ℕ) (i k : ℕ) (low : i < length heads) (k_is : k ≡ get_or heads i k) (head : Head) (is : slice_get g.heads k ≡ Some head) where
  taken : take i heads ++ k ∷ [] ≡ take (i + 1) heads
  taken = one_taken heads i k low k_is

  same : (other : Head) → slice_get g.heads k ≡ Some other → other.place ≡ head.place
  same other at = ap (λ (x : Head). x.place) (one_head g.heads k other head at is)

  pub at_left_out : (head.place ≡ place → ⊥) → AreThoseAt g place (take i heads) those → AreThoseAt g place (take (i + 1) heads) those
  at_left_out other are = subst (λ (l : List ℕ). AreThoseAt g place l those) taken
      (left_out (λ h. IsHeadAt g place h) (take i heads) those k are (λ st. other (sym (same st.0 st.1) ∙ st.2)))

  pub at_put : (more : List ℕ) → more ≡ those ++ k ∷ [] → head.place ≡ place → AreThoseAt g place (take i heads) those → AreThoseAt g place (take (i + 1) heads) more
  at_put more more_is place_is are = subst (λ (l : List ℕ). AreThoseAt g place l more) taken (subst (λ (l : List ℕ). AreThoseAt g place (take i heads ++ k ∷ []) l) (sym more_is)
      (put (λ h. IsHeadAt g place h) (take i heads) those k are (head, is, place_is)))

  pub past_left_out : head.place ≤ place → AreThosePast g place (take i heads) those → AreThosePast g place (take (i + 1) heads) those
  past_left_out early are = subst (λ (l : List ℕ). AreThosePast g place l those) taken
      (left_out (λ h. StandsFrom g (suc place) h) (take i heads) those k are (λ st. let e = same st.0 st.1 in let p = st.2 in omega (arith, e, p, early)))

  pub past_put : (more : List ℕ) → more ≡ those ++ k ∷ [] → place < head.place → AreThosePast g place (take i heads) those → AreThosePast g place (take (i + 1) heads) more
  past_put more more_is late are = subst (λ (l : List ℕ). AreThosePast g place l more) taken (subst (λ (l : List ℕ). AreThosePast g place (take i heads ++ k ∷ []) l) (sym more_is)
      (put (λ h. StandsFrom g (suc place) h) (take i heads) those k are (head, is, omega (arith, late))))

module _ (g : GraphView) (place : ℕ) (heads : List ℕ) where
  pub at_none : (those : List ℕ) → those ≡ [] → AreThoseAt g place [] those
  at_none those e = subst (λ (l : List ℕ). AreThoseAt g place [] l) (sym e) (none_those (λ h. IsHeadAt g place h))

  pub past_none : (those : List ℕ) → those ≡ [] → AreThosePast g place [] those
  past_none those e = subst (λ (l : List ℕ). AreThosePast g place [] l) (sym e) (none_those (λ h. StandsFrom g (suc place) h))

  pub at_all : (those : List ℕ) (i : ℕ) → length heads ≤ i → AreThoseAt g place (take i heads) those → AreThoseAt g place heads those
  at_all those i many are = subst (λ (l : List ℕ). AreThoseAt g place l those) (take_all i heads many) are

  pub past_all : (those : List ℕ) (i : ℕ) → length heads ≤ i → AreThosePast g place (take i heads) those → AreThosePast g place heads those
  past_all those i many are = subst (λ (l : List ℕ). AreThosePast g place l those) (take_all i heads many) are

  -- the heads at the place or past it, by another name
  module _ (waiting : List ℕ) (waiting_is : waiting ≡ heads) (are_open : AreOpen g place heads) where
    open_too : AreOpen g place waiting
    open_too = subst (λ (l : List ℕ). AreOpen g place l) (sym waiting_is) are_open

    pub all_heads : AllStandFrom g 0 waiting
    all_heads h there = let st = (open_too h).0 there in (st.0, st.1, omega arith)

    module _ (here : List ℕ) (at : AreThoseAt g place waiting here) where
      pub here_stand : AllStandAt g place here
      here_stand h there = ((at h).0 there).1

      pub here_all : HasAllAt g place here
      here_all h st = (at h).1 ((open_too h).1 (st.0, st.1, (let e = st.2 in omega (arith, e))), st)

    module _ (past : List ℕ) (behind : AreThosePast g place waiting past) where
      pub past_open : AreOpen g (suc place) past
      past_open h = (
        (λ w. ((behind h).0 w).1),
        (λ st. (behind h).1 ((open_too h).1 (st.0, st.1, (let e = st.2 in omega (arith, e))), st)),
      )

-- ---- the least place

module _ (g : GraphView) where
  pub none_least : IsLeastPlace g [] None
  none_least h w = none_contained h w

  module _ (heads : List ℕ) (k : ℕ) (head : Head) (is : slice_get g.heads k ≡ Some head) where
    lesser : (least : Option ℕ) → IsLeastPlace g heads least → IsLeastPlace g (heads ++ k ∷ []) (sooner least head.place)
    lesser None none = (
      (k, Contains-push heads k, (head, is, refl)),
      (λ h there. ⊎_elim (λ w. absurd (none h w)) (λ e. subst (λ (n : ℕ). StandsFrom g head.place n) e (head, is, omega arith)) (Contains-push_cases heads k h there)),
    )
    lesser (Some least) l = (by (cases_order least head.place), λ h there. all h (Contains-push_cases heads k h there))
      where
        at_least : (place : ℕ) (h : ℕ) → Contains (heads ++ k ∷ []) h → IsHeadAt g place h → min least head.place ≡ place → (h : ℕ) × Contains (heads ++ k ∷ []) h × IsHeadAt g (min least head.place) h
        at_least place h there st e = (h, there, subst (λ (n : ℕ). IsHeadAt g n h) (sym e) st)

        old : min least head.place ≡ least → (h : ℕ) × Contains (heads ++ k ∷ []) h × IsHeadAt g (min least head.place) h
        old e = at_least least l.0.0 (Contains-append_left heads (k ∷ []) l.0.0 l.0.1) l.0.2 e

        by : (least ≡ head.place) ⊎ ((least < head.place) ⊎ (head.place < least)) → (h : ℕ) × Contains (heads ++ k ∷ []) h × IsHeadAt g (min least head.place) h
        by (inl e) = old (omega (arith, e))
        by (inr (inl lt)) = old (omega (arith, lt))
        by (inr (inr lt)) = at_least head.place k (Contains-push heads k) (head, is, refl) (omega (arith, lt))

        all : (h : ℕ) → Contains heads h ⊎ (k ≡ h) → StandsFrom g (min least head.place) h
        all h (inl w) = let st = l.1 h w in (st.0, st.1, (let p = st.2 in omega (arith, p)))
        all h (inr e) = subst (λ (n : ℕ). StandsFrom g (min least head.place) n) e (head, is, omega arith)

    pub one_least : (all : List ℕ) (least new : Option ℕ) → heads ++ k ∷ [] ≡ all → new ≡ sooner least head.place → IsLeastPlace g heads least → IsLeastPlace g all new
    one_least all least new all_is new_is l =
        subst (λ (o : Option ℕ). IsLeastPlace g all o) (sym new_is) (subst (λ (hs : List ℕ). IsLeastPlace g hs (sooner least head.place)) all_is (lesser least l))

-- ---- the next place

module _ (old new : GraphView) (count place : ℕ) (past heads : List ℕ) (count_is : count ≡ length old.heads) (keep : KeepNumbers old.heads new.heads) (are_open : AreOpen old (suc place) past) (added : AddsPast new count place past heads) where
  pub open_still : AreOpen new (suc place) heads
  open_still h = ((λ w. forth ((added h).0 w)), (λ st. (added h).1 (back st (cases_order h count))))
    where
      forth : Contains past h ⊎ ((count ≤ h) × StandsFrom new (suc place) h) → StandsFrom new (suc place) h
      forth (inl w) = let st = (are_open h).0 w in (st.0, keep h st.0 st.1, st.2)
      forth (inr n) = n.1

      back : StandsFrom new (suc place) h → (h ≡ count) ⊎ ((h < count) ⊎ (count < h)) → Contains past h ⊎ ((count ≤ h) × StandsFrom new (suc place) h)
      back st (inl e) = inr (omega (arith, e), st)
      back st (inr (inl lt)) =
          let o = read_at old.heads h (omega (arith, lt, count_is)) in
          let one : st.0 ≡ o.0 = one_head new.heads h st.0 o.0 st.1 (keep h o.0 o.1) in
          inl ((are_open h).1 (o.0, o.1, subst (λ (x : Head). suc place ≤ x.place) one st.2))
      back st (inr (inr lt)) = inr (omega (arith, lt), st)

  pub all_stand : AllStandFrom new 0 heads
  all_stand h there = let st = (open_still h).0 there in (st.0, st.1, omega arith)

  pub next_open : (next : Option ℕ) → IsLeastPlace new heads next → IsNextOpen new place heads next
  next_open None none = λ h st. none h ((open_still h).1 st)
  next_open (Some next) l = record {
    past = past_it;
    head = l.0.0;
    there = l.0.2;
    between = λ other h low high st.
        let s = l.1 h ((open_still h).1 (st.0, st.1, (let e = st.2 in omega (arith, low, e)))) in
        let e = ap (λ (x : Head). x.place) (one_head new.heads h s.0 st.0 s.1 st.1) in
        let p = s.2 in
        let q = st.2 in
        omega (arith, e, p, q, high);
    are_open = λ h. ((λ w. l.1 h w), (λ st. (open_still h).1 (st.0, st.1, (let p = st.2 in let lt = past_it in omega (arith, p, lt)))));
  }
    where
      past_it : place < next
      past_it =
          let s = (open_still l.0.0).0 l.0.1 in
          let st = l.0.2 in
          let e = ap (λ (x : Head). x.place) (one_head new.heads l.0.0 s.0 st.0 s.1 st.1) in
          let p = s.2 in
          let q = st.2 in
          omega (arith, e, p, q)

-- ---- heads that were looked at one after another

module _ (g : GraphView) (heads : List ℕ) where
  pub least_more : (i k : ℕ) → i < length heads → k ≡ get_or heads i k → (head : Head) → slice_get g.heads k ≡ Some head → (least new : Option ℕ) → new ≡ sooner least head.place → IsLeastPlace g (take i heads) least → IsLeastPlace g (take (i + 1) heads) new
  least_more i k low k_is head is least new new_is l = one_least g (take i heads) k head is (take (i + 1) heads) least new (one_taken heads i k low k_is) new_is l

  pub least_all : (i : ℕ) (least : Option ℕ) → length heads ≤ i → IsLeastPlace g (take i heads) least → IsLeastPlace g heads least
  least_all i least many l = subst (λ (hs : List ℕ). IsLeastPlace g hs least) (take_all i heads many) l

  -- a head of the list, by its place there
  pub head_low : AllStandFrom g 0 heads → (i k : ℕ) → i < length heads → k ≡ get_or heads i k → k < length g.heads
  head_low all i k low k_is = let st = all k (item_in heads i k low k_is) in slice_get_within g.heads k st.0 st.1
