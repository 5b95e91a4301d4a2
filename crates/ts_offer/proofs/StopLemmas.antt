-- Where the way stops: in the innermost node that reaches over a place, if its children part there.
use Rattle.std.proofs.Common.{◌≡◌, ◌∙◌, sym, ap, refl, subst, ℕ, zero, suc, ◌+◌, ◌-◌, ◌<◌, ◌≤◌, ◌⊎◌, inl, inr, List, [], ◌∷◌, ◌++◌, length, take, drop, slice_get, Option, Some, None, unwrap_or, arith}
use Rattle.std.specs.Prelude.{IfSome}
use Rattle.std.proofs.lemmas.Bool.{cases_lt}
use Rattle.std.proofs.lemmas.List.{take-take}
use Rattle.std.proofs.lemmas.Option.{slice_get_within}
use Rattle.spec_trees.specs.declared.tree.Tree.{Tree}
use Rattle.spec_trees.specs.declared.tree.Element.{Element}
use Rattle.spec_trees.specs.declared.tree.Stretch.{Stretch}
use Rattle.spec_trees.specs.Trees.{symbol_of, state_of, elements_of, children_of, span_of, all_spans, tree_depth}
use Rattle.spec_trees.specs.Made.{children_count, stretch_in, bytes_before}
use Rattle.spec_trees.specs.Inside as nodes
use Rattle.spec_reuse.specs.Places.{IsIn, here, inside, later, IsWhole, lead_of}
use Rattle.ts_node.proofs.ElementLemmas.{count_within}
use Rattle.ts_offer.specs.declared.elements.Elements.{Elements}
use Rattle.ts_offer.specs.declared.way.Turn.{Turn}
use Rattle.ts_offer.specs.declared.way.Ahead.{Ahead}
use Rattle.ts_offer.specs.Answers.{IsStretchAt, IsParted}
use Rattle.ts_offer.specs.Ways.{IsOn, IsReached, LeadsTo, start_of, HasBegun, PartsAt, IsReachedLast, IsLastIn, HasRunAt}
use Rattle.ts_offer.proofs.PlaceLemmas.{AllWhole, whole_children, whole_one, whole_tail, whole_drop, spans_at, lie, none_in, split, single, wide}
use Rattle.ts_offer.proofs.WayLemmas.{turns_pop, stand_pop, begun_pop, length-snoc}

-- ---- trees cut in two

spans_cut : (n : ℕ) (ts : List Tree) → all_spans (take n ts) + all_spans (drop n ts) ≡ all_spans ts
spans_cut zero ts = omega arith
spans_cut (suc n) [] = omega arith
spans_cut (suc n) (t ∷ ts) = omega (arith, spans_cut n ts)

-- a node in some trees is in the first ones, or in the others
cut_in : (n : ℕ) (ts : List Tree) (place : ℕ) (u : Tree) (at : ℕ) → IsIn ts place u at → IsIn (take n ts) place u at ⊎ IsIn (drop n ts) (place + all_spans (take n ts)) u at
cut_in zero ts place u at h =
    let e : place ≡ place + 0 = omega arith in
    inr (subst (λ (p : ℕ). IsIn ts p u at) e h)
cut_in (suc n) [] place u at h = inl h
cut_in (suc n) (t ∷ ts) place u at h = by (split t ts place u at h) (cut_in n ts (place + span_of t) u at)
  where
    after : IsIn (take n ts) (place + span_of t) u at ⊎ IsIn (drop n ts) ((place + span_of t) + all_spans (take n ts)) u at
        → IsIn (t ∷ take n ts) place u at ⊎ IsIn (drop n ts) (place + (span_of t + all_spans (take n ts))) u at
    after (inl k) = inl (later t (take n ts) place u at k)
    after (inr k) =
        let e : (place + span_of t) + all_spans (take n ts) ≡ place + (span_of t + all_spans (take n ts)) = omega arith in
        inr (subst (λ (p : ℕ). IsIn (drop n ts) p u at) e k)

    by : IsIn (t ∷ []) place u at ⊎ IsIn ts (place + span_of t) u at
        → (IsIn ts (place + span_of t) u at → IsIn (take n ts) (place + span_of t) u at ⊎ IsIn (drop n ts) ((place + span_of t) + all_spans (take n ts)) u at)
        → IsIn (t ∷ take n ts) place u at ⊎ IsIn (drop n ts) (place + (span_of t + all_spans (take n ts))) u at
    by (inl k) more = inl (wide t (take n ts) place u at k)
    by (inr k) more = after (more k)

drop_in : (n : ℕ) (ts : List Tree) (place : ℕ) (u : Tree) (at : ℕ) → IsIn (drop n ts) (place + all_spans (take n ts)) u at → IsIn ts place u at
drop_in zero ts place u at h =
    let e : place + 0 ≡ place = omega arith in
    subst (λ (p : ℕ). IsIn ts p u at) e h
drop_in (suc n) [] place u at h = absurd (none_in [] (place + 0) u at refl h)
drop_in (suc n) (t ∷ ts) place u at h =
    let e : place + (span_of t + all_spans (take n ts)) ≡ (place + span_of t) + all_spans (take n ts) = omega arith in
    later t ts place u at (drop_in n ts (place + span_of t) u at (subst (λ (p : ℕ). IsIn (drop n ts) p u at) e h))

whole_take : (n : ℕ) (ts : List Tree) → AllWhole ts → AllWhole (take n ts)
whole_take zero ts w k u e = let f : ⊥ = omega (arith, slice_get_within [] k u e) in elim f [ ]
whole_take (suc n) [] w k u e = w k u e
whole_take (suc n) (t ∷ ts) w zero u e = w zero u e
whole_take (suc n) (t ∷ ts) w (suc k) u e = whole_take n ts (whole_tail t ts w) k u e

-- the first of some trees with bytes begins where they begin
first_some : (ts : List Tree) (place : ℕ) → 0 < all_spans ts → (c : Tree) × IsIn ts place c place × (0 < span_of c)
first_some [] place some = absurd (omega (arith, some))
first_some (t ∷ ts) place some = by (span_of t) refl (first_some ts place)
  where
    by : (n : ℕ) → span_of t ≡ n → (0 < all_spans ts → (c : Tree) × IsIn ts place c place × (0 < span_of c)) → (c : Tree) × IsIn (t ∷ ts) place c place × (0 < span_of c)
    by zero is more =
        let m = more (omega (arith, some, is)) in
        let e : place ≡ place + span_of t = omega (arith, is) in
        (m.0, later t ts place m.0 place (subst (λ (p : ℕ). IsIn ts p m.0 place) e m.1), m.2)
    by (suc n) is more = (t, here t ts place, omega (arith, is))

-- ---- nodes in nodes

deep_in : (ts : List Tree) (place : ℕ) (t : Tree) (at : ℕ) (u : Tree) (b : ℕ) → IsIn ts place t at → IsIn (children_of t) at u b → IsIn ts place u b
deep_in _ _ _ _ u b (here t ts place) k = inside t ts place u b k
deep_in _ _ _ _ u b (inside x ts place t at h) k = inside x ts place u b (deep_in (children_of x) place t at u b h k)
deep_in _ _ _ _ u b (later x ts place t at h) k = later x ts place u b (deep_in ts (place + span_of x) t at u b h k)

in_whole : (ts : List Tree) (place : ℕ) (u : Tree) (at : ℕ) → IsIn ts place u at → AllWhole ts → IsWhole u
in_whole _ _ _ _ (here t ts place) w = w 0 t refl
in_whole _ _ u at (inside t ts place _ _ i) w = in_whole (children_of t) place u at i (whole_children t (w 0 t refl))
in_whole _ _ u at (later t ts place _ _ i) w = in_whole ts (place + span_of t) u at i (whole_tail t ts w)

-- of two nodes that reach over a place one is the other, or is in it
abbrev Nested : Tree → ℕ → Tree → ℕ → Type 0
Nested u a v b = ((u ≡ v) × (a ≡ b)) ⊎ (IsIn (children_of u) a v b ⊎ IsIn (children_of v) b u a)

nested : (ts : List Tree) (place : ℕ) (u : Tree) (a : ℕ) (v : Tree) (b q : ℕ) → AllWhole ts → IsIn ts place u a → IsIn ts place v b
    → a < q → q < a + span_of u → b < q → q < b + span_of v → Nested u a v b
nested _ place _ _ v b q w (here t ts _) k before behind begun ends = by (split t ts place v b k)
  where
    one : ((v ≡ t) × (b ≡ place)) ⊎ IsIn (children_of t) place v b → Nested t place v b
    one (inl same) = inl (sym same.0, sym same.1)
    one (inr deep) = inr (inl deep)

    by : IsIn (t ∷ []) place v b ⊎ IsIn ts (place + span_of t) v b → Nested t place v b
    by (inl j) = one (single t place v b j)
    by (inr j) =
        let r = lie ts (place + span_of t) v b (whole_tail t ts w) j in
        absurd (omega (arith, r.0, behind, begun))
nested _ place u a v b q w (inside t ts _ _ _ h) k before behind begun ends =
    by (split t ts place v b k) (λ (j : IsIn (children_of t) place v b). nested (children_of t) place u a v b q (whole_children t (w 0 t refl)) h j before behind begun ends)
  where
    one : ((v ≡ t) × (b ≡ place)) ⊎ IsIn (children_of t) place v b → (IsIn (children_of t) place v b → Nested u a v b) → Nested u a v b
    one (inl same) deep = inr (inr (subst (λ (x : Tree). IsIn (children_of x) b u a) (sym same.0) (subst (λ (p : ℕ). IsIn (children_of t) p u a) (sym same.1) h)))
    one (inr j) deep = deep j

    by : IsIn (t ∷ []) place v b ⊎ IsIn ts (place + span_of t) v b → (IsIn (children_of t) place v b → Nested u a v b) → Nested u a v b
    by (inl j) deep = one (single t place v b j) deep
    by (inr j) deep =
        let r = lie ts (place + span_of t) v b (whole_tail t ts w) j in
        let s = lie (t ∷ []) place u a (whole_one t (w 0 t refl)) (inside t [] place u a h) in
        absurd (omega (arith, r.0, s.1, behind, begun))
nested _ place u a v b q w (later t ts _ _ _ h) k before behind begun ends =
    by (split t ts place v b k) (λ (j : IsIn ts (place + span_of t) v b). nested ts (place + span_of t) u a v b q (whole_tail t ts w) h j before behind begun ends)
  where
    by : IsIn (t ∷ []) place v b ⊎ IsIn ts (place + span_of t) v b → (IsIn ts (place + span_of t) v b → Nested u a v b) → Nested u a v b
    by (inl j) rest =
        let r = lie (t ∷ []) place v b (whole_one t (w 0 t refl)) j in
        let s = lie ts (place + span_of t) u a (whole_tail t ts w) h in
        absurd (omega (arith, r.1, s.0, before, ends))
    by (inr j) rest = rest j

-- ---- the last turn

last_snoc : {X : Type 0} (xs : List X) (x : X) → slice_get (xs ++ x ∷ []) (length xs) ≡ Some x
last_snoc [] x = refl
last_snoc (y ∷ xs) x = last_snoc xs x

last_turn : (items ts : List Turn) (t : Turn) → items ≡ ts ++ t ∷ [] → slice_get items (length items - 1) ≡ Some t
last_turn items ts t is =
    let n : length (ts ++ t ∷ []) - 1 ≡ length ts = omega (arith, length-snoc ts t) in
    subst (λ (l : List Turn). slice_get l (length l - 1) ≡ Some t) (sym is)
    (ap (λ (k : ℕ). slice_get (ts ++ t ∷ []) k) n ∙ last_snoc ts t)

module _ (root : Tree) (size : ℕ) (ts : List Turn) (t : Turn) (a : Ahead) (place : ℕ) (w : IsOn root size (ts ++ t ∷ []) place) (r : IsReached t place a) (exact : t.place ≡ place) where
  begun : HasBegun root place t
  begun = (begun_pop root place ts t w.begun).1

  whole : IsWhole t.node.now
  whole = (turns_pop (span_of root) (1 + tree_depth root) ts t w.turns).1.whole

  -- no node below the turn's node reaches over the place
  none_over : (start : ℕ) → start_of root t ≡ start → (v : Tree) (b : ℕ) → IsIn (children_of t.node.now) start v b → b < place → place < b + span_of v → ⊥
  none_over start is v b h before behind = by (cut_in t.next (children_of t.node.now) start v b h)
    where
      by : IsIn (take t.next (children_of t.node.now)) start v b ⊎ IsIn (drop t.next (children_of t.node.now)) (start + all_spans (take t.next (children_of t.node.now))) v b → ⊥
      by (inl k) =
          let l = lie (take t.next (children_of t.node.now)) start v b (whole_take t.next (children_of t.node.now) (whole_children t.node.now whole)) k in
          omega (arith, l.1, begun.passed, is, exact, behind)
      by (inr k) =
          let l = lie (drop t.next (children_of t.node.now)) (start + all_spans (take t.next (children_of t.node.now))) v b (whole_drop t.next (children_of t.node.now) (whole_children t.node.now whole)) k in
          omega (arith, l.0, begun.passed, is, exact, before)

  -- a turn's node reaches over the place
  ends_past : (at : ℕ) → t.begins ≡ Some at → place < at + span_of t.node.now
  ends_past at is =
      let start : start_of root t ≡ at = ap (λ (o : Option ℕ). unwrap_or o (lead_of root)) is in
      let child = spans_at (children_of t.node.now) t.next a.node.now r.child in
      omega (arith, start, child, begun.passed, r.past, spans_cut t.next (children_of t.node.now), (whole t.node.now nodes.itself).sized.within)

  stops : (v : Tree) (b : ℕ) → IsIn (children_of root) (lead_of root) v b → PartsAt v b place → (t.node.now ≡ v) × (t.begins ≡ Some b)
  stops v b there parts = by t.begins refl
    where
      whole_v : IsWhole v
      whole_v = in_whole (children_of root) (lead_of root) v b there (whole_children root w.whole)

      behind : place < b + span_of v
      behind =
          let l = lie (children_of v) b parts.child place (whole_children v whole_v) parts.there in
          omega (arith, l.1, parts.some, (whole_v v nodes.itself).sized.within)

      cases : (at : ℕ) → t.begins ≡ Some at → Nested t.node.now at v b → (t.node.now ≡ v) × (t.begins ≡ Some b)
      cases at is (inl same) = (same.0, is ∙ ap (λ (n : ℕ). Some n) same.1)
      cases at is (inr (inl deep)) = absurd (none_over at (ap (λ (o : Option ℕ). unwrap_or o (lead_of root)) is) v b deep parts.before behind)
      cases at is (inr (inr deep)) =
          let ends = parts.inner t.node.now at deep (begun.before at is) in
          absurd (omega (arith, ends, ends_past at is))

      by : (o : Option ℕ) → t.begins ≡ o → (t.node.now ≡ v) × (t.begins ≡ Some b)
      by None is = absurd (none_over (lead_of root) (ap (λ (o : Option ℕ). unwrap_or o (lead_of root)) is) v b
          (subst (λ (x : Tree). IsIn (children_of x) (lead_of root) v b) (sym (begun.whole is)) there) parts.before behind)
      by (Some at) is = cases at is
          (nested (children_of root) (lead_of root) t.node.now at v b place (whole_children root w.whole) ((stand_pop root ts t w.stand).1 at is) there
          (begun.before at is) (ends_past at is) parts.before behind)

-- the way stops in each node that parts at the place
last_in : (root : Tree) (size : ℕ) (items : List Turn) (place : ℕ) (o : Option Ahead) → IsOn root size items place → LeadsTo root place o → IfSome o (IsReachedLast items place)
    → (v : Tree) (b : ℕ) → IsIn (children_of root) (lead_of root) v b → PartsAt v b place → IsLastIn items v b
last_in root size items place None w leads reached v b there parts =
    absurd (leads parts.child (deep_in (children_of root) (lead_of root) v b parts.child place there parts.there) parts.some)
last_in root size items place (Some a) w leads q v b there parts =
    let h = leads.holds parts.child (deep_in (children_of root) (lead_of root) v b parts.child place there parts.there) parts.some in
    let l = lie (a.node.now ∷ []) a.place parts.child place (whole_one a.node.now leads.whole) h in
    let exact : q.turn.place ≡ place = omega (arith, l.0, leads.from, q.reached.begins) in
    let on : IsOn root size (q.turns ++ q.turn ∷ []) place = subst (λ (l : List Turn). IsOn root size l place) q.are w in
    let s = stops root size q.turns q.turn a place on q.reached exact v b there parts in
    record { turn = q.turn; last = last_turn items q.turns q.turn q.are; node = s.0; begins = s.1 }

-- ---- elements

bytes_rise : (s : Stretch) (k j : ℕ) → k ≤ j → bytes_before k s ≤ bytes_before j s
bytes_rise s k j le =
    let es : List Element = s.elements in
    let n : ℕ = children_count (take k es) in
    let m : ℕ = children_count (take j es) in
    let low : n ≤ m = subst (λ (l : List Element). children_count l ≤ m) (take-take k j es le) (count_within k (take j es)) in
    let part : all_spans (take n (take m s.children)) ≡ all_spans (take n s.children) = ap all_spans (take-take n m s.children low) in
    let r : all_spans (take n s.children) ≤ all_spans (take m s.children) = omega (arith, part, spans_cut n (take m s.children)) in
    r

-- elements begin at a place once
pub parted_once : (node : Tree) (at place from k : ℕ) → HasRunAt node at place from → at + bytes_before k (stretch_in node) ≡ place → k ≡ from
parted_once node at place from k h is = by (cases_lt k from)
  where
    above : (from < k) ⊎ (k ≤ from) → from ≤ k → k ≡ from
    above (inl more) le =
        let r : bytes_before (suc from) (stretch_in node) ≤ bytes_before k (stretch_in node) = bytes_rise (stretch_in node) (suc from) k (omega (arith, more)) in
        absurd (omega (arith, r, h.after, h.begins, is))
    above (inr less) le = omega (arith, less, le)

    by : (k < from) ⊎ (from ≤ k) → k ≡ from
    by (inl less) =
        let r : bytes_before k (stretch_in node) ≤ bytes_before (from - 1) (stretch_in node) = bytes_rise (stretch_in node) k (from - 1) (omega (arith, less)) in
        absurd (omega (arith, r, h.before, h.begins, is))
    by (inr le) = above (cases_lt from k) le

-- a node with such elements parts where they begin
parts_of : (node : Tree) (at place from : ℕ) → IsWhole node → HasRunAt node at place from → PartsAt node at place
parts_of node at place from whole h = record {
  before = omega (arith, h.begins, h.before);
  child = child.0;
  there = drop_in n ks at child.0 place (subst (λ (p : ℕ). IsIn (drop n ks) p child.0 place) (sym h.begins) child.1);
  some = child.2;
  inner = λ u b i less. inner u b less (cut_in n ks at u b i);
}
  where
    ks : List Tree
    ks = children_of node

    n : ℕ
    n = children_count (take from (elements_of node))

    child : (c : Tree) × IsIn (drop n ks) place c place × (0 < span_of c)
    child = first_some (drop n ks) place (omega (arith, h.after, spans_cut n ks, spans_cut (children_count (take (suc from) (elements_of node))) ks))

    inner : (u : Tree) (b : ℕ) → b < place → IsIn (take n ks) at u b ⊎ IsIn (drop n ks) (at + all_spans (take n ks)) u b → b + span_of u ≤ place
    inner u b less (inl k) =
        let l = lie (take n ks) at u b (whole_take n ks (whole_children node whole)) k in
        omega (arith, l.1, h.begins)
    inner u b less (inr k) =
        let l = lie (drop n ks) (at + all_spans (take n ks)) u b (whole_drop n ks (whole_children node whole)) k in
        absurd (omega (arith, l.0, h.begins, less))

run_of : (tree : Tree) (place state symbol : ℕ) (s : Stretch) (w : IsStretchAt tree place state symbol s) → IsParted w.node w.from → HasRunAt w.node w.at place w.from
run_of tree place state symbol s w p = record {
  begins = w.begins;
  later = w.run.later;
  there = omega (arith, w.run.some, w.run.within);
  settled = omega (arith, w.run.some, w.run.far);
  before = p.before;
  after = p.after;
}

-- Where the last turn answers none, no elements begin there.
pub none_there : (root : Tree) (size : ℕ) (items : List Turn) (place state symbol : ℕ) (o : Option Ahead) (last : Option Turn) (result : Option Elements)
    → IsOn root size items place → LeadsTo root place o → IfSome o (IsReachedLast items place) → last ≡ slice_get items (length items - 1)
    → ((t : Turn) → last ≡ Some t → (at from : ℕ) → t.begins ≡ Some at → symbol_of t.node.now ≡ symbol → state_of t.node.now ≡ Some state → HasRunAt t.node.now at place from → result ≡ None → ⊥)
    → (s : Stretch) (w : IsStretchAt root place state symbol s) → IsParted w.node w.from → result ≡ None → ⊥
none_there root size items place state symbol o last result on leads reached is found s w p none =
    let whole : IsWhole w.node = in_whole (children_of root) (lead_of root) w.node w.at w.there (whole_children root on.whole) in
    let run : HasRunAt w.node w.at place w.from = run_of root place state symbol s w p in
    let l = last_in root size items place o on leads reached w.node w.at w.there (parts_of w.node w.at place w.from whole run) in
    let same : l.turn.node.now ≡ w.node = l.node in
    found l.turn (is ∙ l.last) w.at w.from l.begins (ap symbol_of same ∙ w.named) (ap state_of same ∙ w.below)
    (subst (λ (x : Tree). HasRunAt x w.at place w.from) (sym same) run) none

-- the same of a tree that is called by other names
pub none_named : (tree root now : Tree) (size : ℕ) (items : List Turn) (place at state symbol : ℕ) (o : Option Ahead) (last : Option Turn) (result : Option Elements)
    → root ≡ tree → now ≡ root → at ≡ place
    → IsOn now size items at → LeadsTo root at o → IfSome o (IsReachedLast items at) → last ≡ slice_get items (length items - 1)
    → ((t : Turn) → last ≡ Some t → (b from : ℕ) → t.begins ≡ Some b → symbol_of t.node.now ≡ symbol → state_of t.node.now ≡ Some state → HasRunAt t.node.now b place from → result ≡ None → ⊥)
    → (s : Stretch) (w : IsStretchAt tree place state symbol s) → IsParted w.node w.from → result ≡ None → ⊥
none_named tree root now size items place at state symbol o last result is same exact on leads reached last_is found =
    let a : IsOn tree size items place = subst (λ (t : Tree). IsOn t size items place) (same ∙ is) (subst (λ (n : ℕ). IsOn now size items n) exact on) in
    let b : LeadsTo tree place o = subst (λ (t : Tree). LeadsTo t place o) is (subst (λ (n : ℕ). LeadsTo root n o) exact leads) in
    let c : IfSome o (IsReachedLast items place) = subst (λ (n : ℕ). IfSome o (IsReachedLast items n)) exact reached in
    none_there tree size items place state symbol o last result a b c last_is found
