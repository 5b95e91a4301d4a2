-- What is ahead on the way down a tree, turn by turn.
use Rattle.std.proofs.Common.{◌≡◌, ℕ, zero, suc, ◌+◌, ◌-◌, ◌*◌, ◌<◌, ◌≤◌, ◌⊎◌, inl, inr, sym, ap, subst, ◌∙◌, refl, arith, List, [], ◌∷◌, ◌++◌, length, take, drop, slice_get, Option, Some, None, unwrap_or}
use Rattle.std.proofs.lemmas.List.{drop_all}
use Rattle.std.proofs.lemmas.Option.{slice_get_within}
use Rattle.spec_trees.specs.declared.tree.Tree.{Tree}
use Rattle.spec_trees.specs.declared.tree.Tree.TheFolds.{fold_out-Tree}
use Rattle.spec_trees.specs.Trees.{children_of, elements_of, span_of, all_spans, tree_depth, node_count, nodes_step, all_nodes}
use Rattle.spec_trees.specs.Made.{most_span}
use Rattle.spec_trees.specs.Inside as nodes
use Rattle.spec_reuse.specs.Places.{IsIn, here, inside, later, IsWhole, lead_of}
use Rattle.ts_offer.specs.declared.way.Turn.{Turn}
use Rattle.ts_offer.specs.declared.way.Ahead.{Ahead}
use Rattle.ts_offer.specs.Ways.{rest_of, IsAhead, IsBegun, IsTurn, AreTurns, StandsIn, AllStandIn, start_of, HasBegun, AllHaveBegun, IsOn, weight, IsNext, IsPast, IsInto, IsReached, IsLater, IsPassed, IsEntered}
use Rattle.ts_offer.proofs.PlaceLemmas.{drop_at, lie, none_in, split, single, wide, whole_children, whole_one, whole_drop, AllWhole, child_depth}

-- ---- lists of turns

ahead_push : (ts : List Turn) (t : Turn) (u : Tree) (at : ℕ) → IsAhead ts u at ⊎ IsIn (rest_of t) t.place u at → IsAhead (ts ++ t ∷ []) u at
ahead_push [] t u at (inl h) = absurd h
ahead_push [] t u at (inr h) = inl h
ahead_push (s ∷ ts) t u at (inl (inl h)) = inl h
ahead_push (s ∷ ts) t u at (inl (inr h)) = inr (ahead_push ts t u at (inl h))
ahead_push (s ∷ ts) t u at (inr h) = inr (ahead_push ts t u at (inr h))

ahead_pop : (ts : List Turn) (t : Turn) (u : Tree) (at : ℕ) → IsAhead (ts ++ t ∷ []) u at → IsAhead ts u at ⊎ IsIn (rest_of t) t.place u at
ahead_pop [] t u at (inl h) = inr h
ahead_pop [] t u at (inr h) = absurd h
ahead_pop (s ∷ ts) t u at (inl h) = inl (inl h)
ahead_pop (s ∷ ts) t u at (inr h) = by (ahead_pop ts t u at h)
  where
    by : IsAhead ts u at ⊎ IsIn (rest_of t) t.place u at → IsAhead (s ∷ ts) u at ⊎ IsIn (rest_of t) t.place u at
    by (inl k) = inl (inr k)
    by (inr k) = inr k

-- where the turns stand
pub stand_pop : (root : Tree) (ts : List Turn) (t : Turn) → AllStandIn root (ts ++ t ∷ []) → AllStandIn root ts × StandsIn root t
stand_pop root [] t h = (tt, h.0)
stand_pop root (s ∷ ts) t h =
    let r = stand_pop root ts t h.1 in
    ((h.0, r.0), r.1)

stand_push : (root : Tree) (ts : List Turn) (t : Turn) → AllStandIn root ts → StandsIn root t → AllStandIn root (ts ++ t ∷ [])
stand_push root [] t h k = (k, tt)
stand_push root (s ∷ ts) t h k = (h.0, stand_push root ts t h.1 k)

pub stand_at : (root : Tree) (ts : List Turn) (k : ℕ) (t : Turn) → AllStandIn root ts → slice_get ts k ≡ Some t → StandsIn root t
stand_at root [] k t h e = let f : ⊥ = omega (arith, slice_get_within [] k t e) in elim f [ ]
stand_at root (s ∷ ts) zero t h e =
    let q : Some s ≡ Some t = e in
    let d : s ≡ t = cc in
    subst (λ (x : Turn). StandsIn root x) d h.0
stand_at root (s ∷ ts) (suc k) t h e = stand_at root ts k t h.1 e

-- the turn after a child stands where its node does
stand_past : (root : Tree) (t s : Turn) (c : Tree) → IsPast t c s → StandsIn root t → StandsIn root s
stand_past root t s c p h at e = subst (λ (x : Tree). IsIn (children_of root) (lead_of root) x at) (sym p.node) (h at (sym p.begins ∙ e))

-- where they have begun
pub begun_pop : (root : Tree) (place : ℕ) (ts : List Turn) (t : Turn) → AllHaveBegun root place (ts ++ t ∷ []) → AllHaveBegun root place ts × HasBegun root place t
begun_pop root place [] t h = (tt, h.0)
begun_pop root place (s ∷ ts) t h =
    let r = begun_pop root place ts t h.1 in
    ((h.0, r.0), r.1)

begun_push : (root : Tree) (place : ℕ) (ts : List Turn) (t : Turn) → AllHaveBegun root place ts → HasBegun root place t → AllHaveBegun root place (ts ++ t ∷ [])
begun_push root place [] t h k = (k, tt)
begun_push root place (s ∷ ts) t h k = (h.0, begun_push root place ts t h.1 k)

begun_later : (root : Tree) (place more : ℕ) (ts : List Turn) → place ≤ more → AllHaveBegun root place ts → AllHaveBegun root more ts
begun_later root place more [] le h = tt
begun_later root place more (t ∷ ts) le h = (
  record { before = λ at is. omega (arith, h.0.before at is, le); whole = h.0.whole; passed = h.0.passed },
  begun_later root place more ts le h.1,
)

pub spans_before : (ts : List Tree) (k : ℕ) (c : Tree) → slice_get ts k ≡ Some c → all_spans (take (k + 1) ts) ≡ all_spans (take k ts) + span_of c
spans_before ts k c e =
    let n : k + 1 ≡ suc k = omega arith in
    ap (λ (j : ℕ). all_spans (take j ts)) n ∙ by ts k e
  where
    by : (us : List Tree) (j : ℕ) → slice_get us j ≡ Some c → all_spans (take (suc j) us) ≡ all_spans (take j us) + span_of c
    by [] j h = let f : ⊥ = omega (arith, slice_get_within [] j c h) in elim f [ ]
    by (u ∷ us) zero h =
        let s : Some u ≡ Some c = h in
        let d : span_of u ≡ span_of c = cc in
        omega (arith, d)
    by (u ∷ us) (suc j) h = omega (arith, by us j h)

begun_past : (root : Tree) (place : ℕ) (t s : Turn) (c : Tree) → slice_get (children_of t.node.now) t.next ≡ Some c → IsPast t c s → HasBegun root place t → HasBegun root place s
begun_past root place t s c e p h =
    let n : all_spans (take s.next (children_of s.node.now)) ≡ all_spans (take (t.next + 1) (children_of t.node.now)) =
    ap (λ (k : ℕ). all_spans (take k (children_of s.node.now))) p.next ∙ ap (λ (x : Tree). all_spans (take (t.next + 1) (children_of x))) p.node in
    let start : start_of root s ≡ start_of root t = ap (λ (o : Option ℕ). unwrap_or o (lead_of root)) p.begins in
    record {
      before = λ at is. h.before at (sym p.begins ∙ is);
      whole = λ is. p.node ∙ h.whole (sym p.begins ∙ is);
      passed = omega (arith, n, start, p.place, h.passed, spans_before (children_of t.node.now) t.next c e);
    }

begun_into : (root : Tree) (place : ℕ) (t i : Turn) (c : Tree) → IsInto t c i → t.place < place → HasBegun root place i
begun_into root place t i c p less =
    let none : all_spans (take i.next (children_of i.node.now)) ≡ 0 = ap (λ (k : ℕ). all_spans (take k (children_of i.node.now))) p.next in
    let start : start_of root i ≡ t.place = ap (λ (o : Option ℕ). unwrap_or o (lead_of root)) p.begins in
    record {
      before = λ at is.
          let q : Some t.place ≡ Some at = sym p.begins ∙ is in
          let d : t.place ≡ at = cc in
          omega (arith, d, less);
      whole = λ is. absurd (let q : ◌≡◌ {A = Option ℕ} (Some t.place) None = sym p.begins ∙ is in cc);
      passed = omega (arith, none, start, p.place);
    }

-- where the nodes in the last turn begin, and its depth
abbrev pub last_place : ℕ → List Turn → ℕ
last_place end [] = end
last_place end (t ∷ ts) = last_place t.place ts

abbrev pub last_depth : ℕ → List Turn → ℕ
last_depth deep [] = deep
last_depth deep (t ∷ ts) = last_depth (tree_depth t.node.now) ts

pub turns_pop : (end deep : ℕ) (ts : List Turn) (t : Turn) → AreTurns end deep (ts ++ t ∷ []) → AreTurns end deep ts × IsTurn (last_place end ts) (last_depth deep ts) t
turns_pop end deep [] t h = (tt, h.0)
turns_pop end deep (s ∷ ts) t h =
    let r = turns_pop s.place (tree_depth s.node.now) ts t h.1 in
    ((h.0, r.0), r.1)

turns_push : (end deep : ℕ) (ts : List Turn) (t : Turn) → AreTurns end deep ts → IsTurn (last_place end ts) (last_depth deep ts) t → AreTurns end deep (ts ++ t ∷ [])
turns_push end deep [] t h k = (k, tt)
turns_push end deep (s ∷ ts) t h k = (h.0, turns_push s.place (tree_depth s.node.now) ts t h.1 k)

place_pushed : (end : ℕ) (ts : List Turn) (t : Turn) → last_place end (ts ++ t ∷ []) ≡ t.place
place_pushed end [] t = refl
place_pushed end (s ∷ ts) t = place_pushed s.place ts t

depth_pushed : (deep : ℕ) (ts : List Turn) (t : Turn) → last_depth deep (ts ++ t ∷ []) ≡ tree_depth t.node.now
depth_pushed deep [] t = refl
depth_pushed deep (s ∷ ts) t = depth_pushed (tree_depth s.node.now) ts t

few_turns : (end deep : ℕ) (ts : List Turn) → AreTurns end deep ts → length ts ≤ deep
few_turns end deep [] h = omega arith
few_turns end deep (t ∷ ts) h = omega (arith, few_turns t.place (tree_depth t.node.now) ts h.1, h.0.falls)

last_before : (end deep : ℕ) (ts : List Turn) → AreTurns end deep ts → last_place end ts ≤ end
last_before end deep [] h = omega arith
last_before end deep (t ∷ ts) h = omega (arith, last_before t.place (tree_depth t.node.now) ts h.1, h.0.within)

rest_whole : (t : Turn) → IsWhole t.node.now → AllWhole (rest_of t)
rest_whole t w = whole_drop t.next (children_of t.node.now) (whole_children t.node.now w)

-- what is ahead begins no sooner than the last turn ends
low : (end deep : ℕ) (ts : List Turn) (u : Tree) (at : ℕ) → AreTurns end deep ts → IsAhead ts u at → last_place end ts ≤ at
low end deep [] u at h k = absurd k
low end deep (t ∷ ts) u at h (inl k) =
    let r = lie (rest_of t) t.place u at (rest_whole t h.0.whole) k in
    omega (arith, r.0, last_before t.place (tree_depth t.node.now) ts h.1)
low end deep (t ∷ ts) u at h (inr k) = low t.place (tree_depth t.node.now) ts u at h.1 k

pub length-snoc : {X : Type 0} (xs : List X) (x : X) → length (xs ++ x ∷ []) ≡ 1 + length xs
length-snoc [] x = refl
length-snoc (y ∷ xs) x = omega (arith, length-snoc xs x)

-- ---- one step

rest_is : (t s : Turn) (c : Tree) → slice_get (children_of t.node.now) t.next ≡ Some c → IsPast t c s → rest_of t ≡ c ∷ rest_of s
rest_is t s c e p =
    let n : suc t.next ≡ s.next = omega (arith, p.next) in
    drop_at (children_of t.node.now) t.next c e
    ∙ ap (λ (k : ℕ). c ∷ drop k (children_of t.node.now)) n
    ∙ ap (λ (x : Tree). c ∷ drop s.next (children_of x)) (sym p.node)

past_turn : (end deep : ℕ) (t s : Turn) (c : Tree) → slice_get (children_of t.node.now) t.next ≡ Some c → IsPast t c s → IsTurn end deep t → IsTurn end deep s
past_turn end deep t s c e p h =
    let r : all_spans (rest_of t) ≡ span_of c + all_spans (rest_of s) = ap all_spans (rest_is t s c e p) in
    let n : length (children_of s.node.now) ≡ length (children_of t.node.now) = ap (λ (x : Tree). length (children_of x)) p.node in
    let d : tree_depth s.node.now ≡ tree_depth t.node.now = ap tree_depth p.node in
    record {
      whole = subst (λ (x : Tree). IsWhole x) (sym p.node) h.whole;
      next = omega (arith, n, p.next, slice_get_within (children_of t.node.now) t.next c e);
      within = omega (arith, r, p.place, h.within);
      falls = omega (arith, d, h.falls);
    }

-- the next child and the rest
next_or_rest : (t s : Turn) (c u : Tree) (at : ℕ) → slice_get (children_of t.node.now) t.next ≡ Some c → IsPast t c s → IsIn (rest_of t) t.place u at → IsIn (c ∷ []) t.place u at ⊎ IsIn (rest_of s) s.place u at
next_or_rest t s c u at e p h = by (split c (rest_of s) t.place u at (subst (λ (xs : List Tree). IsIn xs t.place u at) (rest_is t s c e p) h))
  where
    by : IsIn (c ∷ []) t.place u at ⊎ IsIn (rest_of s) (t.place + span_of c) u at → IsIn (c ∷ []) t.place u at ⊎ IsIn (rest_of s) s.place u at
    by (inl k) = inl k
    by (inr k) = inr (subst (λ (q : ℕ). IsIn (rest_of s) q u at) (sym p.place) k)

rest_in : (t s : Turn) (c u : Tree) (at : ℕ) → slice_get (children_of t.node.now) t.next ≡ Some c → IsPast t c s → IsIn (rest_of s) s.place u at → IsIn (rest_of t) t.place u at
rest_in t s c u at e p h = subst (λ (xs : List Tree). IsIn xs t.place u at) (sym (rest_is t s c e p))
    (later c (rest_of s) t.place u at (subst (λ (q : ℕ). IsIn (rest_of s) q u at) p.place h))

child_in : (t s : Turn) (c u : Tree) (at : ℕ) → slice_get (children_of t.node.now) t.next ≡ Some c → IsPast t c s → IsIn (c ∷ []) t.place u at → IsIn (rest_of t) t.place u at
child_in t s c u at e p h = subst (λ (xs : List Tree). IsIn xs t.place u at) (sym (rest_is t s c e p)) (wide c (rest_of s) t.place u at h)

child_whole : (t : Turn) (c : Tree) → slice_get (children_of t.node.now) t.next ≡ Some c → IsWhole t.node.now → IsWhole c
child_whole t c e w = whole_children t.node.now w t.next c e

-- a turn without children left is over
pub over : (root : Tree) (size : ℕ) (ts : List Turn) (t : Turn) (place : ℕ) → IsOn root size (ts ++ t ∷ []) place → (t.next < length (children_of t.node.now) → ⊥) → IsOn root size ts place
over root size ts t place w past =
    let p = turns_pop (span_of root) (1 + tree_depth root) ts t w.turns in
    record {
      whole = w.whole;
      turns = p.0;
      stand = (stand_pop root ts t w.stand).0;
      begun = (begun_pop root place ts t w.begun).0;
      room = w.room;
      all = λ u at h le some. by u at (ahead_pop ts t u at (w.all u at h le some));
      only = λ u at h. w.only u at (ahead_push ts t u at (inl h));
    }
  where
    by : (u : Tree) (at : ℕ) → IsAhead ts u at ⊎ IsIn (rest_of t) t.place u at → IsAhead ts u at
    by u at (inl k) = k
    by u at (inr k) = absurd (none_in (rest_of t) t.place u at (drop_all t.next (children_of t.node.now) (omega (arith, past))) k)

-- a child that ends at the place or before it is passed
pub passed : (root : Tree) (size : ℕ) (ts : List Turn) (t s : Turn) (c : Tree) (place : ℕ) → IsOn root size (ts ++ t ∷ []) place → slice_get (children_of t.node.now) t.next ≡ Some c → IsPast t c s → t.place + span_of c ≤ place → IsOn root size (ts ++ s ∷ []) place
passed root size ts t s c place w e past le =
    let p = turns_pop (span_of root) (1 + tree_depth root) ts t w.turns in
    let whole : IsWhole c = child_whole t c e p.1.whole in
    record {
      whole = w.whole;
      turns = turns_push (span_of root) (1 + tree_depth root) ts s p.0 (past_turn _ _ t s c e past p.1);
      stand = (let r = stand_pop root ts t w.stand in stand_push root ts s r.0 (stand_past root t s c past r.1));
      begun = (let r = begun_pop root place ts t w.begun in begun_push root place ts s r.0 (begun_past root place t s c e past r.1));
      room = w.room;
      all = λ u at h after some. by whole u at after some (ahead_pop ts t u at (w.all u at h after some));
      only = λ u at h. w.only u at (back u at (ahead_pop ts s u at h));
    }
  where
    next : (u : Tree) (at : ℕ) → IsWhole c → place ≤ at → 0 < span_of u → IsIn (c ∷ []) t.place u at ⊎ IsIn (rest_of s) s.place u at → IsAhead (ts ++ s ∷ []) u at
    next u at whole after some (inl k) =
        let r = lie (c ∷ []) t.place u at (whole_one c whole) k in
        absurd (omega (arith, r.1, le, after, some))
    next u at whole after some (inr k) = ahead_push ts s u at (inr k)

    by : IsWhole c → (u : Tree) (at : ℕ) → place ≤ at → 0 < span_of u → IsAhead ts u at ⊎ IsIn (rest_of t) t.place u at → IsAhead (ts ++ s ∷ []) u at
    by whole u at after some (inl k) = ahead_push ts s u at (inl k)
    by whole u at after some (inr k) = next u at whole after some (next_or_rest t s c u at e past k)

    back : (u : Tree) (at : ℕ) → IsAhead ts u at ⊎ IsIn (rest_of s) s.place u at → IsAhead (ts ++ t ∷ []) u at
    back u at (inl k) = ahead_push ts t u at (inl k)
    back u at (inr k) = ahead_push ts t u at (inr (rest_in t s c u at e past k))

into_rest : (t i : Turn) (c : Tree) → IsInto t c i → rest_of i ≡ children_of c
into_rest t i c p = ap (λ (k : ℕ). drop k (children_of i.node.now)) p.next ∙ ap (λ (x : Tree). children_of x) p.node

into_in : (t i : Turn) (c u : Tree) (at : ℕ) → IsInto t c i → IsIn (children_of c) t.place u at → IsIn (rest_of i) i.place u at
into_in t i c u at p h = subst (λ (xs : List Tree). IsIn xs i.place u at) (sym (into_rest t i c p)) (subst (λ (q : ℕ). IsIn (children_of c) q u at) (sym p.place) h)

out_of : (t i : Turn) (c u : Tree) (at : ℕ) → IsInto t c i → IsIn (rest_of i) i.place u at → IsIn (children_of c) t.place u at
out_of t i c u at p h = subst (λ (q : ℕ). IsIn (children_of c) q u at) p.place (subst (λ (xs : List Tree). IsIn xs i.place u at) (into_rest t i c p) h)

into_turn : (t i s : Turn) (c : Tree) (end deep : ℕ) → slice_get (children_of t.node.now) t.next ≡ Some c → IsPast t c s → IsInto t c i → IsTurn end deep t → IsTurn s.place (tree_depth s.node.now) i
into_turn t i s c end deep e past into h =
    let whole : IsWhole c = child_whole t c e h.whole in
    let r : all_spans (rest_of i) ≡ all_spans (children_of c) = ap all_spans (into_rest t i c into) in
    let d : tree_depth i.node.now ≡ tree_depth c = ap tree_depth into.node in
    let q : tree_depth s.node.now ≡ tree_depth t.node.now = ap tree_depth past.node in
    record {
      whole = subst (λ (x : Tree). IsWhole x) (sym into.node) whole;
      next = omega (arith, into.next);
      within = omega (arith, r, into.place, past.place, (whole c nodes.itself).sized.within);
      falls = omega (arith, d, q, child_depth t.node.now t.next c e);
    }

-- a child that begins before the place is gone into
pub entered : (root : Tree) (size : ℕ) (ts : List Turn) (t s i : Turn) (c : Tree) (place : ℕ) → IsOn root size (ts ++ t ∷ []) place → slice_get (children_of t.node.now) t.next ≡ Some c → IsPast t c s → IsInto t c i → t.place < place
    → IsOn root size ((ts ++ s ∷ []) ++ i ∷ []) place
entered root size ts t s i c place w e past into lt =
    let p = turns_pop (span_of root) (1 + tree_depth root) ts t w.turns in
    let a : AreTurns (span_of root) (1 + tree_depth root) (ts ++ s ∷ []) = turns_push (span_of root) (1 + tree_depth root) ts s p.0 (past_turn _ _ t s c e past p.1) in
    let j : IsTurn s.place (tree_depth s.node.now) i = into_turn t i s c _ _ e past into p.1 in
    let k : IsTurn (last_place (span_of root) (ts ++ s ∷ [])) (last_depth (1 + tree_depth root) (ts ++ s ∷ [])) i =
    subst (λ (q : ℕ). IsTurn q (last_depth (1 + tree_depth root) (ts ++ s ∷ [])) i) (sym (place_pushed (span_of root) ts s))
    (subst (λ (q : ℕ). IsTurn s.place q i) (sym (depth_pushed (1 + tree_depth root) ts s)) j) in
    record {
      whole = w.whole;
      turns = turns_push (span_of root) (1 + tree_depth root) (ts ++ s ∷ []) i a k;
      stand = (let r = stand_pop root ts t w.stand in stand_push root (ts ++ s ∷ []) i (stand_push root ts s r.0 (stand_past root t s c past r.1)) stand_in);
      begun = (let r = begun_pop root place ts t w.begun in begun_push root place (ts ++ s ∷ []) i (begun_push root place ts s r.0 (begun_past root place t s c e past r.1)) (begun_into root place t i c into lt));
      room = w.room;
      all = λ u at h after some. by u at after (ahead_pop ts t u at (w.all u at h after some));
      only = λ u at h. w.only u at (back u at (ahead_pop (ts ++ s ∷ []) i u at h));
    }
  where
    -- the child stands where the turn is
    child_there : IsIn (children_of root) (lead_of root) c t.place
    child_there = w.only c t.place (ahead_push ts t c t.place (inr (child_in t s c c t.place e past (here c [] t.place))))

    stand_in : StandsIn root i
    stand_in at is =
        let q : Some t.place ≡ Some at = sym into.begins ∙ is in
        let d : t.place ≡ at = cc in
        subst (λ (x : Tree). IsIn (children_of root) (lead_of root) x at) (sym into.node) (subst (λ (n : ℕ). IsIn (children_of root) (lead_of root) c n) d child_there)

    low' : (u : Tree) (at : ℕ) → IsAhead ts u at ⊎ IsIn (rest_of s) s.place u at → IsAhead ((ts ++ s ∷ []) ++ i ∷ []) u at
    low' u at h = ahead_push (ts ++ s ∷ []) i u at (inl (ahead_push ts s u at h))

    inner : (u : Tree) (at : ℕ) → place ≤ at → ((u ≡ c) × (at ≡ t.place)) ⊎ IsIn (children_of c) t.place u at → IsAhead ((ts ++ s ∷ []) ++ i ∷ []) u at
    inner u at after (inl k) = absurd (omega (arith, k.1, lt, after))
    inner u at after (inr k) = ahead_push (ts ++ s ∷ []) i u at (inr (into_in t i c u at into k))

    next : (u : Tree) (at : ℕ) → place ≤ at → IsIn (c ∷ []) t.place u at ⊎ IsIn (rest_of s) s.place u at → IsAhead ((ts ++ s ∷ []) ++ i ∷ []) u at
    next u at after (inl k) = inner u at after (single c t.place u at k)
    next u at after (inr k) = low' u at (inr k)

    by : (u : Tree) (at : ℕ) → place ≤ at → IsAhead ts u at ⊎ IsIn (rest_of t) t.place u at → IsAhead ((ts ++ s ∷ []) ++ i ∷ []) u at
    by u at after (inl k) = low' u at (inl k)
    by u at after (inr k) = next u at after (next_or_rest t s c u at e past k)

    back' : (u : Tree) (at : ℕ) → IsAhead ts u at ⊎ IsIn (rest_of s) s.place u at → IsAhead (ts ++ t ∷ []) u at
    back' u at (inl k) = ahead_push ts t u at (inl k)
    back' u at (inr k) = ahead_push ts t u at (inr (rest_in t s c u at e past k))

    back : (u : Tree) (at : ℕ) → IsAhead (ts ++ s ∷ []) u at ⊎ IsIn (rest_of i) i.place u at → IsAhead (ts ++ t ∷ []) u at
    back u at (inl k) = back' u at (ahead_pop ts s u at k)
    back u at (inr k) = ahead_push ts t u at (inr (child_in t s c u at e past (inside c [] t.place u at (out_of t i c u at into k))))

-- a child that reaches past the place and does not begin before it is next
pub next_is : (root : Tree) (size : ℕ) (ts : List Turn) (t s : Turn) (a : Ahead) (place : ℕ) → IsOn root size (ts ++ t ∷ []) place → slice_get (children_of t.node.now) t.next ≡ Some a.node.now → IsPast t a.node.now s → a.place ≡ t.place → place ≤ t.place → place < t.place + span_of a.node.now
    → IsNext root place a
next_is root size ts t s a place w e past at' le lt =
    let p = turns_pop (span_of root) (1 + tree_depth root) ts t w.turns in
    record {
      whole = child_whole t a.node.now e p.1.whole;
      from = omega (arith, at', le);
      there = λ u at h. w.only u at (ahead_push ts t u at (inr (child_in t s a.node.now u at e past (subst (λ (q : ℕ). IsIn (a.node.now ∷ []) q u at) at' h))));
      holds = λ u h some. by p.0 p.1 u (ahead_pop ts t u place (w.all u place h (omega arith) some));
    }
  where
    next : IsTurn (last_place (span_of root) ts) (last_depth (1 + tree_depth root) ts) t → (u : Tree) → IsIn (a.node.now ∷ []) t.place u place ⊎ IsIn (rest_of s) s.place u place → IsIn (a.node.now ∷ []) a.place u place
    next h u (inl k) = subst (λ (q : ℕ). IsIn (a.node.now ∷ []) q u place) (sym at') k
    next h u (inr k) =
        let w' : IsTurn _ _ s = past_turn _ _ t s a.node.now e past h in
        let r = lie (rest_of s) s.place u place (rest_whole s w'.whole) k in
        absurd (omega (arith, r.0, past.place, lt))

    by : AreTurns (span_of root) (1 + tree_depth root) ts → IsTurn (last_place (span_of root) ts) (last_depth (1 + tree_depth root) ts) t → (u : Tree) → IsAhead ts u place ⊎ IsIn (rest_of t) t.place u place → IsIn (a.node.now ∷ []) a.place u place
    by l h u (inl k) =
        let r : all_spans (rest_of t) ≡ span_of a.node.now + all_spans (rest_of s) = ap all_spans (rest_is t s a.node.now e past) in
        absurd (omega (arith, low _ _ ts u place l k, h.within, r, lt))
    by l h u (inr k) = next h u (next_or_rest t s a.node.now u place e past k)

-- ---- the start, room and weight

pub first_way : (root : Tree) (size : ℕ) (t : Turn) → IsWhole root → 1 + tree_depth root ≤ size → t.node.now ≡ root → t.begins ≡ None → t.next ≡ 0 → t.place ≡ lead_of root → IsOn root size (t ∷ []) 0
first_way root size t w room node begins next place =
    let r : rest_of t ≡ children_of root = ap (λ (k : ℕ). drop k (children_of t.node.now)) next ∙ ap (λ (x : Tree). children_of x) node in
    let q : lead_of root ≡ t.place = sym place in
    let s : all_spans (rest_of t) ≡ all_spans (children_of root) = ap all_spans r in
    let d : tree_depth t.node.now ≡ tree_depth root = ap tree_depth node in
    let start : start_of root t ≡ lead_of root = ap (λ (o : Option ℕ). unwrap_or o (lead_of root)) begins in
    let none : all_spans (take t.next (children_of t.node.now)) ≡ 0 = ap (λ (k : ℕ). all_spans (take k (children_of t.node.now))) next in
    record {
      whole = w;
      turns = (
        record {
          whole = subst (λ (x : Tree). IsWhole x) (sym node) w;
          next = omega (arith, next);
          within = omega (arith, s, place, (w root nodes.itself).sized.within);
          falls = omega (arith, d);
        },
        tt,
      );
      stand = ((λ at is. let q : None ≡ Some at = sym begins ∙ is in cc), tt);
      begun = (
        record {
          before = λ at is. let q : None ≡ Some at = sym begins ∙ is in cc;
          whole = λ is. node;
          passed = omega (arith, place, start, none);
        },
        tt,
      );
      room = room;
      all = λ u at h le some. inl (subst (λ (xs : List Tree). IsIn xs t.place u at) (sym r) (subst (λ (p : ℕ). IsIn (children_of root) p u at) q h));
      only = λ u at h. back u at r q h;
    }
  where
    back : (u : Tree) (at : ℕ) → rest_of t ≡ children_of root → lead_of root ≡ t.place → IsAhead (t ∷ []) u at → IsIn (children_of root) (lead_of root) u at
    back u at r q (inl h) = subst (λ (p : ℕ). IsIn (children_of root) p u at) (sym q) (subst (λ (xs : List Tree). IsIn xs t.place u at) r h)
    back u at r q (inr h) = absurd h

pub has_room : (root : Tree) (size : ℕ) (ts : List Turn) (t : Turn) (place : ℕ) → IsOn root size (ts ++ t ∷ []) place → length ts < size
has_room root size ts t place w = omega (arith, few_turns _ _ (ts ++ t ∷ []) w.turns, length-snoc ts t, w.room)

pub ends : (root : Tree) (size : ℕ) (ts : List Turn) (t : Turn) (place : ℕ) → IsOn root size (ts ++ t ∷ []) place → t.place + all_spans (rest_of t) ≤ span_of root
ends root size ts t place w =
    let p = turns_pop (span_of root) (1 + tree_depth root) ts t w.turns in
    omega (arith, p.1.within, last_before _ _ ts p.0)

pub later_way : (root : Tree) (size : ℕ) (ts : List Turn) (place more : ℕ) → IsOn root size ts place → place ≤ more → IsOn root size ts more
later_way root size ts place more w le = record {
  whole = w.whole;
  turns = w.turns;
  stand = w.stand;
  begun = begun_later root place more ts le w.begun;
  room = w.room;
  all = λ u at h after some. w.all u at h (omega (arith, le, after)) some;
  only = w.only;
}

pub weight-snoc : (ts : List Turn) (t : Turn) → weight (ts ++ t ∷ []) ≡ weight ts + (1 + 2 * all_nodes (rest_of t))
weight-snoc [] t = omega arith
weight-snoc (s ∷ ts) t = omega (arith, weight-snoc ts t)

pub lighter_past : (ts : List Turn) (t s : Turn) (c : Tree) → slice_get (children_of t.node.now) t.next ≡ Some c → IsPast t c s → weight (ts ++ s ∷ []) + 2 ≤ weight (ts ++ t ∷ [])
lighter_past ts t s c e p =
    let r : all_nodes (rest_of t) ≡ node_count c + all_nodes (rest_of s) = ap all_nodes (rest_is t s c e p) in
    let n : node_count c ≡ 1 + (length (elements_of c) + all_nodes (children_of c)) = fold_out-Tree ℕ nodes_step c in
    omega (arith, r, n, weight-snoc ts t, weight-snoc ts s)

pub lighter_into : (ts : List Turn) (t s i : Turn) (c : Tree) → slice_get (children_of t.node.now) t.next ≡ Some c → IsPast t c s → IsInto t c i → weight ((ts ++ s ∷ []) ++ i ∷ []) + 1 ≤ weight (ts ++ t ∷ [])
lighter_into ts t s i c e p into =
    let r : all_nodes (rest_of t) ≡ node_count c + all_nodes (rest_of s) = ap all_nodes (rest_is t s c e p) in
    let n : node_count c ≡ 1 + (length (elements_of c) + all_nodes (children_of c)) = fold_out-Tree ℕ nodes_step c in
    let k : all_nodes (rest_of i) ≡ all_nodes (children_of c) = ap all_nodes (into_rest t i c into) in
    omega (arith, r, n, k, weight-snoc ts t, weight-snoc ts s, weight-snoc (ts ++ s ∷ []) i)

-- ---- more children at once

child_at : (ts : List Tree) (k : ℕ) → k < length ts → (c : Tree) × (slice_get ts k ≡ Some c)
child_at [] k h = absurd (omega (arith, h))
child_at (t ∷ ts) zero h = (t, refl)
child_at (t ∷ ts) (suc k) h = child_at ts k (omega (arith, h))

-- a turn after one child more
abbrev after_one : Turn → Tree → Turn
after_one t c = record { node = t.node; begins = t.begins; next = t.next + 1; place = t.place + span_of c }

is_after : (t : Turn) (c : Tree) → IsPast t c (after_one t c)
is_after t c = record { node = refl; begins = refl; next = refl; place = refl }

-- what is so of one child after another that ends at the place or before it
passed_by : (P : Turn → Type 0) (place : ℕ) → ((t s : Turn) (c : Tree) → slice_get (children_of t.node.now) t.next ≡ Some c → IsPast t c s → s.place ≤ place → P t → P s)
    → (n : ℕ) (t s : Turn) → s.node.now ≡ t.node.now → s.begins ≡ t.begins → s.next ≡ t.next + suc n → s.next ≤ length (children_of t.node.now) → s.place ≡ t.place + all_spans (take (suc n) (rest_of t)) → s.place ≤ place → P t → P s
passed_by P place step zero t s node begins next within bytes ends h =
    let q = child_at (children_of t.node.now) t.next (omega (arith, next, within)) in
    let rest : rest_of t ≡ q.0 ∷ rest_of (after_one t q.0) = rest_is t (after_one t q.0) q.0 q.1 (is_after t q.0) in
    let one : all_spans (take (suc zero) (rest_of t)) ≡ span_of q.0 + 0 = ap (λ (us : List Tree). all_spans (take (suc zero) us)) rest in
    step t s q.0 q.1 (record { node = node; begins = begins; next = omega (arith, next); place = omega (arith, bytes, one) }) ends h
passed_by P place step (suc m) t s node begins next within bytes ends h =
    let q = child_at (children_of t.node.now) t.next (omega (arith, next, within)) in
    let u = after_one t q.0 in
    let rest : rest_of t ≡ q.0 ∷ rest_of u = rest_is t u q.0 q.1 (is_after t q.0) in
    let more : all_spans (take (suc (suc m)) (rest_of t)) ≡ span_of q.0 + all_spans (take (suc m) (rest_of u)) = ap (λ (us : List Tree). all_spans (take (suc (suc m)) us)) rest in
    passed_by P place step m u s node begins (omega (arith, next)) within (omega (arith, bytes, more)) ends
    (step t u q.0 q.1 (is_after t q.0) (omega (arith, bytes, more, ends)) h)

-- the same by what is known of a turn that is passed
passed_all : (P : Turn → Type 0) (place : ℕ) → ((t s : Turn) (c : Tree) → slice_get (children_of t.node.now) t.next ≡ Some c → IsPast t c s → s.place ≤ place → P t → P s) → (t s : Turn) → IsPassed t place s → P t → P s
passed_all P place step t s p h =
    let l = p.later in
    let n : s.next ≡ t.next + suc (s.next - (t.next + 1)) = omega (arith, p.some) in
    let m : s.next - t.next ≡ suc (s.next - (t.next + 1)) = omega (arith, p.some) in
    let b : s.place ≡ t.place + all_spans (take (suc (s.next - (t.next + 1))) (rest_of t)) = l.bytes ∙ ap (λ (k : ℕ). t.place + all_spans (take k (rest_of t))) m in
    passed_by P place step (s.next - (t.next + 1)) t s l.node l.begins n l.within b l.ends h

-- a turn after one child, or a later one
pub past_later : (t u s : Turn) (c : Tree) (place : ℕ) → slice_get (children_of t.node.now) t.next ≡ Some c → IsPast t c u → IsLater u place s → IsPassed t place s
past_later t u s c place e p l =
    let m : s.next - t.next ≡ suc (s.next - u.next) = omega (arith, p.next, l.next) in
    let b : all_spans (take (s.next - t.next) (rest_of t)) ≡ span_of c + all_spans (take (s.next - u.next) (rest_of u)) =
    ap (λ (k : ℕ). all_spans (take k (rest_of t))) m ∙ ap (λ (us : List Tree). all_spans (take (suc (s.next - u.next)) us)) (rest_is t u c e p) in
    let n : length (children_of u.node.now) ≡ length (children_of t.node.now) = ap (λ (x : Tree). length (children_of x)) p.node in
    record {
      some = omega (arith, p.next, l.next);
      later = record {
        node = l.node ∙ p.node;
        begins = l.begins ∙ p.begins;
        next = omega (arith, p.next, l.next);
        within = omega (arith, l.within, n);
        bytes = omega (arith, l.bytes, p.place, b);
        ends = l.ends;
      };
    }

-- ---- the loop

roomier : (root : Tree) (size more : ℕ) (ts us : List Turn) (place : ℕ) → IsOn root size ts place → ts ≡ us → size ≤ more → IsOn root more us place
roomier root size more ts us place w e le =
    let v : IsOn root size us place = subst (λ (xs : List Turn). IsOn root size xs place) e w in
    record {
      whole = v.whole;
      turns = v.turns;
      stand = v.stand;
      begun = v.begun;
      room = omega (arith, v.room, le);
      all = v.all;
      only = v.only;
    }

popped : (root : Tree) (size : ℕ) (xs ts : List Turn) (t : Turn) (place : ℕ) → IsOn root size xs place → xs ≡ ts ++ t ∷ [] → IsOn root size (ts ++ t ∷ []) place
popped root size xs ts t place w e = subst (λ (ys : List Turn). IsOn root size ys place) e w

pub pop_turn : (root : Tree) (size : ℕ) (xs ts : List Turn) (t : Turn) (place : ℕ) → IsOn root size xs place → xs ≡ ts ++ t ∷ [] → t.place + all_spans (rest_of t) ≤ most_span
pop_turn root size xs ts t place w e =
    omega (arith, ends root size ts t place (popped root size xs ts t place w e), (w.whole root nodes.itself).sized.short)

pub pop_begun : (root : Tree) (size : ℕ) (xs ts : List Turn) (t : Turn) (place : ℕ) → IsOn root size xs place → xs ≡ ts ++ t ∷ [] → IsBegun t
pop_begun root size xs ts t place w e =
    λ at is.
    let h : HasBegun root place t = (begun_pop root place ts t (popped root size xs ts t place w e).begun).1 in
    let start : start_of root t ≡ at = ap (λ (o : Option ℕ). unwrap_or o (lead_of root)) is in
    omega (arith, start, h.passed)

pub go_over : (root : Tree) (size more : ℕ) (xs ts : List Turn) (t : Turn) (place : ℕ) → IsOn root size xs place → xs ≡ ts ++ t ∷ [] → (t.next < length (children_of t.node.now) → ⊥) → size ≤ more → IsOn root more ts place
go_over root size more xs ts t place w e h le = roomier root size more ts ts place (over root size ts t place (popped root size xs ts t place w e) h) refl le

pub go_past : (root : Tree) (size more : ℕ) (xs ts us : List Turn) (t s : Turn) (place : ℕ) → IsOn root size xs place → xs ≡ ts ++ t ∷ [] → IsPassed t place s → us ≡ ts ++ s ∷ [] → size ≤ more → IsOn root more us place
go_past root size more xs ts us t s place w e h i le =
    roomier root size more (ts ++ s ∷ []) us place
    (passed_all (λ (x : Turn). IsOn root size (ts ++ x ∷ []) place) place (λ a b c f g end on. passed root size ts a b c place on f g (omega (arith, end, g.place))) t s h (popped root size xs ts t place w e)) (sym i) le

pub go_into : (root : Tree) (size more : ℕ) (xs ts us vs : List Turn) (t s i : Turn) (place : ℕ) → IsOn root size xs place → xs ≡ ts ++ t ∷ [] → IsEntered t place s i → us ≡ ts ++ s ∷ [] → vs ≡ us ++ i ∷ [] → size ≤ more → IsOn root more vs place
go_into root size more xs ts us vs t s i place w e h j k le =
    roomier root size more ((ts ++ s ∷ []) ++ i ∷ []) vs place (entered root size ts t s i h.node place (popped root size xs ts t place w e) h.child h.after h.inner h.begins)
    (sym (k ∙ ap (λ (ys : List Turn). ys ++ i ∷ []) j)) le

pub into_room : (root : Tree) (size : ℕ) (xs ts us : List Turn) (t s i : Turn) (place : ℕ) → IsOn root size xs place → xs ≡ ts ++ t ∷ [] → IsEntered t place s i → us ≡ ts ++ s ∷ [] → length us < size
into_room root size xs ts us t s i place w e h j =
    let v = entered root size ts t s i h.node place (popped root size xs ts t place w e) h.child h.after h.inner h.begins in
    let l : length us ≡ length (ts ++ s ∷ []) = ap (λ (ys : List Turn). length ys) j in
    omega (arith, l, has_room root size (ts ++ s ∷ []) i place v)

pub reached : (root : Tree) (size : ℕ) (xs ts : List Turn) (t : Turn) (a : Ahead) (place : ℕ) → IsOn root size xs place → xs ≡ ts ++ t ∷ [] → IsReached t place a → IsNext root place a
reached root size xs ts t a place w e h =
    let s : Turn = record { node = t.node; begins = t.begins; next = t.next + 1; place = t.place + span_of a.node.now } in
    next_is root size ts t s a place (popped root size xs ts t place w e) h.child (record { node = refl; begins = refl; next = refl; place = refl }) h.begins h.from h.past

pub light_over : (xs ts : List Turn) (t : Turn) → xs ≡ ts ++ t ∷ [] → weight ts < weight xs
light_over xs ts t e = let w : weight xs ≡ weight (ts ++ t ∷ []) = ap weight e in omega (arith, w, weight-snoc ts t)

-- each child that is passed makes it lighter
light_one : (ts : List Turn) (t s : Turn) (place : ℕ) → IsPassed t place s → weight (ts ++ s ∷ []) < weight (ts ++ t ∷ [])
light_one ts t s place p =
    let r = passed_all (λ (x : Turn). (t.next ≤ x.next) × (weight (ts ++ x ∷ []) + (x.next - t.next) ≤ weight (ts ++ t ∷ []))) place
    (λ a b c f g end h. (omega (arith, h.0, g.next), omega (arith, h.0, h.1, g.next, lighter_past ts a b c f g))) t s p (omega arith, omega arith) in
    omega (arith, r.1, p.some)

pub light_past : (xs ts us : List Turn) (t s : Turn) (place : ℕ) → xs ≡ ts ++ t ∷ [] → IsPassed t place s → us ≡ ts ++ s ∷ [] → weight us < weight xs
light_past xs ts us t s place e h i =
    let w : weight xs ≡ weight (ts ++ t ∷ []) = ap weight e in
    let v : weight us ≡ weight (ts ++ s ∷ []) = ap weight i in
    let l : weight (ts ++ s ∷ []) < weight (ts ++ t ∷ []) = light_one ts t s place h in
    omega (arith, w, v, l)

pub light_into : (xs ts us vs : List Turn) (t s i : Turn) (place : ℕ) → xs ≡ ts ++ t ∷ [] → IsEntered t place s i → us ≡ ts ++ s ∷ [] → vs ≡ us ++ i ∷ [] → weight vs < weight xs
light_into xs ts us vs t s i place e h j k =
    let w : weight xs ≡ weight (ts ++ t ∷ []) = ap weight e in
    let v : weight vs ≡ weight ((ts ++ s ∷ []) ++ i ∷ []) = ap weight (k ∙ ap (λ (ys : List Turn). ys ++ i ∷ []) j) in
    omega (arith, w, v, lighter_into ts t s i h.node h.child h.after h.inner)
