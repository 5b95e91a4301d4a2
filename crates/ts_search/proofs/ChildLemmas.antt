-- The children of a node, one after another.
use Rattle.std.proofs.Common.{◌≡◌, sym, ap, refl, subst, ℕ, zero, suc, ◌+◌, ◌-◌, ◌<◌, ◌≤◌, ◌⊎◌, inl, inr, ⊎_elim, List, [], ◌∷◌, ◌++◌, length, Option, Some, None, slice_get, option_map, unwrap_or, arith, ◌↔◌}
use Rattle.std.specs.List.{Contains}
use Rattle.std.proofs.lemmas.Bool.{cases_lt}
use Rattle.std.proofs.lemmas.Option.{slice_get_within}
use Rattle.std.proofs.lemmas.List.Elements.{Contains-push, Contains-push_cases, Contains-append_left}
use Rattle.spec_trees.specs.declared.visible.VisibleNode.{VisibleNode}
use Rattle.spec_trees.specs.Family.{IsParent, depth_at}
use Rattle.spec_matches.specs.Siblings.{IsRising, AreChildren, AreSiblings}
use Rattle.ts_cursor.specs.Linked.{IsPast}
use Rattle.ts_search.specs.Rows.{HaveParents}
use Rattle.ts_search.proofs.PlaceLemmas.{cases_lt_or_eq, none_in_nil}
use Rattle.ts_search.proofs.AddLemmas.{in_one, one_in}

-- ---- rising lists

pub rising_push : (xs : List ℕ) (m : ℕ) → IsRising xs → ((x : ℕ) → Contains xs x → x < m) → IsRising (xs ++ m ∷ [])
rising_push [] m r below = ((λ y h. absurd (none_in_nil y h)), tt)
rising_push (x ∷ xs) m r below = (
  (λ y h. ⊎_elim (λ w. r.0 y w) (λ e. subst (λ (z : ℕ). x < z) e (below x (head x xs))) (Contains-push_cases xs m y h)),
  rising_push xs m r.1 (λ y h. below y (later x xs y h)),
)
  where
    head : (x : ℕ) (xs : List ℕ) → Contains (x ∷ xs) x
    head x xs = (0, omega arith, refl)

    later : (x : ℕ) (xs : List ℕ) (y : ℕ) → Contains xs y → Contains (x ∷ xs) y
    later x xs y (k, below, is) = (suc k, omega (arith, below), is)

-- two rising lists with the same members are one list
pub same_rising : (xs ys : List ℕ) → IsRising xs → IsRising ys → ((m : ℕ) → Contains xs m ↔ Contains ys m) → xs ≡ ys
same_rising [] [] r s h = refl
same_rising [] (y ∷ ys) r s h = absurd (none_in_nil y ((h y).1 (0, omega arith, refl)))
same_rising (x ∷ xs) [] r s h = absurd (none_in_nil x ((h x).0 (0, omega arith, refl)))
same_rising (x ∷ xs) (y ∷ ys) r s h =
    let e : x ≡ y = heads (split x y ys ((h x).0 (0, omega arith, refl))) (split y x xs ((h y).1 (0, omega arith, refl))) in
    let t : xs ≡ ys = same_rising xs ys r.1 s.1 (λ m. ((λ w. forth e m w (split m y ys ((h m).0 (put x m xs w)))), (λ w. back e m w (split m x xs ((h m).1 (put y m ys w)))))) in
    λ i. e i ∷ t i
  where
    put : (x m : ℕ) (xs : List ℕ) → Contains xs m → Contains (x ∷ xs) m
    put x m xs (k, below, is) = (suc k, omega (arith, below), is)

    split : (m y : ℕ) (ys : List ℕ) → Contains (y ∷ ys) m → (m ≡ y) ⊎ Contains ys m
    split m y ys (zero, below, is) = inl (sym is)
    split m y ys (suc k, below, is) = inr (k, omega (arith, below), is)

    heads : (x ≡ y) ⊎ Contains ys x → (y ≡ x) ⊎ Contains xs y → x ≡ y
    heads (inl e) _ = e
    heads (inr a) (inl e) = sym e
    heads (inr a) (inr b) = let p = s.0 x a in let q = r.0 y b in absurd (omega arith)

    forth : x ≡ y → (m : ℕ) → Contains xs m → (m ≡ y) ⊎ Contains ys m → Contains ys m
    forth e m w (inl f) = let p = r.0 m w in absurd (omega (arith, e, f))
    forth e m w (inr a) = a

    back : x ≡ y → (m : ℕ) → Contains ys m → (m ≡ x) ⊎ Contains xs m → Contains xs m
    back e m w (inl f) = let p = s.0 m w in absurd (omega (arith, e, f))
    back e m w (inr a) = a

-- a node has one list of children
pub same_children : (nodes : List VisibleNode) (k : ℕ) (xs ys : List ℕ) → AreChildren nodes k xs → AreChildren nodes k ys → xs ≡ ys
same_children nodes k xs ys a b = same_rising xs ys a.order b.order (λ m. ((λ h. (b.all m).1 ((a.all m).0 h)), (λ h. (a.all m).1 ((b.all m).0 h))))

-- ---- a walk over children

module _ (nodes : List VisibleNode) where
  -- no node stands past the last
  depth_past : (k : ℕ) → length nodes ≤ k → depth_at nodes k ≡ 0
  depth_past k past = by (slice_get nodes k) refl
    where
      by : (o : Option VisibleNode) → slice_get nodes k ≡ o → depth_at nodes k ≡ 0
      by None e = ap (λ (o : Option VisibleNode). unwrap_or (option_map (λ node. node.depth) o) 0) e
      by (Some node) e = let w = slice_get_within nodes k node e in absurd (omega arith)

  -- the children before m are listed, and all nodes between k and m are as deep as m
  pub record Listed (k m past : ℕ) (children : List ℕ) : Type 0 where
    pub low : k < m
    pub high : m ≤ past
    pub level : m < past → (i : ℕ) → k < i → i < m → depth_at nodes m ≤ depth_at nodes i
    pub all : (c : ℕ) → Contains children c ↔ ((c < m) × IsParent nodes c k)
    pub order : IsRising children

  pub listed_none : (k past : ℕ) → IsPast nodes k past → Listed k (k + 1) past []
  listed_none k past e = record {
    low = omega arith;
    high = let l = e.later in omega arith;
    level = λ lt i a b. absurd (omega arith);
    all = λ c. ((λ h. absurd (none_in_nil c h)), (λ h. let a = h.1.earlier in let b = h.0 in absurd (omega arith)));
    order = tt;
  }

  pub listed_more : (k m past next : ℕ) (children more : List ℕ) → more ≡ children ++ m ∷ [] → m < past → IsPast nodes k past → IsPast nodes m next → Listed k m past children → Listed k next past more
  listed_more k m past next children more is lt ends after before = record {
    low = let l = before.low in let a = after.later in omega arith;
    high = high;
    level = level;
    all = λ c. ((λ h. to c (Contains-push_cases children m c (subst (λ (l : List ℕ). Contains l c) is h))), (λ h. subst (λ (l : List ℕ). Contains l c) (sym is) (from c h.0 h.1)));
    order = subst IsRising (sym is) (rising_push children m before.order (λ x h. ((before.all x).0 h).0));
  }
    where
      deeper : depth_at nodes k < depth_at nodes m
      deeper = ends.between m before.low lt

      high : next ≤ past
      high = ⊎_elim
          (λ below. let inside = after.within in let b = after.between past lt below in let e = ends.ends (omega arith) in let d = deeper in absurd (omega arith))
          (λ le. le) (cases_lt past next)

      level : next < past → (i : ℕ) → k < i → i < next → depth_at nodes next ≤ depth_at nodes i
      level below i a b =
          let inside = ends.within in
          let e = after.ends (omega arith) in
          ⊎_elim
          (λ first. ⊎_elim (λ h. let l = before.level lt i a h in omega arith) (λ h. subst (λ (j : ℕ). depth_at nodes next ≤ depth_at nodes j) (sym h) e) (cases_lt_or_eq i m first))
          (λ later. let l = after.between i (omega arith) b in omega arith) (cases_lt i (m + 1))

      parent : IsParent nodes m k
      parent = record { earlier = before.low; above = deeper; between = before.level lt }

      to : (c : ℕ) → Contains children c ⊎ (m ≡ c) → (c < next) × IsParent nodes c k
      to c (inl h) = let w = (before.all c).0 h in ((let a = w.0 in let b = after.later in omega arith), w.1)
      to c (inr e) = ((let b = after.later in omega (arith, e)), subst (λ (j : ℕ). IsParent nodes j k) e parent)

      from : (c : ℕ) → c < next → IsParent nodes c k → Contains (children ++ m ∷ []) c
      from c below p = ⊎_elim
          (λ first. ⊎_elim (λ h. Contains-append_left children (m ∷ []) c ((before.all c).1 (h, p))) (λ h. subst (Contains (children ++ m ∷ [])) (sym h) (Contains-push children m)) (cases_lt_or_eq c m first))
          (λ later. let d = after.between c (omega arith) below in let b = p.between m before.low (omega arith) in absurd (omega arith)) (cases_lt c (m + 1))

  pub listed_all : (k m past : ℕ) (children : List ℕ) → past ≤ m → IsPast nodes k past → Listed k m past children → AreChildren nodes k children
  listed_all k m past children le ends l = record {
    all = λ c. ((λ h. ((l.all c).0 h).1), (λ p. (l.all c).1 (⊎_elim (λ lt. lt) (λ ge. absurd (late c ge p (cases_lt past (length nodes)))) (cases_lt c m), p)));
    order = l.order;
  }
    where
      late : (c : ℕ) → m ≤ c → IsParent nodes c k → (past < length nodes) ⊎ (length nodes ≤ past) → ⊥
      late c ge p (inl inside) =
          let e = ends.ends inside in
          let a = p.above in
          ⊎_elim
          (λ h. let b = p.between past ends.later h in omega arith)
          (λ h. let same : c ≡ past = (let high = l.high in omega arith) in let b = subst (λ (j : ℕ). depth_at nodes k < depth_at nodes j) same a in omega arith)
          (cases_lt past c)
      late c ge p (inr outside) = let z = depth_past c (let high = l.high in omega arith) in let a = p.above in omega (arith, z)

  -- ---- lists of siblings

  -- after each node comes one that is not deeper, or the end
  past_from : (k : ℕ) → k < length nodes → (fuel m : ℕ) → m + fuel ≡ length nodes → k < m → ((i : ℕ) → k < i → i < m → depth_at nodes k < depth_at nodes i) → (p : ℕ) × IsPast nodes k p
  past_from k within zero m e later between = (m, record { later = later; within = omega (arith, e); between = between; ends = λ lt. absurd (omega (arith, e)) })
  past_from k within (suc fuel) m e later between = ⊎_elim
      (λ d. past_from k within fuel (suc m) (omega (arith, e)) (omega arith) (λ i a b. ⊎_elim (λ lt. between i a lt) (λ is. subst (λ (j : ℕ). depth_at nodes k < depth_at nodes j) (sym is) d) (cases_lt_or_eq i m (omega (arith, b)))))
      (λ d. (m, record { later = later; within = omega (arith, e); between = between; ends = λ lt. d }))
      (cases_lt (depth_at nodes k) (depth_at nodes m))

  past_of : (k : ℕ) → k < length nodes → (p : ℕ) × IsPast nodes k p
  past_of k within = let rest = length nodes - (k + 1) in past_from k within rest (k + 1) (omega arith) (omega arith) (λ i a b. absurd (omega arith))

  -- each node has a list of children
  children_from : (k past : ℕ) → IsPast nodes k past → (fuel m : ℕ) (children : List ℕ) → past ≤ m + fuel → Listed k m past children → (all : List ℕ) × AreChildren nodes k all
  children_from k past ends zero m children le l = (children, listed_all k m past children (omega (arith, le)) ends l)
  children_from k past ends (suc fuel) m children le l = ⊎_elim
      (λ lt.
      let next = past_of m (let w = ends.within in omega (arith, lt)) in
      children_from k past ends fuel next.0 (children ++ m ∷ []) (let a = next.1.later in omega (arith, le)) (listed_more k m past next.0 children (children ++ m ∷ []) refl lt ends next.1 l))
      (λ ge. (children, listed_all k m past children ge ends l))
      (cases_lt m past)

  pub children_of : (k : ℕ) → k < length nodes → (all : List ℕ) × AreChildren nodes k all
  children_of k within = let p = past_of k within in children_from k p.0 p.1 p.0 (k + 1) [] (omega arith) (listed_none k p.0 p.1)

  -- each node has siblings
  pub siblings_of : HaveParents nodes → (n : ℕ) → n < length nodes → (siblings : List ℕ) × AreSiblings nodes siblings × Contains siblings n
  siblings_of parents zero within = (0 ∷ [], inl refl, in_one 0 0 refl)
  siblings_of parents (suc n) within =
      let p = parents (suc n) (omega arith) within in
      let inside : p.0 < length nodes = (let e = p.1.earlier in omega arith) in
      let all = children_of p.0 inside in
      (all.0, inr (p.0, inside, all.1), (all.1.all (suc n)).1 p.1)

  -- siblings are nodes
  pub siblings_within : 0 < length nodes → (siblings : List ℕ) → AreSiblings nodes siblings → (n : ℕ) → Contains siblings n → n < length nodes
  siblings_within some siblings (inl e) n h = let z = one_in 0 n (subst (λ (l : List ℕ). Contains l n) e h) in omega (arith, z)
  siblings_within some siblings (inr (k, lt, kids)) n h =
      let p = (kids.all n).0 h in
      ⊎_elim (λ inside. inside) (λ past. let z = depth_past n past in let a = p.above in absurd (omega (arith, z))) (cases_lt n (length nodes))
