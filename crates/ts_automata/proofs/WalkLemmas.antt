-- The steps of an automaton over sets of nodes that have room for all its nodes.
use Rattle.std.proofs.Common.{◌≡◌, ◌∙◌, sym, ap, refl, subst, ℕ, suc, ◌+◌, ◌<◌, ◌⊎◌, inl, inr, ⊎_elim, List, [], ◌∷◌, ◌++◌, length, slice_get, Some, arith, ◌↔◌, take, get_or}
use Rattle.std.specs.List.{Contains}
use Rattle.std.proofs.lemmas.List.{append-nil, take_more}
use Rattle.std.proofs.lemmas.List.Elements.{Contains-append_left, Contains-push, Contains-push_cases}
use Rattle.std.proofs.lemmas.Option.{slice_get_within}
use Rattle.ts_automata.specs.declared.node.Node.{Node}
use Rattle.ts_automata.specs.declared.node.Node.TheVariants.{Take, Split}
use Rattle.spec_lexing.specs.Words.{IsInRanges}
use Rattle.ts_automata.specs.Reads.{Takes, Splits, ReadsOver, here, goes, takes}
use Rattle.ts_automata.specs.Sets.{Adds, Least, given, asked, Moves}
use Rattle.ts_automata.specs.Marked.{InRoom, Onwards}
use Rattle.ts_automata.specs.After.{LeadsToNode}
use Rattle.ts_automata.proofs.AddsLemmas.{adds_none, adds_both, adds_same}
use Rattle.ts_automata.proofs.LeastLemmas.{Closing}
use Rattle.ts_automata.proofs.AfterLemmas.{then_splits, then_takes, last_of}

none_in : (x : ℕ) → Contains [] x → ⊥
none_in x (k, below, _) = omega arith

-- where nothing was to be added, nothing is where there is room
pub room_none : (n : ℕ) (P : ℕ → Type 0) (xs : List ℕ) → Adds P xs xs → Adds (InRoom n P) xs xs
room_none n P xs a = record { more = []; is = sym (append-nil xs); only = λ i h. absurd (none_in i h); added = λ i h. a.added i h.0 }

pub room_split : (T : List Node) (n s l r : ℕ) (a b c : List ℕ) → slice_get T s ≡ Some (Split l r) → Adds (InRoom n (λ i. i ≡ l)) a b → Adds (InRoom n (λ i. i ≡ r)) b c
    → Adds (InRoom n (Splits T s)) a c
room_split T n s l r a b c is p q = adds_both (InRoom n (λ i. i ≡ l)) (InRoom n (λ i. i ≡ r)) (InRoom n (Splits T s)) a b c p q
    (λ i h. (record { left = l; right = r; at = is; way = inl h.0 }, h.1))
    (λ i h. (record { left = l; right = r; at = is; way = inr h.0 }, h.1))
    (λ i h. way i h.0 h.1)
  where
    way : (i : ℕ) → Splits T s i → i < n → InRoom n (λ i. i ≡ l) i ⊎ InRoom n (λ i. i ≡ r) i
    way i h lt =
        let at = h.at in
        let f : Some (Split h.left h.right) ≡ Some (Split l r) = sym at ∙ is in
        let left : h.left ≡ l = cc in
        let right : h.right ≡ r = cc in
        ⊎_elim (λ e. inl (e ∙ left, lt)) (λ e. inr (e ∙ right, lt)) h.way

pub room_take : (T : List Node) (n s c : ℕ) (xs ys : List ℕ) (ranges : List (ℕ × ℕ)) (a : ℕ) → slice_get T s ≡ Some (Take ranges a) → IsInRanges ranges c → Adds (InRoom n (λ i. i ≡ a)) xs ys
    → Adds (InRoom n (Takes T s c)) xs ys
room_take T n s c xs ys ranges a is member adds = adds_same (InRoom n (λ i. i ≡ a)) (InRoom n (Takes T s c)) xs ys adds
    (λ i h. (record { ranges = ranges; at = is ∙ ap (λ (m : ℕ). Some (Take ranges m)) (sym h.0); member = member }, h.1))
    (λ i h.
    let at = h.0.at in
    let f : Some (Take h.0.ranges i) ≡ Some (Take ranges a) = sym at ∙ is in
    let same : i ≡ a = cc in
    (same, h.1))

-- ---- loops over a list of nodes

pub entered_none : (n : ℕ) (entries xs : List ℕ) → Adds (InRoom n (Contains (take 0 entries))) xs xs
entered_none n entries xs = adds_none (InRoom n (Contains (take 0 entries))) xs (λ i h. none_in i h.0)

pub entered_more : (n : ℕ) (entries : List ℕ) (k d : ℕ) (a b c : List ℕ) → k < length entries → Adds (InRoom n (Contains (take k entries))) a b
    → Adds (InRoom n (λ i. i ≡ get_or entries k d)) b c → Adds (InRoom n (Contains (take (k + 1) entries))) a c
entered_more n entries k d a b c below before one =
    let x : ℕ = get_or entries k d in
    rw (take_more entries k d below) (adds_both (InRoom n (Contains (take k entries))) (InRoom n (λ i. i ≡ x)) (InRoom n (Contains (take k entries ++ x ∷ []))) a b c before one
    (λ i h. (Contains-append_left (take k entries) (x ∷ []) i h.0, h.1))
    (λ i h. (subst (λ (u : ℕ). Contains (take k entries ++ x ∷ []) u) (sym h.0) (Contains-push (take k entries) x), h.1))
    (λ i h. ⊎_elim (λ w. inl (w, h.1)) (λ e. inr (sym e, h.1)) (Contains-push_cases (take k entries) x i h.0)))

pub went_none : (T : List Node) (n : ℕ) (set : List ℕ) (c : ℕ) (xs : List ℕ) → Adds (InRoom n (Moves T (take 0 set) c)) xs xs
went_none T n set c xs = adds_none (InRoom n (Moves T (take 0 set) c)) xs (λ i h. none_in h.0.from h.0.there)

pub went_more : (T : List Node) (n : ℕ) (set : List ℕ) (k d c : ℕ) (xs a b : List ℕ) → k < length set → Adds (InRoom n (Moves T (take k set) c)) xs a → Adds (InRoom n (Takes T (get_or set k d) c)) a b
    → Adds (InRoom n (Moves T (take (k + 1) set) c)) xs b
went_more T n set k d c xs a b below before one =
    let x : ℕ = get_or set k d in
    rw (take_more set k d below) (adds_both (InRoom n (Moves T (take k set) c)) (InRoom n (Takes T x c)) (InRoom n (Moves T (take k set ++ x ∷ []) c)) xs a b before one
    (λ i h. (record { from = h.0.from; there = Contains-append_left (take k set) (x ∷ []) h.0.from h.0.there; takes = h.0.takes }, h.1))
    (λ i h. (record { from = x; there = Contains-push (take k set) x; takes = h.0 }, h.1))
    (λ i h. ⊎_elim (λ w. inl (record { from = h.0.from; there = w; takes = h.0.takes }, h.1)) (λ e. inr (subst (λ (s : ℕ). Takes T s c i) (sym e) h.0.takes, h.1))
    (Contains-push_cases (take k set) x h.0.from h.0.there)))

pub closing_itself : (T : List Node) (n : ℕ) (kernel : List ℕ) → Closing (Onwards T n) kernel kernel 0
closing_itself T n kernel = record {
  sound = λ i h. given i h;
  base = λ i h. h;
  done = λ k i j below at e. absurd (omega arith);
}

-- ---- what the nodes of a set have read

module _ (T : List Node) (n : ℕ) (size : n ≡ length T) where
  splits_below : (s a : ℕ) → Splits T s a → s < n
  splits_below s a split = let w = slice_get_within T s (Split split.left split.right) split.at in omega arith

  takes_below : (s c a : ℕ) → Takes T s c a → s < n
  takes_below s c a take = let w = slice_get_within T s (Take take.ranges a) take.at in omega arith

  onwards_reads : (kernel : List ℕ) (k s : ℕ) (w : List ℕ) (t : ℕ) → ReadsOver T k s w t → w ≡ [] → t < n → (s < n → Least (Onwards T n) kernel s) → Least (Onwards T n) kernel t
  onwards_reads kernel _ _ _ _ (here k s) e lt h = h lt
  onwards_reads kernel _ _ _ _ (goes k s a t w split r) e lt h = onwards_reads kernel k a w t r e lt (λ below. asked s a (h (splits_below s a split)) (split, below))
  onwards_reads kernel _ _ _ _ (takes k s c a t w take r) e lt h = cc

  pub come_none : (entries kernel found : List ℕ) → Adds (InRoom n (Contains entries)) [] kernel → ((i : ℕ) → Contains found i ↔ Least (Onwards T n) kernel i)
      → (t : ℕ) → Contains found t ↔ (LeadsToNode T entries [] t × (t < length T))
  come_none entries kernel found kept closed t = ((λ h. from t ((closed t).0 h)), (λ h. (closed t).1 (to t h.0 (let lt = h.1 in omega arith))))
    where
      from : (t : ℕ) → Least (Onwards T n) kernel t → LeadsToNode T entries [] t × (t < length T)
      from t (given _ h) = let k = kept.only t (subst (λ (l : List ℕ). Contains l t) kept.is h) in ((t, k.0, (0, here 0 t)), (let lt = k.1 in omega arith))
      from t (asked s _ h split) = let r = from s h in ((r.0.0, r.0.1, (suc r.0.2.0, then_splits T r.0.2.0 r.0.0 [] s t r.0.2.1 split.0)), (let lt = split.1 in omega arith))

      to : (t : ℕ) → LeadsToNode T entries [] t → t < n → Least (Onwards T n) kernel t
      to t (e, there, (k, r)) lt = onwards_reads kernel k e [] t r refl lt (λ below. given e (kept.added e (there, below)))

  pub come_more : (first set kernel found : List ℕ) (w : List ℕ) (c : ℕ) → ((t : ℕ) → Contains set t ↔ (LeadsToNode T first w t × (t < length T))) → Adds (InRoom n (Moves T set c)) [] kernel
      → ((i : ℕ) → Contains found i ↔ Least (Onwards T n) kernel i) → (t : ℕ) → Contains found t ↔ (LeadsToNode T first (w ++ c ∷ []) t × (t < length T))
  come_more first set kernel found w c before kept closed t = ((λ h. from t ((closed t).0 h)), (λ h. (closed t).1 (to t h.0 (let lt = h.1 in omega arith))))
    where
      from : (t : ℕ) → Least (Onwards T n) kernel t → LeadsToNode T first (w ++ c ∷ []) t × (t < length T)
      from t (given _ h) =
          let k = kept.only t (subst (λ (l : List ℕ). Contains l t) kept.is h) in
          let m = k.0 in
          let r = (before m.from).0 m.there in
          ((r.0.0, r.0.1, (suc r.0.2.0, then_takes T r.0.2.0 r.0.0 w m.from c t r.0.2.1 m.takes)), (let lt = k.1 in omega arith))
      from t (asked s _ h split) = let r = from s h in ((r.0.0, r.0.1, (suc r.0.2.0, then_splits T r.0.2.0 r.0.0 (w ++ c ∷ []) s t r.0.2.1 split.0)), (let lt = split.1 in omega arith))

      to : (t : ℕ) → LeadsToNode T first (w ++ c ∷ []) t → t < n → Least (Onwards T n) kernel t
      to t (e, there, (k, r)) lt =
          let l = last_of T k e (w ++ c ∷ []) t r w c refl in
          let low = takes_below l.from c l.to l.takes in
          let has = (before l.from).1 ((e, there, l.before), (omega arith)) in
          onwards_reads kernel l.after.0 l.to [] t l.after.1 refl lt (λ below. given l.to (kept.added l.to (record { from = l.from; there = has; takes = l.takes }, below)))
