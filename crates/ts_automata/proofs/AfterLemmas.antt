-- One character more.
use Rattle.std.proofs.Common.{◌≡◌, refl, subst, ℕ, suc, List, [], ◌∷◌, ◌++◌, ◌↔◌}
use Rattle.std.specs.List.{Contains}
use Rattle.ts_automata.specs.declared.node.Node.{Node}
use Rattle.ts_automata.specs.Reads.{Takes, Splits, ReadsOver, here, goes, takes, LeadsOver}
use Rattle.ts_automata.specs.Sets.{given, asked, Closure, IsFirst, IsNextSet}
use Rattle.ts_automata.specs.After.{LeadsToNode, After, Alike}

module _ (T : List Node) where
  -- a step at the end
  pub then_splits : (n s : ℕ) (w : List ℕ) (t u : ℕ) → ReadsOver T n s w t → Splits T t u → ReadsOver T (suc n) s w u
  then_splits _ _ _ _ u (here n s) split = goes n s u u [] split (here n u)
  then_splits _ _ _ _ u (goes n s a t w one r) split = goes (suc n) s a u w one (then_splits n a w t u r split)
  then_splits _ _ _ _ u (takes n s c a t w one r) split = takes (suc n) s c a u w one (then_splits n a w t u r split)

  pub then_takes : (n s : ℕ) (w : List ℕ) (t c u : ℕ) → ReadsOver T n s w t → Takes T t c u → ReadsOver T (suc n) s (w ++ c ∷ []) u
  then_takes _ _ _ _ c u (here n s) take = takes n s c u u [] take (here n u)
  then_takes _ _ _ _ c u (goes n s a t w one r) take = goes (suc n) s a u (w ++ c ∷ []) one (then_takes n a w t c u r take)
  then_takes _ _ _ _ c u (takes n s d a t w one r) take = takes (suc n) s d a u (w ++ c ∷ []) one (then_takes n a w t c u r take)

  -- what goes on from a closed set is in it
  pub closed_reads : (kernel : List ℕ) (n s : ℕ) (w : List ℕ) (t : ℕ) → ReadsOver T n s w t → w ≡ [] → Closure T kernel s → Closure T kernel t
  closed_reads kernel _ _ _ _ (here n s) e h = h
  closed_reads kernel _ _ _ _ (goes n s a t w split r) e h = closed_reads kernel n a w t r e (asked s a h split)
  closed_reads kernel _ _ _ _ (takes n s c a t w take r) e h = cc

  pub closed_comes : (kernel : List ℕ) (t : ℕ) → Closure T kernel t ↔ LeadsToNode T kernel [] t
  closed_comes kernel t = ((λ h. from t h), (λ h. closed_reads kernel h.2.0 h.0 [] t h.2.1 refl (given h.0 h.1)))
    where
      from : (t : ℕ) → Closure T kernel t → LeadsToNode T kernel [] t
      from t (given _ h) = (t, h, (0, here 0 t))
      from t (asked s _ h split) = let r = from s h in (r.0, r.1, (suc r.2.0, then_splits r.2.0 r.0 [] s t r.2.1 split))

  -- the last character that was read
  pub record Last (s : ℕ) (w : List ℕ) (c t : ℕ) : Type 0 where
    pub from : ℕ
    pub to : ℕ
    pub before : LeadsOver T s w from
    pub takes : Takes T from c to
    pub after : LeadsOver T to [] t

  nil_of : (c : ℕ) (w : List ℕ) → [] ≡ w ++ c ∷ [] → ⊥
  nil_of c [] e = cc
  nil_of c (x ∷ w) e = cc

  pub last_of : (n s : ℕ) (v : List ℕ) (t : ℕ) → ReadsOver T n s v t → (w : List ℕ) (c : ℕ) → v ≡ w ++ c ∷ [] → Last s w c t
  last_of _ _ _ _ (here n s) w c e = absurd (nil_of c w e)
  last_of _ _ _ _ (goes n s a t v split r) w c e =
      let l = last_of n a v t r w c e in
      record { from = l.from; to = l.to; before = (suc l.before.0, goes l.before.0 s a l.from w split l.before.1); takes = l.takes; after = l.after }
  last_of _ _ _ _ (takes n s d a t v take r) [] c e =
      let same : d ≡ c = cc in
      let none : v ≡ [] = cc in
      record { from = s; to = a; before = (0, here 0 s); takes = subst (λ (x : ℕ). Takes T s x a) same take; after = (n, subst (λ (l : List ℕ). ReadsOver T n a l t) none r) }
  last_of _ _ _ _ (takes n s d a t v take r) (x ∷ w) c e =
      let same : d ≡ x = cc in
      let rest : v ≡ w ++ c ∷ [] = cc in
      let l = last_of n a v t r w c rest in
      record { from = l.from; to = l.to; before = (suc l.before.0, takes l.before.0 s x a l.from w (subst (λ (y : ℕ). Takes T s y a) same take) l.before.1); takes = l.takes; after = l.after }

  pub none_holds : (kernel : List ℕ) (sets : List (List ℕ)) (n : ℕ) → (first : IsFirst T sets kernel n) → (t : ℕ) → Contains first.set t ↔ LeadsToNode T kernel [] t
  none_holds kernel sets n first t = ((λ h. (closed_comes kernel t).0 ((first.closed t).0 h)), (λ h. (first.closed t).1 ((closed_comes kernel t).1 h)))

  abbrev pub after_none : (kernel : List ℕ) (sets : List (List ℕ)) (n : ℕ) → IsFirst T sets kernel n → After T kernel sets [] n
  after_none kernel sets n first = record {
    set = first.set;
    at = first.at;
    holds = none_holds kernel sets n first;
  }

  pub more_holds : (first : List ℕ) (sets : List (List ℕ)) (w : List ℕ) (n c d m : ℕ) → (before : After T first sets w n) → Alike T c d → (next : IsNextSet T sets before.set d m) → (t : ℕ) → Contains next.set t ↔ LeadsToNode T first (w ++ c ∷ []) t
  more_holds first sets w n c d m before same next t = (from t, to t)
    where
      moved : (t : ℕ) → Closure T next.kernel t → LeadsToNode T first (w ++ c ∷ []) t
      moved t (given _ h) =
          let m = (next.moves t).0 h in
          let r = (before.holds m.from).0 m.there in
          (r.0, r.1, (suc r.2.0, then_takes r.2.0 r.0 w m.from c t r.2.1 ((same m.from t).1 m.takes)))
      moved t (asked s _ h split) = let r = moved s h in (r.0, r.1, (suc r.2.0, then_splits r.2.0 r.0 (w ++ c ∷ []) s t r.2.1 split))

      from : (t : ℕ) → Contains next.set t → LeadsToNode T first (w ++ c ∷ []) t
      from t h = moved t ((next.closed t).0 h)

      to : (t : ℕ) → LeadsToNode T first (w ++ c ∷ []) t → Contains next.set t
      to t (e, there, (k, r)) =
          let l = last_of k e (w ++ c ∷ []) t r w c refl in
          let has = (before.holds l.from).1 (e, there, l.before) in
          let moves = (next.moves l.to).1 (record { from = l.from; there = has; takes = (same l.from l.to).0 l.takes }) in
          (next.closed t).1 (closed_reads next.kernel l.after.0 l.to [] t l.after.1 refl (given l.to moves))

  abbrev pub after_more : (first : List ℕ) (sets : List (List ℕ)) (w : List ℕ) (n c d m : ℕ) → (before : After T first sets w n) → Alike T c d → IsNextSet T sets before.set d m → After T first sets (w ++ c ∷ []) m
  after_more first sets w n c d m before same next = record { set = next.set; at = next.at; holds = more_holds first sets w n c d m before same next }
