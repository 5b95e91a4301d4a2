-- Parts of an automaton, put together.
use Rattle.std.proofs.Common.{◌≡◌, ◌∙◌, sym, ap, subst, refl, ℕ, zero, suc, ◌⊎◌, inl, inr, List, [], ◌∷◌, ◌++◌, Option, Some, None, arith, append_assoc, slice_get}
use Rattle.std.proofs.lemmas.List.{append-nil}
use Rattle.ts_automata.specs.declared.node.Node.{Node}
use Rattle.ts_automata.specs.declared.node.Node.TheVariants.{Take, Split}
use Rattle.spec_lexing.specs.Words.{Regular, empty, never, one_of, both, either, repeat, IsInRanges, Times, Word, Front}
use Rattle.ts_automata.specs.Reads.{Splits, ReadsOver, here, goes, takes, LeadsOver}
use Rattle.ts_automata.specs.Grows.{Back, leaves, inside, ReadsWords, more}
use Rattle.ts_automata.proofs.RepeatLemmas.{front_empty, Alike, once_more}

module _ (T : List Node) (I : ℕ → Type 0) where
  pub more_steps : (n s : ℕ) (w : List ℕ) (t : ℕ) → ReadsOver T n s w t → ReadsOver T (suc n) s w t
  more_steps _ _ _ _ (here n s) = here (suc n) s
  more_steps _ _ _ _ (goes n s a t w split r) = goes (suc n) s a t w split (more_steps n a w t r)
  more_steps _ _ _ _ (takes n s c a t w take r) = takes (suc n) s c a t w take (more_steps n a w t r)

  pub stands_empty : (next : ℕ) → ReadsWords T I empty next next
  stands_empty next = record {
    word = λ n u v t e r. (n, subst (λ (l : List ℕ). ReadsOver T n next (l ++ v) t) (sym e) r);
    front = λ w e. (next, (0, subst (λ (l : List ℕ). ReadsOver T 0 next l next) (sym e) (here 0 next)));
    back = λ n w t r. leaves [] w refl refl r;
  }

  pub alike : (p q : Regular) (s next : ℕ) → Alike p q → ReadsWords T I p s next → ReadsWords T I q s next
  alike p q s next same st = record {
    word = λ n u v t word r. st.word n u v t ((same.words u).1 word) r;
    front = λ w f. st.front w ((same.fronts w).1 f);
    back = λ n w t r. turn n w t (st.back n w t r);
  }
    where
      turn : (n : ℕ) (w : List ℕ) (t : ℕ) → Back T I p next n w t → Back T I q next n w t
      turn n w t (leaves u v is word r) = leaves u v is ((same.words u).0 word) r
      turn n w t (inside f inner) = inside ((same.fronts w).0 f) inner

  pub stands_set : (s : ℕ) (ranges : List (ℕ × ℕ)) (next : ℕ) → I s → slice_get T s ≡ Some (Take ranges next) → ReadsWords T I (one_of ranges) s next
  stands_set s ranges next own at = record { word = forth; front = fronts; back = λ n w t r. backs n s w t r own at }
    where
      forth : (n : ℕ) (u v : List ℕ) (t : ℕ) → Word (one_of ranges) u → ReadsOver T n next v t → LeadsOver T s (u ++ v) t
      forth n u v t (c, is, member) r =
          (suc n, subst (λ (l : List ℕ). ReadsOver T (suc n) s (l ++ v) t) (sym is) (takes n s c next t v (record { ranges = ranges; at = at; member = member }) r))

      fronts : (w : List ℕ) → Front (one_of ranges) w → (t : ℕ) × LeadsOver T s w t
      fronts w (inl e) = (s, (0, subst (λ (l : List ℕ). ReadsOver T 0 s l s) (sym e) (here 0 s)))
      fronts w (inr (c, is, member)) =
          (next, (1, subst (λ (l : List ℕ). ReadsOver T 1 s l next) (sym is) (takes 0 s c next next [] (record { ranges = ranges; at = at; member = member }) (here 0 next))))

      backs : (n x : ℕ) (w : List ℕ) (t : ℕ) → ReadsOver T n x w t → I x → slice_get T x ≡ Some (Take ranges next) → Back T I (one_of ranges) next n w t
      backs _ _ _ _ (here n x) own at = inside (inl refl) own
      backs _ _ _ _ (goes n x a t w split r) own at = let e = split.at in let f : Some (Split split.left split.right) ≡ Some (Take ranges next) = sym e ∙ at in cc
      backs _ _ _ _ (takes n x c a t w take r) own at =
          let e : Some (Take take.ranges a) ≡ Some (Take ranges next) = sym take.at ∙ at in
          let same : take.ranges ≡ ranges = cc in
          let to : a ≡ next = cc in
          leaves (c ∷ []) w refl (c, refl, subst (λ (l : List (ℕ × ℕ)). IsInRanges l c) same take.member)
          (more_steps n next w t (subst (λ (m : ℕ). ReadsOver T n m w t) to r))

  -- a node that takes nothing at all
  pub stands_never : (s next : ℕ) (to : ℕ) → I s → slice_get T s ≡ Some (Take [] to) → ReadsWords T I never s next
  stands_never s next to own at = record {
    word = λ n u v t word r. absurd word;
    front = λ w e. (s, (0, subst (λ (l : List ℕ). ReadsOver T 0 s l s) (sym e) (here 0 s)));
    back = λ n w t r. backs n s w t r own at;
  }
    where
      backs : (n x : ℕ) (w : List ℕ) (t : ℕ) → ReadsOver T n x w t → I x → slice_get T x ≡ Some (Take [] to) → Back T I never next n w t
      backs _ _ _ _ (here n x) own at = inside refl own
      backs _ _ _ _ (goes n x a t w split r) own at = let f : Some (Split split.left split.right) ≡ Some (Take [] to) = sym split.at ∙ at in cc
      backs _ _ _ _ (takes n x c a t w take r) own at =
          let e : Some (Take take.ranges a) ≡ Some (Take [] to) = sym take.at ∙ at in
          let same : take.ranges ≡ [] = cc in
          absurd (none c (subst (λ (l : List (ℕ × ℕ)). IsInRanges l c) same take.member))
        where
          none : (c : ℕ) → IsInRanges [] c → ⊥
          none c h = let lt = h.2 in omega arith

  pub stands_both : (p q : Regular) (s mid next : ℕ) → ReadsWords T I p s mid → ReadsWords T I q mid next → ReadsWords T I (both p q) s next
  stands_both p q s mid next first second = record { word = forth; front = fronts; back = λ n w t r. backs n w t (first.back n w t r) }
    where
      forth : (n : ℕ) (u v : List ℕ) (t : ℕ) → Word (both p q) u → ReadsOver T n next v t → LeadsOver T s (u ++ v) t
      forth n u v t (a, b, is, one, two) r =
          let later = second.word n b v t two r in
          let all = first.word later.0 a (b ++ v) t one later.1 in
          (all.0, subst (λ (l : List ℕ). ReadsOver T all.0 s l t) (sym (append_assoc a b v) ∙ ap (λ (l : List ℕ). l ++ v) (sym is)) all.1)

      fronts : (w : List ℕ) → Front (both p q) w → (t : ℕ) × LeadsOver T s w t
      fronts w (inl f) = first.front w f
      fronts w (inr (u, v, is, one, f)) =
          let later = second.front v f in
          let all = first.word later.1.0 u v later.0 one later.1.1 in
          (later.0, (all.0, subst (λ (l : List ℕ). ReadsOver T all.0 s l later.0) (sym is) all.1))

      ends : (n : ℕ) (w u v : List ℕ) (t : ℕ) → w ≡ u ++ v → Word p u → Back T I q next n v t → Back T I (both p q) next n w t
      ends n w u v t is one (leaves a b and two r) =
          leaves (u ++ a) b (is ∙ ap (λ (l : List ℕ). u ++ l) and ∙ sym (append_assoc u a b)) (u, a, refl, one, two) r
      ends n w u v t is one (inside f inner) = inside (inr (u, v, is, one, f)) inner

      backs : (n : ℕ) (w : List ℕ) (t : ℕ) → Back T I p mid n w t → Back T I (both p q) next n w t
      backs n w t (leaves u v is one r) = ends n w u v t is one (second.back n v t r)
      backs n w t (inside f inner) = inside (inl f) inner

  pub stands_either : (p q : Regular) (s l r next : ℕ) → I s → slice_get T s ≡ Some (Split l r) → ReadsWords T I p l next → ReadsWords T I q r next → ReadsWords T I (either p q) s next
  stands_either p q s l r next own at one two = record { word = forth; front = fronts; back = λ n w t h. backs n s w t h own at }
    where
      to_left : Splits T s l
      to_left = record { left = l; right = r; at = at; way = inl refl }

      to_right : Splits T s r
      to_right = record { left = l; right = r; at = at; way = inr refl }

      forth : (n : ℕ) (u v : List ℕ) (t : ℕ) → Word (either p q) u → ReadsOver T n next v t → LeadsOver T s (u ++ v) t
      forth n u v t (inl word) h = let m = one.word n u v t word h in (suc m.0, goes m.0 s l t (u ++ v) to_left m.1)
      forth n u v t (inr word) h = let m = two.word n u v t word h in (suc m.0, goes m.0 s r t (u ++ v) to_right m.1)

      fronts : (w : List ℕ) → Front (either p q) w → (t : ℕ) × LeadsOver T s w t
      fronts w (inl f) = let m = one.front w f in (m.0, (suc m.1.0, goes m.1.0 s l m.0 w to_left m.1.1))
      fronts w (inr f) = let m = two.front w f in (m.0, (suc m.1.0, goes m.1.0 s r m.0 w to_right m.1.1))

      from_left : (n : ℕ) (w : List ℕ) (t : ℕ) → Back T I p next n w t → Back T I (either p q) next (suc n) w t
      from_left n w t (leaves u v is word h) = leaves u v is (inl word) (more_steps n next v t h)
      from_left n w t (inside f inner) = inside (inl f) inner

      from_right : (n : ℕ) (w : List ℕ) (t : ℕ) → Back T I q next n w t → Back T I (either p q) next (suc n) w t
      from_right n w t (leaves u v is word h) = leaves u v is (inr word) (more_steps n next v t h)
      from_right n w t (inside f inner) = inside (inr f) inner

      turn : (n a : ℕ) (w : List ℕ) (t : ℕ) → (a ≡ l) ⊎ (a ≡ r) → ReadsOver T n a w t → Back T I (either p q) next (suc n) w t
      turn n a w t (inl e) h = from_left n w t (one.back n w t (subst (λ (m : ℕ). ReadsOver T n m w t) e h))
      turn n a w t (inr e) h = from_right n w t (two.back n w t (subst (λ (m : ℕ). ReadsOver T n m w t) e h))

      which : (a x y : ℕ) → (a ≡ x) ⊎ (a ≡ y) → x ≡ l → y ≡ r → (a ≡ l) ⊎ (a ≡ r)
      which a x y (inl e) left right = inl (e ∙ left)
      which a x y (inr e) left right = inr (e ∙ right)

      backs : (n x : ℕ) (w : List ℕ) (t : ℕ) → ReadsOver T n x w t → I x → slice_get T x ≡ Some (Split l r) → Back T I (either p q) next n w t
      backs _ _ _ _ (here n x) own at = inside (inl (front_empty p)) own
      backs _ _ _ _ (goes n x a t w split h) own at =
          let e : Some (Split split.left split.right) ≡ Some (Split l r) = sym split.at ∙ at in
          let left : split.left ≡ l = cc in
          let right : split.right ≡ r = cc in
          turn n a w t (which a split.left split.right split.way left right) h
      backs _ _ _ _ (takes n x c a t w take h) own at = let f : Some (Take take.ranges a) ≡ Some (Split l r) = sym take.at ∙ at in cc

  pub stands_star : (p : Regular) (s body next : ℕ) → I s → slice_get T s ≡ Some (Split body next) → ReadsWords T I p body s → ReadsWords T I (repeat p 0 None) s next
  stands_star p s body next own at one = record { word = forth; front = fronts; back = backs }
    where
      to_body : Splits T s body
      to_body = record { left = body; right = next; at = at; way = inl refl }

      to_next : Splits T s next
      to_next = record { left = body; right = next; at = at; way = inr refl }

      round : (k n : ℕ) (u v : List ℕ) (t : ℕ) → Times (Word p) k u → ReadsOver T n s v t → LeadsOver T s (u ++ v) t
      round zero n u v t e h = (n, subst (λ (l : List ℕ). ReadsOver T n s (l ++ v) t) (sym e) h)
      round (suc k) n u v t (a, b, is, word, words) h =
          let later = round k n b v t words h in
          let all = one.word later.0 a (b ++ v) t word later.1 in (
            suc all.0,
            subst (λ (l : List ℕ). ReadsOver T (suc all.0) s l t) (sym (append_assoc a b v) ∙ ap (λ (l : List ℕ). l ++ v) (sym is))
                (goes all.0 s body t (a ++ (b ++ v)) to_body all.1),
          )

      forth : (n : ℕ) (u v : List ℕ) (t : ℕ) → Word (repeat p 0 None) u → ReadsOver T n next v t → LeadsOver T s (u ++ v) t
      forth n u v t (k, low, high, words) h = round k (suc n) u v t words (goes n s next t v to_next h)

      fronts : (w : List ℕ) → Front (repeat p 0 None) w → (t : ℕ) × LeadsOver T s w t
      fronts w (inl e) = (s, (0, subst (λ (l : List ℕ). ReadsOver T 0 s l s) (sym e) (here 0 s)))
      fronts w (inr (k, high, u, v, is, words, f)) =
          let last = one.front v f in
          let all = round k (suc last.1.0) u v last.0 words (goes last.1.0 s body last.0 v to_body last.1.1) in
          (last.0, (all.0, subst (λ (l : List ℕ). ReadsOver T all.0 s l last.0) (sym is) all.1))

      further : (u v : List ℕ) → Word p u → Front (repeat p 0 None) v → Front (repeat p 0 None) (u ++ v)
      further u v word (inl e) = inr (1, tt, u, v, refl, (u, [], sym (append-nil u), word, refl), subst (λ (l : List ℕ). Front p l) (sym e) (front_empty p))
      further u v word (inr (k, high, a, b, is, words, f)) =
          inr (suc k, tt, u ++ a, b, ap (λ (l : List ℕ). u ++ l) is ∙ sym (append_assoc u a b), (u, a, refl, word, words), f)

      onwards : (n : ℕ) (w u v : List ℕ) (t : ℕ) → w ≡ u ++ v → Word p u → Back T I (repeat p 0 None) next n v t → Back T I (repeat p 0 None) next (suc n) w t
      onwards n w u v t is word (leaves a b and (k, low, high, words) h) =
          leaves (u ++ a) b (is ∙ ap (λ (l : List ℕ). u ++ l) and ∙ sym (append_assoc u a b)) (suc k, (omega arith), tt, (u, a, refl, word, words)) (more_steps n next b t h)
      onwards n w u v t is word (inside f inner) = inside (subst (λ (l : List ℕ). Front (repeat p 0 None) l) (sym is) (further u v word f)) inner

      way_of : (a x y : ℕ) → (a ≡ x) ⊎ (a ≡ y) → x ≡ body → y ≡ next → (a ≡ body) ⊎ (a ≡ next)
      way_of a x y (inl e) left right = inl (e ∙ left)
      way_of a x y (inr e) left right = inr (e ∙ right)

      -- after the first word the rest is read from the same node, in fewer steps
      turn : (n : ℕ) (w : List ℕ) (t : ℕ) → ((v : List ℕ) → ReadsOver T n s v t → Back T I (repeat p 0 None) next n v t) → Back T I p s n w t → Back T I (repeat p 0 None) next (suc n) w t
      turn n w t again (leaves u v is word h) = onwards n w u v t is word (again v h)
      turn n w t again (inside f inner) = inside (inr (0, tt, [], w, refl, refl, f)) inner

      either_way : (n a : ℕ) (w : List ℕ) (t : ℕ) → ((v : List ℕ) → ReadsOver T n s v t → Back T I (repeat p 0 None) next n v t) → (a ≡ body) ⊎ (a ≡ next) → ReadsOver T n a w t
          → Back T I (repeat p 0 None) next (suc n) w t
      either_way n a w t again (inl e) h = turn n w t again (one.back n w t (subst (λ (m : ℕ). ReadsOver T n m w t) e h))
      either_way n a w t again (inr e) h = leaves [] w refl (0, (omega arith), tt, refl) (more_steps n next w t (subst (λ (m : ℕ). ReadsOver T n m w t) e h))

      step : (n m x : ℕ) (w : List ℕ) (t : ℕ) → ((v : List ℕ) → ReadsOver T n s v t → Back T I (repeat p 0 None) next n v t) → ReadsOver T m x w t → m ≡ suc n → x ≡ s
          → Back T I (repeat p 0 None) next (suc n) w t
      step n _ _ _ _ again (here m x) count e = inside (inl refl) (subst I (sym e) own)
      step n _ _ _ _ again (goes m x a t w split h) count e =
          let f : Some (Split split.left split.right) ≡ Some (Split body next) = sym split.at ∙ ap (λ (y : ℕ). slice_get T y) e ∙ at in
          let fewer : m ≡ n = omega arith in
          let left : split.left ≡ body = cc in
          let right : split.right ≡ next = cc in
          either_way n a w t again (way_of a split.left split.right split.way left right) (subst (λ (y : ℕ). ReadsOver T y a w t) fewer h)
      step n _ _ _ _ again (takes m x c a t w take h) count e =
          let f : Some (Take take.ranges a) ≡ Some (Split body next) = sym take.at ∙ ap (λ (y : ℕ). slice_get T y) e ∙ at in cc

      start : (m x : ℕ) (w : List ℕ) (t : ℕ) → ReadsOver T m x w t → m ≡ 0 → x ≡ s → Back T I (repeat p 0 None) next 0 w t
      start _ _ _ _ (here m x) count e = inside (inl refl) (subst I (sym e) own)
      start _ _ _ _ (goes m x a t w split h) count e = absurd (omega arith)
      start _ _ _ _ (takes m x c a t w take h) count e = absurd (omega arith)

      backs : (n : ℕ) (w : List ℕ) (t : ℕ) → ReadsOver T n s w t → Back T I (repeat p 0 None) next n w t
      backs zero w t h = start 0 s w t h refl refl
      backs (suc n) w t h = step n (suc n) s w t (λ v r. backs n v t r) h refl refl

  pub stands_more : (p : Regular) (s mid next least : ℕ) (most : Option ℕ) → ReadsWords T I p s mid → ReadsWords T I (repeat p least most) mid next → ReadsWords T I (repeat p (suc least) (more most)) s next
  stands_more p s mid next least most one rest =
      alike (both p (repeat p least most)) (repeat p (suc least) (more most)) s next (once_more p least most) (stands_both p (repeat p least most) s mid next one rest)

-- more nodes inside
pub stands_wider : (T : List Node) (I J : ℕ → Type 0) (p : Regular) (s next : ℕ) → ((t : ℕ) → I t → J t) → ReadsWords T I p s next → ReadsWords T J p s next
stands_wider T I J p s next wider st = record { word = st.word; front = st.front; back = λ n w t r. turn n w t (st.back n w t r) }
  where
    turn : (n : ℕ) (w : List ℕ) (t : ℕ) → Back T I p next n w t → Back T J p next n w t
    turn n w t (leaves u v is word r) = leaves u v is word r
    turn n w t (inside f own) = inside f (wider t own)
