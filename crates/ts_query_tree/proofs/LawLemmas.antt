-- A text spells one query at most, and has one fault at most.
use Rattle.std.proofs.Common.{◌≡◌, ◌≢◌, ◌⊎◌, ℕ, List, [], ◌∷◌, ◌++◌, length, Some, None, refl, sym, ap, subst, ◌∙◌, append-nil, arith, inl, inr}
use Rattle.std.proofs.lemmas.List.{append_assoc}
use Rattle.std.proofs.lemmas.Option.{none-some, same_Some, slice_get_cases}
use Rattle.ts_base.specs.Bytes.{Bytes}
use Rattle.ts_query_tree.specs.declared.fault.TreeFault.{TreeFault}
use Rattle.ts_query_tree.specs.declared.fault.TreeFault.TheVariants as fault
use Rattle.ts_query_tree.specs.declared.sight.Sight.TheVariants.{Sees, Cut, Strange}
use Rattle.ts_query_tree.specs.declared.sign.Sign.{Sign}
use Rattle.ts_query_tree.specs.declared.level.Bracket.{Bracket}
use Rattle.ts_query_tree.specs.declared.level.Bracket.TheVariants.{Top, Opened, Inside}
use Rattle.ts_query_tree.specs.declared.level.Pending.{Pending}
use Rattle.ts_query_tree.specs.declared.level.Pending.TheVariants as pending
use Rattle.ts_query_tree.specs.declared.tree.Part.{Part as Value}
use Rattle.ts_query_tree.specs.Words.{gap_end}
use Rattle.ts_query_tree.specs.Signs.{sight, sight_of}
use Rattle.ts_query_tree.specs.Trees.{Parts, spelling, values_of}
use Rattle.ts_query_tree.specs.Reads.{Signs, IsQueryTree, IsQueryText, StayShallow, Reads, Begins, GoesWrong, strange, misplaced, misplaced_cut, nameless, ends, OpensTooDeep, Stops, IsFault}
use Rattle.ts_query_tree.specs.Machine.{Open, run_from, start, finished}
use Rattle.ts_query_tree.proofs.Shapes.{Shape, shape, level_at, open_at, spelled, Formed}
use Rattle.ts_query_tree.proofs.ShapeLemmas.{flushed_all}
use Rattle.ts_query_tree.proofs.RunLemmas.{run_query}
use Rattle.ts_query_tree.proofs.CloseLemmas.{reaches}
use Rattle.ts_query_tree.proofs.DepthLemmas.{shallow_front}

-- ---- whole queries

-- what is finished is a query
pub record IsWhole (ss : List Sign) (xs : List Value) : Type 0 where
  pub query : Parts
  pub is : IsQueryTree query
  pub spells : spelling query ≡ ss
  pub value : xs ≡ values_of query

whole_shape : (b : Bracket) (ps : Parts) (p : Pending) (os : List Shape) (ss : List Sign) (xs : List Value) → Formed (shape b ps p) os → spelled (shape b ps p) os ≡ ss →
    finished (level_at (shape b ps p) os) ≡ Some xs → IsWhole ss xs
whole_shape Top ps pending.Nothing [] ss xs f signs e = record {
  query = ps;
  is = f.here.parts;
  spells = sym (append-nil (spelling ps)) ∙ signs;
  value = sym (same_Some _ _ e) ∙ flushed_all ps;
}
whole_shape Top ps pending.Nothing (r ∷ os) ss xs f signs e = absurd f.here.link
whole_shape Top ps (pending.Name w) os ss xs f signs e = absurd (none-some xs e)
whole_shape Top ps (pending.Field w) os ss xs f signs e = absurd (none-some xs e)
whole_shape Top ps (pending.Predicate w ops) os ss xs f signs e = absurd (none-some xs e)
whole_shape Opened ps p os ss xs f signs e = absurd (none-some xs e)
whole_shape (Inside h) ps p os ss xs f signs e = absurd (none-some xs e)

whole_inner : (x : Shape) (os : List Shape) (ss : List Sign) (xs : List Value) → Formed x os → spelled x os ≡ ss → finished (level_at x os) ≡ Some xs → IsWhole ss xs
whole_inner (shape b ps p) os ss xs f signs e = whole_shape b ps p os ss xs f signs e

pub whole : (ss : List Sign) (z : Open) (xs : List Value) → run_from start ss ≡ Some z → finished z.0 ≡ Some xs → IsWhole ss xs
whole ss z xs run e =
    let r = reaches ss z run in
    whole_inner r.inner r.round ss xs r.formed r.spells (subst (λ (y : Open). finished y.0 ≡ Some xs) r.same e)

ran_whole : (ss : List Sign) (z : Open) (q : Parts) → run_from start ss ≡ Some z → IsQueryTree q → spelling q ≡ ss → finished z.0 ≡ Some (values_of q)
ran_whole ss z q run is e =
    let same : z ≡ open_at (shape Top q pending.Nothing) [] = same_Some _ _ (sym run ∙ ap (run_from start) (sym e) ∙ run_query q is) in
    ap (λ (y : Open). finished y.0) same ∙ ap (λ (xs : List Value). Some xs) (flushed_all q)

pub unfinished : (ss : List Sign) (z : Open) → run_from start ss ≡ Some z → finished z.0 ≡ None → (q : Parts) → IsQueryTree q → spelling q ≡ ss → ⊥
unfinished ss z run n q is e = none-some (values_of q) (sym n ∙ ran_whole ss z q run is e)

one_spelled : (p q : Parts) → IsQueryTree p → IsQueryTree q → spelling p ≡ spelling q → values_of p ≡ values_of q
one_spelled p q a b e =
    same_Some _ _ (sym (ran_whole (spelling q) (open_at (shape Top q pending.Nothing) []) p (run_query q b) a e) ∙ ran_whole (spelling q) (open_at (shape Top q pending.Nothing) []) q (run_query q b) b refl)

-- ---- what is seen at a place

module _ (w : Bytes) where
  pub at_end : (i : ℕ) → i ≡ length w → sight w i ≡ Strange
  at_end i e = elim (slice_get_cases w i).1 [
    | inl x ↦ let lt = x.1 in absurd (omega (arith, lt, e))
    | inr x ↦ ap (sight_of w i) x.1
  ]

  sees_strange : (i : ℕ) (s : Sign) (j : ℕ) → sight w i ≡ Sees s j → sight w i ≡ Strange → ⊥
  sees_strange i s j a b = let e : Sees s j ≡ Strange = sym a ∙ b in cc

  cut_strange : (i : ℕ) (s : Sign) (j : ℕ) → sight w i ≡ Cut s j → sight w i ≡ Strange → ⊥
  cut_strange i s j a b = let e : Cut s j ≡ Strange = sym a ∙ b in cc

  sees_cut : (i : ℕ) (s t : Sign) (j k : ℕ) → sight w i ≡ Sees s j → sight w i ≡ Cut t k → ⊥
  sees_cut i s t j k a b = let e : Sees s j ≡ Cut t k = sym a ∙ b in cc

  one_seen : (i : ℕ) (s t : Sign) (j k : ℕ) → sight w i ≡ Sees s j → sight w i ≡ Sees t k → (s ≡ t) × (j ≡ k)
  one_seen i s t j k a b = let e : Sees s j ≡ Sees t k = sym a ∙ b in (cc, cc)

  one_cut : (i : ℕ) (s t : Sign) (j k : ℕ) → sight w i ≡ Cut s j → sight w i ≡ Cut t k → (s ≡ t) × (j ≡ k)
  one_cut i s t j k a b = let e : Cut s j ≡ Cut t k = sym a ∙ b in (cc, cc)

  -- the second list goes on behind the first
  record GoesOn (ss ts : List Sign) (j : ℕ) : Type 0 where
    sign : Sign
    rest : List Sign
    behind : ℕ
    there : sight w (gap_end w j) ≡ Sees sign behind
    is : ts ≡ ss ++ sign ∷ rest

  goes_on_more : (s : Sign) (ss ts : List Sign) (j : ℕ) → GoesOn ss ts j → GoesOn (s ∷ ss) (s ∷ ts) j
  goes_on_more s ss ts j g = record { sign = g.sign; rest = g.rest; behind = g.behind; there = g.there; is = ap (λ (us : List Sign). s ∷ us) g.is }

  -- two lists of signs that lead from one place
  data Compared (ss ts : List Sign) (j k : ℕ) : Type 0 where
    same : ss ≡ ts → j ≡ k → Compared ss ts j k
    first_on : GoesOn ts ss k → Compared ss ts j k
    second_on : GoesOn ss ts j → Compared ss ts j k

  compared_more : (s : Sign) (ss ts : List Sign) (j k : ℕ) → Compared ss ts j k → Compared (s ∷ ss) (s ∷ ts) j k
  compared_more s ss ts j k (same a b) = same (ap (λ (us : List Sign). s ∷ us) a) b
  compared_more s ss ts j k (first_on g) = first_on (goes_on_more s ts ss k g)
  compared_more s ss ts j k (second_on g) = second_on (goes_on_more s ss ts j g)

  compared : (ss ts : List Sign) (i j k : ℕ) → Signs w i ss j → Signs w i ts k → Compared ss ts j k
  compared [] [] i j k a b = same refl (sym a ∙ b)
  compared [] (t ∷ ts) i j k a b = second_on (record { sign = t; rest = ts; behind = b.0; there = subst (λ (n : ℕ). sight w (gap_end w n) ≡ Sees t b.0) a b.1; is = refl })
  compared (s ∷ ss) [] i j k a b = first_on (record { sign = s; rest = ss; behind = a.0; there = subst (λ (n : ℕ). sight w (gap_end w n) ≡ Sees s a.0) b a.1; is = refl })
  compared (s ∷ ss) (t ∷ ts) i j k a b =
      let e = one_seen (gap_end w i) s t a.0 b.0 a.1 b.1 in
      subst (λ (u : Sign). Compared (s ∷ ss) (u ∷ ts) j k) e.0
      (compared_more s ss ts j k (compared ss ts a.0 j k a.2 (subst (λ (n : ℕ). Signs w n ts k) (sym e.1) b.2)))

  -- ---- where a text goes wrong

  begins_front : (ss : List Sign) (t : Sign) (rest : List Sign) → Begins (ss ++ t ∷ rest) → Begins (ss ++ t ∷ [])
  begins_front ss t rest b = (rest ++ b.0, b.1, b.2, b.3 ∙ append_assoc ss (t ∷ rest) b.0 ∙ sym (append_assoc ss (t ∷ []) (rest ++ b.0)))

  -- no text goes wrong where it goes on as a query
  right : (ss : List Sign) (i p : ℕ) (s : Sign) (n : ℕ) → GoesWrong w ss i p → sight w i ≡ Sees s n → Begins (ss ++ s ∷ []) → ⊥
  right ss i _ s n (strange lt e) there b = sees_strange i s n there e
  right ss i _ s n (misplaced t j e no_query) there b = no_query (subst (λ (u : Sign). Begins (ss ++ u ∷ [])) (one_seen i s t n j there e).0 b)
  right ss i _ s n (misplaced_cut t j e no_query) there b = sees_cut i s t n j there e
  right ss i _ s n (nameless t j e begins) there b = sees_cut i s t n j there e
  right ss i _ s n (ends e no_query) there b = sees_strange i s n there (at_end i e)

  right_end : (ss : List Sign) (i p : ℕ) (q : Parts) → GoesWrong w ss i p → i ≡ length w → IsQueryTree q → spelling q ≡ ss → ⊥
  right_end ss i _ q (strange lt e) end is signs = omega (arith, lt, end)
  right_end ss i _ q (misplaced t j e no_query) end is signs = sees_strange i t j e (at_end i end)
  right_end ss i _ q (misplaced_cut t j e no_query) end is signs = cut_strange i t j e (at_end i end)
  right_end ss i _ q (nameless t j e begins) end is signs = cut_strange i t j e (at_end i end)
  right_end ss i _ q (ends e no_query) end is signs = no_query q is signs

  one_wrong : (ss : List Sign) (i p q : ℕ) → GoesWrong w ss i p → GoesWrong w ss i q → p ≡ q
  one_wrong ss i _ _ (strange lt e) (strange mt f) = refl
  one_wrong ss i _ _ (strange lt e) (misplaced t k f n) = refl
  one_wrong ss i _ _ (strange lt e) (misplaced_cut t k f n) = refl
  one_wrong ss i _ _ (strange lt e) (nameless t k f b) = absurd (cut_strange i t k f e)
  one_wrong ss i _ _ (strange lt e) (ends f n) = refl
  one_wrong ss i _ _ (misplaced s j e m) (strange mt f) = refl
  one_wrong ss i _ _ (misplaced s j e m) (misplaced t k f n) = refl
  one_wrong ss i _ _ (misplaced s j e m) (misplaced_cut t k f n) = refl
  one_wrong ss i _ _ (misplaced s j e m) (nameless t k f b) = absurd (sees_cut i s t j k e f)
  one_wrong ss i _ _ (misplaced s j e m) (ends f n) = refl
  one_wrong ss i _ _ (misplaced_cut s j e m) (strange mt f) = refl
  one_wrong ss i _ _ (misplaced_cut s j e m) (misplaced t k f n) = refl
  one_wrong ss i _ _ (misplaced_cut s j e m) (misplaced_cut t k f n) = refl
  one_wrong ss i _ _ (misplaced_cut s j e m) (nameless t k f b) = absurd (m (subst (λ (u : Sign). Begins (ss ++ u ∷ [])) (one_cut i t s k j f e).0 b))
  one_wrong ss i _ _ (misplaced_cut s j e m) (ends f n) = refl
  one_wrong ss i _ _ (nameless s j e b) (strange mt f) = absurd (cut_strange i s j e f)
  one_wrong ss i _ _ (nameless s j e b) (misplaced t k f n) = absurd (sees_cut i t s k j f e)
  one_wrong ss i _ _ (nameless s j e b) (misplaced_cut t k f n) = absurd (n (subst (λ (u : Sign). Begins (ss ++ u ∷ [])) (one_cut i s t j k e f).0 b))
  one_wrong ss i _ _ (nameless s j e b) (nameless t k f c) = (one_cut i s t j k e f).1
  one_wrong ss i _ _ (nameless s j e b) (ends f n) = absurd (cut_strange i s j e (at_end i f))
  one_wrong ss i _ _ (ends e m) (strange mt f) = refl
  one_wrong ss i _ _ (ends e m) (misplaced t k f n) = refl
  one_wrong ss i _ _ (ends e m) (misplaced_cut t k f n) = refl
  one_wrong ss i _ _ (ends e m) (nameless t k f b) = absurd (cut_strange i t k f (at_end i e))
  one_wrong ss i _ _ (ends e m) (ends f n) = refl

  -- what is wrong at a place, of either kind
  abbrev pub Wrong : ℕ ⊎ ℕ → List Sign → ℕ → Type 0
  Wrong (inl p) ss i = GoesWrong w ss i p
  Wrong (inr p) ss i = OpensTooDeep w ss i × (i ≡ p)

  goes_right : (k : ℕ ⊎ ℕ) (ss : List Sign) (j : ℕ) (ts : List Sign) → Wrong k ss (gap_end w j) → GoesOn ss ts j → Begins ts → StayShallow 0 ts → ⊥
  goes_right (inl p) ss j ts h g b a = right ss (gap_end w j) p g.sign g.behind h g.there (begins_front ss g.sign g.rest (subst Begins g.is b))
  goes_right (inr p) ss j ts h g b a =
      let e = one_seen (gap_end w j) g.sign h.0.bracket g.behind h.0.behind g.there h.0.there in
      let shallow : StayShallow 0 (ss ++ g.sign ∷ []) = shallow_front 0 (ss ++ g.sign ∷ []) g.rest (subst (StayShallow 0) (g.is ∙ sym (append_assoc ss (g.sign ∷ []) g.rest)) a) in
      h.0.deep (subst (λ (u : Sign). StayShallow 0 (ss ++ u ∷ [])) e.0 shallow)

  stops_on : (k l : ℕ ⊎ ℕ) (ss ts : List Sign) (i : ℕ) → Wrong k ss i → Wrong l ss i → k ≡ l
  stops_on (inl p) (inl q) ss ts i a b = ap (λ (n : ℕ). inl n) (one_wrong ss i p q a b)
  stops_on (inl p) (inr q) ss ts i a b = absurd (right ss i p b.0.bracket b.0.behind a b.0.there b.0.begins)
  stops_on (inr p) (inl q) ss ts i a b = absurd (right ss i q a.0.bracket a.0.behind b a.0.there a.0.begins)
  stops_on (inr p) (inr q) ss ts i a b = ap (λ (n : ℕ). inr n) (sym a.1 ∙ b.1)

  pub one_stop : (k l : ℕ ⊎ ℕ) → Stops w (Wrong k) → Stops w (Wrong l) → k ≡ l
  one_stop k l a b = by (compared a.signs b.signs 0 a.behind b.behind a.lead b.lead)
    where
      by : Compared a.signs b.signs a.behind b.behind → k ≡ l
      by (same e f) =
          stops_on k l a.signs a.signs (gap_end w a.behind) a.here
          (subst (λ (us : List Sign). Wrong l us (gap_end w a.behind)) (sym e) (subst (λ (n : ℕ). Wrong l b.signs (gap_end w n)) (sym f) b.here))
      by (first_on g) = absurd (goes_right l b.signs b.behind a.signs b.here g a.begins a.shallow)
      by (second_on g) = absurd (goes_right k a.signs a.behind b.signs a.here g b.begins b.shallow)

  wrong_end : (k : ℕ ⊎ ℕ) (ss : List Sign) (i : ℕ) (q : Parts) → Wrong k ss i → i ≡ length w → IsQueryTree q → spelling q ≡ ss → ⊥
  wrong_end (inl p) ss i q h end is signs = right_end ss i p q h end is signs
  wrong_end (inr p) ss i q h end is signs = sees_strange i h.0.bracket h.0.behind h.0.there (at_end i end)

  pub stop_or_query : (k : ℕ ⊎ ℕ) (q : Parts) → Stops w (Wrong k) → IsQueryText w q → StayShallow 0 (spelling q) → ⊥
  stop_or_query k q a t shallow = by (compared a.signs (spelling q) 0 a.behind t.1 a.lead t.2)
    where
      by : Compared a.signs (spelling q) a.behind t.1 → ⊥
      by (same e f) = wrong_end k a.signs (gap_end w a.behind) q a.here (ap (gap_end w) f ∙ t.3) t.0 (sym e)
      by (first_on g) = sees_strange (gap_end w t.1) g.sign g.behind g.there (at_end (gap_end w t.1) t.3)
      by (second_on g) = goes_right k a.signs a.behind (spelling q) a.here g ([], q, t.0, sym (append-nil (spelling q))) shallow

  pub one_text : (p q : Parts) → IsQueryText w p → IsQueryText w q → values_of p ≡ values_of q
  one_text p q a b = by (compared (spelling p) (spelling q) 0 a.1 b.1 a.2 b.2)
    where
      by : Compared (spelling p) (spelling q) a.1 b.1 → values_of p ≡ values_of q
      by (same e f) = one_spelled p q a.0 b.0 e
      by (first_on g) = absurd (sees_strange (gap_end w b.1) g.sign g.behind g.there (at_end (gap_end w b.1) b.3))
      by (second_on g) = absurd (sees_strange (gap_end w a.1) g.sign g.behind g.there (at_end (gap_end w a.1) a.3))

-- ---- faults

pub one_read : (w : Bytes) (x y : List Value) → Reads w x → Reads w y → x ≡ y
one_read w x y a b = a.3 ∙ one_text w a.0 b.0 a.1 b.1 ∙ sym b.3

-- a fault by its kind and place
abbrev fault_by : ℕ ⊎ ℕ → TreeFault
fault_by (inl p) = fault.Syntax p
fault_by (inr p) = fault.Deep p

abbrev IsKind : Bytes → TreeFault → Type 0
IsKind w e = (k : ℕ ⊎ ℕ) × (e ≡ fault_by k) × Stops w (Wrong w k)

kind_of : (w : Bytes) (e : TreeFault) → e ≢ fault.Memory → IsFault w e → IsKind w e
kind_of w (fault.Syntax p) m h = (inl p, refl, h)
kind_of w (fault.Deep p) m h = (inr p, refl, h)
kind_of w fault.Memory m h = absurd (m refl)

pub one_fault : (w : Bytes) (e f : TreeFault) → e ≢ fault.Memory → f ≢ fault.Memory → IsFault w e → IsFault w f → e ≡ f
one_fault w e f m n a b =
    let x = kind_of w e m a in
    let y = kind_of w f n b in
    x.1 ∙ ap fault_by (one_stop w x.0 y.0 x.2 y.2) ∙ sym y.1

pub fault_or_read : (w : Bytes) (e : TreeFault) (x : List Value) → e ≢ fault.Memory → IsFault w e → Reads w x → ⊥
fault_or_read w e x m a b = let k = kind_of w e m a in stop_or_query w k.0 b.0 k.2 b.1 b.2
