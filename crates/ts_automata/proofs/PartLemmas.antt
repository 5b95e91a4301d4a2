-- The parts of an automaton.
use Rattle.std.proofs.Common.{◌≡◌, ◌∙◌, sym, ap, refl, subst, ℕ, ◌+◌, ◌≤◌, ◌<◌, ◌⊎◌, inl, inr, true, false, List, [], ◌∷◌, ◌++◌, length, map, take, get_or, slice_get, Some, append_assoc, length-append, arith}
use Rattle.std.proofs.Math.Dec.{leb}
use Rattle.std.proofs.lemmas.Bool.Decides.{leb_tells}
use Rattle.std.proofs.lemmas.List.{append-nil, take_more, map-append}
use Rattle.ts_base.proofs.PlaceLemmas.{in_prefix, at_end, push_cases}
use Rattle.spec_lexing.specs.Words.{Regular, Word, Front}
use Rattle.ts_automata.specs.declared.node.Node.{Node}
use Rattle.ts_automata.specs.declared.node.Node.TheVariants.{Take, Split, End}
use Rattle.ts_automata.specs.Reads.{ReadsOver, here, goes, takes, IsEnd}
use Rattle.ts_automata.specs.Grows.{IsInnerNode, Back, leaves, inside, ReadsWords, Agrees, Grows}
use Rattle.ts_automata.specs.Parts.{IsPart, HasPart, HaveParts, AreParts, Fills}
use Rattle.ts_automata.specs.declared.automaton.Automaton.{Automaton}
use Rattle.ts_automata.specs.Automata.{Holds, Gains}
use Rattle.ts_automata.proofs.RepeatLemmas.{word_front}

module _ (T : List Node) (low high : ℕ) (p : Regular) (e a : ℕ) where
  -- nothing is read from an end
  stays : (n x : ℕ) (w : List ℕ) (t : ℕ) → ReadsOver T n x w t → IsEnd T x → (w ≡ []) × (t ≡ x)
  stays _ _ _ _ (here n x) at = (refl, refl)
  stays _ _ _ _ (goes n x y t w split r) at = let f : Some (Split split.left split.right) ≡ Some End = sym split.at ∙ at in cc
  stays _ _ _ _ (takes n x c y t w take r) at = let f : Some (Take take.ranges y) ≡ Some End = sym take.at ∙ at in cc

  whole : (w u v : List ℕ) → w ≡ u ++ v → v ≡ [] → w ≡ u
  whole w u v is none = is ∙ ap (λ (l : List ℕ). u ++ l) none ∙ append-nil u

  pub is_part : IsEnd T a → low ≤ a → a < high → ReadsWords T (IsInnerNode T low high) p e a → IsPart T (λ t. (low ≤ t) × (t < high)) p e
  is_part at from below st = record {
    word = λ w h. let r = st.word 0 w [] a h (here 0 a) in (a, (r.0, subst (λ (l : List ℕ). ReadsOver T r.0 e l a) (append-nil w) r.1), at);
    ends = λ w t r has. ends r.0 w t (st.back r.0 w t r.1) has;
    front = λ w f. st.front w f;
    leads = λ w t r. begins r.0 w t (st.back r.0 w t r.1);
    own = λ w t r. owned r.0 w t (st.back r.0 w t r.1);
  }
    where
      ends : (n : ℕ) (w : List ℕ) (t : ℕ) → Back T (IsInnerNode T low high) p a n w t → IsEnd T t → Word p w
      ends n w t (leaves u v is word r) has = subst (λ (l : List ℕ). Word p l) (sym (whole w u v is (stays n a v t r at).0)) word
      ends n w t (inside f inner) has = absurd (inner.goes_on has)

      begins : (n : ℕ) (w : List ℕ) (t : ℕ) → Back T (IsInnerNode T low high) p a n w t → Front p w
      begins n w t (leaves u v is word r) = subst (λ (l : List ℕ). Front p l) (sym (whole w u v is (stays n a v t r at).0)) (word_front p u word)
      begins n w t (inside f inner) = f

      owned : (n : ℕ) (w : List ℕ) (t : ℕ) → Back T (IsInnerNode T low high) p a n w t → (low ≤ t) × (t < high)
      owned n w t (leaves u v is word r) = let e = (stays n a v t r at).1 in ((omega arith), (omega arith))
      owned n w t (inside f inner) = (inner.from, inner.below)

-- the end of the part was put first
pub has_part : (p : Regular) (a b c : List Node) (end e : ℕ) → end ≡ length a → b ≡ a ++ End ∷ [] → Grows p end b c e → HasPart a c p e
has_part p a b c end e end_is is g = record {
  longer = (let l = g.longer in let s = size in omega arith);
  kept = λ j h. g.kept j (let s = size in omega arith) ∙ ap (λ (l : List Node). slice_get l j) is ∙ in_prefix a (End ∷ []) j h;
  part = λ T h.
      let l = g.longer in
      let s = size in
      let at : slice_get T end ≡ Some End =
      ap (λ (n : ℕ). slice_get T n) end_is ∙ h (length a) (omega arith) (omega arith) ∙ g.kept (length a) (omega arith)
      ∙ ap (λ (l : List Node). slice_get l (length a)) is ∙ at_end a End in
      let stands = g.stands T (λ j from to. h j (omega arith) to) in
      is_part T (length a) (length c) p e end at (omega arith) (omega arith) (widen T stands);
}
  where
    size : length b ≡ length a + 1
    size = ap (λ (l : List Node). length l) is ∙ length-append a (End ∷ [])

    widen : (T : List Node) → ReadsWords T (IsInnerNode T (length b) (length c)) p e end → ReadsWords T (IsInnerNode T (length a) (length c)) p e end
    widen T st = record { word = st.word; front = st.front; back = λ n w t r. turn n w t (st.back n w t r) }
      where
        turn : (n : ℕ) (w : List ℕ) (t : ℕ) → Back T (IsInnerNode T (length b) (length c)) p end n w t → Back T (IsInnerNode T (length a) (length c)) p end n w t
        turn n w t (leaves u v u_is word r) = leaves u v u_is word r
        turn n w t (inside f i) = inside f (record { from = (let s = size in let l = i.from in omega arith); below = i.below; goes_on = i.goes_on })

-- the part's own nodes by another name
own_by : (T : List Node) (P Q : ℕ → Type 0) (p : Regular) (e : ℕ) → ((t : ℕ) → P t → Q t) → IsPart T P p e → IsPart T Q p e
own_by T P Q p e turn x = record { word = x.word; ends = x.ends; front = x.front; leads = x.leads; own = λ w t r. turn t (x.own w t r) }

-- one part more
pub parts_more : (nodes more : List Node) (owners others entries : List ℕ) (parts : List Regular) (p : Regular) (e part count : ℕ)
    → part ≡ length entries → count ≡ length more → HasPart nodes more p e → (length owners ≤ count → Fills owners others count part)
    → HaveParts nodes owners entries parts → HaveParts more others (entries ++ e ∷ []) (parts ++ p ∷ [])
parts_more nodes more owners others entries parts p e part count is count_is one filling have = record {
  count = omega (arith, length-append entries (e ∷ []), length-append parts (p ∷ []), have.count);
  owned = fills.size ∙ count_is;
  part = λ k x q at of T O nodes_are owners_are. by k x q T O nodes_are owners_are (push_cases entries e k x at) (push_cases parts p k q of);
}
  where
    fills : Fills owners others count part
    fills = filling (let l = one.longer in let o = have.owned in omega arith)

    by : (k x : ℕ) (q : Regular) (T : List Node) (O : List ℕ) → Agrees 0 more T → Agrees 0 others O
        → ((k < length entries) × (slice_get entries k ≡ Some x)) ⊎ ((k ≡ length entries) × (e ≡ x))
        → ((k < length parts) × (slice_get parts k ≡ Some q)) ⊎ ((k ≡ length parts) × (p ≡ q))
        → IsPart T (λ t. slice_get O t ≡ Some k) q x
    by k x q T O nodes_are owners_are (inl (low, at)) (inl (_, of)) =
        have.part k x q at of T O
        (λ j from to. nodes_are j from (let l = one.longer in omega arith) ∙ one.kept j to)
        (λ j from to. owners_are j from (let s = fills.size in let l = one.longer in let o = have.owned in omega arith) ∙ fills.kept j to)
    by k x q T O nodes_are owners_are (inl (low, at)) (inr (high, _)) = absurd (let c = have.count in omega arith)
    by k x q T O nodes_are owners_are (inr (high, _)) (inl (low, of)) = absurd (let c = have.count in omega arith)
    by k x q T O nodes_are owners_are (inr (last, first)) (inr (_, same)) =
        subst (λ (r : Regular). IsPart T (λ t. slice_get O t ≡ Some k) r x) same
        (subst (λ (f : ℕ). IsPart T (λ t. slice_get O t ≡ Some k) p f) first
        (own_by T (λ t. (length nodes ≤ t) × (t < length more)) (λ t. slice_get O t ≡ Some k) p e
        (λ t range. owners_are t (omega arith) (let s = fills.size in let r = range.1 in omega arith)
        ∙ fills.filled t (let o = have.owned in let r = range.0 in omega arith) (let r = range.1 in omega arith) ∙ ap (λ (n : ℕ). Some n) (is ∙ sym last))
        (one.part T (λ j from to. nodes_are j (omega arith) to))))

pub parts_none : (nodes : List Node) (owners entries : List ℕ) → nodes ≡ [] → owners ≡ [] → entries ≡ [] → HaveParts nodes owners entries []
parts_none nodes owners entries no_nodes no_owners no_entries = record {
  count = ap (λ (l : List ℕ). length l) no_entries;
  owned = ap (λ (l : List ℕ). length l) no_owners ∙ sym (ap (λ (l : List Node). length l) no_nodes);
  part = λ k e p at of T O nodes_are owners_are. cc;
}

pub parts_all : (nodes : List Node) (owners entries : List ℕ) (parts : List Regular) → HaveParts nodes owners entries parts → AreParts nodes owners entries parts
parts_all nodes owners entries parts have = record {
  count = have.count;
  owned = have.owned;
  part = λ k e p at of. have.part k e p at of nodes owners (λ j from to. refl) (λ j from to. refl);
}

pub fills_none : (owners : List ℕ) (n part : ℕ) → n ≡ length owners → Fills owners owners n part
fills_none owners n part is = record { size = sym is; kept = λ j lt. refl; filled = λ j from lt. absurd (omega arith) }

pub fills_by : (old new : List ℕ) (n m part : ℕ) → n ≡ m → Fills old new n part → Fills old new m part
fills_by old new n m part is f = subst (λ (k : ℕ). Fills old new k part) is f

pub fills_more : (old new : List ℕ) (n part : ℕ) → length old ≤ n → Fills old new n part → Fills old (new ++ part ∷ []) (n + 1) part
fills_more old new n part low f = record {
  size = omega (arith, length-append new (part ∷ []), f.size);
  kept = λ j lt. in_prefix new (part ∷ []) j (let s = f.size in omega arith) ∙ f.kept j lt;
  filled = λ j from lt. by j from (leb_tells n j) lt;
}
  where
    by : (j : ℕ) → length old ≤ j → ((leb n j ≡ true) × (n ≤ j)) ⊎ ((leb n j ≡ false) × (j < n)) → j < n + 1 → slice_get (new ++ part ∷ []) j ≡ Some part
    by j from (inl (_, le)) lt =
        let e : j ≡ length new = (let s = f.size in omega arith) in
        ap (λ (i : ℕ). slice_get (new ++ part ∷ []) i) e ∙ at_end new part
    by j from (inr (_, less)) lt = in_prefix new (part ∷ []) j (let s = f.size in omega arith) ∙ f.filled j from less

-- ---- parts added one after another

pub gains_none : (a : Automaton) → Gains a a []
gains_none a parts have = subst (λ (l : List Regular). Holds a l) (sym (append-nil parts)) have

pub gains_more : {X : Type 0} (f : X → Regular) (xs : List X) (i : ℕ) (x : X) (a b c : Automaton) → i < length xs → x ≡ get_or xs i x
    → Gains a b (map f (take i xs)) → Gains b c (f x ∷ []) → Gains a c (map f (take (i + 1) xs))
gains_more f xs i x a b c below is first second parts have =
    let added : map f (take (i + 1) xs) ≡ map f (take i xs) ++ f x ∷ [] =
    ap (λ (l : List _). map f l) (take_more xs i x below ∙ ap (λ (y : _). take i xs ++ y ∷ []) (sym is)) ∙ map-append f (take i xs) (x ∷ []) in
    subst (λ (l : List Regular). Holds c l) (append_assoc parts (map f (take i xs)) (f x ∷ []) ∙ ap (λ (l : List Regular). parts ++ l) (sym added))
    (second (parts ++ map f (take i xs)) (first parts have))
