-- Bits of words.
use Rattle.std.proofs.Common.{◌≡◌, ◌∙◌, sym, ap, refl, subst, ℕ, ◌+◌, ◌*◌, ◌/◌, ◌%◌, ◌<◌, ◌≤◌, ◌^◌, ◌⊎◌, inl, inr, ⊎_elim, List, length, arith, get_or, set, max, bit_or, All, Bool, true, false, ◌||◌, not, eqb, true≢false, w64, ◌-◌, ◌↔◌}
use Rattle.std.specs.Int.{bit_at}
use Rattle.std.proofs.lemmas.Nat.Bits.{bit_at_or, bit_at-zero, bit_at-trailing_zeros, bit_at_above, same_from_bits_below, bit_at-lt, bit_at-pow_same, bit_at-pow_other}
use Rattle.std.proofs.lemmas.Nat.{one_shl}
use Rattle.std.proofs.lemmas.Bool.{cases_lt, cases_eq}
use Rattle.std.proofs.lemmas.List.{get_or-set_other, length-set, set-get_or, get_or_past}
use Rattle.std.proofs.lemmas.Nat.{or_lt, shr-shr}
use Rattle.std.proofs.Math.Nat.{div-le_self}
use Rattle.std.proofs.lemmas.Grind.{get_or-set_at, get_or_default_zero, same_number_lists}
use Rattle.std.proofs.lemmas.List.Elements.{All-set, All-get_or}
use Rattle.std.proofs.lemmas.Bool.Decides.{nat_tests}
use Rattle.std.specs.Int.{trailing_zeros}
use Rattle.ts_bits.specs.declared.set.BitSet.{BitSet}
use Rattle.ts_bits.specs.Members.{Marked, Has, IsWide}

pub or_one : (a b i : ℕ) → (bit_at (bit_or a b) i ≡ 1) ↔ ((bit_at a i ≡ 1) ⊎ (bit_at b i ≡ 1))
or_one a b i = (
  (λ h.
      let m : max (bit_at a i) (bit_at b i) ≡ 1 = sym (bit_at_or a b i) ∙ h in
      let lt = bit_at-lt a i in
      let lt2 = bit_at-lt b i in
      ⊎_elim (λ e. inl e) (λ n. inr (let f : bit_at a i ≡ 1 → ⊥ = n in other (bit_at a i) (bit_at b i) m lt lt2 f)) (cases_eq (bit_at a i) 1)),
  (λ h. bit_at_or a b i ∙ ⊎_elim (λ e. first (bit_at a i) (bit_at b i) (bit_at-lt b i) e) (λ e. second (bit_at a i) (bit_at b i) (bit_at-lt a i) e) h),
)
  where
    other : (x y : ℕ) → max x y ≡ 1 → x < 2 → y < 2 → (x ≡ 1 → ⊥) → y ≡ 1
    other x y m lx ly f = ⊎_elim (λ e. absurd (f e)) (λ n. ⊎_elim (λ z. omega (arith, m, z, ly)) (λ z. absurd (f (omega (arith, z, lx)))) (cases_lt x 1)) (cases_eq x 1)

    first : (x y : ℕ) → y < 2 → x ≡ 1 → max x y ≡ 1
    first x y l e = omega (arith, l, e)

    second : (x y : ℕ) → x < 2 → y ≡ 1 → max x y ≡ 1
    second x y l e = omega (arith, l, e)

same_number : (t n : ℕ) → t / 64 ≡ n / 64 → t % 64 ≡ n % 64 → t ≡ n
same_number t n d m = omega (arith, d, m)

-- one bit more
pub marked_more : (ws : List ℕ) (n w : ℕ) → n / 64 < length ws → w ≡ get_or ws (n / 64) 0 → (t : ℕ) → Marked (set ws (n / 64) (bit_or w (1 * 2 ^ (n % 64) % 2 ^ 64))) t ↔ (Marked ws t ⊎ (t ≡ n))
marked_more ws n w below is t =
    ⊎_elim (λ e. here e) (λ ne. there ne) (cases_eq (t / 64) (n / 64))
  where
    bit : ℕ
    bit = 1 * 2 ^ (n % 64) % 2 ^ 64

    bit_is : bit ≡ 2 ^ (n % 64)
    bit_is = one_shl (n % 64) 64 (omega arith)

    read : t / 64 ≡ n / 64 → get_or (set ws (n / 64) (bit_or w bit)) (t / 64) 0 ≡ bit_or (get_or ws (t / 64) 0) bit
    read e = get_or-set_at ws (n / 64) (t / 64) (bit_or w bit) 0 e below ∙ ap (λ (x : ℕ). bit_or x bit) (is ∙ ap (λ (k : ℕ). get_or ws k 0) (sym e))

    bit_at_bit : t % 64 ≡ n % 64 → bit_at bit (t % 64) ≡ 1
    bit_at_bit e = ap (λ (x : ℕ). bit_at x (t % 64)) bit_is ∙ ap (λ (k : ℕ). bit_at (2 ^ (n % 64)) k) e ∙ bit_at-pow_same (n % 64)

    not_bit : (t % 64 ≡ n % 64 → ⊥) → bit_at bit (t % 64) ≡ 0
    not_bit f = ap (λ (x : ℕ). bit_at x (t % 64)) bit_is ∙ bit_at-pow_other (n % 64) (t % 64) f

    here : t / 64 ≡ n / 64 → Marked (set ws (n / 64) (bit_or w bit)) t ↔ (Marked ws t ⊎ (t ≡ n))
    here e = rw (read e) (
      (λ h. ⊎_elim (λ a. inl a) (λ b. ⊎_elim (λ m. inr (same_number t n e m)) (λ f. absurd (let z = not_bit f in omega (arith, b, z))) (cases_eq (t % 64) (n % 64))) ((or_one (get_or ws (t / 64) 0) bit (t % 64)).0 h)),
      (λ h. (or_one (get_or ws (t / 64) 0) bit (t % 64)).1 (⊎_elim (λ a. inl a) (λ q. inr (bit_at_bit (ap (λ (x : ℕ). x % 64) q))) h)),
    )

    there : (t / 64 ≡ n / 64 → ⊥) → Marked (set ws (n / 64) (bit_or w bit)) t ↔ (Marked ws t ⊎ (t ≡ n))
    there f = rw (get_or-set_other ws (n / 64) (t / 64) (bit_or w bit) 0 f) ((λ h. inl h), (λ h. ⊎_elim (λ a. a) (λ q. absurd (f (ap (λ (x : ℕ). x / 64) q))) h))

pub wide_set : (n : ℕ) (s : BitSet) (k v : ℕ) → v < 2 ^ 64 → (r : BitSet) → r.words.items ≡ set s.words.items k v → IsWide n s → IsWide n r
wide_set n s k v small r is w = record {
  words = ap (λ (l : List ℕ). length l) is ∙ length-set s.words.items k v ∙ w.words;
  small = subst (λ (l : List ℕ). All (λ x. x < 2 ^ 64) l) (sym is) (All-set (λ (x : ℕ). x < 2 ^ 64) s.words.items k v small w.small);
}

-- the words below a place are joined, the others are as before
pub record Joined (old other new : List ℕ) (at : ℕ) : Type 0 where
  pub count : length new ≡ length old
  pub below : (k : ℕ) → k < at → get_or new k 0 ≡ bit_or (get_or old k 0) (get_or other k 0)
  pub above : (k : ℕ) → at ≤ k → get_or new k 0 ≡ get_or old k 0

pub joined_more : (old other new : List ℕ) (at v : ℕ) → at < length old → v ≡ bit_or (get_or new at 0) (get_or other at 0) → Joined old other new at → Joined old other (set new at v) (at + 1)
joined_more old other new at v inside is j = record {
  count = length-set new at v ∙ j.count;
  below = λ k lt. ⊎_elim (λ e. here k e) (λ ne. get_or-set_other new at k v 0 ne ∙ j.below k (omega (arith, lt, ne))) (cases_eq k at);
  above = λ k le. get_or-set_other new at k v 0 (λ e. omega (arith, e, le)) ∙ j.above k (omega arith);
}
  where
    here : (k : ℕ) → k ≡ at → get_or (set new at v) k 0 ≡ bit_or (get_or old k 0) (get_or other k 0)
    here k e =
        get_or-set_at new at k v 0 e (omega (arith, inside, j.count)) ∙ is ∙ ap (λ (x : ℕ). bit_or x (get_or other at 0)) (j.above at (omega arith))
        ∙ ap (λ (i : ℕ). bit_or (get_or old i 0) (get_or other i 0)) (sym e)

pub joined_all : (old other new : List ℕ) (at : ℕ) → length old ≡ length other → length old ≤ at → Joined old other new at → (t : ℕ) → Marked new t ↔ (Marked old t ⊎ Marked other t)
joined_all old other new at same past j t = rw (word (t / 64)) (or_one (get_or old (t / 64) 0) (get_or other (t / 64) 0) (t % 64))
  where
    word : (k : ℕ) → get_or new k 0 ≡ bit_or (get_or old k 0) (get_or other k 0)
    word k = ⊎_elim (λ lt. j.below k (omega (arith, lt, past)))
        (λ ge. rw (get_or_past new k 0 (omega (arith, ge, j.count)), get_or_past old k 0 ge, get_or_past other k 0 (omega (arith, ge, same))) refl) (cases_lt k (length old))

-- two sets of the same width with the same numbers have the same words
pub same_words : (n : ℕ) (a b : BitSet) → IsWide n a → IsWide n b → ((t : ℕ) → Has a t ↔ Has b t) → a.words.items ≡ b.words.items
same_words n a b wa wb same = same_number_lists a.words.items b.words.items (wa.words ∙ sym wb.words) (λ k below. same_from_bits_below 64 (get_or a.words.items k 0) (get_or b.words.items k 0)
    (All-get_or (λ (x : ℕ). x < 2 ^ 64) a.words.items k 0 below wa.small)
    (All-get_or (λ (x : ℕ). x < 2 ^ 64) b.words.items k 0 (omega (arith, below, wa.words, wb.words)) wb.small)
    (λ i lt. same_bit (bit_at (get_or a.words.items k 0) i) (bit_at (get_or b.words.items k 0) i) (bit_at-lt _ i) (bit_at-lt _ i) (bits k i lt)))
  where
    bits_at : (k i t : ℕ) → t / 64 ≡ k → t % 64 ≡ i → Has a t ↔ Has b t → (bit_at (get_or a.words.items k 0) i ≡ 1) ↔ (bit_at (get_or b.words.items k 0) i ≡ 1)
    bits_at k i t d m s = subst (λ (j : ℕ). (bit_at (get_or a.words.items j 0) i ≡ 1) ↔ (bit_at (get_or b.words.items j 0) i ≡ 1)) d
        (subst (λ (j : ℕ). (bit_at (get_or a.words.items (t / 64) 0) j ≡ 1) ↔ (bit_at (get_or b.words.items (t / 64) 0) j ≡ 1)) m s)

    bits : (k i : ℕ) → i < 64 → (bit_at (get_or a.words.items k 0) i ≡ 1) ↔ (bit_at (get_or b.words.items k 0) i ≡ 1)
    bits k i lt =
        let d : (64 * k + i) / 64 ≡ k = omega (arith, lt) in
        let m : (64 * k + i) % 64 ≡ i = omega (arith, lt) in
        bits_at k i (64 * k + i) d m (same (64 * k + i))

    both_zero : (x y : ℕ) → x < 2 → y < 2 → (x ≡ 1 → ⊥) → (y ≡ 1 → ⊥) → x ≡ y
    both_zero x y lx ly nx ny = omega (arith, lx, ly, nx, ny)

    same_bit : (x y : ℕ) → x < 2 → y < 2 → (x ≡ 1) ↔ (y ≡ 1) → x ≡ y
    same_bit x y lx ly h = ⊎_elim (λ e. e ∙ sym (h.0 e)) (λ ne. ⊎_elim (λ e. h.1 e ∙ sym e) (λ nf. both_zero x y lx ly ne nf) (cases_eq y 1)) (cases_eq x 1)

-- the bit at a place of what is left of a word after a shift
pub shifted : (w p i : ℕ) → bit_at (w / 2 ^ p) i ≡ bit_at w (p + i)
shifted w p i = ap (λ (x : ℕ). x % 2) (shr-shr w p i)

-- the lowest bit of a word from a place on
pub lowest_from : (from w : ℕ) → from < 64 → w < 2 ^ 64 → 0 < w / 2 ^ from
    → (from ≤ from + trailing_zeros w64 (w / 2 ^ from)) × (from + trailing_zeros w64 (w / 2 ^ from) < 64) × (bit_at w (from + trailing_zeros w64 (w / 2 ^ from)) ≡ 1)
    × ((j : ℕ) → from ≤ j → j < from + trailing_zeros w64 (w / 2 ^ from) → bit_at w j ≡ 1 → ⊥)
lowest_from from w below small some = (omega arith, inside, bit, λ j le lt h. earlier j le lt h)
  where
    rest : ℕ
    rest = w / 2 ^ from

    rest_small : rest < 2 ^ 64
    rest_small = let le = div-le_self w (2 ^ from) in omega (arith, le, small)

    found : (trailing_zeros w64 rest < 64) × (bit_at rest (trailing_zeros w64 rest) ≡ 1) × ((i : ℕ) → i < trailing_zeros w64 rest → bit_at rest i ≡ 0)
    found = bit_at-trailing_zeros w64 rest some rest_small

    bit : bit_at w (from + trailing_zeros w64 rest) ≡ 1
    bit = sym (shifted w from (trailing_zeros w64 rest)) ∙ found.1

    inside : from + trailing_zeros w64 rest < 64
    inside = ⊎_elim (λ lt. lt) (λ ge. absurd (let o = bit_at_above w 64 (from + trailing_zeros w64 rest) small ge in omega (arith, o, bit))) (cases_lt (from + trailing_zeros w64 rest) 64)

    earlier : (j : ℕ) → from ≤ j → j < from + trailing_zeros w64 rest → bit_at w j ≡ 1 → ⊥
    earlier j le lt h =
        let o = sym (shifted w from (j - from)) ∙ found.2 (j - from) (omega (arith, le, lt)) in
        let e : from + (j - from) ≡ j = omega (arith, le) in
        let b = ap (λ (x : ℕ). bit_at w x) e in
        omega (arith, o, h, b)

pub none_from : (from w : ℕ) → w / 2 ^ from ≡ 0 → (j : ℕ) → from ≤ j → bit_at w j ≡ 1 → ⊥
none_from from w zero j le h =
    let o = sym (shifted w from (j - from)) ∙ ap (λ (x : ℕ). bit_at x (j - from)) zero ∙ bit_at-zero (j - from) in
    let e : from + (j - from) ≡ j = omega (arith, le) in
    let b = ap (λ (x : ℕ). bit_at w x) e in
    omega (arith, o, h, b)

-- no number from the first on stands in a word below the place, and the search goes on at a bit of that place
pub record Searched (ws : List ℕ) (from at place : ℕ) : Type 0 where
  pub begun : from / 64 ≤ at
  pub none : (u : ℕ) → from ≤ u → u / 64 < at → Marked ws u → ⊥
  pub bit : ((at ≡ from / 64) × (place ≡ from % 64)) ⊎ ((from / 64 < at) × (place ≡ 0))

pub joined_at : (old other new : List ℕ) (at a b : ℕ) → at < length old → length old ≡ length other → a ≡ get_or new at a → b ≡ get_or other at b → Joined old other new at → Joined old other (set new at (bit_or a b)) (at + 1)
joined_at old other new at a b inside same ea eb j =
    let p = ea ∙ get_or_default_zero new at a (omega (arith, inside, j.count)) in
    let q = eb ∙ get_or_default_zero other at b (omega (arith, inside, same)) in
    joined_more old other new at (bit_or a b) inside (ap (λ (x : ℕ). bit_or x b) p ∙ ap (λ (x : ℕ). bit_or (get_or new at 0) x) q) j

pub wide_at : (n : ℕ) (now other r : BitSet) (at a b : ℕ) → at < length now.words.items → a ≡ get_or now.words.items at a → b ≡ get_or other.words.items at b → r.words.items ≡ set now.words.items at (bit_or a b)
    → IsWide n now → IsWide n other → IsWide n r
wide_at n now other r at a b inside ea eb is w v =
    wide_set n now at (bit_or a b) (or_lt 64 a b (subst (λ (x : ℕ). x < 2 ^ 64) (sym ea) (w.small at a inside)) (subst (λ (x : ℕ). x < 2 ^ 64) (sym eb) (v.small at b (omega (arith, inside, w.words, v.words))))) r is w

pub same_at : (old now : List ℕ) (at a v : ℕ) (changed : Bool) → a ≡ get_or now at a → at < length now → (changed || not (eqb v a)) ≡ false → (changed ≡ false → now ≡ old) → set now at v ≡ old
same_at old now at a v true ea inside e before = absurd (true≢false e)
same_at old now at a v false ea inside e before =
    let q : v ≡ a = grind (arith, nat_tests, e) in
    ap (λ (x : ℕ). set now at x) (q ∙ ea) ∙ set-get_or now at a ∙ before refl

pub bit_small : (k : ℕ) → 1 * 2 ^ k % 2 ^ 64 < 2 ^ 64
bit_small k = omega arith
