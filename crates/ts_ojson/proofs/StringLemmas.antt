-- How a string goes on, byte for byte.
use Rattle.std.proofs.Common.{◌≡◌, ℕ, suc, ◌+◌, ◌*◌, ◌<◌, ◌≤◌, inl, inr, List, [], ◌∷◌, ◌++◌, Bool, true, false, cond, ◌==◌, nat_lt, Option, Some, None, refl, sym, ap, subst, ◌∙◌, ◌↔◌, arith}
use Rattle.std.proofs.lemmas.Bool.{eqb-true, eqb-false, ltb-true, ltb-false}
use Rattle.std.proofs.lemmas.List.{append_assoc, append-nil}
use Rattle.std.specs.Char.{encode_utf8, digit_value}
use Rattle.ts_ojson.specs.declared.escape.Escape.{Escape}
use Rattle.ts_ojson.specs.declared.escape.Escape.TheVariants.{Plain, Backslash, First, Second, Third, Fourth, High, HighBackslash, LowFirst, LowSecond, LowThird, LowFourth}
use Rattle.ts_ojson.specs.Pieces.{Piece}
use Rattle.ts_ojson.specs.Characters.{Hex, Unit16, IsHigh, IsLow, IsAlone, IsRaw, short_of, pair_of, Mark, raw, short, unit, pair, Characters}
use Rattle.ts_ojson.specs.Strings.{plain_piece, shorted, backslash_piece, unit_piece, third_piece, digit_piece, hex_piece, next_piece, IsWithin}
use Rattle.ts_ojson.proofs.Meaning.{Plainly, Paired, UnitRest, LowRest, InText, PieceMeans}

-- ---- lists that begin alike
pub head_is : {a b : ℕ} {x y : List ℕ} → a ∷ x ≡ b ∷ y → a ≡ b
head_is h = cc

pub tail_is : {a b : ℕ} {x y : List ℕ} → a ∷ x ≡ b ∷ y → x ≡ y
tail_is h = cc

no_quote : (b : ℕ) → b ≡ 34 → b ≡ 92 → ⊥
no_quote b e f = omega arith

-- ---- what the first byte tells
quote_only : (ms : List Mark) (t w r : List ℕ) (b : ℕ) → b ≡ 34 → Characters ms t (b ∷ w) r → (t ≡ []) × (r ≡ w)
quote_only [] t w r b e (s, h) = (s, sym (tail_is h))
quote_only (raw c ∷ ms) t w r b e (t2, v, is, h, s, x) = absurd (is.1 (sym (head_is h) ∙ e))
quote_only (short y c ∷ ms) t w r b e (t2, v, is, h, s, x) = absurd (no_quote b e (head_is h))
quote_only (unit u ∷ ms) t w r b e (t2, v, is, (v2, h, hx), s, x) = absurd (no_quote b e (head_is h))
quote_only (pair i l ∷ ms) t w r b e (t2, m, v, high, low, (v2, h, hx), second, s, x) = absurd (no_quote b e (head_is h))

raw_only : (ms : List Mark) (t w r : List ℕ) (b : ℕ) → (b ≡ 34 → ⊥) → (b ≡ 92 → ⊥) → Characters ms t (b ∷ w) r
    → (ns : List Mark) × (q : List ℕ) × IsRaw b × (t ≡ b ∷ q) × Characters ns q w r
raw_only [] t w r b nq ns (s, h) = absurd (nq (head_is h))
raw_only (raw c ∷ ms) t w r b nq ns (t2, v, is, h, s, x) =
    (ms, t2, subst IsRaw (sym (head_is h)) is, s ∙ ap (λ n. n ∷ t2) (sym (head_is h)), subst (λ (y : List ℕ). Characters ms t2 y r) (sym (tail_is h)) x)
raw_only (short y c ∷ ms) t w r b nq ns (t2, v, is, h, s, x) = absurd (ns (head_is h))
raw_only (unit u ∷ ms) t w r b nq ns (t2, v, is, (v2, h, hx), s, x) = absurd (ns (head_is h))
raw_only (pair i l ∷ ms) t w r b nq ns (t2, m, v, high, low, (v2, h, hx), second, s, x) = absurd (ns (head_is h))

-- ---- bounds of a code unit whose first digits are known
one_digit : (n u : ℕ) (w r : List ℕ) → Hex 1 n u w r → (n * 16 ≤ u) × (u < n * 16 + 16)
one_digit n u w r (d, v, h, lt, (e, f)) = (omega arith, omega arith)

two_digits : (n u : ℕ) (w r : List ℕ) → Hex 2 n u w r → (n * 256 ≤ u) × (u < n * 256 + 256)
two_digits n u w r (d, v, h, lt, x) = let b = one_digit (n * 16 + digit_value d) u v r x in (omega arith, omega arith)

three_digits : (n u : ℕ) (w r : List ℕ) → Hex 3 n u w r → (n * 4096 ≤ u) × (u < n * 4096 + 4096)
three_digits n u w r (d, v, h, lt, x) = let b = two_digits (n * 16 + digit_value d) u v r x in (omega arith, omega arith)

not_both : (u : ℕ) → IsAlone u → IsLow u → ⊥
not_both u (inl h) low = omega arith
not_both u (inr h) low = omega arith

module _ (K : List ℕ → List ℕ → Type 0) where
  by_test : (A : Type 0) (w : List ℕ) (x y : Option Piece) (t : Bool) → (t ≡ true → A ↔ PieceMeans K w x) → (t ≡ false → A ↔ PieceMeans K w y) → A ↔ PieceMeans K w (cond t x y)
  by_test A w x y true f g = f refl
  by_test A w x y false f g = g refl

  move : (s q r t : List ℕ) → s ≡ q → r ≡ t → K s r → K q t
  move s q r t e f k = subst (λ (x : List ℕ). K q x) f (subst (λ (x : List ℕ). K x r) e k)

  further : (s a t r : List ℕ) → K (s ++ (a ++ t)) r → K ((s ++ a) ++ t) r
  further s a t r k = subst (λ (x : List ℕ). K x r) (sym (append_assoc s a t)) k

  nearer : (s a t r : List ℕ) → K ((s ++ a) ++ t) r → K (s ++ (a ++ t)) r
  nearer s a t r k = subst (λ (x : List ℕ). K x r) (append_assoc s a t) k

  -- ---- plain characters
  at_quote : (s w : List ℕ) (b : ℕ) → b ≡ 34 → Plainly s K (b ∷ w) ↔ K s w
  at_quote s w b e = (
    (λ h. let q = quote_only h.0 h.1 w h.2 b e h.3 in move (s ++ h.1) s h.2 w (ap (λ (x : List ℕ). s ++ x) q.0 ∙ append-nil s) q.1 h.4),
    (λ k. ([], [], w, (refl, ap (λ n. n ∷ w) e), subst (λ (x : List ℕ). K x w) (sym (append-nil s)) k)),
  )

  at_raw : (s w : List ℕ) (b : ℕ) → IsRaw b → Plainly s K (b ∷ w) ↔ Plainly (s ++ b ∷ []) K w
  at_raw s w b is = (
    (λ h. let q = raw_only h.0 h.1 w h.2 b is.1 is.2 h.3 in (q.0, q.1, h.2, q.4, further s (b ∷ []) q.1 h.2 (subst (λ (x : List ℕ). K (s ++ x) h.2) q.3 h.4))),
    (λ h. (raw b ∷ h.0, b ∷ h.1, h.2, (h.1, w, is, refl, refl, h.3), nearer s (b ∷ []) h.1 h.2 h.4)),
  )

  no_control : (s w : List ℕ) (b : ℕ) → b < 32 → Plainly s K (b ∷ w) ↔ ⊥
  no_control s w b low = ((λ h. let q = raw_only h.0 h.1 w h.2 b (λ e. omega arith) (λ e. omega arith) h.3 in let is = q.2 in omega arith), λ h. absurd h)

  plain_step : (s w : List ℕ) (b : ℕ) → Plainly s K (b ∷ w) ↔ PieceMeans K w (plain_piece s b)
  plain_step s w b =
      by_test _ w _ _ (b == 34) (λ e. at_quote s w b (eqb-true b 34 e)) (λ nq.
      by_test _ w _ _ (b == 92) (λ e. let is = eqb-true b 92 e in ((λ h. subst (λ (x : ℕ). Plainly s K (x ∷ w)) is h), (λ h. subst (λ (x : ℕ). Plainly s K (x ∷ w)) (sym is) h))) (λ ns.
      by_test _ w _ _ (nat_lt b 32) (λ e. no_control s w b (ltb-true b 32 e)) (λ e. at_raw s w b (ltb-false b 32 e, eqb-false b 34 nq, eqb-false b 92 ns))))

  -- ---- behind a backslash
  quote_behind : (w r : List ℕ) → 92 ∷ w ≡ 34 ∷ r → ⊥
  quote_behind w r h = let e = head_is h in omega arith

  raw_behind : (c : ℕ) (w r : List ℕ) → IsRaw c → 92 ∷ w ≡ c ∷ r → ⊥
  raw_behind c w r is h = is.2 (sym (head_is h))

  u_is_long : (b y c : ℕ) (w v : List ℕ) → b ≡ 117 → short_of y ≡ Some c → 92 ∷ b ∷ w ≡ 92 ∷ y ∷ v → ⊥
  u_is_long b y c w v e is h = let at : short_of 117 ≡ Some c = ap short_of (sym e ∙ head_is (tail_is h)) ∙ is in cc

  unit_behind : (u : ℕ) (s t q w v v2 r : List ℕ) (b : ℕ) (ms : List Mark) → IsAlone u → 92 ∷ b ∷ w ≡ 92 ∷ 117 ∷ v2 → Hex 4 0 u v2 v → t ≡ encode_utf8 u ++ q → Characters ms q v r → K (s ++ t) r → UnitRest 4 0 s K w
  unit_behind u s t q w v v2 r b ms is h hx e x k =
      (u, v, subst (λ (y : List ℕ). Hex 4 0 u y v) (sym (tail_is (tail_is h))) hx, inl (is, (ms, q, r, x, further s (encode_utf8 u) q r (subst (λ (y : List ℕ). K (s ++ y) r) e k))))

  pair_behind : (i l : ℕ) (s t q w m v v2 r : List ℕ) (b : ℕ) (ms : List Mark) → IsHigh i → IsLow l → 92 ∷ b ∷ w ≡ 92 ∷ 117 ∷ v2 → Hex 4 0 i v2 m → Unit16 l m v
      → t ≡ encode_utf8 (pair_of i l) ++ q → Characters ms q v r → K (s ++ t) r → UnitRest 4 0 s K w
  pair_behind i l s t q w m v v2 r b ms hi low h hx second e x k =
      (i, m, subst (λ (y : List ℕ). Hex 4 0 i y m) (sym (tail_is (tail_is h))) hx, inr (hi, (l, v, low, second, (ms, q, r, x, further s (encode_utf8 (pair_of i l)) q r (subst (λ (y : List ℕ). K (s ++ y) r) e k)))))

  to_unit : (ms : List Mark) (s t w r : List ℕ) (b : ℕ) → b ≡ 117 → Characters ms t (92 ∷ b ∷ w) r → K (s ++ t) r → UnitRest 4 0 s K w
  to_unit [] s t w r b e (q, h) k = absurd (quote_behind (b ∷ w) r h)
  to_unit (raw c ∷ ms) s t w r b e (t2, v, is, h, q, x) k = absurd (raw_behind c (b ∷ w) v is h)
  to_unit (short y c ∷ ms) s t w r b e (t2, v, is, h, q, x) k = absurd (u_is_long b y c w v e is h)
  to_unit (unit u ∷ ms) s t w r b e (t2, v, is, (v2, h, hx), q, x) k = unit_behind u s t t2 w v v2 r b ms is h hx q x k
  to_unit (pair i l ∷ ms) s t w r b e (t2, m, v, hi, low, (v2, h, hx), second, q, x) k = pair_behind i l s t t2 w m v v2 r b ms hi low h hx second q x k

  from_unit : (s w : List ℕ) (b : ℕ) → b ≡ 117 → UnitRest 4 0 s K w → Plainly s K (92 ∷ b ∷ w)
  from_unit s w b e (u, a, hx, inl (is, (ms, t, r, x, k))) =
      (unit u ∷ ms, encode_utf8 u ++ t, r, (t, a, is, (w, ap (λ n. 92 ∷ n ∷ w) e, hx), refl, x), nearer s (encode_utf8 u) t r k)
  from_unit s w b e (u, a, hx, inr (hi, (l, v, low, second, (ms, t, r, x, k)))) =
      (pair u l ∷ ms, encode_utf8 (pair_of u l) ++ t, r, (t, a, v, hi, low, (w, ap (λ n. 92 ∷ n ∷ w) e, hx), second, refl, x), nearer s (encode_utf8 (pair_of u l)) t r k)

  short_behind : (y c : ℕ) (s t q w v r : List ℕ) (b : ℕ) (ms : List Mark) → short_of y ≡ Some c → 92 ∷ b ∷ w ≡ 92 ∷ y ∷ v → t ≡ c ∷ q → Characters ms q v r → K (s ++ t) r
      → (c : ℕ) × (short_of b ≡ Some c) × Plainly (s ++ c ∷ []) K w
  short_behind y c s t q w v r b ms is h e x k =
      (c, ap short_of (head_is (tail_is h)) ∙ is, (ms, q, r, subst (λ (z : List ℕ). Characters ms q z r) (sym (tail_is (tail_is h))) x, further s (c ∷ []) q r (subst (λ (z : List ℕ). K (s ++ z) r) e k)))

  long_behind : (b : ℕ) (w v : List ℕ) → (b ≡ 117 → ⊥) → 92 ∷ b ∷ w ≡ 92 ∷ 117 ∷ v → ⊥
  long_behind b w v nu h = nu (head_is (tail_is h))

  to_short : (ms : List Mark) (s t w r : List ℕ) (b : ℕ) → (b ≡ 117 → ⊥) → Characters ms t (92 ∷ b ∷ w) r → K (s ++ t) r
      → (c : ℕ) × (short_of b ≡ Some c) × Plainly (s ++ c ∷ []) K w
  to_short [] s t w r b nu (q, h) k = absurd (quote_behind (b ∷ w) r h)
  to_short (raw c ∷ ms) s t w r b nu (t2, v, is, h, q, x) k = absurd (raw_behind c (b ∷ w) v is h)
  to_short (short y c ∷ ms) s t w r b nu (t2, v, is, h, q, x) k = short_behind y c s t t2 w v r b ms is h q x k
  to_short (unit u ∷ ms) s t w r b nu (t2, v, is, (v2, h, hx), q, x) k = absurd (long_behind b w v2 nu h)
  to_short (pair i l ∷ ms) s t w r b nu (t2, m, v, hi, low, (v2, h, hx), second, q, x) k = absurd (long_behind b w v2 nu h)

  short_step : (s w : List ℕ) (b : ℕ) (o : Option ℕ) → (b ≡ 117 → ⊥) → short_of b ≡ o → Plainly s K (92 ∷ b ∷ w) ↔ PieceMeans K w (shorted s o)
  short_step s w b None nu e = ((λ h. let q = to_short h.0 s h.1 w h.2 b nu h.3 h.4 in let no : None ≡ Some q.0 = sym e ∙ q.1 in cc), λ h. absurd h)
  short_step s w b (Some c) nu e = (
    (λ h. let q = to_short h.0 s h.1 w h.2 b nu h.3 h.4 in let same : q.0 ≡ c = cc (q.1, e) in subst (λ (n : ℕ). Plainly (s ++ n ∷ []) K w) same q.2),
    (λ h. (short b c ∷ h.0, c ∷ h.1, h.2, (h.1, w, e, refl, refl, h.3), nearer s (c ∷ []) h.1 h.2 h.4)),
  )

  backslash_step : (s w : List ℕ) (b : ℕ) → Plainly s K (92 ∷ b ∷ w) ↔ PieceMeans K w (backslash_piece s b)
  backslash_step s w b =
      by_test _ w _ _ (b == 117) (λ e. let is = eqb-true b 117 e in ((λ h. to_unit h.0 s h.1 w h.2 b is h.3 h.4), (λ h. from_unit s w b is h)))
      (λ nu. short_step s w b (short_of b) (eqb-false b 117 nu) refl)

  -- ---- digits
  digit_on : (c n b : ℕ) (s w : List ℕ) → UnitRest (suc c) n s K (b ∷ w) → (digit_value b < 16) × UnitRest c (n * 16 + digit_value b) s K w
  digit_on c n b s w (u, a, (d, v, h, lt, hx), x) =
      let ed : d ≡ b = sym (head_is h) in let ev : v ≡ w = sym (tail_is h) in
      (subst (λ (y : ℕ). digit_value y < 16) ed lt, (u, a, subst (λ (y : List ℕ). Hex c (n * 16 + digit_value b) u y a) ev (subst (λ (y : ℕ). Hex c (n * 16 + digit_value y) u v a) ed hx), x))

  digit_off : (c n b : ℕ) (s w : List ℕ) → digit_value b < 16 → UnitRest c (n * 16 + digit_value b) s K w → UnitRest (suc c) n s K (b ∷ w)
  digit_off c n b s w lt (u, a, hx, x) = (u, a, (b, w, refl, lt, hx), x)

  low_on : (h c n b : ℕ) (s w : List ℕ) → LowRest h (suc c) n s K (b ∷ w) → (digit_value b < 16) × LowRest h c (n * 16 + digit_value b) s K w
  low_on i c n b s w (l, a, low, (d, v, h, lt, hx), x) =
      let ed : d ≡ b = sym (head_is h) in let ev : v ≡ w = sym (tail_is h) in
      (subst (λ (y : ℕ). digit_value y < 16) ed lt, (l, a, low, subst (λ (y : List ℕ). Hex c (n * 16 + digit_value b) l y a) ev (subst (λ (y : ℕ). Hex c (n * 16 + digit_value y) l v a) ed hx), x))

  low_off : (h c n b : ℕ) (s w : List ℕ) → digit_value b < 16 → LowRest h c (n * 16 + digit_value b) s K w → LowRest h (suc c) n s K (b ∷ w)
  low_off i c n b s w lt (l, a, low, hx, x) = (l, a, low, (b, w, refl, lt, hx), x)

  -- a digit goes on to what these say of it
  hex_step : (A : Type 0) (e : Escape) (s w : List ℕ) (b : ℕ) → (A → digit_value b < 16) → (digit_value b < 16 → A ↔ PieceMeans K w (digit_piece e s (digit_value b))) → A ↔ PieceMeans K w (hex_piece e s b)
  hex_step A e s w b is f =
      by_test A w _ _ (nat_lt (digit_value b) 16) (λ t. f (ltb-true (digit_value b) 16 t))
      (λ t. ((λ h. let lt = is h in let ge = ltb-false (digit_value b) 16 t in omega arith), λ h. absurd h))

  first_step : (s w : List ℕ) (b : ℕ) → UnitRest 4 0 s K (b ∷ w) ↔ PieceMeans K w (hex_piece First s b)
  first_step s w b =
      let same : 0 * 16 + digit_value b ≡ digit_value b = omega arith in
      hex_step (UnitRest 4 0 s K (b ∷ w)) First s w b (λ h. (digit_on 3 0 b s w h).0) (λ lt. (
        (λ h. subst (λ (n : ℕ). UnitRest 3 n s K w) same (digit_on 3 0 b s w h).1),
        (λ h. digit_off 3 0 b s w lt (subst (λ (n : ℕ). UnitRest 3 n s K w) (sym same) h)),
      ))

  not_low : (n : ℕ) (s w : List ℕ) → 220 ≤ n → n < 224 → UnitRest 2 n s K w → ⊥
  not_low n s w low high (u, a, hx, inl (is, x)) = let b = two_digits n u w a hx in not_both u is (omega arith, omega arith)
  not_low n s w low high (u, a, hx, inr (is, x)) = let b = two_digits n u w a hx in omega arith

  third_step : (n : ℕ) (s w : List ℕ) → UnitRest 2 n s K w ↔ PieceMeans K w (third_piece s n)
  third_step n s w =
      by_test _ w _ _ (nat_lt n 220) (λ t. ((λ h. h), λ h. h)) (λ t.
      by_test _ w _ _ (nat_lt n 224) (λ r. ((λ h. not_low n s w (ltb-false n 220 t) (ltb-true n 224 r) h), λ h. absurd h)) (λ r. ((λ h. h), λ h. h)))

  second_step : (n : ℕ) (s w : List ℕ) (b : ℕ) → UnitRest 3 n s K (b ∷ w) ↔ PieceMeans K w (hex_piece (Second n) s b)
  second_step n s w b =
      let on = third_step (n * 16 + digit_value b) s w in
      hex_step (UnitRest 3 n s K (b ∷ w)) (Second n) s w b (λ h. (digit_on 2 n b s w h).0) (λ lt. ((λ h. on.0 (digit_on 2 n b s w h).1), (λ h. digit_off 2 n b s w lt (on.1 h))))

  fourth_step : (n : ℕ) (s w : List ℕ) (b : ℕ) → UnitRest 2 n s K (b ∷ w) ↔ PieceMeans K w (hex_piece (Third n) s b)
  fourth_step n s w b =
      hex_step (UnitRest 2 n s K (b ∷ w)) (Third n) s w b (λ h. (digit_on 1 n b s w h).0) (λ lt. ((λ h. (digit_on 1 n b s w h).1), (λ h. digit_off 1 n b s w lt h)))

  alone : (u : ℕ) (s w : List ℕ) → IsAlone u → UnitRest 0 u s K w ↔ Plainly (s ++ encode_utf8 u) K w
  alone u s w is = (to, λ h. (u, w, (refl, refl), inl (is, h)))
    where
      to : UnitRest 0 u s K w → Plainly (s ++ encode_utf8 u) K w
      to (v, a, (e, f), inl (al, x)) = subst (λ (y : List ℕ). Plainly (s ++ encode_utf8 u) K y) f (subst (λ (n : ℕ). Plainly (s ++ encode_utf8 n) K a) e x)
      to (v, a, (e, f), inr (high, x)) = absurd (not_high is high e)
        where
          not_high : IsAlone u → IsHigh v → v ≡ u → ⊥
          not_high (inl h) i j = omega arith
          not_high (inr h) i j = omega arith

  high : (u : ℕ) (s w : List ℕ) → IsHigh u → UnitRest 0 u s K w ↔ Paired u s K w
  high u s w is = (to, λ h. (u, w, (refl, refl), inr (is, h)))
    where
      to : UnitRest 0 u s K w → Paired u s K w
      to (v, a, (e, f), inr (hi, x)) = subst (λ (y : List ℕ). Paired u s K y) f (subst (λ (n : ℕ). Paired n s K a) e x)
      to (v, a, (e, f), inl (al, x)) = absurd (not_high al e)
        where
          not_high : IsAlone v → v ≡ u → ⊥
          not_high (inl h) j = omega arith
          not_high (inr h) j = omega arith

  none : (u : ℕ) (s w : List ℕ) → 56320 ≤ u → u < 57344 → UnitRest 0 u s K w ↔ ⊥
  none u s w low up = (to, λ h. absurd h)
    where
      to : UnitRest 0 u s K w → ⊥
      to (v, a, (e, f), inl (al, x)) = not_both v al (omega arith, omega arith)
      to (v, a, (e, f), inr (hi, x)) = omega arith

  unit_step : (u : ℕ) (s w : List ℕ) → UnitRest 0 u s K w ↔ PieceMeans K w (unit_piece s u)
  unit_step u s w =
      by_test _ w _ _ (nat_lt u 55296) (λ t. alone u s w (inl (ltb-true u 55296 t))) (λ t.
      by_test _ w _ _ (nat_lt u 56320) (λ r. high u s w (ltb-false u 55296 t, ltb-true u 56320 r)) (λ r.
      by_test _ w _ _ (nat_lt u 57344) (λ p. none u s w (ltb-false u 56320 r) (ltb-true u 57344 p)) (λ p. alone u s w (inr (ltb-false u 57344 p)))))

  last_step : (n : ℕ) (s w : List ℕ) (b : ℕ) → UnitRest 1 n s K (b ∷ w) ↔ PieceMeans K w (hex_piece (Fourth n) s b)
  last_step n s w b =
      let on = unit_step (n * 16 + digit_value b) s w in
      hex_step (UnitRest 1 n s K (b ∷ w)) (Fourth n) s w b (λ h. (digit_on 0 n b s w h).0) (λ lt. ((λ h. on.0 (digit_on 0 n b s w h).1), (λ h. digit_off 0 n b s w lt (on.1 h))))

  -- ---- the second of a pair
  high_step : (h : ℕ) (s w : List ℕ) (b : ℕ) → Paired h s K (b ∷ w) ↔ PieceMeans K w (next_piece (High h) s b)
  high_step i s w b =
      by_test _ w _ _ (b == 92) (λ e. let is = eqb-true b 92 e in ((λ h. subst (λ (n : ℕ). Paired i s K (n ∷ w)) is h), (λ h. subst (λ (n : ℕ). Paired i s K (n ∷ w)) (sym is) h)))
      (λ e. (to (eqb-false b 92 e), λ h. absurd h))
    where
      to : (b ≡ 92 → ⊥) → Paired i s K (b ∷ w) → ⊥
      to not_so (l, a, low, (v, h, hx), x) = not_so (head_is h)

  high_u_step : (h : ℕ) (s w : List ℕ) (b : ℕ) → Paired h s K (92 ∷ b ∷ w) ↔ PieceMeans K w (next_piece (HighBackslash h) s b)
  high_u_step i s w b =
      by_test _ w _ _ (b == 117) (λ e. (to, from (eqb-true b 117 e))) (λ e. (other (eqb-false b 117 e), λ h. absurd h))
    where
      to : Paired i s K (92 ∷ b ∷ w) → LowRest i 4 0 s K w
      to (l, a, low, (v, h, hx), x) = (l, a, low, subst (λ (y : List ℕ). Hex 4 0 l y a) (sym (tail_is (tail_is h))) hx, x)

      from : b ≡ 117 → LowRest i 4 0 s K w → Paired i s K (92 ∷ b ∷ w)
      from e (l, a, low, hx, x) = (l, a, low, (w, ap (λ n. 92 ∷ n ∷ w) e, hx), x)

      other : (b ≡ 117 → ⊥) → Paired i s K (92 ∷ b ∷ w) → ⊥
      other not_so (l, a, low, (v, h, hx), x) = not_so (head_is (tail_is h))

  low_first_step : (h : ℕ) (s w : List ℕ) (b : ℕ) → LowRest h 4 0 s K (b ∷ w) ↔ PieceMeans K w (hex_piece (LowFirst h) s b)
  low_first_step i s w b =
      hex_step (LowRest i 4 0 s K (b ∷ w)) (LowFirst i) s w b (λ h. (low_on i 3 0 b s w h).0) (λ lt.
      by_test (LowRest i 4 0 s K (b ∷ w)) w _ _ (digit_value b == 13)
      (λ e. let is : 0 * 16 + digit_value b ≡ 13 = (let d = eqb-true (digit_value b) 13 e in omega arith) in (
        (λ h. subst (λ (n : ℕ). LowRest i 3 n s K w) is (low_on i 3 0 b s w h).1),
        (λ h. low_off i 3 0 b s w lt (subst (λ (n : ℕ). LowRest i 3 n s K w) (sym is) h)),
      ))
      (λ e. ((λ h. not (eqb-false (digit_value b) 13 e) (low_on i 3 0 b s w h).1), λ h. absurd h)))
    where
      not : (digit_value b ≡ 13 → ⊥) → LowRest i 3 (0 * 16 + digit_value b) s K w → ⊥
      not other (l, a, low, hx, x) = let bounds = three_digits (0 * 16 + digit_value b) l w a hx in other (omega arith)

  low_second_step : (h : ℕ) (s w : List ℕ) (b : ℕ) → LowRest h 3 13 s K (b ∷ w) ↔ PieceMeans K w (hex_piece (LowSecond h) s b)
  low_second_step i s w b =
      let is : 13 * 16 + digit_value b ≡ 208 + digit_value b = omega arith in
      hex_step (LowRest i 3 13 s K (b ∷ w)) (LowSecond i) s w b (λ h. (low_on i 2 13 b s w h).0) (λ lt.
      by_test (LowRest i 3 13 s K (b ∷ w)) w _ _ (nat_lt (digit_value b) 12)
      (λ e. ((λ h. not (ltb-true (digit_value b) 12 e) (low_on i 2 13 b s w h).1), λ h. absurd h))
      (λ e. (
        (λ h. subst (λ (n : ℕ). LowRest i 2 n s K w) is (low_on i 2 13 b s w h).1),
        (λ h. low_off i 2 13 b s w lt (subst (λ (n : ℕ). LowRest i 2 n s K w) (sym is) h)),
      )))
    where
      not : digit_value b < 12 → LowRest i 2 (13 * 16 + digit_value b) s K w → ⊥
      not other (l, a, low, hx, x) = let bounds = two_digits (13 * 16 + digit_value b) l w a hx in omega arith

  low_third_step : (h n : ℕ) (s w : List ℕ) (b : ℕ) → LowRest h 2 n s K (b ∷ w) ↔ PieceMeans K w (hex_piece (LowThird h n) s b)
  low_third_step i n s w b =
      hex_step (LowRest i 2 n s K (b ∷ w)) (LowThird i n) s w b (λ h. (low_on i 1 n b s w h).0) (λ lt. ((λ h. (low_on i 1 n b s w h).1), (λ h. low_off i 1 n b s w lt h)))

  low_fourth_step : (h n : ℕ) (s w : List ℕ) (b : ℕ) → 3520 ≤ n → n < 3584 → LowRest h 1 n s K (b ∷ w) ↔ PieceMeans K w (hex_piece (LowFourth h n) s b)
  low_fourth_step i n s w b low up =
      hex_step (LowRest i 1 n s K (b ∷ w)) (LowFourth i n) s w b (λ h. (low_on i 0 n b s w h).0) (λ lt. ((λ h. to (low_on i 0 n b s w h).1), (λ h. low_off i 0 n b s w lt (n * 16 + digit_value b, w, (omega arith, omega arith), (refl, refl), h))))
    where
      to : LowRest i 0 (n * 16 + digit_value b) s K w → Plainly (s ++ encode_utf8 (pair_of i (n * 16 + digit_value b))) K w
      to (l, a, is, (e, f), x) = subst (λ (y : List ℕ). Plainly (s ++ encode_utf8 (pair_of i (n * 16 + digit_value b))) K y) f (subst (λ (y : ℕ). Plainly (s ++ encode_utf8 (pair_of i y)) K a) e x)

  pub text_step : (e : Escape) (s w : List ℕ) (b : ℕ) → IsWithin e → InText e s K (b ∷ w) ↔ PieceMeans K w (next_piece e s b)
  text_step Plain s w b is = plain_step s w b
  text_step Backslash s w b is = backslash_step s w b
  text_step First s w b is = first_step s w b
  text_step (Second n) s w b is = second_step n s w b
  text_step (Third n) s w b is = fourth_step n s w b
  text_step (Fourth n) s w b is = last_step n s w b
  text_step (High h) s w b is = high_step h s w b
  text_step (HighBackslash h) s w b is = high_u_step h s w b
  text_step (LowFirst h) s w b is = low_first_step h s w b
  text_step (LowSecond h) s w b is = low_second_step h s w b
  text_step (LowThird h n) s w b is = low_third_step h n s w b
  text_step (LowFourth h n) s w b is = low_fourth_step h n s w b is.1 is.2
