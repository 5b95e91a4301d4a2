-- Each state has some bytes that complete it, to a value that is not too deep and has no name
-- twice.
use Rattle.std.proofs.Common.{◌≡◌, ℕ, suc, zero, ◌+◌, ◌*◌, ◌<◌, ◌≤◌, ◌⊎◌, inl, inr, List, [], ◌∷◌, ◌++◌, length, drop, Bool, true, false, ◌||◌, nat_lt, refl, sym, ap, subst, ◌∙◌, arith}
use Rattle.std.proofs.lemmas.Bool.{ltb-true, ltb-false}
use Rattle.std.proofs.lemmas.List.{append_assoc, length-append}
use Rattle.std.proofs.lemmas.Slice.Eq.{bytes_eq-Decides}
use Rattle.std.specs.Str.{bytes_eq}
use Rattle.std.specs.Char.{encode_utf8}
use Rattle.ts_ojson.specs.declared.part.Part.{Part}
use Rattle.ts_ojson.specs.declared.part.Part.TheVariants as part
use Rattle.ts_ojson.specs.declared.escape.Escape.{Escape}
use Rattle.ts_ojson.specs.declared.escape.Escape.TheVariants.{Plain, Backslash, First, Second, Third, Fourth, High, HighBackslash, LowFirst, LowSecond, LowThird, LowFourth}
use Rattle.ts_ojson.specs.Frames as frame
use Rattle.ts_ojson.specs.Roles as role
use Rattle.ts_ojson.specs.States.{State}
use Rattle.ts_ojson.specs.States as state
use Rattle.ts_ojson.specs.Json.{Json, number, string, array, object, no_items, item, no_members, member, json_of}
use Rattle.ts_ojson.specs.Number.{Number}
use Rattle.ts_ojson.specs.Characters.{Hex, IsHigh, IsAlone, pair_of, Mark, raw, Characters}
use Rattle.ts_ojson.specs.Gathered.{has_name}
use Rattle.ts_ojson.specs.Strings.{IsWithin}
use Rattle.ts_ojson.specs.Machine.{Frames, Gathered, word_bytes, word_value}
use Rattle.ts_ojson.proofs.Meaning.{Tail, Plainly, Paired, UnitRest, LowRest, InText, onto_items, onto_members, Rest, Begun, Coloned, TextEnd, Completes}
use Rattle.ts_ojson.proofs.NumberLemmas.{tail_end}
use Rattle.ts_ojson.proofs.StringLemmas.{text_step}
use Rattle.ts_ojson.proofs.SoundLemmas.{IsGood, IsSound, IsOpen, StateSound, few_open, array_closed, object_closed, word_good}

-- a value that is read, and bytes that complete to it
abbrev pub Viable : (Json → List ℕ → Type 0) → Type 0
Viable P = (v : Json) × (r : List ℕ) × P v r × IsGood 0 v

close_all : (k : Frames) (j : Json) → IsSound k → IsGood (length k) j → Viable (λ v r. Rest k j v r)
close_all [] j s g = (j, [], (refl, refl), g)
close_all (frame.array xs ∷ k) j s g =
    let c = close_all k (array (onto_items xs (item j no_items))) s.2 (array_closed (length k) xs j s.0 g s.1) in
    (c.0, 93 ∷ c.1, (93 ∷ c.1, no_items, c.1, inl refl, refl, c.2), c.3)
close_all (frame.object ms n ∷ k) j s g =
    let c = close_all k (object (onto_members ms (member n j no_members))) s.4 (object_closed (length k) ms n j s.0 s.1 s.2 g s.3) in
    (c.0, 125 ∷ c.1, (125 ∷ c.1, no_members, c.1, inl refl, refl, c.2), c.3)

zero_number : Number (48 ∷ []) []
zero_number = (48 ∷ [], [], [], inl refl, inl refl, inl refl, inl refl)

begun_viable : (k : Frames) → IsSound k → Viable (λ v r. Begun k v r)
begun_viable k s =
    let le = few_open k s in
    let c = close_all k (number (48 ∷ [])) s (omega arith, tt) in
    (c.0, 48 ∷ c.1, (48 ∷ c.1, number (48 ∷ []), c.1, inl refl, (refl, zero_number), c.2), c.3)

colon_viable : (ms : Gathered) (n : List ℕ) (k : Frames) → IsOpen ms k → has_name n ms ≡ false → Viable (λ v r. Coloned ms n k v r)
colon_viable ms n k s e =
    let c = begun_viable (frame.object ms n ∷ k) (s.0, s.1, e, s.2, s.3) in
    (c.0, 58 ∷ c.1, (c.1, inl refl, c.2), c.3)

-- ---- numbers
tail_viable : (p : Part) → (t : List ℕ) × Tail p t []
tail_viable part.Minus = (48 ∷ [], ([], [], inl refl, inl refl, inl refl))
tail_viable part.Zero = ([], tail_end part.Zero refl)
tail_viable part.Whole = ([], tail_end part.Whole refl)
tail_viable part.Point = (48 ∷ [], ([], (48, [], refl, (omega arith, omega arith), refl), inl refl))
tail_viable part.Fraction = ([], tail_end part.Fraction refl)
tail_viable part.Exponent = (48 ∷ [], (48 ∷ [], inl refl, (48, [], refl, (omega arith, omega arith), refl)))
tail_viable part.Sign = (48 ∷ [], (48, [], refl, (omega arith, omega arith), refl))
tail_viable part.Power = ([], tail_end part.Power refl)

-- ---- strings: some bytes finish a character, and any plain ones may follow
abbrev plain_run : ℕ → List ℕ
plain_run zero = []
plain_run (suc n) = 120 ∷ plain_run n

run_characters : (n : ℕ) (r : List ℕ) → (ms : List Mark) × Characters ms (plain_run n) (plain_run n ++ 34 ∷ r) r
run_characters zero r = ([], (refl, refl))
run_characters (suc n) r =
    let more = run_characters n r in
    (raw 120 ∷ more.0, (plain_run n, plain_run n ++ 34 ∷ r, (omega arith, (λ e. omega arith), (λ e. omega arith)), refl, refl, more.1))

length_run : (n : ℕ) → length (plain_run n) ≡ n
length_run zero = refl
length_run (suc n) = ap suc (length_run n)

-- longer than each name
abbrev longest : Gathered → ℕ
longest [] = 0
longest (m ∷ ms) = length m.0 + longest ms

long_is_new : (n : List ℕ) (ms : Gathered) → longest ms < length n → has_name n ms ≡ false
long_is_new n [] lt = refl
long_is_new n (m ∷ ms) lt = by (bytes_eq n m.0) refl (long_is_new n ms (omega arith))
  where
    by : (t : Bool) → bytes_eq n m.0 ≡ t → has_name n ms ≡ false → (t || has_name n ms) ≡ false
    by true e more = let same = ap length ((bytes_eq-Decides n m.0).0 e) in absurd (omega arith)
    by false e more = more

zeros : (l n : ℕ) (r : List ℕ) → l ≡ n * 256 → Hex 2 n l (48 ∷ 48 ∷ r) r
zeros l n r e = (48, 48 ∷ r, refl, omega arith, (48, r, refl, omega arith, (omega arith, refl)))

module _ (K : List ℕ → List ℕ → Type 0) where
  pair_zeros : (h : ℕ) (s r : List ℕ) → Plainly (s ++ encode_utf8 (pair_of h 56320)) K r → LowRest h 3 13 s K (99 ∷ 48 ∷ 48 ∷ r)
  pair_zeros h s r p = (56320, r, (omega arith, omega arith), (99, 48 ∷ 48 ∷ r, refl, omega arith, zeros 56320 220 r refl), p)

  low_zeros : (h : ℕ) (s r : List ℕ) → Plainly (s ++ encode_utf8 (pair_of h 56320)) K r → LowRest h 4 0 s K (100 ∷ 99 ∷ 48 ∷ 48 ∷ r)
  low_zeros h s r p = let d = pair_zeros h s r p in (d.0, d.1, d.2, (100, 99 ∷ 48 ∷ 48 ∷ r, refl, omega arith, d.3), d.4)

  paired : (h : ℕ) (s r : List ℕ) → Plainly (s ++ encode_utf8 (pair_of h 56320)) K r → Paired h s K (92 ∷ 117 ∷ 100 ∷ 99 ∷ 48 ∷ 48 ∷ r)
  paired h s r p = let d = low_zeros h s r p in (d.0, d.1, d.2, (100 ∷ 99 ∷ 48 ∷ 48 ∷ r, refl, d.3), d.4)

abbrev Units : ℕ → ℕ → List ℕ → List ℕ → List ℕ → Type 1
Units c n s z q = (K : List ℕ → List ℕ → Type 0) (r : List ℕ) → Plainly q K r → UnitRest c n s K (z ++ r)

finish_alone : (c n u : ℕ) (z s : List ℕ) → ((r : List ℕ) → Hex c n u (z ++ r) r) → IsAlone u → Units c n s z (s ++ encode_utf8 u)
finish_alone c n u z s hx is K r p = (u, r, hx r, inl (is, p))

finish_high : (c n u : ℕ) (z s : List ℕ) → ((r : List ℕ) → Hex c n u (z ++ r) r) → IsHigh u
    → Units c n s (z ++ 92 ∷ 117 ∷ 100 ∷ 99 ∷ 48 ∷ 48 ∷ []) (s ++ encode_utf8 (pair_of u 56320))
finish_high c n u z s hx is K r p =
    subst (λ (x : List ℕ). UnitRest c n s K x) (sym (append_assoc z (92 ∷ 117 ∷ 100 ∷ 99 ∷ 48 ∷ 48 ∷ []) r))
    (u, 92 ∷ 117 ∷ 100 ∷ 99 ∷ 48 ∷ 48 ∷ r, hx (92 ∷ 117 ∷ 100 ∷ 99 ∷ 48 ∷ 48 ∷ r), inr (is, paired K u s r p))

finish_unit : (c n u : ℕ) (z s : List ℕ) → ((r : List ℕ) → Hex c n u (z ++ r) r) → IsAlone u ⊎ IsHigh u → (y : List ℕ) × (q : List ℕ) × Units c n s y q
finish_unit c n u z s hx (inl is) = (z, s ++ encode_utf8 u, finish_alone c n u z s hx is)
finish_unit c n u z s hx (inr is) = (z ++ 92 ∷ 117 ∷ 100 ∷ 99 ∷ 48 ∷ 48 ∷ [], s ++ encode_utf8 (pair_of u 56320), finish_high c n u z s hx is)

sort_unit : (u : ℕ) → (u < 56320) ⊎ (57344 ≤ u) → IsAlone u ⊎ IsHigh u
sort_unit u (inr h) = inl (inr h)
sort_unit u (inl h) = by (nat_lt u 55296) refl
  where
    by : (t : Bool) → nat_lt u 55296 ≡ t → IsAlone u ⊎ IsHigh u
    by true e = inl (inl (ltb-true u 55296 e))
    by false e = inr (ltb-false u 55296 e, h)

second_unit : (n : ℕ) → n < 16 → (n * 4096 < 56320) ⊎ (57344 ≤ n * 4096)
second_unit n lt = by (nat_lt n 14) refl
  where
    by : (t : Bool) → nat_lt n 14 ≡ t → (n * 4096 < 56320) ⊎ (57344 ≤ n * 4096)
    by true e = let h = ltb-true n 14 e in inl (omega arith)
    by false e = let h = ltb-false n 14 e in inr (omega arith)

third_unit : (n : ℕ) → (n < 220) ⊎ ((224 ≤ n) × (n < 256)) → (n * 256 < 56320) ⊎ (57344 ≤ n * 256)
third_unit n (inl h) = inl (omega arith)
third_unit n (inr h) = inr (omega arith)

fourth_unit : (n : ℕ) → (n < 3520) ⊎ ((3584 ≤ n) × (n < 4096)) → (n * 16 < 56320) ⊎ (57344 ≤ n * 16)
fourth_unit n (inl h) = inl (omega arith)
fourth_unit n (inr h) = inr (omega arith)

-- some bytes finish a character
finish : (e : Escape) (s : List ℕ) → IsWithin e → (z : List ℕ) × (q : List ℕ) × ((K : List ℕ → List ℕ → Type 0) (r : List ℕ) → Plainly q K r → InText e s K (z ++ r))
finish Plain s is = ([], s, λ K r p. p)
finish Backslash s is = (110 ∷ [], s ++ 10 ∷ [], λ K r p. (text_step K Backslash s r 110 tt).1 p)
finish First s is = finish_unit 4 0 0 (48 ∷ 48 ∷ 48 ∷ 48 ∷ []) s (λ r. (48, 48 ∷ 48 ∷ 48 ∷ r, refl, omega arith, (48, 48 ∷ 48 ∷ r, refl, omega arith, zeros 0 0 r refl))) (inl (inl (omega arith)))
finish (Second n) s is = finish_unit 3 n (n * 4096) (48 ∷ 48 ∷ 48 ∷ []) s (λ r. (48, 48 ∷ 48 ∷ r, refl, omega arith, zeros (n * 4096) (n * 16 + 0) r (omega arith))) (sort_unit (n * 4096) (second_unit n is))
finish (Third n) s is = finish_unit 2 n (n * 256) (48 ∷ 48 ∷ []) s (λ r. zeros (n * 256) n r refl) (sort_unit (n * 256) (third_unit n is))
finish (Fourth n) s is = finish_unit 1 n (n * 16) (48 ∷ []) s (λ r. (48, r, refl, omega arith, (omega arith, refl))) (sort_unit (n * 16) (fourth_unit n is))
finish (High h) s is = (92 ∷ 117 ∷ 100 ∷ 99 ∷ 48 ∷ 48 ∷ [], s ++ encode_utf8 (pair_of h 56320), λ K r p. paired K h s r p)
finish (HighBackslash h) s is = (117 ∷ 100 ∷ 99 ∷ 48 ∷ 48 ∷ [], s ++ encode_utf8 (pair_of h 56320), λ K r p. paired K h s r p)
finish (LowFirst h) s is = (100 ∷ 99 ∷ 48 ∷ 48 ∷ [], s ++ encode_utf8 (pair_of h 56320), λ K r p. low_zeros K h s r p)
finish (LowSecond h) s is = (99 ∷ 48 ∷ 48 ∷ [], s ++ encode_utf8 (pair_of h 56320), λ K r p. pair_zeros K h s r p)
finish (LowThird h n) s is = (48 ∷ 48 ∷ [], s ++ encode_utf8 (pair_of h (n * 256)), λ K r p. (n * 256, r, (omega (arith, is.1, is.2), omega (arith, is.1, is.2)), zeros (n * 256) n r refl, p))
finish (LowFourth h n) s is = (48 ∷ [], s ++ encode_utf8 (pair_of h (n * 16)), λ K r p. (n * 16, r, (omega (arith, is.1, is.2), omega (arith, is.1, is.2)), (48, r, refl, omega arith, (omega arith, refl)), p))

-- a string of which a part is read can end, and be as long as one likes
end_text : (e : Escape) (s : List ℕ) → IsWithin e → (n : ℕ) → (z : List ℕ) × (q : List ℕ) × (n ≤ length q) × ((K : List ℕ → List ℕ → Type 0) (r : List ℕ) → K q r → InText e s K (z ++ r))
end_text e s is n =
    let f = finish e s is in
    let long : n ≤ length (f.1 ++ plain_run n) = omega (arith, length-append f.1 (plain_run n), length_run n) in (
      f.0 ++ (plain_run n ++ 34 ∷ []),
      f.1 ++ plain_run n,
      long,
      λ K r k. let run = run_characters n r in
          subst (λ (x : List ℕ). InText e s K x) (sym (append_assoc f.0 (plain_run n ++ 34 ∷ []) r ∙ ap (λ x. f.0 ++ x) (append_assoc (plain_run n) (34 ∷ []) r)))
          (f.2 K (plain_run n ++ 34 ∷ r) (run.0, plain_run n, r, run.1, k)),
    )

pub viable : (s : State) (k : Frames) → StateSound s k → Viable (λ v r. Completes s k v r)
viable state.value k s = begun_viable k s
viable state.first_item k s =
    let c = close_all k (array no_items) s.1 (let le = s.0 in omega arith, tt) in
    (c.0, 93 ∷ c.1, (no_items, c.1, inl refl, c.2), c.3)
viable (state.after o) k s = close_all k (json_of o) s.1 s.0
viable state.first_name k s =
    let c = close_all k (object no_members) s.1 (let le = s.0 in omega arith, (tt, tt)) in
    (c.0, 125 ∷ c.1, (no_members, c.1, inl refl, c.2), c.3)
viable (state.name ms) k s =
    let n = suc (longest ms) in
    let long : longest ms < length (plain_run n) = omega (arith, length_run n) in
    let c = colon_viable ms (plain_run n) k s (long_is_new (plain_run n) ms long) in
    let run = run_characters n c.1 in
    (c.0, 34 ∷ (plain_run n ++ 34 ∷ c.1), (34 ∷ (plain_run n ++ 34 ∷ c.1), plain_run n, c.1, inl refl, (plain_run n ++ 34 ∷ c.1, run.0, refl, run.1), c.2), c.3)
viable (state.colon ms n) k s = colon_viable ms n k s.0 s.1
viable (state.word x i) k s =
    let c = close_all k (json_of (word_value x)) s.1 (word_good x (length k) (few_open k s.1)) in
    (c.0, drop i (word_bytes x) ++ c.1, (c.1, refl, c.2), c.3)
viable (state.number p t) k s =
    let n = tail_viable p in
    let le = few_open k s in
    let c = close_all k (number (t ++ n.0)) s (omega arith, tt) in
    (c.0, n.0 ++ c.1, (n.0, c.1, refl, n.1, c.2), c.3)
viable (state.text e t role.value) k s =
    let le = few_open k s.1 in
    let f = end_text e t s.0 0 in
    let c = close_all k (string f.1) s.1 (omega arith, tt) in
    (c.0, f.0 ++ c.1, f.3 (TextEnd role.value k c.0) c.1 c.2, c.3)
viable (state.text e t (role.name p ms)) k s =
    let f = end_text e t s.0 (suc (longest ms)) in
    let c = colon_viable ms f.1 k s.1 (long_is_new f.1 ms f.2) in
    (c.0, f.0 ++ c.1, f.3 (TextEnd (role.name p ms) k c.0) c.1 c.2, c.3)
