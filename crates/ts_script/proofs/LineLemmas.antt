-- Bytes have one list of lines, and each has one.
use Rattle.std.proofs.Common.{◌≡◌, ◌∙◌, sym, ap, refl, subst, ℕ, suc, ◌<◌, ◌⊎◌, inl, inr, List, [], ◌∷◌, ◌++◌, take, drop, zero, ◌+◌, ◌≤◌, Bool, true, false, All, length, arith, rules}
use Rattle.std.proofs.lemmas.List.Elements.{All-nil, All-cons, All-head, All-tail}
use Rattle.std.specs.Prelude.{nat_eq}
use Rattle.memchr.specs.Find.{is_byte, Passes, NoneBefore, Nowhere}
use Rattle.ts_base.specs.Bytes.{Bytes}
use Rattle.ts_script.specs.Cut.{CutsAt}
use Rattle.ts_script.specs.Lines.{newline, HasNoNewline, BeginsWithLine, IsLastLine, AreLines}

abbrev NoNewline : ℕ → Type 0
NoNewline b = b ≡ newline → ⊥

-- ---- one line

one_cut : (l m a b : Bytes) → HasNoNewline l → HasNoNewline m → l ++ newline ∷ a ≡ m ++ newline ∷ b → (l ≡ m) × (a ≡ b)
one_cut [] [] a b p q h = (refl, let e : a ≡ b = cc in e)
one_cut [] (y ∷ m) a b p q h = absurd (All-head NoNewline y m q (let e : y ≡ newline = cc in e))
one_cut (x ∷ l) [] a b p q h = absurd (All-head NoNewline x l p (let e : x ≡ newline = cc in e))
one_cut (x ∷ l) (y ∷ m) a b p q h =
    let rest : l ++ newline ∷ a ≡ m ++ newline ∷ b = cc in
    let same : x ≡ y = cc in
    let both = one_cut l m a b (All-tail NoNewline x l p) (All-tail NoNewline y m q) rest in
    (let left : l ≡ m = both.0 in let e : x ∷ l ≡ y ∷ m = cc in e, both.1)

no_cut : (l m a : Bytes) → HasNoNewline m → l ++ newline ∷ a ≡ m → ⊥
no_cut [] [] a q h = let e : newline ∷ a ≡ [] = h in cc
no_cut [] (y ∷ m) a q h = All-head NoNewline y m q (let e : y ≡ newline = cc in e)
no_cut (x ∷ l) [] a q h = let e : x ∷ (l ++ newline ∷ a) ≡ [] = h in cc
no_cut (x ∷ l) (y ∷ m) a q h = no_cut l m a (All-tail NoNewline y m q) (let e : l ++ newline ∷ a ≡ m = cc in e)

not_empty : (l a : Bytes) → [] ≡ l ++ newline ∷ a → ⊥
not_empty [] a h = cc
not_empty (x ∷ l) a h = cc

-- ---- all lines

pub none_of_none : (lines : List Bytes) → AreLines [] lines → lines ≡ []
none_of_none [] h = refl
none_of_none (l ∷ ls) (inl (after, begins, rest)) = absurd (not_empty l after begins.whole)
none_of_none (l ∷ ls) (inr (last, end)) = absurd (last.some_byte (sym last.whole))

pub one_list : (bytes : Bytes) (some other : List Bytes) → AreLines bytes some → AreLines bytes other → some ≡ other
one_list bytes [] [] p q = refl
one_list bytes [] (m ∷ ms) p q =
    let e = none_of_none (m ∷ ms) (subst (λ (b : Bytes). AreLines b (m ∷ ms)) p q) in absurd cc
one_list bytes (l ∷ ls) [] p q =
    let e = none_of_none (l ∷ ls) (subst (λ (b : Bytes). AreLines b (l ∷ ls)) q p) in absurd cc
one_list bytes (l ∷ ls) (m ∷ ms) (inl (a, p, ps)) (inl (b, q, qs)) =
    let both = one_cut l m a b p.cut q.cut (sym p.whole ∙ q.whole) in
    let line : l ≡ m = both.0 in
    let rest : ls ≡ ms = one_list a ls ms ps (subst (λ (x : Bytes). AreLines x ms) (sym both.1) qs) in
    let e : l ∷ ls ≡ m ∷ ms = cc in e
one_list bytes (l ∷ ls) (m ∷ ms) (inl (a, p, ps)) (inr (q, end)) =
    absurd (no_cut l m a q.cut (sym p.whole ∙ q.whole))
one_list bytes (l ∷ ls) (m ∷ ms) (inr (p, end)) (inl (b, q, qs)) =
    absurd (no_cut m l b p.cut (sym q.whole ∙ p.whole))
one_list bytes (l ∷ ls) (m ∷ ms) (inr (p, end)) (inr (q, other)) =
    let line : l ≡ m = sym p.whole ∙ q.whole in
    let e : l ∷ ls ≡ m ∷ ms = cc in e

-- with one more byte in front of the first line
with_byte : (b : ℕ) (bytes : Bytes) → NoNewline b → (lines : List Bytes) → AreLines bytes lines
    → (more : List Bytes) × AreLines (b ∷ bytes) more
with_byte b bytes other [] h =
    ((b ∷ []) ∷ [], inr (record { cut = All-cons NoNewline b [] other (All-nil NoNewline); whole = ap (λ (x : Bytes). b ∷ x) h; some_byte = λ (e : b ∷ [] ≡ []). cc }, refl))
with_byte b bytes other (l ∷ ls) (inl (after, begins, rest)) =
    ((b ∷ l) ∷ ls, inl (after, record { cut = All-cons NoNewline b l other begins.cut; whole = ap (λ (x : Bytes). b ∷ x) begins.whole }, rest))
with_byte b bytes other (l ∷ ls) (inr (last, end)) =
    ((b ∷ l) ∷ ls, inr (record { cut = All-cons NoNewline b l other last.cut; whole = ap (λ (x : Bytes). b ∷ x) last.whole; some_byte = λ (e : b ∷ l ≡ []). cc }, end))

is_newline : (b : ℕ) → nat_eq b newline ≡ true → b ≡ newline
is_newline b e = search rules

is_another : (b : ℕ) → nat_eq b newline ≡ false → NoNewline b
is_another b e = λ is. let f : true ≡ false = sym (ap (λ (x : ℕ). nat_eq x newline) is) ∙ e in cc

by_byte : (b : ℕ) (bytes : Bytes) → ((lines : List Bytes) × AreLines bytes lines) → (t : Bool) → nat_eq b newline ≡ t
    → (more : List Bytes) × AreLines (b ∷ bytes) more
by_byte b bytes (lines, cut) true e =
    let is : b ≡ newline = is_newline b e in
    ([] ∷ lines, inl (bytes, record { cut = All-nil NoNewline; whole = ap (λ (x : ℕ). x ∷ bytes) is }, cut))
by_byte b bytes (lines, cut) false e =
    with_byte b bytes (is_another b e) lines cut

pub some_list : (bytes : Bytes) → (lines : List Bytes) × AreLines bytes lines
some_list [] = ([], refl)
some_list (b ∷ bytes) = by_byte b bytes (some_list bytes) (nat_eq b newline) refl

-- the first line that is cut off, and those of what comes after
pub cut_and_rest : (bytes line after : Bytes) (lines : List Bytes) → CutsAt bytes line after → AreLines after lines
    → AreLines bytes (line ∷ lines)
cut_and_rest bytes line after lines (inl begins) rest = inl (after, begins, rest)
cut_and_rest bytes line after lines (inr (last, end)) rest =
    inr (last, none_of_none lines (subst (λ (x : Bytes). AreLines x lines) end rest))

-- ---- what a search for a newline tells

pub cut_at : (bytes : Bytes) (k : ℕ) → NoneBefore (Passes (is_byte newline) bytes) 0 (length bytes) k → Passes (is_byte newline) bytes k
    → BeginsWithLine bytes (take k bytes) (drop (k + 1) bytes)
cut_at [] k p q = let high = p.high in absurd (let f : ⊥ = omega (arith, high) in f)
cut_at (b ∷ bytes) zero p q =
    record { cut = All-nil NoNewline; whole = ap (λ (x : ℕ). x ∷ bytes) (is_newline b q) }
cut_at (b ∷ bytes) (suc k) p q =
    let low = p.low in
    let high = p.high in
    let later = cut_at bytes k (record { low = omega arith; high = omega (arith, high); before = λ i l h. p.before (suc i) (omega arith) (omega arith) }) q in
    let first : nat_eq b newline ≡ true → ⊥ = p.before 0 (omega arith) (omega arith) in
    let more : suc k + 1 ≡ suc (k + 1) = omega arith in
    let whole : b ∷ bytes ≡ (b ∷ take k bytes) ++ newline ∷ drop (k + 1) bytes = ap (λ (x : Bytes). b ∷ x) later.whole in
    record {
      cut = All-cons NoNewline b (take k bytes) (λ is. first (rw is refl)) later.cut;
      whole = whole ∙ ap (λ (n : ℕ). (b ∷ take k bytes) ++ newline ∷ drop n (b ∷ bytes)) (sym more);
    }

pub cut_nowhere : (bytes : Bytes) → Nowhere (Passes (is_byte newline) bytes) 0 (length bytes) → HasNoNewline bytes
cut_nowhere [] h = All-nil NoNewline
cut_nowhere (b ∷ bytes) h =
    All-cons NoNewline b bytes (λ is. h 0 (omega arith) (omega arith) (rw is refl)) (cut_nowhere bytes (λ i l k. h (suc i) (omega arith) (omega arith)))
