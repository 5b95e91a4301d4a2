-- When the empty list is a word of a regular expression.
use Rattle.std.proofs.Common.{◌≡◌, ◌∙◌, sym, ap, refl, arith, subst, ℕ, zero, suc, ◌+◌, ◌<◌, ◌≤◌, Bool, true, false, IsTrue, ◌↔◌, List, [], ◌∷◌, map, ◌++◌, length, get_or, drop, Option}
use Rattle.std.proofs.lemmas.List.{drop_more}
use Rattle.ts_core.specs.declared.re.Re.{Re}
use Rattle.ts_core.specs.declared.re.Re.TheOpen.{Re-F}
use Rattle.ts_core.specs.declared.re.Re.TheFolds.{fold-roll-Re}
use Rattle.ts_core.specs.declared.re.Re.TheVariants.{Repeat, rolls-Repeat}
use Rattle.spec_lexing.specs.Words.{Regular, both, repeat, all_of, regular_step, regular_of, Times, AtMost, Word}

nothing_parts : (u v : List ℕ) → [] ≡ u ++ v → (u ≡ []) × (v ≡ [])
nothing_parts [] v e = (refl, sym e)
nothing_parts (x ∷ u) v e = cc

pub both_nothing : (p q : Regular) → Word (both p q) [] ↔ (Word p [] × Word q [])
both_nothing p q = (λ w. split w, λ w. ([], [], refl, w.0, w.1))
  where
    split : Word (both p q) [] → Word p [] × Word q []
    split w =
        let parts = nothing_parts w.0 w.1 w.2 in
        (subst (λ (u : List ℕ). Word p u) parts.0 w.3, subst (λ (v : List ℕ). Word q v) parts.1 w.4)

-- ---- repeats

times_nothing : (p : Regular) (k : ℕ) → Word p [] → Times (Word p) k []
times_nothing p zero w = refl
times_nothing p (suc k) w = ([], [], refl, w, times_nothing p k w)

first_nothing : (p : Regular) (k : ℕ) → Times (Word p) (suc k) [] → Word p []
first_nothing p k w = let parts = nothing_parts w.0 w.1 w.2 in subst (λ (u : List ℕ). Word p u) parts.0 w.3

some_time : (p : Regular) (least k : ℕ) → 0 < least → least ≤ k → Times (Word p) k [] → Word p []
some_time p least zero low h w = absurd (omega arith)
some_time p least (suc k) low h w = first_nothing p k w

pub repeat_some : (p : Regular) (least : ℕ) (most : Option ℕ) → AtMost least most → 0 < least → Word (repeat p least most) [] ↔ Word p []
repeat_some p least most a low = (λ w. some_time p least w.0 low w.1 w.3, λ w. (least, omega arith, a, times_nothing p least w))

regular_repeat : (inner : Re) (least : ℕ) (most : Option ℕ) → regular_of (Repeat inner least most) ≡ repeat (regular_of inner) least most
regular_repeat inner least most = ap regular_of (sym (rolls-Repeat inner least most)) ∙ fold-roll-Re Regular regular_step (Re-F.Repeat inner least most)

-- the test of a repeat with a least of 1 or more
pub tested_repeat : (re inner : Re) (least : ℕ) (most : Option ℕ) (b : Bool) → re ≡ Repeat inner least most → AtMost least most → (least ≡ 0 → ⊥)
    → IsTrue b ↔ Word (regular_of inner) [] → IsTrue b ↔ Word (regular_of re) []
tested_repeat re inner least most b is a low h =
    let same = repeat_some (regular_of inner) least most a (omega arith) in
    let e : regular_of re ≡ repeat (regular_of inner) least most = ap regular_of is ∙ regular_repeat inner least most in
    (λ t. subst (λ (x : Regular). Word x []) (sym e) (same.1 (h.0 t)), λ w. h.1 (same.0 (subst (λ (x : Regular). Word x []) e w)))

-- ---- lists

pub all_more : (parts : List Re) (i : ℕ) (part : Re) → i < length parts → part ≡ get_or parts i part
    → Word (all_of (map regular_of (drop i parts))) [] ↔ (Word (regular_of part) [] × Word (all_of (map regular_of (drop (i + 1) parts))) [])
all_more parts i part lt is =
    let e : drop i parts ≡ part ∷ drop (i + 1) parts = drop_more parts i part lt ∙ ap (λ (y : Re). y ∷ drop (i + 1) parts) (sym is) in
    subst (λ (ps : List Re). Word (all_of (map regular_of ps)) [] ↔ (Word (regular_of part) [] × Word (all_of (map regular_of (drop (i + 1) parts))) [])) (sym e)
    (both_nothing (regular_of part) (all_of (map regular_of (drop (i + 1) parts))))

-- ---- a test that failed or held

pub unmatched : (b : Bool) (P : Type 0) → b ≡ false → IsTrue b ↔ P → P → ⊥
unmatched b P wrong h p = let right : b ≡ true = h.1 p in let e : true ≡ false = sym right ∙ wrong in cc

pub one_unmatched : (parts : List Re) (i : ℕ) (part : Re) (b : Bool) → i < length parts → part ≡ get_or parts i part → b ≡ false
    → IsTrue b ↔ Word (regular_of part) []
    → Word (all_of (map regular_of parts)) [] ↔ Word (all_of (map regular_of (drop i parts))) []
    → IsTrue false ↔ Word (all_of (map regular_of parts)) []
one_unmatched parts i part b lt is wrong h before =
    (λ t. absurd (let e : true ≡ false = sym t in cc), λ w. absurd (unmatched b (Word (regular_of part) []) wrong h ((all_more parts i part lt is).0 (before.0 w)).0))

pub one_matched : (parts : List Re) (i : ℕ) (part : Re) (b : Bool) → i < length parts → part ≡ get_or parts i part → b ≡ true
    → IsTrue b ↔ Word (regular_of part) []
    → Word (all_of (map regular_of parts)) [] ↔ Word (all_of (map regular_of (drop i parts))) []
    → Word (all_of (map regular_of parts)) [] ↔ Word (all_of (map regular_of (drop (i + 1) parts))) []
one_matched parts i part b lt is right h before =
    (λ w. ((all_more parts i part lt is).0 (before.0 w)).1, λ w. before.1 ((all_more parts i part lt is).1 (h.0 right, w)))
