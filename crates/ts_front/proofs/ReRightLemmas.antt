-- An expression that is fit, whose counts have 32 bits and that nests no deeper than a language file
-- has it, is right in one.
use Rattle.std.proofs.Common.{◌≡◌, ◌∙◌, sym, ap, subst, refl, ℕ, zero, suc, ◌+◌, ◌<◌, ◌≤◌, ◌^◌, max, ◌⊎◌, inl, inr, Bool, true, false, ◌&&◌, ◌||◌, nat_lt, nat_le, List, [], ◌∷◌, ◌++◌, map, length, Option, Some, None, arith}
use Rattle.std.specs.List.{AllByRecursion, flat_map}
use Rattle.std.proofs.lemmas.List.{length-map}
use Rattle.std.proofs.lemmas.List.Elements.{recursion_from_All}
use Rattle.ts_core.specs.declared.re.Re.{Re}
use Rattle.ts_core.specs.declared.re.Re.TheOpen.{Re-F}
use Rattle.ts_core.specs.declared.re.Re.TheVariants.{Set, Cat, Alt, Repeat}
use Rattle.ts_core.specs.declared.re.Re.TheVariants.{rolls-Empty, rolls-Set, rolls-Cat, rolls-Alt, rolls-Repeat}
use Rattle.ts_core.specs.declared.re.Re.TheFolds.{fold-roll-Re}
use Rattle.ts_core.specs.declared.re.Re.TheViews.{roll-Re, out-Re, roll-out-Re}
use Rattle.spec_lexing.specs.Words.{Regular, one_of, repeat, all_of, any_of, regular_step, regular_of}
use Rattle.spec_tables.specs.Fit.{IsCharacter, IsRange, AreApartRanges, IsSet, IsInOrder, IsFormed, IsFitRe, lengths, lengths_step}
use Rattle.ts_langfile.specs.Parts.{is_character, behind_range, most_levels}
use Rattle.ts_langfile.specs.Right.{InTurn, RightRange, RightMost, RightRe}
use Rattle.ts_front.specs.Nesting.{greatest, levels, IsShallow}
use Rattle.ts_front.specs.Typed.{count_of, greatest_count, HasShortCounts}
use Rattle.ts_front.proofs.CountLemmas.{CountsTo, max_parts, mapped_parts, count_cat, count_alt, count_repeat, levels_empty, levels_set, levels_cat, levels_alt, levels_repeat}

-- ---- tests

pub true_le : (a b : ℕ) → a ≤ b → nat_le a b ≡ true
true_le a b e = grind arith

pub true_lt : (a b : ℕ) → a < b → nat_lt a b ≡ true
true_lt a b e = grind arith

pub true_and : (a b : Bool) → a ≡ true → b ≡ true → (a && b) ≡ true
true_and a b e f = rw (e, f) refl

true_left : (a b : Bool) → a ≡ true → (a || b) ≡ true
true_left a b e = rw e refl

true_right : (a b : Bool) → b ≡ true → (a || b) ≡ true
true_right true b e = refl
true_right false b e = e

-- ---- sets

character_is : (c : ℕ) → IsCharacter c → is_character c ≡ true
character_is c (inl low) = true_left (nat_lt c 55296) (nat_le 57344 c && nat_lt c 1114112) (true_lt c 55296 low)
character_is c (inr high) = true_right (nat_lt c 55296) (nat_le 57344 c && nat_lt c 1114112) (true_and (nat_le 57344 c) (nat_lt c 1114112) (true_le 57344 c high.0) (true_lt c 1114112 high.1))

side_is : (low high : ℕ) → (high < 55296) ⊎ (57344 ≤ low) → (nat_lt high 55296 || nat_le 57344 low) ≡ true
side_is low high (inl below) = true_left (nat_lt high 55296) (nat_le 57344 low) (true_lt high 55296 below)
side_is low high (inr above) = true_right (nat_lt high 55296) (nat_le 57344 low) (true_le 57344 low above)

small_character : (c : ℕ) → IsCharacter c → c < 2 ^ 32
small_character c (inl low) = omega (arith, low)
small_character c (inr high) = let lt = high.1 in omega (arith, lt)

range_is : (least : ℕ) (r : ℕ × ℕ) → least ≤ r.0 → IsRange r → RightRange least r
range_is least r le h = (
  (small_character r.0 h.1, true_and (is_character r.0) (nat_le least r.0) (character_is r.0 h.1) (true_le least r.0 le)),
  (
    small_character r.1 h.2,
    true_and (is_character r.1 && nat_le r.0 r.1) (nat_lt r.1 55296 || nat_le 57344 r.0)
        (true_and (is_character r.1) (nat_le r.0 r.1) (character_is r.1 h.2) (true_le r.0 r.1 h.0)) (side_is r.0 r.1 h.3),
  ),
)

ranges_are : (least : ℕ) (r : ℕ × ℕ) (ranges : List (ℕ × ℕ)) → least ≤ r.0 → AllByRecursion IsRange (r ∷ ranges) → AreApartRanges (r ∷ ranges) → InTurn RightRange behind_range least (r ∷ ranges)
ranges_are least r [] le all apart = (range_is least r le all.0, tt)
ranges_are least r (s ∷ ranges) le all apart =
    let gap = apart.0 in
    (range_is least r le all.0, ranges_are (behind_range least r) s ranges (omega (arith, gap)) all.1 apart.1)

set_is : (ranges : List (ℕ × ℕ)) → IsSet ranges → (length ranges < 2 ^ 32) × InTurn RightRange behind_range 0 ranges
set_is [] h = (h.0, tt)
set_is (r ∷ ranges) h = (h.0, ranges_are 0 r ranges (omega arith) (recursion_from_All IsRange (r ∷ ranges) h.1) h.2)

-- ---- by kind

regular_set : (ranges : List (ℕ × ℕ)) → regular_of (Set ranges) ≡ one_of ranges
regular_set ranges = ap regular_of (sym (rolls-Set ranges)) ∙ fold-roll-Re Regular regular_step (Re-F.Set ranges)

regular_cat : (parts : List Re) → regular_of (Cat parts) ≡ all_of (map regular_of parts)
regular_cat parts = ap regular_of (sym (rolls-Cat parts)) ∙ fold-roll-Re Regular regular_step (Re-F.Cat parts)

regular_alt : (parts : List Re) → regular_of (Alt parts) ≡ any_of (map regular_of parts)
regular_alt parts = ap regular_of (sym (rolls-Alt parts)) ∙ fold-roll-Re Regular regular_step (Re-F.Alt parts)

regular_repeat : (inner : Re) (least : ℕ) (most : Option ℕ) → regular_of (Repeat inner least most) ≡ repeat (regular_of inner) least most
regular_repeat inner least most = ap regular_of (sym (rolls-Repeat inner least most)) ∙ fold-roll-Re Regular regular_step (Re-F.Repeat inner least most)

abbrev all_lengths : List Re → List ℕ
all_lengths parts = length (map lengths parts) ∷ flat_map (λ (part : List ℕ). part) (map lengths parts)

lengths_cat : (parts : List Re) → lengths (Cat parts) ≡ all_lengths parts
lengths_cat parts = ap lengths (sym (rolls-Cat parts)) ∙ fold-roll-Re (List ℕ) lengths_step (Re-F.Cat parts)

lengths_alt : (parts : List Re) → lengths (Alt parts) ≡ all_lengths parts
lengths_alt parts = ap lengths (sym (rolls-Alt parts)) ∙ fold-roll-Re (List ℕ) lengths_step (Re-F.Alt parts)

lengths_repeat : (inner : Re) (least : ℕ) (most : Option ℕ) → lengths (Repeat inner least most) ≡ lengths inner
lengths_repeat inner least most = ap lengths (sym (rolls-Repeat inner least most)) ∙ fold-roll-Re (List ℕ) lengths_step (Re-F.Repeat inner least most)

-- ---- what is asked of an expression

abbrev IsFew : ℕ → Type 0
IsFew n = n < 2 ^ 32

abbrev most : ℕ
most = 4294967295

abbrev Formed : Re → Type 0
Formed r = IsFormed (regular_of r) × AllByRecursion IsFew (lengths r) × CountsTo most r

few_parts : (xs ys : List ℕ) → AllByRecursion IsFew (xs ++ ys) → AllByRecursion IsFew xs × AllByRecursion IsFew ys
few_parts [] ys h = (tt, h)
few_parts (x ∷ xs) ys h = let r = few_parts xs ys h.1 in ((h.0, r.0), r.1)

module _ (n : ℕ) (to : (r : Re) → levels r ≤ n → Formed r → RightRe n r) where
  all_right : (parts : List Re) → AllByRecursion (λ (r : Re). levels r ≤ n) parts → IsFormed (all_of (map regular_of parts)) → AllByRecursion IsFew (flat_map (λ (part : List ℕ). part) (map lengths parts))
      → AllByRecursion (CountsTo most) parts → AllByRecursion (RightRe n) parts
  all_right [] low formed few counts = tt
  all_right (r ∷ parts) low formed few counts =
      let both = few_parts (lengths r) (flat_map (λ (part : List ℕ). part) (map lengths parts)) few in
      (to r low.0 (formed.0, both.0, counts.0), all_right parts low.1 formed.1 both.1 counts.1)

  any_right : (parts : List Re) → AllByRecursion (λ (r : Re). levels r ≤ n) parts → IsFormed (any_of (map regular_of parts)) → AllByRecursion IsFew (flat_map (λ (part : List ℕ). part) (map lengths parts))
      → AllByRecursion (CountsTo most) parts → AllByRecursion (RightRe n) parts
  any_right [] low formed few counts = tt
  any_right (r ∷ parts) low formed few counts =
      let both = few_parts (lengths r) (flat_map (λ (part : List ℕ). part) (map lengths parts)) few in
      (to r low.0 (formed.0, both.0, counts.0), any_right parts low.1 formed.1 both.1 counts.1)

  short_list : (parts : List Re) → length (map lengths parts) < 2 ^ 32 → length parts < 2 ^ 32
  short_list parts lt = let e : length (map lengths parts) ≡ length parts = length-map parts lengths in omega (arith, lt, e)

  lower : (a b : ℕ) → a ≡ 1 + b → a ≤ suc n → b ≤ n
  lower a b e h = omega (arith, e, h)

  most_right : (least : ℕ) (o : Option ℕ) → IsInOrder least o → count_of o ≤ most → RightMost least o
  most_right least None order le = tt
  most_right least (Some m) order le = (omega (arith, le), true_le least m order)

  layer_right : (layer : Re-F Re) → levels (roll-Re layer) ≤ suc n → Formed (roll-Re layer) → RightRe (suc n) (roll-Re layer)
  layer_right Re-F.Empty h f = (0, omega arith, rolls-Empty)
  layer_right (Re-F.Set ranges) h f =
      let formed : IsFormed (one_of ranges) = subst (λ (x : Regular). IsFormed x) (ap regular_of (rolls-Set ranges) ∙ regular_set ranges) f.0 in
      (1, omega arith, (ranges, rolls-Set ranges, set_is ranges formed))
  layer_right (Re-F.Cat parts) h f =
      let low = mapped_parts levels n parts (lower (levels (roll-Re (Re-F.Cat parts))) (greatest (map levels parts)) (ap levels (rolls-Cat parts) ∙ levels_cat parts) h) in
      let formed : IsFormed (all_of (map regular_of parts)) = subst (λ (x : Regular). IsFormed x) (ap regular_of (rolls-Cat parts) ∙ regular_cat parts) f.0 in
      let few : AllByRecursion IsFew (all_lengths parts) = subst (λ (x : List ℕ). AllByRecursion IsFew x) (ap lengths (rolls-Cat parts) ∙ lengths_cat parts) f.1 in
      let counts = mapped_parts greatest_count most parts (subst (λ (x : ℕ). x ≤ most) (ap greatest_count (rolls-Cat parts) ∙ count_cat parts) f.2) in
      (2, omega arith, (parts, rolls-Cat parts, (short_list parts few.0, all_right parts low formed few.1 counts)))
  layer_right (Re-F.Alt parts) h f =
      let low = mapped_parts levels n parts (lower (levels (roll-Re (Re-F.Alt parts))) (greatest (map levels parts)) (ap levels (rolls-Alt parts) ∙ levels_alt parts) h) in
      let formed : IsFormed (any_of (map regular_of parts)) = subst (λ (x : Regular). IsFormed x) (ap regular_of (rolls-Alt parts) ∙ regular_alt parts) f.0 in
      let few : AllByRecursion IsFew (all_lengths parts) = subst (λ (x : List ℕ). AllByRecursion IsFew x) (ap lengths (rolls-Alt parts) ∙ lengths_alt parts) f.1 in
      let counts = mapped_parts greatest_count most parts (subst (λ (x : ℕ). x ≤ most) (ap greatest_count (rolls-Alt parts) ∙ count_alt parts) f.2) in
      (3, omega arith, (parts, rolls-Alt parts, (short_list parts few.0, any_right parts low formed few.1 counts)))
  layer_right (Re-F.Repeat inner least o) h f =
      let low = lower (levels (roll-Re (Re-F.Repeat inner least o))) (levels inner) (ap levels (rolls-Repeat inner least o) ∙ levels_repeat inner least o) h in
      let formed : IsFormed (repeat (regular_of inner) least o) = subst (λ (x : Regular). IsFormed x) (ap regular_of (rolls-Repeat inner least o) ∙ regular_repeat inner least o) f.0 in
      let few : AllByRecursion IsFew (lengths inner) = subst (λ (x : List ℕ). AllByRecursion IsFew x) (ap lengths (rolls-Repeat inner least o) ∙ lengths_repeat inner least o) f.1 in
      let counts : max (greatest_count inner) (max least (count_of o)) ≤ most = subst (λ (x : ℕ). x ≤ most) (ap greatest_count (rolls-Repeat inner least o) ∙ count_repeat inner least o) f.2 in
      let both = max_parts (greatest_count inner) (max least (count_of o)) most counts in
      let ends = max_parts least (count_of o) most both.1 in
      let few_least = ends.0 in
      (4, omega arith, (inner, least, o, rolls-Repeat inner least o, to inner low (formed.1, few, both.0), omega (arith, few_least), most_right least o formed.0 ends.1))

some_levels : (layer : Re-F Re) → levels (roll-Re layer) ≤ 0 → ⊥
some_levels Re-F.Empty h = let e = ap levels rolls-Empty ∙ levels_empty in omega (arith, e, h)
some_levels (Re-F.Set ranges) h = let e = ap levels (rolls-Set ranges) ∙ levels_set ranges in omega (arith, e, h)
some_levels (Re-F.Cat parts) h = let e = ap levels (rolls-Cat parts) ∙ levels_cat parts in omega (arith, e, h)
some_levels (Re-F.Alt parts) h = let e = ap levels (rolls-Alt parts) ∙ levels_alt parts in omega (arith, e, h)
some_levels (Re-F.Repeat inner least o) h = let e = ap levels (rolls-Repeat inner least o) ∙ levels_repeat inner least o in omega (arith, e, h)

right_by : (n : ℕ) (r : Re) → levels r ≤ n → Formed r → RightRe n r
right_by zero r h f = absurd (some_levels (out-Re r) (subst (λ (s : Re). levels s ≤ 0) (sym (roll-out-Re r)) h))
right_by (suc n) r h f =
    subst (RightRe (suc n)) (roll-out-Re r)
    (layer_right n (right_by n) (out-Re r) (subst (λ (s : Re). levels s ≤ suc n) (sym (roll-out-Re r)) h) (subst Formed (sym (roll-out-Re r)) f))

pub re_right : (r : Re) → IsFitRe r → HasShortCounts r → IsShallow r → RightRe most_levels r
re_right r fit counts low = right_by most_levels r low (fit.0, recursion_from_All IsFew (lengths r) fit.1, omega (arith, counts))
