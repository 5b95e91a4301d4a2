-- The counts and the levels of a regular expression, by its kind; and what a pattern reads as has no
-- count of more than 32 bits.
use Rattle.std.proofs.Common.{◌≡◌, ◌∙◌, sym, ap, subst, refl, ℕ, ◌+◌, ◌≤◌, max, Bool, true, false, nat_lt, if◌then◌else◌, List, [], ◌∷◌, ◌++◌, map, Option, Some, None, arith}
use Rattle.std.specs.List.{AllByRecursion}
use Rattle.std.specs.Str.{chars}
use Rattle.std.proofs.Math.Nat.{le-max_left, le-max_right, max-le}
use Rattle.ts_base.specs.Bytes.{Bytes}
use Rattle.ts_core.specs.declared.re.Re.{Re}
use Rattle.ts_core.specs.declared.re.Re.TheOpen.{Re-F}
use Rattle.ts_core.specs.declared.re.Re.TheVariants.{Empty, Set, Cat, Alt, Repeat}
use Rattle.ts_core.specs.declared.re.Re.TheVariants.{rolls-Empty, rolls-Set, rolls-Cat, rolls-Alt, rolls-Repeat}
use Rattle.ts_core.specs.declared.re.Re.TheFolds.{fold-roll-Re}
use Rattle.ts_pattern.specs.Limits.{most_nested, most_counted, most_positions}
use Rattle.ts_pattern.specs.Reads.{Reads}
use Rattle.ts_pattern.specs.Trees.{Pattern, only, or, Branch, more, Piece, once, times, Atom, set, group, joined_parts, chosen, branches_of, pieces_of, piece_re, atom_re, nesting, positions, greatest as greatest_in, branch_greatest, piece_greatest, atom_greatest, limit_passed}
use Rattle.ts_pattern.specs.Trees.{empty as nothing}
use Rattle.ts_rules.specs.Tokens.{cat_of, alt_of, one_char}
use Rattle.ts_front.specs.Nesting.{greatest, levels, levels_step}
use Rattle.ts_front.specs.Typed.{count_of, count_step, greatest_count, HasShortCounts}

-- ---- by kind

pub count_empty : greatest_count Empty ≡ 0
count_empty = ap greatest_count (sym rolls-Empty) ∙ fold-roll-Re ℕ count_step Re-F.Empty

pub count_set : (ranges : List (ℕ × ℕ)) → greatest_count (Set ranges) ≡ 0
count_set ranges = ap greatest_count (sym (rolls-Set ranges)) ∙ fold-roll-Re ℕ count_step (Re-F.Set ranges)

pub count_cat : (parts : List Re) → greatest_count (Cat parts) ≡ greatest (map greatest_count parts)
count_cat parts = ap greatest_count (sym (rolls-Cat parts)) ∙ fold-roll-Re ℕ count_step (Re-F.Cat parts)

pub count_alt : (parts : List Re) → greatest_count (Alt parts) ≡ greatest (map greatest_count parts)
count_alt parts = ap greatest_count (sym (rolls-Alt parts)) ∙ fold-roll-Re ℕ count_step (Re-F.Alt parts)

pub count_repeat : (inner : Re) (least : ℕ) (most : Option ℕ) → greatest_count (Repeat inner least most) ≡ max (greatest_count inner) (max least (count_of most))
count_repeat inner least most = ap greatest_count (sym (rolls-Repeat inner least most)) ∙ fold-roll-Re ℕ count_step (Re-F.Repeat inner least most)

pub levels_empty : levels Empty ≡ 1
levels_empty = ap levels (sym rolls-Empty) ∙ fold-roll-Re ℕ levels_step Re-F.Empty

pub levels_set : (ranges : List (ℕ × ℕ)) → levels (Set ranges) ≡ 1
levels_set ranges = ap levels (sym (rolls-Set ranges)) ∙ fold-roll-Re ℕ levels_step (Re-F.Set ranges)

pub levels_cat : (parts : List Re) → levels (Cat parts) ≡ 1 + greatest (map levels parts)
levels_cat parts = ap levels (sym (rolls-Cat parts)) ∙ fold-roll-Re ℕ levels_step (Re-F.Cat parts)

pub levels_alt : (parts : List Re) → levels (Alt parts) ≡ 1 + greatest (map levels parts)
levels_alt parts = ap levels (sym (rolls-Alt parts)) ∙ fold-roll-Re ℕ levels_step (Re-F.Alt parts)

pub levels_repeat : (inner : Re) (least : ℕ) (most : Option ℕ) → levels (Repeat inner least most) ≡ 1 + levels inner
levels_repeat inner least most = ap levels (sym (rolls-Repeat inner least most)) ∙ fold-roll-Re ℕ levels_step (Re-F.Repeat inner least most)

-- ---- the greatest of some numbers

pub max_parts : (a b n : ℕ) → max a b ≤ n → (a ≤ n) × (b ≤ n)
max_parts a b n h = let left = le-max_left a b in let right = le-max_right a b in (omega (arith, left, h), omega (arith, right, h))

-- no part has more, so the list has no more
pub greatest_mapped : (f : Re → ℕ) (n : ℕ) (parts : List Re) → AllByRecursion (λ (r : Re). f r ≤ n) parts → greatest (map f parts) ≤ n
greatest_mapped f n [] all = omega arith
greatest_mapped f n (r ∷ parts) all = max-le all.0 (greatest_mapped f n parts all.1)

pub mapped_parts : (f : Re → ℕ) (n : ℕ) (parts : List Re) → greatest (map f parts) ≤ n → AllByRecursion (λ (r : Re). f r ≤ n) parts
mapped_parts f n [] h = tt
mapped_parts f n (r ∷ parts) h = let both = max_parts (f r) (greatest (map f parts)) n h in (both.0, mapped_parts f n parts both.1)

-- ---- the counts of expressions that are put together

abbrev pub CountsTo : ℕ → Re → Type 0
CountsTo n r = greatest_count r ≤ n

module _ (n : ℕ) where
  pub empty_to : CountsTo n Empty
  empty_to = let e = count_empty in omega (arith, e)

  pub set_to : (ranges : List (ℕ × ℕ)) → CountsTo n (Set ranges)
  set_to ranges = let e = count_set ranges in omega (arith, e)

  pub cat_to : (parts : List Re) → AllByRecursion (CountsTo n) parts → CountsTo n (Cat parts)
  cat_to parts all = let e = count_cat parts in let le = greatest_mapped greatest_count n parts all in omega (arith, e, le)

  pub alt_to : (parts : List Re) → AllByRecursion (CountsTo n) parts → CountsTo n (Alt parts)
  alt_to parts all = let e = count_alt parts in let le = greatest_mapped greatest_count n parts all in omega (arith, e, le)

  pub repeat_to : (inner : Re) (least : ℕ) (most : Option ℕ) → CountsTo n inner → least ≤ n → count_of most ≤ n → CountsTo n (Repeat inner least most)
  repeat_to inner least most h low high =
      subst (λ (m : ℕ). m ≤ n) (sym (count_repeat inner least most)) (max-le h (max-le low high))

  pub cat_of_to : (parts : List Re) → AllByRecursion (CountsTo n) parts → CountsTo n (cat_of parts)
  cat_of_to [] all = empty_to
  cat_of_to (r ∷ []) all = all.0
  cat_of_to (r ∷ s ∷ rs) all = cat_to (r ∷ s ∷ rs) all

  pub alt_of_to : (parts : List Re) → AllByRecursion (CountsTo n) parts → CountsTo n (alt_of parts)
  alt_of_to [] all = alt_to [] all
  alt_of_to (r ∷ []) all = all.0
  alt_of_to (r ∷ s ∷ rs) all = alt_to (r ∷ s ∷ rs) all

  chars_to : (cs : List ℕ) → AllByRecursion (CountsTo n) (map one_char cs)
  chars_to [] = tt
  chars_to (c ∷ cs) = (set_to ((c, c) ∷ []), chars_to cs)

  pub text_to : (bytes : Bytes) → CountsTo n (cat_of (map one_char (chars bytes)))
  text_to bytes = cat_of_to (map one_char (chars bytes)) (chars_to (chars bytes))

  -- ---- patterns

  joined_to : (parts : List Re) → AllByRecursion (CountsTo n) parts → CountsTo n (joined_parts parts)
  joined_to [] all = empty_to
  joined_to (r ∷ []) all = all.0
  joined_to (r ∷ s ∷ rs) all = cat_to (r ∷ s ∷ rs) all

  chosen_to : (parts : List Re) → AllByRecursion (CountsTo n) parts → CountsTo n (chosen parts)
  chosen_to [] all = alt_to [] all
  chosen_to (r ∷ []) all = all.0
  chosen_to (r ∷ s ∷ rs) all = alt_to (r ∷ s ∷ rs) all

  one_after : (rs : List Re) (r : Re) → AllByRecursion (CountsTo n) rs → CountsTo n r → AllByRecursion (CountsTo n) (rs ++ r ∷ [])
  one_after [] r all h = (h, tt)
  one_after (s ∷ rs) r all h = (all.0, one_after rs r all.1 h)

  mutual
    branches_to : (p : Pattern) → greatest_in p ≤ n → AllByRecursion (CountsTo n) (branches_of p)
    branches_to (only b) h = (joined_to (pieces_of b) (pieces_to b h), tt)
    branches_to (or p b) h =
        let both = max_parts (greatest_in p) (branch_greatest b) n h in
        one_after (branches_of p) (joined_parts (pieces_of b)) (branches_to p both.0) (joined_to (pieces_of b) (pieces_to b both.1))

    pieces_to : (b : Branch) → branch_greatest b ≤ n → AllByRecursion (CountsTo n) (pieces_of b)
    pieces_to nothing h = tt
    pieces_to (more b x) h =
        let both = max_parts (branch_greatest b) (piece_greatest x) n h in
        one_after (pieces_of b) (piece_re x) (pieces_to b both.0) (piece_to x both.1)

    piece_to : (x : Piece) → piece_greatest x ≤ n → CountsTo n (piece_re x)
    piece_to (once a) h = atom_to a h
    piece_to (times a least None) h =
        let both = max_parts (atom_greatest a) least n h in
        repeat_to (atom_re a) least None (atom_to a both.0) both.1 (omega arith)
    piece_to (times a least (Some most)) h =
        let both = max_parts (atom_greatest a) (max least most) n h in
        let counts = max_parts least most n both.1 in
        repeat_to (atom_re a) least (Some most) (atom_to a both.0) counts.0 counts.1

    atom_to : (a : Atom) → atom_greatest a ≤ n → CountsTo n (atom_re a)
    atom_to (set ranges) h = set_to ranges
    atom_to (group p) h = chosen_to (branches_of p) (branches_to p h)

counts_in : (nests counts places : ℕ) → limit_passed nests counts places ≡ None → counts ≤ most_counted
counts_in nests counts places h = by (nat_lt most_nested nests) (nat_lt most_counted counts) refl h
  where
    by : (a b : Bool) → nat_lt most_counted counts ≡ b
        → (if a then Some most_nested else if b then Some most_counted else if nat_lt most_positions places then Some most_positions else None) ≡ None → counts ≤ most_counted
    by true b e h = absurd cc
    by false true e h = absurd cc
    by false false e h = grind arith

-- what a source reads as has no count above the limit of patterns
pub reads_counts : (source : Bytes) (ignore_case : Bool) (r : Re) → Reads source ignore_case r → HasShortCounts r
reads_counts source ignore_case r reads =
    let p : Pattern = reads.0 in
    let few = counts_in (nesting p) (greatest_in p) (positions p) reads.2 in
    let le : greatest_count r ≤ most_counted = subst (CountsTo most_counted) (sym reads.3) (chosen_to most_counted (branches_of p) (branches_to most_counted p few)) in
    omega (arith, le)
