-- The regular expression of a pattern is fit: its sets and repeats are in form, and its lists of parts
-- are short.
use Rattle.std.proofs.Common.{◌≡◌, ◌∙◌, sym, ap, subst, ℕ, zero, suc, ◌+◌, ◌-◌, ◌*◌, ◌^◌, ◌<◌, ◌≤◌, Bool, true, List, [], ◌∷◌, ◌++◌, map, length, Option, Some, None, arith}
use Rattle.std.specs.List.{Contains, flat_map, AllByRecursion}
use Rattle.std.specs.Str.{chars, chars_after, continuation_len, lead_bits}
use Rattle.std.proofs.lemmas.List.{length-map, length-append}
use Rattle.std.proofs.lemmas.List.Elements.{All-from_recursion}
use Rattle.ts_base.specs.Bytes.{Bytes}
use Rattle.ts_core.specs.declared.re.Re.{Re}
use Rattle.ts_core.specs.declared.re.Re.TheOpen.{Re-F}
use Rattle.ts_core.specs.declared.re.Re.TheVariants.{Empty, Set, Cat, Alt, Repeat}
use Rattle.ts_core.specs.declared.re.Re.TheVariants.{rolls-Empty, rolls-Set, rolls-Cat, rolls-Alt, rolls-Repeat}
use Rattle.ts_core.specs.declared.re.Re.TheFolds.{fold-roll-Re}
use Rattle.spec_lexing.specs.Words.{Regular, empty, one_of, repeat, all_of, any_of, regular_step, regular_of}
use Rattle.spec_tables.specs.Fit.{IsSet, IsInOrder, IsFormed, IsFitRe, lengths, lengths_step}
use Rattle.ts_pattern.specs.Trees.{Pattern, only, or, Branch, more, Piece, once, times, Atom, set, group, Token, bar, opening, closing, quantifier, spelling, branch_spelling, piece_spelling, atom_spelling, joined_parts, chosen, branches_of, pieces_of, piece_re, atom_re}
use Rattle.ts_pattern.specs.Trees.{empty as nothing, one_of as set_token}
use Rattle.ts_pattern.specs.Reads.{Reads, IsTree}
use Rattle.regex_class.specs.Ranges.{in_ranges, IsCanonical}
use Rattle.ts_pattern.specs.Characters.{Text, is_scalar}
use Rattle.ts_normalise.proofs.FitSetLemmas.{set_fit}
use Rattle.ts_normalise.proofs.ListLemmas.{head_in, tail_in}

-- ---- expressions

regular_empty : regular_of Empty ≡ empty
regular_empty = ap regular_of (sym rolls-Empty) ∙ fold-roll-Re Regular regular_step Re-F.Empty

regular_set : (ranges : List (ℕ × ℕ)) → regular_of (Set ranges) ≡ one_of ranges
regular_set ranges = ap regular_of (sym (rolls-Set ranges)) ∙ fold-roll-Re Regular regular_step (Re-F.Set ranges)

regular_cat : (parts : List Re) → regular_of (Cat parts) ≡ all_of (map regular_of parts)
regular_cat parts = ap regular_of (sym (rolls-Cat parts)) ∙ fold-roll-Re Regular regular_step (Re-F.Cat parts)

regular_alt : (parts : List Re) → regular_of (Alt parts) ≡ any_of (map regular_of parts)
regular_alt parts = ap regular_of (sym (rolls-Alt parts)) ∙ fold-roll-Re Regular regular_step (Re-F.Alt parts)

regular_repeat : (inner : Re) (least : ℕ) (most : Option ℕ) → regular_of (Repeat inner least most) ≡ repeat (regular_of inner) least most
regular_repeat inner least most = ap regular_of (sym (rolls-Repeat inner least most)) ∙ fold-roll-Re Regular regular_step (Re-F.Repeat inner least most)

lengths_empty : lengths Empty ≡ []
lengths_empty = ap lengths (sym rolls-Empty) ∙ fold-roll-Re (List ℕ) lengths_step Re-F.Empty

lengths_set : (ranges : List (ℕ × ℕ)) → lengths (Set ranges) ≡ []
lengths_set ranges = ap lengths (sym (rolls-Set ranges)) ∙ fold-roll-Re (List ℕ) lengths_step (Re-F.Set ranges)

abbrev all_lengths : List Re → List ℕ
all_lengths parts = length (map lengths parts) ∷ flat_map (λ (part : List ℕ). part) (map lengths parts)

lengths_cat : (parts : List Re) → lengths (Cat parts) ≡ all_lengths parts
lengths_cat parts = ap lengths (sym (rolls-Cat parts)) ∙ fold-roll-Re (List ℕ) lengths_step (Re-F.Cat parts)

lengths_alt : (parts : List Re) → lengths (Alt parts) ≡ all_lengths parts
lengths_alt parts = ap lengths (sym (rolls-Alt parts)) ∙ fold-roll-Re (List ℕ) lengths_step (Re-F.Alt parts)

lengths_repeat : (inner : Re) (least : ℕ) (most : Option ℕ) → lengths (Repeat inner least most) ≡ lengths inner
lengths_repeat inner least most = ap lengths (sym (rolls-Repeat inner least most)) ∙ fold-roll-Re (List ℕ) lengths_step (Re-F.Repeat inner least most)

abbrev IsFew : ℕ → Type 0
IsFew n = n < 2 ^ 32

-- fit, with the lengths one after another
abbrev pub Formed : Re → Type 0
Formed r = IsFormed (regular_of r) × AllByRecursion IsFew (lengths r)

abbrev pub AllFormed : List Re → Type 0
AllFormed = AllByRecursion Formed

all_joined : (xs ys : List ℕ) → AllByRecursion IsFew xs → AllByRecursion IsFew ys → AllByRecursion IsFew (xs ++ ys)
all_joined [] ys all rest = rest
all_joined (x ∷ xs) ys all rest = (all.0, all_joined xs ys all.1 rest)

all_few : (parts : List Re) → AllFormed parts → AllByRecursion IsFew (flat_map (λ (part : List ℕ). part) (map lengths parts))
all_few [] all = tt
all_few (r ∷ parts) all = all_joined (lengths r) (flat_map (λ (part : List ℕ). part) (map lengths parts)) all.0.1 (all_few parts all.1)

all_formed : (parts : List Re) → AllFormed parts → IsFormed (all_of (map regular_of parts))
all_formed [] all = tt
all_formed (r ∷ parts) all = (all.0.0, all_formed parts all.1)

any_formed : (parts : List Re) → AllFormed parts → IsFormed (any_of (map regular_of parts))
any_formed [] all = tt
any_formed (r ∷ parts) all = (all.0.0, any_formed parts all.1)

parts_few : (parts : List Re) → length parts < 2 ^ 32 → AllFormed parts → AllByRecursion IsFew (all_lengths parts)
parts_few parts few all = (rw length-map few, all_few parts all)

pub empty_formed : Formed Empty
empty_formed = rw (regular_empty, lengths_empty) (tt, tt)

pub set_formed : (ranges : List (ℕ × ℕ)) → IsSet ranges → Formed (Set ranges)
set_formed ranges h = rw (regular_set ranges, lengths_set ranges) (h, tt)

pub cat_formed : (parts : List Re) → length parts < 2 ^ 32 → AllFormed parts → Formed (Cat parts)
cat_formed parts few all = rw (regular_cat parts, lengths_cat parts) (all_formed parts all, parts_few parts few all)

pub alt_formed : (parts : List Re) → length parts < 2 ^ 32 → AllFormed parts → Formed (Alt parts)
alt_formed parts few all = rw (regular_alt parts, lengths_alt parts) (any_formed parts all, parts_few parts few all)

pub repeat_formed : (inner : Re) (least : ℕ) (most : Option ℕ) → IsInOrder least most → Formed inner → Formed (Repeat inner least most)
repeat_formed inner least most order h = rw (regular_repeat inner least most, lengths_repeat inner least most) ((order, h.0), h.1)

pub formed_fit : (r : Re) → Formed r → IsFitRe r
formed_fit r h = (h.0, All-from_recursion IsFew (lengths r) h.1)

-- ---- what a tree is spelled with

-- the law of spellings of the crate that reads patterns
pub record SpellingLaw : Type 0 where
  pub short : (w : Text) (ignore_case : Bool) (p : Pattern) → IsTree ignore_case w p → length (spelling p) ≤ length w
  pub ranges : (w : Text) (ignore_case : Bool) (p : Pattern) (ranges : List (ℕ × ℕ)) → IsTree ignore_case w p → Contains (spelling p) (set_token ranges)
      → IsCanonical ranges × ((c : ℕ) → in_ranges ranges c ≡ true → is_scalar c ≡ true)
  pub counts : (w : Text) (ignore_case : Bool) (p : Pattern) (least most : ℕ) → IsTree ignore_case w p → Contains (spelling p) (quantifier least (Some most)) → least ≤ most

-- a set is in form, and counts are in order
abbrev IsRightToken : Token → Type 0
IsRightToken (set_token ranges) = IsSet ranges
IsRightToken opening = Unit {0}
IsRightToken closing = Unit {0}
IsRightToken bar = Unit {0}
IsRightToken (quantifier least most) = IsInOrder least most

abbrev AreRight : List Token → Type 0
AreRight [] = Unit {0}
AreRight (t ∷ ts) = IsRightToken t × AreRight ts

right_split : (ts us : List Token) → AreRight (ts ++ us) → AreRight ts × AreRight us
right_split [] us h = (tt, h)
right_split (t ∷ ts) us h = let r = right_split ts us h.1 in ((h.0, r.0), r.1)

all_right : (ts : List Token) → ((t : Token) → Contains ts t → IsRightToken t) → AreRight ts
all_right [] h = tt
all_right (t ∷ ts) h = (h t (head_in t ts), all_right ts (λ u w. h u (tail_in t u ts w)))

right_token : SpellingLaw → (w : Text) (ignore_case : Bool) (p : Pattern) → IsTree ignore_case w p → (t : Token) → Contains (spelling p) t → IsRightToken t
right_token law w ignore_case p tree (set_token ranges) v = let h = law.ranges w ignore_case p ranges tree v in set_fit ranges h.0 h.1
right_token law w ignore_case p tree opening v = tt
right_token law w ignore_case p tree closing v = tt
right_token law w ignore_case p tree bar v = tt
right_token law w ignore_case p tree (quantifier least None) v = tt
right_token law w ignore_case p tree (quantifier least (Some most)) v = law.counts w ignore_case p least most tree v

-- ---- patterns

joined_formed : (rs : List Re) → length rs < 2 ^ 32 → AllFormed rs → Formed (joined_parts rs)
joined_formed [] few all = empty_formed
joined_formed (r ∷ []) few all = all.0
joined_formed (r ∷ s ∷ rs) few all = cat_formed (r ∷ s ∷ rs) few all

chosen_formed : (rs : List Re) → length rs < 2 ^ 32 → AllFormed rs → Formed (chosen rs)
chosen_formed [] few all = alt_formed [] few all
chosen_formed (r ∷ []) few all = all.0
chosen_formed (r ∷ s ∷ rs) few all = alt_formed (r ∷ s ∷ rs) few all

one_after : (rs : List Re) (r : Re) → AllFormed rs → Formed r → AllFormed (rs ++ r ∷ [])
one_after [] r all h = (h, tt)
one_after (s ∷ rs) r all h = (all.0, one_after rs r all.1 h)

one_longer : (rs : List Re) (r : Re) → length (rs ++ r ∷ []) ≡ suc (length rs)
one_longer rs r = let e : length (rs ++ r ∷ []) ≡ length rs + 1 = length-append rs (r ∷ []) in omega (arith, e)

mutual
  branches_formed : (p : Pattern) → AreRight (spelling p) → suc (length (spelling p)) < 2 ^ 32 → AllFormed (branches_of p) × (length (branches_of p) ≤ suc (length (spelling p)))
  branches_formed (only b) h few =
      let pieces = pieces_formed b h few in
      let fewer = pieces.1 in
      ((joined_formed (pieces_of b) (omega (arith, fewer, few)) pieces.0, tt), omega arith)
  branches_formed (or p b) h few =
      let parts = right_split (spelling p) (bar ∷ branch_spelling b) h in
      let len : length (spelling p ++ bar ∷ branch_spelling b) ≡ length (spelling p) + suc (length (branch_spelling b)) = length-append (spelling p) (bar ∷ branch_spelling b) in
      let first = branches_formed p parts.0 (omega (arith, len, few)) in
      let pieces = pieces_formed b parts.1.1 (omega (arith, len, few)) in
      let fewer = pieces.1 in
      let count = first.1 in
      let last : Formed (joined_parts (pieces_of b)) = joined_formed (pieces_of b) (omega (arith, fewer, len, few)) pieces.0 in
      let longer = one_longer (branches_of p) (joined_parts (pieces_of b)) in
      (one_after (branches_of p) (joined_parts (pieces_of b)) first.0 last, omega (arith, len, count, longer))

  pieces_formed : (b : Branch) → AreRight (branch_spelling b) → suc (length (branch_spelling b)) < 2 ^ 32 → AllFormed (pieces_of b) × (length (pieces_of b) ≤ length (branch_spelling b))
  pieces_formed nothing h few = (tt, omega arith)
  pieces_formed (more b x) h few =
      let parts = right_split (branch_spelling b) (piece_spelling x) h in
      let len : length (branch_spelling b ++ piece_spelling x) ≡ length (branch_spelling b) + length (piece_spelling x) = length-append (branch_spelling b) (piece_spelling x) in
      let first = pieces_formed b parts.0 (omega (arith, len, few)) in
      let piece = piece_formed x parts.1 (omega (arith, len, few)) in
      let count = first.1 in
      let some = piece.1 in
      let longer = one_longer (pieces_of b) (piece_re x) in
      (one_after (pieces_of b) (piece_re x) first.0 piece.0, omega (arith, len, count, some, longer))

  piece_formed : (x : Piece) → AreRight (piece_spelling x) → suc (length (piece_spelling x)) < 2 ^ 32 → Formed (piece_re x) × (0 < length (piece_spelling x))
  piece_formed (once a) h few = atom_formed a h few
  piece_formed (times a least most) h few =
      let parts = right_split (atom_spelling a) (quantifier least most ∷ []) h in
      let len : length (atom_spelling a ++ quantifier least most ∷ []) ≡ length (atom_spelling a) + 1 = length-append (atom_spelling a) (quantifier least most ∷ []) in
      let inner = atom_formed a parts.0 (omega (arith, len, few)) in
      (repeat_formed (atom_re a) least most parts.1.0 inner.0, omega (arith, len))

  atom_formed : (a : Atom) → AreRight (atom_spelling a) → suc (length (atom_spelling a)) < 2 ^ 32 → Formed (atom_re a) × (0 < length (atom_spelling a))
  atom_formed (set ranges) h few = (set_formed ranges h.0, omega arith)
  atom_formed (group p) h few =
      let parts = right_split (spelling p) (closing ∷ []) h.1 in
      let len : length (spelling p ++ closing ∷ []) ≡ length (spelling p) + 1 = length-append (spelling p) (closing ∷ []) in
      let branches = branches_formed p parts.0 (omega (arith, len, few)) in
      let count = branches.1 in
      (chosen_formed (branches_of p) (omega (arith, count, len, few)) branches.0, omega arith)

-- ---- texts

after_short : (n c : ℕ) (bs : List ℕ) → length (chars_after n c bs) ≤ suc (length bs)
after_short zero c [] = omega arith
after_short zero c (b ∷ bs) = let more = after_short (continuation_len b) (lead_bits b) bs in omega (arith, more)
after_short (suc n) c [] = omega arith
after_short (suc n) c (b ∷ bs) = let more = after_short n (c * 64 + (b - 128)) bs in omega (arith, more)

-- a text has no more characters than bytes
pub chars_short : (bs : List ℕ) → length (chars bs) ≤ length bs
unfolding chars
chars_short [] = omega arith
chars_short (b ∷ bs) = after_short (continuation_len b) (lead_bits b) bs

-- what a source reads as is fit, where the source is not too long
pub reads_formed : SpellingLaw → (source : Bytes) (ignore_case : Bool) (r : Re) → Reads source ignore_case r → suc (length source) < 2 ^ 32 → Formed r
reads_formed law source ignore_case r reads few =
    let p : Pattern = reads.0 in
    let right : AreRight (spelling p) = all_right (spelling p) (right_token law (chars source) ignore_case p reads.1) in
    let fewer = law.short (chars source) ignore_case p reads.1 in
    let short = chars_short source in
    let branches = branches_formed p right (omega (arith, fewer, short, few)) in
    let count = branches.1 in
    subst Formed (sym reads.3) (chosen_formed (branches_of p) (omega (arith, count, fewer, short, few)) branches.0)
