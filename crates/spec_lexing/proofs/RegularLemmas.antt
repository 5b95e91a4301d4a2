-- The small form of each kind of regular expression.
use Rattle.std.proofs.Common.{◌≡◌, ◌∙◌, sym, ap, ℕ, List, map, Option}
use Rattle.ts_core.specs.declared.re.Re.{Re}
use Rattle.ts_core.specs.declared.re.Re.TheOpen.{Re-F}
use Rattle.ts_core.specs.declared.re.Re.TheVariants.{Empty, Set, Cat, Alt, Repeat}
use Rattle.ts_core.specs.declared.re.Re.TheVariants.{rolls-Empty, rolls-Set, rolls-Cat, rolls-Alt, rolls-Repeat}
use Rattle.ts_core.specs.declared.re.Re.TheFolds.{fold-roll-Re}
use Rattle.spec_lexing.specs.Words.{Regular, empty, one_of, repeat, all_of, any_of, regular_step, regular_of}

pub regular_empty : regular_of Empty ≡ empty
regular_empty = ap regular_of (sym rolls-Empty) ∙ fold-roll-Re Regular regular_step Re-F.Empty

pub regular_set : (ranges : List (ℕ × ℕ)) → regular_of (Set ranges) ≡ one_of ranges
regular_set ranges = ap regular_of (sym (rolls-Set ranges)) ∙ fold-roll-Re Regular regular_step (Re-F.Set ranges)

pub regular_cat : (parts : List Re) → regular_of (Cat parts) ≡ all_of (map regular_of parts)
regular_cat parts = ap regular_of (sym (rolls-Cat parts)) ∙ fold-roll-Re Regular regular_step (Re-F.Cat parts)

pub regular_alt : (parts : List Re) → regular_of (Alt parts) ≡ any_of (map regular_of parts)
regular_alt parts = ap regular_of (sym (rolls-Alt parts)) ∙ fold-roll-Re Regular regular_step (Re-F.Alt parts)

pub regular_repeat : (inner : Re) (least : ℕ) (most : Option ℕ) → regular_of (Repeat inner least most) ≡ repeat (regular_of inner) least most
regular_repeat inner least most =
    ap regular_of (sym (rolls-Repeat inner least most)) ∙ fold-roll-Re Regular regular_step (Re-F.Repeat inner least most)
