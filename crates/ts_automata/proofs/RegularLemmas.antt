-- The small form of the empty expression and of a set.
use Rattle.std.proofs.Common.{◌≡◌, ◌∙◌, sym, ap, ℕ, List}
use Rattle.ts_core.specs.declared.re.Re.TheOpen.{Re-F}
use Rattle.ts_core.specs.declared.re.Re.TheVariants.{Empty, Set, rolls-Empty, rolls-Set}
use Rattle.ts_core.specs.declared.re.Re.TheFolds.{fold-roll-Re}
use Rattle.spec_lexing.specs.Words.{Regular, empty, one_of, regular_step, regular_of}

pub regular_empty : regular_of Empty ≡ empty
regular_empty = ap regular_of (sym rolls-Empty) ∙ fold-roll-Re Regular regular_step Re-F.Empty

pub regular_set : (ranges : List (ℕ × ℕ)) → regular_of (Set ranges) ≡ one_of ranges
regular_set ranges = ap regular_of (sym (rolls-Set ranges)) ∙ fold-roll-Re Regular regular_step (Re-F.Set ranges)
