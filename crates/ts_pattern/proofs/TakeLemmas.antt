-- What is kept after a set and after a quantifier.
use Rattle.std.proofs.Common.{◌≡◌, ℕ, Bool, List, map, Option, Some, None, option_map, refl, ap}
use Rattle.ts_pattern.specs.declared.item.CharSet.{CharSet}
use Rattle.ts_pattern.specs.declared.sign.Sign.TheVariants as sign
use Rattle.ts_pattern.specs.declared.level.Level.{Level}
use Rattle.ts_pattern.specs.declared.level.Part.{Part}
use Rattle.ts_pattern.specs.Sets.{InSet, AreRangesOf}
use Rattle.ts_pattern.specs.Trees.{one_of, quantifier, Pattern, once, Atom, set}
use Rattle.ts_pattern.specs.Machine.{plus, times_last, with_rest, level_of, part_of, Follows, IsTimes}
use Rattle.ts_pattern.specs.States.{IsTakenBy}

abbrev pub Extends : Level → Part → Level → Type 0
Extends level part l = (p : Pattern) (a : Atom) → level ≡ level_of p → part ≡ part_of a → l ≡ level_of (plus p (once a))

pub taken_set : (ignore_case : Bool) (chars : CharSet) (ranges : List (ℕ × ℕ)) (level l : Level) (part : Part) (outer : List Level) →
    AreRangesOf ranges (InSet ignore_case chars) → part ≡ part_of (set ranges) → Extends level part l → IsTakenBy ignore_case (sign.Set chars) level outer (Some l) outer
taken_set ignore_case chars ranges level l part outer h hp law = (
  one_of ranges,
  (ranges, refl, h),
  λ p k hl ho. (ap (λ (x : Level). Some x) (law p (set ranges) hl hp), ho),
)

follows : (o : Option Pattern) (k : List Pattern) (r : Option Level) (outer : List Level) → IsTimes o r → outer ≡ map level_of k → Follows (option_map (with_rest k) o) r outer
follows None k r outer g h = g
follows (Some q) k r outer g h = (g, h)

pub taken_times : (ignore_case : Bool) (n : ℕ) (m : Option ℕ) (level : Level) (r : Option Level) (outer : List Level) →
    ((p : Pattern) → level ≡ level_of p → IsTimes (times_last p n m) r) → IsTakenBy ignore_case (sign.Times n m) level outer r outer
taken_times ignore_case n m level r outer law = (
  quantifier n m,
  refl,
  λ p k hl ho. follows (times_last p n m) k r outer (law p hl) ho,
)
