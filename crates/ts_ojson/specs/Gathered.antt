-- Names among members that are read so far.
use Rattle.std.specs.Prelude.{ℕ, List, [], ◌∷◌, get_or, Bool, true, false, cond, ◌||◌}
use Rattle.std.specs.Str.{bytes_eq}
use Rattle.std.specs.Int.{w64, from_be_bytes}
use Rattle.std.specs.declared.cmp.Ordering.{Ordering}
use Rattle.std.specs.Ordering.{nat_cmp, ordering_then}
use Rattle.std.specs.Cmp.Lexicographic.{slice_cmp}
use Rattle.std.specs.BTreeSet.{BTreeSet, contains}
use Rattle.ts_base.specs.Bytes.{Bytes}

-- whether a member has this name
abbrev pub has_name : {V : Type 0} → Bytes → List (Bytes × V) → Bool
has_name n [] = false
has_name n (m ∷ ms) = bytes_eq n m.0 || has_name n ms

-- whether a member has this name, or it is the claimed one
abbrev pub has_either : {V : Type 0} → Bytes → Bytes → List (Bytes × V) → Bool
has_either n claimed ms = cond (bytes_eq claimed n) true (has_name n ms)

-- the first eight bytes of a name as a number, the first one its highest, with 0 for those that it
-- has not
unfoldable pub leading : Bytes → ℕ
leading n =
    from_be_bytes w64
    (get_or n 0 0 ∷ get_or n 1 0 ∷ get_or n 2 0 ∷ get_or n 3 0 ∷ get_or n 4 0 ∷ get_or n 5 0
    ∷ get_or n 6 0 ∷ get_or n 7 0 ∷ [])

-- the order of names with their leading bytes
abbrev pub key_cmp : ℕ × Bytes → ℕ × Bytes → Ordering
key_cmp x y = ordering_then (nat_cmp x.0 y.0) (slice_cmp nat_cmp x.1 y.1)

-- whether the name is in the set, with its leading bytes
abbrev pub has_key : Bytes → BTreeSet (ℕ × Bytes) → Bool
has_key n names = contains key_cmp names (leading n, n)
