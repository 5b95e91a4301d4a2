-- The characters of a set.
use Rattle.std.specs.Prelude.{◌≡◌, ◌↔◌, ℕ, ◌≤◌, Bool, true, false, ◌&&◌, List, [], ◌∷◌, ◌⊎◌}
use Rattle.ucd_case.specs.CaseFolding.{simple_fold}
use Rattle.ucd_sets.specs.Sets.{in_set}
use Rattle.regex_class.specs.Ranges.{in_ranges, IsCanonical}
use Rattle.ts_pattern.specs.declared.item.Base.{Base}
use Rattle.ts_pattern.specs.declared.item.Base.TheVariants.{Range, Digit, Word, Space, Property}
use Rattle.ts_pattern.specs.declared.item.Item.{Item}
use Rattle.ts_pattern.specs.declared.item.CharSet.{CharSet}
use Rattle.ts_pattern.specs.Characters.{is_scalar}

-- `[0-9]`
abbrev pub digit_ranges : List (ℕ × ℕ)
digit_ranges = (48, 57) ∷ []

-- `[0-9A-Za-z_]`
abbrev pub word_ranges : List (ℕ × ℕ)
word_ranges = (48, 57) ∷ (65, 90) ∷ (95, 95) ∷ (97, 122) ∷ []

-- space, tab, CR, LF, VT and FF
abbrev pub space_ranges : List (ℕ × ℕ)
space_ranges = (9, 13) ∷ (32, 32) ∷ []

-- the character is one of the base's
abbrev pub in_base : Base → ℕ → Bool
in_base (Range a b) c = in_ranges ((a, b) ∷ []) c
in_base Digit c = in_ranges digit_ranges c
in_base Word c = in_ranges word_ranges c
in_base Space c = in_ranges space_ranges c
in_base (Property s) c = in_set s c

-- with the flag, also each that shares a simple folding with a member
abbrev pub Folded : Bool → (ℕ → Type 0) → ℕ → Type 0
Folded false M c = M c
Folded true M c = (d : ℕ) × (d ≤ 0x10FFFF) × M d × (simple_fold d ≡ simple_fold c)

-- the fact, or with the flag that it does not hold
abbrev pub Unless : Bool → Type 0 → Type 0
Unless false M = M
Unless true M = M → ⊥

-- The character is one of the item's. The folding of a complement comes before it; all others
-- come with the whole set.
abbrev pub InItem : Bool → ℕ → Item → Type 0
InItem ignore_case c item =
    Unless item.lacking (Folded (ignore_case && item.lacking) (λ d. in_base item.base d ≡ true) c)

-- the character is one of some item's
abbrev pub InUnion : Bool → List Item → ℕ → Type 0
InUnion ignore_case [] c = ⊥
InUnion ignore_case (x ∷ xs) c = InItem ignore_case c x ⊎ InUnion ignore_case xs c

-- the set of these items: their characters with all that fold like them, or where it is inverted
-- all others
abbrev pub InSet : Bool → CharSet → ℕ → Type 0
InSet ignore_case set c = Unless set.inverted (Folded ignore_case (InUnion ignore_case set.items) c)

-- the ranges rise, neither meet nor touch, and have those characters that are in the set
pub record AreRangesOf (ranges : List (ℕ × ℕ)) (M : ℕ → Type 0) : Type 0 where
  pub canonical : IsCanonical ranges
  pub members : (c : ℕ) → (in_ranges ranges c ≡ true) ↔ ((is_scalar c ≡ true) × M c)
