-- What an automaton's nodes read.
use Rattle.std.specs.Prelude.{◌≡◌, ℕ, suc, ◌⊎◌, List, [], ◌∷◌, slice_get, Some}
use Rattle.ts_automata.specs.declared.node.Node.{Node}
use Rattle.ts_automata.specs.declared.node.Node.TheVariants.{Take, Split, End}
use Rattle.spec_lexing.specs.Words.{IsInRanges}

-- from the first node the character leads to the other
pub record Takes (T : List Node) (s c a : ℕ) : Type 0 where
  pub ranges : List (ℕ × ℕ)
  pub at : slice_get T s ≡ Some (Take ranges a)
  pub member : IsInRanges ranges c

-- the first node goes on to the other, and takes nothing
pub record Splits (T : List Node) (s a : ℕ) : Type 0 where
  pub left : ℕ
  pub right : ℕ
  pub at : slice_get T s ≡ Some (Split left right)
  pub way : (a ≡ left) ⊎ (a ≡ right)

-- the characters lead from the first node to the other, in at most so many steps
pub data ReadsOver (T : List Node) : ℕ → ℕ → List ℕ → ℕ → Type 0 where
  here : (n s : ℕ) → ReadsOver T n s [] s
  goes : (n s a t : ℕ) (w : List ℕ) → Splits T s a → ReadsOver T n a w t → ReadsOver T (suc n) s w t
  takes : (n s c a t : ℕ) (w : List ℕ) → Takes T s c a → ReadsOver T n a w t
      → ReadsOver T (suc n) s (c ∷ w) t

-- the characters lead from the first node to the other
abbrev pub LeadsOver : List Node → ℕ → List ℕ → ℕ → Type 0
LeadsOver T s w t = (n : ℕ) × ReadsOver T n s w t

-- a word ends at the node
abbrev pub IsEnd : List Node → ℕ → Type 0
IsEnd T t = slice_get T t ≡ Some End
