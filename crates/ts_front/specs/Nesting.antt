-- How deep the regular expressions of a grammar in normal form nest.
use Rattle.std.specs.Prelude.{ℕ, ◌+◌, ◌≤◌, max, List, [], ◌∷◌}
use Rattle.std.specs.List.{Contains}
use Rattle.ts_core.specs.declared.flat.FlatGrammar.{FlatGrammar}
use Rattle.ts_core.specs.declared.flat.TokenDef.{TokenDef}
use Rattle.ts_core.specs.declared.re.Re.{Re}
use Rattle.ts_core.specs.declared.re.Re.TheOpen.{Re-F}
use Rattle.ts_core.specs.declared.re.Re.TheFolds.{fold-Re}
use Rattle.ts_langfile.specs.Parts.{most_levels}

-- the greatest of some numbers, 0 where there are none
abbrev pub greatest : List ℕ → ℕ
greatest [] = 0
greatest (n ∷ ns) = max n (greatest ns)

-- how many expressions stand in one another, the outermost among them
abbrev pub levels_step : Re-F ℕ → ℕ
levels_step Re-F.Empty = 1
levels_step (Re-F.Set ranges) = 1
levels_step (Re-F.Cat parts) = 1 + greatest parts
levels_step (Re-F.Alt parts) = 1 + greatest parts
levels_step (Re-F.Repeat inner least most) = 1 + inner

-- how deep an expression nests, where one with nothing inside it has 1
abbrev pub levels : Re → ℕ
levels = fold-Re ℕ levels_step

-- it nests no deeper than an expression of a language file
abbrev pub IsShallow : Re → Type 0
IsShallow re = levels re ≤ most_levels

-- so do the expressions of all tokens and separators
pub record AreShallow (f : FlatGrammar) : Type 0 where
  pub tokens : (d : TokenDef) → Contains f.tokens d → IsShallow d.re
  pub separators : (re : Re) → Contains f.separators re → IsShallow re
