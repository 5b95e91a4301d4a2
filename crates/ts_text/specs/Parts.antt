-- How far the parts of an edit have been gone through; for private clauses and proofs alone.
use Rattle.std.specs.Prelude.{ℕ, suc, ◌≡◌, ◌≤◌, ◌<◌, ◌+◌, ◌*◌, ◌++◌, List, length, drop, slice_get, Some}
use Rattle.std.specs.Str.{IsCharBoundary}
use Rattle.ts_base.specs.Bytes.{Bytes}
use Rattle.ts_text.specs.declared.edit.Part.{Part}
use Rattle.ts_text.specs.Edit.{replaced_from}
use Rattle.ts_text.specs.Text.{most_bytes}

-- the first i parts end at the place, and the next one begins no sooner
pub record IsAt (text : Bytes) (parts : List Part) (i place : ℕ) : Type 0 where
  pub on : IsCharBoundary text place
  pub few : i ≤ place + 1
  pub next : (p : Part) → slice_get parts i ≡ Some p → (place ≤ p.start) × (i ≤ p.start)

-- so many bytes come of the text before the place
pub record IsSize (text : Bytes) (parts : List Part) (i place size : ℕ) : Type 0 where
  pub at : IsAt text parts i place
  pub is : size + length (replaced_from text place (drop i parts))
      ≡ length (replaced_from text 0 parts)
  pub bound : size ≤ place + i * most_bytes

-- what the first i parts leave of the text before the place is written
pub record IsRewritten (text : Bytes) (parts : List Part) (i place : ℕ) (now : Bytes) : Type 0 where
  pub at : IsAt text parts i place
  pub bytes : now ++ replaced_from text place (drop i parts) ≡ replaced_from text 0 parts

-- of the first n parts each ends below the start of the next
abbrev pub AreApartTo : List Part → ℕ → Type 0
AreApartTo parts n = (k : ℕ) (p q : Part) → suc k < n → slice_get parts k ≡ Some p
    → slice_get parts (suc k) ≡ Some q → p.end < q.start
