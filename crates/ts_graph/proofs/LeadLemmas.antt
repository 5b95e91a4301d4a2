-- Links that lead down from new heads, one after another.
use Rattle.std.proofs.Common.{◌≡◌, ◌∙◌, sym, ap, ℕ, ◌+◌, ◌<◌, ◌≤◌, ◌⊎◌, inl, inr, List, length, slice_get, Some, arith}
use Rattle.std.proofs.lemmas.Bool.{cases_order}
use Rattle.std.proofs.lemmas.Option.{slice_get_within}
use Rattle.spec_graph.specs.declared.graph.Link.{Link}
use Rattle.ts_graph.specs.Down.{LeadFrom}

-- those from a number on, up to another
abbrev pub LeadTo : List Link → ℕ → ℕ → ℕ → Type 0
LeadTo links first head next = (k : ℕ) (l : Link) → slice_get links k ≡ Some l → first ≤ k → k < next → head ≤ l.above

module _ (links : List Link) (first head : ℕ) where
  pub lead_first : LeadTo links first head first
  lead_first k l at from low = absurd (omega (arith, from, low))

  pub lead_on : (next above : ℕ) → LeadTo links first head next → ((l : Link) → slice_get links next ≡ Some l → above ≡ l.above) → head ≤ above → LeadTo links first head (next + 1)
  lead_on next above before is high k l at from low = by (cases_order k next)
    where
      by : (k ≡ next) ⊎ ((k < next) ⊎ (next < k)) → head ≤ l.above
      by (inl e) = let same = is l (ap (λ (n : ℕ). slice_get links n) (sym e) ∙ at) in omega (arith, same, high)
      by (inr (inl lt)) = before k l at from lt
      by (inr (inr gt)) = absurd (omega (arith, gt, low))

  pub lead_all : (next : ℕ) → length links ≤ next → LeadTo links first head next → LeadFrom links first head
  lead_all next long before k l at from = let low = slice_get_within links k l at in before k l at from (omega (arith, low, long))
