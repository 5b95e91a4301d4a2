-- Refusals, as results of other types.
use Rattle.std.proofs.Common.{◌≡◌, ◌∙◌, ℕ, ap, sym, Result, Ok, Err}
use Rattle.ts_text.specs.declared.edit.EditFault.{EditFault}
use Rattle.ts_text.specs.declared.edit.EditFault.TheVariants as fault
use Rattle.ts_docs.specs.declared.preparing.Refused.{Refused}
use Rattle.ts_docs.specs.declared.preparing.Refused.TheVariants as refused

-- the error of a result, or another where there is none
abbrev error_or : {V E : Type 0} → E → Result V E → E
error_or other (Ok v) = other
error_or other (Err e) = e

-- the size that a fault of an edit tells
abbrev told_by_fault : EditFault → ℕ
told_by_fault fault.Range = 0
told_by_fault (fault.Size n) = n
told_by_fault fault.Memory = 0

-- the size that a refusal tells
abbrev told_by_refusal : Refused → ℕ
told_by_refusal refused.Range = 0
told_by_refusal (refused.Size n) = n
told_by_refusal refused.Memory = 0

module _ {T U : Type 0} where
  -- a refusal of one size is the fault of that size
  pub same_size : (x : EditFault) (m n : ℕ) → x ≡ fault.Size m
      → ◌≡◌ {A = Result T Refused} (Err (refused.Size m)) (Err (refused.Size n))
      → ◌≡◌ {A = Result U EditFault} (Err x) (Err (fault.Size n))
  same_size x m n is e = ap (λ (f : EditFault). Err f) is ∙ ap (λ (k : ℕ). Err (fault.Size k))
      (ap (λ (r : Result T Refused). told_by_refusal (error_or refused.Range r)) e)

  -- the other way round
  pub same_refusal : (x : EditFault) (m n : ℕ) → x ≡ fault.Size m
      → ◌≡◌ {A = Result U EditFault} (Err x) (Err (fault.Size n))
      → ◌≡◌ {A = Result T Refused} (Err (refused.Size m)) (Err (refused.Size n))
  same_refusal x m n is e = ap (λ (k : ℕ). Err (refused.Size k))
      (ap (λ (r : Result U EditFault). told_by_fault (error_or fault.Range r))
      (sym (ap (λ (f : EditFault). Err f) is) ∙ e))

  -- one error is another, whatever the values are
  pub same_error : {E : Type 0} (x y : E)
      → ◌≡◌ {A = Result T E} (Err x) (Err y) → ◌≡◌ {A = Result U E} (Err x) (Err y)
  same_error {E = E} x y e =
      ap (λ (z : E). Err z) (ap (λ (r : Result T E). error_or x r) e)
