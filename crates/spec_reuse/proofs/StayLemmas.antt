-- Where a reduction is at hand on a token, some move stays on it.
use Rattle.std.proofs.Common.{◌≡◌, ◌∙◌, sym, ℕ, inl, inr, ⊎_elim, List}
use Rattle.ts_core.specs.declared.flat.Assoc.TheVariants as assoc
use Rattle.ts_core.specs.declared.flat.FlatGrammar.{FlatGrammar}
use Rattle.spec_tables.specs.Items.{Item}
use Rattle.spec_tables.specs.Actions.{Reduces, Remains, ShiftAlone, ReduceAlone, shift, reduce, may_shift, may_reduce}
use Rattle.spec_runs.specs.Configurations.{HasMove}

module _ (g : FlatGrammar) (read : List ℕ) (t : ℕ) where
  -- not all reductions go
  some_remains : (i : Item) → Reduces g read t i → ((j : Item) → Remains g read t j → ⊥) → ⊥
  some_remains i r none = none i (record {
    reduces = r;
    top = inr (λ j q top. none j (record { reduces = q; top = inl top }));
  })

  -- a shift alone and a reduction alone do not both stay
  apart : (j : Item) → Remains g read t j → ShiftAlone g read t → ReduceAlone g read t → ⊥
  apart j stays s r = ⊎_elim
      (λ higher. r.not_higher higher)
      (λ right. ⊎_elim (λ lower. s.not_lower lower) (λ left. sides (sym (right j stays) ∙ left j stays)) r.cause)
      s.cause
    where
      sides : assoc.Right ≡ assoc.Left → ⊥
      sides e = cc

  pub some_move : (i : Item) → Reduces g read t i → (HasMove g read t → ⊥) → ⊥
  some_move i r none = some_remains i r (λ j stays.
      none (
        reduce stays.reduces.number,
        may_reduce j stays.reduces.number stays stays.reduces.line
            (λ alone. none (shift, may_shift alone.both.shift (λ other. apart j stays alone other))),
      ))
