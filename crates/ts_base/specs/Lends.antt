-- What a shared value ends as, where a `&mut` to it is returned.
use Rattle.std.specs.Prelude.{Option}
use Rattle.std.specs.Borrow.{LendsIf, Fml, RattleType, MutBor}
use Rattle.ts_base.specs.contracts.shared.Shared.{the_row}

-- once the borrow r ends, the shared value is the last one behind r; at `None` it is as it was
abbrev pub lends_shared : (T : RattleType) → MutBor T.Denot → Option (MutBor T.Denot) → Fml
lends_shared T s r = LendsIf (the_row T) T s r (λ w. w) s.now
