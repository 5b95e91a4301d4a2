use Rattle.ts_flat.proofs.rules.order_of.Goals as goal
use Rattle.std.proofs.Common.{sym, subst, List}
use Rattle.ts_base.specs.Bytes.{Bytes}
use Rattle.ts_rules.specs.Names.{told}
use Rattle.ts_tokens.specs.Names.{HaveSame}

pub inline_order-requires-clause-inline : goal.inline_order-requires-clause-inline
inline_order-requires-clause-inline c = subst (λ (names : List Bytes). HaveSame (told c.in_ok-inline.inline.keys) names) c.as_slice.ensures c.in_ok-inline.ensures
