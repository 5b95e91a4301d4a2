use Rattle.std.proofs.Common.{◌≡◌, ◌≤◌, min, sum, map, take}
use Rattle.ts_core.specs.declared.flat.TokenDef.{TokenDef}
use Rattle.spec_tables.specs.Fit as fit
use Rattle.ts_fit.proofs.limits.positions_of_tokens.Given as goal

abbrev pub invariant-loop-token : goal.invariant-loop-token
invariant-loop-token l =
    (l.all ≡ min 65537 (sum (map (λ (d : TokenDef). fit.positions d.re) (take l.token-index l.tokens)))) × (l.all ≤ 65537)
