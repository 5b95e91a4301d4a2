-- By what matches are judged.
use Rattle.std.proofs.Common.{◌≡◌}
use Rattle.ts_predicate.specs.Rules.{Rules}

-- rules of equal parts are equal
pub same_rules : {H : Type 0} (r s : Rules H) → r.query ≡ s.query → r.text ≡ s.text → r.hosts ≡ s.hosts → r ≡ s
same_rules r s query text hosts = λ i. record { query = query i; text = text i; hosts = hosts i }
