-- By what matches are judged.
use Rattle.std.specs.Prelude.{refl}
use Rattle.std.specs.Coded.{Coded, code_by, coded×, coded_list, coded_ℕ}
use Rattle.ts_base.specs.Bytes.{Bytes}
use Rattle.ts_query_syntax.specs.declared.read_query.ReadQuery.{ReadQuery}
use Rattle.ts_query_syntax.specs.contracts.read_query.ReadQuery as contract

-- a query, the text in which its captures lie, and what a host answers
pub record Rules (H : Type 0) : Type 0 where
  pub query : ReadQuery
  pub text : Bytes
  pub hosts : H

-- equal rules are known by equal parts
module _ {H : Type 0} where
  abbrev pub rules_code : Coded H → Coded (Rules H)
  rules_code hosts =
      code_by (ReadQuery × (Bytes × H))
      (coded× contract.the_row.coded (coded× (coded_list coded_ℕ) hosts))
      (λ r. (r.query, (r.text, r.hosts)))
      (λ p. record { query = p.0; text = p.1.0; hosts = p.1.1 }) (λ _. refl)
