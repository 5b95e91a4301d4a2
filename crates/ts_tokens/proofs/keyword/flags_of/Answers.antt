use Rattle.std.proofs.Common.{subst, Option}
use Rattle.std.specs.Borrow.{Bor}
use Rattle.ts_core.specs.declared.rule.Rule.{Rule}
use Rattle.ts_tokens.specs.Definitions.{IsWordTree}
use Rattle.ts_tokens.proofs.TableLemmas.{if_ok_map}
use Rattle.ts_tokens.proofs.keyword.flags_of.Goals as goal

pub returns-in-Some : goal.returns-in-Some
returns-in-Some c = record {
  count = c.keywords_of.ensures.count;
  keywords = if_ok_map c.keywords_of.result _ _
      (λ flags h g file w. let t = subst (λ (o : Option (Bor Rule)). IsWordTree g o) c.in-Some.is w in h g t.0 file t.1 t.2)
      c.keywords_of.ensures.keywords;
}
