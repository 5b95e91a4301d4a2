use Rattle.std.proofs.Common.{ap, subst, List}
use Rattle.ts_core.specs.declared.rule.Rule.{Rule}
use Rattle.ts_numbering.specs.Keys.{trees}
use Rattle.ts_numbering.specs.Numberings.{numbers_of}
use Rattle.ts_rules.specs.FirstSights.{Each}
use Rattle.ts_rules.specs.Normal.{IsExtra}
use Rattle.ts_tokens.specs.Names.{lent}
use Rattle.ts_form.proofs.NameLemmas.{rule_tokens}
use Rattle.ts_form.proofs.tokens.extras_of.Goals as goal

pub returns : goal.returns
returns c = (
  lent c.in_ok-trees.trees.items,
  c.in_ok-trees.ensures (rule_tokens c.args.grammar.now c.args.numbering.now c.requires),
  subst (λ (ts : List Rule). Each (IsExtra (numbers_of c.args.numbering.now)) ts c.in_ok-found.found) (ap trees c.as_slice.ensures.value) c.in_ok-found.ensures,
)
