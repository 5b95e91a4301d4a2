use Rattle.ts_form.proofs.NameLemmas.{rule_tokens}
use Rattle.ts_form.proofs.tokens.separators_of.Goals as goal

pub returns : goal.returns
returns c = c.in_ok-found.ensures (rule_tokens c.args.grammar.now c.args.numbering.now c.requires)
