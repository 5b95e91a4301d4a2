use Rattle.std.proofs.Common.{◌∙◌, sym}
use Rattle.ts_grammar_json.proofs.FileLemmas.{limited, counted}
use Rattle.ts_grammar_json.proofs.file.counted_rules.Goals as goal

pub returns-then-members-gt-MOST_RULES : goal.returns-then-members-gt-MOST_RULES
returns-then-members-gt-MOST_RULES c = λ other. limited c.args.members.now (sym c.are_named.ensures ∙ c.if-not-are_named.false) c.if-members-gt-MOST_RULES.true

pub returns : goal.returns
returns c = counted c.args.members.now c.named.result (sym c.are_named.ensures ∙ c.if-not-are_named.false) c.if-members-gt-MOST_RULES.false c.named.ensures
