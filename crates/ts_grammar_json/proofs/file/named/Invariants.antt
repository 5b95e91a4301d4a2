use Rattle.ts_grammar_json.proofs.FileLemmas.{RulesSoFar}
use Rattle.ts_grammar_json.proofs.file.named.Given as goal

abbrev pub invariant-loop-member : goal.invariant-loop-member
invariant-loop-member l = RulesSoFar l.members l.member-index l.rules
