use Rattle.std.proofs.Common.{◌≡◌, drop}
use Rattle.ts_grammar_json.specs.Members.{members_json}
use Rattle.ts_grammar_json.specs.Rules.{looked}
use Rattle.ts_grammar_json.specs.Found.{looked_of}
use Rattle.ts_grammar_json.proofs.FoundLemmas.{looked_on}
use Rattle.ts_grammar_json.proofs.found.Found.of.Given as goal

abbrev pub invariant-loop-member : goal.invariant-loop-member
invariant-loop-member l = looked (members_json l.members) ≡ looked_on (looked_of l.found) (members_json (drop l.member-index l.members))
