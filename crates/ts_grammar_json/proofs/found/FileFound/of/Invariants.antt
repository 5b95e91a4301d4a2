use Rattle.std.proofs.Common.{◌≡◌, drop}
use Rattle.ts_grammar_json.specs.Members.{members_json}
use Rattle.ts_grammar_json.specs.File.{file_members}
use Rattle.ts_grammar_json.specs.Found.{file_of}
use Rattle.ts_grammar_json.proofs.FoundLemmas.{file_on}
use Rattle.ts_grammar_json.proofs.found.FileFound.of.Given as goal

abbrev pub invariant-loop-member : goal.invariant-loop-member
invariant-loop-member l = file_members (members_json l.members) ≡ file_on (file_of l.found) (members_json (drop l.member-index l.members))
