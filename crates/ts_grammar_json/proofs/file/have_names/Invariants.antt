use Rattle.std.proofs.Common.{◌≡◌, drop}
use Rattle.ts_grammar_json.specs.Members.{members_json}
use Rattle.ts_grammar_json.specs.File.{have_names}
use Rattle.ts_grammar_json.proofs.file.have_names.Given as goal

abbrev pub invariant-loop-member : goal.invariant-loop-member
invariant-loop-member l = have_names (members_json l.members) ≡ have_names (members_json (drop l.member-index l.members))
