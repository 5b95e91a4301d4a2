use Rattle.std.proofs.Common.{◌≡◌, ◌++◌, take, map}
use Rattle.ts_query_names.specs.Lent.{mentions_told}
use Rattle.ts_query_names.specs.Mentions.{capture}
use Rattle.ts_query_names.proofs.mention.add_captures.Given as goal

abbrev pub invariant-loop-name : goal.invariant-loop-name
invariant-loop-name l = mentions_told l.found.items ≡ mentions_told l.initial.found.items ++ map capture (take l.name-index l.captures)
