use Rattle.std.proofs.Common.{◌≡◌, take}
use Rattle.ts_replay.specs.Running.{first_versions}
use Rattle.ts_replay.proofs.replaying.firsts.Given as goal

abbrev pub invariant-loop-document : goal.invariant-loop-document
invariant-loop-document l = l.held.items ≡ first_versions (take l.document-index l.documents)
