use Rattle.std.proofs.Common.{take}
use Rattle.ts_replay.specs.Running.{AreClientsBegun}
use Rattle.ts_replay.proofs.replaying.begun.Given as goal

abbrev pub invariant-loop-steps : goal.invariant-loop-steps
invariant-loop-steps l = AreClientsBegun (take l.steps-index l.all) l.documents l.clients.items
