use Rattle.std.proofs.Common.{◌≡◌, ◌≤◌, suc, ◌+◌, ◌-◌, max, length}
use Rattle.ts_script.specs.Drafts.{Extends}
use Rattle.ts_script.proofs.draft.extend.Given as goal

abbrev pub invariant-loop-alloc : goal.invariant-loop-alloc
invariant-loop-alloc l =
    (length l.initial.clients.items ≤ length l.clients.items)
    × (length l.clients.items ≤ max (suc l.client) (length l.initial.clients.items))
    × Extends l.initial.clients.items l.clients.items

abbrev pub decreases-loop-alloc : goal.decreases-loop-alloc
decreases-loop-alloc l = l.client + 1 - length l.clients.items
