use Rattle.std.proofs.Common.{subst}
use Rattle.ts_lexer.specs.declared.lexed.Lexed.{Lexed}
use Rattle.ts_steps.specs.LiveHeads.{config_of}
use Rattle.ts_steps.specs.Looking.{SeesAhead}
use Rattle.ts_steps.proofs.MoveLemmas.{stuck_here}
use Rattle.ts_steps.proofs.moving.go_on.Goals as goal

pub returns-in-Absent : goal.returns-in-Absent
returns-in-Absent c text long sees =
    let stop = subst (λ (l : Lexed). SeesAhead c.args.table.now text c.args.graph.now c.args.head l) c.in-Absent.is sees in
    (stuck_here c.laws_hold.ensures c.args.table.now.grammar text (config_of c.args.graph.now c.args.head) c.in-Absent.place stop, stop)
