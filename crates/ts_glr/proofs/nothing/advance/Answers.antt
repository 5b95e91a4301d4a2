use Rattle.std.proofs.Common.{◌≡◌, refl, subst, inl, inr, ⊎_elim, Some, arith}
use Rattle.ts_lexer.specs.declared.lexed.Lexed.{Lexed}
use Rattle.ts_table.specs.Tables.{most_actions}
use Rattle.ts_gss.specs.Stacks.{stack_at, trees_on}
use Rattle.ts_steps.specs.LiveHeads.{config_of, packed_of}
use Rattle.ts_steps.specs.Looking.{SeesAhead}
use Rattle.ts_glr.proofs.StackLemmas.{grows_none, own_is}
use Rattle.ts_glr.proofs.SpentLemmas.{spent_absent}
use Rattle.ts_glr.proofs.nothing.advance.Goals as goal

pub returns-in-Absent-clause-grows : goal.returns-in-Absent-clause-grows
returns-in-Absent-clause-grows g c = grows_none c.args.readings.now.graph

pub returns-in-Absent-clause-done : goal.returns-in-Absent-clause-done
returns-in-Absent-clause-done g c shallow =
    spent_absent c.laws_hold.ensures c.args.table.now (g.L.Text.Content.bytes c.args.text.now) (config_of c.args.readings.now.graph c.args.head) (packed_of c.args.readings.now.graph c.args.head) (own_is c.args.readings.now.graph c.args.head) c.in-Absent.place
    (subst (λ (l : Lexed). SeesAhead c.args.table.now (g.L.Text.Content.bytes c.args.text.now) c.args.readings.now.graph c.args.head l) c.in-Absent.is c.look.ensures.sees)
    (trees_on (stack_at c.args.readings.now.graph c.args.head.top)) c.args.readings.now.graph (most_actions c.args.table.now) c.args.readings.now.live.items c.args.readings.now.best c.args.readings.now.stuck c.further-readings.result (c.further-readings.ensures.second c.in-Absent.place (c.in-Absent.place, refl, omega arith)) c.further-readings.ensures.first
    (λ q is. ⊎_elim (λ old. inl old) (λ new. inr (let e : Some c.in-Absent.place ≡ Some q = new in cc)) (c.further-readings.ensures.from q is))
