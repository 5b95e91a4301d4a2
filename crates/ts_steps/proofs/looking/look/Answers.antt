use Rattle.std.proofs.Common.{sym, subst, ℕ}
use Rattle.ts_table.specs.Tables.{IsStateOf}
use Rattle.ts_gss.specs.Stacks.{stack_at}
use Rattle.ts_steps.specs.LiveHeads.{read_on}
use Rattle.ts_steps.proofs.StackLemmas.{state_top}
use Rattle.ts_steps.proofs.LookLemmas.{sees_lexed, examined_lexed}
use Rattle.ts_steps.proofs.looking.look.Goals as goal

pub lex-requires-clause-made : goal.lex-requires-clause-made
lex-requires-clause-made g c =
    let st : IsStateOf c.args.table.now (read_on c.args.graph.now c.args.head) c.state.result = subst (λ (n : ℕ). IsStateOf c.args.table.now (read_on c.args.graph.now c.args.head) n) (sym c.state.ensures) (state_top c.args.table.now (stack_at c.args.graph.now c.args.head.top) c.requires.live.live.stack.states) in
    (c.args.table.now, c.requires.made, c.stands.ensures.inside (read_on c.args.graph.now c.args.head) c.state.result st)

pub lex-requires-clause-within : goal.lex-requires-clause-within
lex-requires-clause-within g c = c.requires.live.live.stack.within

pub returns-clause-sees : goal.returns-clause-sees
returns-clause-sees g c =
    let st : IsStateOf c.args.table.now (read_on c.args.graph.now c.args.head) c.state.result = subst (λ (n : ℕ). IsStateOf c.args.table.now (read_on c.args.graph.now c.args.head) n) (sym c.state.ensures) (state_top c.args.table.now (stack_at c.args.graph.now c.args.head.top) c.requires.live.live.stack.states) in
    let low = c.stands.ensures.inside (read_on c.args.graph.now c.args.head) c.state.result st in
    sees_lexed c.laws_hold.ensures c.sound_laws_hold.ensures c.args.table.now c.state.result (g.L.Text.Content.bytes c.args.text.now) c.args.graph.now c.args.head c.stands.ensures st c.lex.result c.requires.live.live.stack.within
    (c.lex.ensures.answer c.args.table.now c.requires.made low)
    (λ other found says agree. c.lex.ensures.settled c.args.table.now other 0 found c.requires.made low says agree)

pub returns-clause-seen : goal.returns-clause-seen
returns-clause-seen g c =
    let st : IsStateOf c.args.table.now (read_on c.args.graph.now c.args.head) c.state.result = subst (λ (n : ℕ). IsStateOf c.args.table.now (read_on c.args.graph.now c.args.head) n) (sym c.state.ensures) (state_top c.args.table.now (stack_at c.args.graph.now c.args.head.top) c.requires.live.live.stack.states) in
    let low = c.stands.ensures.inside (read_on c.args.graph.now c.args.head) c.state.result st in
    examined_lexed c.laws_hold.ensures c.sound_laws_hold.ensures c.args.table.now c.state.result (g.L.Text.Content.bytes c.args.text.now) c.args.graph.now c.args.head c.stands.ensures st c.lex.result
    (c.lex.ensures.answer c.args.table.now c.requires.made low)
