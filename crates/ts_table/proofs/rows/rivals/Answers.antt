use Rattle.std.proofs.Common.{◌∙◌, ap, subst, List}
use Rattle.std.specs.List.{Contains}
use Rattle.std.proofs.lemmas.Result.{IfOk-weaker}
use Rattle.ts_items.specs.declared.part.Part.{Part}
use Rattle.ts_items.specs.declared.part.State.{State}
use Rattle.ts_table.proofs.ListLemmas.{one_at, read_at}
use Rattle.ts_table.proofs.RowLemmas.{part_lines, rival_all}
use Rattle.ts_table.proofs.rows.rivals.Goals as goal

pub shift_items-requires : goal.shift_items-requires
shift_items-requires c q h =
    let k = c.requires.known in
    let at = read_at c.args.items.now.states.items c.args.at c.index.result.now c.requires.at c.index.ensures in
    part_lines k.0 c.args.marks.now c.args.items.now c.args.at c.index.result.now k.1 at q (subst (λ (l : List Part). Contains l q) c.as_slice.ensures.value h)

pub returns-in-Some : goal.returns-in-Some
returns-in-Some c =
    let at = read_at c.args.items.now.states.items c.args.at c.index.result.now c.requires.at c.index.ensures in
    IfOk-weaker c.shift_items.result _ _ (λ v h g s source here.
    rival_all g c.args.items.now s c.args.token c.args.target c.args.reductions.now v.items c.as_slice.result.now c.as_slice-in-Some.result.now
    (c.as_slice.ensures.value ∙ ap (λ (r : State). r.parts.items) (one_at c.args.items.now.states.items c.args.at c.index.result.now s at here)) c.as_slice-in-Some.ensures.value (h g source.marks))
    c.shift_items.ensures
