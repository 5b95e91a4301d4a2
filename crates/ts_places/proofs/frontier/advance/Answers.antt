use Rattle.std.proofs.Common.{subst, sym, List, ℕ}
use Rattle.ts_places.specs.Frontiers.{AllStandFrom, IsLeastPlace}
use Rattle.ts_places.proofs.FrontierLemmas.{all_stand, next_open}
use Rattle.ts_places.proofs.frontier.advance.Goals as goal

pub least_place-next-requires : goal.least_place-next-requires
least_place-next-requires c =
    let r = c.requires in
    subst (λ (l : List ℕ). AllStandFrom c.args.graph.now 0 l) (sym c.as_slice.ensures.value) (all_stand r.0 c.args.graph.now c.args.count c.args.place c.args.frontier.now.past.items c.add_past.new.heads.items r.1 r.2 r.3 c.in_ok-add_past.ensures)

pub returns : goal.returns
returns c = λ old count_is keep are_open.
    rw c.swap.ensures.x_after (next_open old c.args.graph.now c.args.count c.args.place c.args.frontier.now.past.items c.add_past.new.heads.items count_is keep are_open c.in_ok-add_past.ensures c.least_place-next.result
    (subst (λ (l : List ℕ). IsLeastPlace c.args.graph.now l c.least_place-next.result) c.as_slice.ensures.value c.least_place-next.ensures))
