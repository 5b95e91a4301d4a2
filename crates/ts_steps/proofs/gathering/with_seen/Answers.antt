use Rattle.std.proofs.Common.{subst, List}
use Rattle.spec_trees.specs.declared.tree.Tree.{Tree}
use Rattle.spec_trees.specs.Trees.{all_spans}
use Rattle.ts_steps.specs.Making.{IsSeenOf}
use Rattle.ts_steps.proofs.GatherLemmas.{room_behind, room_before}
use Rattle.ts_steps.proofs.MakingLemmas.{end_by_behind}
use Rattle.ts_steps.proofs.gathering.with_seen.Goals as goal

pub seen_over-behind-requires : goal.seen_over-behind-requires
seen_over-behind-requires c = room_behind c.args.taken.nodes.items c.args.extras.items c.as_slice.result.now c.args.ahead c.as_slice.ensures.value c.requires.room

pub seen_over-own-requires : goal.seen_over-own-requires
seen_over-own-requires c =
    room_before c.args.taken.nodes.items c.args.extras.items c.as_slice-2.result.now c.args.ahead c.seen_over-behind.result c.as_slice-2.ensures.value
    (subst (λ (l : List Tree). IsSeenOf l c.args.ahead c.seen_over-behind.result) c.as_slice.ensures.value c.seen_over-behind.ensures) c.requires.room

pub returns-clause-lifted : goal.returns-clause-lifted
returns-clause-lifted c =
    let behind : IsSeenOf c.args.extras.items c.args.ahead c.seen_over-behind.result = subst (λ (l : List Tree). IsSeenOf l c.args.ahead c.seen_over-behind.result) c.as_slice.ensures.value c.seen_over-behind.ensures in
    let own : IsSeenOf c.args.taken.nodes.items c.seen_over-behind.result.extent c.seen_over-own.result = subst (λ (l : List Tree). IsSeenOf l c.seen_over-behind.result.extent c.seen_over-own.result) c.as_slice-2.ensures.value c.seen_over-own.ensures in
    end_by_behind (all_spans c.args.taken.nodes.items) c.seen_over-behind.result.extent c.seen_over-own.result.extent c.args.extras.items behind.covers own.past
