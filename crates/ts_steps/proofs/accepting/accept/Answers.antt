use Rattle.std.proofs.Common.{◌≡◌, ℕ, suc, ◌+◌, arith}
use Rattle.ts_gss.specs.Stacks.{stack_at}
use Rattle.ts_steps.specs.LiveHeads.{read_on}
use Rattle.ts_steps.proofs.AcceptLemmas.{ready, ready_before, ready_after, ready_node, root_by, form_by, within_by, some_under}
use Rattle.ts_steps.proofs.RootLemmas.{root_made, root_state, root_own, root_sound}
use Rattle.ts_steps.proofs.accepting.accept.Goals as goal

next : (n : ℕ) → n + 1 ≡ suc n
next n = omega arith

pub node-root-requires-clause-some : goal.node-root-requires-clause-some
node-root-requires-clause-some c =
    some_under c.args.table.now (stack_at c.args.graph.now c.args.head.top) (stack_at c.args.graph.now c.in_ok-after.field-0.under) c.in_ok-after.field-0.extras.items c.in_ok-after.ensures.extras
    (c.laws_hold.ensures.accepts c.args.table.now.grammar (read_on c.args.graph.now c.args.head) c.requires.stays.0 c.requires.stays.1).1

pub below-requires-clause-some : goal.below-requires-clause-some
below-requires-clause-some c =
    some_under c.args.table.now (stack_at c.args.graph.now c.args.head.top) (stack_at c.args.graph.now c.in_ok-after.field-0.under) c.in_ok-after.field-0.extras.items c.in_ok-after.ensures.extras
    (c.laws_hold.ensures.accepts c.args.table.now.grammar (read_on c.args.graph.now c.args.head) c.requires.stays.0 c.requires.stays.1).1

pub accept-requires-clause-rule : goal.accept-requires-clause-rule
accept-requires-clause-rule c =
    (ready c.laws_hold.ensures c.args.table.now c.args.setting.now.size c.args.head.place (stack_at c.args.graph.now c.args.head.top) (stack_at c.args.graph.now c.in_ok-after.field-0.under) (stack_at c.args.graph.now c.below.result) (stack_at c.args.graph.now c.in_ok-lowest.lowest.under)
    c.in_ok-after.field-0.extras.items c.in_ok-lowest.lowest.extras.items c.reverse-2.new.self.items c.reverse.new.self.items c.node-root.result.now
    (record {
      fit = c.stands.ensures.fit;
      short = c.requires.setting.short;
      good = c.requires.live.live.stack;
      first = c.in_ok-after.ensures.extras;
      read = (c.laws_hold.ensures.accepts c.args.table.now.grammar (read_on c.args.graph.now c.args.head) c.requires.stays.0 c.requires.stays.1).1;
      top = c.node-root.ensures;
      low_is = c.below.ensures.stack;
      second = c.in_ok-lowest.ensures.extras;
      after_is = c.reverse.ensures.items;
      before_is = c.reverse-2.ensures.items;
    })).rule

pub accept-requires-clause-before : goal.accept-requires-clause-before
accept-requires-clause-before c =
    ready_before c.laws_hold.ensures c.args.table.now c.args.setting.now.size c.args.head.place (stack_at c.args.graph.now c.args.head.top) (stack_at c.args.graph.now c.in_ok-after.field-0.under) (stack_at c.args.graph.now c.below.result) (stack_at c.args.graph.now c.in_ok-lowest.lowest.under)
    c.in_ok-after.field-0.extras.items c.in_ok-lowest.lowest.extras.items c.reverse-2.new.self.items c.reverse.new.self.items c.node-root.result.now
    c.as_slice.result.now c.as_slice.ensures.value (record {
      fit = c.stands.ensures.fit;
      short = c.requires.setting.short;
      good = c.requires.live.live.stack;
      first = c.in_ok-after.ensures.extras;
      read = (c.laws_hold.ensures.accepts c.args.table.now.grammar (read_on c.args.graph.now c.args.head) c.requires.stays.0 c.requires.stays.1).1;
      top = c.node-root.ensures;
      low_is = c.below.ensures.stack;
      second = c.in_ok-lowest.ensures.extras;
      after_is = c.reverse.ensures.items;
      before_is = c.reverse-2.ensures.items;
    })

pub accept-requires-clause-after : goal.accept-requires-clause-after
accept-requires-clause-after c =
    ready_after c.laws_hold.ensures c.args.table.now c.args.setting.now.size c.args.head.place (stack_at c.args.graph.now c.args.head.top) (stack_at c.args.graph.now c.in_ok-after.field-0.under) (stack_at c.args.graph.now c.below.result) (stack_at c.args.graph.now c.in_ok-lowest.lowest.under)
    c.in_ok-after.field-0.extras.items c.in_ok-lowest.lowest.extras.items c.reverse-2.new.self.items c.reverse.new.self.items c.node-root.result.now
    c.as_slice-2.result.now c.as_slice-2.ensures.value (record {
      fit = c.stands.ensures.fit;
      short = c.requires.setting.short;
      good = c.requires.live.live.stack;
      first = c.in_ok-after.ensures.extras;
      read = (c.laws_hold.ensures.accepts c.args.table.now.grammar (read_on c.args.graph.now c.args.head) c.requires.stays.0 c.requires.stays.1).1;
      top = c.node-root.ensures;
      low_is = c.below.ensures.stack;
      second = c.in_ok-lowest.ensures.extras;
      after_is = c.reverse.ensures.items;
      before_is = c.reverse-2.ensures.items;
    })

pub accept-requires-clause-node : goal.accept-requires-clause-node
accept-requires-clause-node c =
    ready_node c.laws_hold.ensures c.args.table.now c.args.setting.now.size c.args.head.place (stack_at c.args.graph.now c.args.head.top) (stack_at c.args.graph.now c.in_ok-after.field-0.under) (stack_at c.args.graph.now c.below.result) (stack_at c.args.graph.now c.in_ok-lowest.lowest.under)
    c.in_ok-after.field-0.extras.items c.in_ok-lowest.lowest.extras.items c.reverse-2.new.self.items c.reverse.new.self.items c.node-root.result.now
    c.as_slice.result.now c.as_slice-2.result.now (c.args.setting.now.size + 1) c.as_slice.ensures.value c.as_slice-2.ensures.value (next c.args.setting.now.size) (record {
      fit = c.stands.ensures.fit;
      short = c.requires.setting.short;
      good = c.requires.live.live.stack;
      first = c.in_ok-after.ensures.extras;
      read = (c.laws_hold.ensures.accepts c.args.table.now.grammar (read_on c.args.graph.now c.args.head) c.requires.stays.0 c.requires.stays.1).1;
      top = c.node-root.ensures;
      low_is = c.below.ensures.stack;
      second = c.in_ok-lowest.ensures.extras;
      after_is = c.reverse.ensures.items;
      before_is = c.reverse-2.ensures.items;
    })

pub returns-clause-made : goal.returns-clause-made
returns-clause-made c =
    root_made c.laws_hold.ensures c.args.table.now c.args.setting.now.size c.args.head.place (stack_at c.args.graph.now c.args.head.top) (stack_at c.args.graph.now c.in_ok-after.field-0.under) (stack_at c.args.graph.now c.below.result) (stack_at c.args.graph.now c.in_ok-lowest.lowest.under)
    c.in_ok-after.field-0.extras.items c.in_ok-lowest.lowest.extras.items c.reverse-2.new.self.items c.reverse.new.self.items c.node-root.result.now
    c.as_slice.result.now c.as_slice-2.result.now (c.args.setting.now.size + 1) c.in_ok-node.node c.as_slice.ensures.value c.as_slice-2.ensures.value (next c.args.setting.now.size) c.in_ok-node.ensures (record {
      fit = c.stands.ensures.fit;
      short = c.requires.setting.short;
      good = c.requires.live.live.stack;
      first = c.in_ok-after.ensures.extras;
      read = (c.laws_hold.ensures.accepts c.args.table.now.grammar (read_on c.args.graph.now c.args.head) c.requires.stays.0 c.requires.stays.1).1;
      top = c.node-root.ensures;
      low_is = c.below.ensures.stack;
      second = c.in_ok-lowest.ensures.extras;
      after_is = c.reverse.ensures.items;
      before_is = c.reverse-2.ensures.items;
    })

pub returns-clause-root : goal.returns-clause-root
returns-clause-root c =
    root_by c.laws_hold.ensures c.args.table.now c.args.setting.now.size c.args.head.place (stack_at c.args.graph.now c.args.head.top) (stack_at c.args.graph.now c.in_ok-after.field-0.under) (stack_at c.args.graph.now c.below.result) (stack_at c.args.graph.now c.in_ok-lowest.lowest.under)
    c.in_ok-after.field-0.extras.items c.in_ok-lowest.lowest.extras.items c.reverse-2.new.self.items c.reverse.new.self.items c.node-root.result.now
    c.as_slice.result.now c.as_slice-2.result.now (c.args.setting.now.size + 1) c.in_ok-node.node c.as_slice.ensures.value c.as_slice-2.ensures.value (next c.args.setting.now.size) c.in_ok-node.ensures (record {
      fit = c.stands.ensures.fit;
      short = c.requires.setting.short;
      good = c.requires.live.live.stack;
      first = c.in_ok-after.ensures.extras;
      read = (c.laws_hold.ensures.accepts c.args.table.now.grammar (read_on c.args.graph.now c.args.head) c.requires.stays.0 c.requires.stays.1).1;
      top = c.node-root.ensures;
      low_is = c.below.ensures.stack;
      second = c.in_ok-lowest.ensures.extras;
      after_is = c.reverse.ensures.items;
      before_is = c.reverse-2.ensures.items;
    })

pub returns-clause-form : goal.returns-clause-form
returns-clause-form c =
    form_by c.laws_hold.ensures c.args.table.now c.args.setting.now.size c.args.head.place (stack_at c.args.graph.now c.args.head.top) (stack_at c.args.graph.now c.in_ok-after.field-0.under) (stack_at c.args.graph.now c.below.result) (stack_at c.args.graph.now c.in_ok-lowest.lowest.under)
    c.in_ok-after.field-0.extras.items c.in_ok-lowest.lowest.extras.items c.reverse-2.new.self.items c.reverse.new.self.items c.node-root.result.now
    c.as_slice.result.now c.as_slice-2.result.now (c.args.setting.now.size + 1) c.in_ok-node.node c.as_slice.ensures.value c.as_slice-2.ensures.value (next c.args.setting.now.size) c.in_ok-node.ensures (record {
      fit = c.stands.ensures.fit;
      short = c.requires.setting.short;
      good = c.requires.live.live.stack;
      first = c.in_ok-after.ensures.extras;
      read = (c.laws_hold.ensures.accepts c.args.table.now.grammar (read_on c.args.graph.now c.args.head) c.requires.stays.0 c.requires.stays.1).1;
      top = c.node-root.ensures;
      low_is = c.below.ensures.stack;
      second = c.in_ok-lowest.ensures.extras;
      after_is = c.reverse.ensures.items;
      before_is = c.reverse-2.ensures.items;
    })

pub returns-clause-within : goal.returns-clause-within
returns-clause-within c =
    within_by c.laws_hold.ensures c.args.table.now c.args.setting.now.size c.args.head.place (stack_at c.args.graph.now c.args.head.top) (stack_at c.args.graph.now c.in_ok-after.field-0.under) (stack_at c.args.graph.now c.below.result) (stack_at c.args.graph.now c.in_ok-lowest.lowest.under)
    c.in_ok-after.field-0.extras.items c.in_ok-lowest.lowest.extras.items c.reverse-2.new.self.items c.reverse.new.self.items c.node-root.result.now
    c.as_slice.result.now c.as_slice-2.result.now (c.args.setting.now.size + 1) c.in_ok-node.node c.as_slice.ensures.value c.as_slice-2.ensures.value (next c.args.setting.now.size) c.in_ok-node.ensures (record {
      fit = c.stands.ensures.fit;
      short = c.requires.setting.short;
      good = c.requires.live.live.stack;
      first = c.in_ok-after.ensures.extras;
      read = (c.laws_hold.ensures.accepts c.args.table.now.grammar (read_on c.args.graph.now c.args.head) c.requires.stays.0 c.requires.stays.1).1;
      top = c.node-root.ensures;
      low_is = c.below.ensures.stack;
      second = c.in_ok-lowest.ensures.extras;
      after_is = c.reverse.ensures.items;
      before_is = c.reverse-2.ensures.items;
    })

pub returns-clause-state : goal.returns-clause-state
returns-clause-state c =
    root_state c.laws_hold.ensures c.args.table.now c.args.setting.now.size c.args.head.place (stack_at c.args.graph.now c.args.head.top) (stack_at c.args.graph.now c.in_ok-after.field-0.under) (stack_at c.args.graph.now c.below.result) (stack_at c.args.graph.now c.in_ok-lowest.lowest.under)
    c.in_ok-after.field-0.extras.items c.in_ok-lowest.lowest.extras.items c.reverse-2.new.self.items c.reverse.new.self.items c.node-root.result.now
    c.as_slice.result.now c.as_slice-2.result.now (c.args.setting.now.size + 1) c.in_ok-node.node c.in_ok-node.ensures

pub returns-clause-own : goal.returns-clause-own
returns-clause-own c =
    root_own c.laws_hold.ensures c.args.table.now c.args.setting.now.size c.args.head.place (stack_at c.args.graph.now c.args.head.top) (stack_at c.args.graph.now c.in_ok-after.field-0.under) (stack_at c.args.graph.now c.below.result) (stack_at c.args.graph.now c.in_ok-lowest.lowest.under)
    c.in_ok-after.field-0.extras.items c.in_ok-lowest.lowest.extras.items c.reverse-2.new.self.items c.reverse.new.self.items c.node-root.result.now
    c.as_slice.result.now c.as_slice-2.result.now (c.args.setting.now.size + 1) c.in_ok-node.node c.as_slice.ensures.value c.as_slice-2.ensures.value (next c.args.setting.now.size) c.in_ok-node.ensures (record {
      fit = c.stands.ensures.fit;
      short = c.requires.setting.short;
      good = c.requires.live.live.stack;
      first = c.in_ok-after.ensures.extras;
      read = (c.laws_hold.ensures.accepts c.args.table.now.grammar (read_on c.args.graph.now c.args.head) c.requires.stays.0 c.requires.stays.1).1;
      top = c.node-root.ensures;
      low_is = c.below.ensures.stack;
      second = c.in_ok-lowest.ensures.extras;
      after_is = c.reverse.ensures.items;
      before_is = c.reverse-2.ensures.items;
    })
    c.requires.live.own

pub returns-clause-sound : goal.returns-clause-sound
returns-clause-sound c states text long are stand =
    root_sound c.laws_hold.ensures c.args.table.now c.args.setting.now.size c.args.head.place (stack_at c.args.graph.now c.args.head.top) (stack_at c.args.graph.now c.in_ok-after.field-0.under) (stack_at c.args.graph.now c.below.result) (stack_at c.args.graph.now c.in_ok-lowest.lowest.under)
    c.in_ok-after.field-0.extras.items c.in_ok-lowest.lowest.extras.items c.reverse-2.new.self.items c.reverse.new.self.items c.node-root.result.now
    c.sound_laws_hold.ensures states text c.as_slice.result.now c.as_slice-2.result.now (c.args.setting.now.size + 1) c.in_ok-node.node c.as_slice.ensures.value c.as_slice-2.ensures.value (next c.args.setting.now.size) c.in_ok-node.ensures long (record {
      fit = c.stands.ensures.fit;
      short = c.requires.setting.short;
      good = c.requires.live.live.stack;
      first = c.in_ok-after.ensures.extras;
      read = (c.laws_hold.ensures.accepts c.args.table.now.grammar (read_on c.args.graph.now c.args.head) c.requires.stays.0 c.requires.stays.1).1;
      top = c.node-root.ensures;
      low_is = c.below.ensures.stack;
      second = c.in_ok-lowest.ensures.extras;
      after_is = c.reverse.ensures.items;
      before_is = c.reverse-2.ensures.items;
    })
    c.requires.live.own stand
