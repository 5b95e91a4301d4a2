use Rattle.std.proofs.Common.{sym, subst, ℕ, ◌≤◌, List, length, arith}
use Rattle.ts_gss.specs.Stacks.{stack_at}
use Rattle.ts_gss.specs.Paths.{depths_of, AreDepthsOf}
use Rattle.ts_steps.specs.Reducing.{IsGatheredBy}
use Rattle.ts_steps.proofs.LayerLemmas.{layers_taken}
use Rattle.ts_steps.proofs.GatherLemmas.{under_symbols, parts, all_gathered, room_for}
use Rattle.ts_steps.proofs.gathering.gather_off.Goals as goal

pub take_off-requires-clause-enough : goal.take_off-requires-clause-enough
take_off-requires-clause-enough c =
    let e = under_symbols (stack_at c.args.graph.now c.args.head.top) (stack_at c.args.graph.now c.in_ok-extras.field-0.under) c.in_ok-extras.field-0.extras.items c.in_ok-extras.ensures.extras in
    subst (λ (l : List ℕ). c.args.count ≤ length l) e c.requires.enough

pub with_seen-requires-clause-room : goal.with_seen-requires-clause-room
with_seen-requires-clause-room c =
    let v = c.requires.live in
    let stack = stack_at c.args.graph.now c.args.head.top in
    let under = stack_at c.args.graph.now c.in_ok-extras.field-0.under in
    let below = stack_at c.args.graph.now c.in_ok-taken.taken.below in
    let lifted = c.in_ok-extras.field-0.extras.items in
    let extras = c.turn.new.nodes.items in
    let children = c.in_ok-taken.taken.nodes.items in
    let p = parts v.0 v.1 c.args.head.place c.args.count stack under below lifted extras children v.3.stack c.in_ok-extras.ensures.extras c.in_ok-taken.ensures.nodes c.turn.ensures in
    room_for v.0 v.1 c.args.head.place c.args.count stack under below lifted extras children c.args.ahead p v.4 v.2

pub returns-clause-gathered : goal.returns-clause-gathered
returns-clause-gathered c t size live room =
    let stack = stack_at c.args.graph.now c.args.head.top in
    let under = stack_at c.args.graph.now c.in_ok-extras.field-0.under in
    let below = stack_at c.args.graph.now c.in_ok-taken.taken.below in
    let lifted = c.in_ok-extras.field-0.extras.items in
    let extras = c.turn.new.nodes.items in
    let children = c.in_ok-taken.taken.nodes.items in
    let p = parts t size c.args.head.place c.args.count stack under below lifted extras children live.stack c.in_ok-extras.ensures.extras c.in_ok-taken.ensures.nodes c.turn.ensures in
    let r = c.with_seen.ensures in
    let depths : AreDepthsOf (depths_of (length children) under) c.with_seen.result.first c.with_seen.result.others =
    subst (λ (n : ℕ). AreDepthsOf (depths_of (length children) under) n c.with_seen.result.others) (sym r.first)
    (subst (λ (n : ℕ). AreDepthsOf (depths_of (length children) under) c.in_ok-taken.taken.first n) (sym r.others) c.in_ok-taken.ensures.depths) in
    let layers = layers_taken stack under below lifted extras children c.args.count c.with_seen.result.first c.with_seen.result.others live.stack.depths c.in_ok-extras.ensures.extras c.in_ok-taken.ensures.nodes c.turn.ensures depths in
    subst (λ (n : ℕ). IsGatheredBy t size stack c.args.head.place c.args.count c.args.ahead c.with_seen.result (stack_at c.args.graph.now n)) (sym r.below)
    (all_gathered t size c.args.head.place c.args.count stack under below lifted extras children c.args.ahead c.with_seen.result p room c.requires.some r.extras r.children r.covers r.lifted r.past r.most r.stated layers)

pub returns-clause-same : goal.returns-clause-same
returns-clause-same c k low = c.in_ok-taken.ensures.same k (subst (λ (n : ℕ). k ≤ n) c.with_seen.ensures.below low)

pub returns-clause-low : goal.returns-clause-low
returns-clause-low c =
    let is = c.with_seen.ensures.below in
    let low = c.in_ok-taken.ensures.low in
    let there = c.in_ok-extras.ensures.there in
    omega (arith, is, low, there)
