use Rattle.std.proofs.Common.{◌≡◌, ℕ, List, [], length, sym, subst, arith, Option, Some, None}
use Rattle.std.specs.Global.{Vec}
use Rattle.ts_bits.specs.declared.set.BitSet.{BitSet}
use Rattle.ts_items.specs.declared.flow.Edge.{Edge}
use Rattle.ts_items.specs.Edges.{IsFirstEdge, AreEdges, AreInside}
use Rattle.ts_items.specs.Flow.{IsNet}
use Rattle.ts_items.specs.Sets.{GainsTokens}
use Rattle.ts_items.proofs.GainLemmas.{Selves}
use Rattle.ts_items.proofs.EdgeLemmas.{first_net, selves_queued, selves_are, begins_are}
use Rattle.ts_items.proofs.first.fill_firsts.Goals as goal

pub begin_tokens-requires-clause-wide : goal.begin_tokens-requires-clause-wide
begin_tokens-requires-clause-wide c = let w = c.requires.wide in let lt = w.3 in (w.0, w.2, omega (arith, lt, c.len-tokens.ensures))

pub flow-requires-clause-net : goal.flow-requires-clause-net
flow-requires-clause-net c =
    let inside = subst (λ (n : ℕ). AreInside n c.args.productions.now) (sym c.in_ok-begin_tokens.ensures.gains.count) c.requires.inside in
    subst (λ (l : List (Vec Edge)). IsNet l [] (length c.begin_tokens.new.sets)) (sym c.as_slice.ensures.value) (first_net c.args.productions.now (length c.begin_tokens.new.sets) c.in_ok-edges.edges.items [] inside c.in_ok-edges.ensures)

pub flow-requires-clause-wide : goal.flow-requires-clause-wide
flow-requires-clause-wide c = let w = c.requires.wide in (w.0, w.1, c.in_ok-begin_tokens.ensures.gains.wide w.0 w.2, λ n s h. absurd (let e : ◌≡◌ {A = Option BitSet} None (Some s) = h in cc))

pub flow-requires-clause-queue : goal.flow-requires-clause-queue
flow-requires-clause-queue c =
    let few = c.requires.few.0 in
    selves_queued c.len-tokens.result c.begin_tokens.new.sets c.args.sets.now c.new-queue.result.items c.begin_tokens.new.queue.items (omega (arith, few, c.len-tokens.ensures)) c.requires.empty c.new-queue.ensures.items c.in_ok-begin_tokens.ensures.gains c.in_ok-begin_tokens.ensures.queue

pub returns-clause-firsts : goal.returns-clause-firsts
returns-clause-firsts c =
    let few = c.requires.few.0 in
    let gains : GainsTokens (Selves (length c.args.grammar.now.tokens)) c.args.sets.now c.begin_tokens.new.sets = subst (λ (k : ℕ). GainsTokens (Selves k) c.args.sets.now c.begin_tokens.new.sets) c.len-tokens.ensures c.in_ok-begin_tokens.ensures.gains in
    let are = subst (λ (l : List (Vec Edge)). AreEdges IsFirstEdge c.args.productions.now (length c.begin_tokens.new.sets) l) (sym c.as_slice.ensures.value) c.in_ok-edges.ensures in
    begins_are c.args.grammar.now c.args.productions.now (length c.begin_tokens.new.sets) c.as_slice.result.now [] c.begin_tokens.new.sets c.requires.plain are
    (selves_are (length c.args.grammar.now.tokens) c.begin_tokens.new.sets c.args.sets.now few c.requires.empty gains) c.flow.new.sets c.in_ok-flow.ensures

pub first_edges-requires : goal.first_edges-requires
first_edges-requires c = subst (λ (n : ℕ). AreInside n c.args.productions.now) (sym c.in_ok-begin_tokens.ensures.gains.count) c.requires.inside

pub returns-clause-wide : goal.returns-clause-wide
returns-clause-wide c n w = c.in_ok-flow.ensures.wide n (c.in_ok-begin_tokens.ensures.gains.wide n w)
