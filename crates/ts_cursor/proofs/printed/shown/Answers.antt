use Rattle.std.proofs.Common.{◌≡◌, ◌∙◌, ◌≤◌, List, length, map, take, slice_get, Some, ap, subst, arith}
use Rattle.std.proofs.lemmas.List.{take_all}
use Rattle.std.specs.Prelude.{option_map}
use Rattle.ts_base.specs.Bytes.{Bytes}
use Rattle.ts_core.specs.declared.shown.Shown.{Shown}
use Rattle.ts_core.specs.declared.flat.FlatGrammar.{FlatGrammar}
use Rattle.spec_trees.specs.declared.visible.VisibleNode.{VisibleNode}
use Rattle.spec_trees.specs.Trees.{span_of}
use Rattle.spec_trees.specs.VisibleNodes.{visible_nodes}
use Rattle.spec_trees.specs.Shown.{shown}
use Rattle.ts_cursor.specs.Marked.{start_of}
use Rattle.ts_cursor.proofs.WalkLemmas.{start_within, shown_more}
use Rattle.ts_cursor.proofs.printed.shown.Goals as goal

pub node_shown-requires-clause-starts : goal.node_shown-requires-clause-starts
node_shown-requires-clause-starts c =
    let s : start_of c.in_ok-nodes.nodes c.loop-k.k ≤ span_of c.args.root.now = start_within (span_of c.args.root.now) c.in_ok-nodes.nodes c.loop-k.k c.in_ok-nodes.ensures.lie in
    let n : length c.loop-k.points ≡ length c.args.text.now = ap (λ (w : Bytes). length w) c.loop-k.invariant.points in
    omega (arith, s, n, c.requires)

pub loop-k-preserved : goal.loop-k-preserved
loop-k-preserved c =
    let g : FlatGrammar = c.args.grammar.now in
    let text : Bytes = c.args.text.now in
    let nodes : List VisibleNode = c.in_ok-nodes.nodes in
    let s : Shown = c.in_ok-node_shown.field-0 in
    let at : option_map (shown g c.loop-k.points) (slice_get nodes c.loop-k.k) ≡ Some s = c.in_ok-node_shown.ensures.node in
    record {
      points = c.in_ok-node_shown.ensures.points ∙ c.loop-k.invariant.points;
      all = shown_more g text nodes c.loop-k.k c.loop-k.all c.push.new.self s c.loop-k.invariant.all (subst (λ (w : Bytes). option_map (shown g w) (slice_get nodes c.loop-k.k) ≡ Some s) c.loop-k.invariant.points at) c.in_ok-push.ensures.ok;
    }

pub returns : goal.returns
returns c =
    let nodes : List VisibleNode = c.in_ok-nodes.nodes in
    let whole : take c.loop-k.k nodes ≡ nodes = take_all c.loop-k.k nodes (omega (arith, c.loop-k-test.false)) in
    let all : nodes ≡ visible_nodes c.args.grammar.now c.args.root.now =
    c.in_ok-nodes.ensures.nodes ∙ ap (λ (g : FlatGrammar). visible_nodes g c.args.root.now) c.in_ok-steps.ensures in
    c.loop-k.invariant.all ∙ ap (λ (ns : List VisibleNode). map (shown c.args.grammar.now c.args.text.now) ns) (whole ∙ all)
