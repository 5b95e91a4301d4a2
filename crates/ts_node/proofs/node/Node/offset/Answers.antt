use Rattle.std.proofs.Common.{◌≡◌, ◌≤◌, ◌∙◌, ap, arith}
use Rattle.spec_trees.specs.declared.tree.Stretch.{Stretch}
use Rattle.spec_trees.specs.Trees.{children_of, all_spans}
use Rattle.spec_trees.specs.Made.{bytes_before, IsNode}
use Rattle.ts_node.proofs.ElementLemmas.{bytes_within}
use Rattle.ts_node.proofs.node.Node.offset.Goals as goal

pub overflow_cast-result : goal.overflow_cast-result
overflow_cast-result c =
    let own : c.in-Repetition.repetition ≡ c.args.self.now = rw c.in-Repetition.is at c.self.view_is in
    let body : c.get.result.now ≡ c.args.self.now = c.get.ensures ∙ own in
    let kids : c.run.result.now.children ≡ children_of c.args.self.now = c.run.ensures.children ∙ ap children_of body in
    let run : c.get-in-Repetition.result.now ≡ c.run.result.now = c.get-in-Repetition.ensures in
    let spans : all_spans c.get-in-Repetition.result.now.children ≡ all_spans (children_of c.args.self.now) = ap (λ (s : Stretch). all_spans s.children) run ∙ ap all_spans kids in
    let within : bytes_before c.args.e c.get-in-Repetition.result.now ≤ all_spans c.get-in-Repetition.result.now.children = bytes_within c.get-in-Repetition.result.now c.args.e in
    let node : IsNode c.args.self.now = c.nodes.ensures.node in
    let bytes : c.bytes_before.result ≡ bytes_before c.args.e c.get-in-Repetition.result.now = c.bytes_before.ensures in
    record { fits = omega (arith, bytes, within, spans, node.sized.within, node.sized.short) }
