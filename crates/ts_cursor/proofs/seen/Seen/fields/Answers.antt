use Rattle.std.proofs.Common.{◌∙◌, ◌+◌, ◌<◌, ◌≤◌, ℕ, List, length, take, drop, slice_get, Some, ap, sym, subst, arith, Option}
use Rattle.std.specs.Prelude.{option_map}
use Rattle.std.proofs.lemmas.List.{length-map}
use Rattle.spec_trees.specs.declared.visible.VisibleNode.{VisibleNode}
use Rattle.ts_cursor.specs.Pooled.{seen_node}
use Rattle.ts_cursor.proofs.PoolLemmas.{within_at, seen_at}
use Rattle.ts_cursor.proofs.seen.Seen.fields.Goals as goal

pub stretch-requires : goal.stretch-requires
stretch-requires c =
    let n : c.args.k < length c.self.inside.faces.items = omega (arith, c.requires, ap length c.self.view_is, length-map c.self.inside.faces.items (seen_node c.self.inside.pool.items)) in
    let w : c.index-face.result.now.first + c.index-face.result.now.count ≤ length c.self.inside.pool.items = within_at (length c.self.inside.pool.items) c.self.inside.faces.items c.args.k c.index-face.result.now c.self.invariant n c.index-face.ensures in
    subst (λ (ps : List ℕ). c.index-face.result.now.first + c.index-face.result.now.count ≤ length ps) (sym c.as_slice.ensures.value) w

pub returns : goal.returns
returns c =
    let n : c.args.k < length c.self.inside.faces.items = omega (arith, c.requires, ap length c.self.view_is, length-map c.self.inside.faces.items (seen_node c.self.inside.pool.items)) in
    ap (λ (ns : List VisibleNode). option_map (λ (v : VisibleNode). v.fields) (slice_get ns c.args.k)) (sym c.self.view_is)
    ∙ ap (λ (o : Option VisibleNode). option_map (λ (v : VisibleNode). v.fields) o) (seen_at c.self.inside.pool.items c.self.inside.faces.items c.args.k c.index-face.result.now n c.index-face.ensures)
    ∙ ap (λ (ps : List ℕ). Some (take c.index-face.result.now.count (drop c.index-face.result.now.first ps))) (sym c.as_slice.ensures.value)
    ∙ ap (λ (fs : List ℕ). Some fs) (sym c.stretch.ensures)
