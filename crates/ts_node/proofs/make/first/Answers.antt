use Rattle.std.proofs.Common.{arith, rules, ◌≡◌, ◌<◌, ◌+◌, ◌^◌, ◌∙◌, ap, subst, length, List, [], ◌∷◌}
use Rattle.std.proofs.lemmas.Int.{ints}
use Rattle.std.specs.Int.RustNames.{unsigned_abs}
use mir.Syntax.{w64, w128}
use mir.Val.{SFits, to_z, of_z}
use Rattle.spec_trees.specs.declared.tree.Tree.{Tree}
use Rattle.spec_trees.specs.Trees.{all_totals}
use Rattle.spec_trees.specs.Made.{element}
use Rattle.ts_node.specs.Held.{IsSum}
use Rattle.ts_node.proofs.BodyLemmas.{HasRoom, room}
use Rattle.ts_node.proofs.make.first.Goals as goal

pub sums-sums-requires : goal.sums-sums-requires
sums-sums-requires c =
    let r : HasRoom (element c.args.alternative (length c.args.children.now.items) c.args.entry.dynamic c.args.extent ∷ []) c.args.children.now.items = room _ _ _ _ _ _ _ c.requires in
    let e : length c.as_slice.result.now ≡ length c.args.children.now.items = ap (λ (ts : List Tree). length ts) c.as_slice.ensures.value in
    let g : length c.as_slice.result.now < 4294967296 = omega (arith, r.wide, e) in
    g

pub narrowed-total-requires : goal.narrowed-total-requires
narrowed-total-requires c =
    let r : HasRoom (element c.args.alternative (length c.args.children.now.items) c.args.entry.dynamic c.args.extent ∷ []) c.args.children.now.items = room _ _ _ _ _ _ _ c.requires in
    let q : IsSum c.sums-sums.result c.args.children.now.items = subst (λ (ts : List Tree). IsSum c.sums-sums.result ts) c.as_slice.ensures.value c.sums-sums.ensures in
    let t : unsigned_abs c.sums-sums.result.totals ≡ unsigned_abs (all_totals c.args.children.now.items) = ap unsigned_abs q.totals in
    let f : SFits w128 c.sums-sums.result.totals = search rules in
    let z : to_z w128 (of_z w128 c.sums-sums.result.totals) ≡ c.sums-sums.result.totals = omega (arith, ints) in
    let g : unsigned_abs c.sums-sums.result.totals < 2 ^ 63 = omega (arith, r.few, t, q.modest) in
    rw z g

pub with_value-dynamic-requires : goal.with_value-dynamic-requires
with_value-dynamic-requires c =
    let r : HasRoom (element c.args.alternative (length c.args.children.now.items) c.args.entry.dynamic c.args.extent ∷ []) c.args.children.now.items = room _ _ _ _ _ _ _ c.requires in
    let q : IsSum c.sums-sums.result c.args.children.now.items = subst (λ (ts : List Tree). IsSum c.sums-sums.result ts) c.as_slice.ensures.value c.sums-sums.ensures in
    let t : unsigned_abs c.sums-sums.result.totals ≡ unsigned_abs (all_totals c.args.children.now.items) = ap unsigned_abs q.totals in
    let f : SFits w128 c.sums-sums.result.totals = search rules in
    let z : to_z w128 (of_z w128 c.sums-sums.result.totals) ≡ c.sums-sums.result.totals = omega (arith, ints) in
    let n0 : c.narrowed-total.result ≡ to_z w128 (of_z w128 c.sums-sums.result.totals) = c.narrowed-total.ensures in
    let n : unsigned_abs c.narrowed-total.result ≡ unsigned_abs c.sums-sums.result.totals = ap unsigned_abs (n0 ∙ z) in
    let f1 : SFits w64 c.narrowed-total.result = search rules in
    let z1 : to_z w64 (of_z w64 c.narrowed-total.result) ≡ c.narrowed-total.result = omega (arith, ints) in
    let g : unsigned_abs c.narrowed-total.result + 2 ^ 31 < 2 ^ 63 = omega (arith, r.few, t, n, q.modest) in
    rw z1 g

pub overflow_cast-len : goal.overflow_cast-len
overflow_cast-len c =
    let r : HasRoom (element c.args.alternative (length c.args.children.now.items) c.args.entry.dynamic c.args.extent ∷ []) c.args.children.now.items = room _ _ _ _ _ _ _ c.requires in
    let n : c.len.result ≡ length c.args.children.now.items = omega (arith, c.len.ensures, c.args.children.now.ok) in
    record { fits = omega (arith, n, r.wide) }
