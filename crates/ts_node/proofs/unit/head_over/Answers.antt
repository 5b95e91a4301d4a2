use Rattle.std.proofs.Common.{arith, rules, ◌≡◌, ◌∙◌, ◌<◌, ◌+◌, ◌^◌}
use Rattle.std.proofs.lemmas.Int.{ints}
use Rattle.std.specs.Int.RustNames.{unsigned_abs}
use lib.IntN.{◌+ℤ◌}
use mir.Syntax.{w32, w64}
use mir.Val.{SFits, to_z, of_z}
use Rattle.ts_node.proofs.unit.head_over.Goals as goal

pub with_value-requires : goal.with_value-requires
with_value-requires c =
    let f : SFits w64 c.args.below.dynamic = search rules in
    let z : to_z w64 (of_z w64 c.args.below.dynamic) ≡ c.args.below.dynamic = omega (arith, ints) in
    let g : unsigned_abs c.args.below.dynamic + 2 ^ 31 < 2 ^ 63 = c.requires in
    rw z g

pub returns-clause-dynamic : goal.returns-clause-dynamic
returns-clause-dynamic c =
    let f0 : SFits w32 c.args.entry.dynamic = search rules in
    let f1 : SFits w64 c.args.below.dynamic = search rules in
    let f2 : SFits w64 c.with_value.result = search rules in
    let z0 : to_z w32 (of_z w32 c.args.entry.dynamic) ≡ c.args.entry.dynamic = omega (arith, ints) in
    let z1 : to_z w64 (of_z w64 c.args.below.dynamic) ≡ c.args.below.dynamic = omega (arith, ints) in
    let z2 : to_z w64 (of_z w64 c.with_value.result) ≡ c.with_value.result = omega (arith, ints) in
    let v0 : c.with_value.result ≡ to_z w32 (of_z w32 c.args.entry.dynamic) +ℤ to_z w64 (of_z w64 c.args.below.dynamic) = c.with_value.ensures in
    let v : c.with_value.result ≡ c.args.entry.dynamic +ℤ c.args.below.dynamic = rw (z0, z1) at v0 in
    z2 ∙ v
