use Rattle.std.proofs.Common.{◌≡◌, ap, arith, ◌∷◌, [], length, true}
use Rattle.spec_trees.specs.declared.tree.Stretch.{Stretch}
use Rattle.ts_node.specs.Held.{stretch, stretch_of}
use Rattle.ts_node.proofs.InPlaceLemmas.{whole_longer}
use Rattle.ts_node.proofs.node.Run.lengthen.Goals as goal

pub with_one-longer-requires : goal.with_one-longer-requires
with_one-longer-requires c =
    let es : length (stretch_of c.self.inside.shape).elements ≡ length c.args.self.now.elements = ap (λ (s : Stretch). length s.elements) c.self.view_is in
    let ks : length (stretch_of c.self.inside.shape).children ≡ length c.args.self.now.children = ap (λ (s : Stretch). length s.children) c.self.view_is in
    (stretch_of c.self.inside.shape, stretch (c.args.element ∷ []) c.args.more.now.items, c.self.invariant.counted, c.requires.counted, omega (arith, es, c.requires.fits), omega (arith, ks, c.requires.wide))

pub lengthen_end-requires : goal.lengthen_end-requires
lengthen_end-requires c =
    let es : length (stretch_of c.self.inside.shape).elements ≡ length c.args.self.now.elements = ap (λ (s : Stretch). length s.elements) c.self.view_is in
    let ks : length (stretch_of c.self.inside.shape).children ≡ length c.args.self.now.children = ap (λ (s : Stretch). length s.children) c.self.view_is in
    record {
      fits = omega (arith, es, c.requires.fits);
      wide = omega (arith, ks, c.requires.wide);
      counted = c.requires.counted;
      held = c.self.invariant.held;
    }

pub invariant_of-self-then-branch : goal.invariant_of-self-then-branch
invariant_of-self-then-branch c =
    let taken = c.if-branch.true in
    let done : c.in_ok-lengthen_end.field-0 ≡ true = cc in
    whole_longer c.self.inside.counts c.args.one c.with_one-longer.result c.self.inside.shape c.lengthen_end.new.shape (stretch (c.args.element ∷ []) c.args.more.now.items) c.self.invariant c.requires.counted c.with_one-longer.ensures (c.in_ok-lengthen_end.ensures.longer done) c.lengthen_end.ensures.held
