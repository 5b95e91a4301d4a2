use Rattle.std.proofs.Common.{refl, ◌<◌, length, arith}
use Rattle.ts_bits.proofs.BitLemmas.{joined_at, wide_at, same_at, joined_all}
use Rattle.ts_bits.proofs.set.BitSet.union_with.Goals as goal

pub returns-clause-members : goal.returns-clause-members
returns-clause-members c = joined_all c.args.self.now.words.items c.args.other.now.words.items c.loop-at.self.words.items c.loop-at.at c.requires (omega (arith, c.loop-at-test.false, c.len-at-end.ensures)) c.loop-at.invariant.joined

pub loop-at-preserved : goal.loop-at-preserved
loop-at-preserved c =
    let inside : c.loop-at.at < length c.args.self.now.words.items = omega (arith, c.loop-at-test.true, c.len-at-end.ensures) in
    record {
      joined = joined_at c.args.self.now.words.items c.args.other.now.words.items c.loop-at.self.words.items c.loop-at.at c.index-old.result.now c.index.result.now inside c.requires c.index-old.ensures c.index.ensures c.loop-at.invariant.joined;
      wide = λ n w v. wide_at n c.loop-at.self c.args.other.now _ c.loop-at.at c.index-old.result.now c.index.result.now (omega (arith, inside, c.loop-at.invariant.joined.count)) c.index-old.ensures c.index.ensures refl (c.loop-at.invariant.wide n w v) v;
      same = λ e. same_at c.args.self.now.words.items c.loop-at.self.words.items c.loop-at.at c.index-old.result.now _ c.loop-at.changed c.index-old.ensures (omega (arith, inside, c.loop-at.invariant.joined.count)) e c.loop-at.invariant.same;
    }
