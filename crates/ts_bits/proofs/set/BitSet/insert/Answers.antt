use Rattle.std.proofs.Common.{◌∙◌, sym, refl, subst, ℕ, ◌/◌, ◌%◌, ◌<◌, ◌^◌}
use Rattle.std.proofs.lemmas.Nat.{or_lt}
use Rattle.std.proofs.lemmas.Grind.{get_or_default_zero}
use Rattle.ts_bits.proofs.BitLemmas.{bit_small, marked_more, wide_set}
use Rattle.ts_bits.proofs.set.BitSet.insert.Goals as goal

pub returns-clause-members : goal.returns-clause-members
returns-clause-members c = marked_more c.args.self.now.words.items c.args.number c.index_mut.result.now c.requires (c.index_mut.ensures.value ∙ get_or_default_zero c.args.self.now.words.items (c.args.number / 64) _ c.requires)

pub returns-clause-wide : goal.returns-clause-wide
returns-clause-wide c n w = wide_set n c.args.self.now (c.args.number / 64) _ (or_lt 64 c.index_mut.result.now _
    (subst (λ (x : ℕ). x < 2 ^ 64) (sym c.index_mut.ensures.value) (w.small (c.args.number / 64) c.index_mut.result.now c.requires))
    (bit_small (c.args.number % 64))) _ refl w
