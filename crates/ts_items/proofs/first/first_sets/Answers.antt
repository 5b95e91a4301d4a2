use Rattle.ts_items.proofs.EdgeLemmas.{firsts_of}
use Rattle.std.proofs.Common.{◌∙◌, ℕ, List, length, sym, ap, subst}
use Rattle.ts_bits.specs.declared.set.BitSet.{BitSet}
use Rattle.ts_items.specs.Sets.{HasAt, AreWide}
use Rattle.ts_items.specs.Edges.{AreInside}
use Rattle.ts_items.proofs.first.first_sets.Goals as goal

pub fill_firsts-requires-clause-inside : goal.fill_firsts-requires-clause-inside
fill_firsts-requires-clause-inside c = subst (λ (n : ℕ). AreInside n c.args.productions.now) (sym (ap (λ (l : List BitSet). length l) c.as_mut_slice.ensures.value ∙ c.in_ok-sets.ensures.count)) c.requires.inside

pub fill_firsts-requires-clause-wide : goal.fill_firsts-requires-clause-wide
fill_firsts-requires-clause-wide c = (c.args.width, c.requires.width.1, subst (AreWide c.args.width) (sym c.as_mut_slice.ensures.value) c.in_ok-sets.ensures.wide, c.requires.width.0)

pub fill_firsts-requires-clause-empty : goal.fill_firsts-requires-clause-empty
fill_firsts-requires-clause-empty c = subst (λ (l : List BitSet). (y t : ℕ) → HasAt l y t → ⊥) (sym c.as_mut_slice.ensures.value) c.in_ok-sets.ensures.empty

pub returns : goal.returns
returns c = firsts_of c.args.grammar.now c.args.width c.args.count c.in_ok-sets.sets.len c.in_ok-sets.sets.items c.as_mut_slice.result.now c.fill_firsts.new.sets c.as_mut_slice.ensures.value c.as_mut_slice.ensures.len c.in_ok-fill_firsts.ensures.count c.in_ok-sets.ensures.count c.requires.count c.in_ok-sets.ensures.wide c.in_ok-fill_firsts.ensures.wide c.in_ok-fill_firsts.ensures.firsts
