use Rattle.std.proofs.Common.{◌∙◌, ap, sym, subst, length, inl, inr, ⊎_elim, List, ℕ, arith}
use Rattle.std.proofs.lemmas.Result.{err_from_is_err_and}
use Rattle.ts_core.specs.declared.flat.FlatGrammar.{FlatGrammar}
use Rattle.ts_bits.specs.declared.set.BitSet.{BitSet}
use Rattle.ts_items.specs.Sets.{AreWide}
use Rattle.ts_items.specs.Edges.{AreFirstSets}
use Rattle.ts_items.specs.Tables.{IsTables}
use Rattle.ts_items.specs.Numbers.{Collecting}
use Rattle.ts_items.specs.Collection.{AreTooManyStates}
use Rattle.ts_items.proofs.StandLemmas.{stands_for}
use Rattle.ts_items.proofs.ManyLemmas.{fits}
use Rattle.ts_items.proofs.numbering.collection.Goals as goal

pub states_of-requires-clause-asked : goal.states_of-requires-clause-asked
states_of-requires-clause-asked c = (
  ap (λ (l : List BitSet). length l) c.as_mut_slice.ensures.value ∙ c.in_ok-asked.ensures.count ∙ c.count.ensures,
  subst (λ (l : List BitSet). AreWide c.in_ok-tabled.tabled.tables.width l) (sym c.as_mut_slice.ensures.value) (subst (λ (n : ℕ). AreWide n c.in_ok-asked.asked.items) c.width.ensures c.in_ok-asked.ensures.wide),
)

pub returns-clause-stands : goal.returns-clause-stands
returns-clause-stands c =
    let g = c.args.grammar.now in
    let tables = c.in_ok-tabled.tabled.tables in
    let same = c.in_ok-tabled.ensures in
    let t = subst (λ (h : FlatGrammar). IsTables h tables) same c.stands.ensures in
    let e = c.in_ok-states.ensures in
    let states = subst (λ (h : FlatGrammar). Collecting h (length tables.productions.items) (length tables.firsts.items) c.states_of.new.pool.keys c.states_of.new.kernels.keys c.in_ok-states.states.items (length c.states_of.new.kernels.keys)) same e.states in
    let col = subst (λ (n : ℕ). Collecting g (length tables.productions.items) n c.states_of.new.pool.keys c.states_of.new.kernels.keys c.in_ok-states.states.items (length c.states_of.new.kernels.keys)) t.firsts.count states in
    let firsts = subst (AreFirstSets g tables.width) (sym c.into_firsts.ensures) t.firsts in
    stands_for c.same_words.ensures g tables t _ c.states_of.new.kernels.keys (length c.states_of.new.kernels.keys) tables.width t.narrow e.pool col (omega arith) (omega arith) firsts e.few

pub returns-in_err-states-clause-many : goal.returns-in_err-states-clause-many
returns-in_err-states-clause-many c =
    let p = err_from_is_err_and c.from_residual-in_err-states.result c.from_residual-in_err-states.ensures.1 in
    rw (p.1, p.2) (⊎_elim (λ m. inl m) (λ w. inr (w.0, subst AreTooManyStates c.in_ok-tabled.ensures w.1)) c.in_err-states.ensures.many)

pub returns-clause-fits : goal.returns-clause-fits
returns-clause-fits c = let stands = returns-clause-stands c in fits c.args.grammar.now _ stands stands.few
