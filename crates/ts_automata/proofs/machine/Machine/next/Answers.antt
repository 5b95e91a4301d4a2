use Rattle.std.proofs.Common.{◌<◌, ◌++◌, ◌∷◌, [], ℕ, List, arith, subst, sym}
use lib.Utf8.{scalar_fits}
use Rattle.ts_automata.specs.declared.tables.SetTables.{SetTables}
use Rattle.ts_automata.specs.Machine.{HasRead, state_count}
use Rattle.ts_automata.proofs.CutLemmas.{zero_first}
use Rattle.ts_automata.proofs.MachineLemmas.{in_row, next_within, next_stands}
use Rattle.ts_automata.proofs.machine.Machine.next.Goals as goal

pub class_of-class-requires-clause-bound : goal.class_of-class-requires-clause-bound
class_of-class-requires-clause-bound c =
    let t : SetTables = c.self.inside.tables in
    rw c.as_slice.ensures.value (zero_first t.automaton.nodes.items t.bounds.items c.self.invariant.cut)

pub index-requires-2 : goal.index-requires-2
index-requires-2 c =
    let t : SetTables = c.self.inside.tables in
    let within : c.args.state < state_count t = subst (λ (m : SetTables). c.args.state < state_count m) (sym c.self.view_is) c.requires in
    let class = rw c.as_slice.ensures.value at c.class_of-class.ensures in
    let h = in_row t c.self.invariant c.args.state c.index.result.now c.args.c c.class_of-class.result within c.index.ensures class in
    omega (arith, c.index.result.now.ok.0)

pub returns : goal.returns
returns c =
    let t : SetTables = c.self.inside.tables in
    let within : c.args.state < state_count t = subst (λ (m : SetTables). c.args.state < state_count m) (sym c.self.view_is) c.requires in
    let class = rw c.as_slice.ensures.value at c.class_of-class.ensures in
    let next : ℕ = c.index-2.result.now in
    record {
      within = subst (λ (m : SetTables). next < state_count m) c.self.view_is
          (next_within t c.self.invariant c.args.state c.index.result.now c.args.c c.class_of-class.result next within c.index.ensures class c.index-2.ensures);
      stands = subst (λ (m : SetTables). (w : List ℕ) → HasRead m w c.args.state → HasRead m (w ++ c.args.c ∷ []) next) c.self.view_is
          (next_stands t c.self.invariant c.args.state c.index.result.now c.args.c c.class_of-class.result next within c.index.ensures class (scalar_fits c.args.c c.ranges.c.0) c.index-2.ensures);
    }
