use Rattle.std.proofs.Common.{◌<◌, [], subst}
use Rattle.ts_automata.specs.declared.tables.SetTables.{SetTables}
use Rattle.ts_automata.specs.Machine.{HasRead, state_count}
use Rattle.ts_automata.proofs.MachineLemmas.{first_within, first_stands}
use Rattle.ts_automata.proofs.machine.Machine.first.Goals as goal

pub returns : goal.returns
returns c =
    let t : SetTables = c.self.inside.tables in
    record {
      within = subst (λ (m : SetTables). t.first < state_count m) c.self.view_is (first_within t c.self.invariant);
      stands = subst (λ (m : SetTables). HasRead m [] t.first) c.self.view_is (first_stands t c.self.invariant);
    }
