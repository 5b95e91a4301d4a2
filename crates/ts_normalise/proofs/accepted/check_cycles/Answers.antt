use Rattle.std.proofs.Common.{ℕ, Option, subst}
use Rattle.spec_tables.specs.Fit.{IsCyclic}
use Rattle.ts_fit.specs.Misfits.{FindsFirst}
use Rattle.ts_normalise.proofs.FormLemmas.{cycle_none, cycle_place}
use Rattle.ts_normalise.proofs.accepted.check_cycles.Goals as goal

pub returns-in-None-clause-none : goal.returns-in-None-clause-none
returns-in-None-clause-none c =
    cycle_none c.args.form.now (subst (λ (found : Option ℕ). FindsFirst (IsCyclic c.args.form.now) found) c.in-None.is c.in_ok-first_cyclic.ensures)

pub get-requires : goal.get-requires
get-requires c =
    cycle_place c.args.form.now c.in-Some.place (subst (λ (found : Option ℕ). FindsFirst (IsCyclic c.args.form.now) found) c.in-Some.is c.in_ok-first_cyclic.ensures)
