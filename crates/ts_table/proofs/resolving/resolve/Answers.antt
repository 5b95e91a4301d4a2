use Rattle.std.proofs.Common.{inr, arith}
use Rattle.ts_table.proofs.BuildLemmas.{first_undeclared, all_declared}
use Rattle.ts_table.proofs.TableLemmas.{table_stands}
use Rattle.ts_table.proofs.resolving.resolve.Goals as goal

pub of-requires : goal.of-requires
of-requires c = let few = c.requires.fit.few_symbols in omega (arith, few)

pub build-requires : goal.build-requires
build-requires c = record { source = record { fit = c.requires.fit; marks = c.in_ok-marks.ensures; sets = c.requires.items } }

pub returns-in-Some-clause-conflict : goal.returns-in-Some-clause-conflict
returns-in-Some-clause-conflict c = inr (record { 0 = c.in-Some.refusal.token }, c.in-Some.refusal.rules.items, c.fault_of.ensures, first_undeclared c.args.flat c.args.items.now c.requires.items c.in_ok-built.built.least c.in-Some.refusal c.in-Some.is c.in_ok-built.ensures.least)

pub invariant_of-result : goal.invariant_of-result
invariant_of-result c = table_stands c.args.flat c.args.items.now c.in_ok-built.built.arrays c.requires.fit c.requires.items c.in_ok-built.ensures.rows (all_declared c.args.flat c.args.items.now c.requires.items c.in_ok-built.built.least c.in-None.is c.in_ok-built.ensures.least)
