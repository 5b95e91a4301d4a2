use Rattle.std.proofs.Common.{arith, sym, subst}
use Rattle.std.specs.Prelude.{◌≢◌}
use Rattle.ts_query_syntax.specs.declared.fault.QueryFault.{QueryFault}
use Rattle.ts_query_syntax.specs.declared.fault.QueryFault.TheVariants as fault
use Rattle.ts_query_syntax.specs.declared.read_query.ReadQuery.{ReadQuery}
use Rattle.ts_query_syntax.specs.Queries.{IsRegex, IsQuery}
use Rattle.ts_query_syntax.proofs.FaultLemmas.{Or, few_from, ok_from, grew_from, refused_from, before_from, rose_in, exact_from, complete_from, later_from, tree_complete, tree_exact}
use Rattle.ts_query_syntax.proofs.reader.query.Goals as goal

pub returns-in-Ok-clause-ok : goal.returns-in-Ok-clause-ok
returns-in-Ok-clause-ok g c = ok_from c.args.flat.now c.args.hosts.now c.args.source.now c.in-Ok.parts c.in-Ok.ensures.ok _ _ _ c.query_of.ensures.runs c.query_of.ensures.is

pub returns-in-Ok-clause-few : goal.returns-in-Ok-clause-few
returns-in-Ok-clause-few g c = let fit = c.names_fit.ensures.patterns c.in-Ok.parts c.args.source.now c.in-Ok.ensures.ok in few_from c.args.flat.now c.args.hosts.now c.in-Ok.parts _ (omega (arith, fit, c.requires.short)) _ c.query_of.ensures.is

pub returns-in-Ok-clause-refused : goal.returns-in-Ok-clause-refused
returns-in-Ok-clause-refused g c = refused_from c.args.flat.now c.args.hosts.now c.args.source.now c.in-Ok.parts c.in-Ok.ensures.ok _ _ _ c.query_of.ensures.runs

pub returns-in-Ok-clause-complete : goal.returns-in-Ok-clause-complete
returns-in-Ok-clause-complete g c = complete_from (record { one = c.one_query.ensures.read; apart = c.refused_is_not_read.ensures; single = c.one_fault.ensures }) c.args.flat.now c.args.hosts.now c.args.source.now c.in-Ok.parts c.in-Ok.ensures.ok _ _ _ c.query_of.ensures.runs

pub returns-in-Ok-clause-exact : goal.returns-in-Ok-clause-exact
returns-in-Ok-clause-exact g c f m x h = exact_from (record { one = c.one_query.ensures.read; apart = c.refused_is_not_read.ensures; single = c.one_fault.ensures }) c.args.flat.now c.args.hosts.now c.args.source.now c.in-Ok.parts c.in-Ok.ensures.ok _ _ f _ m x h c.query_of.ensures.runs

pub returns-in-Ok-clause-built : goal.returns-in-Ok-clause-built
returns-in-Ok-clause-built g c = grew_from c.args.flat.now c.args.hosts.now c.args.source.now c.in-Ok.parts c.in-Ok.ensures.ok _ _ _ c.query_of.ensures.runs

pub returns-in-Ok-clause-built_before : goal.returns-in-Ok-clause-built_before
returns-in-Ok-clause-built_before g c = before_from c.args.flat.now c.args.hosts.now c.args.source.now c.in-Ok.parts c.in-Ok.ensures.ok _ _ _ c.query_of.ensures.runs

pub returns-in-Ok-clause-later : goal.returns-in-Ok-clause-later
returns-in-Ok-clause-later g c = later_from _ _ _ _ c.query_of.ensures.runs

pub returns-in-Ok-clause-regex : goal.returns-in-Ok-clause-regex
returns-in-Ok-clause-regex g c = rose_in c.args.flat.now c.args.hosts.now c.args.source.now c.in-Ok.parts c.in-Ok.ensures.ok _ _ _ c.query_of.ensures.runs

pub returns-in-Err-clause-complete : goal.returns-in-Err-clause-complete
returns-in-Err-clause-complete g c =
    subst (λ (x : QueryFault). x ≢ fault.Memory → (IsRegex x → ⊥) → (q : ReadQuery) → IsQuery c.args.flat.now c.args.hosts.now c.args.source.now q → ⊥) (sym c.from.ensures)
    (λ m r q h. tree_complete (record { one = c.one_query.ensures.read; apart = c.refused_is_not_read.ensures; single = c.one_fault.ensures }) c.args.flat.now c.args.hosts.now c.args.source.now c.in-Err.fault c.in-Err.ensures.refused m q h)

pub returns-in-Err-clause-exact : goal.returns-in-Err-clause-exact
returns-in-Err-clause-exact g c f m x h =
    subst (λ (e : QueryFault). Or f e) (sym c.from.ensures) (tree_exact (record { one = c.one_query.ensures.read; apart = c.refused_is_not_read.ensures; single = c.one_fault.ensures }) c.args.flat.now c.args.hosts.now c.args.source.now f c.in-Err.fault m x h c.in-Err.ensures.refused)
