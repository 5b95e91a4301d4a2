use Rattle.std.proofs.Common.{refl, []}
use Rattle.ts_query_names.specs.Given.{names_told}
use Rattle.ts_query_names.specs.LentNames.{told}
use Rattle.ts_query_syntax.proofs.JudgeLemmas.{told_flawed, told_runs, told_none, out_behind, asked_runs}
use Rattle.ts_query_syntax.proofs.JudgingLemmas.{runs_wrong}
use Rattle.ts_query_syntax.proofs.judge.judge.Goals as goal

pub returns-in_err-check_kind-in-Kind-clause-runs : goal.returns-in_err-check_kind-in-Kind-clause-runs
returns-in_err-check_kind-in-Kind-clause-runs g c =
    told_flawed c.args.scope.now.flat.now c.args.scope.now.hosts.now (told c.args.own.now.keys) (names_told c.args.numbers.now) c.args.mention.now _ c.in-Kind.is _ c.in_err-check_kind-in-Kind.field-0.0 _
    c.from_residual.ensures.1 c.in_err-check_kind-in-Kind.ensures

pub returns-in_err-check_field-in-Field-clause-runs : goal.returns-in_err-check_field-in-Field-clause-runs
returns-in_err-check_field-in-Field-clause-runs g c =
    told_flawed c.args.scope.now.flat.now c.args.scope.now.hosts.now (told c.args.own.now.keys) (names_told c.args.numbers.now) c.args.mention.now _ c.in-Field.is _ c.in_err-check_field-in-Field.field-0.0 _
    c.from_residual-in_err-check_field-in-Field.ensures.1 c.in_err-check_field-in-Field.ensures

pub returns-in_err-push-in-Predicate-clause-runs : goal.returns-in_err-push-in-Predicate-clause-runs
returns-in_err-push-in-Predicate-clause-runs g c =
    told_runs c.args.scope.now.flat.now c.args.scope.now.hosts.now (told c.args.own.now.keys) (names_told c.args.numbers.now) c.args.mention.now _ c.in-Predicate.is _ _ _ (out_behind _ _ _ _ c.from_residual-in_err-push-in-Predicate.ensures.1 (asked_runs c.args.scope.now.flat.now c.args.scope.now.hosts.now (told c.args.own.now.keys) c.in-Predicate.name.now c.in-Predicate.operands.now c.as_slice.result.now _ _ _ c.as_slice.ensures c.in_ok-one-in-Predicate.ensures.runs))

pub returns-in_ok-check_kind-in-Kind-clause-runs : goal.returns-in_ok-check_kind-in-Kind-clause-runs
returns-in_ok-check_kind-in-Kind-clause-runs g c =
    told_none c.args.scope.now.flat.now c.args.scope.now.hosts.now (told c.args.own.now.keys) (names_told c.args.numbers.now) c.args.mention.now _ c.in-Kind.is _ c.in_ok-check_kind-in-Kind.ensures

pub returns-in_ok-check_field-in-Field-clause-runs : goal.returns-in_ok-check_field-in-Field-clause-runs
returns-in_ok-check_field-in-Field-clause-runs g c =
    told_none c.args.scope.now.flat.now c.args.scope.now.hosts.now (told c.args.own.now.keys) (names_told c.args.numbers.now) c.args.mention.now _ c.in-Field.is _ c.in_ok-check_field-in-Field.ensures

pub returns-in-Capture-clause-runs : goal.returns-in-Capture-clause-runs
returns-in-Capture-clause-runs g c =
    told_none c.args.scope.now.flat.now c.args.scope.now.hosts.now (told c.args.own.now.keys) (names_told c.args.numbers.now) c.args.mention.now _ c.in-Capture.is _ refl

pub returns-in-Nested-clause-runs : goal.returns-in-Nested-clause-runs
returns-in-Nested-clause-runs g c =
    told_runs c.args.scope.now.flat.now c.args.scope.now.hosts.now (told c.args.own.now.keys) (names_told c.args.numbers.now) c.args.mention.now _ c.in-Nested.is _ _ _ (runs_wrong _ [] _ _ refl)
