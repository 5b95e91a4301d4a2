use Rattle.std.proofs.Common.{subst, List}
use Rattle.std.specs.Borrow.{Bor}
use Rattle.ts_base.specs.Bytes.{Bytes}
use Rattle.ts_rules.specs.FirstSights.{Clear, First}
use Rattle.ts_rules.specs.Names.{told, IsAbsent}
use Rattle.ts_normalise.proofs.CheckLemmas.{undefined_none, undefined_found}
use Rattle.ts_normalise.proofs.trees.check_names.Goals as goal

pub returns-in-None-clause-none : goal.returns-in-None-clause-none
returns-in-None-clause-none c =
    undefined_none c.args.grammar.now (told c.in_ok-rules.rules.keys) (told c.in_ok-used.used.items) c.as_slice.result.now c.as_slice.ensures c.in_ok-rules.ensures c.in_ok-used.ensures
    (subst (λ (used : List (Bor Bytes)). Clear (IsAbsent (told c.in_ok-rules.rules.keys)) (told used)) c.as_slice-2.ensures.value c.in-None.ensures)

pub returns-clause-refused : goal.returns-clause-refused
returns-clause-refused c = λ caused.
    undefined_found c.args.grammar.now (told c.in_ok-rules.rules.keys) (told c.in_ok-used.used.items) c.as_slice.result.now c.in-Some.name.now c.in_ok-copy_of-in-Some.field-0 c.as_slice.ensures c.in_ok-rules.ensures
    c.in_ok-used.ensures
    (subst (λ (used : List (Bor Bytes)). First (IsAbsent (told c.in_ok-rules.rules.keys)) (told used) c.in-Some.name.now) c.as_slice-2.ensures.value c.in-Some.ensures)
    c.in_ok-copy_of-in-Some.ensures
