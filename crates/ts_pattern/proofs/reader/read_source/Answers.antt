use Rattle.std.proofs.Common.{sym, subst, ◌∙◌}
use Rattle.ts_pattern.specs.declared.outcome.Outcome.{Outcome}
use Rattle.ts_pattern.specs.Reads.{IsFault, IsOutcome}
use Rattle.ts_pattern.proofs.ReaderLemmas.{read_whole, read_flaw, read_limit}
use Rattle.ts_pattern.proofs.reader.read_source.Goals as goal

pub returns-in-Whole-clause-ok : goal.returns-in-Whole-clause-ok
returns-in-Whole-clause-ok c =
    read_whole c.args.source.now c.deref.result.now c.args.ignore_case c.in-Whole.re (c.deref.ensures.value ∙ c.in_ok-text.ensures)
    (subst (λ (o : Outcome). IsOutcome c.args.ignore_case c.deref.result.now o) c.in-Whole.is c.in_ok-re.ensures)

pub returns-in-Flawed-clause-refused : goal.returns-in-Flawed-clause-refused
returns-in-Flawed-clause-refused c =
    subst (IsFault c.args.source.now c.args.ignore_case) (sym c.fault.ensures)
    (read_flaw c.args.source.now c.deref.result.now c.args.ignore_case c.in-Flawed.flaw c.in-Flawed.at c.byte_place.result (c.deref.ensures.value ∙ c.in_ok-text.ensures)
    (subst (λ (o : Outcome). IsOutcome c.args.ignore_case c.deref.result.now o) c.in-Flawed.is c.in_ok-re.ensures) c.byte_place.ensures.value)

pub returns-clause-refused : goal.returns-clause-refused
returns-clause-refused c =
    read_limit c.args.source.now c.deref.result.now c.args.ignore_case c.in-Over.limit (c.deref.ensures.value ∙ c.in_ok-text.ensures)
    (subst (λ (o : Outcome). IsOutcome c.args.ignore_case c.deref.result.now o) c.in-Over.is c.in_ok-re.ensures)
