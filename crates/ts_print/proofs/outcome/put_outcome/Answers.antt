use Rattle.std.proofs.Common.{OnOk, sym, subst}
use Rattle.serde_json.specs.Data.{Members}
use Rattle.spec_output.specs.Outcomes.{outcome_members}
use Rattle.ts_glr.specs.Outcomes.{value_of_outcome}
use Rattle.ts_glr.specs.declared.outcome.Outcome.{Outcome}
use Rattle.ts_print.specs.Printed.{shown_outcome}
use Rattle.ts_print.specs.Written.{AddsBefore}
use Rattle.ts_print.proofs.outcome.put_outcome.Goals as goal

pub returns-in-Accepted : goal.returns-in-Accepted
returns-in-Accepted c = record {
  members = subst (λ (o : Outcome). OnOk c.put_tree.result ((after : Members)
      → AddsBefore after (outcome_members (shown_outcome c.args.grammar.now c.args.text.now (value_of_outcome o)) after) c.args.out.now c.put_tree.new.out))
      (sym c.in-Accepted.is) c.put_tree.ensures;
}

pub returns-in-Stuck : goal.returns-in-Stuck
returns-in-Stuck c = record {
  members = subst (λ (o : Outcome). OnOk c.put_stuck.result ((after : Members)
      → AddsBefore after (outcome_members (shown_outcome c.args.grammar.now c.args.text.now (value_of_outcome o)) after) c.args.out.now c.put_stuck.new.out))
      (sym c.in-Stuck.is) c.put_stuck.ensures;
}

pub returns-in-Deep : goal.returns-in-Deep
returns-in-Deep c = record {
  members = subst (λ (o : Outcome). OnOk c.put_word.result ((after : Members)
      → AddsBefore after (outcome_members (shown_outcome c.args.grammar.now c.args.text.now (value_of_outcome o)) after) c.args.out.now c.put_word.new.out))
      (sym c.in-Deep.is) c.put_word.ensures;
}
