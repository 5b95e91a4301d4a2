use Rattle.std.proofs.Common.{◌∙◌, sym, subst}
use Rattle.ts_automata.specs.declared.tables.SetTables.{SetTables}
use Rattle.ts_automata.specs.Automata.{IsAutomaton}
use Rattle.ts_lexer.specs.declared.rules.Rules.{Rules}
use Rattle.ts_lexer.specs.Rules.{IsRules}
use Rattle.ts_lexer.proofs.engine.by_tables.Goals as goal

pub returns-clause-engine : goal.returns-clause-engine
returns-clause-engine c g rules automaton marks =
    let grows = c.in_ok-pairs.ensures.grows in
    record {
      way = record {
        rules = subst (λ (r : Rules). IsRules g r) (sym grows.rules) rules;
        automaton = subst (λ (m : SetTables). IsAutomaton g m.automaton) (sym grows.machine) automaton;
      };
      marks = c.in_ok-pairs.ensures.marks ∙ marks;
      count = c.in_ok-pairs.ensures.count;
      pairs = c.in_ok-pairs.ensures.pairs g rules marks;
    }
