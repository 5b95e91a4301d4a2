use Rattle.std.proofs.Common.{◌≡◌, sym, subst, length, arith}
use Rattle.std.proofs.lemmas.Result.{IfOk-weaker}
use Rattle.ts_automata.specs.declared.automaton.Automaton.{Automaton}
use Rattle.ts_automata.specs.Automata.{IsAutomaton}
use Rattle.ts_lexer.specs.Engines.{IsEngine}
use Rattle.ts_lexer.proofs.WayLemmas.{tables_read, nodes_read}
use Rattle.ts_lexer.proofs.engine.engine_of.Goals as goal

pub returns-in-Tables-clause-engine : goal.returns-in-Tables-clause-engine
returns-in-Tables-clause-engine c =
    let g = c.args.flat.now in
    let marks : length c.in_ok-marks.marks.items ≡ length g.tokens = omega (arith, c.in_ok-marks.ensures, c.len.ensures) in
    let same = tables_read c.args.automaton c.in_ok-reader.reader c.in-Tables.machine c.in-Tables.is c.in_ok-reader.ensures in
    let automaton = subst (λ (a : Automaton). IsAutomaton g a) (sym same) c.requires.automaton in
    IfOk-weaker c.by_tables.result _ (IsEngine g) (λ e h. h g c.in_ok-rules.ensures automaton marks) c.by_tables.ensures.engine

pub returns-in-Nodes-clause-engine : goal.returns-in-Nodes-clause-engine
returns-in-Nodes-clause-engine c =
    let g = c.args.flat.now in
    let marks : length c.in_ok-marks.marks.items ≡ length g.tokens = omega (arith, c.in_ok-marks.ensures, c.len.ensures) in
    let same = nodes_read c.args.automaton c.in_ok-reader.reader c.in-Nodes.automaton c.in-Nodes.is c.in_ok-reader.ensures in
    let automaton = subst (λ (a : Automaton). IsAutomaton g a) (sym same) c.requires.automaton in
    IfOk-weaker c.by_nodes.result _ (IsEngine g) (λ e h. h g c.in_ok-rules.ensures automaton marks) c.by_nodes.ensures.engine
