use Rattle.ts_lexer.proofs.WayLemmas.{tables_ready, nodes_ready, set_tables, on_tables, on_nodes, run_tables, run_nodes, read_tables, read_nodes}
use Rattle.ts_lexer.proofs.walking.read_piece.Goals as goal

pub read_by_tables-requires-clause-set : goal.read_by_tables-requires-clause-set
read_by_tables-requires-clause-set c = set_tables c.args.way.now c.in-Tables.tables c.in-Tables.is c.args.run.now.state c.requires.set

pub returns-in-Tables-clause-set : goal.returns-in-Tables-clause-set
returns-in-Tables-clause-set c = on_tables c.args.way.now c.in-Tables.tables c.in-Tables.is c.read_by_tables.result c.read_by_tables.ensures.set

pub returns-in-Tables-clause-read : goal.returns-in-Tables-clause-read
returns-in-Tables-clause-read c g valid rest tail ready run =
    let r = tables_ready g valid c.args.way.now c.args.view.now c.args.pair _ c.in-Tables.tables c.in-Tables.is ready in
    read_tables g valid c.args.first rest tail c.args.way.now _ c.in-Tables.tables c.in-Tables.is c.read_by_tables.result
    (c.read_by_tables.ensures.read g valid rest tail r.0.rules r.1 r.0.automaton (run_tables g valid c.args.first rest _ c.args.way.now _ c.in-Tables.tables c.in-Tables.is c.args.run.now run))

pub returns-in-Nodes-clause-set : goal.returns-in-Nodes-clause-set
returns-in-Nodes-clause-set c = on_nodes c.args.way.now c.in-Nodes.nodes c.in-Nodes.is c.read_by_walk.result

pub returns-in-Nodes-clause-read : goal.returns-in-Nodes-clause-read
returns-in-Nodes-clause-read c g valid rest tail ready run =
    let r = nodes_ready g valid c.args.way.now c.args.view.now c.args.pair _ c.in-Nodes.nodes c.in-Nodes.is ready in
    read_nodes g valid c.args.first rest tail c.args.way.now _ c.in-Nodes.nodes c.in-Nodes.is c.read_by_walk.result
    (c.read_by_walk.ensures.read g valid rest tail r.0 r.1 (run_nodes g valid c.args.first rest _ c.args.way.now _ c.in-Nodes.nodes c.in-Nodes.is c.args.run.now run))
