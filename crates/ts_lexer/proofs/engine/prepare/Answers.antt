use Rattle.ts_lexer.proofs.WayLemmas.{ready_tables, ready_nodes, pair_tables, way_tables, way_nodes}
use Rattle.ts_lexer.proofs.engine.prepare.Goals as goal

pub returns-in-Tables-clause-ready : goal.returns-in-Tables-clause-ready
returns-in-Tables-clause-ready c g room made marks pairs =
    let way = c.args.way.now in
    let t = way_tables g way room c.in-Tables.tables c.in-Tables.is made in
    ready_tables g c.args.valid.now way c.in-Tables.tables _ c.args.pair c.in-Tables.is
    (c.prepare_tables.ensures.ready g t.rules marks (λ p e. pair_tables g c.args.valid.now way c.in-Tables.tables p c.in-Tables.is (pairs p e)))

pub returns-in-Nodes-clause-ready : goal.returns-in-Nodes-clause-ready
returns-in-Nodes-clause-ready c g room made marks pairs =
    let way = c.args.way.now in
    let n = way_nodes g way room c.in-Nodes.nodes c.in-Nodes.is made in
    ready_nodes g c.args.valid.now way c.in-Nodes.nodes _ c.args.pair c.in-Nodes.is (c.look.ensures.view g n.rules marks)
