use Rattle.std.proofs.Common.{[]}
use Rattle.ts_lexer.proofs.WayLemmas.{way_nodes, leads_tables, leads_nodes, first_tables, first_nodes}
use Rattle.ts_lexer.proofs.walking.first_set.Goals as goal

pub returns-in-Tables-clause-set : goal.returns-in-Tables-clause-set
returns-in-Tables-clause-set c = first_tables c.args.way.now c.in-Tables.tables c.in-Tables.is c.first.result c.first.ensures.within

pub returns-in-Tables-clause-leads : goal.returns-in-Tables-clause-leads
returns-in-Tables-clause-leads c g made = leads_tables c.args.way.now c.in-Tables.tables c.in-Tables.is _ c.first.result [] c.first.ensures.stands

pub returns-in-Nodes-clause-set : goal.returns-in-Nodes-clause-set
returns-in-Nodes-clause-set c = first_nodes c.args.way.now c.in-Nodes.nodes c.in-Nodes.is 0

pub returns-in-Nodes-clause-leads : goal.returns-in-Nodes-clause-leads
returns-in-Nodes-clause-leads c g made =
    let n = way_nodes g c.args.way.now _ c.in-Nodes.nodes c.in-Nodes.is made in
    leads_nodes c.args.way.now c.in-Nodes.nodes c.in-Nodes.is _ 0 [] (c.begin.ensures.stands n.size)
