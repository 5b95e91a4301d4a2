use Rattle.ts_lexer.proofs.WayLemmas.{way_tables, way_nodes}
use Rattle.ts_lexer.proofs.walking.rules_on.Goals as goal

pub returns-in-Tables : goal.returns-in-Tables
returns-in-Tables c g room made = (way_tables g c.args.way.now room c.in-Tables.tables c.in-Tables.is made).rules

pub returns-in-Nodes : goal.returns-in-Nodes
returns-in-Nodes c g room made = (way_nodes g c.args.way.now room c.in-Nodes.nodes c.in-Nodes.is made).rules
