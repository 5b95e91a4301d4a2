use Rattle.std.proofs.Common.{◌≡◌, subst, take}
use Rattle.spec_graph.specs.declared.graph.Link.{Link}
use Rattle.ts_graph.specs.Down.{links_down, links_from}
use Rattle.ts_graph.specs.Cells.{link_of}
use Rattle.ts_graph.proofs.OwnLemmas.{one_link, low_next, low_base}
use Rattle.ts_graph.proofs.graph.Graph.next_down.Goals as goal

pub returns-in-Some : goal.returns-in-Some
returns-in-Some c = λ l at.
    subst (λ (x : Link). links_from c.args.self.now.links x.above c.in-Some.cell.now.earlier ≡ links_down (take c.args.link c.args.self.now.links) x.above)
    (one_link c.args.self.now.links c.args.link (link_of c.in-Some.cell.now) l c.in-Some.ensures.link at) c.in-Some.ensures.earlier

pub returns-in-None : goal.returns-in-None
returns-in-None c = λ l at. low_next c.self.inside.stack c.self.inside.base c.self.inside.place c.self.inside.cells.items c.self.invariant.2 c.self.inside.rows.items c.args.self.now c.self.view_is c.self.invariant.0 c.args.link (low_base c.self.inside.stack c.self.inside.base c.self.inside.place c.self.inside.cells.items c.self.invariant.2 c.self.inside.rows.items c.args.self.now c.self.view_is c.args.link c.in-None.ensures) l at
