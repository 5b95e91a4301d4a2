use Rattle.std.proofs.Common.{◌≡◌, sym, subst, ℕ, take, Option}
use Rattle.ts_graph.specs.Down.{links_down, links_from}
use Rattle.ts_graph.proofs.graph.Graph.is_alone.Goals as goal

pub returns-in-None : goal.returns-in-None
returns-in-None c = λ told l at.
    let links = c.args.self.now.links in
    sym (subst (λ (o : Option ℕ). links_from links l.above o ≡ links_down (take c.args.link links) l.above) c.in-None.is (c.next_down.ensures l at))
