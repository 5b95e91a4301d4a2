use Rattle.std.proofs.Common.{◌≡◌, subst, ℕ, Option, arith}
use Rattle.ts_graph.specs.Down.{links_down, links_from}
use Rattle.ts_graph.proofs.ListLemmas.{read_there}
use Rattle.ts_graph.proofs.KeptLemmas.{first_within, some_down, none_down}
use Rattle.ts_graph.proofs.graph.Graph.lowest_down.Goals as goal

pub lowest-requires : goal.lowest-requires
lowest-requires c =
    let r = c.requires in
    let links = c.args.self.now.links in
    first_within links r.0 c.in-Some.link (subst (λ (o : Option ℕ). links_from links r.0 o ≡ links_down links r.0) c.in-Some.is r.1)

pub returns-in-Some-clause-others : goal.returns-in-Some-clause-others
returns-in-Some-clause-others c = λ above is.
    let links = c.args.self.now.links in
    let from = subst (λ (o : Option ℕ). links_from links above o ≡ links_down links above) c.in-Some.is is in
    let l = read_there links c.in-Some.link (first_within links above c.in-Some.link from) in
    some_down c.args.self.now.heads links above c.in-Some.link c.lowest.result _ l.0 l.1 (c.lowest.ensures.bound l.0 l.1) (omega (arith, c.min.ensures)) from

pub returns-in-None-clause-others : goal.returns-in-None-clause-others
returns-in-None-clause-others c = λ above is.
    let links = c.args.self.now.links in
    none_down c.args.self.now.heads links above _ (subst (λ (o : Option ℕ). links_from links above o ≡ links_down links above) c.in-None.is is)
