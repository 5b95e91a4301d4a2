use Rattle.std.proofs.Common.{sym, subst, ℕ, Option}
use Rattle.ts_graph.specs.Bounds.{NoneLeads}
use Rattle.ts_graph.proofs.graph.Graph.none_leads.Goals as goal

pub returns-in-Some : goal.returns-in-Some
returns-in-Some c = λ all.
    subst (λ (o : Option ℕ). NoneLeads c.args.self.now.heads c.args.self.now.links o c.args.wanting c.args.link) (sym c.in-Some.is) (c.all_past.ensures all)
