use Rattle.std.proofs.Common.{◌≡◌, subst, refl, ℕ, Option}
use Rattle.ts_graph.specs.Down.{links_down, links_from}
use Rattle.ts_graph.proofs.KeptLemmas.{first_within}
use Rattle.ts_graph.proofs.OnlyLemmas.{only_is}
use Rattle.ts_graph.proofs.graph.Graph.only_down.Goals as goal

pub is_alone-requires : goal.is_alone-requires
is_alone-requires c =
    let links = c.args.self.now.links in
    first_within links c.args.head c.in-Some.link (subst (λ (o : Option ℕ). links_from links c.args.head o ≡ links_down links c.args.head) c.in-Some.is c.first_down.ensures)

pub returns-then-is_alone : goal.returns-then-is_alone
returns-then-is_alone c =
    let links = c.args.self.now.links in
    only_is links c.args.head c.in-Some.link (subst (λ (o : Option ℕ). links_from links c.args.head o ≡ links_down links c.args.head) c.in-Some.is c.first_down.ensures) (c.if-is_alone.ensures refl)
