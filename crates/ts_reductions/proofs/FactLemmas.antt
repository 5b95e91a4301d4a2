-- Graphs that have grown.
use Rattle.std.proofs.Common.{arith}
use Rattle.spec_graph.specs.Laying.{Parsing}
use Rattle.spec_graph.specs.Links.{HasGrown}
use Rattle.ts_graph.specs.declared.view.GraphView.{GraphView}
use Rattle.ts_reductions.specs.SoundLinks.{bare_links}
use Rattle.ts_reductions.specs.Laying.{Grows}
use Rattle.ts_reductions.specs.Laws.{ReductionLaws}

-- the same as the theory of graphs has it
pub grows_grown : (laws : ReductionLaws) (P : Parsing) (a b : GraphView) → Grows a b → HasGrown P a.heads (bare_links a.links) b.heads (bare_links b.links)
grows_grown laws P a b f = record {
  heads_stay = λ h read place k. record { head = k.head; is = f.stay h k.head k.is; state = k.state; place_is = k.place_is };
  links_stay = λ l there.
      let n = f.links l there in (
        n.0,
        n.1,
        n.2,
        n.3,
        λ t s. record {
          tree = laws.through n.0.tree l.tree t n.4 s.tree;
          depth = let more = n.5 in omega (arith, more, s.depth);
        },
      );
}
