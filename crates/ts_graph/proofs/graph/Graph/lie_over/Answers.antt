use Rattle.ts_graph.proofs.OverLemmas.{bare_sound, bare_kept, bare_under, bare_view}
use Rattle.ts_graph.proofs.graph.Graph.lie_over.Goals as goal

pub invariant_of-self : goal.invariant_of-self
invariant_of-self c = (
  bare_sound c.args.stack c.args.top c.args.place c.requires.one c.requires.spans c.requires.bytes c.clear.new.self.items c.clear-2.new.self.items c.clear.ensures.items c.clear-2.ensures.items,
  bare_kept c.args.stack c.args.top c.args.place c.requires.one c.requires.spans c.requires.bytes c.clear.new.self.items c.clear-2.new.self.items c.clear.ensures.items c.clear-2.ensures.items,
  bare_under c.args.stack c.args.top c.args.place c.requires.one c.requires.spans c.requires.bytes c.clear.new.self.items c.clear-2.new.self.items c.clear.ensures.items c.clear-2.ensures.items,
)

pub returns : goal.returns
returns c = bare_view c.args.stack c.args.top c.args.place c.requires.one c.requires.spans c.requires.bytes c.clear.new.self.items c.clear-2.new.self.items c.clear.ensures.items c.clear-2.ensures.items
