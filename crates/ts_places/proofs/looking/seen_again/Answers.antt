use Rattle.std.proofs.Common.{refl}
use Rattle.std.proofs.lemmas.Option.{slice_get_within}
use Rattle.ts_places.proofs.looking.seen_again.Goals as goal

pub head-state-requires : goal.head-state-requires
head-state-requires c = let h = c.requires.there.1 in slice_get_within c.args.graph.now.heads c.args.number h.0 h.1

pub returns-in-Some-span_of : goal.returns-in-Some-span_of
returns-in-Some-span_of c = record {
  head = c.head-state.result;
  at = c.head-state.ensures;
  top = c.in-Some.top;
  led = c.in-Some.ensures;
  acts = c.if-not-some_acts.ensures refl;
  span = c.in-Some-span_of.span;
  sight = c.in-Some-span_of.ensures;
  is = refl;
}
