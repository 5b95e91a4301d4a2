use Rattle.std.specs.List.{Contains}
use Rattle.ts_search.specs.Adding.{AreLike}
use Rattle.ts_search.specs.Sets.{SameMembers}
use Rattle.ts_search.proofs.once.sets.Given as goal

abbrev pub invariant-loop-list : goal.invariant-loop-list
invariant-loop-list l = AreLike SameMembers (Contains l.yielded) l.out.items
