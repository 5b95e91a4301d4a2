use Rattle.std.proofs.Common.{◌≡◌, ◌++◌, map, take}
use Rattle.ts_numbering.specs.Keys.{repeated_in}
use Rattle.ts_numbering.specs.Numberings.{lists_of, numbers_of}
use Rattle.ts_rules.specs.Sights.{seen_trees}
use Rattle.ts_entries.specs.Owners.{content_place}
use Rattle.ts_entries.proofs.owners.add_places.Given as goal

abbrev pub invariant-loop-spot : goal.invariant-loop-spot
invariant-loop-spot l = l.places.items ≡ l.initial.places.items ++ map (content_place (numbers_of l.numbering) (lists_of l.numbering)) (repeated_in (seen_trees (take l.spot-index l.spots)))
