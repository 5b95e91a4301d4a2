use Rattle.std.proofs.Common.{◌≡◌, take}
use Rattle.ts_numbering.specs.Keys.{aliases_told}
use Rattle.ts_flat.proofs.trees.alias_list.Given as goal

abbrev pub invariant-loop-name : goal.invariant-loop-name
invariant-loop-name l = l.found.items ≡ aliases_told (take l.name-index l.aliases.keys)
