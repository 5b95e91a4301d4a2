use Rattle.std.proofs.Common.{◌≡◌, take}
use Rattle.ts_tokens.proofs.copy.+copy.Given as goal

abbrev pub invariant-copies_of-loop-part : goal.invariant-copies_of-loop-part
invariant-copies_of-loop-part l = l.copies ≡ take l.part-index l.parts
