use Rattle.std.proofs.Common.{◌↔◌, [], map, drop}
use Rattle.spec_lexing.specs.Words.{Word, regular_of, all_of, any_of}
use Rattle.ts_fit.proofs.words.+nothing.Given as goal

abbrev pub invariant-all_match_nothing-loop-part : goal.invariant-all_match_nothing-loop-part
invariant-all_match_nothing-loop-part l =
    Word (all_of (map regular_of l.parts)) [] ↔ Word (all_of (map regular_of (drop l.part-index l.parts))) []

abbrev pub invariant-any_matches_nothing-loop-part : goal.invariant-any_matches_nothing-loop-part
invariant-any_matches_nothing-loop-part l =
    Word (any_of (map regular_of l.parts)) [] ↔ Word (any_of (map regular_of (drop l.part-index l.parts))) []
