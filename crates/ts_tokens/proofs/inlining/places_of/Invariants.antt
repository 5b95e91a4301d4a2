use Rattle.ts_rules.specs.Causes.{names_of}
use Rattle.ts_rules.specs.Names.{told}
use Rattle.ts_tokens.proofs.InliningLemmas.{PlacesTo}
use Rattle.ts_tokens.proofs.inlining.places_of.Given as goal

abbrev pub invariant-loop-place : goal.invariant-loop-place
invariant-loop-place l = PlacesTo (names_of l.rules) (told l.inline.keys) l.place l.places
