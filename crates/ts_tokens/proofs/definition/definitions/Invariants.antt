use Rattle.ts_rules.specs.Names.{told}
use Rattle.ts_tokens.specs.Definitions.{AreDefined}
use Rattle.ts_tokens.specs.Patterns.{meaning}
use Rattle.ts_tokens.proofs.definition.definitions.Given as goal

abbrev pub invariant-loop-place : goal.invariant-loop-place
invariant-loop-place l = AreDefined (meaning l.patterns) (told l.supertypes.keys) l.tokens l.keywords l.place l.defs
