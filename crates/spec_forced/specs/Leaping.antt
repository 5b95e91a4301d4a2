-- A parser that goes on from another configuration where it may: there it has taken nodes or
-- elements over, and else it does all steps.
use Rattle.std.specs.Prelude.{◌≡◌, ◌<◌, Option, Some, None}
use Rattle.ts_base.specs.Bytes.{Bytes}
use Rattle.ts_core.specs.declared.flat.FlatGrammar.{FlatGrammar}
use Rattle.spec_runs.specs.Configurations.{Configuration, starting}
use Rattle.spec_runs.specs.Runs.{StepsOn, ComesTooDeep, AcceptsTree, StopsAt}
use Rattle.spec_runs.specs.Outcomes.{FreshOutcome}
use Rattle.spec_forced.specs.OnlyRuns.{Meet, FreshBy}

-- at each configuration that from which the parser goes on in its place, or none
abbrev pub Leaping : Type 0
Leaping = Configuration → Option Configuration

-- a run of such a parser from one configuration to another
pub data LeapingRun (g : FlatGrammar) (text : Bytes) (leaps : Leaping)
    : Configuration → Configuration → Type 0 where
  leaping_here : (c : Configuration) → LeapingRun g text leaps c c
  leaping_step : (c d e : Configuration) → leaps c ≡ None → StepsOn g text c d
      → LeapingRun g text leaps d e → LeapingRun g text leaps c e
  leaping_on : (c d e : Configuration) → leaps c ≡ Some d → LeapingRun g text leaps d e
      → LeapingRun g text leaps c e

-- some run of the text comes to the configuration, and goes on from no other there
abbrev pub IsLeftTo : FlatGrammar → Bytes → Leaping → Configuration → Type 0
IsLeftTo g text leaps e = LeapingRun g text leaps starting e × (leaps e ≡ None)

-- what a text comes to for such a parser
abbrev pub FreshLeaping : FlatGrammar → Bytes → Leaping → FreshOutcome → Type 0
FreshLeaping g text leaps = FreshBy
    ((e : Configuration) × IsLeftTo g text leaps e × ComesTooDeep g text e)
    (λ t. (e : Configuration) × IsLeftTo g text leaps e × AcceptsTree g text e t)
    (λ place. (e : Configuration) × IsLeftTo g text leaps e × StopsAt g text e place)

-- Wherever a run of the parser comes, it goes on from a later place of the text, and the only runs
-- from there and from where it was meet.
abbrev pub LeapsRightly : FlatGrammar → Bytes → Leaping → Type 0
LeapsRightly g text leaps =
    (c d : Configuration) → LeapingRun g text leaps starting c → leaps c ≡ Some d
    → (c.place < d.place) × Meet g text c d
