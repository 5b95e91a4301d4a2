-- How the checks of a query are gone through, one after another, and what is kept of the
-- expressions that are built.
use Rattle.std.specs.Prelude.{◌≡◌, ℕ, ◌≤◌, List, [], ◌∷◌, ◌++◌, Option, Some, None, Result, Ok, Err}
use Rattle.ts_base.specs.Bytes.{Bytes}
use Rattle.ts_query_tree.specs.declared.tree.Written.{Written}
use Rattle.ts_query_names.specs.declared.flaw.Flaw.{Flaw}
use Rattle.ts_query_names.specs.declared.flaw.Flaw.TheVariants as flaw
use Rattle.ts_query_names.specs.Checks.{Check, wrong, pattern}
use Rattle.ts_query_syntax.specs.declared.fault.QueryFault.{QueryFault}
use Rattle.ts_query_syntax.specs.declared.fault.QueryFault.TheVariants as fault
use Rattle.ts_query_syntax.specs.Refusals.{HasRisen}

-- a fault of what a query names
abbrev pub flaw_fault : Flaw → QueryFault
flaw_fault (flaw.UnknownNode at) = fault.UnknownNode at
flaw_fault (flaw.UnknownField at) = fault.UnknownField at
flaw_fault (flaw.UnknownCapture at) = fault.UnknownCapture at
flaw_fault (flaw.UnknownPredicate at) = fault.UnknownPredicate at
flaw_fault (flaw.NestedQuantifier at) = fault.NestedQuantifier at

-- the fault of an answer
abbrev pub fault_in : {A : Type 0} → Result A QueryFault → Option QueryFault
fault_in (Ok x) = None
fault_in (Err f) = Some f

-- the texts of the expressions that were asked for, and how many were refused
pub record Kept : Type 0 where
  pub sources : List Bytes
  pub refusals : ℕ

-- these texts, and so many refusals
abbrev pub kept : List Bytes → ℕ → Kept
kept sources refusals = record { sources = sources; refusals = refusals }

-- the text of an expression is kept
pub record Adds (w : Written) (s t : Kept) : Type 0 where
  pub source : t.sources ≡ s.sources ++ w.text ∷ []
  pub later : s.refusals ≤ t.refusals

-- The checks are gone through up to the end, or up to the first fault or the first expression that
-- is refused, or until memory runs out.
pub data Runs : List Check → Kept → Kept → Option QueryFault → Type 0 where
  ends : (s : Kept) → Runs [] s s None
  faulty : (f : Flaw) (cs : List Check) (s : Kept) → Runs (wrong f ∷ cs) s s (Some (flaw_fault f))
  builds : (w : Written) (cs : List Check) (s m t : Kept) (a : Option QueryFault) → Adds w s m
      → Runs cs m t a → Runs (pattern w ∷ cs) s t a
  refused : (w : Written) (cs : List Check) (s t : Kept) → Adds w s t
      → HasRisen s.refusals t.refusals → Runs (pattern w ∷ cs) s t (Some (fault.Regex w.at))
  starved : (cs : List Check) (s t : Kept) → t.sources ≡ s.sources → s.refusals ≤ t.refusals
      → Runs cs s t (Some fault.Memory)
