-- Inlining, and the productions that alternatives become.
use Rattle.std.specs.Prelude.{◌≡◌, ℕ, ◌+◌, List, [], ◌∷◌, ◌++◌, map, slice_get, Option, Some, None, All}
use lib.IntN.{ℤ}
use Rattle.ts_core.specs.declared.flat.Alias.{Alias}
use Rattle.ts_core.specs.declared.flat.Prec.{Prec}
use Rattle.ts_core.specs.declared.flat.Prec.TheVariants as prec
use Rattle.ts_core.specs.declared.flat.Production.{Production}
use Rattle.ts_core.specs.declared.flat.Step.{Step}
use Rattle.ts_core.specs.declared.rule.Rule.{Rule}
use Rattle.ts_core.specs.declared.symbol.Symbol.{Symbol}
use Rattle.ts_rules.specs.declared.tree.Alternative.{Alternative}
use Rattle.ts_rules.specs.declared.tree.NumberedStep.{NumberedStep}
use Rattle.ts_rules.specs.Alternatives.{Alternatives, alternative, stronger, inner_assoc, step_at}
use Rattle.ts_rules.specs.FirstSights.{Not, AreFirstSights}
use Rattle.ts_rules.specs.Numbers.{Numbers, Lists, alts, first_inlined, outermost}
use Rattle.ts_rules.specs.Sights.{NamedRule}

-- ---- inserted steps

-- the outer value, where there is one
abbrev pub or_else : {X : Type 0} → Option X → Option X → Option X
or_else None other = other
or_else (Some x) other = Some x

-- the first precedence, where there is one, and else the other
abbrev pub prec_or : Prec → Prec → Prec
prec_or prec.Absent other = other
prec_or (prec.Number value) other = prec.Number value
prec_or (prec.Name name) other = prec.Name name

-- the replaced step's alias and field, where it has them, become those of every inserted step
abbrev pub marked_by : NumberedStep → NumberedStep → NumberedStep
marked_by step inner =
    record inner { alias = or_else step.alias inner.alias; field = or_else step.field inner.field }

-- the last inserted step takes the replaced step's precedence and associativity where it has none
abbrev pub ended_by : NumberedStep → NumberedStep → NumberedStep
ended_by step inner =
    record inner { prec = prec_or inner.prec step.prec; assoc = inner_assoc inner.assoc step.assoc }

-- the steps that come in place of the replaced one
abbrev pub inserted : NumberedStep → List NumberedStep → List NumberedStep
inserted step [] = []
inserted step (s ∷ []) = ended_by step (marked_by step s) ∷ []
inserted step (s ∷ t ∷ ss) = marked_by step s ∷ inserted step (t ∷ ss)

-- the step is replaced by one alternative of its rule; the dynamic value is the one of greater
-- magnitude, the outer on a tie
abbrev pub replaced_by : ℤ → List NumberedStep → NumberedStep → List NumberedStep → Alternative
    → Alternative
replaced_by dynamic before step after inner =
    alternative (stronger dynamic inner.dynamic) (before ++ inserted step inner.steps ++ after)

-- ---- inlining

-- a symbol that is replaced, with what replaces it
abbrev pub IsInner : Numbers → Lists → ℕ → Alternatives → Type 0
IsInner n x symbol inner = (k : ℕ) × (rule : NamedRule) × (slice_get x.inlined k ≡ Some rule)
    × (symbol ≡ first_inlined x + k) × (inner ≡ alts n rule.1)

-- the step's symbol is not replaced
abbrev pub Stays : (ℕ → Alternatives → Type 0) → NumberedStep → Type 0
Stays Inner step = (inner : Alternatives) → Not (Inner step.symbol inner)

mutual
  -- The first step that is replaced is replaced by each of its rule's alternatives in order, until
  -- none is left.
  pub data Becomes (Inner : ℕ → Alternatives → Type 0) : Alternative → Alternatives → Type 0 where
    stays : (p : Alternative) → All (Stays Inner) p.steps → Becomes Inner p (p ∷ [])
    replaced : (dynamic : ℤ) (before : List NumberedStep) (step : NumberedStep)
        (after : List NumberedStep)
        (inner all : Alternatives) → All (Stays Inner) before → Inner step.symbol inner
        → AllBecome Inner (map (replaced_by dynamic before step after) inner) all
        → Becomes Inner (alternative dynamic (before ++ step ∷ after)) all

  -- one alternative after another
  pub data AllBecome (Inner : ℕ → Alternatives → Type 0) : Alternatives → Alternatives
      → Type 0 where
    none_left : AllBecome Inner [] []
    one_more : (p : Alternative) (ps qs rs : Alternatives) → Becomes Inner p qs
        → AllBecome Inner ps rs
        → AllBecome Inner (p ∷ ps) (qs ++ rs)

-- ---- productions

-- the symbol of a number
abbrev pub symbol : ℕ → Symbol
symbol number = record { 0 = number }

-- the alias of a number, where there is one
abbrev pub alias_of : Numbers → Option ℕ → Option Alias
alias_of n None = None
alias_of n (Some number) = Some (n.alias_at number)

-- a step as the flat grammar has it, with the alias itself
abbrev pub flat_step : Numbers → NumberedStep → Step
flat_step n s =
    record {
      symbol = symbol s.symbol;
      prec = s.prec;
      assoc = s.assoc;
      alias = alias_of n s.alias;
      field = s.field;
    }

-- an alternative as a production of the flat grammar
abbrev pub production : Numbers → Alternative → Production
production n p = record { dynamic = p.dynamic; steps = map (flat_step n) p.steps }

-- what the alternatives become by inlining; of equal productions the first stays
pub record AreProductions (n : Numbers) (x : Lists) (from : Alternatives)
    (found : List Production) : Type 0 where
  pub all : Alternatives
  pub become : AllBecome (IsInner n x) from all
  pub firsts : AreFirstSights (map (production n) all) found

-- ---- a repetition

-- the alternative, unless it has no steps
abbrev pub unless_blank : Alternative → List NumberedStep → Alternatives
unless_blank p [] = []
unless_blank p (s ∷ ss) = p ∷ []

-- the alternatives that are not empty
abbrev pub filled : Alternatives → Alternatives
filled [] = []
filled (p ∷ ps) = unless_blank p p.steps ++ filled ps

-- the repetition itself before each alternative, as a step without marks
abbrev pub again : ℕ → Alternatives → Alternatives
again number ps =
    map (λ (p : Alternative). alternative p.dynamic (step_at number outermost ∷ p.steps)) ps

-- `c` for each alternative of the content that is not empty, then `r c` for each; equal ones are
-- dropped apart
pub record AreRepeated (n : Numbers) (x : Lists) (content : Rule)
    (found : List Production) : Type 0 where
  pub once : List Production
  pub more : List Production
  pub is : found ≡ once ++ more
  pub are_once : AreProductions n x (filled (alts n content)) once
  pub are_more : AreProductions n x (again (n.repetition content) (filled (alts n content))) more
