-- What stands among alternatives: an empty one, and one with steps.
use Rattle.std.specs.Prelude.{◌≡◌, Bool, not, ◌&&◌, ◌||◌, List, map}
use Rattle.std.specs.List.{list_any}
use Rattle.ts_core.specs.declared.rule.Rule.{Rule}
use Rattle.ts_rules.specs.declared.tree.Alternative.{Alternative}
use Rattle.ts_rules.specs.declared.tree.Around.{Around}
use Rattle.ts_rules.specs.Alternatives.{Alternatives, alternatives_each, choice_of, sequence}
use Rattle.ts_rules.specs.Numbers.{Numbers, tree_of, is_blank}
use Rattle.ts_numbering.specs.declared.shape.Shape.{Shape}

-- some alternative has no step
abbrev pub some_blank : Alternatives → Bool
some_blank xs = list_any (λ (x : Alternative). is_blank x.steps) xs

-- some alternative has a step
abbrev pub some_filled : Alternatives → Bool
some_filled xs = list_any (λ (x : Alternative). not (is_blank x.steps)) xs

-- whether some join has a step: of one with steps and any, or of an empty one and one with steps
abbrev pub join_filled : Bool → Bool → Bool → Bool → Bool
join_filled blank filled next_blank next_filled =
    (filled && (next_blank || next_filled)) || (blank && next_filled)

-- the alternatives of rule trees in a SEQ
abbrev pub joins_of : Numbers → List Rule → Around → Alternatives
joins_of n members around = sequence (alternatives_each (map (tree_of n) members) around)

-- the alternatives of rule trees in a CHOICE
abbrev pub branches_of : Numbers → List Rule → Around → Alternatives
branches_of n members around = choice_of (map (tree_of n) members) around

-- The two answers about alternatives are right wherever these stand.
pub record IsShapeOf (alternatives : Around → Alternatives) (shape : Shape) : Type 0 where
  pub blank : (around : Around) → shape.blank ≡ some_blank (alternatives around)
  pub filled : (around : Around) → shape.filled ≡ some_filled (alternatives around)
