-- The places of what a query names, in the order in which it is written.
use Rattle.std.specs.Prelude.{ℕ, ◌+◌, ◌≤◌, List, [], ◌∷◌, ◌++◌, map, Option, Some, None}
use Rattle.std.specs.List.{flat_map}
use Rattle.ts_query_tree.specs.declared.tree.Written.{Written}
use Rattle.ts_query_tree.specs.declared.tree.Mark.{Mark}
use Rattle.ts_query_tree.specs.declared.tree.Head.{Head}
use Rattle.ts_query_tree.specs.declared.tree.Head.TheVariants.{Any, Text, Node, Group, Choice}
use Rattle.ts_query_tree.specs.declared.tree.Operand.{Operand}
use Rattle.ts_query_tree.specs.declared.tree.Operand.TheVariants as operand
use Rattle.ts_query_tree.specs.declared.tree.Part.{Part as Value}
use Rattle.ts_query_tree.specs.declared.tree.Part.TheOpen.{Part-F}
use Rattle.ts_query_tree.specs.declared.tree.Part.TheFolds.{fold-Part}

-- the place of a name or a string
abbrev pub place_of : Written → ℕ
place_of written = written.at

-- the place of a field, if there is one
abbrev pub field_places : Option Written → List ℕ
field_places None = []
field_places (Some name) = name.at ∷ []

-- the place of a head: of its `_`, its string or its kind; a group and a choice have none
abbrev pub head_places : Head → List ℕ
head_places (Any at) = at ∷ []
head_places (Text text) = text.at ∷ []
head_places (Node kind) = kind.at ∷ []
head_places Group = []
head_places Choice = []

-- the place of a quantifier, if there is one
abbrev pub mark_places : Option Mark → List ℕ
mark_places None = []
mark_places (Some mark) = mark.at ∷ []

-- the place of a predicate's operand
abbrev pub operand_place : Operand → ℕ
operand_place (operand.Capture name) = name.at
operand_place (operand.Text text) = text.at
operand_place (operand.Name name) = name.at

-- the places of several lists, one list after another
abbrev pub all_places : List (List ℕ) → List ℕ
all_places = flat_map (λ (places : List ℕ). places)

-- the places of a part, from those of the parts in its bracket
abbrev pub place_step : Part-F (List ℕ) → List ℕ
place_step (Part-F.Item field head parts mark captures) =
    field_places field ++ (head_places head
    ++ (all_places parts ++ (mark_places mark ++ map place_of captures)))
place_step Part-F.Anchor = []
place_step (Part-F.Without name) = name.at ∷ []
place_step (Part-F.Predicate name operands) = name.at ∷ map operand_place operands

-- the places of a part: of its field, its head, what is in the head's brackets, its quantifier and
-- its captures
abbrev pub part_places : Value → List ℕ
part_places = fold-Part (List ℕ) place_step

-- the same of several parts
abbrev pub places_in : List Value → List ℕ
places_in = flat_map part_places

-- each of the places is after the one before, the first is i or after it, and all are before j
abbrev pub Rise : ℕ → List ℕ → ℕ → Type 0
Rise i [] j = i ≤ j
Rise i (p ∷ ps) j = (i ≤ p) × Rise (p + 1) ps j
