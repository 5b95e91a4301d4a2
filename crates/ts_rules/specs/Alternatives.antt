-- The alternatives of a rule tree, by cases on its type.
use Rattle.std.specs.Prelude.{ℕ, ◌&&◌, Bool, true, false, nat_lt, if◌then◌else◌, List, [], ◌∷◌, ◌++◌, map, Some, ◌+◌, max, length}
use Rattle.std.specs.Int.RustNames.{unsigned_abs}
use lib.IntN.{ℤ, pos}
use Rattle.ts_core.specs.declared.flat.Prec.{Prec}
use Rattle.ts_core.specs.declared.flat.Assoc.{Assoc}
use Rattle.ts_core.specs.declared.flat.Assoc.TheVariants.{Absent, Left, Right}
use Rattle.ts_rules.specs.declared.tree.Around.{Around}
use Rattle.ts_rules.specs.declared.tree.NumberedStep.{NumberedStep}
use Rattle.ts_rules.specs.declared.tree.Alternative.{Alternative}
use Rattle.ts_rules.specs.declared.tree.Tree.{Tree}
use Rattle.ts_rules.specs.declared.tree.Tree.TheOpen.{Tree-F}
use Rattle.ts_rules.specs.declared.tree.Tree.TheFolds.{fold-Tree}

-- ---- dynamic values

-- the value of greater magnitude, the first on a tie
abbrev pub stronger : ℤ → ℤ → ℤ
stronger first second = if nat_lt (unsigned_abs first) (unsigned_abs second) then second else first

-- ---- one alternative

-- the alternative of a dynamic value and steps
abbrev pub alternative : ℤ → List NumberedStep → Alternative
alternative dynamic steps = record { dynamic = dynamic; steps = steps }

-- no step, and no dynamic value, since none stands round a step
abbrev pub blank : Alternative
blank = alternative (pos 0) []

-- a step has the marks of what stands round it
abbrev pub step_at : ℕ → Around → NumberedStep
step_at symbol around = record {
  symbol = symbol;
  prec = around.prec;
  assoc = around.assoc;
  alias = around.alias;
  field = around.field;
}

-- the alternative of one step, with the dynamic value round it
abbrev pub single : ℕ → Around → Alternative
single symbol around = alternative around.dynamic (step_at symbol around ∷ [])

-- ---- lists of alternatives

-- alternatives, in order
abbrev pub Alternatives : Type 0
Alternatives = List Alternative

-- the steps of both, one after the other, and the stronger dynamic value
abbrev pub followed : Alternative → Alternative → Alternative
followed x y = alternative (stronger x.dynamic y.dynamic) (x.steps ++ y.steps)

-- each of the first with each of the second, the first varying slowest
abbrev pub joins : Alternatives → Alternatives → Alternatives
joins [] ys = []
joins (x ∷ xs) ys = map (λ y. followed x y) ys ++ joins xs ys

-- all joins of the members' alternatives
abbrev pub sequence : List Alternatives → Alternatives
sequence [] = blank ∷ []
sequence (xs ∷ rest) = joins xs (sequence rest)

-- one list after another
abbrev pub choice : List Alternatives → Alternatives
choice [] = []
choice (xs ∷ rest) = xs ++ choice rest

-- ---- what stands round the inner trees

-- round the content of a FIELD stands its field
abbrev pub in_field : ℕ → Around → Around
in_field field around = record around { field = Some field }

-- round the content of an ALIAS stands its alias
abbrev pub in_alias : ℕ → Around → Around
in_alias alias around = record around { alias = Some alias }

-- round the content of a PREC_DYNAMIC stands the stronger of the value outside and its own
abbrev pub in_dynamic : ℤ → Around → Around
in_dynamic value around = record around { dynamic = stronger around.dynamic value }

-- a PREC leaves the associativity round it
abbrev pub inner_assoc : Assoc → Assoc → Assoc
inner_assoc Absent outer = outer
inner_assoc Left outer = Left
inner_assoc Right outer = Right

-- round the content of a group stands its precedence, and its associativity where it has one
abbrev pub in_group : Prec → Assoc → Around → Around
in_group prec assoc around = record around { prec = prec; assoc = inner_assoc assoc around.assoc }

-- whether no member comes after
abbrev pub is_last : {X : Type 0} → List X → Bool
is_last [] = true
is_last (x ∷ xs) = false

-- Of the members of a SEQ only the last is at the production's end, and only if the SEQ is.
abbrev pub in_sequence : Bool → Around → Around
in_sequence last around = record around { at_end = around.at_end && last }

-- what the members of a SEQ have, each in its place
abbrev pub members : List (Around → Alternatives) → Around → List Alternatives
members [] around = []
members (inner ∷ rest) around = inner (in_sequence (is_last rest) around) ∷ members rest around

-- what the branches of a CHOICE have, all in the same place
abbrev pub branches : List (Around → Alternatives) → Around → List Alternatives
branches [] around = []
branches (inner ∷ rest) around = inner around ∷ branches rest around

-- ---- the last step of a group that is not at its production's end

-- takes the precedence and associativity round the group
abbrev pub left_by : Around → NumberedStep → NumberedStep
left_by around step = record step { prec = around.prec; assoc = around.assoc }

-- the steps, the last of which takes the precedence and associativity round the group
abbrev pub last_left : Around → List NumberedStep → List NumberedStep
last_left around [] = []
last_left around (step ∷ []) = left_by around step ∷ []
last_left around (step ∷ next ∷ steps) = step ∷ last_left around (next ∷ steps)

-- the alternative, whose last step takes them
abbrev pub left : Around → Alternative → Alternative
left around x = alternative x.dynamic (last_left around x.steps)

-- a group's alternatives: at the production's end they stay, and else their last steps take them
abbrev pub group : Around → Alternatives → Alternatives
group around xs = if around.at_end then xs else map (left around) xs

-- ---- a rule tree

-- the alternatives of a tree, by those of its inner trees
abbrev pub layer : Tree-F (Around → Alternatives) → Around → Alternatives
layer Tree-F.Blank around = blank ∷ []
layer (Tree-F.Step symbol) around = single symbol around ∷ []
layer (Tree-F.Seq inner) around = sequence (members inner around)
layer (Tree-F.Choice inner) around = choice (branches inner around)
layer (Tree-F.Field field inner) around = inner (in_field field around)
layer (Tree-F.Alias alias inner) around = inner (in_alias alias around)
layer (Tree-F.Group prec assoc inner) around = group around (inner (in_group prec assoc around))
layer (Tree-F.Dynamic value inner) around = inner (in_dynamic value around)

-- the ordered step lists of a rule tree, at a place in a rule
abbrev pub alternatives_of : Tree → Around → Alternatives
alternatives_of = fold-Tree (Around → Alternatives) layer

-- ---- what a SEQ and a CHOICE have, by their inner trees

-- each member's alternatives, in its place
abbrev pub alternatives_each : List Tree → Around → List Alternatives
alternatives_each [] around = []
alternatives_each (tree ∷ rest) around = alternatives_of tree (in_sequence (is_last rest) around)
    ∷ alternatives_each rest around

-- one list after another
abbrev pub choice_of : List Tree → Around → Alternatives
choice_of [] around = []
choice_of (tree ∷ rest) around = alternatives_of tree around ++ choice_of rest around

-- the most steps of one of them
abbrev pub longest_of : Alternatives → ℕ
longest_of [] = 0
longest_of (x ∷ xs) = max (length x.steps) (longest_of xs)

-- the most steps of one of each, together
abbrev pub longest_together : List Alternatives → ℕ
longest_together [] = 0
longest_together (xs ∷ rest) = longest_of xs + longest_together rest
