-- The brackets that are open, by the trees in them: what the code keeps of them, the signs that
-- spell them, and when they are formed.
use Rattle.std.proofs.Common.{◌≡◌, Bool, true, false, not, ◌&&◌, ◌||◌, List, [], ◌∷◌, ◌++◌, map, Option, Some, None}
use Rattle.std.specs.Bool.{⊤}
use Rattle.ts_query_tree.specs.declared.tree.Written.{Written}
use Rattle.ts_query_tree.specs.declared.tree.Mark.{Mark}
use Rattle.ts_query_tree.specs.declared.tree.Head.{Head}
use Rattle.ts_query_tree.specs.declared.tree.Head.TheVariants.{Any, Text, Node, Group, Choice}
use Rattle.ts_query_tree.specs.declared.tree.Part.{Part as Value}
use Rattle.ts_query_tree.specs.declared.level.Bracket.{Bracket}
use Rattle.ts_query_tree.specs.declared.level.Bracket.TheVariants.{Top, Opened, Inside}
use Rattle.ts_query_tree.specs.declared.level.Pending.{Pending}
use Rattle.ts_query_tree.specs.declared.level.Pending.TheVariants as pending
use Rattle.ts_query_tree.specs.declared.level.Unit.{Unit}
use Rattle.ts_query_tree.specs.declared.level.Content.{Content}
use Rattle.ts_query_tree.specs.declared.level.Frame.{Frame}
use Rattle.ts_query_tree.specs.declared.level.Level.{Level}
use Rattle.ts_query_tree.specs.declared.sign.Sign.{Sign}
use Rattle.ts_query_tree.specs.declared.sign.Sign.TheVariants as sign
use Rattle.ts_query_tree.specs.Trees.{Parts, empty, more, item, anchor, without, predicate, spelling, operand_sign, has_item, is_group, is_loose, ends_tied, may_follow, AreFormed, values_of}
use Rattle.ts_query_tree.specs.Machine.{Open, frame_of, awaiting, level, is_nothing, holds_groups, predicates_in, is_due}

-- a bracket with its parts, and what is begun behind them
pub data Shape : Type 0 where
  shape : Bracket → Parts → Pending → Shape

-- ---- what the code keeps

abbrev pub unit_of : Option Written → Head → Parts → Option Mark → List Written → Unit
unit_of f h ps m cs = record { field = f; head = h; parts = values_of ps; mark = m; captures = cs }

abbrev pub before_of : Parts → List Value
before_of empty = []
before_of (more ps (item f h qs m cs)) = values_of ps
before_of (more ps anchor) = values_of (more ps anchor)
before_of (more ps (without w)) = values_of (more ps (without w))
before_of (more ps (predicate w os)) = values_of (more ps (predicate w os))

abbrev pub last_of : Parts → Option Unit
last_of empty = None
last_of (more ps (item f h qs m cs)) = Some (unit_of f h qs m cs)
last_of (more ps anchor) = None
last_of (more ps (without w)) = None
last_of (more ps (predicate w os)) = None

-- a quantifier may come to an item of this head
abbrev pub takes_mark : Head → Parts → Bool
takes_mark h qs = not (is_group h) || is_loose qs

abbrev pub repeats : Parts → Bool
repeats empty = false
repeats (more ps (item f h qs None [])) = takes_mark h qs
repeats (more ps (item f h qs None (c ∷ cs))) = false
repeats (more ps (item f h qs (Some m) cs)) = false
repeats (more ps anchor) = false
repeats (more ps (without w)) = false
repeats (more ps (predicate w os)) = false

abbrev pub content_of : Parts → Content
content_of ps = record {
  parts = before_of ps;
  last = last_of ps;
  tied = ends_tied ps;
  filled = has_item ps;
  plain = is_loose ps;
  repeatable = repeats ps;
}

-- the same where something is begun: behind a field an item must follow
abbrev pub content_at : Parts → Pending → Content
content_at ps pending.Nothing = content_of ps
content_at ps (pending.Name w) = content_of ps
content_at ps (pending.Field w) = awaiting (values_of ps) (is_loose ps)
content_at ps (pending.Predicate w os) = content_of ps

abbrev pub groups_at : List Shape → Bool
groups_at [] = false
groups_at (shape b ps p ∷ os) = is_nothing p && holds_groups b

abbrev pub asks_at : List Shape → Bool
asks_at [] = false
asks_at (shape b ps p ∷ os) = is_nothing p && predicates_in (content_at ps p) b

abbrev pub frame_in : Bracket → Parts → Pending → List Shape → Frame
frame_in b ps p os = frame_of b (groups_at os) (asks_at os) (content_at ps p)

abbrev pub frame_at : Bracket → Parts → List Shape → Frame
frame_at b ps os = frame_in b ps pending.Nothing os

abbrev pub level_at : Shape → List Shape → Level
level_at (shape b ps p) os = level (frame_in b ps p os) p

abbrev pub levels : List Shape → List Level
levels [] = []
levels (r ∷ os) = level_at r os ∷ levels os

abbrev pub open_at : Shape → List Shape → Open
open_at x os = (level_at x os, levels os)

-- ---- the signs

abbrev pub bracket_spelling : Bracket → List Sign
bracket_spelling Top = []
bracket_spelling Opened = sign.Open ∷ []
bracket_spelling (Inside (Any at)) = []
bracket_spelling (Inside (Text text)) = []
bracket_spelling (Inside (Node kind)) = sign.Open ∷ sign.Name kind ∷ []
bracket_spelling (Inside Group) = sign.Open ∷ []
bracket_spelling (Inside Choice) = sign.OpenChoice ∷ []

abbrev pub pending_spelling : Pending → List Sign
pending_spelling pending.Nothing = []
pending_spelling (pending.Name w) = sign.Name w ∷ []
pending_spelling (pending.Field w) = sign.Name w ∷ sign.Colon ∷ []
pending_spelling (pending.Predicate w os) = sign.Open ∷ sign.Predicate w ∷ map operand_sign os

abbrev pub shape_spelling : Shape → List Sign
shape_spelling (shape b ps p) = bracket_spelling b ++ (spelling ps ++ pending_spelling p)

-- the signs of all that is open
abbrev pub spelled : Shape → List Shape → List Sign
spelled x [] = shape_spelling x
spelled x (r ∷ os) = spelled r os ++ shape_spelling x

-- ---- what is formed

-- items may stand in such a bracket
abbrev pub holds : Bracket → Bool
holds Top = true
holds Opened = false
holds (Inside (Any at)) = false
holds (Inside (Text text)) = false
holds (Inside (Node kind)) = true
holds (Inside Group) = true
holds (Inside Choice) = true

abbrev pub Begun : Bracket → Parts → Pending → Type 0
Begun b ps pending.Nothing = ⊤
Begun b ps (pending.Name w) = holds b ≡ true
Begun b ps (pending.Field w) = holds b ≡ true
Begun b ps (pending.Predicate w os) = (holds b ≡ true) × (may_follow b ps (predicate w []) ≡ true)

-- a bracket stands in another one that may hold it
abbrev pub Linked : Bracket → List Shape → Type 0
Linked Top [] = ⊤
Linked Top (r ∷ os) = ⊥
Linked Opened [] = ⊥
Linked Opened (r ∷ os) = ⊤
Linked (Inside h) [] = ⊥
Linked (Inside (Any at)) (r ∷ os) = ⊥
Linked (Inside (Text text)) (r ∷ os) = ⊥
Linked (Inside (Node kind)) (r ∷ os) = ⊤
Linked (Inside Group) (r ∷ os) = groups_at (r ∷ os) ≡ true
Linked (Inside Choice) (r ∷ os) = ⊤

-- an item may come there
abbrev pub IsDue : Shape → Type 0
IsDue (shape b ps p) = (holds b ≡ true) × (is_due p ≡ true)

pub record Here (b : Bracket) (ps : Parts) (p : Pending) (os : List Shape) : Type 0 where
  pub parts : AreFormed b ps
  pub begun : Begun b ps p
  pub link : Linked b os

abbrev pub IsHere : Shape → List Shape → Type 0
IsHere (shape b ps p) os = Here b ps p os

abbrev pub AreRound : List Shape → Type 0
AreRound [] = ⊤
AreRound (r ∷ os) = IsDue r × IsHere r os × AreRound os

pub record Formed (x : Shape) (os : List Shape) : Type 0 where
  pub here : IsHere x os
  pub round : AreRound os

-- a group is open with something in it
abbrev pub IsStarted : Shape → Type 0
IsStarted (shape Top ps p) = ⊤
IsStarted (shape Opened ps p) = ⊤
IsStarted (shape (Inside (Any at)) ps p) = ⊤
IsStarted (shape (Inside (Text text)) ps p) = ⊤
IsStarted (shape (Inside (Node kind)) ps p) = ⊤
IsStarted (shape (Inside Group) empty pending.Nothing) = ⊥
IsStarted (shape (Inside Group) empty (pending.Name w)) = ⊤
IsStarted (shape (Inside Group) empty (pending.Field w)) = ⊤
IsStarted (shape (Inside Group) empty (pending.Predicate w os)) = ⊤
IsStarted (shape (Inside Group) (more ps q) p) = ⊤
IsStarted (shape (Inside Choice) ps p) = ⊤

-- ---- one step

-- what is open behind a sign, if it could stand there
pub record Grows (x : Shape) (os : List Shape) (s : Sign) (z : Open) : Type 0 where
  pub inner : Shape
  pub round : List Shape
  pub same : z ≡ open_at inner round
  pub spells : spelled inner round ≡ spelled x os ++ s ∷ []
  pub formed : Formed inner round
  pub started : IsStarted inner
