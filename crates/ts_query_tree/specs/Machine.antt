-- How the reader goes on, sign for sign, for private clauses: what it keeps of the brackets that
-- are open, the innermost first.
use Rattle.std.specs.Prelude.{◌≡◌, ℕ, Bool, true, false, not, ◌&&◌, ◌||◌, List, [], ◌∷◌, ◌++◌, Option, Some, None, if◌then◌else◌}
use Rattle.ts_query_tree.specs.declared.tree.Written.{Written}
use Rattle.ts_query_tree.specs.declared.tree.Mark.{Mark}
use Rattle.ts_query_tree.specs.declared.tree.Head.{Head}
use Rattle.ts_query_tree.specs.declared.tree.Head.TheVariants.{Any, Text, Node, Group, Choice}
use Rattle.ts_query_tree.specs.declared.tree.Operand.{Operand}
use Rattle.ts_query_tree.specs.declared.tree.Operand.TheVariants as operand
use Rattle.ts_query_tree.specs.declared.tree.Part.{Part as Value}
use Rattle.ts_query_tree.specs.declared.tree.Part.TheVariants as value
use Rattle.ts_query_tree.specs.declared.level.Bracket.{Bracket}
use Rattle.ts_query_tree.specs.declared.level.Bracket.TheVariants.{Top, Opened, Inside}
use Rattle.ts_query_tree.specs.declared.level.Pending.{Pending}
use Rattle.ts_query_tree.specs.declared.level.Pending.TheVariants as pending
use Rattle.ts_query_tree.specs.declared.level.Unit.{Unit}
use Rattle.ts_query_tree.specs.declared.level.Content.{Content}
use Rattle.ts_query_tree.specs.declared.level.Frame.{Frame}
use Rattle.ts_query_tree.specs.declared.level.Level.{Level}
use Rattle.ts_query_tree.specs.declared.sign.Sign.{Sign}
use Rattle.ts_query_tree.specs.declared.sign.Sign.TheVariants as sign
use Rattle.ts_query_tree.specs.Words.{is_wild}
use Rattle.ts_query_tree.specs.Trees.{wild, is_group, is_none, is_nil}

-- ---- what is in a bracket

-- what is in a bracket in which nothing stands yet
abbrev pub no_content : Content
no_content = record {
  parts = [];
  last = None;
  tied = false;
  filled = false;
  plain = true;
  repeatable = false;
}

-- there is a part in the bracket
abbrev pub is_begun : Content → Bool
is_begun c = not (is_nil c.parts) || not (is_none c.last)

-- the parts, with the last item behind them, if there is one
abbrev pub flushed : List Value → Option Unit → List Value
flushed xs None = xs
flushed xs (Some u) = xs ++ value.Item u.field u.head u.parts u.mark u.captures ∷ []

-- the content with one more item, and whether a quantifier may come to it
abbrev pub content_with : Content → Unit → Bool → Content
content_with c u repeats = record {
  parts = flushed c.parts c.last;
  last = Some u;
  tied = false;
  filled = true;
  plain = c.plain && not (is_group u.head);
  repeatable = repeats;
}

-- the content with one more part that is no item, and whether that is an anchor
abbrev pub content_and : Content → Value → Bool → Content
content_and c x ties = record {
  parts = flushed c.parts c.last ++ x ∷ [];
  last = None;
  tied = ties;
  filled = c.filled;
  plain = c.plain && not ties;
  repeatable = false;
}

-- the content with this item as the last one, to which no quantifier may come any more
abbrev pub last_is : Content → Unit → Content
last_is c u = record {
  parts = c.parts;
  last = Some u;
  tied = c.tied;
  filled = c.filled;
  plain = c.plain;
  repeatable = false;
}

-- the item with this quantifier
abbrev pub with_mark : Unit → Mark → Unit
with_mark u m = record {
  field = u.field;
  head = u.head;
  parts = u.parts;
  mark = Some m;
  captures = u.captures;
}

-- the item with one more capture
abbrev pub with_capture : Unit → Written → Unit
with_capture u w = record {
  field = u.field;
  head = u.head;
  parts = u.parts;
  mark = u.mark;
  captures = u.captures ++ w ∷ [];
}

-- the content with a quantifier on its last item, if there is one
abbrev pub last_marked : Content → Mark → Option Unit → Option Content
last_marked c m None = None
last_marked c m (Some u) = Some (last_is c (with_mark u m))

-- the content with a quantifier on its last part, where that may have one
abbrev pub marked : Content → Mark → Option Content
marked c m = if c.repeatable then last_marked c m c.last else None

-- these parts, where an item must follow: what the last of them is tells nothing then
abbrev pub awaiting : List Value → Bool → Content
awaiting xs loose = record {
  parts = xs;
  last = None;
  tied = false;
  filled = false;
  plain = loose;
  repeatable = false;
}

-- the content with all its parts, where an item must follow
abbrev pub sealed : Content → Content
sealed c = awaiting (flushed c.parts c.last) c.plain

-- the place of the head, if it is a `_` without a field
abbrev pub any_place : Option Written → Head → Option ℕ
any_place None (Any at) = Some at
any_place None (Text text) = None
any_place None (Node kind) = None
any_place None Group = None
any_place None Choice = None
any_place (Some field) head = None

-- the place of the item, if it is a `_` without a field
abbrev pub any_last : Option Unit → Option ℕ
any_last None = None
any_last (Some u) = any_place u.field u.head

-- the place of a `_` with neither a field nor anything behind it
abbrev pub bare_wild : Content → Option ℕ
bare_wild c = if c.repeatable then any_last c.last else None

-- the content with one more capture on its last item, if there is one that is no group
abbrev pub last_captured : Content → Written → Option Unit → Option Content
last_captured c w None = None
last_captured c w (Some u) =
    if is_group u.head then None else Some (last_is c (with_capture u w))

-- the content with one more capture on its last part, where that may have one
abbrev pub captured : Content → Written → Option Content
captured c w = last_captured c w c.last

-- ---- a bracket

-- an open bracket with this content, and whether a group and a predicate may stand where it does
abbrev pub frame_of : Bracket → Bool → Bool → Content → Frame
frame_of b groups asks c =
    record { bracket = b; may_group = groups; may_ask = asks; content = c }

-- an open bracket with nothing in it yet
abbrev pub new_frame : Bracket → Bool → Bool → Frame
new_frame b groups asks = frame_of b groups asks no_content

-- the bracket with this content instead
abbrev pub with_content : Frame → Content → Frame
with_content f c = frame_of f.bracket f.may_group f.may_ask c

-- the bracket as that of a group
abbrev pub as_group : Frame → Frame
as_group f = frame_of (Inside Group) f.may_group f.may_ask f.content

-- the bracket is a `(` with nothing in it yet
abbrev pub is_opened : Bracket → Bool
is_opened Top = false
is_opened Opened = true
is_opened (Inside h) = false

-- the bracket before what begins in it: a `(` with nothing in it is a group where it may be one
abbrev pub entered : Frame → Frame
entered f = if is_opened f.bracket && f.may_group then as_group f else f

-- an item with neither quantifier nor captures
abbrev pub fresh : Option Written → Head → List Value → Unit
fresh field head xs =
    record { field = field; head = head; parts = xs; mark = None; captures = [] }

-- the bracket with one more item, and whether a quantifier may come to it
abbrev pub frame_with : Frame → Option Written → Head → List Value → Bool → Frame
frame_with f field head xs repeats =
    with_content f (content_with f.content (fresh field head xs) repeats)

-- the bracket with one more part that is no item, and whether that is an anchor
abbrev pub frame_and : Frame → Value → Bool → Frame
frame_and f x ties = with_content f (content_and f.content x ties)

-- the kind, if the bracket is that of a node
abbrev pub kind_of : Bracket → Option Written
kind_of Top = None
kind_of Opened = None
kind_of (Inside (Any at)) = None
kind_of (Inside (Text text)) = None
kind_of (Inside (Node kind)) = Some kind
kind_of (Inside Group) = None
kind_of (Inside Choice) = None

-- a name that seems to be a node's kind and may begin a group
abbrev pub lone_kind : Frame → Option Written
lone_kind f = if not f.may_group || is_begun f.content then None else kind_of f.bracket

-- the place of the name, if there is one and it is `_`
abbrev pub wild_place : Option Written → Option ℕ
wild_place None = None
wild_place (Some name) = if is_wild name.text then Some name.at else None

-- the place of a `_` that seems to be a node's kind and may begin a group
abbrev pub lone_wild : Frame → Option ℕ
lone_wild f = wild_place (lone_kind f)

-- the bracket as that of a group, with the `_` at this place as one more item, if there is one
abbrev pub regrouped_at : Frame → Option ℕ → Frame
regrouped_at f None = f
regrouped_at f (Some at) = frame_with (as_group f) None (Any at) [] true

-- the bracket, where a `_` that seemed to be a node's kind is the first item of a group
abbrev pub regrouped : Frame → Frame
regrouped f = regrouped_at f (lone_wild f)

-- the bracket is that of a choice
abbrev pub is_choice : Bracket → Bool
is_choice Top = false
is_choice Opened = false
is_choice (Inside (Any at)) = false
is_choice (Inside (Text text)) = false
is_choice (Inside (Node kind)) = false
is_choice (Inside Group) = false
is_choice (Inside Choice) = true

-- the bracket with this content instead, if there is one
abbrev pub content_in : Frame → Option Content → Option Frame
content_in f None = None
content_in f (Some c) = Some (with_content f c)

-- the bracket with a quantifier on its last part, where that may have one: not in a choice
abbrev pub frame_marked : Frame → Mark → Option Frame
frame_marked f m = if is_choice f.bracket then None else content_in f (marked f.content m)

-- the bracket with one more capture on its last part, where that may have one
abbrev pub frame_captured : Frame → Written → Option Frame
frame_captured f w = content_in f (captured f.content w)

-- an open bracket, and what is begun in it
abbrev pub level : Frame → Pending → Level
level f p = record { frame = f; pending = p }

-- an open bracket in which nothing is begun
abbrev pub ready : Frame → Level
ready f = level f pending.Nothing

-- the bracket with a name where an item may begin: `_` is one, any other name needs its colon
abbrev pub item_named : Frame → Written → Level
item_named f w =
    if is_wild w.text then ready (frame_with f None (Any w.at) [] true)
    else level f (pending.Name w)

-- the same by the kind of bracket: right behind a `(` the name is a node's kind
abbrev pub named_in : Frame → Written → Bracket → Level
named_in f w Top = item_named f w
named_in f w Opened = ready (frame_of (Inside (Node w)) f.may_group f.may_ask f.content)
named_in f w (Inside h) = item_named f w

-- the bracket with a name, where no field stands before it
abbrev pub named : Frame → Written → Level
named f w = named_in f w f.bracket

-- the last `_` is a field's name
abbrev pub wild_is_field : Frame → Option ℕ → Option Level
wild_is_field f None = None
wild_is_field f (Some at) = Some (level
    (with_content f (awaiting f.content.parts f.content.plain))
    (pending.Field (wild at)))

-- the bracket with a colon: what seemed a node's kind is a field in a group, or the last `_` is one
abbrev pub colon_behind : Frame → Option Written → Option Level
colon_behind f None = wild_is_field f (bare_wild f.content)
colon_behind f (Some kind) = Some (level (as_group f) (pending.Field kind))

-- the bracket with a colon behind what is written, where that can be a field's name
abbrev pub colon_in : Frame → Option Level
colon_in f = colon_behind f (lone_kind f)

-- a group may stand next in such a bracket: not right behind a `(`, and not in a choice
abbrev pub holds_groups : Bracket → Bool
holds_groups Top = true
holds_groups Opened = false
holds_groups (Inside (Any at)) = true
holds_groups (Inside (Text text)) = true
holds_groups (Inside (Node kind)) = true
holds_groups (Inside Group) = true
holds_groups (Inside Choice) = false

-- a predicate may stand next in such a bracket: in a node, or in a group that has a part
abbrev pub predicates_in : Content → Bracket → Bool
predicates_in c Top = false
predicates_in c Opened = false
predicates_in c (Inside (Any at)) = false
predicates_in c (Inside (Text text)) = false
predicates_in c (Inside (Node kind)) = true
predicates_in c (Inside Group) = is_begun c
predicates_in c (Inside Choice) = false

-- a predicate may stand next in the bracket
abbrev pub holds_predicates : Frame → Bool
holds_predicates f = predicates_in f.content f.bracket

-- an anchor may stand next in such a bracket: in a node or group, but not behind an anchor
abbrev pub anchors_in : Content → Bracket → Bool
anchors_in c Top = false
anchors_in c Opened = false
anchors_in c (Inside (Any at)) = false
anchors_in c (Inside (Text text)) = false
anchors_in c (Inside (Node kind)) = not c.tied
anchors_in c (Inside Group) = not c.tied
anchors_in c (Inside Choice) = false

-- an anchor may stand next in the bracket
abbrev pub holds_anchors : Frame → Bool
holds_anchors f = anchors_in f.content f.bracket

-- the bracket is that of a node
abbrev pub is_node : Bracket → Bool
is_node Top = false
is_node Opened = false
is_node (Inside (Any at)) = false
is_node (Inside (Text text)) = false
is_node (Inside (Node kind)) = true
is_node (Inside Group) = false
is_node (Inside Choice) = false

-- there is no bracket: it is the whole query
abbrev pub is_top : Bracket → Bool
is_top Top = true
is_top Opened = false
is_top (Inside h) = false

-- ---- one sign

-- nothing is begun that needs something to follow
abbrev pub is_nothing : Pending → Bool
is_nothing pending.Nothing = true
is_nothing (pending.Name w) = false
is_nothing (pending.Field w) = false
is_nothing (pending.Predicate w os) = false

-- a predicate is begun
abbrev pub is_asking : Pending → Bool
is_asking pending.Nothing = false
is_asking (pending.Name w) = false
is_asking (pending.Field w) = false
is_asking (pending.Predicate w os) = true

-- the bracket with one more operand of the predicate, if one is begun in it
abbrev pub operand_in : Frame → Operand → Pending → Option Level
operand_in f o pending.Nothing = None
operand_in f o (pending.Name w) = None
operand_in f o (pending.Field w) = None
operand_in f o (pending.Predicate w os) = Some (level f (pending.Predicate w (os ++ o ∷ [])))

-- the level with one more operand of the predicate, if one is begun in it
abbrev pub with_operand : Level → Operand → Option Level
with_operand l o = operand_in l.frame o l.pending

-- an item may follow: nothing is begun, or a field is
abbrev pub is_due : Pending → Bool
is_due pending.Nothing = true
is_due (pending.Name w) = false
is_due (pending.Field w) = true
is_due (pending.Predicate w os) = false

-- an item may come next in such a bracket, in which this is begun
abbrev pub takes_unit : Bracket → Pending → Bool
takes_unit b p = is_due p && not (is_opened b)

-- where an item may follow what is begun, the field that it has, if any
abbrev pub due_field : Pending → Option (Option Written)
due_field pending.Nothing = Some None
due_field (pending.Name w) = None
due_field (pending.Field w) = Some (Some w)
due_field (pending.Predicate w os) = None

-- where an item may come next, the field that it has, if any
abbrev pub unit_field : Bracket → Pending → Option (Option Written)
unit_field b p = if is_opened b then None else due_field p

-- the bracket with one more item of this field, where an item may come
abbrev pub with_field : Frame → Head → List Value → Bool → Option (Option Written) → Option Level
with_field f h xs repeats None = None
with_field f h xs repeats (Some field) = Some (ready (frame_with f field h xs repeats))

-- the level with one more item, where one may come
abbrev pub level_with : Level → Head → List Value → Bool → Option Level
level_with l h xs repeats =
    with_field l.frame h xs repeats (unit_field l.frame.bracket l.pending)

-- the level with an anchor, where one may come
abbrev pub anchored : Level → Option Level
anchored l =
    if is_nothing l.pending && holds_anchors (entered l.frame)
    then Some (ready (frame_and (entered l.frame) value.Anchor true)) else None

-- the bracket with a colon behind a name that is begun, or behind what is written before
abbrev pub colon_by : Frame → Pending → Option Level
colon_by f pending.Nothing = colon_in f
colon_by f (pending.Name w) = Some (level (with_content f (sealed f.content)) (pending.Field w))
colon_by f (pending.Field w) = None
colon_by f (pending.Predicate w os) = None

-- the level with a colon, where one may come
abbrev pub colon : Level → Option Level
colon l = colon_by l.frame l.pending

-- the bracket as a level in which nothing is begun, if there is one
abbrev pub frame_ready : Option Frame → Option Level
frame_ready None = None
frame_ready (Some f) = Some (ready f)

-- the level with a quantifier on its last part, where that may have one
abbrev pub level_marked : Level → Mark → Option Level
level_marked l m =
    if is_nothing l.pending then frame_ready (frame_marked (regrouped l.frame) m) else None

-- the bracket with a `_` of this field as one more item, if the name is `_`
abbrev pub wild_in_field : Frame → Written → Written → Option Level
wild_in_field f field w =
    if is_wild w.text then Some (ready (frame_with f (Some field) (Any w.at) [] true)) else None

-- the bracket, in which this is begun, with a name, where one may come
abbrev pub named_by : Frame → Written → Pending → Option Level
named_by f w pending.Nothing = Some (named f w)
named_by f w (pending.Name v) = None
named_by f w (pending.Field v) = wild_in_field f v w
named_by f w (pending.Predicate v os) = operand_in f (operand.Name w) (pending.Predicate v os)

-- the level with a name, where one may come
abbrev pub level_named : Level → Written → Option Level
level_named l w = named_by l.frame w l.pending

-- the level with a string, where one may come: an operand of a predicate, or an item
abbrev pub texted : Level → Written → Option Level
texted l w =
    if is_asking l.pending then with_operand l (operand.Text w)
    else level_with (level (entered l.frame) l.pending) (Text w) [] true

-- the level with a capture, where one may come: an operand of a predicate, or on the last part
abbrev pub level_captured : Level → Written → Option Level
level_captured l w =
    if is_asking l.pending then with_operand l (operand.Capture w)
    else if is_nothing l.pending then frame_ready (frame_captured (regrouped l.frame) w) else None

-- the level with a field that no child has, where one may come: in a node
abbrev pub level_without : Level → Written → Option Level
level_without l w =
    if is_nothing l.pending && is_node l.frame.bracket
    then Some (ready (frame_and l.frame (value.Without w) false)) else None

-- ---- one sign, where brackets open or close

-- the bracket that is open, and those round it
abbrev pub Open : Type 0
Open = Level × List Level

-- the level with those round it, if there is one
abbrev pub within : List Level → Option Level → Option Open
within o None = None
within o (Some l) = Some (l, o)

-- what is open where a predicate of this name is begun in the innermost of these levels
abbrev pub asking_in : Written → List Level → Option Open
asking_in w [] = None
asking_in w (r ∷ o) = Some (level r.frame (pending.Predicate w []), o)

-- what is open behind `(` and a predicate's name, where a predicate may stand
abbrev pub asked : Level → Written → List Level → Option Open
asked l w o = if l.frame.may_ask && is_opened l.frame.bracket then asking_in w o else None

-- what is open with one more bracket in this one, in which this is begun, where an item may come
abbrev pub opened_in : Frame → Pending → Bracket → List Level → Option Open
opened_in f p b o =
    if takes_unit f.bracket p
    then Some (
      ready (new_frame b (is_nothing p && holds_groups f.bracket)
          (is_nothing p && holds_predicates f)),
      level f p ∷ o,
    ) else None

-- what is open with one more bracket, where an item may come
abbrev pub opened : Level → Bracket → List Level → Option Open
opened l b o = opened_in (entered l.frame) l.pending b o

-- what is open with one more item of this content in the innermost level, where one may come
abbrev pub put : Head → Content → Bool → List Level → Option Open
put h c repeats [] = None
put h c repeats (r ∷ o) = within o (level_with r h (flushed c.parts c.last) repeats)

-- what is open behind the `)` of such a bracket with this content, where it may be closed
abbrev pub closed_in : Content → List Level → Bracket → Option Open
closed_in c o Top = None
closed_in c o Opened = None
closed_in c o (Inside (Any at)) = None
closed_in c o (Inside (Text text)) = None
closed_in c o (Inside (Node kind)) = put (Node kind) c true o
closed_in c o (Inside Group) = if c.filled then put Group c c.plain o else None
closed_in c o (Inside Choice) = None

-- what is open behind the `)` of the bracket, where it may be closed
abbrev pub frame_closed : Frame → List Level → Option Open
frame_closed f o = closed_in f.content o f.bracket

-- what is open behind a `)`: it closes the predicate that is begun, or the bracket
abbrev pub closed_by : Frame → List Level → Pending → Option Open
closed_by f o pending.Nothing = frame_closed f o
closed_by f o (pending.Name w) = None
closed_by f o (pending.Field w) = None
closed_by f o (pending.Predicate w os) =
    Some (ready (frame_and f (value.Predicate w os) false), o)

-- what is open behind a `)`, where one may come
abbrev pub closed : Level → List Level → Option Open
closed l o = closed_by l.frame o l.pending

-- what is open behind a `]`, where one may come: in a choice that has a branch
abbrev pub choice_closed : Level → List Level → Option Open
choice_closed l o =
    if is_nothing l.pending && (is_choice l.frame.bracket && l.frame.content.filled)
    then put Choice l.frame.content true o else None

-- what is open after a sign, where the sign can stand there
abbrev pub next : Level → List Level → Sign → Option Open
next l o sign.Open = opened l Opened o
next l o sign.Close = closed l o
next l o sign.OpenChoice = opened l (Inside Choice) o
next l o sign.CloseChoice = choice_closed l o
next l o sign.Anchor = within o (anchored l)
next l o sign.Colon = within o (colon l)
next l o (sign.Mark m) = within o (level_marked l m)
next l o (sign.Name w) = within o (level_named l w)
next l o (sign.Text w) = within o (texted l w)
next l o (sign.Capture w) = within o (level_captured l w)
next l o (sign.Without w) = within o (level_without l w)
next l o (sign.Predicate w) = asked l w o

-- what is open behind these signs, where each of them can stand
abbrev pub run_from : Option Open → List Sign → Option Open
run_from None ss = None
run_from (Some z) [] = Some z
run_from (Some z) (s ∷ ss) = run_from (next z.0 z.1 s) ss

-- what is open before the first sign: the query, with nothing in it yet
abbrev pub start : Option Open
start = Some (ready (new_frame Top false false), [])

-- what is whole where the text ends, if it may end there
abbrev pub finished : Level → Option (List Value)
finished l =
    if is_top l.frame.bracket && is_nothing l.pending
    then Some (flushed l.frame.content.parts l.frame.content.last) else None

-- what is kept of the open brackets after a sign
abbrev pub Follows : Option Open → Option Level → List Level → Type 0
Follows None r o = r ≡ None
Follows (Some z) r o = (r ≡ Some z.0) × (o ≡ z.1)

-- whether the sign opens a bracket
abbrev pub is_opening : Sign → Bool
is_opening sign.Open = true
is_opening sign.Close = false
is_opening sign.OpenChoice = true
is_opening sign.CloseChoice = false
is_opening sign.Anchor = false
is_opening sign.Colon = false
is_opening (sign.Mark mark) = false
is_opening (sign.Name name) = false
is_opening (sign.Text text) = false
is_opening (sign.Capture name) = false
is_opening (sign.Without name) = false
is_opening (sign.Predicate name) = false
