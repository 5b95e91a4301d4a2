-- The trees of queries, the signs that spell them, and what may stand where.
use Rattle.std.specs.Prelude.{◌≡◌, ℕ, Bool, true, false, not, ◌&&◌, ◌||◌, List, [], ◌∷◌, ◌++◌, map, Option, Some, None, if◌then◌else◌, ⊤}
use Rattle.ts_query_tree.specs.declared.tree.Written.{Written}
use Rattle.ts_query_tree.specs.declared.tree.Mark.{Mark}
use Rattle.ts_query_tree.specs.declared.tree.Head.{Head}
use Rattle.ts_query_tree.specs.declared.tree.Head.TheVariants.{Any, Text, Node, Group, Choice}
use Rattle.ts_query_tree.specs.declared.tree.Operand.{Operand}
use Rattle.ts_query_tree.specs.declared.tree.Operand.TheVariants as operand
use Rattle.ts_query_tree.specs.declared.tree.Part.{Part as Value}
use Rattle.ts_query_tree.specs.declared.tree.Part.TheVariants as value
use Rattle.ts_query_tree.specs.declared.level.Bracket.{Bracket}
use Rattle.ts_query_tree.specs.declared.level.Bracket.TheVariants.{Top, Opened, Inside}
use Rattle.ts_query_tree.specs.declared.sign.Sign.{Sign}
use Rattle.ts_query_tree.specs.declared.sign.Sign.TheVariants as sign

mutual
  -- what is in a bracket: parts, the last of them apart
  pub data Parts : Type 0 where
    empty : Parts
    more : Parts → Part → Parts

  -- An item has a field, a head with what is in its bracket, a quantifier and captures. The others
  -- are an anchor, a field that no child has, and a predicate.
  pub data Part : Type 0 where
    item : Option Written → Head → Parts → Option Mark → List Written → Part
    anchor : Part
    without : Written → Part
    predicate : Written → List Operand → Part

-- ---- the signs that spell each

-- the signs that spell a field, if there is one: its name and a colon
abbrev pub field_spelling : Option Written → List Sign
field_spelling None = []
field_spelling (Some name) = sign.Name name ∷ sign.Colon ∷ []

-- the sign that spells a quantifier, if there is one
abbrev pub mark_spelling : Option Mark → List Sign
mark_spelling None = []
mark_spelling (Some mark) = sign.Mark mark ∷ []

-- the sign that spells an operand of a predicate
abbrev pub operand_sign : Operand → Sign
operand_sign (operand.Capture w) = sign.Capture w
operand_sign (operand.Text w) = sign.Text w
operand_sign (operand.Name w) = sign.Name w

-- the name `_`
abbrev pub wild : ℕ → Written
wild at = record { at = at; text = 95 ∷ [] }

-- a head, round the signs in its bracket
abbrev pub head_spelling : Head → List Sign → List Sign
head_spelling (Any at) inner = sign.Name (wild at) ∷ inner
head_spelling (Text text) inner = sign.Text text ∷ inner
head_spelling (Node kind) inner = sign.Open ∷ sign.Name kind ∷ (inner ++ sign.Close ∷ [])
head_spelling Group inner = sign.Open ∷ (inner ++ sign.Close ∷ [])
head_spelling Choice inner = sign.OpenChoice ∷ (inner ++ sign.CloseChoice ∷ [])

-- the signs that spell parts, one after another
abbrev mutual
  pub spelling : Parts → List Sign
  spelling empty = []
  spelling (more ps p) = spelling ps ++ part_spelling p

  -- the signs that spell one part
  pub part_spelling : Part → List Sign
  part_spelling (item field head parts mark captures) =
      field_spelling field ++ (head_spelling head (spelling parts)
      ++ (mark_spelling mark ++ map sign.Capture captures))
  part_spelling anchor = sign.Anchor ∷ []
  part_spelling (without name) = sign.Without name ∷ []
  part_spelling (predicate name operands) =
      sign.Open ∷ sign.Predicate name ∷ (map operand_sign operands ++ sign.Close ∷ [])

-- ---- what may stand where

-- the part is an item
abbrev pub is_item : Part → Bool
is_item (item field head parts mark captures) = true
is_item anchor = false
is_item (without name) = false
is_item (predicate name operands) = false

-- the part is an anchor
abbrev pub is_anchor : Part → Bool
is_anchor (item field head parts mark captures) = false
is_anchor anchor = true
is_anchor (without name) = false
is_anchor (predicate name operands) = false

-- the head is that of a group
abbrev pub is_group : Head → Bool
is_group (Any at) = false
is_group (Text text) = false
is_group (Node kind) = false
is_group Group = true
is_group Choice = false

-- there is no value
abbrev pub is_none : {A : Type 0} → Option A → Bool
is_none None = true
is_none (Some x) = false

-- the list is empty
abbrev pub is_nil : {A : Type 0} → List A → Bool
is_nil [] = true
is_nil (x ∷ xs) = false

-- there is an item
abbrev pub has_item : Parts → Bool
has_item empty = false
has_item (more ps p) = is_item p || has_item ps

-- the part is an anchor or a group
abbrev pub is_binding : Part → Bool
is_binding (item field head parts mark captures) = is_group head
is_binding anchor = true
is_binding (without name) = false
is_binding (predicate name operands) = false

-- neither an anchor nor a group stands there
abbrev pub is_loose : Parts → Bool
is_loose empty = true
is_loose (more ps p) = is_loose ps && not (is_binding p)

-- the last part is an anchor
abbrev pub ends_tied : Parts → Bool
ends_tied empty = false
ends_tied (more ps p) = is_anchor p

-- a group may begin with an anchor or an item; the lone `_` would be the kind of a node
abbrev pub begins_group : Part → Bool
begins_group (item None (Any at) parts None []) = false
begins_group (item None (Any at) parts None (c ∷ captures)) = true
begins_group (item None (Any at) parts (Some mark) captures) = true
begins_group (item None (Text text) parts mark captures) = true
begins_group (item None (Node kind) parts mark captures) = true
begins_group (item None Group parts mark captures) = true
begins_group (item None Choice parts mark captures) = true
begins_group (item (Some field) head parts mark captures) = true
begins_group anchor = true
begins_group (without name) = false
begins_group (predicate name operands) = false

-- the part is a field that no child has
abbrev pub is_without : Part → Bool
is_without (item field head parts mark captures) = false
is_without anchor = false
is_without (without name) = true
is_without (predicate name operands) = false

-- a branch of a choice is an item without quantifier, and no group
abbrev pub is_branch : Part → Bool
is_branch (item field head parts mark captures) = is_none mark && not (is_group head)
is_branch anchor = false
is_branch (without name) = false
is_branch (predicate name operands) = false

-- the part may follow these in a group
abbrev pub goes_on_group : Parts → Part → Bool
goes_on_group empty p = begins_group p
goes_on_group (more ps q) p = not (is_without p) && not (is_anchor p && is_anchor q)

-- the part may follow these in such a bracket
abbrev pub may_follow : Bracket → Parts → Part → Bool
may_follow Top ps p = is_item p
may_follow Opened ps p = false
may_follow (Inside (Any at)) ps p = false
may_follow (Inside (Text text)) ps p = false
may_follow (Inside (Node kind)) ps p = not (is_anchor p && ends_tied ps)
may_follow (Inside Group) ps p = goes_on_group ps p
may_follow (Inside Choice) ps p = is_branch p

-- A group has an item, and a choice has a branch.
abbrev pub is_filled : Head → Parts → Bool
is_filled (Any at) ps = true
is_filled (Text text) ps = true
is_filled (Node kind) ps = true
is_filled Group ps = has_item ps
is_filled Choice ps = has_item ps

-- A group has no field and no captures, and with a quantifier neither anchors nor groups of its
-- own.
abbrev pub is_fitting : Option Written → Head → Parts → Option Mark → List Written → Bool
is_fitting None head ps mark captures =
    if is_group head then is_nil captures && (is_none mark || is_loose ps) else true
is_fitting (Some name) head ps mark captures = not (is_group head)

-- each part may stand where it does, in such a bracket and at all levels below
abbrev mutual
  pub AreFormed : Bracket → Parts → Type 0
  AreFormed b empty = ⊤
  AreFormed b (more ps p) = IsFormed p × (may_follow b ps p ≡ true) × AreFormed b ps

  -- an item is filled and fitting, and each part in its bracket may stand there
  pub IsFormed : Part → Type 0
  IsFormed (item field head parts mark captures) =
      (is_filled head parts ≡ true) × (is_fitting field head parts mark captures ≡ true)
      × AreFormed (Inside head) parts
  IsFormed anchor = ⊤
  IsFormed (without name) = ⊤
  IsFormed (predicate name operands) = ⊤

-- ---- a tree as a value of the code

-- the values of parts, in a list
abbrev mutual
  pub values_of : Parts → List Value
  values_of empty = []
  values_of (more ps p) = values_of ps ++ value_of p ∷ []

  -- the value of one part
  pub value_of : Part → Value
  value_of (item field head parts mark captures) =
      value.Item field head (values_of parts) mark captures
  value_of anchor = value.Anchor
  value_of (without name) = value.Without name
  value_of (predicate name operands) = value.Predicate name operands
