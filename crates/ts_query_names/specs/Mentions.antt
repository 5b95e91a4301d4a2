-- What the parts of a query name, in the order in which it is written: kinds of nodes, fields,
-- captures and predicates, each with its place, and quantifiers that may not stand where they do.
use Rattle.std.specs.Prelude.{ℕ, Bool, true, false, ◌&&◌, is_some, List, [], ◌∷◌, ◌++◌, map, Option, Some, None, if◌then◌else◌}
use Rattle.std.specs.List.{flat_map}
use Rattle.ts_base.specs.Bytes.{Bytes}
use Rattle.ts_query_tree.specs.declared.tree.Written.{Written}
use Rattle.ts_query_tree.specs.declared.tree.Mark.{Mark}
use Rattle.ts_query_tree.specs.declared.tree.Head.{Head}
use Rattle.ts_query_tree.specs.declared.tree.Head.TheVariants.{Any, Text, Node, Group, Choice}
use Rattle.ts_query_tree.specs.declared.tree.Operand.{Operand}
use Rattle.ts_query_tree.specs.declared.tree.Operand.TheVariants as operand
use Rattle.ts_query_tree.specs.declared.tree.Part.{Part}
use Rattle.ts_query_tree.specs.declared.tree.Part.TheOpen.{Part-F}
use Rattle.ts_query_tree.specs.declared.tree.Part.TheFolds.{fold-Part}
use Rattle.ts_query_tree.specs.Trees.{is_group}
use Rattle.ts_query_tree.specs.Words.{is_wild}

-- A kind of nodes and whether it is named, a field, a capture of an item, a predicate with its
-- operands, or the place of a quantifier on an item that is one of the own parts of a quantified
-- group.
pub data Mention : Type 0 where
  kind : Written → Bool → Mention
  field : Written → Mention
  capture : Written → Mention
  predicate : Written → List Operand → Mention
  nested : ℕ → Mention

-- a head is a group whose rounds a quantifier counts
abbrev pub is_round : Head → Option Mark → Bool
is_round head mark = is_group head && is_some mark

-- a field, if there is one
abbrev pub field_mentions : Option Written → List Mention
field_mentions None = []
field_mentions (Some name) = field name ∷ []

-- the kind `_` is none: it stands for any named node
abbrev pub node_mentions : Written → List Mention
node_mentions name = if is_wild name.text then [] else kind name true ∷ []

-- the kind of a head, if it has one: a string is an anonymous kind
abbrev pub head_mentions : Head → List Mention
head_mentions (Any at) = []
head_mentions (Text text) = kind text false ∷ []
head_mentions (Node name) = node_mentions name
head_mentions Group = []
head_mentions Choice = []

-- a quantifier, of an item among the own parts of a quantified group or of another item
abbrev pub nested_if : Bool → ℕ → List Mention
nested_if in_round at = if in_round then nested at ∷ [] else []

-- the same, if there is a quantifier
abbrev pub mark_mentions : Bool → Option Mark → List Mention
mark_mentions in_round None = []
mark_mentions in_round (Some mark) = nested_if in_round mark.at

-- those of parts, one after another
abbrev pub mentions_all : List (Bool → List Mention) → Bool → List Mention
mentions_all [] in_round = []
mentions_all (part ∷ rest) in_round = part in_round ++ mentions_all rest in_round

-- what a part names, from what the parts in its bracket name
abbrev pub mention_step : Part-F (Bool → List Mention) → Bool → List Mention
mention_step (Part-F.Item item_field head parts mark captures) in_round =
    field_mentions item_field ++ (head_mentions head
    ++ (mentions_all parts (is_round head mark) ++ (mark_mentions in_round mark
    ++ map capture captures)))
mention_step Part-F.Anchor in_round = []
mention_step (Part-F.Without name) in_round = field name ∷ []
mention_step (Part-F.Predicate name operands) in_round = predicate name operands ∷ []

-- what a part names, as it is written; whether it is one of the own parts of a quantified group is
-- told
abbrev pub mentions : Part → Bool → List Mention
mentions = fold-Part (Bool → List Mention) mention_step

-- the same of several parts
abbrev pub mentions_in : List Part → Bool → List Mention
mentions_in parts in_round = flat_map (λ (part : Part). mentions part in_round) parts

-- what a pattern names
abbrev pub mentioned_by : Part → List Mention
mentioned_by pattern = mentions pattern false

-- what a query names
abbrev pub named_in : List Part → List Mention
named_in patterns = mentions_in patterns false

-- ---- captures and kinds that are named

-- the captures of items
abbrev pub item_capture : Mention → List Bytes
item_capture (kind name named) = []
item_capture (field name) = []
item_capture (capture name) = name.text ∷ []
item_capture (predicate name operands) = []
item_capture (nested at) = []

-- the names of the captures of items, in the order of the mentions
abbrev pub item_captures : List Mention → List Bytes
item_captures = flat_map item_capture

-- the name of a capture, if the operand is one
abbrev pub operand_capture : Operand → List Bytes
operand_capture (operand.Capture name) = name.text ∷ []
operand_capture (operand.Text text) = []
operand_capture (operand.Name name) = []

-- all captures: of items, and in predicates
abbrev pub any_capture : Mention → List Bytes
any_capture (kind name named) = []
any_capture (field name) = []
any_capture (capture name) = name.text ∷ []
any_capture (predicate name operands) = flat_map operand_capture operands
any_capture (nested at) = []

-- the names of all captures, in the order of the mentions
abbrev pub any_captures : List Mention → List Bytes
any_captures = flat_map any_capture

-- a kind: its name, and whether it is named
abbrev pub KindName : Type 0
KindName = Bytes × Bool

-- the kind, if a mention is of one
abbrev pub kind_named : Mention → List KindName
kind_named (kind name named) = (name.text, named) ∷ []
kind_named (field name) = []
kind_named (capture name) = []
kind_named (predicate name operands) = []
kind_named (nested at) = []

-- the kinds among mentions, in their order
abbrev pub kinds_named : List Mention → List KindName
kinds_named = flat_map kind_named
