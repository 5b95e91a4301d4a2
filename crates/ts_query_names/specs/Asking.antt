-- What a predicate asks, by its name and its operands as they are written.
use Rattle.std.specs.Prelude.{ℕ, Bool, true, false, not, ◌&&◌, List, [], ◌∷◌, Option, Some, None, position, codes, if◌then◌else◌}
use Rattle.std.specs.List.{flat_map, list_all}
use Rattle.std.specs.Str.{bytes_eq}
use Rattle.ts_base.specs.Bytes.{Bytes}
use Rattle.ts_query_tree.specs.declared.tree.Written.{Written}
use Rattle.ts_query_tree.specs.declared.tree.Operand.{Operand}
use Rattle.ts_query_tree.specs.declared.tree.Operand.TheVariants.{Capture, Text, Name}
use Rattle.ts_query_tree.specs.Trees.{is_nil}
use Rattle.ts_query_names.specs.declared.asking.Relation.{Relation}
use Rattle.ts_query_names.specs.declared.asking.Relation.TheVariants.{Equal, Found, OneOf, Host}
use Rattle.ts_query_names.specs.declared.asking.Asking.{Asking}

-- ---- names

-- a relation, whether it is negated, and whether one text or pair is enough
abbrev pub asking : Relation → Bool → Bool → Asking
asking relation negated some =
    record { relation = relation; negated = negated; some = some }

-- the predicates that every query knows
abbrev pub known_asking : Bytes → Option Asking
known_asking name =
    if bytes_eq name (codes "eq?") then Some (asking Equal false false)
    else if bytes_eq name (codes "not-eq?") then Some (asking Equal true false)
    else if bytes_eq name (codes "any-eq?") then Some (asking Equal false true)
    else if bytes_eq name (codes "any-not-eq?") then Some (asking Equal true true)
    else if bytes_eq name (codes "match?") then Some (asking Found false false)
    else if bytes_eq name (codes "not-match?") then Some (asking Found true false)
    else if bytes_eq name (codes "any-match?") then Some (asking Found false true)
    else if bytes_eq name (codes "any-not-match?") then Some (asking Found true true)
    else if bytes_eq name (codes "any-of?") then Some (asking OneOf false false)
    else if bytes_eq name (codes "not-any-of?") then Some (asking OneOf true false)
    else None

-- the place of a host's predicate; of equal names it is the first
abbrev pub host_place : List Bytes → Bytes → Option ℕ
host_place hosts name = position (bytes_eq name) hosts

-- what a host's predicate asks, by its place, if there is one
abbrev pub host_asking : Option ℕ → Option Asking
host_asking None = None
host_asking (Some place) = Some (asking (Host place) false false)

-- the first of two, if there is one, or else the second
abbrev pub known_or : Option Asking → Option Asking → Option Asking
known_or None other = other
known_or (Some known) other = Some known

-- by its name: one that every query knows, or else a host's
abbrev pub asking_of : List Bytes → Bytes → Option Asking
asking_of hosts name = known_or (known_asking name) (host_asking (host_place hosts name))

-- ---- operands

-- The capture whose texts are asked for, and what they are compared with: a text, another
-- capture's texts, some texts, an expression, or what a host knows.
pub data AskedForm : Type 0 where
  text : Written → Written → AskedForm
  pair : Written → Written → AskedForm
  one_of : Written → List Written → AskedForm
  found : Written → Written → AskedForm
  host : Written → ℕ → AskedForm

-- the form with an operand that the texts are to be equal to: a text or another capture
abbrev pub equal_to : Written → Operand → Option AskedForm
equal_to first (Capture name) = Some (pair first name)
equal_to first (Text written) = Some (text first written)
equal_to first (Name name) = None

-- the form with an operand that is to be found in the texts: an expression
abbrev pub found_by : Written → Operand → Option AskedForm
found_by first (Capture name) = None
found_by first (Text written) = Some (found first written)
found_by first (Name name) = None

-- what one operand alone gives
abbrev pub alone : (Operand → Option AskedForm) → List Operand → Option AskedForm
alone f [] = None
alone f (o ∷ []) = f o
alone f (o ∷ p ∷ os) = None

-- the operand is a text
abbrev pub is_text : Operand → Bool
is_text (Capture name) = false
is_text (Text written) = true
is_text (Name name) = false

-- texts alone, and at least one
abbrev pub are_texts : List Operand → Bool
are_texts os = not (is_nil os) && list_all is_text os

-- the text, if the operand is one
abbrev pub text_in : Operand → List Written
text_in (Capture name) = []
text_in (Text written) = written ∷ []
text_in (Name name) = []

-- the texts among operands, in their order
abbrev pub texts_in : List Operand → List Written
texts_in = flat_map text_in

-- the form with operands of which each text is to be one: texts alone, and at least one
abbrev pub one_of_texts : Written → List Operand → Option AskedForm
one_of_texts first os = if are_texts os then Some (one_of first (texts_in os)) else None

-- the form of a host's predicate, by its place: it has no operands behind the capture
abbrev pub with_host : Written → ℕ → List Operand → Option AskedForm
with_host first place os = if is_nil os then Some (host first place) else None

-- the form of the operands behind the capture that comes first
abbrev pub form_behind : Relation → Written → List Operand → Option AskedForm
form_behind Equal first os = alone (equal_to first) os
form_behind Found first os = alone (found_by first) os
form_behind OneOf first os = one_of_texts first os
form_behind (Host place) first os = with_host first place os

-- the form of a first operand and those behind it: the first one is a capture
abbrev pub form_from : Relation → Operand → List Operand → Option AskedForm
form_from relation (Capture name) os = form_behind relation name os
form_from relation (Text written) os = None
form_from relation (Name name) os = None

-- the form of a predicate's operands, where they are as it asks
abbrev pub form_of_operands : Relation → List Operand → Option AskedForm
form_of_operands relation [] = None
form_of_operands relation (o ∷ os) = form_from relation o os

-- the captures of a form, as they are written
abbrev pub form_captures : AskedForm → List Written
form_captures (text first written) = first ∷ []
form_captures (pair first other) = first ∷ other ∷ []
form_captures (one_of first all) = first ∷ []
form_captures (found first written) = first ∷ []
form_captures (host first place) = first ∷ []

-- its expression
abbrev pub form_pattern : AskedForm → List Written
form_pattern (text first written) = []
form_pattern (pair first other) = []
form_pattern (one_of first all) = []
form_pattern (found first written) = written ∷ []
form_pattern (host first place) = []

-- how a predicate is meant, where its name is known and its operands are as it asks
abbrev pub asked_form : Option Asking → List Operand → Option AskedForm
asked_form None operands = None
asked_form (Some asking) operands = form_of_operands asking.relation operands
