-- What is judged of a query, in the order in which it is written: the faults of its parts, and the
-- expressions that are built.
use Rattle.std.specs.Prelude.{ℕ, Bool, List, [], ◌∷◌, ◌++◌, map, position, is_some, Option, Some, None, if◌then◌else◌}
use Rattle.std.specs.List.{flat_map, list_any}
use Rattle.std.specs.Str.{bytes_eq}
use Rattle.ts_base.specs.Bytes.{Bytes}
use Rattle.ts_core.specs.declared.flat.FlatGrammar.{FlatGrammar}
use Rattle.ts_query_tree.specs.declared.tree.Written.{Written}
use Rattle.ts_query_tree.specs.declared.tree.Part.{Part}
use Rattle.ts_query_names.specs.declared.flaw.Flaw.{Flaw}
use Rattle.ts_query_names.specs.declared.flaw.Flaw.TheVariants.{UnknownNode, UnknownField, UnknownCapture, UnknownPredicate, NestedQuantifier}
use Rattle.ts_query_names.specs.Asking.{AskedForm, asking_of, asked_form, form_captures, form_pattern}
use Rattle.ts_query_names.specs.Kinds.{kind_eq, first_sights, grammar_kinds}
use Rattle.ts_query_names.specs.Mentions.{Mention, kind, field, capture, predicate, nested, mentioned_by, item_captures}

-- a fault, or an expression that is built unless a fault stands before it
pub data Check : Type 0 where
  wrong : Flaw → Check
  pattern : Written → Check

-- the fault, unless it is known that there is none
abbrev pub wrong_unless : Bool → Flaw → List Check
wrong_unless known flaw = if known then [] else wrong flaw ∷ []

-- no node of the grammar has the kind
abbrev pub kind_checks : FlatGrammar → Written → Bool → List Check
kind_checks g name named =
    wrong_unless (list_any (kind_eq (name.text, named)) (grammar_kinds g)) (UnknownNode name.at)

-- the grammar has no field of the name
abbrev pub field_checks : FlatGrammar → Written → List Check
field_checks g name =
    wrong_unless (is_some (position (bytes_eq name.text) g.fields)) (UnknownField name.at)

-- no item of the pattern has the capture of a predicate
abbrev pub capture_checks : List Bytes → Written → List Check
capture_checks own name =
    wrong_unless (list_any (bytes_eq name.text) own) (UnknownCapture name.at)

-- of a predicate at this place: its captures and its expression, or that it has no form
abbrev pub form_checks : List Bytes → ℕ → Option AskedForm → List Check
form_checks own at None = wrong (UnknownPredicate at) ∷ []
form_checks own at (Some form) =
    flat_map (capture_checks own) (form_captures form) ++ map pattern (form_pattern form)

-- of one thing that a pattern names, whose items have these captures
abbrev pub mention_checks : FlatGrammar → List Bytes → List Bytes → Mention → List Check
mention_checks g hosts own (kind name named) = kind_checks g name named
mention_checks g hosts own (field name) = field_checks g name
mention_checks g hosts own (capture name) = []
mention_checks g hosts own (predicate name operands) =
    form_checks own name.at (asked_form (asking_of hosts name.text) operands)
mention_checks g hosts own (nested at) = wrong (NestedQuantifier at) ∷ []

-- the captures that a pattern's items have
abbrev pub pattern_captures : Part → List Bytes
pattern_captures part = first_sights bytes_eq (item_captures (mentioned_by part))

-- of a pattern
abbrev pub pattern_checks : FlatGrammar → List Bytes → Part → List Check
pattern_checks g hosts part =
    flat_map (mention_checks g hosts (pattern_captures part)) (mentioned_by part)

-- of a query
abbrev pub checks : FlatGrammar → List Bytes → List Part → List Check
checks g hosts parts = flat_map (pattern_checks g hosts) parts

-- ---- what is answered

-- the first fault
abbrev pub first_wrong : List Check → Option Flaw
first_wrong [] = None
first_wrong (wrong flaw ∷ rest) = Some flaw
first_wrong (pattern written ∷ rest) = first_wrong rest

-- the expressions that are built: those with no fault before them
abbrev pub built : List Check → List Written
built [] = []
built (wrong flaw ∷ rest) = []
built (pattern written ∷ rest) = written ∷ built rest

-- their texts
abbrev pub sources_of : List Written → List Bytes
sources_of = map (λ (written : Written). written.text)
