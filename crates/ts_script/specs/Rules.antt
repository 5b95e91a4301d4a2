-- What the lines of a script ask for together, and what a line may say behind those above it.
use Rattle.std.specs.Prelude.{ℕ, suc, ◌≡◌, ◌<◌, ◌≤◌, max, List, [], ◌∷◌, ◌++◌, length, map, flat_map, slice_get, Some, All, Bool, if◌then◌else◌, nat_eq}
use Rattle.ts_base.specs.Bytes.{Bytes}
use Rattle.ts_text.specs.Text.{most_bytes}
use Rattle.ts_text.specs.declared.edit.Edit.{Edit}
use Rattle.ts_text.specs.declared.edit.Part.{Part}
use Rattle.ts_script.specs.declared.plan.Plan.{Plan}
use Rattle.ts_script.specs.declared.plan.ScriptStep.{ScriptStep}
use Rattle.ts_script.specs.declared.plan.ScriptStep.TheVariants as step
use Rattle.ts_script.specs.declared.plan.Source.{Source}
use Rattle.ts_script.specs.declared.plan.Source.TheVariants as source
use Rattle.ts_script.specs.declared.said.Action.{Action}
use Rattle.ts_script.specs.declared.said.Action.TheVariants as action
use Rattle.ts_script.specs.declared.said.Piece.{Piece}
use Rattle.ts_script.specs.declared.said.Said.{Said}
use Rattle.ts_script.specs.declared.said.Said.TheVariants.{Text, Path, Load, Step}

-- ---- limits

-- the most bytes of a script
abbrev pub most_script_bytes : ℕ
most_script_bytes = 16777216

-- the most clients of a script
abbrev pub most_clients : ℕ
most_clients = 16

-- the most documents that a script opens
abbrev pub most_documents : ℕ
most_documents = 16

-- the most queries that a script loads
abbrev pub most_queries : ℕ
most_queries = 64

-- the most bytes of the text of a query
abbrev pub most_query_bytes : ℕ
most_query_bytes = 65536

-- the most queries that one step asks
abbrev pub most_asked : ℕ
most_asked = 64

-- the most ranges of one edit
abbrev pub most_parts : ℕ
most_parts = 1000

-- the most steps of all clients together
abbrev pub most_script_steps : ℕ
most_script_steps = 100000

-- ---- what lines ask for

-- the document that a line opens, if it does
abbrev pub source_in : Said → List Source
source_in (Text text) = source.Inline text ∷ []
source_in (Path path) = source.Path path ∷ []
source_in (Load text) = []
source_in (Step client document act) = []

-- the query that a line loads, if it does
abbrev pub query_in : Said → List Bytes
query_in (Text text) = []
query_in (Path path) = []
query_in (Load text) = text ∷ []
query_in (Step client document act) = []

-- a range with what comes in its place, as part of an edit
abbrev pub part_of : Piece → Part
part_of p = record { start = p.start; end = p.end; new = p.new }

-- the edit of these parts
abbrev pub edit_of : List Piece → Edit
edit_of pieces = record { parts = map part_of pieces }

-- a step with its document
abbrev pub step_of : ℕ → Action → ScriptStep
step_of document (action.Change p) = step.Edit document (edit_of (p ∷ []))
step_of document (action.Changes ps) = step.Edit document (edit_of ps)
step_of document action.Look = step.Look document
step_of document (action.Query qs) = step.Query document qs
step_of document action.Tree = step.Tree document
step_of document (action.Await version) = step.Await document version

-- the steps in a line
abbrev pub step_in : Said → List ScriptStep
step_in (Text text) = []
step_in (Path path) = []
step_in (Load text) = []
step_in (Step client document act) = step_of document act ∷ []

-- those of one client
abbrev pub step_of_client : ℕ → Said → List ScriptStep
step_of_client c (Text text) = []
step_of_client c (Path path) = []
step_of_client c (Load text) = []
step_of_client c (Step client document act) =
    if nat_eq c client then step_of document act ∷ [] else []

-- one more than the client's number, where the line is a step
abbrev pub clients_in : Said → ℕ
clients_in (Text text) = 0
clients_in (Path path) = 0
clients_in (Load text) = 0
clients_in (Step client document act) = suc client

-- the documents that the lines open, in order
abbrev pub sources : List Said → List Source
sources said = flat_map source_in said

-- the queries that the lines load, in order
abbrev pub queries : List Said → List Bytes
queries said = flat_map query_in said

-- the steps in the lines, in order
abbrev pub steps : List Said → List ScriptStep
steps said = flat_map step_in said

-- those of one client
abbrev pub steps_of : ℕ → List Said → List ScriptStep
steps_of client said = flat_map (step_of_client client) said

-- one more than the greatest number of a client, or 0
abbrev pub client_count : List Said → ℕ
client_count [] = 0
client_count (s ∷ ss) = max (clients_in s) (client_count ss)

-- what the lines ask for
pub record Asks (said : List Said) (plan : Plan) : Type 0 where
  pub documents : plan.documents ≡ sources said
  pub loaded : plan.queries ≡ queries said
  pub clients : length plan.clients ≡ client_count said
  pub of_each : (c : ℕ) → c < client_count said → slice_get plan.clients c ≡ Some (steps_of c said)

-- ---- order

-- the step asks queries of the first so many
abbrev pub AsksBelow : ℕ → Action → Type 0
AsksBelow loaded (action.Change p) = Unit {0}
AsksBelow loaded (action.Changes ps) = Unit {0}
AsksBelow loaded action.Look = Unit {0}
AsksBelow loaded (action.Query qs) = All (λ (q : ℕ). q < loaded) qs
AsksBelow loaded action.Tree = Unit {0}
AsksBelow loaded (action.Await version) = Unit {0}

-- Documents and queries stand above all steps, and a step names those that are there.
abbrev pub StandsRight : List Said → Said → Type 0
StandsRight before (Text text) = steps before ≡ []
StandsRight before (Path path) = steps before ≡ []
StandsRight before (Load text) = steps before ≡ []
StandsRight before (Step client document act) =
    (document < length (sources before)) × AsksBelow (length (queries before)) act

-- ---- limits of lines

-- what comes in the place of the range is no longer than a text may be
abbrev pub IsSmallPiece : Piece → Type 0
IsSmallPiece p = length p.new ≤ most_bytes

-- the step passes no limit of bytes, ranges or queries
abbrev pub IsSmallAction : Action → Type 0
IsSmallAction (action.Change p) = IsSmallPiece p
IsSmallAction (action.Changes ps) = (length ps ≤ most_parts) × All IsSmallPiece ps
IsSmallAction action.Look = Unit {0}
IsSmallAction (action.Query qs) = length qs ≤ most_asked
IsSmallAction action.Tree = Unit {0}
IsSmallAction (action.Await version) = Unit {0}

-- the line passes no limit
abbrev pub WithinLimits : List Said → Said → Type 0
WithinLimits before (Text text) =
    (length (sources before) < most_documents) × (length text ≤ most_bytes)
WithinLimits before (Path path) = length (sources before) < most_documents
WithinLimits before (Load text) =
    (length (queries before) < most_queries) × (length text ≤ most_query_bytes)
WithinLimits before (Step client document act) =
    (client < most_clients) × (length (steps before) < most_script_steps) × IsSmallAction act
