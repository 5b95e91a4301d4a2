-- Documents and clients in the middle of a run. It serves private clauses and proofs alone.
use Rattle.std.specs.Prelude.{◌≡◌, ℕ, ◌+◌, ◌-◌, ◌<◌, ◌≤◌, ◌^◌, List, [], ◌∷◌, ◌++◌, length, map, slice_get, slice_set, unwrap_or, option_map, Some}
use Rattle.ts_base.specs.Bytes.{Bytes}
use Rattle.ts_shelf.specs.Entries.{most_turns, RisesWithin}
use Rattle.ts_table.specs.declared.view.ParseTable.{ParseTable}
use Rattle.ts_docs.specs.declared.parsed.ParsedText.{ParsedText}
use Rattle.ts_docs.specs.declared.parsed.Pages.{Pages}
use Rattle.ts_docs.specs.Steps.{newest}
use Rattle.ts_docs.specs.Versions.{IsTextOf}
use Rattle.ts_script.specs.declared.plan.Plan.{Plan}
use Rattle.ts_script.specs.declared.plan.ScriptStep.{ScriptStep}
use Rattle.ts_replies.specs.declared.reply.ShownResult.{ShownResult}
use Rattle.ts_replies.specs.declared.reply.Reply.{Reply}
use Rattle.spec_history.specs.Replies.{document_of, most_looks}
use Rattle.spec_history.specs.Histories.{History, version_text, held_before}
use Rattle.ts_replay.specs.declared.document.Document.{Document}
use Rattle.ts_replay.specs.declared.document.Client.{Client}
use Rattle.spec_history.specs.Books.{journal_of}
use Rattle.ts_replay.specs.Replays.{AsksAmong, MayReplay, HasVersions, history_of}
use Rattle.ts_replay.specs.Steps.{place, MayStep, NeedsRoom, Does}
use Rattle.ts_replay.specs.Runs.{SoFar, weight_left, edits_on, RunsInOrder}

-- the journal of each document
abbrev pub books_of : List Document → List Pages
books_of documents = map (λ (d : Document). d.book) documents

-- the replies to each client so far
abbrev pub replies_of : List Client → List (List Reply)
replies_of clients = map (λ (c : Client). c.replies.items) clients

-- the steps of each client
abbrev pub client_steps : List Client → List (List ScriptStep)
client_steps clients = map (λ (c : Client). c.steps.now) clients

-- how many turns of each document are over
abbrev pub over_in : List Document → ℕ → ℕ
over_in documents k = unwrap_or (option_map (λ (d : Document). d.turn) (slice_get documents k)) 0

-- what has happened so far, as a history of the plan
abbrev pub history_now : Plan → ParseTable → List Bytes → List Document → List Client → History
history_now plan table openings documents clients =
    history_of plan table.grammar openings (books_of documents) (replies_of clients)

-- what is known of a document that was opened with this text
pub record IsOpen (plan : Plan) (table : ParseTable) (opening : Bytes) (d : Document)
    : Type 0 where
  pub versions : HasVersions plan table opening d.book
  pub latest : IsTextOf table (length d.book.entries)
      (version_text plan opening (journal_of d.book) (length d.book.entries)) (newest d.book)
  pub rises : RisesWithin 0 d.turn d.book.entries

-- among the versions that are held the document's is that of this number
pub record HoldsVersion (plan : Plan) (table : ParseTable) (opening : Bytes) (d : Document)
    (number : ℕ) (held : List ParsedText) (k : ℕ) : Type 0 where
  pub version : ParsedText
  pub is : slice_get held k ≡ Some version
  pub text : IsTextOf table number (version_text plan opening (journal_of d.book) number) version

-- what is known between two steps
pub record IsRunning (Finds : Bytes → List ℕ → List ShownResult → Type 0) (plan : Plan)
    (table : ParseTable) (openings : List Bytes) (documents : List Document)
    (clients : List Client) : Type 0 where
  pub may : MayReplay plan
  pub so_far : SoFar Finds (history_now plan table openings documents clients) (over_in documents)
  pub steps_are : client_steps clients ≡ plan.clients
  pub all_open : length documents ≡ length plan.documents
  pub all_given : length openings ≡ length documents
  pub is_open : (k : ℕ) (d : Document) (opening : Bytes) → slice_get documents k ≡ Some d
      → slice_get openings k ≡ Some opening → IsOpen plan table opening d
  pub holds : (client k : ℕ) (c : Client) (d : Document) (opening : Bytes)
      → slice_get clients client ≡ Some c → slice_get documents k ≡ Some d
      → slice_get openings k ≡ Some opening
      → HoldsVersion plan table opening d
      (held_before (history_now plan table openings documents clients) client
      (length c.replies.items) k) c.held.items k
  -- no client has more replies than steps
  pub short : (client : ℕ) (c : Client) → slice_get clients client ≡ Some c
      → length c.replies.items ≤ length c.steps.now
  -- there are turns and room for the steps that are left
  pub spare : (k : ℕ) (d : Document) → slice_get documents k ≡ Some d
      → d.turn + weight_left (λ (s : ScriptStep). most_looks) plan.clients (replies_of clients)
      < most_turns
  pub room : (k : ℕ) (d : Document) → slice_get documents k ≡ Some d
      → weight_left (edits_on k) plan.clients (replies_of clients) ≤ d.book.room
  pub few : (k : ℕ) (d : Document) → slice_get documents k ≡ Some d
      → d.book.room + length d.book.entries + 1 < 2 ^ 32

-- steps that may be run, of some plan with so many queries
abbrev pub CanRun : (Bytes → List ℕ → List ShownResult → Type 0) → ℕ → ParseTable → List Document
    → List Client → Type 0
CanRun Finds count table documents clients = (plan : Plan) × (openings : List Bytes)
    × (count ≡ length plan.queries) × IsRunning Finds plan table openings documents clients

-- the steps so far ran in the order, of which these numbers are left
pub record IsRunAt (Finds : Bytes → List ℕ → List ShownResult → Type 0) (plan : Plan)
    (openings : List Bytes) (order rest : List ℕ) (table : ParseTable)
    (documents : List Document) (clients : List Client) : Type 0 where
  pub running : IsRunning Finds plan table openings documents clients
  pub in_order : RunsInOrder order rest plan.clients (replies_of clients) (over_in documents)

-- the client of this number has a step left
pub record HasNext (clients : List Client) (client : ℕ) : Type 0 where
  pub who : Client
  pub is : slice_get clients client ≡ Some who
  pub more : length who.replies.items < length who.steps.now

-- how many steps the client of this number has left
abbrev pub steps_left : List Client → ℕ → ℕ
steps_left clients client = unwrap_or (option_map (λ (c : Client). length c.steps.now
    - length c.replies.items) (slice_get clients client)) 0

-- the first so many clients have no step left
abbrev pub AreDone : List Client → ℕ → Type 0
AreDone clients n = (k : ℕ) (c : Client) → k < n → slice_get clients k ≡ Some c
    → length c.steps.now ≤ length c.replies.items

-- the other clients are as they were
abbrev pub SameOthers : ℕ → List Client → List Client → Type 0
SameOthers client clients after =
    (k : ℕ) → (k ≡ client → ⊥) → slice_get after k ≡ slice_get clients k

-- a document before all steps
pub record IsFresh (plan : Plan) (table : ParseTable) (opening : Bytes) (k : ℕ) (d : Document)
    : Type 0 where
  pub turn : d.turn ≡ 0
  pub none : d.book.entries ≡ []
  pub room : d.book.room ≡ weight_left (edits_on k) plan.clients []
  pub text : IsTextOf table 0 opening d.book.opening

-- documents that were opened with these texts
pub record AreOpened (plan : Plan) (table : ParseTable) (openings : List Bytes)
    (documents : List Document) : Type 0 where
  pub count : length documents ≡ length openings
  pub each : (k : ℕ) (d : Document) (opening : Bytes) → slice_get documents k ≡ Some d
      → slice_get openings k ≡ Some opening → IsFresh plan table opening k d

-- the first version of each document
abbrev pub first_versions : List Document → List ParsedText
first_versions documents = map (λ (d : Document). d.book.opening) documents

-- clients with these steps, before all steps
pub record AreClientsBegun (steps : List (List ScriptStep)) (documents : List Document)
    (clients : List Client) : Type 0 where
  pub steps_are : client_steps clients ≡ steps
  pub none : (k : ℕ) (c : Client) → slice_get clients k ≡ Some c → c.replies.items ≡ []
  pub held : (k : ℕ) (c : Client) → slice_get clients k ≡ Some c
      → c.held.items ≡ first_versions documents

-- the client's next step may be done
pub record MayTakeStep (count : ℕ) (table : ParseTable) (documents : List Document) (c : Client)
    : Type 0 where
  pub step : ScriptStep
  pub step_is : slice_get c.steps.now (length c.replies.items) ≡ Some step
  pub document : Document
  pub document_is : slice_get documents (document_of step) ≡ Some document
  pub version : ParsedText
  pub version_is : slice_get c.held.items (document_of step) ≡ Some version
  pub table_is : version.table ≡ table
  pub may_step : MayStep (place document.turn document.book version)
  pub needs_room : NeedsRoom step document.book.room
  pub asks : AsksAmong count step
  pub few : length c.steps.now < 2 ^ 32

-- the next step of the client of this number was done
pub record IsStepTaken (Finds : Bytes → List ℕ → List ShownResult → Type 0) (number : ℕ)
    (documents : List Document) (c : Client) (documents_after : List Document) (c_after : Client)
    : Type 0 where
  pub step : ScriptStep
  pub step_is : slice_get c.steps.now (length c.replies.items) ≡ Some step
  pub document : Document
  pub document_is : slice_get documents (document_of step) ≡ Some document
  pub version : ParsedText
  pub version_is : slice_get c.held.items (document_of step) ≡ Some version
  pub after : Document
  pub held : ParsedText
  pub reply : Reply
  pub does : Does Finds number (length c.replies.items)
      (place document.turn document.book version) step reply (place after.turn after.book held)
  pub documents_are : documents_after ≡ slice_set documents (document_of step) after
  pub held_are : c_after.held.items ≡ slice_set c.held.items (document_of step) held
  pub replies_are : c_after.replies.items ≡ c.replies.items ++ reply ∷ []
  pub steps_are : c_after.steps.now ≡ c.steps.now
