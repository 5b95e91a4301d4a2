-- Clients before and after their steps.
use Rattle.std.specs.Prelude.{◌≡◌, ℕ, ◌<◌, List, length, map, slice_get, Some}
use Rattle.atomic_table.specs.Seated.{TableId}
use Rattle.ts_base.specs.Bytes.{Bytes}
use Rattle.ts_core.specs.declared.flat.FlatGrammar.{FlatGrammar}
use Rattle.ts_table.specs.declared.view.ParseTable.{ParseTable}
use Rattle.ts_lexer.specs.Lexers.{IsLexerOf}
use Rattle.ts_shelf.specs.declared.view.Knowledge.{Knowledge}
use Rattle.ts_shelf.specs.Passes.{IsPass, IsOther}
use Rattle.ts_docs.specs.declared.parsed.ParsedText.{ParsedText}
use Rattle.ts_docs.specs.declared.parsed.Drafted.{Drafted}
use Rattle.ts_docs.specs.Versions.{IsOfTable}
use Rattle.ts_script.specs.declared.plan.Plan.{Plan}
use Rattle.ts_script.specs.declared.plan.ScriptStep.{ScriptStep}
use Rattle.ts_replies.specs.declared.reply.ShownResult.{ShownResult}
use Rattle.ts_replies.specs.declared.reply.Reply.{Reply}
use Rattle.spec_clients.specs.Joined.{EndsOrStops}
use Rattle.spec_clients.specs.Served.{IsServed}
use Rattle.ts_client.specs.declared.desk.Desk.{Desk}
use Rattle.ts_client.specs.Working.{IsNewClient, HasWorked, passes_of}
use Rattle.ts_workers.specs.declared.worker.Worker.{Worker}

-- ---- before the first step

-- a client with these steps may begin
pub record MayBegin (table : ParseTable) (shelves : List TableId) (steps : List ScriptStep)
    (w : Worker) : Type 0 where
  pub lexer : IsLexerOf w.lexer table
  pub begins : IsNewClient table shelves steps w.client

-- a desk of a document that was opened with the version, with a pass that came from a split
pub record IsLentDesk (version : ParsedText) (d : Desk) : Type 0 where
  pub other : IsOther d.pass.knows
  pub opens : d.pass.knows.opening ≡ Some version

-- desks of the documents that were opened with these versions, each with a pass from a split
abbrev pub AreLentDesks : List ParsedText → List Desk → Type 0
AreLentDesks versions desks = (document : ℕ) (version : ParsedText) (d : Desk)
    → slice_get versions document ≡ Some version → slice_get desks document ≡ Some d
    → IsLentDesk version d

-- a client with these steps before all of them, with desks of documents that were opened with these
-- versions
pub record IsHired (table : ParseTable) (shelves : List TableId) (versions : List ParsedText)
    (steps : List ScriptStep) (w : Worker) : Type 0 where
  pub may : MayBegin table shelves steps w
  pub lent : AreLentDesks versions w.client.desks.items

-- the clients with these lists of steps, before all steps
pub record AreHired (table : ParseTable) (shelves : List TableId) (versions : List ParsedText)
    (clients : List (List ScriptStep)) (workers : List Worker) : Type 0 where
  pub count : length workers ≡ length clients
  pub each : (client : ℕ) (steps : List ScriptStep) (w : Worker)
      → slice_get clients client ≡ Some steps → slice_get workers client ≡ Some w
      → IsHired table shelves versions steps w

-- the client of this number, which may begin
pub record IsNext (table : ParseTable) (shelves : List TableId) (clients : List (List ScriptStep))
    (client : ℕ) (w : Worker) : Type 0 where
  pub there : client < length clients
  pub may : (steps : List ScriptStep) → slice_get clients client ≡ Some steps
      → MayBegin table shelves steps w

-- ---- after the last one

-- what the passes of all clients know
abbrev pub all_passes : List Worker → List (List (Knowledge ParsedText Drafted))
all_passes workers = map (λ (w : Worker). passes_of w.client.desks.items) workers

-- the replies to the steps of all clients
abbrev pub all_replies : List Worker → List (List Reply)
all_replies workers = map (λ (w : Worker). w.client.replies.items) workers

module _ (Finds : Bytes → List ℕ → List ShownResult → Type 0) where
  -- the client of this number has done its steps
  abbrev pub HasDone : Plan → FlatGrammar → ℕ → Worker → Worker → Type 0
  HasDone plan g client old new = (steps : List ScriptStep)
      → slice_get plan.clients client ≡ Some steps
      → HasWorked Finds plan g client steps old.client.desks.items new.client

  -- each client has done its steps
  abbrev pub HaveWorked : Plan → FlatGrammar → List Worker → List Worker → Type 0
  HaveWorked plan g old new = (client : ℕ) (steps : List ScriptStep) (o n : Worker)
      → slice_get plan.clients client ≡ Some steps → slice_get old client ≡ Some o
      → slice_get new client ≡ Some n
      → HasWorked Finds plan g client steps o.client.desks.items n.client

  -- a client's desk of a document that was opened with the version, after all its steps
  pub record IsLeftDesk (plan : Plan) (g : FlatGrammar) (client document : ℕ)
      (steps : List ScriptStep) (replies : List Reply) (shelf : TableId) (version : ParsedText)
      (d : Desk) : Type 0 where
    pub shelf_is : d.pass.shelf ≡ shelf
    pub other : IsOther d.pass.knows
    pub is_pass : IsPass IsOfTable d.pass.knows
    pub served : IsServed Finds plan g version client document steps replies d.pass.knows

  -- the client of this number after all its steps
  pub record IsDone (plan : Plan) (g : FlatGrammar) (shelves : List TableId)
      (versions : List ParsedText) (client : ℕ) (steps : List ScriptStep) (w : Worker)
      : Type 0 where
    pub count : length w.client.desks.items ≡ length shelves
    pub each : (document : ℕ) (shelf : TableId) (version : ParsedText) (d : Desk)
        → slice_get shelves document ≡ Some shelf → slice_get versions document ≡ Some version
        → slice_get w.client.desks.items document ≡ Some d
        → IsLeftDesk plan g client document steps w.client.replies.items shelf version d
    pub ends : EndsOrStops (length plan.documents) steps w.client.replies.items
        (passes_of w.client.desks.items)

  -- all clients after all their steps
  pub record AreAllDone (plan : Plan) (g : FlatGrammar) (shelves : List TableId)
      (versions : List ParsedText) (workers : List Worker) : Type 0 where
    pub count : length workers ≡ length plan.clients
    pub each : (client : ℕ) (steps : List ScriptStep) (w : Worker)
        → slice_get plan.clients client ≡ Some steps → slice_get workers client ≡ Some w
        → IsDone plan g shelves versions client steps w
