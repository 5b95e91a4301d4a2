-- Which scripts may be replayed, and what a replay leaves.
use Rattle.std.specs.Prelude.{◌≡◌, ℕ, suc, ◌<◌, ◌≤◌, List, length, map, slice_get, Some, All}
use Rattle.ts_base.specs.Bytes.{Bytes}
use Rattle.ts_core.specs.declared.flat.FlatGrammar.{FlatGrammar}
use Rattle.ts_table.specs.declared.view.ParseTable.{ParseTable}
use Rattle.ts_shelf.specs.declared.journal.Entry.{Entry}
use Rattle.ts_docs.specs.declared.parsed.Drafted.{Drafted}
use Rattle.ts_docs.specs.declared.parsed.Pages.{Pages}
use Rattle.ts_docs.specs.Versions.{IsTextOf}
use Rattle.ts_script.specs.Rules.{most_clients, most_documents, most_script_steps}
use Rattle.ts_script.specs.declared.plan.Plan.{Plan}
use Rattle.ts_script.specs.declared.plan.ScriptStep.{ScriptStep}
use Rattle.ts_script.specs.declared.plan.ScriptStep.TheVariants as step
use Rattle.ts_replies.specs.declared.reply.Reply.{Reply}
use Rattle.spec_history.specs.Replies.{document_of}
use Rattle.spec_history.specs.Histories.{History, asked_at, version_text}
use Rattle.spec_history.specs.Books.{journal_of}

-- ---- scripts

-- the step asks no queries
abbrev pub AsksNone : ScriptStep → Type 0
AsksNone (step.Edit document edit) = Unit {0}
AsksNone (step.Look document) = Unit {0}
AsksNone (step.Query document queries) = ⊥
AsksNone (step.Tree document) = Unit {0}
AsksNone (step.Await document version) = Unit {0}

-- no step of the plan asks queries
abbrev pub AsksNoQueries : Plan → Type 0
AsksNoQueries plan = All (λ (steps : List ScriptStep). All AsksNone steps) plan.clients

-- the queries that the step asks are among so many
abbrev pub AsksAmong : ℕ → ScriptStep → Type 0
AsksAmong count (step.Edit document edit) = Unit {0}
AsksAmong count (step.Look document) = Unit {0}
AsksAmong count (step.Query document queries) = All (λ (number : ℕ). number < count) queries
AsksAmong count (step.Tree document) = Unit {0}
AsksAmong count (step.Await document version) = Unit {0}

-- a script has few documents, clients and steps, which are on its documents and ask its queries
pub record MayReplay (plan : Plan) : Type 0 where
  pub documents : length plan.documents ≤ most_documents
  pub clients : length plan.clients ≤ most_clients
  pub few : (client : ℕ) (steps : List ScriptStep) → slice_get plan.clients client ≡ Some steps
      → length steps ≤ most_script_steps
  pub on : (client number : ℕ) (s : ScriptStep) → asked_at plan client number ≡ Some s
      → document_of s < length plan.documents
  pub asks : (client number : ℕ) (s : ScriptStep) → asked_at plan client number ≡ Some s
      → AsksAmong (length plan.queries) s

-- ---- histories

-- the history that these journals and replies are
abbrev pub history_of : Plan → FlatGrammar → List Bytes → List Pages → List (List Reply) → History
history_of plan grammar openings books replies = record {
  plan = plan;
  grammar = grammar;
  openings = openings;
  journals = map journal_of books;
  replies = replies;
}

-- ---- versions

-- the book of a document that was opened with the text has its versions, all of the table
pub record HasVersions (plan : Plan) (table : ParseTable) (opening : Bytes) (b : Pages)
    : Type 0 where
  pub first : IsTextOf table 0 opening b.opening
  pub others : (number : ℕ) (e : Entry Drafted) → slice_get b.entries number ≡ Some e
      → IsTextOf table (suc number) (version_text plan opening (journal_of b) (suc number))
      e.item.version

-- each document's book has the document's versions
abbrev pub AreBooks : Plan → ParseTable → List Bytes → List Pages → Type 0
AreBooks plan table openings books = (document : ℕ) (opening : Bytes) (b : Pages)
    → slice_get openings document ≡ Some opening → slice_get books document ≡ Some b
    → HasVersions plan table opening b
