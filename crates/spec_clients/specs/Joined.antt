-- What is left of a run once all clients are done: their passes were taken in by the first pass of
-- each shelf, and the shelves were closed.
use Rattle.std.specs.Prelude.{◌≡◌, ℕ, ◌<◌, ◌≤◌, ◌⊎◌, List, length, map, flat_map, slice_get, Some}
use Rattle.ts_base.specs.Bytes.{Bytes}
use Rattle.ts_table.specs.declared.view.ParseTable.{ParseTable}
use Rattle.ts_shelf.specs.declared.view.Knowledge.{Knowledge}
use Rattle.ts_shelf.specs.Entries.{most_turns, Extends}
use Rattle.ts_shelf.specs.Passes.{IsPass}
use Rattle.ts_shelf.specs.Calls.{Closes}
use Rattle.ts_docs.specs.declared.parsed.ParsedText.{ParsedText}
use Rattle.ts_docs.specs.declared.parsed.Drafted.{Drafted}
use Rattle.ts_docs.specs.declared.parsed.Pages.{Pages}
use Rattle.ts_docs.specs.Versions.{IsTextOf, IsOfTable}
use Rattle.ts_script.specs.declared.plan.ScriptStep.{ScriptStep}
use Rattle.ts_replies.specs.declared.reply.ShownResult.{ShownResult}
use Rattle.ts_replies.specs.declared.reply.Reply.{Reply}
use Rattle.spec_history.specs.Histories.{History, version_text}
use Rattle.spec_history.specs.Books.{journal_of}
use Rattle.spec_clients.specs.Bounds.{IsBounded}
use Rattle.spec_clients.specs.Seen.{version_seen}
use Rattle.spec_clients.specs.Served.{IsServed}

module _ {S I : Type 0} where
  -- the pass has taken in these others, and took no turn itself
  pub record HasGathered (others : List (Knowledge S I)) (k : Knowledge S I) : Type 0 where
    pub taken : k.taken ≡ flat_map (λ (o : Knowledge S I). o.taken) others
    pub extends : (place : ℕ) (o : Knowledge S I) → slice_get others place ≡ Some o
        → Extends o.turn k.turn k.seen o.seen
    pub reached : (place : ℕ) (o : Knowledge S I) → slice_get others place ≡ Some o
        → o.reached ≤ k.reached

  -- the passes of one document, a client each, where each client has a list of its passes
  pub record AreOf (document : ℕ) (all : List (List (Knowledge S I)))
      (passes : List (Knowledge S I)) : Type 0 where
    pub count : length passes ≡ length all
    pub each : (client : ℕ) (own : List (Knowledge S I)) → slice_get all client ≡ Some own
        → slice_get own document ≡ slice_get passes client

-- a client has a reply to each step, or it stopped where all turns of a document were over
abbrev pub EndsOrStops : ℕ → List ScriptStep → List Reply → List (Knowledge ParsedText Drafted)
    → Type 0
EndsOrStops documents steps replies passes = (length replies ≡ length steps)
    ⊎ ((document : ℕ) × (k : Knowledge ParsedText Drafted) × (document < documents)
    × (slice_get passes document ≡ Some k) × (most_turns ≤ k.reached))

module _ (Finds : Bytes → List ℕ → List ShownResult → Type 0) where
  -- what is left of a document: the journal, of a shelf whose first pass took in those of all
  -- clients
  pub record IsLeft (h : History) (document : ℕ)
      (all : List (List (Knowledge ParsedText Drafted))) (b : Pages) : Type 0 where
    pub passes : List (Knowledge ParsedText Drafted)
    pub passes_are : AreOf document all passes
    pub in_hand : (client : ℕ) (k : Knowledge ParsedText Drafted)
        → slice_get passes client ≡ Some k → IsPass IsOfTable k
    pub served : (client : ℕ) (steps : List ScriptStep) (replies : List Reply)
        (k : Knowledge ParsedText Drafted) → slice_get h.plan.clients client ≡ Some steps
        → slice_get h.replies client ≡ Some replies → slice_get passes client ≡ Some k
        → IsServed Finds h.plan h.grammar b.opening client document steps replies k
    pub first : Knowledge ParsedText Drafted
    pub gathered : HasGathered passes first
    pub is_pass : IsPass IsOfTable first
    pub closes : Closes (λ (p : Pages). p.entries) (λ (p : Pages). p.room)
        (λ (p : Pages). p.opening) first b

  -- what is left of a run: the journals and replies of this history, the books, and the passes of
  -- each client
  pub record AreJoined (h : History) (table : ParseTable) (books : List Pages)
      (all : List (List (Knowledge ParsedText Drafted))) : Type 0 where
    pub bounded : IsBounded h.plan
    pub documents : length books ≡ length h.plan.documents
    pub openings : length h.openings ≡ length h.plan.documents
    pub journals_are : h.journals ≡ map journal_of books
    pub clients : length h.replies ≡ length h.plan.clients
    pub passes : length all ≡ length h.plan.clients
    pub opened : (document : ℕ) (opening : Bytes) (b : Pages)
        → slice_get h.openings document ≡ Some opening → slice_get books document ≡ Some b
        → IsTextOf table 0 opening b.opening
    pub left : (document : ℕ) (b : Pages) → slice_get books document ≡ Some b
        → IsLeft h document all b
    pub ends : (client : ℕ) (steps : List ScriptStep) (replies : List Reply)
        (own : List (Knowledge ParsedText Drafted)) → slice_get h.plan.clients client ≡ Some steps
        → slice_get h.replies client ≡ Some replies → slice_get all client ≡ Some own
        → EndsOrStops (length h.plan.documents) steps replies own

-- each entry of the books has the version of its number, with the text that the edits up to it make
abbrev pub AreVersionsOf : History → ParseTable → List Pages → Type 0
AreVersionsOf h table books = (document : ℕ) (opening : Bytes) (b : Pages)
    → slice_get h.openings document ≡ Some opening → slice_get books document ≡ Some b
    → (number : ℕ) → number ≤ length b.entries
    → IsTextOf table number (version_text h.plan opening (journal_of b) number)
    (version_seen b.opening b.entries number)
