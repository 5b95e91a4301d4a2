-- What a run leaves: journals and replies, and what they tell of each version and each client.
use Rattle.std.specs.Prelude.{◌≡◌, ℕ, ◌+◌, ◌==◌, nat_lt, if◌then◌else◌, List, [], ◌∷◌, take, count_by, slice_get, Option, Some, None, unwrap_or, option_map}
use Rattle.std.specs.Option.{option_and_then}
use Rattle.ts_base.specs.Bytes.{Bytes}
use Rattle.ts_core.specs.declared.flat.FlatGrammar.{FlatGrammar}
use Rattle.ts_text.specs.Edit.{apply_of}
use Rattle.ts_text.specs.declared.edit.Edit.{Edit as TextEdit}
use Rattle.ts_script.specs.declared.plan.Plan.{Plan}
use Rattle.ts_script.specs.declared.plan.ScriptStep.{ScriptStep}
use Rattle.ts_script.specs.declared.plan.ScriptStep.TheVariants as step
use Rattle.ts_replies.specs.declared.reply.Reply.{Reply}
use Rattle.spec_history.specs.Replies.{document_of, version_of, turn_told, turns_of}

-- an accepted edit: its turn, and the step of the client that asked for it
pub record JournalEntry : Type 0 where
  pub turn : ℕ
  pub client : ℕ
  pub step : ℕ

-- a run of a script: the grammar, the text with which each document was opened, the journal of each
-- document, and the replies to the steps of each client, in their order
pub record History : Type 0 where
  pub plan : Plan
  pub grammar : FlatGrammar
  pub openings : List Bytes
  pub journals : List (List JournalEntry)
  pub replies : List (List Reply)

-- ---- steps

-- the client's step of this number
abbrev pub asked_at : Plan → ℕ → ℕ → Option ScriptStep
asked_at plan client number =
    option_and_then (λ (steps : List ScriptStep). slice_get steps number)
    (slice_get plan.clients client)

-- the reply to the client's step of this number
abbrev pub reply_at : List (List Reply) → ℕ → ℕ → Option Reply
reply_at replies client number =
    option_and_then (λ (own : List Reply). slice_get own number) (slice_get replies client)

-- the client's step of this number has this reply
pub record IsAnswered (h : History) (client number : ℕ) (s : ScriptStep) (r : Reply)
    : Type 0 where
  pub step_is : asked_at h.plan client number ≡ Some s
  pub reply_is : reply_at h.replies client number ≡ Some r

-- the edit that a step asks for
abbrev pub edit_in : ScriptStep → Option TextEdit
edit_in (step.Edit document edit) = Some edit
edit_in (step.Look document) = None
edit_in (step.Query document queries) = None
edit_in (step.Tree document) = None
edit_in (step.Await document version) = None

-- ---- texts

-- the text after an entry's edit
abbrev pub text_after : Plan → Bytes → JournalEntry → Bytes
text_after plan text e = unwrap_or (option_map (λ (edit : TextEdit). apply_of text edit)
    (option_and_then edit_in (asked_at plan e.client e.step))) text

-- the text after the edits of all these entries, in their order
abbrev pub text_after_all : Plan → Bytes → List JournalEntry → Bytes
text_after_all plan text [] = text
text_after_all plan text (e ∷ es) = text_after_all plan (text_after plan text e) es

-- the text of a version: that of version 0 is the document's first, and that of each other version
-- comes of the one before by the edit of its entry
abbrev pub version_text : Plan → Bytes → List JournalEntry → ℕ → Bytes
version_text plan opening entries number = text_after_all plan opening (take number entries)

-- how many entries have turns below this one
abbrev pub entries_below : ℕ → List JournalEntry → ℕ
entries_below turn entries = count_by (λ (e : JournalEntry). nat_lt e.turn turn) entries

-- ---- clients

-- steps with their replies, as far as there are replies
abbrev pub paired : List ScriptStep → List Reply → List (ScriptStep × Reply)
paired [] rs = []
paired (s ∷ ss) [] = []
paired (s ∷ ss) (r ∷ rs) = (s, r) ∷ paired ss rs

-- the steps of all clients, with their replies
abbrev pub all_paired : List (List ScriptStep) → List (List Reply)
    → List (List (ScriptStep × Reply))
all_paired [] replies = []
all_paired (ss ∷ sss) [] = []
all_paired (ss ∷ sss) (rs ∷ rss) = paired ss rs ∷ all_paired sss rss

-- the version of the document that is held after these steps, where `before` was held before them
abbrev pub held_after : ℕ → ℕ → List (ScriptStep × Reply) → ℕ
held_after document before [] = before
held_after document before (p ∷ ps) = held_after document
    (if document_of p.0 == document then version_of p.1 else before) ps

-- the later of two turns, where the first may be missing
abbrev pub later_turn : Option ℕ → Option ℕ → Option ℕ
later_turn before None = before
later_turn before (Some turn) = Some turn

-- the last turn of the document that is told after these steps
abbrev pub last_turn : ℕ → Option ℕ → List (ScriptStep × Reply) → Option ℕ
last_turn document last [] = last
last_turn document last (p ∷ ps) = last_turn document
    (if document_of p.0 == document then later_turn last (turn_told p.1) else last) ps

-- the steps of a client that have replies
abbrev pub paired_by : History → ℕ → List (ScriptStep × Reply)
paired_by h client = paired (unwrap_or (slice_get h.plan.clients client) [])
    (unwrap_or (slice_get h.replies client) [])

-- the version of the document that the client holds before its step of this number: version 0 at
-- first, and then the one that its last reply on the document tells
abbrev pub held_before : History → ℕ → ℕ → ℕ → ℕ
held_before h client number document = held_after document 0 (take number (paired_by h client))

-- the last turn of the document that the client was told before its step of this number
abbrev pub last_told : History → ℕ → ℕ → ℕ → Option ℕ
last_told h client number document =
    last_turn document None (take number (paired_by h client))

-- ---- turns

-- for how many turns up to this one a reply accounts
abbrev pub accounted_by : ℕ → Option ℕ → ℕ → ℕ
accounted_by turn None turns = 0
accounted_by turn (Some told) turns = if nat_lt turn told then 0 else turns

-- for how many turns of the document up to this one the replies to these steps account
abbrev pub accounted_in : ℕ → ℕ → List (ScriptStep × Reply) → ℕ
accounted_in document turn [] = 0
accounted_in document turn (p ∷ ps) =
    (if document_of p.0 == document then accounted_by turn (turn_told p.1) (turns_of p.1) else 0)
    + accounted_in document turn ps

-- the same for the steps of all clients
abbrev pub accounted_all : ℕ → ℕ → List (List (ScriptStep × Reply)) → ℕ
accounted_all document turn [] = 0
accounted_all document turn (ps ∷ pss) =
    accounted_in document turn ps + accounted_all document turn pss
