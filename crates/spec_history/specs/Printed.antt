-- What is printed of a run: the first version of each document, each accepted edit, each reply.
use Rattle.std.specs.Prelude.{◌≡◌, ℕ, suc, List, ◌++◌, length, flat_map, slice_get, Some}
use Rattle.ts_base.specs.Bytes.{Bytes}
use Rattle.ts_core.specs.declared.flat.FlatGrammar.{FlatGrammar}
use Rattle.spec_output.specs.declared.outcome.ShownOutcome.{ShownOutcome}
use Rattle.ts_replies.specs.declared.reply.Head.{Head}
use Rattle.ts_replies.specs.declared.reply.Head.TheVariants as head
use Rattle.ts_replies.specs.declared.reply.Reply.{Reply}
use Rattle.ts_replies.specs.Replies.{version_line, reply_line}
use Rattle.spec_history.specs.Histories.{JournalEntry, History, version_text}
use Rattle.spec_history.specs.Legal.{IsShown}

-- The bytes are pieces, as many as there are items and in their order. Each tells the item of its
-- number, from 0.
pub record TellsEach {A : Type 0} (Tells : ℕ → A → Bytes → Type 0) (items : List A) (bytes : Bytes)
    : Type 0 where
  pub pieces : List Bytes
  pub count : length pieces ≡ length items
  pub each : (number : ℕ) (x : A) (piece : Bytes) → slice_get items number ≡ Some x
      → slice_get pieces number ≡ Some piece → Tells number x piece
  pub bytes_are : bytes ≡ flat_map (λ (piece : Bytes). piece) pieces

-- the line of a version: it shows what parsing the version's text comes to
pub record IsVersionLine (g : FlatGrammar) (head : Head) (text line : Bytes) : Type 0 where
  pub outcome : ShownOutcome
  pub fresh : IsShown g text outcome
  pub line_is : line ≡ version_line head outcome

-- the lines of the first versions of documents
abbrev pub AreOpeningLines : FlatGrammar → List Bytes → Bytes → Type 0
AreOpeningLines g = TellsEach
    (λ (document : ℕ) (text line : Bytes). IsVersionLine g (head.Opening document) text line)

-- the lines of the accepted edits of a document, which make its versions from 1 on
pub record AreEntryLines (h : History) (document : ℕ) (entries : List JournalEntry) (lines : Bytes)
    : Type 0 where
  pub opening : Bytes
  pub opening_is : slice_get h.openings document ≡ Some opening
  pub lines_are : TellsEach (λ (number : ℕ) (e : JournalEntry) (line : Bytes). IsVersionLine
      h.grammar (head.Accepted e.client document e.step e.turn (suc number))
      (version_text h.plan opening entries (suc number)) line) entries lines

-- the lines of the replies to a client's steps
abbrev pub AreReplyLines : ℕ → List Reply → Bytes → Type 0
AreReplyLines client = TellsEach
    (λ (step : ℕ) (answer : Reply) (line : Bytes). line ≡ reply_line client step answer)

-- The bytes are what is printed of the run: the first version of each document, then the accepted
-- edits of each document, then the replies to each client.
pub record IsPrinted (h : History) (bytes : Bytes) : Type 0 where
  pub openings : Bytes
  pub journals : Bytes
  pub replies : Bytes
  pub openings_are : AreOpeningLines h.grammar h.openings openings
  pub journals_are : TellsEach (AreEntryLines h) h.journals journals
  pub replies_are : TellsEach AreReplyLines h.replies replies
  pub bytes_are : bytes ≡ openings ++ (journals ++ replies)
