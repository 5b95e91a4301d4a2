-- Runs that may not be over, and what is left of them.
use Rattle.std.specs.Prelude.{◌≡◌, ℕ, suc, ◌+◌, ◌<◌, ◌≤◌, ◌==◌, if◌then◌else◌, List, [], ◌∷◌, ◌++◌, length, drop, slice_get, slice_set, unwrap_or, Some}
use Rattle.ts_base.specs.Bytes.{Bytes}
use Rattle.ts_shelf.specs.Entries.{most_turns}
use Rattle.ts_script.specs.declared.plan.ScriptStep.{ScriptStep}
use Rattle.ts_script.specs.declared.plan.ScriptStep.TheVariants as step
use Rattle.ts_replies.specs.declared.reply.ShownResult.{ShownResult}
use Rattle.ts_replies.specs.declared.reply.Reply.{Reply}
use Rattle.ts_replies.specs.declared.reply.Reply.TheVariants as reply
use Rattle.spec_history.specs.Replies.{document_of, version_of}
use Rattle.spec_history.specs.Histories.{JournalEntry, History, held_before, last_told, all_paired, accounted_all}
use Rattle.spec_history.specs.Legal.{IsRight, TellsTurn, LegalSoFar}
use Rattle.spec_history.specs.Orders.{TakesTurns, TakeTurns, in_order}

-- ---- histories

-- a run so far, where so many turns of each document are over
pub record SoFar (Finds : Bytes → List ℕ → List ShownResult → Type 0)
    (h : History) (over : ℕ → ℕ) : Type 0 where
  pub lawful : LegalSoFar Finds h
  -- the turns that were told are over
  pub below : (document client number turn : ℕ) → TellsTurn h document client number turn
      → turn < over document
  -- replies account for no more turns than are over
  pub spent : (document turn : ℕ)
      → accounted_all document turn (all_paired h.plan.clients h.replies) ≤ over document
  -- the versions that are held are there
  pub there : (document client number : ℕ) (entries : List JournalEntry)
      → slice_get h.journals document ≡ Some entries
      → held_before h client number document ≤ length entries

-- the replies, with one more to the steps of a client that had these
abbrev pub with_own_reply : ℕ → List Reply → Reply → List (List Reply) → List (List Reply)
with_own_reply client own r replies = slice_set replies client (own ++ r ∷ [])

-- the history with one more reply
abbrev pub next_history : History → ℕ → List Reply → Reply → List (List JournalEntry) → History
next_history h client own r journals = record {
  plan = h.plan;
  grammar = h.grammar;
  openings = h.openings;
  journals = journals;
  replies = with_own_reply client own r h.replies;
}

-- the reply publishes nothing
abbrev pub PublishesNothing : Reply → Type 0
PublishesNothing (reply.Published turn version) = ⊥
PublishesNothing (reply.Newer turn version) = Unit {0}
PublishesNothing (reply.Look turn version) = Unit {0}
PublishesNothing (reply.Await turn version) = Unit {0}
PublishesNothing (reply.Late turn version) = Unit {0}
PublishesNothing (reply.Range version) = Unit {0}
PublishesNothing (reply.Size size version) = Unit {0}
PublishesNothing (reply.Memory version) = Unit {0}
PublishesNothing (reply.Tree outcome version) = Unit {0}
PublishesNothing (reply.Results results version) = Unit {0}
PublishesNothing (reply.Absent outcome version) = Unit {0}

-- the entries of a document after the client's step of this number
pub data GrowsBy (client number : ℕ) (entries : List JournalEntry)
    : Reply → List JournalEntry → Type 0 where
  stays : (r : Reply) → PublishesNothing r → GrowsBy client number entries r entries
  grows : (turn : ℕ) → GrowsBy client number entries (reply.Published turn (suc (length entries)))
      (entries ++ record { turn = turn; client = client; step = number } ∷ [])

-- the client, which had these replies, has one more, to its next step
pub record IsOneMoreReply (Finds : Bytes → List ℕ → List ShownResult → Type 0)
    (h : History) (over now_over : ℕ → ℕ) (client : ℕ) (own : List Reply) (s : ScriptStep)
    (r : Reply) (journals : List (List JournalEntry)) : Type 0 where
  pub steps : List ScriptStep
  pub steps_are : slice_get h.plan.clients client ≡ Some steps
  pub own_are : slice_get h.replies client ≡ Some own
  pub step_is : slice_get steps (length own) ≡ Some s
  -- its document's entries before and after
  pub entries : List JournalEntry
  pub entries_are : slice_get h.journals (document_of s) ≡ Some entries
  pub after : List JournalEntry
  pub after_are : slice_get journals (document_of s) ≡ Some after
  pub grows : GrowsBy client (length own) entries r after
  pub others : (document : ℕ) → (document ≡ document_of s → ⊥)
      → slice_get journals document ≡ slice_get h.journals document
  -- the reply is right
  pub opening : Bytes
  pub opening_is : slice_get h.openings (document_of s) ≡ Some opening
  pub right : IsRight Finds h.plan h.grammar opening after
      (held_before h client (length own) (document_of s))
      (last_told h client (length own) (document_of s)) s r
  pub held_there : version_of r ≤ length after
  -- it took the next turns of the document, and no others
  pub takes : TakesTurns (over (document_of s)) s r (now_over (document_of s))
  pub rest : (document : ℕ) → (document ≡ document_of s → ⊥) → now_over document ≡ over document
  pub few : now_over (document_of s) ≤ most_turns

-- ---- what is left

-- how much steps weight_of
abbrev pub weight_of : (ScriptStep → ℕ) → List ScriptStep → ℕ
weight_of w [] = 0
weight_of w (s ∷ ss) = w s + weight_of w ss

-- how much the steps weight_of that have no reply
abbrev pub weight_left : (ScriptStep → ℕ) → List (List ScriptStep) → List (List Reply) → ℕ
weight_left w [] replies = 0
weight_left w (ss ∷ clients) [] = weight_of w ss + weight_left w clients []
weight_left w (ss ∷ clients) (rs ∷ replies) =
    weight_of w (drop (length rs) ss) + weight_left w clients replies

-- one for an edit of the document
abbrev pub edits_on : ℕ → ScriptStep → ℕ
edits_on document (step.Edit own edit) = if own == document then 1 else 0
edits_on document (step.Look own) = 0
edits_on document (step.Query own queries) = 0
edits_on document (step.Tree own) = 0
edits_on document (step.Await own version) = 0

-- ---- orders

-- the lists without as many items as there are replies
abbrev pub rest_of : {A : Type 0} → List (List Reply) → List (List A) → List (List A)
rest_of [] lists = []
rest_of (rs ∷ replies) [] = []
rest_of (rs ∷ replies) (xs ∷ lists) = drop (length rs) xs ∷ rest_of replies lists

-- each list begins with the one in its place
abbrev pub AllBegin : List (List Reply) → List (List Reply) → Type 0
AllBegin [] [] = Unit {0}
AllBegin [] (bs ∷ all) = ⊥
AllBegin (rs ∷ replies) [] = ⊥
AllBegin (rs ∷ replies) (bs ∷ all) =
    ((more : List Reply) × (bs ≡ rs ++ more)) × AllBegin replies all

-- The steps so far ran in the order, of which these numbers are left: however the replies go on, if
-- those to come take the next turns in the order of the rest, then all replies are in the order.
abbrev pub RunsInOrder : List ℕ → List ℕ → List (List ScriptStep) → List (List Reply) → (ℕ → ℕ)
    → Type 0
RunsInOrder order rest clients replies over = (all : List (List Reply)) → AllBegin replies all
    → (document : ℕ)
    → TakeTurns document (over document) (in_order rest (rest_of replies (all_paired clients all)))
    → TakeTurns document 0 (in_order order (all_paired clients all))

-- the client of this number has no step without a reply
abbrev pub HasNoStepLeft : List (List ScriptStep) → List (List Reply) → ℕ → Type 0
HasNoStepLeft clients replies client =
    length (unwrap_or (slice_get clients client) [])
    ≤ length (unwrap_or (slice_get replies client) [])
