-- What a client's replies are worth on one document, by what its pass of the document's shelf
-- knows.
use Rattle.std.specs.Prelude.{◌≡◌, ℕ, suc, ◌+◌, ◌*◌, ◌<◌, ◌≤◌, nat_lt, if◌then◌else◌, List, [], ◌∷◌, length, take, slice_get, Option, Some, None}
use Rattle.ts_base.specs.Bytes.{Bytes}
use Rattle.ts_core.specs.declared.flat.FlatGrammar.{FlatGrammar}
use Rattle.ts_text.specs.declared.edit.Edit.{Edit as TextEdit}
use Rattle.ts_shelf.specs.declared.journal.Entry.{Entry}
use Rattle.ts_shelf.specs.declared.view.Knowledge.{Knowledge}
use Rattle.ts_shelf.specs.Entries.{occurrences}
use Rattle.ts_docs.specs.declared.parsed.ParsedText.{ParsedText}
use Rattle.ts_docs.specs.declared.parsed.Drafted.{Drafted}
use Rattle.ts_docs.specs.Versions.{Drafts}
use Rattle.ts_script.specs.declared.plan.Plan.{Plan}
use Rattle.ts_script.specs.declared.plan.ScriptStep.{ScriptStep}
use Rattle.ts_script.specs.declared.plan.ScriptStep.TheVariants as step
use Rattle.ts_replies.specs.declared.reply.ShownResult.{ShownResult}
use Rattle.ts_replies.specs.declared.reply.Reply.{Reply}
use Rattle.ts_replies.specs.declared.reply.Reply.TheVariants as reply
use Rattle.spec_history.specs.Replies.{document_of, turn_told, most_looks}
use Rattle.spec_history.specs.Histories.{version_text, paired, held_after, last_turn, accounted_in}
use Rattle.spec_history.specs.Legal.{IsRight}
use Rattle.spec_clients.specs.Seen.{journal_seen, version_seen}

-- ---- a client's steps on a document

-- the client's step of this number is on the document, and has this reply
pub record IsReplied (document : ℕ) (steps : List ScriptStep) (replies : List Reply) (number : ℕ)
    (s : ScriptStep) (r : Reply) : Type 0 where
  pub step_is : slice_get steps number ≡ Some s
  pub reply_is : slice_get replies number ≡ Some r
  pub on : document_of s ≡ document

-- the reply to the client's step of this number, which is on the document, tells the turn
pub record TellsOn (document : ℕ) (steps : List ScriptStep) (replies : List Reply)
    (number turn : ℕ) : Type 0 where
  pub step : ScriptStep
  pub answer : Reply
  pub replied : IsReplied document steps replies number step answer
  pub told : turn_told answer ≡ Some turn

-- the version of the document that the client holds before its step of this number
abbrev pub held_at : ℕ → List ScriptStep → List Reply → ℕ → ℕ
held_at document steps replies number =
    held_after document 0 (take number (paired steps replies))

-- the last turn of the document that the client was told before its step of this number
abbrev pub told_at : ℕ → List ScriptStep → List Reply → ℕ → Option ℕ
told_at document steps replies number =
    last_turn document None (take number (paired steps replies))

-- how many of the turns are at most this one
abbrev pub taken_until : ℕ → List ℕ → ℕ
taken_until turn [] = 0
taken_until turn (x ∷ xs) = (if nat_lt turn x then 0 else 1) + taken_until turn xs

-- ---- entries

-- The entry at this place is that of an edit of the client, which was told that it was published
-- there. Its version was made of the one before it.
pub record IsOwnEntry (client document : ℕ) (steps : List ScriptStep) (replies : List Reply)
    (opening : ParsedText) (seen : List (Entry Drafted)) (place : ℕ) (e : Entry Drafted)
    : Type 0 where
  pub edit : TextEdit
  pub replied : IsReplied document steps replies e.item.step (step.Edit document edit)
      (reply.Published e.turn (suc place))
  pub drafts : Drafts (version_seen opening seen place) client e.item.step edit e.item

-- ---- all replies

module _ (Finds : Bytes → List ℕ → List ShownResult → Type 0) where
  -- the replies so far to a client's steps on a document, which was opened with this version
  pub record IsServed (plan : Plan) (g : FlatGrammar) (opening : ParsedText)
      (client document : ℕ) (steps : List ScriptStep) (replies : List Reply)
      (k : Knowledge ParsedText Drafted) : Type 0 where
    -- what is held was seen
    pub held : (number : ℕ) → held_at document steps replies number ≤ length k.seen
    -- each reply is right, if the version that was held before it has the text of its number
    pub right : (number : ℕ) (s : ScriptStep) (r : Reply)
        → IsReplied document steps replies number s r
        → (version_seen opening k.seen (held_at document steps replies number)).text
        ≡ version_text plan opening.text (journal_seen k.seen)
        (held_at document steps replies number)
        → IsRight Finds plan g opening.text (journal_seen k.seen)
        (held_at document steps replies number) (told_at document steps replies number) s r
    -- each turn that is told is one that the pass took
    pub told : (number turn : ℕ) → TellsOn document steps replies number turn
        → 0 < occurrences turn k.taken
    -- the turns that are told rise
    pub rise : (number turn n t : ℕ) → TellsOn document steps replies number turn
        → TellsOn document steps replies n t → number < n → turn < t
    -- the entry of each edit that was published is there
    pub entered : (number turn version : ℕ) (s : ScriptStep)
        → IsReplied document steps replies number s (reply.Published turn version)
        → (place : ℕ) × (version ≡ suc place) × (slice_get (journal_seen k.seen) place
        ≡ Some (record { turn = turn; client = client; step = number }))
    -- each entry whose turn the pass took is the client's own
    pub own : (place : ℕ) (e : Entry Drafted) → slice_get k.seen place ≡ Some e
        → 0 < occurrences e.turn k.taken
        → IsOwnEntry client document steps replies opening k.seen place e
    -- up to each turn the pass took as many turns as replies account for
    pub accounted : (turn : ℕ)
        → accounted_in document turn (paired steps replies) ≤ taken_until turn k.taken
    -- the pass took no more turns than the steps may take
    pub few : length k.taken ≤ length steps * most_looks
