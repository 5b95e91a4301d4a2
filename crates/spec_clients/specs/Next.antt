-- One more reply to a client, and the turns that its pass of the step's document took meanwhile.
use Rattle.std.specs.Prelude.{◌≡◌, ℕ, suc, ◌<◌, ◌≤◌, List, ◌++◌, length, slice_get, Option, Some}
use Rattle.ts_base.specs.Bytes.{Bytes}
use Rattle.ts_core.specs.declared.flat.FlatGrammar.{FlatGrammar}
use Rattle.ts_text.specs.declared.edit.Edit.{Edit as TextEdit}
use Rattle.ts_shelf.specs.declared.journal.Entry.{Entry}
use Rattle.ts_shelf.specs.declared.view.Knowledge.{Knowledge}
use Rattle.ts_shelf.specs.Entries.{occurrences, Extends}
use Rattle.ts_docs.specs.declared.parsed.ParsedText.{ParsedText}
use Rattle.ts_docs.specs.declared.parsed.Drafted.{Drafted}
use Rattle.ts_docs.specs.Versions.{Drafts}
use Rattle.ts_script.specs.declared.plan.Plan.{Plan}
use Rattle.ts_script.specs.declared.plan.ScriptStep.{ScriptStep}
use Rattle.ts_script.specs.declared.plan.ScriptStep.TheVariants as step
use Rattle.ts_replies.specs.declared.reply.ShownResult.{ShownResult}
use Rattle.ts_replies.specs.declared.reply.Reply.{Reply}
use Rattle.ts_replies.specs.declared.reply.Reply.TheVariants as reply
use Rattle.spec_history.specs.Replies.{version_of, turn_told, turns_of}
use Rattle.spec_history.specs.Histories.{version_text}
use Rattle.spec_history.specs.Legal.{IsRight}
use Rattle.spec_clients.specs.Seen.{journal_seen, version_seen}
use Rattle.spec_clients.specs.Served.{taken_until}

-- the pass took these turns, and what came since has turns from its old one on
pub record TakesThese (old new : Knowledge ParsedText Drafted) (turns : List ℕ) : Type 0 where
  pub taken : new.taken ≡ old.taken ++ turns
  pub extends : Extends old.turn new.turn new.seen old.seen

-- none of the entries has one of these turns
abbrev pub HasNoneOf : List ℕ → List (Entry Drafted) → Type 0
HasNoneOf turns seen = (place : ℕ) (e : Entry Drafted) → slice_get seen place ≡ Some e
    → 0 < occurrences e.turn turns → ⊥

-- the turn that a reply tells is one of these, which are as many as it accounts for
pub record TellsOneOf (old : Knowledge ParsedText Drafted) (turns : List ℕ) (r : Reply)
    (turn : ℕ) : Type 0 where
  pub here : 0 < occurrences turn turns
  pub new : old.turn ≤ turn
  pub accounts : (t : ℕ) → turn ≤ t → turns_of r ≤ taken_until t turns

-- the entry is the one that the reply to the step of this number tells
pub record IsNewEntry (client number document : ℕ) (s : ScriptStep) (r : Reply)
    (opening : ParsedText) (seen : List (Entry Drafted)) (place : ℕ) (e : Entry Drafted)
    : Type 0 where
  pub edit : TextEdit
  pub number_is : e.item.step ≡ number
  pub step_is : s ≡ step.Edit document edit
  pub reply_is : r ≡ reply.Published e.turn (suc place)
  pub drafts : Drafts (version_seen opening seen place) client number edit e.item

module _ (Finds : Bytes → List ℕ → List ShownResult → Type 0) where
  -- the reply to a client's step of this number on the document, where it held the version `before`
  pub record IsNextReply (plan : Plan) (g : FlatGrammar) (opening : ParsedText)
      (client number document before : ℕ) (old new : Knowledge ParsedText Drafted)
      (turns : List ℕ) (s : ScriptStep) (r : Reply) : Type 0 where
    pub takes : TakesThese old new turns
    pub told : (turn : ℕ) → turn_told r ≡ Some turn → TellsOneOf old turns r turn
    pub held : version_of r ≤ length new.seen
    pub entered : (turn version : ℕ) → r ≡ reply.Published turn version
        → (place : ℕ) × (version ≡ suc place) × (slice_get (journal_seen new.seen) place
        ≡ Some (record { turn = turn; client = client; step = number }))
    pub own : (place : ℕ) (e : Entry Drafted) → slice_get new.seen place ≡ Some e
        → 0 < occurrences e.turn turns
        → IsNewEntry client number document s r opening new.seen place e
    pub right : (last : Option ℕ) → ((t : ℕ) → last ≡ Some t → t < old.turn)
        → (version_seen opening new.seen before).text
        ≡ version_text plan opening.text (journal_seen new.seen) before
        → IsRight Finds plan g opening.text (journal_seen new.seen) before last s r
