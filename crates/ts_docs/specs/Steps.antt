-- One turn on the journal of a document.
use Rattle.std.specs.Prelude.{◌≡◌, ℕ, ◌+◌, ◌<◌, ◌≤◌, length}
use Rattle.ts_shelf.specs.Machine as machine
use Rattle.ts_shelf.specs.Machine.{IsTurn, Response, shown, added, overtaken}
use Rattle.ts_shelf.specs.Latest.{latest_of}
use Rattle.ts_shelf.specs.declared.shelf.Offered.TheVariants as offered
use Rattle.ts_docs.specs.declared.parsed.ParsedText.{ParsedText}
use Rattle.ts_docs.specs.declared.parsed.Drafted.{Drafted}
use Rattle.ts_docs.specs.declared.parsed.Pages.{Pages}
use Rattle.ts_docs.specs.declared.stepping.Event.{Event}
use Rattle.ts_docs.specs.declared.stepping.Event.TheVariants.{Look, Offer}
use Rattle.ts_docs.specs.declared.stepping.Told.{Told}
use Rattle.ts_docs.specs.declared.stepping.Told.TheVariants.{Seen, Offered}
use Rattle.ts_docs.specs.Versions.{IsOfTable}

-- what an event asks of the machine
abbrev pub event_of : Event → machine.Event Drafted
event_of Look = machine.look
event_of (Offer base draft) = machine.offer base draft

-- what is told, as the machine answers it
abbrev pub response_of : Told → Response
response_of (Seen s) = shown s.number
response_of (Offered (offered.Published turn number)) = added number
response_of (Offered (offered.Newer turn number latest)) = overtaken number

-- the turn that is told
abbrev pub told_turn : Told → ℕ
told_turn (Seen s) = s.turn
told_turn (Offered (offered.Published turn number)) = turn
told_turn (Offered (offered.Newer turn number latest)) = turn

-- how many entries come of an answer
abbrev pub added_by : Told → ℕ
added_by (Seen s) = 0
added_by (Offered (offered.Published turn number)) = 1
added_by (Offered (offered.Newer turn number latest)) = 0

-- the newest version of a journal
abbrev pub newest : Pages → ParsedText
newest b = latest_of (λ (d : Drafted). d.version) b.opening b.entries

-- what is shown is the journal's newest version
abbrev pub ShowsNewest : Pages → Told → Type 0
ShowsNewest b (Seen s) = s.latest ≡ newest b
ShowsNewest b (Offered (offered.Published turn number)) = Unit {0}
ShowsNewest b (Offered (offered.Newer turn number latest)) = latest ≡ newest b

-- An offer is made to a journal with room, of a draft of its table, over a version that it has.
abbrev pub MayAsk : Pages → Event → Type 0
MayAsk b Look = Unit {0}
MayAsk b (Offer base draft) = (base ≤ length b.entries) × (0 < b.room) × IsOfTable b.opening draft

-- what is answered is a shared copy of the newest version
abbrev pub TakesCopy : Pages → Event → Type 0
TakesCopy b Look = Unit {0}
TakesCopy b (Offer base draft) = base < length b.entries

-- the event is done at the turn
pub record IsBookTurn (turn : ℕ) (before : Pages) (event : Event) (told : Told) (after : Pages)
    : Type 0 where
  pub turned : IsTurn turn before.entries (event_of event) (response_of told) after.entries
  pub turn_is : told_turn told ≡ turn
  pub shows : ShowsNewest after told
  pub opening : after.opening ≡ before.opening
  pub room : after.room + added_by told ≡ before.room
