-- What is left once the passes of all clients are joined.
use Rattle.std.specs.Prelude.{◌≡◌, ℕ, ◌+◌, ◌≤◌, List, ◌++◌, length, take, drop, flat_map, slice_get, Some}
use Rattle.atomic_table.specs.Seated.{TableId}
use Rattle.ts_shelf.specs.declared.view.Knowledge.{Knowledge}
use Rattle.ts_shelf.specs.Entries.{Extends}
use Rattle.ts_shelf.specs.Passes.{IsPass, IsFirst, IsOther}
use Rattle.ts_shelf.specs.Calls.{IsJoin, Closes}
use Rattle.ts_docs.specs.declared.parsed.ParsedText.{ParsedText}
use Rattle.ts_docs.specs.declared.parsed.Drafted.{Drafted}
use Rattle.ts_docs.specs.declared.parsed.Pages.{Pages}
use Rattle.ts_docs.specs.Versions.{IsOfTable}
use Rattle.ts_client.specs.declared.desk.Desk.{Desk}
use Rattle.ts_workers.specs.declared.front.Front.{Front}
use Rattle.ts_workers.specs.Changes.{Changed}

-- the passes of one document, a client each, where each client has a list of its passes
abbrev pub passes_on : {A : Type 0} → ℕ → List (List A) → List A
passes_on {A} document all = flat_map (λ (own : List A). take 1 (drop document own)) all

-- ---- one document

-- the first pass took in these others, one after the other
pub record TakesIn (others : List (Knowledge ParsedText Drafted))
    (old new : Knowledge ParsedText Drafted) : Type 0 where
  pub taken : new.taken
      ≡ old.taken ++ flat_map (λ (o : Knowledge ParsedText Drafted). o.taken) others
  pub extends : (place : ℕ) (o : Knowledge ParsedText Drafted) → slice_get others place ≡ Some o
      → Extends o.turn new.turn new.seen o.seen
  pub reached : (place : ℕ) (o : Knowledge ParsedText Drafted) → slice_get others place ≡ Some o
      → o.reached ≤ new.reached
  pub out : new.out + length others ≡ old.out
  pub first : IsFirst new
  pub opening : new.opening ≡ old.opening

-- the same of what is kept of a document
pub record HasJoined (others : List (Knowledge ParsedText Drafted)) (old new : Front)
    : Type 0 where
  pub takes : TakesIn others old.pass.knows new.pass.knows
  pub shelf_is : new.pass.shelf ≡ old.pass.shelf
  pub is_pass : IsPass IsOfTable new.pass.knows
  pub version_is : new.version ≡ old.version

-- one pass was taken in
pub record JoinsDesk (old new : Front) (d : Desk) : Type 0 where
  pub joins : IsJoin old.pass.knows d.pass.knows new.pass.knows
  pub shelf_is : new.pass.shelf ≡ old.pass.shelf
  pub is_pass : IsPass IsOfTable new.pass.knows
  pub version_is : new.version ≡ old.version

-- ---- all documents

-- a desk is of the shelf, with a pass that came from a split
pub record IsOnShelf (shelf : TableId) (d : Desk) : Type 0 where
  pub shelf_is : d.pass.shelf ≡ shelf
  pub other : IsOther d.pass.knows

-- the desks of a client, one at each shelf
pub record AreAtShelves (shelves : List TableId) (desks : List Desk) : Type 0 where
  pub count : length desks ≡ length shelves
  pub each : (document : ℕ) (shelf : TableId) (d : Desk)
      → slice_get shelves document ≡ Some shelf → slice_get desks document ≡ Some d
      → IsOnShelf shelf d

-- what is kept of a document has the first pass of its shelf
pub record HasFirst (shelf : TableId) (f : Front) : Type 0 where
  pub shelf_is : f.pass.shelf ≡ shelf
  pub is_pass : IsPass IsOfTable f.pass.knows
  pub first : IsFirst f.pass.knows

-- the same of all documents
pub record AreOnShelves (shelves : List TableId) (fronts : List Front) : Type 0 where
  pub count : length fronts ≡ length shelves
  pub each : (document : ℕ) (shelf : TableId) (f : Front)
      → slice_get shelves document ≡ Some shelf → slice_get fronts document ≡ Some f
      → HasFirst shelf f

-- the first desks of a client were taken in, each by its document
abbrev pub HaveJoinedDesks : List Front → List Front → List Desk → Type 0
HaveJoinedDesks old new desks = Changed (λ document. JoinsDesk) old new desks

-- each document took in its passes of all these clients
pub record HaveJoined (all : List (List (Knowledge ParsedText Drafted)))
    (old new : List Front) : Type 0 where
  pub count : length new ≡ length old
  pub each : (document : ℕ) (o n : Front) → slice_get old document ≡ Some o
      → slice_get new document ≡ Some n → HasJoined (passes_on document all) o n

-- each book is that of a shelf that was closed with the first pass
pub record AreClosed (fronts : List Front) (books : List Pages) : Type 0 where
  pub count : length books ≡ length fronts
  pub each : (document : ℕ) (f : Front) (b : Pages) → slice_get fronts document ≡ Some f
      → slice_get books document ≡ Some b
      → Closes (λ (p : Pages). p.entries) (λ (p : Pages). p.room) (λ (p : Pages). p.opening)
      f.pass.knows b
