-- What looks come to.
use Rattle.std.specs.Prelude.{◌≡◌, ℕ, ◌≤◌, ◌⊎◌, List, length}
use Rattle.ts_shelf.specs.declared.view.Knowledge.{Knowledge}
use Rattle.ts_shelf.specs.declared.shelf.Seen.{Seen}
use Rattle.ts_shelf.specs.declared.shelf.Denied.{Denied}
use Rattle.ts_shelf.specs.declared.shelf.Denied.TheVariants as denied
use Rattle.ts_shelf.specs.Entries.{most_turns}
use Rattle.ts_shelf.specs.Calls.{ShowsLatest}
use Rattle.ts_docs.specs.declared.parsed.ParsedText.{ParsedText}
use Rattle.ts_docs.specs.declared.parsed.Drafted.{Drafted}
use Rattle.spec_history.specs.Replies.{most_looks}
use Rattle.ts_client.specs.Turns.{TakesIdle, LooksUntil}

-- the version is the newest that the pass has seen
abbrev pub IsLatest : Knowledge ParsedText Drafted → ParsedText → Type 0
IsLatest k version = ShowsLatest (λ (d : Drafted). d.version) k version

-- so many looks were made, and this was shown by the last one
pub record SawAfter (old new : Knowledge ParsedText Drafted) (turns : List ℕ)
    (seen : Seen ParsedText) : Type 0 where
  pub looks : LooksUntil old new turns seen.turn seen.number
  pub latest : IsLatest new seen.latest

-- the version that was wanted was shown, or all looks were made
pub record Watched (old new : Knowledge ParsedText Drafted) (wanted : ℕ)
    (seen : Seen ParsedText) : Type 0 where
  pub turns : List ℕ
  pub saw : SawAfter old new turns seen
  pub few : length turns ≤ most_looks
  pub ends : (wanted ≤ seen.number) ⊎ (length turns ≡ most_looks)

-- a look was refused after some others
pub record IsRefused (old new : Knowledge ParsedText Drafted) (e : Denied) : Type 0 where
  pub turns : List ℕ
  pub idle : TakesIdle old new turns
  pub few : length turns ≤ most_looks
  pub over : e ≡ denied.Spent → new.reached ≡ most_turns

-- so many looks were made, of which the last one showed this
pub record SawLast (old new : Knowledge ParsedText Drafted) (looks : ℕ) (seen : Seen ParsedText)
    : Type 0 where
  pub turns : List ℕ
  pub saw : SawAfter old new turns seen
  pub count : length turns ≡ looks
