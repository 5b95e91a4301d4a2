-- What is kept of a search.
use Rattle.std.specs.Prelude.{◌≡◌, ℕ, List, drop, Option, Some, None, Bool, true, false}
use Rattle.spec_matches.specs.declared.placing.Slot.{Slot}
use Rattle.ts_search.specs.declared.stand.Key.{Key}
use Rattle.ts_search.specs.declared.stand.Siblings.{Siblings}
use Rattle.ts_search.specs.declared.stand.Wanted.{Wanted}
use Rattle.ts_search.specs.declared.stand.Wanted.TheVariants.{All, Here, Captures}
use Rattle.spec_matches.specs.declared.placing.Placing.{Placing}
use Rattle.ts_search.specs.contracts.stand.KeyPartialEq.TheImpl as derived
use Rattle.spec_matches.specs.Embedding.{IsWayFrom}
use Rattle.ts_search.specs.Adding.{FindsMost}
use Rattle.ts_search.specs.Table.{Takes}

-- two keys are equal
abbrev pub key_eq : Key → Key → Bool
key_eq = (derived.eq-value).it

-- the ways to embed items from a number on in some siblings from a place on
abbrev pub WaysOf : Siblings → List Slot → ℕ → ℕ → Bool → Placing → Type 0
WaysOf s slots number lo beside = IsWayFrom (Takes s.table) s.named s.closed slots number lo beside

-- a way without its places
abbrev pub IsBare : Placing → Placing → Type 0
IsBare g f = f ≡ record { first = None; near = false; captures = g.captures }

-- a way has the captures of another
abbrev pub HasSameCaptures : Placing → Placing → Type 0
HasSameCaptures f g = f.captures ≡ g.captures

-- some ways, or those of them that begin at a place
abbrev pub Begun : Bool → ℕ → (Placing → Type 0) → Placing → Type 0
Begun here lo W f = W f × (here ≡ true → f.first ≡ Some lo)

-- some ways, as they are asked for
abbrev pub Told : Wanted → ℕ → (Placing → Type 0) → Placing → Type 0
Told All lo W f = W f
Told Here lo W f = W f × (f.first ≡ Some lo)
Told Captures lo W f = (g : Placing) × W g × IsBare g f

-- ways are kept for a key
abbrev pub IsThere : (Key → Option (List Placing)) → Key → Type 0
IsThere look key = (v : List Placing) × (look key ≡ Some v)

-- the ways that a key asks for
abbrev pub TellsOf : Siblings → List Slot → Key → Placing → Type 0
TellsOf s all key =
    Told key.wanted key.lo (WaysOf s (drop key.number all) key.number key.lo key.beside)

-- each list that is kept has ways that its key asks for, and all of them but for what was left out
abbrev pub IsMemo : Siblings → List Slot → Bool → (Key → Option (List Placing)) → Type 0
IsMemo s all cut look = (key : Key) (v : List Placing) → look key ≡ Some v
    → FindsMost (TellsOf s all key) cut cut v
