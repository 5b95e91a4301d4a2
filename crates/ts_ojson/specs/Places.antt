-- What the bytes before a place lead to, for private clauses: the machine's states, where the code
-- has none of them.
use Rattle.std.specs.Prelude.{◌≡◌, ◌≢◌, ℕ, ◌-◌, ◌<◌, ◌≤◌, cond, nat_lt, length, get_or, take, drop, Option, Some, None, ⊤}
use Rattle.ts_base.specs.Bytes.{Bytes}
use Rattle.ts_ojson.specs.declared.class.Class.{Class}
use Rattle.ts_ojson.specs.declared.class.Class.TheVariants as class
use Rattle.ts_ojson.specs.declared.part.Part.{Part}
use Rattle.ts_ojson.specs.declared.stop.Stop.{Stop}
use Rattle.ts_ojson.specs.declared.stop.Stop.TheVariants.{Syntax, Deep, Duplicate, Memory}
use Rattle.ts_ojson.specs.declared.value.OJson.{OJson}
use Rattle.ts_ojson.specs.Characters.{IsRaw}
use Rattle.ts_ojson.specs.States.{State}
use Rattle.ts_ojson.specs.Machine.{Frames, Gathered, class_of, part_next, stuck, goes, fine, too_deep, repeated, stays, begin, name_next, after, next, outcome, ended_in, ended}

-- ---- bytes

-- the bytes from a place up to another
abbrev pub between : Bytes → ℕ → ℕ → Bytes
between w from to = take (to - from) (drop from w)

-- the byte at a place, where there is one
abbrev pub byte_there : Bytes → ℕ → Option ℕ
byte_there w at = cond (nat_lt at (length w)) (Some (get_or w at 0)) None

-- the class of the byte at a place, where there is a byte
abbrev pub class_there : Bytes → ℕ → Option Class
class_there w at = cond (nat_lt at (length w)) (Some (class_of (get_or w at 0))) None

-- the part of a number with the byte at a place, where the number goes on with it
abbrev pub part_there : Bytes → ℕ → Part → Option Part
part_there w at p = cond (nat_lt at (length w)) (part_next p (class_of (get_or w at 0))) None

-- blanks alone stand between two places
abbrev pub AreBlank : Bytes → ℕ → ℕ → Type 0
AreBlank w from to = (i : ℕ) → from ≤ i → i < to → class_there w i ≡ Some class.Blank

-- no blank stands at a place
abbrev pub NoBlank : Bytes → ℕ → Type 0
NoBlank w at = class_there w at ≢ Some class.Blank

-- characters that are written as they are, alone, stand between two places
abbrev pub ArePlain : Bytes → ℕ → ℕ → Type 0
ArePlain w from to = (i : ℕ) → from ≤ i → i < to → IsRaw (get_or w i 0)

-- a control character, or the end, unless a quote or a backslash stands there
abbrev pub NoPlain : Bytes → ℕ → Type 0
NoPlain w at = at < length w → IsRaw (get_or w at 0) → ⊥

-- ---- states

-- the bytes before a place lead to this state within what is open
pub record Reaches (w : Bytes) (at : ℕ) (s : State) (k : Frames) : Type 0 where
  pub within : at ≤ length w
  pub leads : outcome w at ≡ goes fine s k

-- a value ends before a place: what stands there is judged as behind that value
pub record Ends (w : Bytes) (at : ℕ) (v : OJson) (k : Frames) : Type 0 where
  pub state : State
  pub reached : Reaches w at state k
  pub next : at < length w → next at state k (get_or w at 0) ≡ after v k (class_of (get_or w at 0))
  pub last : at ≡ length w → ended_in state ≡ Some v

-- a value begins at a place: what stands there is judged as its first byte
pub record Starts (w : Bytes) (at : ℕ) (k : Frames) : Type 0 where
  pub state : State
  pub inner : Frames
  pub reached : Reaches w at state inner
  pub next : at < length w → next at state inner (get_or w at 0) ≡ begin k (get_or w at 0)
  pub last : ended state inner ≡ None

-- a name begins at a place, behind these members
pub record Named (w : Bytes) (at : ℕ) (ms : Gathered) (k : Frames) : Type 0 where
  pub state : State
  pub reached : Reaches w at state k
  pub next : at < length w
      → next at state k (get_or w at 0) ≡ stays (name_next at ms (class_of (get_or w at 0))) k
  pub blank : NoBlank w at
  pub last : ended state k ≡ None

-- ---- why reading stops

-- no text goes on at a place
pub record IsStuck (w : Bytes) (at : ℕ) : Type 0 where
  pub state : State
  pub inner : Frames
  pub reached : Reaches w at state inner
  pub next : at < length w → next at state inner (get_or w at 0) ≡ stuck
  pub last : at ≡ length w → ended state inner ≡ None

-- the byte at a place opens a level too many
pub record IsDeep (w : Bytes) (at : ℕ) : Type 0 where
  pub state : State
  pub inner : Frames
  pub reached : Reaches w at state inner
  pub within : at < length w
  pub to : State
  pub around : Frames
  pub next : next at state inner (get_or w at 0) ≡ goes too_deep to around

-- a name whose quote opens at p ends for the second time
pub record IsTaken (w : Bytes) (p : ℕ) : Type 0 where
  pub close : ℕ
  pub state : State
  pub inner : Frames
  pub reached : Reaches w close state inner
  pub within : close < length w
  pub to : State
  pub around : Frames
  pub next : next close state inner (get_or w close 0) ≡ goes (repeated p) to around

-- the cause of each stop; running out of memory has none
abbrev pub Refused : Stop → Bytes → Type 0
Refused (Syntax p) w = IsStuck w p
Refused (Deep p) w = IsDeep w p
Refused (Duplicate p) w = IsTaken w p
Refused Memory w = ⊤
