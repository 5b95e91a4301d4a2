-- Reading from left to right: what is read and the bytes behind it, or the first flaw. A flaw is
-- told by how many bytes there are from its place on.
use Rattle.std.specs.Prelude.{◌≡◌, ℕ, zero, suc, Bool, List, [], ◌∷◌, length, take, drop, Result, Ok, Err, nat_lt, if◌then◌else◌}
use Rattle.std.specs.Int.{Width, byte_len, from_be_bytes}
use Rattle.ts_base.specs.Bytes.{Bytes}
use Rattle.ts_langfile.specs.declared.flaw.Flaw.{Flaw}
use Rattle.ts_langfile.specs.declared.flaw.Flaw.TheVariants.{Short, Field}
use Rattle.ts_langfile.specs.declared.flaw.Stop.{Stop}
use Rattle.ts_langfile.specs.declared.flaw.Stop.TheVariants as stop

-- a value and the bytes behind it, or a flaw
abbrev pub SeenBytes : Type 0 → Type 0
SeenBytes A = Result (A × Bytes) Flaw

-- how a part is read at the beginning of bytes
abbrev pub Reader : Type 0 → Type 0
Reader A = Bytes → SeenBytes A

-- what is read next by what was read, from the bytes behind it; a flaw ends the reading
abbrev pub going_on : {A B : Type 0} → SeenBytes A → (A → Reader B) → SeenBytes B
going_on (Ok x) next = next x.0 x.1
going_on (Err flaw) next = Err flaw

infixl 10 ◌>>=◌
-- one part, and then the next, which may rest on the first
abbrev pub ◌>>=◌ : {A B : Type 0} → Reader A → (A → Reader B) → Reader B
◌>>=◌ part next = λ bytes. going_on (part bytes) next

-- the value is there already, and no byte is read
abbrev pub give : {A : Type 0} → A → Reader A
give x = λ bytes. Ok (x, bytes)

-- ---- the smallest parts

-- a single byte
abbrev pub byte_at : Reader ℕ
byte_at [] = Err (Short 0)
byte_at (b ∷ bytes) = Ok (b, bytes)

-- so many bytes
unfoldable pub bytes_at : ℕ → Reader Bytes
bytes_at n bytes =
    if nat_lt (length bytes) n then Err (Short (length bytes)) else Ok (take n bytes, drop n bytes)

-- a number of so many bits, the byte of greatest weight first
unfoldable pub number_at : Width → Reader ℕ
number_at w bytes = if nat_lt (length bytes) (byte_len w) then Err (Short (length bytes))
    else Ok (from_be_bytes w (take (byte_len w) bytes), drop (byte_len w) bytes)

-- the value where it passes the test, else a flaw of the field at `place`
abbrev pub passing : {A : Type 0} → (A → Bool) → Bytes → SeenBytes A → SeenBytes A
passing test place (Ok x) = if test x.0 then Ok x else Err (Field (length place))
passing test place (Err flaw) = Err flaw

-- a part with a point that has to hold of it
abbrev pub tested : {A : Type 0} → Reader A → (A → Bool) → Reader A
tested part test = λ bytes. passing test bytes (part bytes)

-- ---- several parts of one kind

-- so many
abbrev pub times : {A : Type 0} → ℕ → Reader A → Reader (List A)
times zero part = give []
times (suc n) part = do
  first ← part
  others ← times n part
  give (first ∷ others)

-- so many, each judged by a state that goes on from one to the next
abbrev pub in_turn : {S A : Type 0} → (S → Reader A) → (S → A → S) → ℕ → S → Reader (List A)
in_turn part after zero state = give []
in_turn part after (suc n) state = do
  first ← part state
  others ← in_turn part after n (after state first)
  give (first ∷ others)

-- ---- what a function of the code answers

-- it stops so, unless memory runs out
abbrev pub StopsWith : {A : Type 0} → Stop → SeenBytes A → Type 0
StopsWith stop.Memory read = Unit {0}
StopsWith (stop.Flawed flaw) read = read ≡ Err flaw

-- what is returned, as `view` sees it, is what is read, unless memory runs out
abbrev pub Gives : {A B : Type 0} → (A → B × Bytes) → Result A Stop → SeenBytes B → Type 0
Gives view (Ok x) read = read ≡ Ok (view x)
Gives view (Err stop) read = StopsWith stop read
