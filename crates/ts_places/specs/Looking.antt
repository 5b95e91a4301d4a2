-- What is seen at the heads of a place.
use Rattle.std.specs.Prelude.{◌≡◌, ℕ, ◌+◌, ◌<◌, ◌≤◌, suc, max, List, [], ◌∷◌, ◌++◌, length, slice_get, Option, Some, None, ◌↔◌}
use Rattle.std.specs.List.{Contains}
use Rattle.ts_base.specs.Bytes.{Bytes}
use Rattle.ts_core.specs.declared.symbol.Symbol.{Symbol}
use Rattle.spec_lexing.specs.Lexing.{Found, token, absent}
use Rattle.spec_graph.specs.declared.graph.Head.{Head}
use Rattle.spec_graph.specs.Laying.{SeesAt}
use Rattle.spec_graph.specs.Links.{IsAt}
use Rattle.ts_graph.specs.declared.view.GraphView.{GraphView}
use Rattle.ts_table.specs.declared.view.ParseTable.{ParseTable}
use Rattle.ts_lexer.specs.declared.lexed.Lexed.{Lexed}
use Rattle.ts_lexer.specs.declared.lexed.Lexed.TheVariants.{Token, Absent}
use Rattle.ts_table.specs.Tables.{actions_of}
use Rattle.ts_reductions.specs.declared.room.Room.{Room}
use Rattle.ts_reductions.specs.declared.top.Top.{Top}
use Rattle.ts_reductions.specs.Again.{HasLed}
use Rattle.ts_reductions.specs.Sound.{parsing_of}
use Rattle.ts_places.specs.declared.sights.Span.{Span}
use Rattle.ts_places.specs.declared.sights.Sights.{Sights}

-- ---- heads at a place

-- the head of this number stands at the place
abbrev pub IsHeadAt : GraphView → ℕ → ℕ → Type 0
IsHeadAt g look h = (head : Head) × (slice_get g.heads h ≡ Some head) × (head.place ≡ look)

-- so do all of these
abbrev pub AllStandAt : GraphView → ℕ → List ℕ → Type 0
AllStandAt g look heads = (h : ℕ) → Contains heads h → IsHeadAt g look h

-- each head that stands at the place is one of these
abbrev pub HasAllAt : GraphView → ℕ → List ℕ → Type 0
HasAllAt g look heads = (h : ℕ) → IsHeadAt g look h → Contains heads h

-- the heads at the place from a number on are these
abbrev pub AreHeadsAt : GraphView → ℕ → ℕ → List ℕ → Type 0
AreHeadsAt g from look heads =
    (h : ℕ) → Contains heads h ↔ ((from ≤ h) × IsHeadAt g look h)

-- the same of those below another number
pub record AreHeadsUpTo (g : GraphView) (from to look : ℕ) (heads : List ℕ) : Type 0 where
  pub past : from ≤ to
  pub are : (h : ℕ) → Contains heads h ↔ ((from ≤ h) × (h < to) × IsHeadAt g look h)

-- ---- what one of them sees

-- The head of the top stands at the place and sees the token there, with these bytes. It has bytes
-- if it is not the end, and what was examined for it is more, and lies in the text and its end.
pub record IsTopWith (t : ParseTable) (text : Bytes) (g : GraphView) (look : ℕ) (top : Top)
    (span : Span) : Type 0 where
  pub read : List ℕ
  pub at : IsAt (parsing_of t text) g.heads top.head read look
  pub sees : SeesAt (parsing_of t text) read look (token top.token span.pad span.size)
  pub past : span.pad + span.size < top.ahead
  pub reach : look + top.ahead ≤ suc (length text)
  pub some : 0 < top.token.0 → 0 < span.size

-- the head stands at the place and sees no token, and this is the place after the separators
pub record StopsThere (t : ParseTable) (text : Bytes) (g : GraphView) (look h stop : ℕ)
    : Type 0 where
  pub read : List ℕ
  pub at : IsAt (parsing_of t text) g.heads h read look
  pub far : ℕ
  pub sees : SeesAt (parsing_of t text) read look (absent far)
  pub stop_is : stop ≡ look + far

-- the head stands at the place and sees something there
pub record SeesSome (t : ParseTable) (text : Bytes) (g : GraphView) (look h : ℕ) : Type 0 where
  pub read : List ℕ
  pub at : IsAt (parsing_of t text) g.heads h read look
  pub found : Found
  pub sees : SeesAt (parsing_of t text) read look found

-- the token that a head sees
abbrev pub top_with : ℕ → Symbol → ℕ → Top
top_with h symbol ahead = record { head = h; token = symbol; ahead = ahead }

-- the bytes of a token
abbrev pub span_with : ℕ → ℕ → Span
span_with pad size = record { pad = pad; size = size }

-- what was lexed is what the head sees
abbrev pub SeesThere : ParseTable → Bytes → GraphView → ℕ → ℕ → Lexed → Type 0
SeesThere t text g look h (Token symbol pad size extent) =
    IsTopWith t text g look (top_with h symbol extent) (span_with pad size)
SeesThere t text g look h (Absent place extent) = StopsThere t text g look h place

-- ---- what all of them see

-- the greatest place at which one of the heads stops, and none where no head does
abbrev pub IsLastAmong : ParseTable → Bytes → GraphView → ℕ → List ℕ → Option ℕ → Type 0
IsLastAmong t text g look heads None =
    (h stop : ℕ) → Contains heads h → StopsThere t text g look h stop → ⊥
IsLastAmong t text g look heads (Some last) =
    ((h : ℕ) × Contains heads h × StopsThere t text g look h last)
    × ((h stop : ℕ) → Contains heads h → StopsThere t text g look h stop → stop ≤ last)

-- What these heads see, all of which stand at the place: something each, a top for each that sees a
-- token, with its bytes, and the greatest place at which one stops that sees none.
pub record AreSights (t : ParseTable) (text : Bytes) (g : GraphView) (look : ℕ) (heads : List ℕ)
    (s : Sights) : Type 0 where
  pub stand : AllStandAt g look heads
  pub some : (h : ℕ) → Contains heads h → SeesSome t text g look h
  pub count : length s.tops.items ≡ length s.spans.items
  pub each : (k : ℕ) (top : Top) (span : Span) → slice_get s.tops.items k ≡ Some top
      → slice_get s.spans.items k ≡ Some span
      → IsTopWith t text g look top span × Contains heads top.head
  pub all : (h : ℕ) (read : List ℕ) (symbol : Symbol) (pad size : ℕ) → Contains heads h
      → IsAt (parsing_of t text) g.heads h read look
      → SeesAt (parsing_of t text) read look (token symbol pad size)
      → (top : Top) × Contains s.tops.items top × (top.head ≡ h) × (top.token ≡ symbol)
  pub stop : IsLastAmong t text g look heads s.stop

-- ---- what is seen again

-- the top is one of those that are seen, with these bytes
abbrev pub HasSight : Sights → Top → Span → Type 0
HasSight s top span =
    (k : ℕ) × (slice_get s.tops.items k ≡ Some top) × (slice_get s.spans.items k ≡ Some span)

-- A reduction stayed on the token of a top, and led to the state of the head. Some action stays on
-- it there, and this is that token.
pub record IsSeenAgain (t : ParseTable) (g : GraphView) (room : Room) (s : Sights) (h : ℕ)
    (lexed : Lexed) : Type 0 where
  pub head : Head
  pub at : slice_get g.heads h ≡ Some head
  pub top : Top
  pub led : HasLed room head.state top
  pub acts : 0 < length (actions_of t head.state top.token.0)
  pub span : Span
  pub sight : HasSight s top span
  pub is : lexed ≡ Token top.token span.pad span.size top.ahead

-- ---- one more

-- the greater of two places, or the one that there is
abbrev pub later : Option ℕ → ℕ → Option ℕ
later None place = Some place
later (Some last) place = Some (max last place)

-- what one more head sees was put to what others see
abbrev pub AddsSight : ℕ → Lexed → Sights → Sights → Type 0
AddsSight h (Token symbol pad size extent) old new =
    (new.tops.items ≡ old.tops.items ++ top_with h symbol extent ∷ [])
    × (new.spans.items ≡ old.spans.items ++ span_with pad size ∷ []) × (new.stop ≡ old.stop)
AddsSight h (Absent place extent) old new =
    (new.tops.items ≡ old.tops.items) × (new.spans.items ≡ old.spans.items)
    × (new.stop ≡ later old.stop place)
