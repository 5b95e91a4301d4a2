-- What the reader's states mean: which bytes complete them to a text of which value.
use Rattle.std.proofs.Common.{◌≡◌, ℕ, ◌⊎◌, List, [], ◌∷◌, ◌++◌, drop, Option, Some, None}
use Rattle.std.specs.Char.{encode_utf8}
use Rattle.ts_ojson.specs.declared.part.Part.{Part}
use Rattle.ts_ojson.specs.declared.part.Part.TheVariants as part
use Rattle.ts_ojson.specs.declared.escape.Escape.{Escape}
use Rattle.ts_ojson.specs.declared.escape.Escape.TheVariants.{Plain, Backslash, First, Second, Third, Fourth, High, HighBackslash, LowFirst, LowSecond, LowThird, LowFourth}
use Rattle.ts_ojson.specs.Pieces.{Piece}
use Rattle.ts_ojson.specs.Pieces.{reading, finished}
use Rattle.ts_ojson.specs.Frames as frame
use Rattle.ts_ojson.specs.Roles.{Role}
use Rattle.ts_ojson.specs.Roles as role
use Rattle.ts_ojson.specs.States.{State}
use Rattle.ts_ojson.specs.States as state
use Rattle.ts_ojson.specs.declared.value.OJson.{OJson}
use Rattle.ts_ojson.specs.Json.{Json, number, string, array, object, Items, item, Members, member, json_of}
use Rattle.ts_ojson.specs.Number.{Digits, SomeDigits, Whole, Fraction, Sign, Exponent}
use Rattle.ts_ojson.specs.Characters.{Hex, Unit16, IsHigh, IsLow, IsAlone, pair_of, Mark, Characters, Quoted}
use Rattle.ts_ojson.specs.Text.{Blanks, Value, FirstItem, MoreItems, FirstMember, MoreMembers}
use Rattle.ts_ojson.specs.Machine.{Frames, Gathered, word_bytes, word_value, Outcome, stuck, goes}

-- ---- numbers: w goes on with the number after this part, and r follows it
abbrev pub Tail : Part → List ℕ → List ℕ → Type 0
Tail part.Minus w r = (b : List ℕ) × (c : List ℕ) × Whole w b × Fraction b c × Exponent c r
Tail part.Zero w r = (c : List ℕ) × Fraction w c × Exponent c r
Tail part.Whole w r = (b : List ℕ) × (c : List ℕ) × Digits w b × Fraction b c × Exponent c r
Tail part.Point w r = (c : List ℕ) × SomeDigits w c × Exponent c r
Tail part.Fraction w r = (c : List ℕ) × Digits w c × Exponent c r
Tail part.Exponent w r = (c : List ℕ) × Sign w c × SomeDigits c r
Tail part.Sign w r = SomeDigits w r
Tail part.Power w r = Digits w r

-- ---- strings: w goes on with the string whose bytes so far are s, and the rest has K
abbrev pub Plainly : List ℕ → (List ℕ → List ℕ → Type 0) → List ℕ → Type 0
Plainly s K w = (ms : List Mark) × (t : List ℕ) × (r : List ℕ) × Characters ms t w r × K (s ++ t) r

abbrev pub Paired : ℕ → List ℕ → (List ℕ → List ℕ → Type 0) → List ℕ → Type 0
Paired h s K w = (l : ℕ) × (a : List ℕ) × IsLow l × Unit16 l w a × Plainly (s ++ encode_utf8 (pair_of h l)) K a

abbrev pub UnitRest : ℕ → ℕ → List ℕ → (List ℕ → List ℕ → Type 0) → List ℕ → Type 0
UnitRest c n s K w = (u : ℕ) × (a : List ℕ) × Hex c n u w a × ((IsAlone u × Plainly (s ++ encode_utf8 u) K a) ⊎ (IsHigh u × Paired u s K a))

abbrev pub LowRest : ℕ → ℕ → ℕ → List ℕ → (List ℕ → List ℕ → Type 0) → List ℕ → Type 0
LowRest h c n s K w = (l : ℕ) × (a : List ℕ) × IsLow l × Hex c n l w a × Plainly (s ++ encode_utf8 (pair_of h l)) K a

abbrev pub InText : Escape → List ℕ → (List ℕ → List ℕ → Type 0) → List ℕ → Type 0
InText Plain s K w = Plainly s K w
InText Backslash s K w = Plainly s K (92 ∷ w)
InText First s K w = UnitRest 4 0 s K w
InText (Second n) s K w = UnitRest 3 n s K w
InText (Third n) s K w = UnitRest 2 n s K w
InText (Fourth n) s K w = UnitRest 1 n s K w
InText (High h) s K w = Paired h s K w
InText (HighBackslash h) s K w = Paired h s K (92 ∷ w)
InText (LowFirst h) s K w = LowRest h 4 0 s K w
InText (LowSecond h) s K w = LowRest h 3 13 s K w
InText (LowThird h n) s K w = LowRest h 2 n s K w
InText (LowFourth h n) s K w = LowRest h 1 n s K w

abbrev pub PieceMeans : (List ℕ → List ℕ → Type 0) → List ℕ → Option Piece → Type 0
PieceMeans K w None = ⊥
PieceMeans K w (Some (reading e s)) = InText e s K w
PieceMeans K w (Some (finished s)) = K s w

-- ---- values
abbrev pub onto_items : List OJson → Items → Items
onto_items [] m = m
onto_items (x ∷ xs) m = item (json_of x) (onto_items xs m)

abbrev pub onto_members : Gathered → Members → Members
onto_members [] m = m
onto_members (x ∷ xs) m = member x.0 (json_of x.1) (onto_members xs m)

-- r follows the value j, within what is open, and completes the text of v
abbrev pub Rest : Frames → Json → Json → List ℕ → Type 0
Rest [] j v r = (v ≡ j) × Blanks r []
Rest (frame.array xs ∷ k) j v r =
    (a : List ℕ) × (m : Items) × (t : List ℕ) × Blanks r a × MoreItems m a t × Rest k (array (onto_items xs (item j m))) v t
Rest (frame.object ms n ∷ k) j v r =
    (a : List ℕ) × (m : Members) × (t : List ℕ) × Blanks r a × MoreMembers m a t × Rest k (object (onto_members ms (member n j m))) v t

-- a value that begins at w, behind blanks
abbrev pub Begun : Frames → Json → List ℕ → Type 0
Begun k v w = (a : List ℕ) × (j : Json) × (b : List ℕ) × Blanks w a × Value j a b × Rest k j v b

-- the rest of an object from a colon on, whose first members and name stand
abbrev pub Coloned : Gathered → List ℕ → Frames → Json → List ℕ → Type 0
Coloned ms n k v w = (u : List ℕ) × Blanks w (58 ∷ u) × Begun (frame.object ms n ∷ k) v u

abbrev pub TextEnd : Role → Frames → Json → List ℕ → List ℕ → Type 0
TextEnd role.value k v s r = Rest k (string s) v r
TextEnd (role.name p ms) k v s r = Coloned ms s k v r

abbrev pub Completes : State → Frames → Json → List ℕ → Type 0
Completes state.value k v w = Begun k v w
Completes state.first_item k v w = (m : Items) × (t : List ℕ) × FirstItem m w t × Rest k (array m) v t
Completes (state.after j) k v w = Rest k (json_of j) v w
Completes state.first_name k v w = (m : Members) × (t : List ℕ) × FirstMember m w t × Rest k (object m) v t
Completes (state.name ms) k v w = (a : List ℕ) × (n : List ℕ) × (b : List ℕ) × Blanks w a × Quoted n a b × Coloned ms n k v b
Completes (state.colon ms n) k v w = Coloned ms n k v w
Completes (state.word x i) k v w = (r : List ℕ) × (w ≡ drop i (word_bytes x) ++ r) × Rest k (json_of (word_value x)) v r
Completes (state.number p s) k v w = (t : List ℕ) × (r : List ℕ) × (w ≡ t ++ r) × Tail p t [] × Rest k (number (s ++ t)) v r
Completes (state.text e s r) k v w = InText e s (TextEnd r k v) w

abbrev pub Means : Outcome → Json → List ℕ → Type 0
Means stuck v w = ⊥
Means (goes q s k) v w = Completes s k v w
