-- How a text goes on, byte for byte, for private clauses and proofs. What the states mean is said
-- in proofs/Meaning.antt.
use Rattle.std.specs.Prelude.{ℕ, zero, suc, ◌+◌, List, [], ◌∷◌, ◌++◌, length, get_or, Bool, true, false, cond, ◌&&◌, ◌==◌, nat_lt, nat_le, Option, Some, None}
use Rattle.ts_base.specs.Bytes.{Bytes}
use Rattle.ts_ojson.specs.declared.class.Class.{Class}
use Rattle.ts_ojson.specs.declared.class.Class.TheVariants as class
use Rattle.ts_ojson.specs.declared.part.Part.{Part}
use Rattle.ts_ojson.specs.declared.part.Part.TheVariants as part
use Rattle.ts_ojson.specs.declared.escape.Escape.{Escape}
use Rattle.ts_ojson.specs.declared.escape.Escape.TheVariants.{Plain}
use Rattle.ts_ojson.specs.Pieces.{Piece}
use Rattle.ts_ojson.specs.Pieces.{reading, finished}
use Rattle.ts_ojson.specs.Frames.{Frame}
use Rattle.ts_ojson.specs.Frames as frame
use Rattle.ts_ojson.specs.declared.word.Word.{Word}
use Rattle.ts_ojson.specs.declared.word.Word.TheVariants as word
use Rattle.ts_ojson.specs.Roles.{Role}
use Rattle.ts_ojson.specs.Roles as role
use Rattle.ts_ojson.specs.States.{State}
use Rattle.ts_ojson.specs.States as state
use Rattle.ts_ojson.specs.declared.value.OJson.{OJson}
use Rattle.ts_ojson.specs.declared.value.OJson.TheVariants as json
use Rattle.ts_ojson.specs.Gathered.{has_name}
use Rattle.ts_ojson.specs.Json.{most_deep}
use Rattle.ts_ojson.specs.Strings.{next_piece}

-- the arrays and objects that are open, the innermost first
abbrev pub Frames : Type 0
Frames = List Frame

-- the members that were read of an object, each a name and a value
abbrev pub Gathered : Type 0
Gathered = List (Bytes × OJson)

-- ---- bytes and numbers

-- the class of a byte
abbrev pub class_of : ℕ → Class
class_of b =
    cond (b == 32) class.Blank
    (cond (b == 9) class.Blank
    (cond (b == 13) class.Blank
    (cond (b == 10) class.Blank
    (cond (b == 34) class.Quote
    (cond (b == 44) class.Comma
    (cond (b == 58) class.Colon
    (cond (b == 91) class.OpenArray
    (cond (b == 93) class.CloseArray
    (cond (b == 123) class.OpenObject
    (cond (b == 125) class.CloseObject
    (cond (b == 45) class.Minus
    (cond (b == 43) class.Plus
    (cond (b == 46) class.Point
    (cond (b == 48) class.Zero
    (cond (nat_le 49 b && nat_le b 57) class.Digit
    (cond (b == 101) class.Exponent
    (cond (b == 69) class.Exponent
    (cond (b == 116) class.LetterT
    (cond (b == 102) class.LetterF
    (cond (b == 110) class.LetterN class.Other))))))))))))))))))))

-- the class is one of digits
abbrev pub is_digit_class : Class → Bool
is_digit_class class.Zero = true
is_digit_class class.Digit = true
is_digit_class c = false

-- this part, where the byte is a digit
abbrev pub digit_next : Class → Part → Option Part
digit_next class.Zero p = Some p
digit_next class.Digit p = Some p
digit_next c p = None

-- the part that a point or the letter of an exponent begins
abbrev pub whole_next : Class → Option Part
whole_next class.Point = Some part.Point
whole_next class.Exponent = Some part.Exponent
whole_next c = None

-- the part behind a minus: a zero alone, or digits that begin with none
abbrev pub minus_next : Class → Option Part
minus_next class.Zero = Some part.Zero
minus_next class.Digit = Some part.Whole
minus_next c = None

-- the part after one more byte behind digits that are before the point
abbrev pub more_whole : Class → Option Part
more_whole class.Zero = Some part.Whole
more_whole class.Digit = Some part.Whole
more_whole c = whole_next c

-- the part after one more byte behind digits that are after the point
abbrev pub more_fraction : Class → Option Part
more_fraction class.Exponent = Some part.Exponent
more_fraction c = digit_next c part.Fraction

-- the part behind the letter of an exponent: its sign, or its digits
abbrev pub exponent_next : Class → Option Part
exponent_next class.Plus = Some part.Sign
exponent_next class.Minus = Some part.Sign
exponent_next c = digit_next c part.Power

-- the part after one more byte, where the number goes on with it
abbrev pub part_next : Part → Class → Option Part
part_next part.Minus c = minus_next c
part_next part.Zero c = whole_next c
part_next part.Whole c = more_whole c
part_next part.Point c = digit_next c part.Fraction
part_next part.Fraction c = more_fraction c
part_next part.Exponent c = exponent_next c
part_next part.Sign c = digit_next c part.Power
part_next part.Power c = digit_next c part.Power

-- a number may end in this part
abbrev pub part_ends : Part → Bool
part_ends part.Minus = false
part_ends part.Zero = true
part_ends part.Whole = true
part_ends part.Point = false
part_ends part.Fraction = true
part_ends part.Exponent = false
part_ends part.Sign = false
part_ends part.Power = true

-- the bytes of a word
abbrev pub word_bytes : Word → Bytes
word_bytes word.Null = 110 ∷ 117 ∷ 108 ∷ 108 ∷ []
word_bytes word.True = 116 ∷ 114 ∷ 117 ∷ 101 ∷ []
word_bytes word.False = 102 ∷ 97 ∷ 108 ∷ 115 ∷ 101 ∷ []

-- the value of a word
abbrev pub word_value : Word → OJson
word_value word.Null = json.Null
word_value word.True = json.Bool true
word_value word.False = json.Bool false

-- ---- one byte

-- a byte is fine, opens a level too many, or ends a name that is taken and opens at this place
pub data Verdict : Type 0 where
  fine : Verdict
  too_deep : Verdict
  repeated : ℕ → Verdict

-- no text goes on with the byte, or it leads to this state with these arrays and objects open, the
-- innermost first
pub data Outcome : Type 0 where
  stuck : Outcome
  goes : Verdict → State → Frames → Outcome

-- the byte leads to this state, where there is one, and what is open stays open
abbrev pub stays : Option State → Frames → Outcome
stays None k = stuck
stays (Some s) k = goes fine s k

-- the byte opens an array or an object: too deep where as many as may be are open before it
abbrev pub opens : State → Frames → Outcome
opens s k = goes (cond (nat_lt (length k) most_deep) fine too_deep) s k

-- the state behind the first byte of a number
abbrev pub number_start : Part → ℕ → State
number_start p b = state.number p (b ∷ [])

-- where the first byte of a value leads, by its class
abbrev pub begin_class : Frames → ℕ → Class → Outcome
begin_class k b class.Quote = goes fine (state.text Plain [] role.value) k
begin_class k b class.OpenArray = opens state.first_item k
begin_class k b class.OpenObject = opens state.first_name k
begin_class k b class.Minus = goes fine (number_start part.Minus b) k
begin_class k b class.Zero = goes fine (number_start part.Zero b) k
begin_class k b class.Digit = goes fine (number_start part.Whole b) k
begin_class k b class.LetterT = goes fine (state.word word.True 1) k
begin_class k b class.LetterF = goes fine (state.word word.False 1) k
begin_class k b class.LetterN = goes fine (state.word word.Null 1) k
begin_class k b c = stuck

-- where the first byte of a value leads
abbrev pub begin : Frames → ℕ → Outcome
begin k b = begin_class k b (class_of b)

-- where a byte leads where a value is due, by its class
abbrev pub value_class : Frames → ℕ → Class → Outcome
value_class k b class.Blank = goes fine state.value k
value_class k b c = begin_class k b c

-- where a byte leads behind an item of an array, by its class
abbrev pub after_item : List OJson → OJson → Frames → Class → Outcome
after_item xs j k class.Comma = goes fine state.value (frame.array (xs ++ j ∷ []) ∷ k)
after_item xs j k class.CloseArray = goes fine (state.after (json.Array (xs ++ j ∷ []))) k
after_item xs j k c = stuck

-- the state behind the value of a member, by the class of the byte there
abbrev pub after_member : Gathered → Bytes → OJson → Class → Option State
after_member ms n j class.Comma = Some (state.name (ms ++ (n, j) ∷ []))
after_member ms n j class.CloseObject = Some (state.after (json.Object (ms ++ (n, j) ∷ [])))
after_member ms n j c = None

-- where a byte that is no blank leads behind a value, by what is open round the value
abbrev pub after_within : OJson → Frames → Class → Outcome
after_within j [] c = stuck
after_within j (frame.array xs ∷ k) c = after_item xs j k c
after_within j (frame.object ms n ∷ k) c = stays (after_member ms n j c) k

-- where a byte leads behind a value, by its class
abbrev pub after : OJson → Frames → Class → Outcome
after j k class.Blank = goes fine (state.after j) k
after j k c = after_within j k c

-- where a byte leads behind the bracket that opens an array, by its class
abbrev pub item_first_class : Frames → ℕ → Class → Outcome
item_first_class k b class.Blank = goes fine state.first_item k
item_first_class k b class.CloseArray = goes fine (state.after (json.Array [])) k
item_first_class k b c = begin_class (frame.array [] ∷ k) b c

-- where a byte leads behind the bracket that opens an array
abbrev pub item_first : Frames → ℕ → Outcome
item_first k b = item_first_class k b (class_of b)

-- the state behind the brace that opens an object, by the class of the byte at this place
abbrev pub name_first : ℕ → Class → Option State
name_first at class.Blank = Some state.first_name
name_first at class.CloseObject = Some (state.after (json.Object []))
name_first at class.Quote = Some (state.text Plain [] (role.name at []))
name_first at c = None

-- the state behind a comma of an object, by the class of the byte at this place
abbrev pub name_next : ℕ → Gathered → Class → Option State
name_next at ms class.Blank = Some (state.name ms)
name_next at ms class.Quote = Some (state.text Plain [] (role.name at ms))
name_next at ms c = None

-- where a byte leads behind the name of a member, by its class
abbrev pub colon_next : Gathered → Bytes → Frames → Class → Outcome
colon_next ms n k class.Blank = goes fine (state.colon ms n) k
colon_next ms n k class.Colon = goes fine state.value (frame.object ms n ∷ k)
colon_next ms n k c = stuck

-- where a byte leads behind the first i bytes of a word
abbrev pub word_next : Word → ℕ → Frames → ℕ → Outcome
word_next w i k b =
    cond (nat_lt i (length (word_bytes w)))
    (cond (get_or (word_bytes w) i 0 == b) (goes fine (state.word w (i + 1)) k) stuck)
    (after (word_value w) k (class_of b))

-- where a byte leads in a number: to this part of it, or behind it where it may end
abbrev pub number_part : Part → Bytes → Frames → ℕ → Option Part → Outcome
number_part p s k b (Some q) = goes fine (state.number q (s ++ b ∷ [])) k
number_part p s k b None = cond (part_ends p) (after (json.Num s) k (class_of b)) stuck

-- where a byte leads in or behind a number
abbrev pub number_next : Part → Bytes → Frames → ℕ → Outcome
number_next p s k b = number_part p s k b (part_next p (class_of b))

-- where the quote leads that ends a string, by whether the string is a value or a name
abbrev pub closed : Bytes → Role → Frames → Outcome
closed s role.value k = goes fine (state.after (json.Text s)) k
closed s (role.name p ms) k = goes (cond (has_name s ms) (repeated p) fine) (state.colon ms s) k

-- where a byte of a string leads, by what it makes of the string
abbrev pub text_piece : Role → Frames → Option Piece → Outcome
text_piece r k None = stuck
text_piece r k (Some (reading e s)) = goes fine (state.text e s r) k
text_piece r k (Some (finished s)) = closed s r k

-- where a byte of a string leads
abbrev pub text_next : Escape → Bytes → Role → Frames → ℕ → Outcome
text_next e s r k b = text_piece r k (next_piece e s b)

-- where the byte at this place leads from a state, by what is open
abbrev pub next : ℕ → State → Frames → ℕ → Outcome
next at state.value k b = value_class k b (class_of b)
next at state.first_item k b = item_first k b
next at (state.after j) k b = after j k (class_of b)
next at state.first_name k b = stays (name_first at (class_of b)) k
next at (state.name ms) k b = stays (name_next at ms (class_of b)) k
next at (state.colon ms n) k b = colon_next ms n k (class_of b)
next at (state.word w i) k b = word_next w i k b
next at (state.number p s) k b = number_next p s k b
next at (state.text e s r) k b = text_next e s r k b

-- what one more byte at this place makes of an outcome
abbrev pub on_byte : ℕ → ℕ → Outcome → Outcome
on_byte at b stuck = stuck
on_byte at b (goes fine s k) = next at s k b
on_byte at b (goes too_deep s k) = goes too_deep s k
on_byte at b (goes (repeated p) s k) = goes (repeated p) s k

-- what the bytes before a place lead to
abbrev pub outcome : Bytes → ℕ → Outcome
outcome w zero = goes fine state.value []
outcome w (suc at) = on_byte at (get_or w at 0) (outcome w at)

-- ---- the end

-- the value that is whole in this state, if one is
abbrev pub ended_in : State → Option OJson
ended_in state.value = None
ended_in state.first_item = None
ended_in (state.after j) = Some j
ended_in state.first_name = None
ended_in (state.name ms) = None
ended_in (state.colon ms n) = None
ended_in (state.word w i) = cond (nat_lt i (length (word_bytes w))) None (Some (word_value w))
ended_in (state.number p s) = cond (part_ends p) (Some (json.Num s)) None
ended_in (state.text e s r) = None

-- the value of a text that ends here, where nothing is open and a value is whole
abbrev pub ended : State → Frames → Option OJson
ended s [] = ended_in s
ended s (f ∷ k) = None
