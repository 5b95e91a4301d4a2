-- The kinds of values in a grammar file: what a value of the kind is read as, and `None` for every
-- other value.
use Rattle.std.specs.Prelude.{ℕ, ◌+◌, ◌^◌, Bool, ◌&&◌, ◌||◌, ◌==◌, nat_lt, if◌then◌else◌, [], drop, length, slice_index, Option, Some, None, option_map, option_and_then, unwrap_or, ℤ, pos, neg_ℤ}
use Rattle.std.specs.Str.{all_ascii_digits}
use Rattle.std.specs.Str.Parse.{digits_value}
use Rattle.std.specs.List.{list_all, list_any}
use Rattle.ts_base.specs.Bytes.{Bytes}
use Rattle.ts_ojson.specs.Json.{Json, null, boolean, number, string, array, object, Items, no_items, item, Members}
use Rattle.ts_core.specs.declared.rule.PrecValue.{PrecValue}
use Rattle.ts_core.specs.declared.rule.PrecValue.TheVariants.{Number, Name}

-- a text, as its bytes
abbrev pub text_of : Json → Option Bytes
text_of (string text) = Some text
text_of _ = None

-- true or false
abbrev pub truth_of : Json → Option Bool
truth_of (boolean b) = Some b
truth_of _ = None

-- an array, as its items
abbrev pub array_of : Json → Option Items
array_of (array js) = Some js
array_of _ = None

-- an array that isn't empty
abbrev pub some_of : Items → Option Items
some_of no_items = None
some_of (item j js) = Some (item j js)

-- the items of an array that isn't empty
abbrev pub some_items_of : Json → Option Items
some_items_of value = option_and_then some_of (array_of value)

-- an object, as its members
abbrev pub object_of : Json → Option Members
object_of (object ms) = Some ms
object_of _ = None

-- a text, or null for none
abbrev pub word_of : Json → Option (Option Bytes)
word_of (string text) = Some (Some text)
word_of null = Some None
word_of _ = None

-- ---- flags of a pattern: a text of i and u alone, read as whether an i is in it

-- the byte is an i
abbrev pub is_i : ℕ → Bool
is_i byte = byte == 105

-- the byte is an i or a u
abbrev pub is_flag : ℕ → Bool
is_flag byte = is_i byte || byte == 117

-- whether an i is in the text, or nothing where the text is not of i and u alone
abbrev pub flags_in : Bytes → Option Bool
flags_in text = if list_all is_flag text then Some (list_any is_i text) else None

-- whether an i is in a text of flags
abbrev pub flags_of : Json → Option Bool
flags_of value = option_and_then flags_in (text_of value)

-- ---- whole numbers: digits, after a minus or none, without fraction and exponent, that fit 32
-- bits with a sign

-- one digit or more and nothing else, whose number is below the bound
abbrev pub is_numeral_below : ℕ → Bytes → Bool
is_numeral_below bound digits =
    nat_lt 0 (length digits) && all_ascii_digits digits && nat_lt (digits_value 10 digits) bound

-- the number that digits spell, where it is below 2 ^ 31
abbrev pub positive_of : Bytes → Option ℤ
positive_of digits =
    if is_numeral_below (2 ^ 31) digits then Some (pos (digits_value 10 digits)) else None

-- minus the number that digits spell, where that is at most 2 ^ 31
abbrev pub negative_of : Bytes → Option ℤ
negative_of digits =
    if is_numeral_below (2 ^ 31 + 1) digits
    then Some (neg_ℤ (pos (digits_value 10 digits)))
    else None

-- a plus, as a byte: no whole number of JSON begins with one
abbrev pub plus_sign : ℕ
plus_sign = 43

-- the whole number that is spelled so, if one is
abbrev pub integer_of : Bytes → Option ℤ
integer_of spelling =
    if slice_index spelling 0 == 45 then negative_of (drop 1 spelling) else positive_of spelling

-- a whole number
abbrev pub whole_of : Json → Option ℤ
whole_of (number spelling) = integer_of spelling
whole_of _ = None

-- the value of a precedence: a whole number or a name
abbrev pub precedence_of : Json → Option PrecValue
precedence_of (number spelling) = option_map Number (integer_of spelling)
precedence_of (string name) = Some (Name name)
precedence_of _ = None

-- ---- what a member is read as, where there is none or one of another kind the default

-- what the member is read as where it is of the kind, else the default
abbrev pub read_or : {X : Type 0} → X → (Json → Option X) → Option Json → X
read_or default kind value = unwrap_or (option_and_then kind value) default

-- the text of the member, else the empty one
abbrev pub text_in : Option Json → Bytes
text_in value = read_or [] text_of value
