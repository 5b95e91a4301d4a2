-- What a backslash and what follows it stand for. Each definition says what stands from place i
-- on, where the backslash is.
use Rattle.std.specs.Prelude.{ℕ, ◌+◌, Bool, true, false, ◌&&◌, ◌||◌, ◌==◌, nat_le, List, take, drop, Option, Some, None, if◌then◌else◌, codes}
use Rattle.std.specs.Option.{option_or}
use Rattle.std.specs.Char.{is_ascii_punctuation}
use Rattle.ts_base.specs.Bytes.{Bytes}
use Rattle.ucd_sets.specs.declared.set.Set.{Set}
use Rattle.ucd_sets.specs.Loose.{normalize}
use Rattle.ucd_sets.specs.Lookup.{by_name, by_value}
use Rattle.ts_pattern.specs.declared.sight.Flaw.TheVariants.{Syntax, Unsupported, UnknownProperty}
use Rattle.ts_pattern.specs.declared.sight.Sight.{Sight}
use Rattle.ts_pattern.specs.declared.sight.Sight.TheVariants.{Sees, Wrong}
use Rattle.ts_pattern.specs.declared.item.Base.TheVariants.{Digit, Word, Space, Property}
use Rattle.ts_pattern.specs.declared.item.Item.{Item}
use Rattle.ts_pattern.specs.declared.item.Mark.{Mark}
use Rattle.ts_pattern.specs.declared.item.Mark.TheVariants.{Char, Class}
use Rattle.ts_pattern.specs.declared.property.Table.{Table}
use Rattle.ts_pattern.specs.declared.property.Table.TheVariants.{Any, Category, Script}
use Rattle.ts_pattern.specs.Characters.{Text, ending, open_brace, close_brace, backslash, peek, spells, run, number, is_hex, is_name_char, is_scalar}

-- `\d \w \s`, and `\D \W \S` for the characters that are none of them
abbrev pub shorthand : ℕ → Option Item
shorthand c =
    if c == 100 then Some (record { base = Digit; lacking = false })
    else if c == 119 then Some (record { base = Word; lacking = false })
    else if c == 115 then Some (record { base = Space; lacking = false })
    else if c == 68 then Some (record { base = Digit; lacking = true })
    else if c == 87 then Some (record { base = Word; lacking = true })
    else if c == 83 then Some (record { base = Space; lacking = true })
    else None

-- `\n \r \t \f \v \0`, and ASCII punctuation for itself
abbrev pub escaped_char : ℕ → Option ℕ
escaped_char c =
    if c == 110 then Some 10
    else if c == 114 then Some 13
    else if c == 116 then Some 9
    else if c == 102 then Some 12
    else if c == 118 then Some 11
    else if c == 48 then Some 0
    else if is_ascii_punctuation c then Some c
    else None

-- a code by its digits has to be a character's
abbrev pub coded : ℕ → ℕ → ℕ → Sight Mark
coded i c j = if is_scalar c then Sees (Char c) j else Wrong Syntax i

-- `\xHH` and `\uHHHH`
abbrev pub fixed_code : Text → ℕ → ℕ → Sight Mark
fixed_code w i n =
    if nat_le n (run is_hex w (i + 2))
    then coded i (number 16 w (i + 2) n) (i + 2 + n) else Wrong Syntax i

-- `\u{H}` with this many digits
abbrev pub braced_code : Text → ℕ → ℕ → Sight Mark
braced_code w i n =
    if nat_le 1 n && nat_le n 6 && (peek w (i + 3 + n) == close_brace)
    then coded i (number 16 w (i + 3) n) (i + 4 + n) else Wrong Syntax i

-- `\u{H}` or `\uHHHH`
abbrev pub unicode_code : Text → ℕ → Sight Mark
unicode_code w i =
    if peek w (i + 2) == open_brace
    then braced_code w i (run is_hex w (i + 3)) else fixed_code w i 4

-- the set with this name, in the form in which names are compared: a general category, a script,
-- or a binary property
abbrev pub named : Table → Bytes → Option Set
named Any n = option_or (by_value (codes "gc") n) (option_or (by_value (codes "sc") n) (by_name n))
named Category n = by_value (codes "gc") n
named Script n = by_value (codes "sc") n

-- the tables that a prefix of the name picks, and the prefix's length
abbrev pub prefix : Text → ℕ → Table × ℕ
prefix w i =
    if spells w i "gc=" then (Category, 3)
    else if spells w i "General_Category=" then (Category, 17)
    else if spells w i "sc=" then (Script, 3)
    else if spells w i "Script=" then (Script, 7)
    else (Any, 0)

-- the class of the set that a name was found to stand for; a name of no set is unknown
abbrev pub found : ℕ → Bool → ℕ → Option Set → Sight Mark
found i lacking j None = Wrong UnknownProperty i
found i lacking j (Some s) = Sees (Class (record { base = Property s; lacking = lacking })) j

-- `\p{N}` whose N, of these tables, is the n characters from k on
abbrev pub braced_name : Text → ℕ → Bool → Table → ℕ → ℕ → Sight Mark
braced_name w i lacking table k n =
    if nat_le 1 n && (peek w (k + n) == close_brace)
    then found i lacking (k + n + 1) (named table (normalize (take n (drop k w))))
    else Wrong Syntax i

-- `\pN`
abbrev pub short_name : Text → ℕ → Bool → Sight Mark
short_name w i lacking =
    if is_name_char (peek w (i + 2))
    then found i lacking (i + 3) (named Any (normalize (take 1 (drop (i + 2) w))))
    else Wrong Syntax i

-- `\p{N}` or `\pN`, and with `lacking` `\P{N}` or `\PN`
abbrev pub property : Text → ℕ → Bool → Sight Mark
property w i lacking =
    if peek w (i + 2) == open_brace then (
    let k = i + 3 + (prefix w (i + 3)).1 in
    braced_name w i lacking (prefix w (i + 3)).0 k (run is_name_char w k)
    ) else short_name w i lacking

-- an escape of one character, which stands for a class or for a character, or else is wrong
abbrev pub short_escape : ℕ → ℕ → Option Item → Option ℕ → Sight Mark
short_escape i c (Some item) char = Sees (Class item) (i + 2)
short_escape i c None (Some d) = Sees (Char d) (i + 2)
short_escape i c None None = Wrong (if c == ending then Syntax else Unsupported) i

-- the character or the class of an escape
abbrev pub escape : Text → ℕ → Sight Mark
escape w i =
    let c = peek w (i + 1) in
    if c == 120 then fixed_code w i 2
    else if c == 117 then unicode_code w i
    else if c == 112 then property w i false
    else if c == 80 then property w i true
    else short_escape i c (shorthand c) (escaped_char c)

-- an escape that stands for a class begins here
abbrev pub is_class_escape : Text → ℕ → Bool
is_class_escape w i =
    let c = peek w (i + 1) in
    (peek w i == backslash)
    && ((c == 100) || (c == 119) || (c == 115) || (c == 68) || (c == 87) || (c == 83) || (c == 112)
    || (c == 80))
