-- The signs that a pattern is written with, one after another. Each definition says what stands
-- from place i on.
use Rattle.std.specs.Prelude.{◌≡◌, ℕ, ◌+◌, ◌<◌, min, Bool, true, false, ◌||◌, ◌==◌, nat_lt, List, [], ◌∷◌, length, Some, None, if◌then◌else◌, ◌⊎◌}
use Rattle.ts_pattern.specs.declared.sight.Flaw.{Flaw}
use Rattle.ts_pattern.specs.declared.sight.Flaw.TheVariants.{Syntax, Unsupported}
use Rattle.ts_pattern.specs.declared.sight.Sight.{Sight}
use Rattle.ts_pattern.specs.declared.sight.Sight.TheVariants.{Sees, Wrong}
use Rattle.ts_pattern.specs.declared.item.Base.TheVariants.{Range}
use Rattle.ts_pattern.specs.declared.item.Item.{Item}
use Rattle.ts_pattern.specs.declared.item.CharSet.{CharSet}
use Rattle.ts_pattern.specs.declared.item.Mark.{Mark}
use Rattle.ts_pattern.specs.declared.item.Mark.TheVariants.{Char, Class, Join}
use Rattle.ts_pattern.specs.declared.sign.Sign.{Sign}
use Rattle.ts_pattern.specs.declared.sign.Sign.TheVariants as sign
use Rattle.ts_pattern.specs.Characters.{Text, question, open_bracket, backslash, open_brace, close_brace, peek, run, number, is_decimal}
use Rattle.ts_pattern.specs.Escapes.{escape}
use Rattle.ts_pattern.specs.Limits.{most_counted}
use Rattle.ts_pattern.specs.Classes.{one, is_inverted, IsClass, IsWrongClass}

-- A count, which stops at 65,536: that is one more than the most that a pattern may have.
abbrev pub count : Text → ℕ → ℕ → ℕ
count w i n = min (most_counted + 1) (number 10 w i n)

-- the set of one item, and its complement
abbrev pub set_of : Bool → Item → Sign
set_of inverted item = sign.Set (record { inverted = inverted; items = item ∷ [] })

-- the set of one character
abbrev pub char : ℕ → Sign
char c = set_of false (one (Range c c))

-- all but the newline
abbrev pub dot : Sign
dot = set_of true (one (Range 10 10))

-- a brace that begins no counted form is itself
abbrev pub brace : ℕ → Sight Sign
brace i = Sees (char open_brace) (i + 1)

-- `{n,}` and `{n,m}`, whose digits are the n from i + 1 on and the m from k on
abbrev pub two_counts : Text → ℕ → ℕ → ℕ → ℕ → Sight Sign
two_counts w i n k m =
    if peek w (k + m) == close_brace then (
    if m == 0 then Sees (sign.Times (count w (i + 1) n) None) (k + m + 1)
    else if nat_lt (number 10 w k m) (number 10 w (i + 1) n) then Wrong Syntax i
    else Sees (sign.Times (count w (i + 1) n) (Some (count w k m))) (k + m + 1)
    ) else brace i

-- `{n}` as well, whose digits are the n from i + 1 on
abbrev pub counts : Text → ℕ → ℕ → Sight Sign
counts w i n =
    if n == 0 then brace i
    else if peek w (i + 1 + n) == close_brace
    then Sees (sign.Times (count w (i + 1) n) (Some (count w (i + 1) n))) (i + 2 + n)
    else if peek w (i + 1 + n) == 44
    then two_counts w i n (i + 2 + n) (run is_decimal w (i + 2 + n))
    else brace i

-- a group that begins `(?` but not `(?:` is not supported
abbrev pub opened : Text → ℕ → Sight Sign
opened w i =
    if peek w (i + 1) == question
    then (if peek w (i + 2) == 58 then Sees sign.Open (i + 3) else Wrong Unsupported i)
    else Sees sign.Open (i + 1)

-- what an escape stands for, as a sign
abbrev pub escaped : ℕ → Sight Mark → Sight Sign
escaped i (Sees (Char c) j) = Sees (char c) j
escaped i (Sees (Class item) j) = Sees (set_of false item) j
escaped i (Sees Join j) = Wrong Syntax i
escaped i (Wrong flaw j) = Wrong flaw j

-- every sign but a class
abbrev pub plain : Text → ℕ → Sight Sign
plain w i =
    let c = peek w i in
    if c == backslash then escaped i (escape w i)
    else if c == 46 then Sees dot (i + 1)
    else if c == 40 then opened w i
    else if c == 41 then Sees sign.Close (i + 1)
    else if c == 124 then Sees sign.Bar (i + 1)
    else if c == 42 then Sees (sign.Times 0 None) (i + 1)
    else if c == 43 then Sees (sign.Times 1 None) (i + 1)
    else if c == question then Sees (sign.Times 0 (Some 1)) (i + 1)
    else if c == open_brace then counts w i (run is_decimal w (i + 1))
    else if (c == 94) || (c == 36) then Wrong Unsupported i
    else Sees (char c) (i + 1)

-- a class as a sign
abbrev pub bracketed : Sight CharSet → Sight Sign
bracketed (Sees set j) = Sees (sign.Set set) j
bracketed (Wrong flaw p) = Wrong flaw p

-- from place i to place j stands a class, which is this sign
abbrev pub IsBracketed : Text → ℕ → Sign → ℕ → Type 0
IsBracketed w i s j =
    ((peek w i == open_bracket) ≡ true)
    × (xs : List Item)
    × IsClass w i xs j
    × (s ≡ sign.Set (record { inverted = is_inverted w i; items = xs }))

-- from place i to place j stands this sign
abbrev pub IsSign : Text → ℕ → Sign → ℕ → Type 0
IsSign w i s j =
    (((peek w i == open_bracket) ≡ false) × (i < length w) × (plain w i ≡ Sees s j))
    ⊎ IsBracketed w i s j

-- what stands at place i is no sign, for this flaw at place p
abbrev pub IsNoSign : Text → ℕ → Flaw → ℕ → Type 0
IsNoSign w i flaw p =
    (((peek w i == open_bracket) ≡ false) × (i < length w) × (plain w i ≡ Wrong flaw p))
    ⊎ (((peek w i == open_bracket) ≡ true) × IsWrongClass w i flaw p)

-- what is seen is a sign, and what is wrong is none
abbrev pub IsSight : Text → ℕ → Sight Sign → Type 0
IsSight w i (Sees s j) = IsSign w i s j
IsSight w i (Wrong flaw p) = IsNoSign w i flaw p
