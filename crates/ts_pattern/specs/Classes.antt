-- What stands in a class, `[..]`: characters, ranges and escapes. A `-` is itself at either end
-- and beside a class escape; else it joins two characters.
use Rattle.std.specs.Prelude.{◌≡◌, ◌⊎◌, ℕ, ◌+◌, Bool, true, false, not, ◌&&◌, ◌||◌, ◌==◌, nat_le, List, [], ◌∷◌, if◌then◌else◌}
use Rattle.ts_pattern.specs.declared.sight.Flaw.{Flaw}
use Rattle.ts_pattern.specs.declared.sight.Flaw.TheVariants.{Syntax, EmptyClass}
use Rattle.ts_pattern.specs.declared.sight.Sight.{Sight}
use Rattle.ts_pattern.specs.declared.sight.Sight.TheVariants.{Sees, Wrong}
use Rattle.ts_pattern.specs.declared.item.Base.{Base}
use Rattle.ts_pattern.specs.declared.item.Base.TheVariants.{Range, Digit, Word, Space, Property}
use Rattle.ts_pattern.specs.declared.item.Item.{Item}
use Rattle.ts_pattern.specs.declared.item.CharSet.{CharSet}
use Rattle.ts_pattern.specs.declared.item.Mark.{Mark}
use Rattle.ts_pattern.specs.declared.item.Mark.TheVariants.{Char, Class, Join}
use Rattle.ts_pattern.specs.Characters.{Text, ending, hyphen, backslash, close_bracket, peek}
use Rattle.ts_pattern.specs.Escapes.{escape, is_class_escape}

-- the `-` here is itself; `opens` says that a class escape or the class's beginning stands before
-- it
abbrev pub is_itself : Text → Bool → ℕ → Bool
is_itself w opens i = opens || (peek w (i + 1) == close_bracket) || is_class_escape w (i + 1)

-- what a `-` is: itself, or one that joins; a text that ends behind one that joins is wrong
abbrev pub hyphen_mark : Text → Bool → ℕ → Sight Mark
hyphen_mark w opens i =
    if is_itself w opens i then Sees (Char hyphen) (i + 1)
    else if peek w (i + 1) == ending then Wrong Syntax (i + 1)
    else Sees Join (i + 1)

-- one character, class escape or joining `-`
abbrev pub mark : Text → Bool → ℕ → Sight Mark
mark w opens i =
    let c = peek w i in
    if c == backslash then escape w i
    else if c == hyphen then hyphen_mark w opens i
    else if c == ending then Wrong Syntax i
    else Sees (Char c) (i + 1)

-- the item of a base's own characters
abbrev pub one : Base → Item
one base = record { base = base; lacking = false }

-- a `-` that joins stands here
abbrev pub is_joined : Text → ℕ → Bool
is_joined w i = (peek w i == hyphen) && not (is_itself w false i) && not (peek w (i + 1) == ending)

-- the range from c, which stands at i, to what stands at k
abbrev pub range_to : ℕ → ℕ → ℕ → Sight Mark → Sight Item
range_to i c k (Sees (Char d) j) = if nat_le c d then Sees (one (Range c d)) j else Wrong Syntax i
range_to i c k (Sees (Class item) j) = Wrong Syntax k
range_to i c k (Sees Join j) = Wrong Syntax k
range_to i c k (Wrong flaw j) = Wrong flaw j

-- the item that begins with this mark: a range where a `-` joins it to what follows
abbrev pub item_from : Text → ℕ → Sight Mark → Sight Item
item_from w i (Sees (Char c) j) =
    if is_joined w j then range_to i c (j + 1) (mark w false (j + 1)) else Sees (one (Range c c)) j
item_from w i (Sees (Class item) j) = Sees item j
item_from w i (Sees Join j) = Wrong Syntax i
item_from w i (Wrong flaw j) = Wrong flaw j

-- a character, a range or a class escape
abbrev pub item : Text → Bool → ℕ → Sight Item
item w opens i = item_from w i (mark w opens i)

-- the base is that of a class escape, and no range
abbrev pub is_class : Base → Bool
is_class (Range a b) = false
is_class Digit = true
is_class Word = true
is_class Space = true
is_class (Property s) = true

-- from place i to place j stand these items, and no bracket closes before them
abbrev pub AreClassItems : Text → Bool → ℕ → List Item → ℕ → Type 0
AreClassItems w opens i [] j = i ≡ j
AreClassItems w opens i (x ∷ xs) j =
    (k : ℕ)
    × ((peek w i == close_bracket) ≡ false)
    × (item w opens i ≡ Sees x k)
    × AreClassItems w (is_class x.base) k xs j

-- whether a `-` that follows the items is itself for what stands before it
abbrev pub opens_after : Bool → List Item → Bool
opens_after opens [] = opens
opens_after opens (x ∷ xs) = opens_after (is_class x.base) xs

-- the class whose bracket is at i begins with a `^`
abbrev pub is_inverted : Text → ℕ → Bool
is_inverted w i = peek w (i + 1) == 94

-- where the items of the class begin whose bracket is at i
abbrev pub inside : Text → ℕ → ℕ
inside w i = if is_inverted w i then i + 2 else i + 1

-- a class of these items, of which at least one is written
abbrev pub IsClass : Text → ℕ → List Item → ℕ → Type 0
IsClass w i xs j =
    (k : ℕ)
    × ((peek w (inside w i) == close_bracket) ≡ false)
    × AreClassItems w true (inside w i) xs k
    × (peek w k ≡ close_bracket)
    × (j ≡ k + 1)

-- the items go on with nothing that may stand there
abbrev pub IsWrongItem : Text → ℕ → Flaw → ℕ → Type 0
IsWrongItem w i flaw p =
    (xs : List Item)
    × (k : ℕ)
    × AreClassItems w true (inside w i) xs k
    × ((peek w k == close_bracket) ≡ false)
    × (item w (opens_after true xs) k ≡ Wrong flaw p)

-- no class: nothing is written in it, or an item is wrong
abbrev pub IsWrongClass : Text → ℕ → Flaw → ℕ → Type 0
IsWrongClass w i flaw p =
    (((peek w (inside w i) == close_bracket) ≡ true) × (flaw ≡ EmptyClass) × (p ≡ i))
    ⊎ (((peek w (inside w i) == close_bracket) ≡ false) × IsWrongItem w i flaw p)

-- what is seen is a class with its flag, and what is wrong is none
abbrev pub IsClassSight : Text → ℕ → Sight CharSet → Type 0
IsClassSight w i (Sees set j) = (set.inverted ≡ is_inverted w i) × IsClass w i set.items j
IsClassSight w i (Wrong flaw p) = IsWrongClass w i flaw p
