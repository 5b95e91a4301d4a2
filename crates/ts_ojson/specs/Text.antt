-- The texts of JSON (RFC 8259), as a relation between a value and bytes. `Part j w r` says that the
-- bytes w begin with such a part, and that r follows it.
use Rattle.std.specs.Prelude.{◌≡◌, ℕ, ◌⊎◌, List, [], ◌∷◌, ◌++◌, Bool, true, false}
use Rattle.ts_base.specs.Bytes.{Bytes}
use Rattle.ts_ojson.specs.Json.{Json, null, boolean, number, string, array, object, Items, no_items, item, Members, no_members, member}
use Rattle.ts_ojson.specs.Number.{Number}
use Rattle.ts_ojson.specs.Characters.{Quoted}

-- the byte is a blank: a space, a tab, a line feed or a carriage return
abbrev pub IsBlank : ℕ → Type 0
IsBlank c = (c ≡ 32) ⊎ ((c ≡ 9) ⊎ ((c ≡ 10) ⊎ (c ≡ 13)))

-- any number of blanks
abbrev pub Blanks : Bytes → Bytes → Type 0
Blanks [] r = r ≡ []
Blanks (c ∷ w) r = (r ≡ c ∷ w) ⊎ (IsBlank c × Blanks w r)

-- the bytes of `null`
abbrev pub null_word : Bytes
null_word = 110 ∷ 117 ∷ 108 ∷ 108 ∷ []

-- the bytes of `true` and of `false`
abbrev pub bool_word : Bool → Bytes
bool_word true = 116 ∷ 114 ∷ 117 ∷ 101 ∷ []
bool_word false = 102 ∷ 97 ∷ 108 ∷ 115 ∷ 101 ∷ []

-- blanks may stand on both sides of a value
abbrev pub Spaced : (Bytes → Bytes → Type 0) → Bytes → Bytes → Type 0
Spaced Part w r = (a : Bytes) × (b : Bytes) × Blanks w a × Part a b × Blanks b r

-- values, with the items and the members inside them
abbrev mutual
  -- a value, by its kind
  pub Value : Json → Bytes → Bytes → Type 0
  Value null w r = w ≡ null_word ++ r
  Value (boolean b) w r = w ≡ bool_word b ++ r
  Value (number s) w r = (w ≡ s ++ r) × Number s []
  Value (string s) w r = Quoted s w r
  Value (array js) w r = (v : Bytes) × (w ≡ 91 ∷ v) × FirstItem js v r
  Value (object ms) w r = (v : Bytes) × (w ≡ 123 ∷ v) × FirstMember ms v r

  -- the rest of an array behind its bracket
  pub FirstItem : Items → Bytes → Bytes → Type 0
  FirstItem no_items w r = Blanks w (93 ∷ r)
  FirstItem (item j js) w r = (v : Bytes) × Spaced (Value j) w v × MoreItems js v r

  -- the rest of an array behind one of its items
  pub MoreItems : Items → Bytes → Bytes → Type 0
  MoreItems no_items w r = w ≡ 93 ∷ r
  MoreItems (item j js) w r =
      (u : Bytes) × (v : Bytes) × (w ≡ 44 ∷ u) × Spaced (Value j) u v × MoreItems js v r

  -- the rest of an object behind its bracket
  pub FirstMember : Members → Bytes → Bytes → Type 0
  FirstMember no_members w r = Blanks w (125 ∷ r)
  FirstMember (member k j ms) w r =
      (v : Bytes) × (t : Bytes) × Spaced (Quoted k) w (58 ∷ v) × Spaced (Value j) v t
      × MoreMembers ms t r

  -- the rest of an object behind one of its members
  pub MoreMembers : Members → Bytes → Bytes → Type 0
  MoreMembers no_members w r = w ≡ 125 ∷ r
  MoreMembers (member k j ms) w r =
      (u : Bytes) × (v : Bytes) × (t : Bytes) × (w ≡ 44 ∷ u) × Spaced (Quoted k) u (58 ∷ v)
      × Spaced (Value j) v t × MoreMembers ms t r

-- the bytes are a text of the value
abbrev pub IsJsonText : Json → Bytes → Type 0
IsJsonText j w = Spaced (Value j) w []
