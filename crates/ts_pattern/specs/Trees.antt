-- The trees of patterns, the tokens that spell them, and what they stand for.
use Rattle.std.specs.Prelude.{ℕ, ◌+◌, ◌*◌, max, nat_lt, List, [], ◌∷◌, ◌++◌, Option, Some, None, if◌then◌else◌}
use Rattle.ts_core.specs.declared.re.Re.{Re}
use Rattle.ts_pattern.specs.Limits.{most_nested, most_counted, most_positions}
use Rattle.ts_core.specs.declared.re.Re.TheVariants as re

-- what a sign stands for: its set by its ranges
pub data Token : Type 0 where
  one_of : List (ℕ × ℕ) → Token
  opening : Token
  closing : Token
  bar : Token
  quantifier : ℕ → Option ℕ → Token

mutual
  -- branches, the last of them apart
  pub data Pattern : Type 0 where
    only : Branch → Pattern
    or : Pattern → Branch → Pattern

  -- pieces, the last of them apart
  pub data Branch : Type 0 where
    empty : Branch
    more : Branch → Piece → Branch

  -- an atom with at most one quantifier
  pub data Piece : Type 0 where
    once : Atom → Piece
    times : Atom → ℕ → Option ℕ → Piece

  -- a set of characters, or a pattern in brackets
  pub data Atom : Type 0 where
    set : List (ℕ × ℕ) → Atom
    group : Pattern → Atom

-- the tokens that spell each
abbrev mutual
  pub spelling : Pattern → List Token
  spelling (only b) = branch_spelling b
  spelling (or p b) = spelling p ++ bar ∷ branch_spelling b

  pub branch_spelling : Branch → List Token
  branch_spelling empty = []
  branch_spelling (more b x) = branch_spelling b ++ piece_spelling x

  pub piece_spelling : Piece → List Token
  piece_spelling (once a) = atom_spelling a
  piece_spelling (times a n m) = atom_spelling a ++ quantifier n m ∷ []

  pub atom_spelling : Atom → List Token
  atom_spelling (set ranges) = one_of ranges ∷ []
  atom_spelling (group p) = opening ∷ (spelling p ++ closing ∷ [])

-- parts one after another; one part alone is that part
abbrev pub joined_parts : List Re → Re
joined_parts [] = re.Empty
joined_parts (r ∷ []) = r
joined_parts (r ∷ s ∷ rs) = re.Cat (r ∷ s ∷ rs)

-- one of some parts; one part alone is that part
abbrev pub chosen : List Re → Re
chosen [] = re.Alt []
chosen (r ∷ []) = r
chosen (r ∷ s ∷ rs) = re.Alt (r ∷ s ∷ rs)

-- the regular expressions of the parts
abbrev mutual
  pub branches_of : Pattern → List Re
  branches_of (only b) = joined_parts (pieces_of b) ∷ []
  branches_of (or p b) = branches_of p ++ joined_parts (pieces_of b) ∷ []

  pub pieces_of : Branch → List Re
  pieces_of empty = []
  pieces_of (more b x) = pieces_of b ++ piece_re x ∷ []

  pub piece_re : Piece → Re
  piece_re (once a) = atom_re a
  piece_re (times a n m) = re.Repeat (atom_re a) n m

  pub atom_re : Atom → Re
  atom_re (set ranges) = re.Set ranges
  atom_re (group p) = chosen (branches_of p)

-- the regular expression that a pattern stands for
abbrev pub re_of : Pattern → Re
re_of p = chosen (branches_of p)

-- how deep groups nest
abbrev mutual
  pub nesting : Pattern → ℕ
  nesting (only b) = branch_nesting b
  nesting (or p b) = max (nesting p) (branch_nesting b)

  pub branch_nesting : Branch → ℕ
  branch_nesting empty = 0
  branch_nesting (more b x) = max (branch_nesting b) (piece_nesting x)

  pub piece_nesting : Piece → ℕ
  piece_nesting (once a) = atom_nesting a
  piece_nesting (times a n m) = atom_nesting a

  pub atom_nesting : Atom → ℕ
  atom_nesting (set ranges) = 0
  atom_nesting (group p) = nesting p + 1

-- the greater of a quantifier's counts
abbrev pub greater_count : ℕ → Option ℕ → ℕ
greater_count n None = n
greater_count n (Some m) = max n m

-- the greatest count
abbrev mutual
  pub greatest : Pattern → ℕ
  greatest (only b) = branch_greatest b
  greatest (or p b) = max (greatest p) (branch_greatest b)

  pub branch_greatest : Branch → ℕ
  branch_greatest empty = 0
  branch_greatest (more b x) = max (branch_greatest b) (piece_greatest x)

  pub piece_greatest : Piece → ℕ
  piece_greatest (once a) = atom_greatest a
  piece_greatest (times a n m) = max (atom_greatest a) (greater_count n m)

  pub atom_greatest : Atom → ℕ
  atom_greatest (set ranges) = 0
  atom_greatest (group p) = greatest p

-- how often a quantifier counts the positions of what it repeats
abbrev pub factor : ℕ → Option ℕ → ℕ
factor n None = max n 1
factor n (Some m) = m

-- how many positions there are
abbrev mutual
  pub positions : Pattern → ℕ
  positions (only b) = branch_positions b
  positions (or p b) = positions p + branch_positions b

  pub branch_positions : Branch → ℕ
  branch_positions empty = 0
  branch_positions (more b x) = branch_positions b + piece_positions x

  pub piece_positions : Piece → ℕ
  piece_positions (once a) = atom_positions a
  piece_positions (times a n m) = atom_positions a * factor n m

  pub atom_positions : Atom → ℕ
  atom_positions (set ranges) = 1
  atom_positions (group p) = positions p

-- the limit that such a nesting, such a count or so many positions pass
abbrev pub limit_passed : ℕ → ℕ → ℕ → Option ℕ
limit_passed nests counts places =
    if nat_lt most_nested nests then Some most_nested
    else if nat_lt most_counted counts then Some most_counted
    else if nat_lt most_positions places then Some most_positions
    else None

-- the limit that the pattern passes, where it passes one
abbrev pub passed_limit : Pattern → Option ℕ
passed_limit p = limit_passed (nesting p) (greatest p) (positions p)
