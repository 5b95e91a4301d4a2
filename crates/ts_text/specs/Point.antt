-- Rows and columns of places in a text, both counted from 0. A newline ends its row, and columns
-- count bytes.
use Rattle.std.specs.Prelude.{ℕ, ◌≡◌, ◌≤◌, ◌-◌, ◌^◌, Bool, length, take, ◌==◌, not, count_by}
use Rattle.std.specs.List.{suffix_len}
use Rattle.ts_base.specs.Bytes.{Bytes}

-- the last value of a u32, which places, rows and columns are
abbrev pub last_place : ℕ
last_place = 2 ^ 32 - 1

-- the byte that ends a row
abbrev pub newline : ℕ
newline = 10

-- the byte is a newline
abbrev pub is_newline : ℕ → Bool
is_newline byte = byte == newline

-- the byte is another one
abbrev pub is_no_newline : ℕ → Bool
is_no_newline byte = not (is_newline byte)

-- how many newlines stand before the place
abbrev pub row_of : Bytes → ℕ → ℕ
row_of text place = count_by is_newline (take place text)

-- how many bytes stand between the last newline before the place, or the text's start, and the
-- place: the length of the longest end without a newline of what stands before the place
abbrev pub column_of : Bytes → ℕ → ℕ
column_of text place = suffix_len is_no_newline (take place text)

-- the row of the place, and its column
abbrev pub point_of : Bytes → ℕ → ℕ × ℕ
point_of text place = (row_of text place, column_of text place)

-- what a walk remembers: a place of the text, with its row and its column
pub record IsWalk (text : Bytes) (place row column : ℕ) : Type 0 where
  pub within : place ≤ length text
  pub row_is : row ≡ row_of text place
  pub column_is : column ≡ column_of text place
