-- Lines in columns: the pieces of each column are made alone, and then put in the order of the lines.
use Rattle.std.proofs.Common.{arith, ◌≡◌, ◌∙◌, refl, sym, ap, subst, ℕ, zero, suc, ◌+◌, ◌*◌, ◌/◌, ◌%◌, ◌<◌, ◌≤◌, List, [], ◌∷◌, ◌++◌, length, length-append, get_or, take, slice_get, Some, ⊎_elim}
use Rattle.std.proofs.lemmas.Bool.{cases_lt}
use Rattle.std.proofs.lemmas.Option.{same_Some, slice_get_within, slice_get-get_or, get_or_from_slice_get}
use Rattle.std.specs.Global.{Vec}
use Rattle.std.specs.List.{AllZip, range_with_len}
use Rattle.ts_base.specs.Bytes.{Bytes}
use Rattle.ts_base.proofs.PlaceLemmas.{in_prefix, at_end}
use Rattle.ts_core.specs.declared.flat.FlatGrammar.{FlatGrammar}
use Rattle.ts_transcript.specs.declared.line.RunLine.{RunLine}
use Rattle.ts_transcript.specs.Told.{TellsLine, AreLines}
use Rattle.ts_transcript.specs.Columns.{column_count, dealt_to, place_in, TellsRow, IsColumn, AreColumns, IsPieceAt, HasRows}
use Rattle.ts_transcript.proofs.LineLemmas.{line_next}
use Rattle.ts_transcript.proofs.PieceLemmas.{there_is}

-- ---- one column

module _ (g : FlatGrammar) (lines : List RunLine) (column : ℕ) where
  pub no_row : HasRows g lines column (dealt_to column) []
  no_row = record {
    place_is = omega arith;
    each = λ row lt. let f : ⊥ = omega (arith, lt) in elim f [ ];
  }

  row_before : (pieces : List (Vec ℕ)) (piece : Vec ℕ) (row : ℕ) → row < length pieces → TellsRow g lines column pieces row → TellsRow g lines column (pieces ++ piece ∷ []) row
  row_before pieces piece row lt tells l is =
      let made = tells l is in
      (made.0, in_prefix pieces (piece ∷ []) row lt ∙ made.1, made.2)

  row_itself : (place : ℕ) (pieces : List (Vec ℕ)) (piece : Vec ℕ) (x : RunLine) → place < length lines → x ≡ get_or lines place x → TellsLine g x piece.items
      → place ≡ place_in column (length pieces) → TellsRow g lines column (pieces ++ piece ∷ []) (length pieces)
  row_itself place pieces piece x lt x_is tells place_is l is =
      let found : slice_get lines place ≡ Some x = slice_get-get_or lines place x lt ∙ ap Some (sym x_is) in
      let same : x ≡ l = same_Some x l (sym found ∙ ap (slice_get lines) place_is ∙ is) in
      (piece, at_end pieces piece, subst (λ (y : RunLine). TellsLine g y piece.items) same tells)

  pub next_row : (place : ℕ) (pieces : List (Vec ℕ)) (piece : Vec ℕ) (x : RunLine) → place < length lines → x ≡ get_or lines place x → TellsLine g x piece.items
      → HasRows g lines column place pieces → HasRows g lines column (place + column_count) (pieces ++ piece ∷ [])
  next_row place pieces piece x lt x_is tells h =
      let count = length-append pieces (piece ∷ []) in
      let is = h.place_is in
      let itself = row_itself place pieces piece x lt x_is tells is in
      record {
        place_is = omega (arith, count, is);
        each = λ row within.
            ⊎_elim (λ before. row_before pieces piece row before (h.each row before))
            (λ past.
            let last : length pieces ≡ row = omega (arith, count, within, past) in
            subst (λ (k : ℕ). TellsRow g lines column (pieces ++ piece ∷ []) k) last itself)
            (cases_lt row (length pieces));
      }

  pub all_rows : (place : ℕ) (pieces : List (Vec ℕ)) → length lines ≤ place → HasRows g lines column place pieces → IsColumn g lines column pieces
  all_rows place pieces past h row l is =
      let within = slice_get_within lines (place_in column row) l is in
      let place_is = h.place_is in
      h.each row (omega (arith, past, within, place_is)) l is

-- ---- all columns

in_range : {Y : Type 0} (R : ℕ → Y → Type 0) (start n : ℕ) (ys : List Y) → AllZip R (range_with_len start n) ys → (k : ℕ) → k < n
    → (y : Y) × (slice_get ys k ≡ Some y) × R (start + k) y
in_range R start zero ys h k lt = let f : ⊥ = omega (arith, lt) in elim f [ ]
in_range R start (suc n) [] h k lt = absurd h
in_range R start (suc n) (y ∷ ys) h zero lt =
    let same : start ≡ start + 0 = omega arith in
    (y, refl, subst (λ (m : ℕ). R m y) same h.0)
in_range R start (suc n) (y ∷ ys) h (suc k) lt =
    let rest = in_range R (start + 1) n ys h.1 k (omega (arith, lt)) in
    let same : (start + 1) + k ≡ start + suc k = omega arith in
    (rest.0, rest.1, subst (λ (m : ℕ). R m rest.0) same rest.2)

pub each_column : (g : FlatGrammar) (lines : List RunLine) (columns : List (Vec (Vec ℕ)))
    → AllZip (λ (column : ℕ) (pieces : Vec (Vec ℕ)). IsColumn g lines column pieces.items) (range_with_len 0 column_count) columns → AreColumns g lines columns
each_column g lines columns zipped column lt =
    let found = in_range (λ (k : ℕ) (pieces : Vec (Vec ℕ)). IsColumn g lines k pieces.items) 0 column_count columns zipped column lt in
    let same : 0 + column ≡ column = omega arith in
    (found.0, found.1, subst (λ (k : ℕ). IsColumn g lines k found.0.items) same found.2)

-- dealing twice leads back
dealt_back : (place : ℕ) → place < column_count → dealt_to (dealt_to place) ≡ place
dealt_back place lt = omega (arith, lt)

dealt_within : (place : ℕ) → place < column_count → dealt_to place < column_count
dealt_within place lt = omega (arith, lt)

place_again : (place : ℕ) → place ≡ place_in (dealt_to (place % column_count)) (place / column_count)
place_again place =
    let back = dealt_back (place % column_count) (omega arith) in
    let whole : place ≡ place / column_count * column_count + place % column_count = omega arith in
    whole ∙ ap (λ (k : ℕ). place / column_count * column_count + k) (sym back)

module _ (g : FlatGrammar) (lines : List RunLine) (columns : List (Vec (Vec ℕ))) (are : AreColumns g lines columns) where
  piece_of : (place : ℕ) (l : RunLine) → slice_get lines place ≡ Some l → (piece : Vec ℕ) × IsPieceAt columns place piece × TellsLine g l piece.items
  piece_of place l is =
      let own = are (dealt_to (place % column_count)) (dealt_within (place % column_count) (omega arith)) in
      let made = own.2 (place / column_count) l (subst (λ (k : ℕ). slice_get lines k ≡ Some l) (place_again place) is) in
      (made.0, (own.0, own.1, made.1), made.2)

  pub has_piece : (place : ℕ) → place < length lines → (piece : Vec ℕ) × IsPieceAt columns place piece
  has_piece place lt =
      let l = there_is lines place lt in
      let made = piece_of place l.0 l.1 in
      (made.0, made.1)

  pub next_piece : (place : ℕ) (before bytes : Bytes) → place < length lines → ((piece : Vec ℕ) → IsPieceAt columns place piece → bytes ≡ piece.items)
      → AreLines g (take place lines) before → AreLines g (take (place + 1) lines) (before ++ bytes)
  next_piece place before bytes lt reads h =
      let l = there_is lines place lt in
      let made = piece_of place l.0 l.1 in
      line_next g lines place l.0 before bytes lt (sym (get_or_from_slice_get lines place l.0 l.0 l.1)) (subst (TellsLine g l.0) (sym (reads made.0 made.1)) made.2) h
