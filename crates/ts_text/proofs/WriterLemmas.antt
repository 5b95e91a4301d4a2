-- What is written of a text, one write after another.
use Rattle.std.proofs.Common.{◌≡◌, ◌∙◌, sym, ap, subst, ℕ, ◌+◌, ◌-◌, ◌<◌, ◌≤◌, ◌⊎◌, inl, inr, refl, List, [], ◌++◌, length, take, drop, get_or, min, String, string_bytes, arith}
use Rattle.std.specs.declared.alloc.Global.{Global}
use Rattle.std.specs.List.{slice_range}
use Rattle.std.specs.Str.{IsUtf8, IsCharBoundary}
use Rattle.std.proofs.lemmas.Bool.{cases_lt}
use Rattle.std.proofs.lemmas.List.{append_assoc, append-nil, nil_from_length, take_all, take-append-drop, length-append, length-drop, length-take}
use Rattle.std.proofs.lemmas.Str.{IsCharBoundary-end, IsUtf8-string_bytes}
use Rattle.ts_base.specs.Bytes.{Bytes}
use Rattle.ts_text.specs.declared.piece.Piece.{Piece}
use Rattle.ts_text.specs.Pieces.{bytes_of, IsPartOfPiece, IsPiece, IsPieceAt, StandFor}
use Rattle.ts_text.specs.Text.{most_bytes}
use Rattle.ts_text.specs.Written.{IsWrittenTo}
use Rattle.ts_text.proofs.PieceLemmas.{begun, far_bytes, far_more, far_part, inside_short, some_pieces}

-- ---- characters

-- one turn: the first of the rest are written
pub put_turn : (before rest after later all : Bytes) (count : ℕ) → before ++ rest ≡ all → after ≡ before ++ take count rest
    → later ≡ drop count rest → after ++ later ≡ all
put_turn before rest after later all count whole made left =
    ap (λ (bytes : Bytes). bytes ++ later) made
    ∙ ap (λ (bytes : Bytes). before ++ take count rest ++ bytes) left
    ∙ append_assoc before (take count rest) (drop count rest)
    ∙ ap (λ (bytes : Bytes). before ++ bytes) (take-append-drop count rest)
    ∙ whole

pub put_room : (before rest old text : Bytes) → before ++ rest ≡ old ++ text → length old + length text ≤ most_bytes
    → length before + length rest ≤ most_bytes
put_room before rest old text whole fits =
    let size : length (before ++ rest) ≡ length (old ++ text) = ap (λ (bytes : Bytes). length bytes) whole in
    omega (arith, length-append before rest, length-append old text)

pub put_done : (text pending rest all after : Bytes) → text ++ pending ++ rest ≡ all → after ≡ pending ++ rest → text ++ after ≡ all
put_done text pending rest all after whole is =
    ap (λ (bytes : Bytes). text ++ bytes) is ∙ sym (append_assoc text pending rest) ∙ whole

pub put_fewer : (pending rest after later : Bytes) (count : ℕ) → after ≡ [] → later ≡ drop count rest → count ≤ length rest → 0 < length pending + count
    → length after + length later < length pending + length rest
put_fewer pending rest after later count none_pending left within some =
    let zero_size : length after ≡ 0 = ap (λ (bytes : Bytes). length bytes) none_pending in
    let size : length later ≡ length (drop count rest) = ap (λ (bytes : Bytes). length bytes) left in
    omega (arith, length-drop count rest)

pub put_more : (text pending first after more closed : Bytes) (count : ℕ) → first ≡ take count more → after ≡ pending ++ first → closed ≡ text ++ after
    → closed ≡ text ++ pending ++ take count more
put_more text pending first after more closed count cut is made =
    made
    ∙ ap (λ (bytes : Bytes). text ++ bytes) (is ∙ ap (λ (bytes : Bytes). pending ++ bytes) cut)
    ∙ sym (append_assoc text pending (take count more))

pub fill_fits : (text pending first after more : Bytes) (count : ℕ) → first ≡ take count more → after ≡ pending ++ first
    → length (text ++ pending) + length more ≤ most_bytes → length (text ++ after) ≤ most_bytes
fill_fits text pending first after more count cut is fits =
    let size : length after ≡ length pending + length first = ap (λ (bytes : Bytes). length bytes) is ∙ length-append pending first in
    let few : length first ≡ length (take count more) = ap (λ (bytes : Bytes). length bytes) cut in
    omega (arith, length-append text pending, length-append text after, length-take count more)

pub no_bytes : (bytes : Bytes) → length bytes ≡ 0 → bytes ≡ []
no_bytes bytes none_there = nil_from_length bytes none_there

pub closed : (text pending made after : Bytes) → made ≡ text ++ pending → after ≡ [] → made ++ after ≡ text ++ pending
closed text pending made after is none_pending = ap (λ (bytes : Bytes). made ++ bytes) none_pending ∙ append-nil made ∙ is

pub close_fits : (text pending content : Bytes) → content ≡ pending → length (text ++ pending) ≤ most_bytes → length text + length content ≤ most_bytes
close_fits text pending content is fits =
    let size : length content ≡ length pending = ap (λ (bytes : Bytes). length bytes) is in
    omega (arith, length-append text pending)

pub close_some : (pending content : Bytes) → content ≡ pending → (length pending ≡ 0 → ⊥) → 0 < length content
close_some pending content is some =
    let size : length content ≡ length pending = ap (λ (bytes : Bytes). length bytes) is in
    by size (cases_lt 0 (length pending))
  where
    by : length content ≡ length pending → (0 < length pending) ⊎ (length pending ≤ 0) → 0 < length content
    by size (inl more) = omega (arith, size, more)
    by size (inr none_there) = absurd (some (omega (arith, none_there)))

pub close_utf8 : (s : String Global) (content : Bytes) → content ≡ string_bytes s → IsUtf8 content
close_utf8 s content is = subst (λ (bytes : Bytes). IsUtf8 bytes) (sym is) (IsUtf8-string_bytes s)

pub share_some : (piece : Piece) (content : Bytes) → IsPiece piece → content ≡ piece.content → 0 < length content
share_some piece content is same = subst (λ (bytes : Bytes). 0 < length bytes) (sym same) is.some

pub share_utf8 : (piece : Piece) (content : Bytes) → IsPiece piece → content ≡ piece.content → IsUtf8 content
share_utf8 piece content is same = subst (λ (bytes : Bytes). IsUtf8 bytes) (sym same) is.utf8

pub shared : (text pending old content made : Bytes) → text ++ pending ≡ old → pending ≡ [] → made ≡ text ++ content → made ++ pending ≡ old ++ content
shared text pending old content made whole none_pending is =
    let all : text ≡ old = sym (append-nil text) ∙ ap (λ (bytes : Bytes). text ++ bytes) (sym none_pending) ∙ whole in
    ap (λ (bytes : Bytes). made ++ bytes) none_pending ∙ append-nil made ∙ is ∙ ap (λ (bytes : Bytes). bytes ++ content) all

pub share_fits : (text pending old content : Bytes) → text ++ pending ≡ old → length old + length content ≤ most_bytes
    → length text + length content ≤ most_bytes
share_fits text pending old content whole fits =
    let size : length (text ++ pending) ≡ length old = ap (λ (bytes : Bytes). length bytes) whole in
    omega (arith, length-append text pending)

pub text_written : (text pending old : Bytes) → text ++ pending ≡ old → pending ≡ [] → text ≡ old
text_written text pending old whole none_pending =
    sym (append-nil text) ∙ ap (λ (bytes : Bytes). text ++ bytes) (sym none_pending) ∙ whole

pub not_at_end : (text : Bytes) (at : ℕ) → at ≤ length text → (IsCharBoundary text at → ⊥) → at < length text
not_at_end text at within off = by (cases_lt at (length text))
  where
    by : (at < length text) ⊎ (length text ≤ at) → at < length text
    by (inl less) = less
    by (inr ended) =
        let same : length text ≡ at = omega (arith, within, ended) in
        absurd (off (subst (λ (n : ℕ). IsCharBoundary text n) same (IsCharBoundary-end text)))

-- ---- parts of a text

pub whole_part : (content : Bytes) (from to : ℕ) → from ≡ 0 → to ≡ length content → content ≡ slice_range content from to
whole_part content from to begins ends =
    let all : length content ≤ to - from = omega arith in
    sym (ap (λ (n : ℕ). take (to - from) (drop n content)) begins ∙ take_all (to - from) content all)

pub some_between : (ps : List Piece) (text : Bytes) (from to : ℕ) → bytes_of ps ≡ text → IsCharBoundary text to → from < to → 0 < length ps
some_between ps text from to whole end less =
    let within : to ≤ length text = end.0 in
    some_pieces ps text from whole (omega arith)

pub far_within : (text before now : Bytes) (ps : List Piece) (from to place k : ℕ) → IsWrittenTo text before now ps from to place k → place < to → k < length ps
far_within text before now ps from to place k is less = (is.far.at less).within

on_pieces : (ps : List Piece) (text : Bytes) (to : ℕ) → bytes_of ps ≡ text → IsCharBoundary text to → IsCharBoundary (bytes_of ps) to
on_pieces ps text to whole end = subst (λ (bytes : Bytes). IsCharBoundary bytes to) (sym whole) end

pub part_is : (text before now : Bytes) (ps : List Piece) (len from to place k last : ℕ) (p : Piece) → bytes_of ps ≡ text → StandFor ps len → IsCharBoundary text to
    → IsWrittenTo text before now ps from to place k → place < to → p ≡ get_or ps k p → last ≡ min (p.start + length p.content) to → IsPartOfPiece p place last
part_is text before now ps len from to place k last p whole stand end written less is lasts =
    far_part ps to place k last p stand.in_turn (on_pieces ps text to whole end) written.far less is lasts

-- a turn goes on
pub far_goes_on : (text before now : Bytes) (ps : List Piece) (len from to place k last : ℕ) (p : Piece) → bytes_of ps ≡ text → StandFor ps len → IsCharBoundary text to
    → IsWrittenTo text before now ps from to place k → place < to → p ≡ get_or ps k p → last ≡ min (p.start + length p.content) to → place < last
far_goes_on text before now ps len from to place k last p whole stand end written less is lasts =
    let size : length (bytes_of ps) ≡ length text = ap (λ (bytes : Bytes). length bytes) whole in
    let within : to ≤ length text = end.0 in
    let begins : p.start ≤ place = begun ps place k p stand.in_turn (written.far.at less) is in
    let short : place - p.start < length p.content = inside_short ps place k p stand.in_turn (written.far.at less) is (omega arith) in
    omega arith

-- the room that a part takes
pub part_fits : (text before now : Bytes) (ps : List Piece) (from to place k last : ℕ) (p : Piece) → IsCharBoundary text to
    → IsWrittenTo text before now ps from to place k → last ≡ min (p.start + length p.content) to → length before + (to - from) ≤ most_bytes
    → length now + (last - place) ≤ most_bytes
part_fits text before now ps from to place k last p end written lasts fits =
    let within : to ≤ length text = end.0 in
    let low : from ≤ place = written.above in
    let high : place ≤ to = written.far.within in
    let size : length now ≡ length before + length (slice_range text from place) =
    ap (λ (bytes : Bytes). length bytes) written.bytes ∙ length-append before (slice_range text from place) in
    omega (arith, length-take (place - from) (drop from text), length-drop from text)

nothing_from : (text before : Bytes) (from to : ℕ) → from ≡ to → before ≡ before ++ slice_range text from to
nothing_from text before from to same =
    let none_left : to - from ≡ 0 = omega arith in
    sym (ap (λ (n : ℕ). before ++ take n (drop from text)) none_left ∙ append-nil before)

pub written_start : (text before : Bytes) (ps : List Piece) (from to k : ℕ) → bytes_of ps ≡ text → IsCharBoundary text from → from < to → IsPieceAt ps from k
    → IsWrittenTo text before before ps from to from k
written_start text before ps from to k whole begin less at = record {
  far = record { within = omega arith; on = on_pieces ps text from whole begin; at = λ more. at };
  above = omega arith;
  bytes = nothing_from text before from from refl;
}

pub nothing_written : (text before : Bytes) (from to : ℕ) → from ≡ to → before ≡ before ++ slice_range text from to
nothing_written = nothing_from

pub written_more : (text before now after : Bytes) (ps : List Piece) (len from to place k last : ℕ) (p : Piece) → bytes_of ps ≡ text → StandFor ps len
    → IsCharBoundary text to → IsWrittenTo text before now ps from to place k → place < to → p ≡ get_or ps k p → last ≡ min (p.start + length p.content) to
    → after ≡ now ++ slice_range p.content (place - p.start) (last - p.start)
    → IsWrittenTo text before after ps from to last (k + 1)
written_more text before now after ps len from to place k last p whole stand end written less is lasts there =
    let on = far_goes_on text before now ps len from to place k last p whole stand end written less is lasts in
    let low : from ≤ place = written.above in
    let high : place < last = on in
    record {
      far = far_more ps to place k last p stand.each stand.in_turn (on_pieces ps text to whole end) written.far less is lasts;
      above = omega arith;
      bytes =
          there
          ∙ ap (λ (bytes : Bytes). bytes ++ part) written.bytes
          ∙ append_assoc before (slice_range text from place) part
          ∙ ap (λ (bytes : Bytes). before ++ bytes) joined;
    }
  where
    part : Bytes
    part = slice_range p.content (place - p.start) (last - p.start)

    joined : slice_range text from place ++ part ≡ slice_range text from last
    joined =
        ap (λ (bytes : Bytes). slice_range bytes from place ++ part) (sym whole)
        ∙ far_bytes ps from to place k last p stand.in_turn (on_pieces ps text to whole end) written.far less is lasts written.above
        ∙ ap (λ (bytes : Bytes). slice_range bytes from last) whole

pub written_end : (text before now : Bytes) (ps : List Piece) (from to place k : ℕ) → IsWrittenTo text before now ps from to place k → to ≤ place
    → now ≡ before ++ slice_range text from to
written_end text before now ps from to place k written ends =
    let within : place ≤ to = written.far.within in
    let same : place ≡ to = omega arith in
    written.bytes ∙ ap (λ (n : ℕ). before ++ slice_range text from n) same
