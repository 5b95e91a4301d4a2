-- Where places and characters lie in a text that is kept in pieces.
use Rattle.std.proofs.Common.{◌≡◌, ◌∙◌, sym, ap, subst, ℕ, ◌+◌, ◌-◌, ◌^◌, ◌<◌, ◌≤◌, ◌⊎◌, inl, inr, refl, List, [], ◌∷◌, ◌++◌, All, length, take, drop, get_or, slice_get, Some, min, arith}
use Rattle.std.specs.List.{slice_range}
use Rattle.std.specs.Prelude.{slice_index}
use Rattle.std.specs.Str.{IsUtf8, IsCharBoundary}
use Rattle.std.proofs.Math.Seq.{drop-append-add, take-append-add, take-append_seam}
use Rattle.std.proofs.lemmas.Bool.{cases_lt}
use Rattle.std.proofs.lemmas.List.{append_assoc, append-nil, drop_more, drop_all, take_more, take_all, take_at, take-append-drop, take-append-le, drop-append-le, flat_map_more, nil_from_length, length-append, length-drop, length-take, get_or_append_left, get_or_default, get_or-append-add}
use Rattle.std.proofs.lemmas.List.Concat.{flat_map-cons, flat_map-append}
use Rattle.std.proofs.lemmas.List.Elements.{All-head, All-tail, All-nil, All-cons, All-get_or, All-drop, All-append}
use Rattle.std.proofs.lemmas.Option.{slice_get-get_or, slice_get_within}
use Rattle.std.proofs.lemmas.Str.{IsUtf8-nil, IsUtf8-append, IsUtf8-drop, IsCharBoundary-start, IsCharBoundary-end, IsCharBoundary-at_seam, IsCharBoundary-from_drop}
use Rattle.ts_base.specs.Bytes.{Bytes}
use Rattle.ts_text.specs.declared.piece.Piece.{Piece}
use Rattle.ts_base.proofs.PlaceLemmas.{push_cases}
use Rattle.ts_text.specs.Pieces.{bytes_of, AreInTurn, IsFar, IsPartOfPiece, IsPiece, IsPieceAt, IsBetween, IsJoined, IsPast, IsRest, StandFor}
use Rattle.ts_text.specs.Text.{most_bytes, IsText}
use Rattle.ts_text.proofs.PlaceLemmas.{joined_slices}

-- ---- places of a text in two parts

same_left : (xs ys : Bytes) (n : ℕ) → n < length xs → slice_index (xs ++ ys) n ≡ slice_index xs n
same_left xs ys n lt = get_or_append_left xs ys 0 n lt

pub boundary_left : (xs ys : Bytes) (n : ℕ) → n ≤ length xs → IsCharBoundary (xs ++ ys) n → IsCharBoundary xs n
boundary_left xs ys n within on = (
  within,
  λ lt high.
      let same = same_left xs ys n lt in
      subst (λ (b : ℕ). 192 ≤ b) same (on.1 (omega (arith, length-append xs ys)) (subst (λ (b : ℕ). 128 ≤ b) (sym same) high)),
)

pub boundary_of_left : (xs ys : Bytes) (n : ℕ) → IsUtf8 ys → IsCharBoundary xs n → IsCharBoundary (xs ++ ys) n
boundary_of_left xs ys n utf8 on = by (cases_lt n (length xs))
  where
    by : (n < length xs) ⊎ (length xs ≤ n) → IsCharBoundary (xs ++ ys) n
    by (inl lt) =
        let same = same_left xs ys n lt in
        (omega (arith, length-append xs ys), λ less high. subst (λ (b : ℕ). 192 ≤ b) (sym same) (on.1 lt (subst (λ (b : ℕ). 128 ≤ b) same high)))
    by (inr ge) =
        let within : n ≤ length xs = on.0 in
        let is : length xs ≡ n = omega arith in
        subst (λ (m : ℕ). IsCharBoundary (xs ++ ys) m) is (IsCharBoundary-at_seam (xs ++ ys) xs ys refl utf8)

pub boundary_right : (xs ys : Bytes) (n : ℕ) → IsCharBoundary (xs ++ ys) (length xs + n) → IsCharBoundary ys n
boundary_right xs ys n on =
    let within : length xs + n ≤ length (xs ++ ys) = on.0 in
    let same : slice_index (xs ++ ys) (length xs + n) ≡ slice_index ys n = get_or-append-add xs ys n 0 in
    (omega (arith, length-append xs ys), λ lt high. subst (λ (b : ℕ). 192 ≤ b) same (on.1 (omega (arith, length-append xs ys)) (subst (λ (b : ℕ). 128 ≤ b) (sym same) high)))

pub boundary_of_right : (xs ys : Bytes) (n : ℕ) → IsCharBoundary ys n → IsCharBoundary (xs ++ ys) (length xs + n)
boundary_of_right xs ys n on =
    let within : n ≤ length ys = on.0 in
    let same : slice_index (xs ++ ys) (length xs + n) ≡ slice_index ys n = get_or-append-add xs ys n 0 in
    (omega (arith, length-append xs ys), λ lt high. subst (λ (b : ℕ). 192 ≤ b) (sym same) (on.1 (let all : length (xs ++ ys) ≡ length xs + length ys = length-append xs ys in omega arith) (subst (λ (b : ℕ). 128 ≤ b) same high)))

-- ---- pieces

pub utf8_of : (ps : List Piece) → All IsPiece ps → IsUtf8 (bytes_of ps)
utf8_of [] all = IsUtf8-nil
utf8_of (p ∷ ps) all =
    subst (λ (bytes : Bytes). IsUtf8 bytes) (sym (flat_map-cons (λ (q : Piece). q.content) p ps))
    (IsUtf8-append p.content (bytes_of ps) (All-head IsPiece p ps all).utf8 (utf8_of ps (All-tail IsPiece p ps all)))

-- the text from a piece on
pub opened : (ps : List Piece) (k : ℕ) (p : Piece) → k < length ps → p ≡ get_or ps k p
    → bytes_of (drop k ps) ≡ p.content ++ bytes_of (drop (k + 1) ps)
opened ps k p lt is =
    ap (λ (qs : List Piece). bytes_of qs) (drop_more ps k p lt ∙ ap (λ (q : Piece). q ∷ drop (k + 1) ps) (sym is))
    ∙ flat_map-cons (λ (q : Piece). q.content) p (drop (k + 1) ps)

-- the text in three parts, of which one piece is the second
pub around : (ps : List Piece) (k : ℕ) (p : Piece) → k < length ps → p ≡ get_or ps k p
    → bytes_of ps ≡ bytes_of (take k ps) ++ (p.content ++ bytes_of (drop (k + 1) ps))
around ps k p lt is =
    ap (λ (qs : List Piece). bytes_of qs) (sym (take-append-drop k ps))
    ∙ flat_map-append (λ (q : Piece). q.content) (take k ps) (drop k ps)
    ∙ ap (λ (bytes : Bytes). bytes_of (take k ps) ++ bytes) (opened ps k p lt is)

-- where a piece ends
pub end_of : (ps : List Piece) (k : ℕ) (p : Piece) → k < length ps → p ≡ get_or ps k p
    → length (bytes_of (take (k + 1) ps)) ≡ length (bytes_of (take k ps)) + length p.content
end_of ps k p lt is =
    ap (λ (qs : List Piece). length (bytes_of qs)) (take_more ps k p lt ∙ ap (λ (q : Piece). take k ps ++ q ∷ []) (sym is))
    ∙ ap (λ (bytes : Bytes). length bytes) (flat_map-append (λ (q : Piece). q.content) (take k ps) (p ∷ []))
    ∙ length-append (bytes_of (take k ps)) (bytes_of (p ∷ []))
    ∙ ap (λ (n : ℕ). length (bytes_of (take k ps)) + n) one
  where
    one : length (bytes_of (p ∷ [])) ≡ length p.content
    one = ap (λ (bytes : Bytes). length bytes) (flat_map-cons (λ (q : Piece). q.content) p []) ∙ length-append p.content [] ∙ omega arith

pub start_of : (ps : List Piece) (k : ℕ) (p : Piece) → AreInTurn ps → k < length ps → p ≡ get_or ps k p
    → p.start ≡ length (bytes_of (take k ps))
start_of ps k p turn lt is = turn k p (slice_get-get_or ps k p lt ∙ ap (λ (q : Piece). Some q) (sym is))

pub piece_of : (ps : List Piece) (k : ℕ) (p : Piece) → All IsPiece ps → k < length ps → p ≡ get_or ps k p → IsPiece p
piece_of ps k p all lt is = subst (λ (q : Piece). IsPiece q) (sym is) (All-get_or IsPiece ps k p lt all)

-- ---- a place and its piece

-- what is left from a place in a piece on
pub dropped : (ps : List Piece) (k from : ℕ) (p : Piece) → AreInTurn ps → k < length ps → p ≡ get_or ps k p
    → from ≤ length p.content → drop (p.start + from) (bytes_of ps) ≡ drop from p.content ++ bytes_of (drop (k + 1) ps)
dropped ps k from p turn lt is within =
    ap (λ (bytes : Bytes). drop (p.start + from) bytes) (around ps k p lt is)
    ∙ ap (λ (n : ℕ). drop (n + from) (bytes_of (take k ps) ++ (p.content ++ bytes_of (drop (k + 1) ps)))) (start_of ps k p turn lt is)
    ∙ drop-append-add (bytes_of (take k ps)) (p.content ++ bytes_of (drop (k + 1) ps)) from
    ∙ drop-append-le from p.content (bytes_of (drop (k + 1) ps)) within

-- a place in the text is one in its piece
pub inside : (ps : List Piece) (place k : ℕ) (p : Piece) → AreInTurn ps → IsPieceAt ps place k → p ≡ get_or ps k p
    → place ≤ length (bytes_of ps) → place - p.start ≤ length p.content
inside ps place k p turn at is within = by (cases_lt (k + 1) (length ps))
  where
    by : (k + 1 < length ps) ⊎ (length ps ≤ k + 1) → place - p.start ≤ length p.content
    by (inl less) =
        let before : place < length (bytes_of (take (k + 1) ps)) = at.next less in
        omega (arith, before, end_of ps k p at.within is, start_of ps k p turn at.within is)
    by (inr last) =
        let all : length (bytes_of (take (k + 1) ps)) ≡ length (bytes_of ps) = ap (λ (qs : List Piece). length (bytes_of qs)) (take_all (k + 1) ps last) in
        omega (arith, within, all, end_of ps k p at.within is, start_of ps k p turn at.within is)

-- one before the end of the text is one before the end of its piece
pub inside_short : (ps : List Piece) (place k : ℕ) (p : Piece) → AreInTurn ps → IsPieceAt ps place k → p ≡ get_or ps k p
    → place < length (bytes_of ps) → place - p.start < length p.content
inside_short ps place k p turn at is within = by (cases_lt (k + 1) (length ps))
  where
    begins : length (bytes_of (take k ps)) ≤ place
    begins = at.begins

    by : (k + 1 < length ps) ⊎ (length ps ≤ k + 1) → place - p.start < length p.content
    by (inl less) =
        let before : place < length (bytes_of (take (k + 1) ps)) = at.next less in
        omega (arith, before, end_of ps k p at.within is, start_of ps k p turn at.within is)
    by (inr last) =
        let all : length (bytes_of (take (k + 1) ps)) ≡ length (bytes_of ps) = ap (λ (qs : List Piece). length (bytes_of qs)) (take_all (k + 1) ps last) in
        omega (arith, within, all, end_of ps k p at.within is, start_of ps k p turn at.within is)

pub begun : (ps : List Piece) (place k : ℕ) (p : Piece) → AreInTurn ps → IsPieceAt ps place k → p ≡ get_or ps k p
    → p.start ≤ place
begun ps place k p turn at is =
    let begins : length (bytes_of (take k ps)) ≤ place = at.begins in
    omega (arith, start_of ps k p turn at.within is)

-- a place lies between two characters of the text, where it does in its piece
pub boundary_of_piece : (ps : List Piece) (place k : ℕ) (p : Piece) → All IsPiece ps → AreInTurn ps → IsPieceAt ps place k
    → p ≡ get_or ps k p → IsCharBoundary p.content (place - p.start) → IsCharBoundary (bytes_of ps) place
boundary_of_piece ps place k p all turn at is on =
    let begins : p.start ≤ place = begun ps place k p turn at is in
    let start : p.start ≡ length (bytes_of (take k ps)) = start_of ps k p turn at.within is in
    let here : length (bytes_of (take k ps)) + (place - p.start) ≡ place = omega arith in
    let tail = utf8_of (drop (k + 1) ps) (All-drop IsPiece (k + 1) ps all) in
    subst (λ (bytes : Bytes). IsCharBoundary bytes place) (sym (around ps k p at.within is))
    (subst (λ (n : ℕ). IsCharBoundary (bytes_of (take k ps) ++ (p.content ++ bytes_of (drop (k + 1) ps))) n) here
    (boundary_of_right (bytes_of (take k ps)) (p.content ++ bytes_of (drop (k + 1) ps)) (place - p.start)
    (boundary_of_left p.content (bytes_of (drop (k + 1) ps)) (place - p.start) tail on)))

pub boundary_in_piece : (ps : List Piece) (place k : ℕ) (p : Piece) → AreInTurn ps → IsPieceAt ps place k
    → p ≡ get_or ps k p → IsCharBoundary (bytes_of ps) place → IsCharBoundary p.content (place - p.start)
boundary_in_piece ps place k p turn at is on =
    let begins : p.start ≤ place = begun ps place k p turn at is in
    let start : p.start ≡ length (bytes_of (take k ps)) = start_of ps k p turn at.within is in
    let here : place ≡ length (bytes_of (take k ps)) + (place - p.start) = omega arith in
    let whole = subst (λ (bytes : Bytes). IsCharBoundary bytes place) (around ps k p at.within is) on in
    let moved = subst (λ (n : ℕ). IsCharBoundary (bytes_of (take k ps) ++ (p.content ++ bytes_of (drop (k + 1) ps))) n) here whole in
    boundary_left p.content (bytes_of (drop (k + 1) ps)) (place - p.start) (inside ps place k p turn at is on.0)
    (boundary_right (bytes_of (take k ps)) (p.content ++ bytes_of (drop (k + 1) ps)) (place - p.start) moved)

-- ---- what is read from a place on

-- all that a piece has from a place on
pub stretched : (ps : List Piece) (place k : ℕ) (p : Piece) (bytes : Bytes) → AreInTurn ps → IsPieceAt ps place k → p ≡ get_or ps k p
    → place ≤ length (bytes_of ps) → bytes ≡ drop (place - p.start) p.content
    → bytes ≡ slice_range (bytes_of ps) place (place + length bytes)
stretched ps place k p bytes turn at is within are =
    let begins : p.start ≤ place = begun ps place k p turn at is in
    let here : p.start + (place - p.start) ≡ place = omega arith in
    let size : place + length bytes - place ≡ length bytes = omega arith in
    let rest : drop place (bytes_of ps) ≡ bytes ++ bytes_of (drop (k + 1) ps) =
    ap (λ (n : ℕ). drop n (bytes_of ps)) (sym here)
    ∙ dropped ps k (place - p.start) p turn at.within is (inside ps place k p turn at is within)
    ∙ ap (λ (ys : Bytes). ys ++ bytes_of (drop (k + 1) ps)) (sym are) in
    sym (take-append_seam bytes (bytes_of (drop (k + 1) ps)))
    ∙ ap (λ (ys : Bytes). take (length bytes) ys) (sym rest)
    ∙ ap (λ (n : ℕ). take n (drop place (bytes_of ps))) (sym size)

-- a part of a piece is one of the text
pub part_of_piece : (ps : List Piece) (place last k : ℕ) (p : Piece) → AreInTurn ps → IsPieceAt ps place k → p ≡ get_or ps k p
    → place ≤ last → last - p.start ≤ length p.content
    → slice_range p.content (place - p.start) (last - p.start) ≡ slice_range (bytes_of ps) place last
part_of_piece ps place last k p turn at is ordered within =
    let begins : p.start ≤ place = begun ps place k p turn at is in
    let here : p.start + (place - p.start) ≡ place = omega arith in
    let size : (last - p.start) - (place - p.start) ≡ last - place = omega arith in
    let from : place - p.start ≤ length p.content = omega arith in
    let few : last - place ≤ length (drop (place - p.start) p.content) = omega (arith, length-drop (place - p.start) p.content) in
    let rest : drop place (bytes_of ps) ≡ drop (place - p.start) p.content ++ bytes_of (drop (k + 1) ps) =
    ap (λ (n : ℕ). drop n (bytes_of ps)) (sym here) ∙ dropped ps k (place - p.start) p turn at.within is from in
    ap (λ (n : ℕ). take n (drop (place - p.start) p.content)) size
    ∙ sym (take-append-le (last - place) (drop (place - p.start) p.content) (bytes_of (drop (k + 1) ps)) few)
    ∙ ap (λ (ys : Bytes). take (last - place) ys) (sym rest)

-- the end of a piece lies between two characters
pub boundary_at_end : (ps : List Piece) (k : ℕ) (p : Piece) → All IsPiece ps → AreInTurn ps → k < length ps → p ≡ get_or ps k p
    → IsCharBoundary (bytes_of ps) (p.start + length p.content)
boundary_at_end ps k p all turn lt is =
    let start : p.start ≡ length (bytes_of (take k ps)) = start_of ps k p turn lt is in
    let whole : length (bytes_of ps) ≡ length (bytes_of (take k ps)) + (length p.content + length (bytes_of (drop (k + 1) ps))) =
    ap (λ (bytes : Bytes). length bytes) (around ps k p lt is)
    ∙ length-append (bytes_of (take k ps)) (p.content ++ bytes_of (drop (k + 1) ps))
    ∙ ap (λ (n : ℕ). length (bytes_of (take k ps)) + n) (length-append p.content (bytes_of (drop (k + 1) ps))) in
    let rest : drop (p.start + length p.content) (bytes_of ps) ≡ bytes_of (drop (k + 1) ps) =
    dropped ps k (length p.content) p turn lt is (omega arith)
    ∙ ap (λ (ys : Bytes). ys ++ bytes_of (drop (k + 1) ps)) (drop_all (length p.content) p.content (omega arith)) in
    IsCharBoundary-from_drop (bytes_of ps) (p.start + length p.content) (omega arith)
    (subst (λ (ys : Bytes). IsUtf8 ys) (sym rest) (utf8_of (drop (k + 1) ps) (All-drop IsPiece (k + 1) ps all)))

-- ---- from one piece to the next

-- where a text ends in a piece, no other follows
end_is_last : (ps : List Piece) (k : ℕ) (p : Piece) → AreInTurn ps → k < length ps → p ≡ get_or ps k p
    → length ps ≤ k + 1 → length (bytes_of ps) ≡ p.start + length p.content
end_is_last ps k p turn lt is last =
    let all : length (bytes_of (take (k + 1) ps)) ≡ length (bytes_of ps) = ap (λ (qs : List Piece). length (bytes_of qs)) (take_all (k + 1) ps last) in
    omega (arith, end_of ps k p lt is, start_of ps k p turn lt is)

next_piece : (ps : List Piece) (last k : ℕ) (p : Piece) → All IsPiece ps → AreInTurn ps → k < length ps → p ≡ get_or ps k p
    → last ≡ p.start + length p.content → last < length (bytes_of ps) → IsPieceAt ps last (k + 1)
next_piece ps last k p all turn lt is end more = record {
  within = follows (cases_lt (k + 1) (length ps));
  begins = omega (arith, end_of ps k p lt is, start_of ps k p turn lt is);
  next = λ less.
      let q = get_or ps (k + 1) p in
      let there : k + 1 < length ps = follows (cases_lt (k + 1) (length ps)) in
      let same : q ≡ get_or ps (k + 1) q = get_or_default ps (k + 1) p q there in
      let some : 0 < length q.content = (piece_of ps (k + 1) q all there same).some in
      omega (arith, end_of ps (k + 1) q there same, end_of ps k p lt is, start_of ps k p turn lt is);
}
  where
    follows : (k + 1 < length ps) ⊎ (length ps ≤ k + 1) → k + 1 < length ps
    follows (inl less) = less
    follows (inr ends) = absurd (omega (arith, end, more, end_is_last ps k p turn lt is ends))

-- ---- what lies between two places of a text, piece by piece

at_later : (ps : List Piece) (place to k : ℕ) (p : Piece) → AreInTurn ps → IsPieceAt ps place k → p ≡ get_or ps k p
    → place ≤ to → to < p.start + length p.content → IsPieceAt ps to k
at_later ps place to k p turn at is ordered before =
    let begins : length (bytes_of (take k ps)) ≤ place = at.begins in
    record {
      within = at.within;
      begins = omega arith;
      next = λ less. omega (arith, end_of ps k p at.within is, start_of ps k p turn at.within is);
    }

pub far_part : (ps : List Piece) (to place k last : ℕ) (p : Piece) → AreInTurn ps → IsCharBoundary (bytes_of ps) to
    → IsFar ps to place k → place < to → p ≡ get_or ps k p → last ≡ min (p.start + length p.content) to → IsPartOfPiece p place last
far_part ps to place k last p turn end far less is lasts =
    let at = far.at less in
    let within : to ≤ length (bytes_of ps) = end.0 in
    let begins : p.start ≤ place = begun ps place k p turn at is in
    let short : place - p.start < length p.content = inside_short ps place k p turn at is (omega arith) in
    record {
      begins = begins;
      ordered = omega arith;
      from_on = boundary_in_piece ps place k p turn at is far.on;
      to_on = ends begins short at (cases_lt to (p.start + length p.content));
    }
  where
    ends : p.start ≤ place → place - p.start < length p.content → IsPieceAt ps place k
        → (to < p.start + length p.content) ⊎ (p.start + length p.content ≤ to) → IsCharBoundary p.content (last - p.start)
    ends begins short at (inl before) =
        let same : to ≡ last = omega (arith, before, lasts) in
        subst (λ (n : ℕ). IsCharBoundary p.content (n - p.start)) same
        (boundary_in_piece ps to k p turn (at_later ps place to k p turn at is (omega (arith, less)) before) is end)
    ends begins short at (inr past) =
        let same : length p.content ≡ last - p.start = omega (arith, past, lasts) in
        subst (λ (n : ℕ). IsCharBoundary p.content n) same (IsCharBoundary-end p.content)

pub far_more : (ps : List Piece) (to place k last : ℕ) (p : Piece) → All IsPiece ps → AreInTurn ps → IsCharBoundary (bytes_of ps) to
    → IsFar ps to place k → place < to → p ≡ get_or ps k p → last ≡ min (p.start + length p.content) to → IsFar ps to last (k + 1)
far_more ps to place k last p all turn end far less is lasts =
    let at = far.at less in
    let within : to ≤ length (bytes_of ps) = end.0 in
    record {
      within = omega arith;
      on = ends (far.at less) (cases_lt to (p.start + length p.content));
      at = λ more. next_piece ps last k p all turn at.within is (omega arith) (omega arith);
    }
  where
    ends : IsPieceAt ps place k → (to < p.start + length p.content) ⊎ (p.start + length p.content ≤ to) → IsCharBoundary (bytes_of ps) last
    ends at (inl before) =
        let same : to ≡ last = omega (arith, before, lasts) in
        subst (λ (n : ℕ). IsCharBoundary (bytes_of ps) n) same end
    ends at (inr past) =
        let same : p.start + length p.content ≡ last = omega (arith, past, lasts) in
        subst (λ (n : ℕ). IsCharBoundary (bytes_of ps) n) same (boundary_at_end ps k p all turn at.within is)

pub far_bytes : (ps : List Piece) (from to place k last : ℕ) (p : Piece) → AreInTurn ps → IsCharBoundary (bytes_of ps) to
    → IsFar ps to place k → place < to → p ≡ get_or ps k p → last ≡ min (p.start + length p.content) to → from ≤ place
    → slice_range (bytes_of ps) from place ++ slice_range p.content (place - p.start) (last - p.start)
    ≡ slice_range (bytes_of ps) from last
far_bytes ps from to place k last p turn end far less is lasts low =
    let at = far.at less in
    let within : to ≤ length (bytes_of ps) = end.0 in
    let begins : p.start ≤ place = begun ps place k p turn at is in
    let short : place - p.start < length p.content = inside_short ps place k p turn at is (omega arith) in
    let ordered : place ≤ last = omega arith in
    let few : last - p.start ≤ length p.content = omega arith in
    ap (λ (ys : Bytes). slice_range (bytes_of ps) from place ++ ys) (part_of_piece ps place last k p turn at is ordered few)
    ∙ joined_slices (bytes_of ps) from place last low ordered

-- ---- a piece more

pub pushed_bytes : (ps : List Piece) (q : Piece) → bytes_of (ps ++ q ∷ []) ≡ bytes_of ps ++ q.content
pushed_bytes ps q = sym (flat_map_more (λ (piece : Piece). piece.content) [] ps q)

pub pushed_piece : (ps : List Piece) (len : ℕ) (q : Piece) → StandFor ps len → IsPiece q → q.start ≡ len
    → len + length q.content ≤ most_bytes → StandFor (ps ++ q ∷ []) (len + length q.content)
pushed_piece ps len q stand piece start fits = record {
  each = All-append IsPiece ps (q ∷ []) stand.each (All-cons IsPiece q [] piece (All-nil IsPiece));
  in_turn = λ k p there. by k p (push_cases ps q k p there);
  whole =
      let before : len ≡ length (bytes_of ps) = stand.whole in
      let all : length (bytes_of (ps ++ q ∷ [])) ≡ length (bytes_of ps) + length q.content =
      ap (λ (ys : Bytes). length ys) (pushed_bytes ps q) ∙ length-append (bytes_of ps) q.content in
      omega arith;
  within = fits;
}
  where
    by : (k : ℕ) (p : Piece) → ((k < length ps) × (slice_get ps k ≡ Some p)) ⊎ ((k ≡ length ps) × (q ≡ p))
        → p.start ≡ length (bytes_of (take k (ps ++ q ∷ [])))
    by k p (inl both) =
        let lt : k < length ps = both.0 in
        stand.in_turn k p both.1 ∙ ap (λ (qs : List Piece). length (bytes_of qs)) (sym (take-append-le k ps (q ∷ []) (omega (arith, lt))))
    by k p (inr both) =
        let first : take k (ps ++ q ∷ []) ≡ ps = take_at ps (q ∷ []) k (sym both.0) in
        ap (λ (x : Piece). x.start) (sym both.1) ∙ start ∙ stand.whole ∙ ap (λ (qs : List Piece). length (bytes_of qs)) (sym first)

pub pushed : (ps more : List Piece) (len size : ℕ) (q : Piece) → StandFor ps len → more ≡ ps ++ q ∷ [] → q.start ≡ len → 0 < length q.content → IsUtf8 q.content
    → size ≡ len + length q.content → size ≤ most_bytes → StandFor more size
pushed ps more len size q stand made start some utf8 sum fits =
    subst (λ (qs : List Piece). StandFor qs size) (sym made)
    (subst (λ (n : ℕ). StandFor (ps ++ q ∷ []) n) (sym sum)
    (pushed_piece ps len q stand (record { some = some; utf8 = utf8 }) start (omega (arith, sum))))

pub pushed_more : (ps more : List Piece) (old content : Bytes) (q : Piece) → bytes_of ps ≡ old → more ≡ ps ++ q ∷ [] → q.content ≡ content
    → bytes_of more ≡ old ++ content
pushed_more ps more old content q whole made same =
    ap (λ (qs : List Piece). bytes_of qs) made
    ∙ pushed_bytes ps q
    ∙ ap (λ (ys : Bytes). ys ++ q.content) whole
    ∙ ap (λ (ys : Bytes). old ++ ys) same

-- ---- what is left of a text

pub rest_utf8 : (head : Bytes) (later : List Piece) → IsRest head later → IsUtf8 (head ++ bytes_of later)
rest_utf8 head later rest = IsUtf8-append head (bytes_of later) rest.utf8 (utf8_of later rest.each)

pub some_bytes : (ps : List Piece) → All IsPiece ps → length (bytes_of ps) ≡ 0 → length ps ≡ 0
some_bytes [] all none_left = refl
some_bytes (p ∷ ps) all none_left =
    let some : 0 < length p.content = (All-head IsPiece p ps all).some in
    let sum : length (p.content ++ bytes_of ps) ≡ length p.content + length (bytes_of ps) = length-append p.content (bytes_of ps) in
    let same : length (bytes_of (p ∷ ps)) ≡ length (p.content ++ bytes_of ps) = ap (λ (ys : Bytes). length ys) (flat_map-cons (λ (q : Piece). q.content) p ps) in
    absurd (omega arith)

not_none : (ps : List Piece) → (length ps ≡ 0 → ⊥) → 0 < length ps
not_none [] some = absurd (some refl)
not_none (p ∷ ps) some = omega arith

-- a rest whose head is at its end, at the next piece
pub reopened : (later : List Piece) (p : Piece) → 0 < length later → p ≡ get_or later 0 p
    → bytes_of later ≡ p.content ++ bytes_of (drop 1 later)
reopened later p some is = opened later 0 p some is

-- ---- what a text gives from a place on

pub rest_there : (ps : List Piece) (text content head : Bytes) (len place k n : ℕ) (p : Piece) → bytes_of ps ≡ text → StandFor ps len
    → IsPieceAt ps place k → p ≡ get_or ps k p → content ≡ p.content → n ≡ place - p.start → IsCharBoundary content n → head ≡ drop n content
    → (head ++ bytes_of (drop (k + 1) ps) ≡ drop place text) × IsCharBoundary text place
rest_there ps text content head len place k n p whole stand at is same from on heads =
    let begins : p.start ≤ place = begun ps place k p stand.in_turn at is in
    let here : p.start + n ≡ place = omega arith in
    let on_piece : IsCharBoundary p.content n = subst (λ (ys : Bytes). IsCharBoundary ys n) same on in
    let on_place : IsCharBoundary p.content (place - p.start) = subst (λ (m : ℕ). IsCharBoundary p.content m) from on_piece in (
      ap (λ (ys : Bytes). ys ++ bytes_of (drop (k + 1) ps)) (heads ∙ ap (λ (ys : Bytes). drop n ys) same)
          ∙ sym (dropped ps k n p stand.in_turn at.within is on_piece.0)
          ∙ ap (λ (m : ℕ). drop m (bytes_of ps)) here
          ∙ ap (λ (ys : Bytes). drop place ys) whole,
      subst (λ (ys : Bytes). IsCharBoundary ys place) whole (boundary_of_piece ps place k p stand.each stand.in_turn at is on_place),
    )

pub rest_bytes : (ps later : List Piece) (text content head : Bytes) (len place k n : ℕ) (p : Piece) → bytes_of ps ≡ text → StandFor ps len
    → IsPieceAt ps place k → p ≡ get_or ps k p → content ≡ p.content → n ≡ place - p.start → IsCharBoundary content n → head ≡ drop n content
    → later ≡ drop (k + 1) ps → head ++ bytes_of later ≡ drop place text
rest_bytes ps later text content head len place k n p whole stand at is same from on heads behind =
    ap (λ (qs : List Piece). head ++ bytes_of qs) behind
    ∙ (rest_there ps text content head len place k n p whole stand at is same from on heads).0

pub rest_on : (ps : List Piece) (text content : Bytes) (len place k n : ℕ) (p : Piece) → bytes_of ps ≡ text → StandFor ps len
    → IsPieceAt ps place k → p ≡ get_or ps k p → content ≡ p.content → n ≡ place - p.start → IsCharBoundary content n → IsCharBoundary text place
rest_on ps text content len place k n p whole stand at is same from on =
    (rest_there ps text content (drop n content) len place k n p whole stand at is same from on refl).1

pub rest_nowhere : (ps : List Piece) (text content : Bytes) (len place k n : ℕ) (p : Piece) → bytes_of ps ≡ text → StandFor ps len
    → IsPieceAt ps place k → p ≡ get_or ps k p → content ≡ p.content → n ≡ place - p.start → (IsCharBoundary content n → ⊥) → IsCharBoundary text place → ⊥
rest_nowhere ps text content len place k n p whole stand at is same from off on =
    let on_place = boundary_in_piece ps place k p stand.in_turn at is (subst (λ (ys : Bytes). IsCharBoundary ys place) (sym whole) on) in
    off (subst (λ (ys : Bytes). IsCharBoundary ys n) (sym same) (subst (λ (m : ℕ). IsCharBoundary p.content m) (sym from) on_place))

empty_text : (ps : List Piece) (text : Bytes) → bytes_of ps ≡ text → length ps ≡ 0 → text ≡ []
empty_text ps text whole none_there = sym whole ∙ ap (λ (qs : List Piece). bytes_of qs) (nil_from_length ps none_there)

pub nothing_bytes : (ps : List Piece) (text : Bytes) (place : ℕ) → bytes_of ps ≡ text → place ≡ 0 → [] ++ bytes_of ps ≡ drop place text
nothing_bytes ps text place whole here = whole ∙ ap (λ (n : ℕ). drop n text) (sym here)

pub nothing_on : (ps : List Piece) (text : Bytes) (place : ℕ) → bytes_of ps ≡ text → length ps ≡ 0 → place ≡ 0 → IsCharBoundary text place
nothing_on ps text place whole none_there here =
    subst (λ (ys : Bytes). IsCharBoundary ys place) (sym (empty_text ps text whole none_there))
    (subst (λ (n : ℕ). IsCharBoundary [] n) (sym here) (IsCharBoundary-end []))

pub nothing_behind : (ps : List Piece) (text : Bytes) (place : ℕ) → bytes_of ps ≡ text → length ps ≡ 0 → (place ≡ 0 → ⊥)
    → IsCharBoundary text place → ⊥
nothing_behind ps text place whole none_there past on =
    let size : length text ≡ 0 = ap (λ (ys : Bytes). length ys) (empty_text ps text whole none_there) in
    let within : place ≤ length text = on.0 in
    past (omega arith)

pub stretch_some : (ps : List Piece) (text content bytes : Bytes) (len place k n : ℕ) (p : Piece) → bytes_of ps ≡ text → StandFor ps len
    → IsPieceAt ps place k → p ≡ get_or ps k p → place < length text → content ≡ p.content → n ≡ place - p.start → bytes ≡ drop n content → 0 < length bytes
stretch_some ps text content bytes len place k n p whole stand at is within same from are =
    let size : length (bytes_of ps) ≡ length text = ap (λ (ys : Bytes). length ys) whole in
    let short : place - p.start < length p.content = inside_short ps place k p stand.in_turn at is (omega arith) in
    let count : length bytes ≡ length (drop n p.content) = ap (λ (ys : Bytes). length ys) (are ∙ ap (λ (ys : Bytes). drop n ys) same) in
    omega (arith, length-drop n p.content)

pub stretch_bytes : (ps : List Piece) (text content bytes : Bytes) (len place k n : ℕ) (p : Piece) → bytes_of ps ≡ text → StandFor ps len
    → IsPieceAt ps place k → p ≡ get_or ps k p → place < length text → content ≡ p.content → n ≡ place - p.start → bytes ≡ drop n content
    → bytes ≡ slice_range text place (place + length bytes)
stretch_bytes ps text content bytes len place k n p whole stand at is within same from are =
    let size : length (bytes_of ps) ≡ length text = ap (λ (ys : Bytes). length ys) whole in
    stretched ps place k p bytes stand.in_turn at is (omega arith)
    (are ∙ ap (λ (ys : Bytes). drop n ys) same ∙ ap (λ (m : ℕ). drop m p.content) from)
    ∙ ap (λ (ys : Bytes). slice_range ys place (place + length bytes)) whole

stretch_within : (text bytes : Bytes) (place : ℕ) → place < length text → bytes ≡ slice_range text place (place + length bytes)
    → place + length bytes ≤ length text
stretch_within text bytes place within are =
    let count : length bytes ≡ length (slice_range text place (place + length bytes)) = ap (λ (ys : Bytes). length ys) are in
    omega (arith, length-take (place + length bytes - place) (drop place text), length-drop place text)

pub stretch_inside : (ps : List Piece) (text content bytes : Bytes) (len place k n : ℕ) (p : Piece) → bytes_of ps ≡ text → StandFor ps len
    → IsPieceAt ps place k → p ≡ get_or ps k p → place < length text → content ≡ p.content → n ≡ place - p.start → bytes ≡ drop n content
    → place + length bytes ≤ length text
stretch_inside ps text content bytes len place k n p whole stand at is within same from are =
    stretch_within text bytes place within (stretch_bytes ps text content bytes len place k n p whole stand at is within same from are)

-- ---- texts

pub stand_whole : (ps : List Piece) (len : ℕ) → StandFor ps len → StandFor ps (length (bytes_of ps))
stand_whole ps len stand = subst (λ (n : ℕ). StandFor ps n) stand.whole stand

pub is_text : (ps : List Piece) (len : ℕ) → StandFor ps len → IsText (bytes_of ps)
is_text ps len stand =
    let whole : len ≡ length (bytes_of ps) = stand.whole in
    let within : len ≤ most_bytes = stand.within in
    record { utf8 = utf8_of ps stand.each; within = omega arith }

pub no_pieces : StandFor [] 0
no_pieces = record {
  each = All-nil IsPiece;
  in_turn = λ k piece there. absurd (let lt = slice_get_within {A = Piece} [] k piece there in omega arith);
  whole = refl;
  within = omega arith;
}

-- ---- rests

pub is_rest : (ps later : List Piece) (content head : Bytes) (len k m n : ℕ) (p : Piece) → StandFor ps len → k < length ps → p ≡ get_or ps k p
    → content ≡ p.content → IsCharBoundary content n → head ≡ drop n content → later ≡ drop m ps → IsRest head later
is_rest ps later content head len k m n p stand lt is same on heads behind = record {
  utf8 =
      subst (λ (ys : Bytes). IsUtf8 ys) (sym heads)
      (IsUtf8-drop content n (subst (λ (ys : Bytes). IsUtf8 ys) (sym same) (piece_of ps k p stand.each lt is).utf8) on);
  each = subst (λ (qs : List Piece). All IsPiece qs) (sym behind) (All-drop IsPiece m ps stand.each);
}

pub is_rest_of_all : (ps : List Piece) (len : ℕ) → StandFor ps len → IsRest [] ps
is_rest_of_all ps len stand = record { utf8 = IsUtf8-nil; each = stand.each }

pub nothing_left : (head : Bytes) (later : List Piece) → length head ≡ 0 → length later ≡ 0 → length (head ++ bytes_of later) ≡ 0
nothing_left head later ends last =
    let behind : length (bytes_of later) ≡ 0 = ap (λ (qs : List Piece). length (bytes_of qs)) (nil_from_length later last) in
    omega (arith, length-append head (bytes_of later))

pub nothing_left_here : (head : Bytes) (later : List Piece) → length (head ++ bytes_of later) ≡ 0 → length head ≡ 0
nothing_left_here head later ended = omega (arith, length-append head (bytes_of later))

pub nothing_left_behind : (head : Bytes) (later : List Piece) → IsRest head later → length (head ++ bytes_of later) ≡ 0 → length later ≡ 0
nothing_left_behind head later rest ended = some_bytes later rest.each (omega (arith, length-append head (bytes_of later)))

-- the first piece, and those behind it
pub opened_bytes : (ps others : List Piece) (first : Bytes) (p : Piece) → (length ps ≡ 0 → ⊥) → p ≡ get_or ps 0 p → first ≡ p.content → others ≡ drop 1 ps
    → first ++ bytes_of others ≡ bytes_of ps
opened_bytes ps others first p some is same behind =
    ap (λ (ys : Bytes). ys ++ bytes_of others) same
    ∙ ap (λ (qs : List Piece). p.content ++ bytes_of qs) behind
    ∙ sym (reopened ps p (not_none ps some) is)

pub opened_some : (ps : List Piece) (first : Bytes) (p : Piece) → All IsPiece ps → (length ps ≡ 0 → ⊥) → p ≡ get_or ps 0 p → first ≡ p.content → 0 < length first
opened_some ps first p all some is same = subst (λ (ys : Bytes). 0 < length ys) (sym same) (piece_of ps 0 p all (not_none ps some) is).some

pub opened_each : (ps others : List Piece) (n : ℕ) → All IsPiece ps → others ≡ drop n ps → All IsPiece others
opened_each ps others n all behind = subst (λ (qs : List Piece). All IsPiece qs) (sym behind) (All-drop IsPiece n ps all)

pub opened_none : (ps : List Piece) (first : Bytes) → length ps ≡ 0 → 0 < length (bytes_of ps) → 0 < length first
opened_none ps first none_there some =
    let size : length (bytes_of ps) ≡ 0 = ap (λ (qs : List Piece). length (bytes_of qs)) (nil_from_length ps none_there) in
    absurd (omega (arith, size, some))

-- what stands behind an empty head
pub split_bytes : (rest head first : Bytes) (later others : List Piece) → head ++ bytes_of later ≡ rest → length head ≡ 0
    → first ++ bytes_of others ≡ bytes_of later → first ++ ([] ++ bytes_of others) ≡ rest
split_bytes rest head first later others whole ends cut =
    cut ∙ ap (λ (ys : Bytes). ys ++ bytes_of later) (sym (nil_from_length head ends)) ∙ whole

pub split_some : (rest head first : Bytes) (later : List Piece) → head ++ bytes_of later ≡ rest → length head ≡ 0
    → (0 < length (bytes_of later) → 0 < length first) → 0 < length rest → 0 < length first
split_some rest head first later whole ends opens some =
    let size : length (head ++ bytes_of later) ≡ length rest = ap (λ (ys : Bytes). length ys) whole in
    opens (omega (arith, length-append head (bytes_of later)))

pub split_rest : (others : List Piece) → All IsPiece others → IsRest [] others
split_rest others each = record { utf8 = IsUtf8-nil; each = each }

pub split_utf8 : (others : List Piece) → All IsPiece others → IsUtf8 ([] ++ bytes_of others)
split_utf8 others each = utf8_of others each

pub same_rest : (head : Bytes) (later : List Piece) → IsRest head later → IsRest [] later
same_rest head later rest = record { utf8 = IsUtf8-nil; each = rest.each }

pub same_utf8 : (head : Bytes) (later : List Piece) → IsRest head later → IsUtf8 ([] ++ bytes_of later)
same_utf8 head later rest = utf8_of later rest.each

pub each_of : (head : Bytes) (later : List Piece) → IsRest head later → All IsPiece later
each_of head later rest = rest.each

pub head_some : (head : Bytes) → (length head ≡ 0 → ⊥) → 0 < length head
head_some head some = by (cases_lt 0 (length head))
  where
    by : (0 < length head) ⊎ (length head ≤ 0) → 0 < length head
    by (inl more) = more
    by (inr none_there) = absurd (some (omega (arith, none_there)))

pub some_pieces : (ps : List Piece) (text : Bytes) (place : ℕ) → bytes_of ps ≡ text → place < length text → 0 < length ps
some_pieces [] text place whole within = absurd (let size : length text ≡ 0 = ap (λ (ys : Bytes). length ys) (sym whole) in omega arith)
some_pieces (p ∷ ps) text place whole within = omega arith

pub in_turn_of : (ps : List Piece) (len : ℕ) → StandFor ps len → AreInTurn ps
in_turn_of ps len stand = stand.in_turn

pub piece_is : (ps : List Piece) (len k : ℕ) (p : Piece) → StandFor ps len → k < length ps → p ≡ get_or ps k p → IsPiece p
piece_is ps len k p stand lt is = piece_of ps k p stand.each lt is

pub end_fits : (ps : List Piece) (len k : ℕ) (p : Piece) → StandFor ps len → k < length ps → p ≡ get_or ps k p
    → p.start + length p.content ≤ most_bytes
end_fits ps len k p stand lt is =
    let inside : p.start + length p.content ≤ length (bytes_of ps) = (boundary_at_end ps k p stand.each stand.in_turn lt is).0 in
    let whole : len ≡ length (bytes_of ps) = stand.whole in
    let within : len ≤ most_bytes = stand.within in
    omega arith

pub end_small : (ps : List Piece) (len k : ℕ) (p : Piece) → StandFor ps len → k < length ps → p ≡ get_or ps k p
    → p.start + length p.content < 2 ^ 32
end_small ps len k p stand lt is = omega (arith, end_fits ps len k p stand lt is)

pub piece_within : (ps : List Piece) (place k : ℕ) → IsPieceAt ps place k → k < length ps
piece_within ps place k at = at.within

pub piece_begun : (ps : List Piece) (len place k : ℕ) (p : Piece) → StandFor ps len → IsPieceAt ps place k → p ≡ get_or ps k p → p.start ≤ place
piece_begun ps len place k p stand at is = begun ps place k p stand.in_turn at is

pub piece_reaches : (ps : List Piece) (text : Bytes) (len place k : ℕ) (p : Piece) → bytes_of ps ≡ text → StandFor ps len
    → IsPieceAt ps place k → p ≡ get_or ps k p → place < length text → place - p.start < length p.content
piece_reaches ps text len place k p whole stand at is within =
    let size : length (bytes_of ps) ≡ length text = ap (λ (ys : Bytes). length ys) whole in
    inside_short ps place k p stand.in_turn at is (omega arith)

-- ---- the search for a piece

pub between_all : (ps : List Piece) (place : ℕ) → 0 < length ps → IsBetween ps place 0 (length ps)
between_all ps place some = record { some = some; within = omega arith; begins = (let low : 0 ≤ place = omega arith in low); next = λ less. absurd (omega (arith, less)) }

pub between_low : (ps : List Piece) (place low high middle : ℕ) (p : Piece) → AreInTurn ps → IsBetween ps place low high → low < middle → middle < high
    → p ≡ get_or ps middle p → p.start ≤ place → IsBetween ps place middle high
between_low ps place low high middle p turn between above below is reached =
    let within : high ≤ length ps = between.within in
    let start : p.start ≡ length (bytes_of (take middle ps)) = start_of ps middle p turn (omega arith) is in
    record { some = below; within = within; begins = omega arith; next = between.next }

pub between_high : (ps : List Piece) (place low high middle : ℕ) (p : Piece) → AreInTurn ps → IsBetween ps place low high → low < middle → middle < high
    → p ≡ get_or ps middle p → place < p.start → IsBetween ps place low middle
between_high ps place low high middle p turn between above below is before =
    let within : high ≤ length ps = between.within in
    let start : p.start ≡ length (bytes_of (take middle ps)) = start_of ps middle p turn (omega arith) is in
    record { some = above; within = omega arith; begins = between.begins; next = λ less. omega (arith, start, before) }

pub between_end : (ps : List Piece) (place low high : ℕ) → IsBetween ps place low high → high ≤ low + 1 → IsPieceAt ps place low
between_end ps place low high between one =
    let some : low < high = between.some in
    let within : high ≤ length ps = between.within in
    let is : high ≡ low + 1 = omega arith in
    record {
      within = omega arith;
      begins = between.begins;
      next = subst (λ (n : ℕ). n < length ps → place < length (bytes_of (take n ps))) is between.next;
    }

-- ---- a text that is copied piece by piece

pub copied_fits : (ps : List Piece) (text content : Bytes) (len k : ℕ) (p : Piece) → StandFor ps len → k < length ps → p ≡ get_or ps k p
    → text ≡ bytes_of (take k ps) → content ≡ p.content → length text + length content ≤ most_bytes
copied_fits ps text content len k p stand lt is before same =
    let start : p.start ≡ length (bytes_of (take k ps)) = start_of ps k p stand.in_turn lt is in
    let size : length text ≡ length (bytes_of (take k ps)) = ap (λ (ys : Bytes). length ys) before in
    let more : length content ≡ length p.content = ap (λ (ys : Bytes). length ys) same in
    omega (arith, end_fits ps len k p stand lt is)

pub copied_some : (ps : List Piece) (content : Bytes) (len k : ℕ) (p : Piece) → StandFor ps len → k < length ps → p ≡ get_or ps k p
    → content ≡ p.content → 0 < length content
copied_some ps content len k p stand lt is same =
    subst (λ (ys : Bytes). 0 < length ys) (sym same) (piece_is ps len k p stand lt is).some

pub copied_utf8 : (ps : List Piece) (content : Bytes) (len k : ℕ) (p : Piece) → StandFor ps len → k < length ps → p ≡ get_or ps k p
    → content ≡ p.content → IsUtf8 content
copied_utf8 ps content len k p stand lt is same = subst (λ (ys : Bytes). IsUtf8 ys) (sym same) (piece_is ps len k p stand lt is).utf8

pub copied_more : (ps : List Piece) (text content after : Bytes) (k : ℕ) (p : Piece) → k < length ps → p ≡ get_or ps k p
    → text ≡ bytes_of (take k ps) → content ≡ p.content → after ≡ text ++ content → after ≡ bytes_of (take (k + 1) ps)
copied_more ps text content after k p lt is before same made =
    made
    ∙ ap (λ (ys : Bytes). ys ++ content) before
    ∙ ap (λ (ys : Bytes). bytes_of (take k ps) ++ ys) same
    ∙ sym (pushed_bytes (take k ps) p)
    ∙ ap (λ (q : Piece). bytes_of (take k ps ++ q ∷ [])) is
    ∙ ap (λ (qs : List Piece). bytes_of qs) (sym (take_more ps k p lt))

pub copied_all : (ps : List Piece) (text whole : Bytes) (k : ℕ) → bytes_of ps ≡ whole → length ps ≤ k → text ≡ bytes_of (take k ps) → text ≡ whole
copied_all ps text whole k is ends before = before ∙ ap (λ (qs : List Piece). bytes_of qs) (take_all k ps ends) ∙ is

-- ---- what is left behind so many bytes

pub past_all : (rest head : Bytes) (later : List Piece) (count : ℕ) → head ++ bytes_of later ≡ rest → IsRest head later → IsCharBoundary rest count
    → IsPast rest count head later count
past_all rest head later count whole is on = record {
  is_rest = is;
  on = subst (λ (ys : Bytes). IsCharBoundary ys count) (sym whole) on;
  bytes = ap (λ (ys : Bytes). drop count ys) whole;
}

pub past_some : (rest head : Bytes) (later : List Piece) (whole count : ℕ) → IsPast rest whole head later count → length head < count → 0 < length later
past_some rest head later whole count past less = by later past.on.0
  where
    by : (ps : List Piece) → count ≤ length (head ++ bytes_of ps) → 0 < length ps
    by [] within = absurd (let all : count ≤ length (head ++ []) = within in omega (arith, all, less, length-append head []))
    by (p ∷ ps) within = omega arith

pub past_more : (rest head next : Bytes) (later others : List Piece) (whole count n : ℕ) (p : Piece) → IsPast rest whole head later count
    → length head < count → p ≡ get_or later 0 p → next ≡ p.content → others ≡ drop 1 later → n ≡ count - length head
    → IsPast rest whole next others n
past_more rest head next later others whole count n p past less is same behind left =
    let some = past_some rest head later whole count past less in
    let here : count ≡ length head + n = omega arith in
    let open_at : bytes_of later ≡ next ++ bytes_of others =
    reopened later p some is
    ∙ ap (λ (ys : Bytes). ys ++ bytes_of (drop 1 later)) (sym same)
    ∙ ap (λ (qs : List Piece). next ++ bytes_of qs) (sym behind) in
    let moved : IsCharBoundary (head ++ bytes_of later) (length head + n) =
    subst (λ (m : ℕ). IsCharBoundary (head ++ bytes_of later) m) here past.on in
    record {
      is_rest = record {
        utf8 = subst (λ (ys : Bytes). IsUtf8 ys) (sym same) (piece_of later 0 p past.is_rest.each some is).utf8;
        each = subst (λ (qs : List Piece). All IsPiece qs) (sym behind) (All-drop IsPiece 1 later past.is_rest.each);
      };
      on = subst (λ (ys : Bytes). IsCharBoundary ys n) open_at (boundary_right head (bytes_of later) n moved);
      bytes =
          ap (λ (ys : Bytes). drop n ys) (sym open_at)
          ∙ sym (drop-append-add head (bytes_of later) n)
          ∙ ap (λ (m : ℕ). drop m (head ++ bytes_of later)) (sym here)
          ∙ past.bytes;
    }

pub past_fewer : (later others : List Piece) → 0 < length later → others ≡ drop 1 later → length others < length later
past_fewer later others some behind =
    let size : length others ≡ length (drop 1 later) = ap (λ (qs : List Piece). length qs) behind in
    omega (arith, length-drop 1 later)

pub past_here : (rest head : Bytes) (later : List Piece) (whole count : ℕ) → IsPast rest whole head later count → count ≤ length head → IsCharBoundary head count
past_here rest head later whole count past within = boundary_left head (bytes_of later) count within past.on

pub past_rest : (rest head tail : Bytes) (later : List Piece) (whole count : ℕ) → IsPast rest whole head later count → count ≤ length head → tail ≡ drop count head
    → IsRest tail later
past_rest rest head tail later whole count past within is = record {
  utf8 = subst (λ (ys : Bytes). IsUtf8 ys) (sym is) (IsUtf8-drop head count past.is_rest.utf8 (past_here rest head later whole count past within));
  each = past.is_rest.each;
}

pub past_bytes : (rest head tail : Bytes) (later : List Piece) (whole count : ℕ) → IsPast rest whole head later count → count ≤ length head → tail ≡ drop count head
    → tail ++ bytes_of later ≡ drop whole rest
past_bytes rest head tail later whole count past within is =
    ap (λ (ys : Bytes). ys ++ bytes_of later) is
    ∙ sym (drop-append-le count head (bytes_of later) within)
    ∙ past.bytes

pub past_utf8 : (rest head tail : Bytes) (later : List Piece) (whole count : ℕ) → IsPast rest whole head later count → count ≤ length head → tail ≡ drop count head
    → IsUtf8 (tail ++ bytes_of later)
past_utf8 rest head tail later whole count past within is = rest_utf8 tail later (past_rest rest head tail later whole count past within is)

-- ---- the first bytes of a rest

pub first_on : (rest head : Bytes) (later : List Piece) (count : ℕ) → head ++ bytes_of later ≡ rest → IsCharBoundary rest count → count ≤ length head
    → IsCharBoundary head count
first_on rest head later count whole on within =
    boundary_left head (bytes_of later) count within (subst (λ (ys : Bytes). IsCharBoundary ys count) (sym whole) on)

pub first_bytes : (rest head first : Bytes) (later : List Piece) (count : ℕ) → head ++ bytes_of later ≡ rest → count ≤ length head → first ≡ take count head
    → first ≡ take count rest
first_bytes rest head first later count whole within is =
    is ∙ sym (take-append-le count head (bytes_of later) within) ∙ ap (λ (ys : Bytes). take count ys) whole

pub joined_none : (rest made left : Bytes) (count : ℕ) → IsCharBoundary rest count → made ≡ [] → left ≡ rest → IsJoined rest count made left count
joined_none rest made left count on none_made same = record {
  on = subst (λ (ys : Bytes). IsCharBoundary ys count) (sym same) on;
  bytes = ap (λ (ys : Bytes). ys ++ take count left) none_made ∙ ap (λ (ys : Bytes). take count ys) same;
}

pub joined_on : (rest made left head later : Bytes) (count wanting now : ℕ) → IsJoined rest count made left wanting → head ++ later ≡ left → now ≡ min wanting (length head)
    → IsCharBoundary head now
joined_on rest made left head later count wanting now joined cut few = by (cases_lt (length head) wanting)
  where
    by : (length head < wanting) ⊎ (wanting ≤ length head) → IsCharBoundary head now
    by (inl more) =
        let same : length head ≡ now = omega (arith, more, few) in
        subst (λ (n : ℕ). IsCharBoundary head n) same (IsCharBoundary-end head)
    by (inr less) =
        let same : wanting ≡ now = omega (arith, less, few) in
        let on : IsCharBoundary (head ++ later) wanting = subst (λ (ys : Bytes). IsCharBoundary ys wanting) (sym cut) joined.on in
        subst (λ (n : ℕ). IsCharBoundary head n) same (boundary_left head later wanting less on)

pub joined_goes_on : (rest made left head : Bytes) (count wanting now : ℕ) → IsJoined rest count made left wanting → 0 < wanting → (0 < length left → 0 < length head)
    → now ≡ min wanting (length head) → 0 < now
joined_goes_on rest made left head count wanting now joined some heads few =
    let within : wanting ≤ length left = joined.on.0 in
    let one : 0 < length head = heads (omega arith) in
    omega arith

pub joined_more : (rest made left head later first after : Bytes) (count wanting now : ℕ) → IsJoined rest count made left wanting → head ++ later ≡ left → IsUtf8 later
    → now ≡ min wanting (length head) → first ≡ take now head → after ≡ made ++ first → IsJoined rest count after later (wanting - now)
joined_more rest made left head later first after count wanting now joined cut utf8 few is more = by (cases_lt (length head) wanting)
  where
    on : IsCharBoundary (head ++ later) wanting
    on = subst (λ (ys : Bytes). IsCharBoundary ys wanting) (sym cut) joined.on

    whole : made ++ take wanting (head ++ later) ≡ take count rest
    whole = ap (λ (ys : Bytes). made ++ take wanting ys) cut ∙ joined.bytes

    by : (length head < wanting) ⊎ (wanting ≤ length head) → IsJoined rest count after later (wanting - now)
    by (inl over) =
        let same : now ≡ length head = omega (arith, over, few) in
        let here : wanting ≡ length head + (wanting - now) = omega (arith, over, same) in
        let all : first ≡ head = is ∙ take_all now head (omega (arith, same)) in
        record {
          on = boundary_right head later (wanting - now) (subst (λ (n : ℕ). IsCharBoundary (head ++ later) n) here on);
          bytes =
              ap (λ (ys : Bytes). ys ++ take (wanting - now) later) more
              ∙ ap (λ (ys : Bytes). made ++ ys ++ take (wanting - now) later) all
              ∙ append_assoc made head (take (wanting - now) later)
              ∙ ap (λ (ys : Bytes). made ++ ys) (sym (take-append-add head later (wanting - now)))
              ∙ ap (λ (n : ℕ). made ++ take n (head ++ later)) (sym here)
              ∙ whole;
        }
    by (inr less) =
        let same : now ≡ wanting = omega (arith, less, few) in
        let none_left : wanting - now ≡ 0 = omega (arith, same) in
        record {
          on = subst (λ (n : ℕ). IsCharBoundary later n) (sym none_left) (IsCharBoundary-start later utf8);
          bytes =
              ap (λ (n : ℕ). after ++ take n later) none_left
              ∙ append-nil after
              ∙ more
              ∙ ap (λ (ys : Bytes). made ++ ys) (is ∙ ap (λ (n : ℕ). take n head) same ∙ sym (take-append-le wanting head later less))
              ∙ whole;
        }

pub joined_all : (rest made left : Bytes) (count wanting : ℕ) → IsJoined rest count made left wanting → wanting ≤ 0 → made ≡ take count rest
joined_all rest made left count wanting joined ended =
    let none_left : 0 ≡ wanting = omega arith in
    sym (append-nil made) ∙ ap (λ (n : ℕ). made ++ take n left) none_left ∙ joined.bytes

-- ---- parts of a text between places of it

pub boundary_of_rest : (text rest : Bytes) (start end : ℕ) → rest ≡ drop start text → start ≤ end → IsCharBoundary text start → IsCharBoundary text end
    → IsCharBoundary rest (end - start)
boundary_of_rest text rest start end is ordered begins ends =
    let within : start ≤ length text = begins.0 in
    let here : end ≡ length (take start text) + (end - start) = omega (arith, length-take start text) in
    let parted : IsCharBoundary (take start text ++ drop start text) end = subst (λ (ys : Bytes). IsCharBoundary ys end) (sym (take-append-drop start text)) ends in
    subst (λ (ys : Bytes). IsCharBoundary ys (end - start)) (sym is)
    (boundary_right (take start text) (drop start text) (end - start) (subst (λ (n : ℕ). IsCharBoundary (take start text ++ drop start text) n) here parted))
