use Rattle.std.proofs.Common.{◌≡◌, ◌+◌, ◌<◌, ◌++◌, [], ◌∷◌, Some, None, length, slice_get, sym, ap, ap₂, subst, ◌∙◌, arith}
use Rattle.std.specs.Prelude.{string_bytes}
use Rattle.ts_query_tree.specs.Words.{letter_of}
use Rattle.ts_query_tree.proofs.WordLemmas.{between, IsPiece, piece_runs, stands_plain, piece_open, piece_letter, piece_other, plain_boundary, byte_there, quote_there, no_quote, at_end, letter_bytes}
use Rattle.ts_query_tree.proofs.sight.quoted.Goals as goal

pub returns-then-eq : goal.returns-then-eq
returns-then-eq c =
    let w = c.args.text.now in
    let end = c.pieces.at + c.run.result in
    let p = piece_runs w c.args.from c.pieces.kept c.pieces.at (string_bytes c.pieces.read) c.run.result c.pieces.invariant c.run.ensures.value c.run.ensures.within in
    at_end w c.args.from c.pieces.kept end (string_bytes c.pieces.read) c.from_string.result c.range.result.now p
    (sym c.byte_at.ensures ∙ quote_there c.byte_at.result c.if-eq.ensures) c.range.ensures.value (c.from_string.ensures ∙ c.in_ok-push_str.ensures.bytes)

pub returns-in_default : goal.returns-in_default
returns-in_default c =
    let w = c.args.text.now in
    let p = piece_runs w c.args.from c.pieces.kept c.pieces.at (string_bytes c.pieces.read) c.run.result c.pieces.invariant c.run.ensures.value c.run.ensures.within in
    let end = c.pieces.at + c.run.result in
    let none : slice_get w (end + 1) ≡ None = sym c.byte_at-in-pieces.ensures ∙ c.in_default.is in
    sym (piece_open w c.args.from c.pieces.kept end (string_bytes c.pieces.read) p (λ lt. stands_plain w c.pieces.at c.run.result c.run.ensures.value lt)
    (λ h. no_quote c.byte_at.result c.if-eq.ensures (c.byte_at.ensures ∙ h)) none)

pub range-requires-in-pieces-clause-end_boundary : goal.range-requires-in-pieces-clause-end_boundary
range-requires-in-pieces-clause-end_boundary c =
    let w = c.args.text.now in
    let end = c.pieces.at + c.run.result in
    let there = byte_there w (end + 1) c.in-Some.letter (sym c.byte_at-in-pieces.ensures ∙ c.in-Some.is) in
    let lt : end < length w = omega (arith, there.0) in
    plain_boundary w end lt (stands_plain w c.pieces.at c.run.result c.run.ensures.value lt)

pub pieces-smaller-in-Some-letter_of : goal.pieces-smaller-in-Some-letter_of
pieces-smaller-in-Some-letter_of c =
    let there = byte_there c.args.text.now (c.pieces.at + c.run.result + 1) c.in-Some.letter (sym c.byte_at-in-pieces.ensures ∙ c.in-Some.is) in
    omega (arith, there.0)

pub pieces-preserved-in-Some-letter_of : goal.pieces-preserved-in-Some-letter_of
pieces-preserved-in-Some-letter_of c =
    let w = c.args.text.now in
    let end = c.pieces.at + c.run.result in
    let p = piece_runs w c.args.from c.pieces.kept c.pieces.at (string_bytes c.pieces.read) c.run.result c.pieces.invariant c.run.ensures.value c.run.ensures.within in
    let letter : letter_of c.in-Some.letter ≡ Some c.in-Some-letter_of.character = sym c.letter_of.ensures.value ∙ c.in-Some-letter_of.is in
    let bytes : string_bytes c.push.new.self ≡ (string_bytes c.pieces.read ++ between w c.pieces.kept end) ++ c.in-Some-letter_of.character ∷ [] =
    c.in_ok-push.ensures.bytes
    ∙ ap₂ (λ s t. s ++ t) (c.in_ok-push_str-2.ensures.bytes ∙ ap (λ t. string_bytes c.pieces.read ++ t) c.range-in-pieces.ensures.value) (letter_bytes c.in-Some.letter c.in-Some-letter_of.character letter) in
    subst (IsPiece w c.args.from (end + 2) (end + 2)) (sym bytes)
    (piece_letter w c.args.from c.pieces.kept end (string_bytes c.pieces.read) c.in-Some.letter c.in-Some-letter_of.character c.utf8.text p
    (λ lt. stands_plain w c.pieces.at c.run.result c.run.ensures.value lt) (λ h. no_quote c.byte_at.result c.if-eq.ensures (c.byte_at.ensures ∙ h))
    (sym c.byte_at-in-pieces.ensures ∙ c.in-Some.is) letter)

pub pieces-smaller : goal.pieces-smaller
pieces-smaller c =
    let there = byte_there c.args.text.now (c.pieces.at + c.run.result + 1) c.in-Some.letter (sym c.byte_at-in-pieces.ensures ∙ c.in-Some.is) in
    omega (arith, there.0)

pub pieces-preserved : goal.pieces-preserved
pieces-preserved c =
    let w = c.args.text.now in
    let end = c.pieces.at + c.run.result in
    let p = piece_runs w c.args.from c.pieces.kept c.pieces.at (string_bytes c.pieces.read) c.run.result c.pieces.invariant c.run.ensures.value c.run.ensures.within in
    let letter : letter_of c.in-Some.letter ≡ None = sym c.letter_of.ensures.value ∙ c.in_default-letter_of.is in
    let bytes : string_bytes c.push_str-in-pieces.new.self ≡ string_bytes c.pieces.read ++ between w c.pieces.kept end =
    c.in_ok-push_str-2.ensures.bytes ∙ ap (λ t. string_bytes c.pieces.read ++ t) c.range-in-pieces.ensures.value in
    subst (IsPiece w c.args.from (end + 1) (end + 2)) (sym bytes)
    (piece_other w c.args.from c.pieces.kept end (string_bytes c.pieces.read) c.in-Some.letter c.utf8.text p
    (λ lt. stands_plain w c.pieces.at c.run.result c.run.ensures.value lt) (λ h. no_quote c.byte_at.result c.if-eq.ensures (c.byte_at.ensures ∙ h))
    (sym c.byte_at-in-pieces.ensures ∙ c.in-Some.is) letter)
