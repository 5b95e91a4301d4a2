use Rattle.std.proofs.Common.{length, chars, IsUtf8, sym, subst, arith, take_at, take_all, append-nil, ◌≤◌}
use Rattle.std.proofs.lemmas.Grind.{common_steps}
use Rattle.std.proofs.lemmas.List.{nil_from_length}
use Rattle.std.proofs.lemmas.Str.{encodes-chars, chars-nil}
use Rattle.ts_pattern.proofs.PlaceLemmas.{passed, place_of}
use Rattle.ts_pattern.proofs.reader.byte_place.Goals as goal

pub returns-in-Some-clause-value : goal.returns-in-Some-clause-value
returns-in-Some-clause-value c =
    let ran = c.in-Some.ensures.ran in
    let made = c.char_indices.ensures in
    let front = rw (made.rest, made.offset) at (passed ran.0 _ ran.1.0 (subst IsUtf8 (sym made.rest) c.utf8.source) ran.1.1) in
    let both = place_of c.args.at front (rw front.read (take_at _ _ _ (grind (arith, common_steps, ran.2)))) in
    rw ran.1.2.0 both

pub returns-in-None-clause-value : goal.returns-in-None-clause-value
returns-in-None-clause-value c =
    let ran = c.in-None.ensures.ran in
    let made = c.char_indices.ensures in
    let front = rw (made.rest, made.offset) at (passed ran.0 _ ran.1.0 (subst IsUtf8 (sym made.rest) c.utf8.source) ran.1.1) in
    let read = rw (nil_from_length _ ran.1.2.0, chars-nil, append-nil) at front.read in
    let few : length (chars c.args.source.now) ≤ c.args.at = rw read (grind (arith, common_steps, ran.2)) in
    rw (take_all _ _ few, encodes-chars _ c.utf8.source)
