use Rattle.std.proofs.Common.{◌+◌, ◌<◌, get_or, drop, arith}
use Rattle.std.proofs.lemmas.Str.{IsCharBoundary-from_drop}
use Rattle.ts_lexer.proofs.StayLemmas.{ascii_len, ascii_next}
use Rattle.ts_lexer.proofs.scanning.turn_at.Goals as goal

pub returns-then-byte-lt128 : goal.returns-then-byte-lt128
returns-then-byte-lt128 c =
    let small : get_or c.args.text.now c.args.place 0 < 128 = rw c.as_bytes.ensures.value at c.if-byte-lt128.true in
    record {
      character = get_or c.args.text.now c.args.place 0;
      later = drop (c.args.place + 1) c.args.text.now;
      spells = ascii_next c.args.text.now c.args.place c.requires.within small;
      len = ascii_len (get_or c.args.text.now c.args.place 0) small;
      within = c.next.ensures.within;
      leads = rw c.as_bytes.ensures.value at c.next.ensures.stands;
    }

pub split_at-requires : goal.split_at-requires
split_at-requires c = IsCharBoundary-from_drop c.args.text.now c.args.place (let lt = c.requires.within in omega arith) c.requires.utf8
