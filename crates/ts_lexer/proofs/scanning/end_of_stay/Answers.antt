use Rattle.std.proofs.Common.{◌+◌, drop, arith}
use Rattle.ts_lexer.specs.Scanned.{unread, past}
use Rattle.ts_lexer.proofs.StayLemmas.{ascii_next}
use Rattle.ts_lexer.proofs.scanning.end_of_stay.Goals as goal

pub staying-init : goal.staying-init
staying-init c = record { rises = omega arith; within = c.requires.from; stays = unread (drop c.args.from c.args.bytes.now) }

pub staying-preserved : goal.staying-preserved
staying-preserved c =
    let yes = c.if-not-stays_over.false in
    let stays = c.stays_over.ensures.stays yes in
    record {
      rises = (let le = c.staying.invariant.rises in omega arith);
      within = (let lt = c.staying-test.true in omega arith);
      stays = past (drop c.args.from c.args.bytes.now) (drop c.staying.place c.args.bytes.now) (drop (c.staying.place + 1) c.args.bytes.now) _ c.staying.invariant.stays
          (ascii_next c.args.bytes.now c.staying.place c.staying-test.true (c.stays_over.ensures.ascii yes)) stays;
    }
