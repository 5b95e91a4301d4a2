use Rattle.std.proofs.Common.{◌≡◌, ◌<◌, ◌≤◌, ◌-◌, ◌+◌, ◌++◌, sym, subst, ℕ, drop, length, length-drop, arith}
use Rattle.ts_base.specs.Bytes.{Bytes}
use Rattle.ts_automata.specs.Machine.{HasRead}
use Rattle.ts_lexer.specs.Scanned.{Stays}
use Rattle.ts_lexer.specs.Runs.{Running}
use Rattle.ts_lexer.proofs.KnowLemmas.{row_knows}
use Rattle.ts_lexer.proofs.PassLemmas.{empty_of}
use Rattle.ts_lexer.proofs.RunLemmas.{Laws}
use Rattle.ts_lexer.proofs.ScannedLemmas.{dead_at}
use Rattle.ts_lexer.proofs.StayLemmas.{passes, spelled_before, same_sum, stays_before, stays_utf8, turned}
use Rattle.ts_lexer.proofs.scanning.read_by_row.Goals as goal

pub reading-init : goal.reading-init
reading-init c = record {
  set = c.requires.set;
  within = omega arith;
  utf8 = c.utf8.piece;
  running = λ g valid first rest tail rules rows is run.
      let e : c.args.run.now.size ≡ c.args.run.now.size + 0 = omega arith in
      subst (λ (n : ℕ). Running (λ w. HasRead c.args.machine.now w c.args.run.now.state) g valid first rest (c.args.piece.now ++ tail) n c.args.run.now.progress) e run;
}

pub returns-clause-size : goal.returns-clause-size
returns-clause-size c =
    let low = c.reading.invariant.within in
    let high = c.reading-test.false in
    let all : c.args.run.now.size + c.reading.place ≡ c.args.run.now.size + length c.args.piece.now = omega arith in
    all

pub returns-clause-read : goal.returns-clause-read
returns-clause-read c g valid first rest tail rules rows is before =
    let run = c.reading.invariant.running g valid first rest tail rules rows is before in
    let none = empty_of (drop c.reading.place c.args.piece.now) (let d = length-drop c.reading.place c.args.piece.now in let e = c.reading-test.false in omega arith) in
    subst (λ (l : Bytes). Running (λ w. HasRead c.args.machine.now w c.reading.state) g valid first rest (l ++ tail) (c.args.run.now.size + c.reading.place) c.reading.progress) none run

pub returns-then-not-verdict-clause-read : goal.returns-then-not-verdict-clause-read
returns-then-not-verdict-clause-read c g valid first rest tail rules rows is before best chosen =
    let laws : Laws = record {
      front_prefix = c.a_front_has_fronts.ensures;
      word_front = c.every_word_is_a_front.ensures.word;
      nothing = c.beginnings.ensures.nothing;
      prefix = c.beginnings.ensures.prefix;
      longer = c.beginnings.ensures.longer;
      more = c.beginnings.ensures.more;
      follows = c.beginnings.ensures.follows;
      within = c.beginnings.ensures.within;
      one = c.one_character_at_a_time.ensures;
    } in
    let run = c.reading.invariant.running g valid first rest tail rules rows is before in
    let m = c.args.machine.now in
    let t = c.turn_at-turn.ensures in
    let known = row_knows g valid first m is c.args.row.now rows _ c.turn_at-turn.result.to c.verdict_at-verdict.result.now (t.leads run.characters run.read) c.verdict_at-verdict.ensures in
    dead_at laws g valid first rest (λ w. HasRead m w c.reading.state) (drop c.reading.place c.args.piece.now ++ tail) (c.args.run.now.size + c.reading.place) c.reading.progress run t.character (t.later ++ tail)
    (spelled_before (drop c.reading.place c.args.piece.now) t.later tail t.character t.spells) c.turn_at-turn.result.len t.len
    c.verdict_at-verdict.result.now known c.if-not-verdict.true best chosen

pub end_of_stay-place-requires-clause-from : goal.end_of_stay-place-requires-clause-from
end_of_stay-place-requires-clause-from c =
    let t = c.turn_at-turn.ensures in
    rw c.as_bytes-bytes.ensures.value (passes c.args.piece.now c.reading.place t.character c.turn_at-turn.result.len t.later c.reading.invariant.within c.reading.invariant.utf8 t.spells t.len).within

pub reading-smaller : goal.reading-smaller
reading-smaller c =
    let t = c.turn_at-turn.ensures in
    let p = passes c.args.piece.now c.reading.place t.character c.turn_at-turn.result.len t.later c.reading.invariant.within c.reading.invariant.utf8 t.spells t.len in
    let some = p.some in
    let within = p.within in
    let rises = c.end_of_stay-place.ensures.rises in
    let smaller : length c.args.piece.now - c.end_of_stay-place.result < length c.args.piece.now - c.reading.place = omega arith in
    smaller

pub reading-preserved : goal.reading-preserved
reading-preserved c =
    let inv = c.reading.invariant in
    let t = c.turn_at-turn.ensures in
    let p = passes c.args.piece.now c.reading.place t.character c.turn_at-turn.result.len t.later inv.within inv.utf8 t.spells t.len in
    let m = c.args.machine.now in
    let stays : Stays m c.turn_at-turn.result.to t.later (drop c.end_of_stay-place.result c.args.piece.now) = subst (λ (l : Bytes). Stays m c.turn_at-turn.result.to l (drop c.end_of_stay-place.result c.args.piece.now)) (sym p.is) (rw c.as_bytes-bytes.ensures.value at c.end_of_stay-place.ensures.stays) in
    let high : c.end_of_stay-place.result ≤ length c.args.piece.now = rw c.as_bytes-bytes.ensures.value at c.end_of_stay-place.ensures.within in
    record {
      set = t.within;
      within = high;
      utf8 = stays_utf8 m c.turn_at-turn.result.to t.later (drop c.end_of_stay-place.result c.args.piece.now) stays p.utf8;
      running = λ g valid first rest tail rules rows is started.
          let laws : Laws = record {
            front_prefix = c.a_front_has_fronts.ensures;
            word_front = c.every_word_is_a_front.ensures.word;
            nothing = c.beginnings.ensures.nothing;
            prefix = c.beginnings.ensures.prefix;
            longer = c.beginnings.ensures.longer;
            more = c.beginnings.ensures.more;
            follows = c.beginnings.ensures.follows;
            within = c.beginnings.ensures.within;
            one = c.one_character_at_a_time.ensures;
          } in
          let run = inv.running g valid first rest tail rules rows is started in
          let here = drop c.reading.place c.args.piece.now in
          let there = drop c.end_of_stay-place.result c.args.piece.now in
          turned laws g valid first m is c.args.row.now rows c.turn_at-turn.result.to c.verdict_at-verdict.result.now c.verdict_at-verdict.ensures c.if-not-verdict.false rest
          (here ++ tail) (c.args.run.now.size + c.reading.place) (λ w. HasRead m w c.reading.state) c.reading.progress run t.character (t.later ++ tail) (spelled_before here t.later tail t.character t.spells) (t.leads run.characters run.read)
          (there ++ tail) (stays_before m c.turn_at-turn.result.to t.later there tail stays) (c.args.run.now.size + c.end_of_stay-place.result) (same_sum c.args.piece.now tail c.args.run.now.size c.reading.place c.end_of_stay-place.result inv.within high) c.advance.new.progress
          (λ w step known sofar. c.advance.ensures.sofar g valid first rest (c.args.run.now.size + c.reading.place) w rules step known sofar);
    }
