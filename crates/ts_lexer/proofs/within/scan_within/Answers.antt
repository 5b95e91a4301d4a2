use Rattle.std.proofs.Common.{◌≡◌, sym, subst, ℕ, ◌+◌, ◌-◌, ◌<◌, ◌≤◌, ◌++◌, List, None, length, drop, arith}
use Rattle.std.specs.Str.{IsUtf8}
use Rattle.std.proofs.lemmas.Str.{IsUtf8-append}
use Rattle.ts_base.specs.Bytes.{Bytes}
use Rattle.ts_automata.specs.Machine.{HasRead}
use Rattle.ts_lexer.specs.declared.scanned.Progress.{Progress}
use Rattle.ts_lexer.specs.Runs.{IsAll, Running}
use Rattle.ts_lexer.specs.Scanned.{PartMatches, Stays}
use Rattle.ts_lexer.proofs.KnowLemmas.{row_knows}
use Rattle.ts_lexer.proofs.RunLemmas.{Laws, run_begins}
use Rattle.ts_lexer.proofs.ScannedLemmas.{dead_at}
use Rattle.ts_lexer.proofs.SofarLemmas.{sofar_none}
use Rattle.ts_lexer.proofs.StayLemmas.{passes, spelled_before, stays_before, stays_utf8, turned}
use Rattle.ts_lexer.proofs.WithinLemmas.{sum_from}
use Rattle.ts_lexer.proofs.within.scan_within.Goals as goal

pub reading-init : goal.reading-init
reading-init c = record {
  set = c.first-state.ensures.within;
  rises = omega arith;
  within = (let lt = c.if-from-piece.false in omega arith);
  utf8 = c.requires.utf8;
  turns = c.turn_at.ensures;
  running = λ g valid first tail rules rows is utf8.
      let laws : Laws = record {
        front_prefix = c.a_front_has_fronts.ensures;
        word_front = c.every_word_is_a_front.ensures.word;
        nothing = c.beginnings.ensures.nothing;
        prefix = c.beginnings.ensures.prefix;
        longer = c.beginnings.ensures.longer;
        more = c.beginnings.ensures.more;
        follows = c.beginnings.ensures.follows;
        within = c.beginnings.ensures.within;
        one = c.one_character_at_a_time.ensures;
      } in
      let text = drop c.args.from c.args.piece.now ++ tail in
      let R = λ (w : List ℕ). HasRead c.args.machine.now w c.first-state.result in
      let none : Progress = record { plain = None; word = 0; keyword = None; separator = 0 } in
      let begun : 0 ≡ c.args.from - c.args.from = omega arith in
      subst (λ (n : ℕ). Running R g valid first text text n none) begun
      (run_begins laws R g valid first text none (IsUtf8-append (drop c.args.from c.args.piece.now) tail c.requires.utf8 utf8) c.first-state.ensures.stands
      (sofar_none g valid first (PartMatches g text) (λ k n m. m.matches.some)));
}

pub returns-then-not-verdict-clause-scanned : goal.returns-then-not-verdict-clause-scanned
returns-then-not-verdict-clause-scanned c g valid first tail rules rows is utf8 =
    let laws : Laws = record {
      front_prefix = c.a_front_has_fronts.ensures;
      word_front = c.every_word_is_a_front.ensures.word;
      nothing = c.beginnings.ensures.nothing;
      prefix = c.beginnings.ensures.prefix;
      longer = c.beginnings.ensures.longer;
      more = c.beginnings.ensures.more;
      follows = c.beginnings.ensures.follows;
      within = c.beginnings.ensures.within;
      one = c.one_character_at_a_time.ensures;
    } in
    let inv = c.reading.invariant in
    let run = inv.running g valid first tail rules rows is utf8 in
    let m = c.args.machine.now in
    let t = inv.turns in
    let here = drop c.reading.here.place c.args.piece.now in
    let text = drop c.args.from c.args.piece.now ++ tail in
    let known = row_knows g valid first m is c.args.row.now rows _ c.reading.here.turn.to c.verdict_at-verdict.result.now (t.leads run.characters run.read) c.verdict_at-verdict.ensures in
    let far : c.reading.here.place - c.args.from + c.reading.here.turn.len ≡ c.reading.here.place + c.reading.here.turn.len - c.args.from = (let low = inv.rises in omega arith) in
    c.scanned.ensures g valid first text rules
    (subst (λ (n : ℕ). IsAll g valid first text c.reading.progress n) far
    (dead_at laws g valid first text (λ w. HasRead m w c.reading.state) (here ++ tail) (c.reading.here.place - c.args.from) c.reading.progress run t.character (t.later ++ tail)
    (spelled_before here t.later tail t.character t.spells) c.reading.here.turn.len t.len c.verdict_at-verdict.result.now known c.if-not-verdict.true))

pub overflow_add-end : goal.overflow_add-end
overflow_add-end c =
    let inv = c.reading.invariant in
    let t = inv.turns in
    let within = (passes c.args.piece.now c.reading.here.place t.character c.reading.here.turn.len t.later (let lt = inv.within in omega arith) inv.utf8 t.spells t.len).within in
    let size = c.requires.size in
    omega arith

pub overflow_sub-end : goal.overflow_sub-end
overflow_sub-end c = let low = c.reading.invariant.rises in omega arith

pub overflow_sub-next : goal.overflow_sub-next
overflow_sub-next c = let low = c.reading.invariant.rises in let far = c.in-Some.ensures.rises in omega arith

pub returns-then-not-verdict-clause-some : goal.returns-then-not-verdict-clause-some
returns-then-not-verdict-clause-some c = let low = c.reading.invariant.rises in let high = c.reading.invariant.within in omega arith

pub verdict_at-verdict-requires : goal.verdict_at-verdict-requires
verdict_at-verdict-requires c = let to = c.reading.invariant.turns.within in let count = c.requires.count in omega arith

pub left_at-requires-clause-set : goal.left_at-requires-clause-set
left_at-requires-clause-set c = c.reading.invariant.turns.within

pub left_at-requires-clause-from : goal.left_at-requires-clause-from
left_at-requires-clause-from c =
    let inv = c.reading.invariant in
    let t = inv.turns in
    (passes c.args.piece.now c.reading.here.place t.character c.reading.here.turn.len t.later (let lt = inv.within in omega arith) inv.utf8 t.spells t.len).within

pub left_at-requires-clause-utf8 : goal.left_at-requires-clause-utf8
left_at-requires-clause-utf8 c =
    let inv = c.reading.invariant in
    let t = inv.turns in
    let p = passes c.args.piece.now c.reading.here.place t.character c.reading.here.turn.len t.later (let lt = inv.within in omega arith) inv.utf8 t.spells t.len in
    subst IsUtf8 p.is p.utf8

pub reading-smaller : goal.reading-smaller
reading-smaller c =
    let inv = c.reading.invariant in
    let t = inv.turns in
    let p = passes c.args.piece.now c.reading.here.place t.character c.reading.here.turn.len t.later (let lt = inv.within in omega arith) inv.utf8 t.spells t.len in
    let some = p.some in
    let far = c.in-Some.ensures.rises in
    let within = c.in-Some.ensures.within in
    let smaller : length c.args.piece.now - c.in-Some.next.place < length c.args.piece.now - c.reading.here.place = omega arith in
    smaller

pub reading-preserved : goal.reading-preserved
reading-preserved c =
    let inv = c.reading.invariant in
    let t = inv.turns in
    let p = passes c.args.piece.now c.reading.here.place t.character c.reading.here.turn.len t.later (let lt = inv.within in omega arith) inv.utf8 t.spells t.len in
    let leaves = c.in-Some.ensures in
    let m = c.args.machine.now in
    let to = c.reading.here.turn.to in
    let here = drop c.reading.here.place c.args.piece.now in
    let there = drop c.in-Some.next.place c.args.piece.now in
    let stays : Stays m to t.later there = subst (λ (l : Bytes). Stays m to l there) (sym p.is) leaves.stays in
    let low : c.args.from ≤ c.reading.here.place = inv.rises in
    let high : c.reading.here.place ≤ c.in-Some.next.place = (let far = leaves.rises in omega arith) in
    record {
      set = t.within;
      rises = omega arith;
      within = leaves.within;
      utf8 = stays_utf8 m to t.later there stays p.utf8;
      turns = leaves.turns;
      running = λ g valid first tail rules rows is utf8.
          let laws : Laws = record {
            front_prefix = c.a_front_has_fronts.ensures;
            word_front = c.every_word_is_a_front.ensures.word;
            nothing = c.beginnings.ensures.nothing;
            prefix = c.beginnings.ensures.prefix;
            longer = c.beginnings.ensures.longer;
            more = c.beginnings.ensures.more;
            follows = c.beginnings.ensures.follows;
            within = c.beginnings.ensures.within;
            one = c.one_character_at_a_time.ensures;
          } in
          let run = inv.running g valid first tail rules rows is utf8 in
          let size = c.reading.here.place - c.args.from in
          turned laws g valid first m is c.args.row.now rows to c.verdict_at-verdict.result.now c.verdict_at-verdict.ensures c.if-not-verdict.false (drop c.args.from c.args.piece.now ++ tail)
          (here ++ tail) size (λ w. HasRead m w c.reading.state) c.reading.progress run t.character (t.later ++ tail) (spelled_before here t.later tail t.character t.spells) (t.leads run.characters run.read)
          (there ++ tail) (stays_before m to t.later there tail stays) (c.in-Some.next.place - c.args.from) (sum_from c.args.piece.now tail c.args.from c.reading.here.place c.in-Some.next.place low high (let lt = leaves.within in omega arith)) c.advance.new.progress
          (λ w step known sofar. c.advance.ensures.sofar g valid first (drop c.args.from c.args.piece.now ++ tail) size w rules step known sofar);
    }
