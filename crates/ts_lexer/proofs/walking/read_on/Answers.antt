use Rattle.std.proofs.Common.{◌≡◌, ◌∙◌, sym, ap, refl, subst, ◌+◌, ◌<◌, length, length-append, arith}
use Rattle.ts_base.specs.Bytes.{Bytes}
use Rattle.ts_lexer.specs.Runs.{IsRun}
use Rattle.ts_lexer.specs.Ways.{IsSetOn, LeadsOn}
use Rattle.ts_lexer.specs.declared.scanned.Run.{Run}
use Rattle.ts_lexer.proofs.PassLemmas.{some_left}
use Rattle.ts_lexer.proofs.RunLemmas.{Laws}
use Rattle.ts_lexer.proofs.ScannedLemmas.{end_at}
use Rattle.ts_lexer.proofs.WayLemmas.{here_ready, ended, opened, if_open}
use Rattle.ts_lexer.proofs.walking.read_on.Goals as goal

pub pieces-init : goal.pieces-init
pieces-init c = record {
  set = c.requires.set;
  fits = ap (λ (l : Bytes). c.args.from.now.size + length l) c.copied-rest.ensures.same;
  room = refl;
  running = λ g valid whole ready run.
      subst (λ (l : Bytes). IsRun (LeadsOn c.args.way.now c.args.walk.now) g valid c.args.first whole l c.args.from.now) (sym c.copied-rest.ensures.same) run;
}

pub read_piece-read-requires-clause-size : goal.read_piece-read-requires-clause-size
read_piece-read-requires-clause-size c =
    let whole = ap (λ (l : Bytes). length l) c.split-later.ensures.whole in
    let sum = length-append c.split-later.result.0.now c.split-later.result.1 in
    let fits = c.pieces.invariant.fits in
    let small = c.requires.size in
    omega arith

pub read_piece-read-requires-clause-ready : goal.read_piece-read-requires-clause-ready
read_piece-read-requires-clause-ready c =
    let g = c.requires.ready.0 in
    let valid = c.requires.ready.1 in
    (g, valid, here_ready g valid c.args.way.now c.args.view.now c.args.pair _ _ c.pieces.invariant.room c.requires.ready.2)

pub pieces-smaller : goal.pieces-smaller
pieces-smaller c =
    let whole = ap (λ (l : Bytes). length l) c.split-later.ensures.whole in
    let sum = length-append c.split-later.result.0.now c.split-later.result.1 in
    let some = c.split-later.ensures.some (some_left c.is_empty.result (length c.pieces.rest) c.pieces-test.true c.is_empty.ensures) in
    let less : length c.split-later.result.1 < length c.pieces.rest = omega arith in
    less

pub pieces-preserved : goal.pieces-preserved
pieces-preserved c =
    let inv = c.pieces.invariant in
    let read = c.read_piece-read.ensures in
    let piece = c.split-later.result.0.now in
    let later = c.split-later.result.1 in
    record {
      set = if_open (λ (r : Run). IsSetOn c.args.way.now r.state) c.read_piece-read.result c.in-Open.more c.in-Open.is read.set;
      fits = (
          let size : c.in-Open.more.size ≡ c.pieces.run.size + length piece = if_open (λ (r : Run). r.size ≡ c.pieces.run.size + length piece) c.read_piece-read.result c.in-Open.more c.in-Open.is read.size in
          let whole = ap (λ (l : Bytes). length l) c.split-later.ensures.whole in
          let sum = length-append piece later in
          let fits = inv.fits in
          omega arith
          );
      room = read.room ∙ inv.room;
      running = λ g valid whole ready started.
          let before = subst (λ (l : Bytes). IsRun (LeadsOn c.args.way.now c.pieces.walk) g valid c.args.first whole l c.pieces.run) (sym c.split-later.ensures.whole) (inv.running g valid whole ready started) in
          let here = here_ready g valid c.args.way.now c.args.view.now c.args.pair _ _ inv.room ready in
          opened (LeadsOn c.args.way.now c.read_piece-read.new.walk) g valid c.args.first whole later c.read_piece-read.result c.in-Open.more c.in-Open.is
          (read.read g valid whole later here before);
    }

pub returns-in-Ended-clause-scanned : goal.returns-in-Ended-clause-scanned
returns-in-Ended-clause-scanned c g valid whole ready started =
    let inv = c.pieces.invariant in
    let before = subst (λ (l : Bytes). IsRun (LeadsOn c.args.way.now c.pieces.walk) g valid c.args.first whole l c.pieces.run) (sym c.split-later.ensures.whole) (inv.running g valid whole ready started) in
    let here = here_ready g valid c.args.way.now c.args.view.now c.args.pair _ _ inv.room ready in
    c.scanned.ensures g valid c.args.first whole (c.rules_on.ensures g _ ready.made)
    (ended (LeadsOn c.args.way.now c.read_piece-read.new.walk) g valid c.args.first whole c.split-later.result.1 c.read_piece-read.result c.in-Ended.all c.in-Ended.is
    (c.read_piece-read.ensures.read g valid whole c.split-later.result.1 here before))

pub returns-clause-scanned : goal.returns-clause-scanned
returns-clause-scanned c g valid whole ready started =
    let laws : Laws = record {
      front_prefix = c.a_front_has_fronts.ensures;
      word_front = c.every_word_is_a_front.ensures.word;
      nothing = c.beginnings.ensures.nothing;
      prefix = c.beginnings.ensures.prefix;
      longer = c.beginnings.ensures.longer;
      more = c.beginnings.ensures.more;
      follows = c.beginnings.ensures.follows;
      within = c.beginnings.ensures.within;
      one = c.one_character_at_a_time.ensures;
    } in
    let run = c.pieces.invariant.running g valid whole ready started in
    let none = c.is_empty.ensures.0 c.pieces-test.false in
    c.scanned-2.ensures g valid c.args.first whole (c.rules_on-2.ensures g _ ready.made)
    (end_at laws g valid c.args.first whole (LeadsOn c.args.way.now c.pieces.walk c.pieces.run.state) c.pieces.rest c.pieces.run.size c.pieces.run.progress run none)
