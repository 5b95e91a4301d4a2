use Rattle.std.proofs.Common.{rules, ◌≡◌, ◌+◌, ◌∙◌, ◌++◌, ap, refl, subst, length, length-append, arith, ℕ, List}
use Rattle.std.specs.Str.Iter.{chars_rest}
use Rattle.std.proofs.Math.Utf8.{encode}
use Rattle.std.proofs.lemmas.Str.{length-encode}
use Rattle.ts_base.specs.Bytes.{Bytes}
use Rattle.ts_automata.specs.Walks.{HasCome}
use Rattle.ts_lexer.specs.Runs.{Running}
use Rattle.ts_lexer.proofs.KnowLemmas.{walk_knows}
use Rattle.ts_lexer.proofs.PassLemmas.{empty_of}
use Rattle.ts_lexer.proofs.RunLemmas.{Laws}
use Rattle.ts_lexer.proofs.ScannedLemmas.{step_at, dead_at, more_at}
use Rattle.ts_lexer.proofs.StayLemmas.{spelled_before}
use Rattle.ts_lexer.proofs.walking.read_by_walk.Goals as goal

pub loop-c-init : goal.loop-c-init
loop-c-init c = record {
  room = refl;
  fits = (
      let same : chars_rest c.into_iter-c-iterator.result ≡ c.args.piece.now = search rules in
      ap (λ (l : Bytes). c.args.run.now.size + length l) same
      );
  running = λ g valid rest tail made view run.
      let same : chars_rest c.into_iter-c-iterator.result ≡ c.args.piece.now = search rules in
      rw same run;
}

pub returns-then-not-verdict-clause-read : goal.returns-then-not-verdict-clause-read
returns-then-not-verdict-clause-read c g valid rest tail made view before best chosen =
    let laws : Laws = record {
      front_prefix = c.a_front_has_fronts.ensures;
      word_front = c.every_word_is_a_front.ensures.word;
      nothing = c.beginnings.ensures.nothing;
      prefix = c.beginnings.ensures.prefix;
      longer = c.beginnings.ensures.longer;
      more = c.beginnings.ensures.more;
      follows = c.beginnings.ensures.follows;
      within = c.beginnings.ensures.within;
      one = c.one_character_at_a_time.ensures;
    } in
    let run = c.loop-c.invariant.running g valid rest tail made view before in
    let a = c.args.nodes.now.automaton in
    let read = c.step.ensures.stands run.characters (c.loop-c.invariant.room ∙ made.size) run.read in
    let judged = c.judge-verdict.ensures g valid made.rules view in
    let known = walk_knows g a made.automaton _ c.step.new.self read c.members.result.now c.members.ensures valid c.args.first c.judge-verdict.result judged in
    let here = chars_rest c.loop-c.c-iterator in
    let there = chars_rest c.next.new.self in
    dead_at laws g valid c.args.first rest (λ w. HasCome a w c.loop-c.walk) (here ++ tail) c.loop-c.size c.loop-c.progress run c.in-Some.c (there ++ tail)
    (spelled_before here there tail c.in-Some.c c.in-Some.ensures.steps.0) c.len_utf8.result c.len_utf8.ensures.value
    c.judge-verdict.result known c.if-not-verdict.true best chosen

pub loop-c-preserved : goal.loop-c-preserved
loop-c-preserved c =
    let inv = c.loop-c.invariant in
    record {
      room = c.step.ensures.room ∙ inv.room;
      fits = (
          let e = ap (λ (l : List ℕ). length l) c.in-Some.ensures.steps.0 in
          let f = length-append (encode c.in-Some.c) (chars_rest c.next.new.self) in
          let h = length-encode c.in-Some.c in
          let k = c.len_utf8-size.ensures.value in
          let n = inv.fits in
          omega arith
          );
      running = λ g valid rest tail made view before.
          let laws : Laws = record {
            front_prefix = c.a_front_has_fronts.ensures;
            word_front = c.every_word_is_a_front.ensures.word;
            nothing = c.beginnings.ensures.nothing;
            prefix = c.beginnings.ensures.prefix;
            longer = c.beginnings.ensures.longer;
            more = c.beginnings.ensures.more;
            follows = c.beginnings.ensures.follows;
            within = c.beginnings.ensures.within;
            one = c.one_character_at_a_time.ensures;
          } in
          let run = inv.running g valid rest tail made view before in
          let a = c.args.nodes.now.automaton in
          let read = c.step.ensures.stands run.characters (inv.room ∙ made.size) run.read in
          let judged = c.judge-verdict.ensures g valid made.rules view in
          let known = walk_knows g a made.automaton _ c.step.new.self read c.members.result.now c.members.ensures valid c.args.first c.judge-verdict.result judged in
          let here = chars_rest c.loop-c.c-iterator in
          let there = chars_rest c.next.new.self in
          let spells = spelled_before here there tail c.in-Some.c c.in-Some.ensures.steps.0 in
          let step = step_at laws g valid c.args.first rest (λ w. HasCome a w c.loop-c.walk) (here ++ tail) c.loop-c.size c.loop-c.progress run c.in-Some.c (there ++ tail) spells c.len_utf8-size.result c.len_utf8-size.ensures.value in
          let sofar = c.advance.ensures.sofar g valid c.args.first rest c.loop-c.size _ made.rules step known run.sofar in
          more_at laws g valid c.args.first rest (λ w. HasCome a w c.loop-c.walk) (here ++ tail) c.loop-c.size c.loop-c.progress run c.in-Some.c (there ++ tail) spells c.len_utf8-size.result c.len_utf8-size.ensures.value
          c.judge-verdict.result (λ w. HasCome a w c.step.new.self) c.advance.new.progress known c.if-not-verdict.false read sofar;
    }

pub returns-clause-size : goal.returns-clause-size
returns-clause-size c =
    let fits = c.loop-c.invariant.fits in
    let none : length (chars_rest c.loop-c.c-iterator) ≡ 0 = c.in-None.ensures.steps.0.0 in
    let all : c.loop-c.size ≡ c.args.run.now.size + length c.args.piece.now = omega arith in
    all

pub returns-clause-read : goal.returns-clause-read
returns-clause-read c g valid rest tail made view before =
    let run = c.loop-c.invariant.running g valid rest tail made view before in
    let none = empty_of (chars_rest c.loop-c.c-iterator) c.in-None.ensures.steps.0.0 in
    subst (λ (l : Bytes). Running (λ w. HasCome c.args.nodes.now.automaton w c.loop-c.walk) g valid c.args.first rest (l ++ tail) c.loop-c.size c.loop-c.progress) none run
