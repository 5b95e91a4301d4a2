use Rattle.std.proofs.Common.{◌≡◌, ◌∙◌, sym, ap, refl, subst, ℕ, ◌+◌, ◌<◌, true, false, length, drop, arith}
use Rattle.std.proofs.lemmas.Bool.{false≢true}
use Rattle.ts_base.specs.Bytes.{Bytes}
use Rattle.spec_lexing.specs.Seen.{Seen}
use Rattle.ts_lexer.proofs.PassLemmas.{Passing, passing_none, best_at, best_within, none_at, empty_of, reach_within, take_lex, take_seen, end_lex, end_seen, stop_lex, stop_seen, passing_more}
use Rattle.ts_lexer.proofs.WayLemmas.{here_ready}
use Rattle.ts_lexer.proofs.GapLemmas.{gap}
use Rattle.ts_lexer.proofs.passing.pass.Goals as goal

pub passing-init : goal.passing-init
passing-init c = record {
  whole = (let e = ap (λ (l : Bytes). length l) c.copied-rest.ensures.same in omega arith);
  utf8 = c.copied-rest.ensures.utf8;
  near = omega arith;
  room = refl;
  passing = λ g r. subst (λ (l : Bytes). Passing g c.args.valid.now c.args.text.now l true 0 0) (sym c.copied-rest.ensures.same) (passing_none g c.args.valid.now c.args.text.now);
}

pub returns-in-Some-clause-passed : goal.returns-in-Some-clause-passed
returns-in-Some-clause-passed c g r =
    let k = c.passing.invariant.passing g r in
    let x = c.scan-here.ensures.scanned g c.args.valid.now (here_ready g c.args.valid.now c.args.way.now c.args.view.now c.args.pair _ _ c.passing.invariant.room r) in
    let b = best_at g c.args.valid.now c.passing.first c.passing.rest c.scan-here.result.best c.in-Some.found c.in-Some.is x.best in
    let within = reach_within g c.args.valid.now c.passing.rest c.scan-here.result.reach x.reach in
    let far = c.farther-extent.ensures in
    record {
      lex = take_lex g c.args.valid.now c.args.text.now c.passing.rest c.passing.first c.passing.pad c.passing.extent k c.scan-here.result x c.in-Some.found b;
      seen = subst (λ (n : ℕ). Seen g c.args.valid.now c.args.text.now n) (sym far)
          (take_seen g c.args.valid.now c.args.text.now c.passing.rest c.passing.first c.passing.pad c.passing.extent k c.scan-here.result x c.in-Some.found b);
    }

pub returns-then-ended-clause-passed : goal.returns-then-ended-clause-passed
returns-then-ended-clause-passed c g r =
    let k = c.passing.invariant.passing g r in
    let x = c.scan-here.ensures.scanned g c.args.valid.now (here_ready g c.args.valid.now c.args.way.now c.args.view.now c.args.pair _ _ c.passing.invariant.room r) in
    let e = c.at_end-ended.ensures.0 c.if-ended.true in
    let none = empty_of c.passing.rest e.0 in
    let within = reach_within g c.args.valid.now c.passing.rest c.scan-here.result.reach x.reach in
    let far = c.farther-extent.ensures in
    record {
      lex = end_lex g c.args.valid.now c.args.text.now c.passing.rest c.passing.first c.passing.pad c.passing.extent k c.scan-here.result x none e.1;
      seen = subst (λ (n : ℕ). Seen g c.args.valid.now c.args.text.now n) (sym far)
          (end_seen g c.args.valid.now c.args.text.now c.passing.rest c.passing.first c.passing.pad c.passing.extent k c.scan-here.result x none e.1);
    }

pub returns-then-here-eq0-clause-passed : goal.returns-then-here-eq0-clause-passed
returns-then-here-eq0-clause-passed c g r =
    let k = c.passing.invariant.passing g r in
    let x = c.scan-here.ensures.scanned g c.args.valid.now (here_ready g c.args.valid.now c.args.way.now c.args.view.now c.args.pair _ _ c.passing.invariant.room r) in
    let tokens = none_at g c.args.valid.now c.passing.first c.passing.rest c.scan-here.result.best c.in-None.is x.best in
    let within = reach_within g c.args.valid.now c.passing.rest c.scan-here.result.reach x.reach in
    let far = c.farther-extent.ensures in
    record {
      lex = stop_lex g c.args.valid.now c.args.text.now c.passing.rest c.passing.first c.passing.pad c.passing.extent k c.scan-here.result x tokens
          (λ none is. false≢true (sym c.if-ended.false ∙ c.at_end-ended.ensures.1 (ap (λ (l : Bytes). length l) none, is))) c.if-here-eq0.true;
      seen = subst (λ (n : ℕ). Seen g c.args.valid.now c.args.text.now n) (sym far)
          (stop_seen g c.args.valid.now c.args.text.now c.passing.rest c.passing.first c.passing.pad c.passing.extent k c.scan-here.result x tokens
          (λ none is. false≢true (sym c.if-ended.false ∙ c.at_end-ended.ensures.1 (ap (λ (l : Bytes). length l) none, is))) c.if-here-eq0.true);
    }

pub farther-extent-requires : goal.farther-extent-requires
farther-extent-requires c =
    let g = c.requires.ready.0 in
    let r = c.requires.ready.1 in
    let x = c.scan-here.ensures.scanned g c.args.valid.now (here_ready g c.args.valid.now c.args.way.now c.args.view.now c.args.pair _ _ c.passing.invariant.room r) in
    let reach = reach_within g c.args.valid.now c.passing.rest c.scan-here.result.reach x.reach in
    let whole = c.passing.invariant.whole in
    let small = c.requires.size in
    omega arith

pub past-rest-requires : goal.past-rest-requires
past-rest-requires c =
    let g = c.requires.ready.0 in
    let r = c.requires.ready.1 in
    let x = c.scan-here.ensures.scanned g c.args.valid.now (here_ready g c.args.valid.now c.args.way.now c.args.view.now c.args.pair _ _ c.passing.invariant.room r) in
    let above : 0 < c.scan-here.result.separator = (let z = c.if-here-eq0.false in omega arith) in
    (gap g c.passing.rest c.scan-here.result.separator c.passing.invariant.utf8 (x.separator above)).boundary

pub passing-smaller : goal.passing-smaller
passing-smaller c =
    let above : 0 < c.scan-here.result.separator = (let z = c.if-here-eq0.false in omega arith) in
    let r = c.requires.ready.1 in
    let seen = c.scan-here.ensures.scanned c.requires.ready.0 c.args.valid.now (here_ready c.requires.ready.0 c.args.valid.now c.args.way.now c.args.view.now c.args.pair _ _ c.passing.invariant.room r) in
    let within = (gap c.requires.ready.0 c.passing.rest c.scan-here.result.separator c.passing.invariant.utf8 (seen.separator above)).within in
    let left : length c.past-rest.result ≡ length (drop c.scan-here.result.separator c.passing.rest) = ap (λ (l : Bytes). length l) c.past-rest.ensures.rest in
    let less : length c.past-rest.result < length c.passing.rest = omega arith in
    less

pub passing-preserved : goal.passing-preserved
passing-preserved c =
    let above : 0 < c.scan-here.result.separator = (let z = c.if-here-eq0.false in omega arith) in
    let r = c.requires.ready.1 in
    let seen = c.scan-here.ensures.scanned c.requires.ready.0 c.args.valid.now (here_ready c.requires.ready.0 c.args.valid.now c.args.way.now c.args.view.now c.args.pair _ _ c.passing.invariant.room r) in
    let w = gap c.requires.ready.0 c.passing.rest c.scan-here.result.separator c.passing.invariant.utf8 (seen.separator above) in
    rw c.past-rest.ensures.rest (record {
      whole = (let a = w.within in let b = c.passing.invariant.whole in omega arith);
      utf8 = w.utf8;
      room = c.scan-here.ensures.room ∙ c.passing.invariant.room;
      near = (
          let reach = reach_within c.requires.ready.0 c.args.valid.now c.passing.rest c.scan-here.result.reach seen.reach in
          let whole = c.passing.invariant.whole in
          let near = c.passing.invariant.near in
          let far = c.farther-extent.ensures in
          omega arith
          );
      passing = λ g r.
          let k = c.passing.invariant.passing g r in
          let x = c.scan-here.ensures.scanned g c.args.valid.now (here_ready g c.args.valid.now c.args.way.now c.args.view.now c.args.pair _ _ c.passing.invariant.room r) in
          let tokens = none_at g c.args.valid.now c.passing.first c.passing.rest c.scan-here.result.best c.in-None.is x.best in
          let within = reach_within g c.args.valid.now c.passing.rest c.scan-here.result.reach x.reach in
          let far = c.farther-extent.ensures in
          subst (λ (n : ℕ). Passing g c.args.valid.now c.args.text.now (drop c.scan-here.result.separator c.passing.rest) false (c.passing.pad + c.scan-here.result.separator) n) (sym far)
          (passing_more g c.args.valid.now c.args.text.now c.passing.rest c.passing.first c.passing.pad c.passing.extent k c.scan-here.result x tokens
          (λ none is. false≢true (sym c.if-ended.false ∙ c.at_end-ended.ensures.1 (ap (λ (l : Bytes). length l) none, is))) above);
    })

pub returns-in-Some-clause-within : goal.returns-in-Some-clause-within
returns-in-Some-clause-within c =
    let g = c.requires.ready.0 in
    let r = c.requires.ready.1 in
    let x = c.scan-here.ensures.scanned g c.args.valid.now (here_ready g c.args.valid.now c.args.way.now c.args.view.now c.args.pair _ _ c.passing.invariant.room r) in
    let reach = reach_within g c.args.valid.now c.passing.rest c.scan-here.result.reach x.reach in
    let whole = c.passing.invariant.whole in
    let near = c.passing.invariant.near in
    let far = c.farther-extent.ensures in
    let b = best_at g c.args.valid.now c.passing.first c.passing.rest c.scan-here.result.best c.in-Some.found c.in-Some.is x.best in
    let size = best_within g c.args.valid.now c.passing.first c.passing.rest c.in-Some.found.symbol c.in-Some.found.size b in
    record { pad = omega arith; extent = omega arith; found = omega arith }

pub returns-then-ended-clause-within : goal.returns-then-ended-clause-within
returns-then-ended-clause-within c =
    let g = c.requires.ready.0 in
    let r = c.requires.ready.1 in
    let x = c.scan-here.ensures.scanned g c.args.valid.now (here_ready g c.args.valid.now c.args.way.now c.args.view.now c.args.pair _ _ c.passing.invariant.room r) in
    let reach = reach_within g c.args.valid.now c.passing.rest c.scan-here.result.reach x.reach in
    let whole = c.passing.invariant.whole in
    let near = c.passing.invariant.near in
    let far = c.farther-extent.ensures in
    record { pad = omega arith; extent = omega arith; found = omega arith }

pub returns-then-here-eq0-clause-within : goal.returns-then-here-eq0-clause-within
returns-then-here-eq0-clause-within c =
    let g = c.requires.ready.0 in
    let r = c.requires.ready.1 in
    let x = c.scan-here.ensures.scanned g c.args.valid.now (here_ready g c.args.valid.now c.args.way.now c.args.view.now c.args.pair _ _ c.passing.invariant.room r) in
    let reach = reach_within g c.args.valid.now c.passing.rest c.scan-here.result.reach x.reach in
    let whole = c.passing.invariant.whole in
    let near = c.passing.invariant.near in
    let far = c.farther-extent.ensures in
    record { pad = omega arith; extent = omega arith; found = tt }

pub scan-here-requires-clause-ready : goal.scan-here-requires-clause-ready
scan-here-requires-clause-ready c =
    let r = c.requires.ready.1 in
    (c.requires.ready.0, c.args.valid.now, here_ready c.requires.ready.0 c.args.valid.now c.args.way.now c.args.view.now c.args.pair _ _ c.passing.invariant.room r)
