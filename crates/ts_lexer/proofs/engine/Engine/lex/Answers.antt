use Rattle.std.proofs.Common.{◌≡◌, ◌∙◌, sym, subst, ℕ, ◌<◌, List, [], length, get_or, slice_get, arith, Some}
use Rattle.std.specs.Global.{Vec}
use Rattle.std.proofs.lemmas.List.{length-map}
use Rattle.std.proofs.lemmas.Option.{slice_get-get_or}
use Rattle.ts_core.specs.declared.symbol.Symbol.{Symbol}
use Rattle.ts_automata.specs.Walks.{walk_room}
use Rattle.ts_lexer.specs.Ahead.{contents_of}
use Rattle.ts_lexer.specs.Ways.{IsWayOf}
use Rattle.ts_lexer.specs.Answers.{IsLexedAnswer}
use Rattle.ts_lexer.proofs.WayLemmas.{listed, rows_ready}
use Rattle.ts_lexer.proofs.engine.Engine.lex.Goals as goal

pub answer_within-requires-clause-ready : goal.answer_within-requires-clause-ready
answer_within-requires-clause-ready c =
    let g = c.requires.made.0 in
    let made = c.requires.made.1 in
    let s = c.args.self.now in
    let lists = contents_of s.lists.keys in
    let valid = get_or lists c.args.list [] in
    let below : c.args.list < length s.pairs.items = (let l = c.requires.list in let n = made.count in omega arith) in
    let at : slice_get lists c.args.list ≡ Some valid = slice_get-get_or lists c.args.list [] (let l = c.requires.list in let n = length-map s.lists.keys (λ (v : Vec Symbol). v.items) in omega arith) in (
      g,
      valid,
      rows_ready g valid s.way (walk_room s.walk) c.index-pair.result.now made.way
          (listed g valid s.way lists s.pairs.items c.args.list c.index-pair.result.now below c.index-pair.ensures at made.pairs),
    )

pub returns-in-Some-clause-answer : goal.returns-in-Some-clause-answer
returns-in-Some-clause-answer c g valid made at =
    let s = c.args.self.now in
    let below : c.args.list < length s.pairs.items = (let l = c.requires.list in let n = made.count in omega arith) in
    c.in-Some.ensures.answer g valid
    (rows_ready g valid s.way (walk_room s.walk) c.index-pair.result.now made.way
    (listed g valid s.way (contents_of s.lists.keys) s.pairs.items c.args.list c.index-pair.result.now below c.index-pair.ensures at made.pairs))

pub answer_at-requires-clause-ready : goal.answer_at-requires-clause-ready
answer_at-requires-clause-ready c =
    let g = c.requires.made.0 in
    let made = c.requires.made.1 in
    let s = c.args.self.now in
    let valid = c.list_at-valid.result.now in
    let below : c.args.list < length s.pairs.items = (let l = c.requires.list in let n = made.count in omega arith) in (
      g,
      record {
        made = made.way;
        ready = c.prepare.ensures.ready g (walk_room s.walk) made.way made.marks
            (listed g valid s.way (contents_of s.lists.keys) s.pairs.items c.args.list c.index-pair.result.now below c.index-pair.ensures c.list_at-valid.ensures made.pairs);
      },
    )

pub returns-clause-answer : goal.returns-clause-answer
returns-clause-answer c g valid made at =
    let s = c.args.self.now in
    let same : Some c.list_at-valid.result.now ≡ Some valid = sym c.list_at-valid.ensures ∙ at in
    let is : c.list_at-valid.result.now ≡ valid = cc in
    let below : c.args.list < length s.pairs.items = (let l = c.requires.list in let n = made.count in omega arith) in
    subst (λ (l : List Symbol). IsLexedAnswer g l c.args.text.now c.args.place c.answer_at.result) is
    (c.answer_at.ensures.answer g (record {
      made = made.way;
      ready = c.prepare.ensures.ready g (walk_room s.walk) made.way made.marks
          (listed g c.list_at-valid.result.now s.way (contents_of s.lists.keys) s.pairs.items c.args.list c.index-pair.result.now below c.index-pair.ensures c.list_at-valid.ensures made.pairs);
    }))

pub returns-clause-engine : goal.returns-clause-engine
returns-clause-engine c g made = record {
  way = subst (λ (n : ℕ). IsWayOf g c.args.self.now.way n) (sym c.answer_at.ensures.room) made.way;
  marks = c.prepare.ensures.marks ∙ made.marks;
  count = made.count;
  pairs = made.pairs;
}
