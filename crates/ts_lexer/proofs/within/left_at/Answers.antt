use Rattle.std.proofs.Common.{◌∙◌, ap, subst, ℕ, ◌+◌, ◌-◌, ◌<◌, ◌++◌, ◌∷◌, [], length, drop, encode_utf8, arith}
use Rattle.std.specs.Str.{IsUtf8}
use Rattle.ts_base.specs.Bytes.{Bytes}
use Rattle.ts_automata.specs.Machine.{HasRead}
use Rattle.ts_lexer.specs.Scanned.{unread, past}
use Rattle.ts_lexer.proofs.StayLemmas.{passes}
use Rattle.ts_lexer.proofs.within.left_at.Goals as goal

pub staying-init : goal.staying-init
staying-init c = record { rises = omega arith; within = c.requires.from; utf8 = c.requires.utf8; stays = unread (drop c.args.from c.args.text.now) }

pub overflow_add-place : goal.overflow_add-place
overflow_add-place c =
    let inv = c.staying.invariant in
    let t = c.turn_at-turn.ensures in
    let within = (passes c.args.text.now c.staying.place t.character c.turn_at-turn.result.len t.later inv.within inv.utf8 t.spells t.len).within in
    let size = c.requires.size in
    omega arith

pub staying-smaller : goal.staying-smaller
staying-smaller c =
    let inv = c.staying.invariant in
    let t = c.turn_at-turn.ensures in
    let p = passes c.args.text.now c.staying.place t.character c.turn_at-turn.result.len t.later inv.within inv.utf8 t.spells t.len in
    let some = p.some in
    let within = p.within in
    let smaller : length c.args.text.now - (c.staying.place + c.turn_at-turn.result.len) < length c.args.text.now - c.staying.place = omega arith in
    smaller

pub staying-preserved : goal.staying-preserved
staying-preserved c =
    let inv = c.staying.invariant in
    let t = c.turn_at-turn.ensures in
    let text = c.args.text.now in
    let place = c.staying.place in
    let p = passes text place t.character c.turn_at-turn.result.len t.later inv.within inv.utf8 t.spells t.len in
    record {
      rises = (let low = inv.rises in omega arith);
      within = p.within;
      utf8 = subst IsUtf8 p.is p.utf8;
      stays = past (drop c.args.from text) (drop place text) (drop (place + c.turn_at-turn.result.len) text) t.character inv.stays
          (t.spells ∙ ap (λ (l : Bytes). encode_utf8 t.character ++ l) p.is)
          (λ w read. subst (λ (n : ℕ). HasRead c.args.machine.now (w ++ t.character ∷ []) n) c.if-turn-set.false (t.leads w read));
    }

pub returns-then-turn-set : goal.returns-then-turn-set
returns-then-turn-set c =
    let inv = c.staying.invariant in
    record {
      rises = inv.rises;
      within = (let lt = c.staying-test.true in omega arith);
      stays = inv.stays;
      turns = c.turn_at-turn.ensures;
    }
