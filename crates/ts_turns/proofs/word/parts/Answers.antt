use Rattle.std.proofs.Common.{◌≡◌, sym, subst, lit<, ℕ, ◌++◌, ◌∷◌, [], length, List, map, Bor}
use Rattle.std.proofs.lemmas.Iterator.Consumers.{YieldsList-at, YieldsList-turn, YieldsList-end}
use Rattle.std.proofs.lemmas.Iterator.Splits.{YieldsList-from_str_split}
use Rattle.ts_base.specs.Bytes.{Bytes}
use Rattle.ts_turns.specs.Turns.{comma}
use Rattle.ts_turns.proofs.TurnsLemmas.{AreNamed, named_none, named_and, spells_all, part_is_numeral}
use Rattle.ts_turns.proofs.word.parts.Goals as goal

pub loop-part-init : goal.loop-part-init
loop-part-init c = subst (λ (order : List ℕ). AreNamed [] order) (sym c.new-order.ensures.items) named_none

pub loop-part-preserved : goal.loop-part-preserved
loop-part-preserved c =
    let pushed : c.push.new.self.items ≡ c.loop-part.order.items ++ c.in-Some-client.number ∷ [] = c.in_ok-push-in-Some-client.ensures.items in
    let n = c.in-Some-client.ensures.some in
    subst (λ (order : List ℕ). AreNamed (map (λ (p : Bor Bytes). p.now) (c.loop-part.yielded ++ c.in-Some.part ∷ [])) order) (sym pushed)
    (named_and c.loop-part.yielded c.in-Some.part c.loop-part.order.items c.in-Some-client.number c.loop-part.invariant n.0 n.1)

pub returns-in-None-client : goal.returns-in-None-client
returns-in-None-client c =
    let road = YieldsList-at c.into_iter-part-iterator.ensures.into_iter_gives (YieldsList-from_str_split comma c.args.word.now (lit< tt) c.split-part-items.ensures.text c.split-part-items.ensures.has_more c.split-part-items.ensures.pattern) in
    let turn = YieldsList-turn road c.loop-part.yielded c.loop-part.part-iterator c.loop-part.yielded_by c.next.result c.next.new.self c.in-Some.part c.in-Some.is c.next.ensures.steps in
    record {
      spells = λ order s.
          let n = part_is_numeral c.args.word.now order (length c.loop-part.yielded) c.in-Some.part.now c.requires s turn.0 turn.1 in
          c.in-None-client.ensures.none n.0 n.1 n.2;
    }

pub returns : goal.returns
returns c =
    let road = YieldsList-at c.into_iter-part-iterator.ensures.into_iter_gives (YieldsList-from_str_split comma c.args.word.now (lit< tt) c.split-part-items.ensures.text c.split-part-items.ensures.has_more c.split-part-items.ensures.pattern) in
    let end = YieldsList-end road c.loop-part.yielded c.loop-part.part-iterator c.loop-part.yielded_by c.next.result c.next.new.self c.in-None.is c.next.ensures.steps in
    record { spells = spells_all c.args.word.now c.loop-part.order.items (subst (λ (ps : List Bytes). AreNamed ps c.loop-part.order.items) end.0 c.loop-part.invariant) }
