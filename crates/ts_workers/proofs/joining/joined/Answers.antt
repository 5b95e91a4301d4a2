use Rattle.std.proofs.Common.{◌≡◌, ◌∙◌, sym, ap, refl, subst, Bool, true, false, Result, Ok, Err, is_ok, is_err, if◌then◌else◌, List, [], ◌∷◌, ◌++◌, length, arith, rules}
use Rattle.std.proofs.lemmas.Iterator.Adapters.{YieldsList-from_vec}
use Rattle.std.proofs.lemmas.Iterator.Consumers.{YieldsList-turn}
use Rattle.std.proofs.lemmas.List.{map-append}
use Rattle.std.specs.Vec.Iter.{into_iter_len}
use Rattle.ts_shelf.specs.declared.view.Knowledge.{Knowledge}
use Rattle.ts_docs.specs.declared.parsed.ParsedText.{ParsedText}
use Rattle.ts_docs.specs.declared.parsed.Drafted.{Drafted}
use Rattle.ts_replies.specs.declared.reply.Reply.{Reply}
use Rattle.ts_client.specs.Working.{passes_of}
use Rattle.ts_workers.specs.declared.worker.Worker.{Worker}
use Rattle.ts_workers.specs.Joins.{HaveJoined}
use Rattle.ts_workers.specs.Workers.{all_passes}
use Rattle.ts_workers.proofs.JoinLemmas.{none_joined, one_joined, still_on_shelves}
use Rattle.ts_workers.proofs.ListLemmas.{read_at}
use Rattle.ts_workers.proofs.joining.joined.Goals as goal

ok_of : {T E : Type 0} (r : Result T E) → is_err r ≡ false → is_ok r ≡ true
ok_of (Ok x) h = refl
ok_of (Err e) h = absurd (let f : true ≡ false = h in cc)

pub loop-worker-init : goal.loop-worker-init
loop-worker-init c = record {
  joined = none_joined c.args.shelves.now c.args.fronts.now c.requires.fronts;
  replies = c.requires.none;
  room = c.requires.room;
}

pub join_desks-requires-clause-fronts : goal.join_desks-requires-clause-fronts
join_desks-requires-clause-fronts c =
    still_on_shelves c.args.shelves.now (all_passes c.loop-worker.yielded) c.args.fronts.now c.loop-worker.fronts c.requires.fronts c.loop-worker.invariant.joined

pub join_desks-requires-clause-desks : goal.join_desks-requires-clause-desks
join_desks-requires-clause-desks c =
    let len : into_iter_len c.into_iter-worker-iterator.result ≡ length c.args.workers.items = search rules in
    let road = YieldsList-from_vec c.args.workers.items c.into_iter-worker-iterator.ensures.into_iter_gives.0 len in
    let turn = YieldsList-turn road c.loop-worker.yielded c.loop-worker.worker-iterator c.loop-worker.yielded_by c.next.result c.next.new.self c.in-Some.worker c.in-Some.is c.next.ensures.steps in
    c.requires.desks (length c.loop-worker.yielded) c.in-Some.worker (read_at c.args.workers.items (length c.loop-worker.yielded) c.in-Some.worker turn.0 turn.1)

pub loop-worker-preserved : goal.loop-worker-preserved
loop-worker-preserved c =
    let len : into_iter_len c.into_iter-worker-iterator.result ≡ length c.args.workers.items = search rules in
    let road = YieldsList-from_vec c.args.workers.items c.into_iter-worker-iterator.ensures.into_iter_gives.0 len in
    let turn = YieldsList-turn road c.loop-worker.yielded c.loop-worker.worker-iterator c.loop-worker.yielded_by c.next.result c.next.new.self c.in-Some.worker c.in-Some.is c.next.ensures.steps in
    let at = c.requires.desks (length c.loop-worker.yielded) c.in-Some.worker (read_at c.args.workers.items (length c.loop-worker.yielded) c.in-Some.worker turn.0 turn.1) in
    let ok : is_ok c.push.result ≡ true = ok_of c.push.result (sym c.is_err.ensures.value ∙ c.if-is_err.false) in
    record {
      joined =
          subst (λ (l : List (List (Knowledge ParsedText Drafted))). HaveJoined l c.args.fronts.now c.join_desks.new.fronts)
          (sym (map-append (λ (w : Worker). passes_of w.client.desks.items) c.loop-worker.yielded (c.in-Some.worker ∷ [])))
          (one_joined (all_passes c.loop-worker.yielded) c.args.fronts.now c.loop-worker.fronts c.join_desks.new.fronts c.in-Some.worker.client.desks.items c.loop-worker.invariant.joined c.join_desks.ensures
          (at.count ∙ sym c.requires.fronts.count));
      replies =
          c.push.ensures.items
          ∙ ap (λ (b : Bool). if b then c.loop-worker.replies.items ++ c.from_vec.result ∷ [] else c.loop-worker.replies.items) ok
          ∙ ap (λ (l : List Reply). c.loop-worker.replies.items ++ l ∷ []) c.from_vec.ensures
          ∙ ap (λ (l : List (List Reply)). l ++ c.in-Some.worker.client.replies.items ∷ []) c.loop-worker.invariant.replies
          ∙ sym (map-append (λ (w : Worker). w.client.replies.items) c.loop-worker.yielded (c.in-Some.worker ∷ []));
      room = (let cap = c.push.ensures.capacity in let room = c.loop-worker.invariant.room in search (rules, arith));
    }
