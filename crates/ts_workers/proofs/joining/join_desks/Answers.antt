use Rattle.std.proofs.Common.{◌≡◌, sym, subst, ℕ, ◌+◌, ◌<◌, [], ◌∷◌, ◌++◌, length, set, get_or, slice_get, Some, arith, rules}
use Rattle.std.proofs.lemmas.Iterator.Adapters.{YieldsList-from_vec}
use Rattle.std.proofs.lemmas.Iterator.Consumers.{YieldsList-turn}
use Rattle.std.proofs.lemmas.List.{length-append}
use Rattle.std.proofs.lemmas.Option.{slice_get-get_or}
use Rattle.std.specs.Vec.Iter.{into_iter_len}
use Rattle.ts_shelf.specs.Passes.{IsFirst}
use Rattle.ts_workers.specs.declared.front.Front.{Front}
use Rattle.ts_workers.specs.Changes.{Changed}
use Rattle.ts_workers.specs.Joins.{JoinsDesk}
use Rattle.ts_workers.proofs.ListLemmas.{read_at, changed_one}
use Rattle.ts_workers.proofs.JoinLemmas.{first_at}
use Rattle.ts_workers.proofs.joining.join_desks.Goals as goal

pub join_desk-requires-clause-shelf : goal.join_desk-requires-clause-shelf
join_desk-requires-clause-shelf c =
    let len : into_iter_len c.into_iter-desk-iterator.result ≡ length c.args.desks.items = search rules in
    let road = YieldsList-from_vec c.args.desks.items c.into_iter-desk-iterator.ensures.into_iter_gives.0 len in
    let turn = YieldsList-turn road c.loop-desk.yielded c.loop-desk.desk-iterator c.loop-desk.yielded_by c.next.result c.next.new.self c.in-Some.desk c.in-Some.is c.next.ensures.steps in
    let number = c.loop-desk.invariant.count in
    let joined = c.loop-desk.invariant.joined in
    let in_shelves : c.loop-desk.document < length c.args.shelves.now = (let a = turn.0 in let b = c.requires.desks.count in omega (arith, number, a, b)) in
    let s_is : slice_get c.args.shelves.now (length c.loop-desk.yielded) ≡ Some c.index-shelves-document.result =
    subst (λ (k : ℕ). slice_get c.args.shelves.now k ≡ Some c.index-shelves-document.result) number (read_at c.args.shelves.now c.loop-desk.document c.index-shelves-document.result in_shelves c.index-shelves-document.is) in
    let in_fronts : c.loop-desk.document < length c.loop-desk.fronts = (let b = c.requires.fronts.count in let d = joined.count in omega (arith, in_shelves, b, d)) in
    let f_is : slice_get c.loop-desk.fronts (length c.loop-desk.yielded) ≡ Some c.index-fronts-document.result =
    subst (λ (k : ℕ). slice_get c.loop-desk.fronts k ≡ Some c.index-fronts-document.result) number (read_at c.loop-desk.fronts c.loop-desk.document c.index-fronts-document.result in_fronts c.index-fronts-document.is) in
    let first = first_at c.args.shelves.now c.args.fronts.now c.loop-desk.fronts c.loop-desk.yielded c.index-shelves-document.result c.index-fronts-document.result c.requires.fronts joined s_is f_is in
    let own = c.requires.desks.each (length c.loop-desk.yielded) c.index-shelves-document.result c.in-Some.desk s_is (read_at c.args.desks.items (length c.loop-desk.yielded) c.in-Some.desk turn.0 turn.1) in
    (subst (λ (x : Front). x.pass.shelf ≡ c.index-shelves-document.result) c.index-fronts-document.is first.shelf_is, own.shelf_is)

pub join_desk-requires-clause-first : goal.join_desk-requires-clause-first
join_desk-requires-clause-first c =
    let len : into_iter_len c.into_iter-desk-iterator.result ≡ length c.args.desks.items = search rules in
    let road = YieldsList-from_vec c.args.desks.items c.into_iter-desk-iterator.ensures.into_iter_gives.0 len in
    let turn = YieldsList-turn road c.loop-desk.yielded c.loop-desk.desk-iterator c.loop-desk.yielded_by c.next.result c.next.new.self c.in-Some.desk c.in-Some.is c.next.ensures.steps in
    let number = c.loop-desk.invariant.count in
    let joined = c.loop-desk.invariant.joined in
    let in_shelves : c.loop-desk.document < length c.args.shelves.now = (let a = turn.0 in let b = c.requires.desks.count in omega (arith, number, a, b)) in
    let s_is : slice_get c.args.shelves.now (length c.loop-desk.yielded) ≡ Some c.index-shelves-document.result =
    subst (λ (k : ℕ). slice_get c.args.shelves.now k ≡ Some c.index-shelves-document.result) number (read_at c.args.shelves.now c.loop-desk.document c.index-shelves-document.result in_shelves c.index-shelves-document.is) in
    let in_fronts : c.loop-desk.document < length c.loop-desk.fronts = (let b = c.requires.fronts.count in let d = joined.count in omega (arith, in_shelves, b, d)) in
    let f_is : slice_get c.loop-desk.fronts (length c.loop-desk.yielded) ≡ Some c.index-fronts-document.result =
    subst (λ (k : ℕ). slice_get c.loop-desk.fronts k ≡ Some c.index-fronts-document.result) number (read_at c.loop-desk.fronts c.loop-desk.document c.index-fronts-document.result in_fronts c.index-fronts-document.is) in
    let first = first_at c.args.shelves.now c.args.fronts.now c.loop-desk.fronts c.loop-desk.yielded c.index-shelves-document.result c.index-fronts-document.result c.requires.fronts joined s_is f_is in
    subst (λ (x : Front). IsFirst x.pass.knows) c.index-fronts-document.is first.first

pub join_desk-requires-clause-other : goal.join_desk-requires-clause-other
join_desk-requires-clause-other c =
    let len : into_iter_len c.into_iter-desk-iterator.result ≡ length c.args.desks.items = search rules in
    let road = YieldsList-from_vec c.args.desks.items c.into_iter-desk-iterator.ensures.into_iter_gives.0 len in
    let turn = YieldsList-turn road c.loop-desk.yielded c.loop-desk.desk-iterator c.loop-desk.yielded_by c.next.result c.next.new.self c.in-Some.desk c.in-Some.is c.next.ensures.steps in
    let number = c.loop-desk.invariant.count in
    let joined = c.loop-desk.invariant.joined in
    let in_shelves : c.loop-desk.document < length c.args.shelves.now = (let a = turn.0 in let b = c.requires.desks.count in omega (arith, number, a, b)) in
    let s_is : slice_get c.args.shelves.now (length c.loop-desk.yielded) ≡ Some c.index-shelves-document.result =
    subst (λ (k : ℕ). slice_get c.args.shelves.now k ≡ Some c.index-shelves-document.result) number (read_at c.args.shelves.now c.loop-desk.document c.index-shelves-document.result in_shelves c.index-shelves-document.is) in
    let own = c.requires.desks.each (length c.loop-desk.yielded) c.index-shelves-document.result c.in-Some.desk s_is (read_at c.args.desks.items (length c.loop-desk.yielded) c.in-Some.desk turn.0 turn.1) in
    own.other

pub loop-desk-preserved : goal.loop-desk-preserved
loop-desk-preserved c =
    let len : into_iter_len c.into_iter-desk-iterator.result ≡ length c.args.desks.items = search rules in
    let road = YieldsList-from_vec c.args.desks.items c.into_iter-desk-iterator.ensures.into_iter_gives.0 len in
    let turn = YieldsList-turn road c.loop-desk.yielded c.loop-desk.desk-iterator c.loop-desk.yielded_by c.next.result c.next.new.self c.in-Some.desk c.in-Some.is c.next.ensures.steps in
    let number = c.loop-desk.invariant.count in
    let joined = c.loop-desk.invariant.joined in
    let below : c.loop-desk.document < length c.loop-desk.fronts =
    (let a = turn.0 in let b = c.requires.desks.count in let d = c.requires.fronts.count in let e = joined.count in omega (arith, number, a, b, d, e)) in
    let m = get_or c.loop-desk.fronts c.loop-desk.document c.index-fronts-document.result in
    let at : slice_get c.loop-desk.fronts (length c.loop-desk.yielded) ≡ Some m =
    subst (λ (k : ℕ). slice_get c.loop-desk.fronts k ≡ Some m) number (slice_get-get_or c.loop-desk.fronts c.loop-desk.document c.index-fronts-document.result below) in
    record {
      joined = subst (λ (k : ℕ). Changed (λ document. JoinsDesk) c.args.fronts.now (set c.loop-desk.fronts k c.join_desk.new.front) (c.loop-desk.yielded ++ c.in-Some.desk ∷ [])) (sym number)
          (changed_one (λ document. JoinsDesk) c.args.fronts.now c.loop-desk.fronts c.loop-desk.yielded m c.join_desk.new.front c.in-Some.desk joined at c.join_desk.ensures);
      count = (let more : length (c.loop-desk.yielded ++ c.in-Some.desk ∷ []) ≡ length c.loop-desk.yielded + 1 = length-append c.loop-desk.yielded (c.in-Some.desk ∷ []) in omega (arith, more, number));
    }
