use Rattle.std.proofs.Common.{◌≡◌, ◌∙◌, sym, ap, refl, subst, Bool, true, false, Result, Ok, Err, is_ok, is_err, if◌then◌else◌, List, [], ◌∷◌, ◌++◌, length, map, arith, rules}
use Rattle.std.proofs.lemmas.Iterator.{YieldsList-from_zip}
use Rattle.std.proofs.lemmas.Iterator.Adapters.{YieldsList-from_vec}
use Rattle.std.proofs.lemmas.Iterator.Consumers.{YieldsList-turn, YieldsList-end}
use Rattle.std.proofs.lemmas.List.{map-append}
use Rattle.std.proofs.lemmas.Slice.Zip.{seconds-zip}
use Rattle.std.specs.Iterator.Adapters.{zip_first, zip_second}
use Rattle.std.specs.Vec.Iter.{into_iter_items, into_iter_len}
use Rattle.atomic_table.specs.Seated.{TableId}
use Rattle.ts_docs.specs.declared.parsed.Pages.{Pages}
use Rattle.ts_workers.specs.declared.front.Front.{Front}
use Rattle.ts_workers.specs.Joins.{AreClosed}
use Rattle.ts_workers.proofs.CloseLemmas.{closed_one}
use Rattle.ts_workers.proofs.ListLemmas.{both_at, seconds_of}
use Rattle.ts_workers.proofs.closing.closed.Goals as goal

ok_of : {T E : Type 0} (r : Result T E) → is_err r ≡ false → is_ok r ≡ true
ok_of (Ok x) h = refl
ok_of (Err e) h = absurd (let f : true ≡ false = h in cc)

pub close-requires-clause-shelf : goal.close-requires-clause-shelf
close-requires-clause-shelf c =
    let first : into_iter_items (zip_first c.into_iter-shelf-iterator.result) ≡ c.args.shelves.items = search rules in
    let first_len : into_iter_len (zip_first c.into_iter-shelf-iterator.result) ≡ length c.args.shelves.items = search rules in
    let second : into_iter_items (zip_second c.into_iter-shelf-iterator.result) ≡ c.args.fronts.items = search rules in
    let second_len : into_iter_len (zip_second c.into_iter-shelf-iterator.result) ≡ length c.args.fronts.items = search rules in
    let road = YieldsList-from_zip (YieldsList-from_vec c.args.shelves.items first first_len) (YieldsList-from_vec c.args.fronts.items second second_len) in
    let turn = YieldsList-turn road c.loop-shelf.yielded c.loop-shelf.shelf-iterator c.loop-shelf.yielded_by c.next.result c.next.new.self (c.in-Some.shelf, c.in-Some.front) c.in-Some.is c.next.ensures.steps in
    let at = both_at c.args.shelves.items c.args.fronts.items (length c.loop-shelf.yielded) c.in-Some.shelf c.in-Some.front turn.0 turn.1 in
    (c.requires.fronts.each (length c.loop-shelf.yielded) c.in-Some.shelf c.in-Some.front at.0 at.1).shelf_is

pub close-requires-clause-first : goal.close-requires-clause-first
close-requires-clause-first c =
    let first : into_iter_items (zip_first c.into_iter-shelf-iterator.result) ≡ c.args.shelves.items = search rules in
    let first_len : into_iter_len (zip_first c.into_iter-shelf-iterator.result) ≡ length c.args.shelves.items = search rules in
    let second : into_iter_items (zip_second c.into_iter-shelf-iterator.result) ≡ c.args.fronts.items = search rules in
    let second_len : into_iter_len (zip_second c.into_iter-shelf-iterator.result) ≡ length c.args.fronts.items = search rules in
    let road = YieldsList-from_zip (YieldsList-from_vec c.args.shelves.items first first_len) (YieldsList-from_vec c.args.fronts.items second second_len) in
    let turn = YieldsList-turn road c.loop-shelf.yielded c.loop-shelf.shelf-iterator c.loop-shelf.yielded_by c.next.result c.next.new.self (c.in-Some.shelf, c.in-Some.front) c.in-Some.is c.next.ensures.steps in
    let at = both_at c.args.shelves.items c.args.fronts.items (length c.loop-shelf.yielded) c.in-Some.shelf c.in-Some.front turn.0 turn.1 in
    (c.requires.fronts.each (length c.loop-shelf.yielded) c.in-Some.shelf c.in-Some.front at.0 at.1).first

pub close-requires-clause-alone : goal.close-requires-clause-alone
close-requires-clause-alone c =
    let first : into_iter_items (zip_first c.into_iter-shelf-iterator.result) ≡ c.args.shelves.items = search rules in
    let first_len : into_iter_len (zip_first c.into_iter-shelf-iterator.result) ≡ length c.args.shelves.items = search rules in
    let second : into_iter_items (zip_second c.into_iter-shelf-iterator.result) ≡ c.args.fronts.items = search rules in
    let second_len : into_iter_len (zip_second c.into_iter-shelf-iterator.result) ≡ length c.args.fronts.items = search rules in
    let road = YieldsList-from_zip (YieldsList-from_vec c.args.shelves.items first first_len) (YieldsList-from_vec c.args.fronts.items second second_len) in
    let turn = YieldsList-turn road c.loop-shelf.yielded c.loop-shelf.shelf-iterator c.loop-shelf.yielded_by c.next.result c.next.new.self (c.in-Some.shelf, c.in-Some.front) c.in-Some.is c.next.ensures.steps in
    let at = both_at c.args.shelves.items c.args.fronts.items (length c.loop-shelf.yielded) c.in-Some.shelf c.in-Some.front turn.0 turn.1 in
    c.requires.alone (length c.loop-shelf.yielded) c.in-Some.front at.1

pub loop-shelf-preserved : goal.loop-shelf-preserved
loop-shelf-preserved c =
    let ok : is_ok c.push.result ≡ true = ok_of c.push.result (sym c.is_err.ensures.value ∙ c.if-is_err.false) in
    let items = c.push.ensures.items ∙ ap (λ (b : Bool). if b then c.loop-shelf.books.items ++ c.close.result ∷ [] else c.loop-shelf.books.items) ok in
    record {
      closed =
          subst (λ (l : List Front). AreClosed l c.push.new.self.items) (sym (map-append (λ (p : TableId × Front). p.1) c.loop-shelf.yielded ((c.in-Some.shelf, c.in-Some.front) ∷ [])))
          (subst (λ (l : List Pages). AreClosed (map (λ (p : TableId × Front). p.1) c.loop-shelf.yielded ++ c.in-Some.front ∷ []) l) (sym items)
          (closed_one (map (λ (p : TableId × Front). p.1) c.loop-shelf.yielded) c.loop-shelf.books.items c.in-Some.front c.close.result c.loop-shelf.invariant.closed c.close.ensures.closes));
      room = (let cap = c.push.ensures.capacity in let room = c.loop-shelf.invariant.room in search (rules, arith));
    }

pub returns : goal.returns
returns c =
    let first : into_iter_items (zip_first c.into_iter-shelf-iterator.result) ≡ c.args.shelves.items = search rules in
    let first_len : into_iter_len (zip_first c.into_iter-shelf-iterator.result) ≡ length c.args.shelves.items = search rules in
    let second : into_iter_items (zip_second c.into_iter-shelf-iterator.result) ≡ c.args.fronts.items = search rules in
    let second_len : into_iter_len (zip_second c.into_iter-shelf-iterator.result) ≡ length c.args.fronts.items = search rules in
    let road = YieldsList-from_zip (YieldsList-from_vec c.args.shelves.items first first_len) (YieldsList-from_vec c.args.fronts.items second second_len) in
    let end = YieldsList-end road c.loop-shelf.yielded c.loop-shelf.shelf-iterator c.loop-shelf.yielded_by c.next.result c.next.new.self c.in-None.is c.next.ensures.steps in
    let same : length c.args.fronts.items ≡ length c.args.shelves.items = c.requires.fronts.count in
    let all : map (λ (p : TableId × Front). p.1) c.loop-shelf.yielded ≡ c.args.fronts.items
    = sym (seconds_of c.loop-shelf.yielded) ∙ (ap (map (λ (p : TableId × Front). p.1)) end.0 ∙ seconds-zip c.args.shelves.items c.args.fronts.items same) in
    subst (λ (l : List Pages). AreClosed c.args.fronts.items l) (sym c.from_vec.ensures) (subst (λ (l : List Front). AreClosed l c.loop-shelf.books.items) all c.loop-shelf.invariant.closed)
