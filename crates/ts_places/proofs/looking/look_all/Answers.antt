use Rattle.std.proofs.Common.{ℕ, List, [], get_or, subst, sym, append-nil, arith, ◌++◌, take}
use Rattle.ts_places.specs.Looking.{AreSights}
use Rattle.ts_places.proofs.SmallLemmas.{item_in, read_any, taken_more, taken_all}
use Rattle.ts_places.proofs.SightLemmas.{add_one, all_tops}
use Rattle.ts_places.proofs.AgainLemmas.{count_more, tops_more, led_more}
use Rattle.ts_places.proofs.looking.look_all.Goals as goal

pub loop-number-init : goal.loop-number-init
loop-number-init g c = record {
  made = c.requires.made;
  count = c.requires.count;
  more = ([], sym (append-nil c.args.sights.now.tops.items));
  sights = λ look before stand a led. subst (λ (l : List ℕ). AreSights c.args.table.now (g.L.Text.Content.bytes c.args.text.now) c.args.graph.now look l c.args.sights.now) (sym (append-nil before)) a;
}

pub look_once-lexed-requires-clause-there : goal.look_once-lexed-requires-clause-there
look_once-lexed-requires-clause-there g c =
    let x = get_or c.args.numbers.now c.loop-number.number-index 0 in
    let low = c.loop-number-test.true in
    (c.requires.stand.0, c.requires.stand.1 x (item_in c.args.numbers.now c.loop-number.number-index x low (read_any c.args.numbers.now c.loop-number.number-index 0 x low)))

pub loop-number-preserved : goal.loop-number-preserved
loop-number-preserved g c =
    let x = get_or c.args.numbers.now c.loop-number.number-index 0 in
    let low = c.loop-number-test.true in
    let is = read_any c.args.numbers.now c.loop-number.number-index 0 x low in
    let there = item_in c.args.numbers.now c.loop-number.number-index x low is in
    record {
      made = c.look_once-lexed.ensures.made;
      count = count_more x c.look_once-lexed.result c.loop-number.sights c.add.new.sights c.in_ok-add.ensures c.loop-number.invariant.count;
      more = tops_more x c.look_once-lexed.result c.args.sights.now.tops.items c.loop-number.sights c.add.new.sights c.in_ok-add.ensures c.loop-number.invariant.more;
      sights = λ look before stand a led.
          let so = c.loop-number.invariant.sights look before stand a led in
          let now = led_more c.args.table.now (g.L.Text.Content.bytes c.args.text.now) c.args.graph.now c.args.room.now c.args.sights.now.tops.items c.loop-number.sights.tops.items c.loop-number.invariant.more led in
          subst (λ (l : List ℕ). AreSights c.args.table.now (g.L.Text.Content.bytes c.args.text.now) c.args.graph.now look l c.add.new.sights) (taken_more before c.args.numbers.now c.loop-number.number-index x low is)
          (add_one c.look_laws_hold.ensures c.args.table.now (g.L.Text.Content.bytes c.args.text.now) c.args.graph.now c.requires.sound look (before ++ take c.loop-number.number-index c.args.numbers.now) x c.look_once-lexed.result c.loop-number.sights c.add.new.sights so (stand x there)
          (c.look_once-lexed.ensures.sees look (before ++ take c.loop-number.number-index c.args.numbers.now) (stand x there) so now) c.in_ok-add.ensures);
    }

pub returns-clause-sights : goal.returns-clause-sights
returns-clause-sights g c = λ look before stand a led.
    subst (λ (l : List ℕ). AreSights c.args.table.now (g.L.Text.Content.bytes c.args.text.now) c.args.graph.now look l c.loop-number.sights) (taken_all before c.args.numbers.now c.loop-number.number-index (let h = c.loop-number-test.false in omega arith))
    (c.loop-number.invariant.sights look before stand a led)

pub returns-clause-tops : goal.returns-clause-tops
returns-clause-tops g c = λ look before stand a led has.
    all_tops c.look_laws_hold.ensures c.args.table.now (g.L.Text.Content.bytes c.args.text.now) c.args.graph.now c.requires.sound look (before ++ c.args.numbers.now) c.loop-number.sights
    (subst (λ (l : List ℕ). AreSights c.args.table.now (g.L.Text.Content.bytes c.args.text.now) c.args.graph.now look l c.loop-number.sights) (taken_all before c.args.numbers.now c.loop-number.number-index (let h = c.loop-number-test.false in omega arith))
    (c.loop-number.invariant.sights look before stand a led)) has
