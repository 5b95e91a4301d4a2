use Rattle.std.proofs.Common.{◌≤◌, ◌<◌, length, refl, arith}
use Rattle.std.proofs.lemmas.Option.{slice_get_read}
use Rattle.ts_lexer.proofs.RoleLemmas.{beyond_role, token_role}
use Rattle.ts_lexer.proofs.view.role_of.Goals as goal

pub returns-then-part-count : goal.returns-then-part-count
returns-then-part-count c g valid rules view =
    let past : length c.args.rules.now.kinds.items ≤ c.args.part = omega (arith, c.if-part-count.true, c.len-count.ensures, c.args.rules.now.kinds.ok.0) in
    rw c.beyond.ensures (beyond_role g valid c.args.first c.args.rules.now c.args.view.now rules view c.args.part c.is_below-separator.result past c.is_below-separator.ensures)

pub returns : goal.returns
returns c g valid rules view =
    let below : c.args.part < length c.args.rules.now.kinds.items = omega (arith, c.if-part-count.false, c.len-count.ensures, c.args.rules.now.kinds.ok.0) in
    let there = slice_get_read c.args.rules.now.kinds.items (length c.args.rules.now.kinds.items) c.args.part c.index-kind.result.now refl below c.index-kind.ensures in
    let marked = rw c.as_slice.ensures.value at c.is_marked-valid.ensures in
    rw (c.either_holds-wanted.ensures, c.both_hold-by_word.ensures, c.both_hold-plain.ensures, c.both_hold-keyword.ensures, c.both_hold-stands.ensures, c.either_holds-allowed.ensures, c.fails-later.ensures, c.fails-no_keyword.ensures)
    (token_role g valid c.args.first c.args.rules.now c.args.view.now rules view c.args.part c.index-kind.result.now c.is_marked-valid.result c.is_word-word.result there marked c.is_word-word.ensures)
