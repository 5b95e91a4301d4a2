use Rattle.std.proofs.Common.{◌≡◌, ◌∙◌, ◌+◌, ap, subst, length, List, ℕ, refl, arith}
use Rattle.std.specs.Global.{Vec}
use Rattle.std.proofs.lemmas.List.{take_all}
use Rattle.ts_items.specs.Rows.{Puts}
use Rattle.ts_items.proofs.ListLemmas.{written}
use Rattle.ts_items.proofs.EdgeLemmas.{lines_none, lines_more, lines_all, are_lines, inside_at}
use Rattle.ts_items.proofs.tables.lines_of.Goals as goal

pub loop-production-init : goal.loop-production-init
loop-production-init c = record { line = refl; puts = lines_none c.args.productions.now c.in_ok-lines.lines.items }

pub put-requires : goal.put-requires
put-requires c =
    let size : length c.as_mut_slice.result.now ≡ c.args.count = ap (λ (l : List (Vec ℕ)). length l) c.as_mut_slice.ensures.value ∙ c.loop-production.invariant.puts.count ∙ c.in_ok-lines.ensures.count in
    let inside = inside_at c.args.productions.now c.loop-production.production-index c.args.count (length c.as_mut_slice.result.now) c.production-item.result c.requires.inside c.loop-production-test.true c.production-item.is size in
    let lt = inside.left in
    omega (arith, lt, c.from.ensures)

pub loop-production-preserved : goal.loop-production-preserved
loop-production-preserved c = record {
  line = let e = c.loop-production.invariant.line in omega (arith, e);
  puts = rw (written c.loop-production.lines.items c.as_mut_slice.result.now c.put.new.rows c.loop-production.lines.len c.as_mut_slice.ensures.value c.as_mut_slice.ensures.len c.in_ok-put.ensures.count)
      (lines_more c.args.productions.now c.loop-production.production-index c.from.result (c.loop-production.line + 1) c.production-item.result c.in_ok-lines.lines.items c.loop-production.lines.items c.put.new.rows
      c.loop-production-test.true c.production-item.is c.from.ensures (let e = c.loop-production.invariant.line in omega (arith, e)) c.loop-production.invariant.puts
      (subst (λ (l : List (Vec ℕ)). Puts (λ y n. (y ≡ c.from.result) × (n ≡ c.loop-production.line + 1)) l c.put.new.rows) c.as_mut_slice.ensures.value c.in_ok-put.ensures));
}

pub returns : goal.returns
returns c = are_lines c.args.productions.now c.args.count c.in_ok-lines.lines.items c.loop-production.lines.items c.in_ok-lines.ensures.count c.in_ok-lines.ensures.empty
    (lines_all c.args.productions.now c.loop-production.production-index c.in_ok-lines.lines.items c.loop-production.lines.items (take_all _ _ c.loop-production-test.false) c.loop-production.invariant.puts)
