use Rattle.std.proofs.Common.{◌∙◌, ap, length, List}
use Rattle.std.specs.Global.{Vec}
use Rattle.ts_items.specs.declared.part.Part.{Part}
use Rattle.ts_items.proofs.TableLemmas.{are_moved, moved_count}
use Rattle.ts_items.proofs.moving.moved.Goals as goal

pub move_parts-requires-clause-count : goal.move_parts-requires-clause-count
move_parts-requires-clause-count c = ap (λ (l : List (Vec Part)). length l) c.as_mut_slice.ensures.value ∙ c.in_ok-moved.ensures.count ∙ c.count.ensures

pub returns-clause-count : goal.returns-clause-count
returns-clause-count c = moved_count c.in_ok-moved.moved.len (length c.args.tabled.now.tables.firsts.items) c.in_ok-moved.moved.items c.as_mut_slice.result.now c.move_parts.new.moved c.as_mut_slice.ensures.value c.as_mut_slice.ensures.len c.in_ok-move_parts.ensures.count (c.in_ok-moved.ensures.count ∙ c.count.ensures)

pub returns-clause-moved : goal.returns-clause-moved
returns-clause-moved c = are_moved c.args.tabled.now.grammar c.args.parts.now c.in_ok-moved.moved.len c.in_ok-moved.moved.items c.as_mut_slice.result.now c.move_parts.new.moved c.as_mut_slice.ensures.value c.as_mut_slice.ensures.len c.in_ok-move_parts.ensures.count c.in_ok-moved.ensures.empty c.in_ok-move_parts.ensures.moved
