use Rattle.std.proofs.Common.{◌+◌, arith}
use Rattle.spec_trees.specs.Trees.{all_spans}
use Rattle.ts_reductions.proofs.SmallLemmas.{end_by_wider}
use Rattle.ts_reductions.proofs.making.extent_over.Goals as goal

pub examined-reach-requires-clause-room : goal.examined-reach-requires-clause-room
examined-reach-requires-clause-room c =
    let r = c.requires.room in
    let own = c.spans-own.ensures in
    (r.0, (let low = r.2 in omega arith), end_by_wider r.0 r.0 (r.1 + all_spans c.args.children.now) c.spans-own.result c.args.extras.now (omega arith) (omega arith) r.4)

pub examined-requires-clause-room : goal.examined-requires-clause-room
examined-requires-clause-room c =
    let r = c.requires.room in
    (r.0, (let low = r.2 in omega arith), end_by_wider r.0 r.0 r.1 0 c.args.children.now (omega arith) (omega arith) r.3)

pub returns-clause-most : goal.returns-clause-most
returns-clause-most c start limit sum inner outer =
    let own = c.spans-own.ensures in
    let behind = c.spans.ensures in
    let reach = c.examined-reach.ensures.most start limit (omega arith) (end_by_wider limit limit (start + all_spans c.args.children.now) (start + c.spans-own.result) c.args.extras.now (omega arith) (omega arith) outer) in
    c.examined.ensures.most start limit reach (end_by_wider limit limit start (start + 0) c.args.children.now (omega arith) (omega arith) inner)
