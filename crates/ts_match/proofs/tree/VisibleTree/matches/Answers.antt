use Rattle.ts_match.proofs.SceneLemmas.{all_kept, scene_is, too_many_kept}
use Rattle.ts_match.proofs.tree.VisibleTree.matches.Goals as goal

pub returns-clause-matches : goal.returns-clause-matches
returns-clause-matches g c =
    let same = scene_is c.args.query.now.kinds c.as_slice.result.now c.self.inside.cursor.nodes c.args.self.now c.new-sight.result c.new-sight.ensures c.as_slice.ensures c.self.view_is in
    all_kept c.args.query.now c.args.self.now (g.K.Keep.kept c.args.keep.now) c.new-sight.result same c.matches.result (rw c.as_slice-2.ensures at c.matches.ensures.all)

pub returns-clause-many : goal.returns-clause-many
returns-clause-many g c =
    let same = scene_is c.args.query.now.kinds c.as_slice.result.now c.self.inside.cursor.nodes c.args.self.now c.new-sight.result c.new-sight.ensures c.as_slice.ensures c.self.view_is in
    too_many_kept c.args.query.now c.args.self.now (g.K.Keep.kept c.args.keep.now) c.new-sight.result same c.matches.result (rw c.as_slice-2.ensures at c.matches.ensures.many)
