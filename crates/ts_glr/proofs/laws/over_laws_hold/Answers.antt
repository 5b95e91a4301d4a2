use Rattle.std.proofs.Common.{suc, length, arith}
use Rattle.ts_table.specs.Ranks.{unit_rank}
use Rattle.ts_reductions.specs.SoundLinks.{bare_links}
use Rattle.ts_reductions.specs.Sound.{parsing_from}
use Rattle.ts_steps.specs.Weights.{config_weight}
use Rattle.ts_glr.proofs.laws.over_laws_hold.Goals as goal

pub returns : goal.returns
returns c = record {
  counted = c.ends_account.ensures.counted;
  nothing = c.ends_account.ensures.none;
  deep = λ t text base g w met.
      let p = w.sound.laid.parsed in
      c.graphs_are_sound.ensures.deep (parsing_from t text base) p.fit p.states met (unit_rank t.grammar) g.heads (bare_links g.links) w.sound.laid.graph w.deep;
  tree = λ t text base most g start w low begun within best before stuck account r b is.
      let p = w.sound.laid.parsed in
      c.followed_graphs_pack.ensures.tree (parsing_from t text base) p.fit p.states start begun (unit_rank t.grammar) most w.ranks g.heads (bare_links g.links) w.sound.laid.graph
      (suc (length text)) w.whole (omega (arith, within)) (omega arith) low best before stuck account r b is;
  stop = λ t text base most g start w low begun within best before stuck account r q none is.
      let p = w.sound.laid.parsed in
      c.followed_graphs_pack.ensures.stop (parsing_from t text base) p.fit p.states start begun (unit_rank t.grammar) most w.ranks g.heads (bare_links g.links) w.sound.laid.graph
      (suc (length text)) w.whole (omega (arith, within)) (omega arith) low best before stuck account r q none is;
  some = λ t text base most g w low best before stuck account none nowhere.
      let p = w.sound.laid.parsed in
      c.followed_graphs_tell.ensures (parsing_from t text base) p.fit p.states p.grounded (unit_rank t.grammar) most w.ranks g.heads (bare_links g.links) w.sound.laid.graph
      (suc (length text)) w.whole (omega arith) low best before stuck account (config_weight t.grammar (length text)) (λ d e le step. c.steps_fall.ensures t.grammar p.fit text d e le step) none nowhere;
  root_own = c.roots_are_own.ensures.own;
  root_sound = c.roots_are_own.ensures.sound;
}
