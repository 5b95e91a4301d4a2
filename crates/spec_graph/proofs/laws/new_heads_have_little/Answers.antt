use Rattle.std.proofs.Common.{[], ◌∷◌, refl, ℕ}
use Rattle.spec_graph.proofs.BaseLemmas.{ground_base}
use Rattle.spec_graph.proofs.DueLemmas.{only_the_extra, no_node_behind, nothing_late, no_node_late}
use Rattle.spec_graph.proofs.laws.new_heads_have_little.Goals as goal

pub returns-clause-extra : goal.returns-clause-extra
returns-clause-extra c P fit states ground rank k read from s pad size late full passes place now t l = let w = only_the_extra P (record { laws = c.laws_hold.ensures; fit = fit; states = states }) (ground_base P (record { laws = c.laws_hold.ensures; fit = fit; states = states }) ground) rank k read from s pad size late full passes (t ∷ []) place now t l refl in (w.tree, w.end, w.read_is)

pub returns-clause-none : goal.returns-clause-none
returns-clause-none c P fit states ground read from s pad size late full passes ks end over extras look number left p can = no_node_behind P (record { laws = c.laws_hold.ensures; fit = fit; states = states }) (ground_base P (record { laws = c.laws_hold.ensures; fit = fit; states = states }) ground) (λ (n : ℕ). n) (record { look = 0; begins = 0; rank = 0 }) read from s pad size late full passes ks end over extras look number left p can

pub returns-clause-late : goal.returns-clause-late
returns-clause-late c P fit states ground rank k read from late full at place now t l = nothing_late P (record { laws = c.laws_hold.ensures; fit = fit; states = states }) (ground_base P (record { laws = c.laws_hold.ensures; fit = fit; states = states }) ground) rank k read from late full at (t ∷ []) place now t l refl

pub returns-clause-late_nodes : goal.returns-clause-late_nodes
returns-clause-late_nodes c P fit states ground rank k read from late full at ks end over extras look number left p can earlier = no_node_late P (record { laws = c.laws_hold.ensures; fit = fit; states = states }) (ground_base P (record { laws = c.laws_hold.ensures; fit = fit; states = states }) ground) rank k read from late full at ks end over extras look number left p can earlier
