use Rattle.std.proofs.Common.{ℕ, List}
use Rattle.ts_base.specs.Bytes.{Bytes}
use Rattle.ts_core.specs.declared.flat.FlatGrammar.{FlatGrammar}
use Rattle.ts_predicate.specs.Predicates.{AnswersOf}
use Rattle.ts_query_syntax.specs.declared.read_query.ReadQuery.{ReadQuery}
use Rattle.ts_script.specs.declared.plan.Plan.{Plan}
use Rattle.ts_session.specs.Replays.{IsReplay}
use Rattle.ts_session.proofs.PlayLemmas.{clear_is_done}
use Rattle.ts_session.proofs.laws.clear_is_replayed.Goals as goal

pub returns : goal.returns
returns g c = λ files gp sp order s b.
    clear_is_done (λ (f : FlatGrammar) (plan : Plan) (queries : List ReadQuery) (openings : List Bytes) (bytes : Bytes). IsReplay f plan queries (AnswersOf (g.H.Hosts.called c.args._hosts.now) (g.H.Hosts.accepts c.args._hosts.now)) openings order bytes)
    c.clear_is_not_refused.ensures (g.H.Hosts.called c.args._hosts.now) files gp sp s b
