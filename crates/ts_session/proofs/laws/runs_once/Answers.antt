use Rattle.std.proofs.Common.{ℕ, List}
use Rattle.ts_base.specs.Bytes.{Bytes}
use Rattle.ts_core.specs.declared.flat.FlatGrammar.{FlatGrammar}
use Rattle.ts_predicate.specs.Predicates.{AnswersOf}
use Rattle.ts_query_syntax.specs.declared.read_query.ReadQuery.{ReadQuery}
use Rattle.ts_script.specs.declared.plan.Plan.{Plan}
use Rattle.ts_session.specs.Replays.{IsRun}
use Rattle.ts_session.proofs.PlayLemmas.{status_once, bytes_once}
use Rattle.ts_session.proofs.laws.runs_once.Goals as goal

pub returns : goal.returns
returns g c = record {
  status = λ files gp sp s t b d.
      status_once (λ (f : FlatGrammar) (plan : Plan) (queries : List ReadQuery) (openings : List Bytes) (bytes : Bytes). IsRun f plan queries (AnswersOf (g.H.Hosts.called c.args._hosts.now) (g.H.Hosts.accepts c.args._hosts.now)) openings bytes)
      (record { status = c.one_refusal.ensures.status; line = c.one_refusal.ensures.line; loaded = c.one_refusal.ensures.loaded }) (g.H.Hosts.called c.args._hosts.now) files gp sp s t b d;
  bytes = λ files gp sp s t b d.
      bytes_once (λ (f : FlatGrammar) (plan : Plan) (queries : List ReadQuery) (openings : List Bytes) (bytes : Bytes). IsRun f plan queries (AnswersOf (g.H.Hosts.called c.args._hosts.now) (g.H.Hosts.accepts c.args._hosts.now)) openings bytes)
      (record { status = c.one_refusal.ensures.status; line = c.one_refusal.ensures.line; loaded = c.one_refusal.ensures.loaded }) (g.H.Hosts.called c.args._hosts.now) files gp sp s t b d;
}
