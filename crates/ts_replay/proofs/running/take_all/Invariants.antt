use Rattle.std.proofs.Common.{List, drop}
use Rattle.ts_base.specs.Bytes.{Bytes}
use Rattle.ts_lexer.specs.Lexers.{IsLexerOf}
use Rattle.ts_script.specs.declared.plan.Plan.{Plan}
use Rattle.ts_replay.specs.Running.{CanRun, IsRunAt}
use Rattle.ts_replay.specs.Sights.{StandsFor}
use Rattle.ts_replay.proofs.running.take_all.Given as goal

abbrev pub invariant-loop-client : goal.invariant-loop-client
invariant-loop-client g l = record {
  lexer : IsLexerOf l.lexer l.table;
  kept : StandsFor (g.F.Finder.form l.finder) l.kept;
  can : CanRun (g.F.Finder.finds l.finder) (g.F.Finder.count l.finder) l.table l.documents.items l.clients.items;
  runs : (plan : Plan) (openings : List Bytes)
      → IsRunAt (g.F.Finder.finds l.finder) plan openings l.order l.order l.table l.fn.documents.items l.fn.clients.items
      → IsRunAt (g.F.Finder.finds l.finder) plan openings l.order (drop l.client-index l.order) l.table l.documents.items l.clients.items;
}
