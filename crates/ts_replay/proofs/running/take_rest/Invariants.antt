use Rattle.std.proofs.Common.{◌≡◌, ℕ, List, [], length}
use Rattle.ts_base.specs.Bytes.{Bytes}
use Rattle.ts_lexer.specs.Lexers.{IsLexerOf}
use Rattle.ts_script.specs.declared.plan.Plan.{Plan}
use Rattle.ts_replay.specs.Running.{CanRun, IsRunAt, AreDone}
use Rattle.ts_replay.specs.Sights.{StandsFor}
use Rattle.ts_replay.proofs.running.take_rest.Given as goal

abbrev pub invariant-loop-client : goal.invariant-loop-client
invariant-loop-client g l = record {
  lexer : IsLexerOf l.lexer l.table;
  kept : StandsFor (g.F.Finder.form l.finder) l.kept;
  can : CanRun (g.F.Finder.finds l.finder) (g.F.Finder.count l.finder) l.table l.documents.items l.clients.items;
  count : length l.clients.items ≡ length l.fn.clients.items;
  done : AreDone l.clients.items l.client;
  runs : (plan : Plan) (openings : List Bytes) (order : List ℕ)
      → IsRunAt (g.F.Finder.finds l.finder) plan openings order [] l.table l.fn.documents.items l.fn.clients.items
      → IsRunAt (g.F.Finder.finds l.finder) plan openings order [] l.table l.documents.items l.clients.items;
}
