use Rattle.std.proofs.Common.{◌≡◌, ℕ, List, [], length}
use Rattle.ts_base.specs.Bytes.{Bytes}
use Rattle.ts_lexer.specs.Lexers.{IsLexerOf}
use Rattle.ts_script.specs.declared.plan.Plan.{Plan}
use Rattle.ts_replay.specs.Running.{CanRun, IsRunAt, SameOthers, steps_left}
use Rattle.ts_replay.specs.Sights.{StandsFor}
use Rattle.ts_replay.proofs.running.take_own.Given as goal

abbrev pub invariant-loop-alloc : goal.invariant-loop-alloc
invariant-loop-alloc g l = record {
  lexer : IsLexerOf l.lexer l.table;
  kept : StandsFor (g.F.Finder.form l.finder) l.kept;
  can : CanRun (g.F.Finder.finds l.finder) (g.F.Finder.count l.finder) l.table l.documents.items l.clients.items;
  count : length l.clients.items ≡ length l.fn.clients.items;
  others : SameOthers l.client l.fn.clients.items l.clients.items;
  runs : (plan : Plan) (openings : List Bytes) (order : List ℕ)
      → IsRunAt (g.F.Finder.finds l.finder) plan openings order [] l.table l.fn.documents.items l.fn.clients.items
      → IsRunAt (g.F.Finder.finds l.finder) plan openings order [] l.table l.documents.items l.clients.items;
}

abbrev pub decreases-loop-alloc : goal.decreases-loop-alloc
decreases-loop-alloc g l = steps_left l.clients.items l.client
