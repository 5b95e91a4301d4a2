use Rattle.std.proofs.Common.{◌≡◌, ◌≤◌, ℕ, length, Some}
use Rattle.ts_io.specs.Outside.{Files}
use Rattle.ts_session.specs.Firsts.{AreFirsts}
use Rattle.ts_session.proofs.first.read_firsts.Given as goal

abbrev pub invariant-loop-source : goal.invariant-loop-source
invariant-loop-source g l =
    (g.F.Folder.files l.folder ≡ g.F.Folder.files l.initial.folder) × (g.F.Folder.faults l.initial.folder ≤ g.F.Folder.faults l.folder) × (length l.firsts.items ≡ l.source-index)
    × ((files : Files) → g.F.Folder.files l.initial.folder ≡ Some files → AreFirsts files l.documents l.firsts.items)
