use Rattle.std.proofs.Common.{◌≡◌, drop}
use Rattle.ts_io.specs.MemFolder.{as_files, files_of}
use Rattle.ts_io.specs.Outside.{file_at}
use Rattle.ts_io.proofs.mem_folder.MemFolder.bytes_at.Given as goal

-- The path's file is the one among the files that are left.
abbrev pub invariant-loop-name : goal.invariant-loop-name
invariant-loop-name l =
    file_at (files_of l.self) l.path
    ≡ file_at (as_files (drop l.name-index l.self.files.items)) l.path
