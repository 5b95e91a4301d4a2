-- What a folder in memory holds.
use Rattle.std.specs.Prelude.{ℕ, List, map, String, Vec, string_bytes}
use Rattle.std.specs.declared.alloc.Global.{Global}
use Rattle.ts_io.specs.Outside.{Files}
use Rattle.ts_io.specs.declared.mem_folder.MemFolder.{MemFolder}

-- pairs of a text and bytes, as files
abbrev pub as_files : List (String Global × Vec ℕ Global) → Files
as_files pairs = map (λ pair. (string_bytes pair.0, pair.1.items)) pairs

-- the files that the folder holds
abbrev pub files_of : MemFolder → Files
files_of f = as_files f.files.items

-- the numbers of the reads that fail
abbrev pub failing_of : MemFolder → List ℕ
failing_of f = f.failing.items

-- how many reads were made, which is the next one's number
abbrev pub reads_of : MemFolder → ℕ
reads_of f = f.reads

-- how many of the reads failed
abbrev pub faults_of : MemFolder → ℕ
faults_of f = f.faults
