-- What the folder of the system keeps.
use Rattle.std.specs.Prelude.{ℕ}
use Rattle.ts_io.specs.declared.os_folder.OsFolder.{OsFolder}

-- how many of the reads failed
abbrev pub faults_of : {R : Type 0} → OsFolder R → ℕ
faults_of f = f.faults
