-- What a folder that takes notes keeps.
use Rattle.std.specs.Prelude.{Option, String}
use Rattle.std.specs.declared.alloc.Global.{Global}
use Rattle.ts_cli.specs.declared.noted.Noted.{Noted}

-- the folder that is read
abbrev pub folder_of : {F : Type 0} → Noted F → F
folder_of n = n.folder

-- the path of the last failed read, if there was one and memory for its path
abbrev pub failed_of : {F : Type 0} → Noted F → Option (String Global)
failed_of n = n.failed
