-- How much a sink in memory takes.
use Rattle.std.specs.Prelude.{ℕ}

-- how many bytes a sink in memory has room for: 16 MiB
abbrev pub sink_room : ℕ
sink_room = 16777216
