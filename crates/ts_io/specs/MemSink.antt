-- What a sink in memory holds, and what its next write does.
use Rattle.std.specs.Prelude.{◌≡◌, ◌≢◌, ◌⊎◌, ℕ, ◌-◌, min, List, [], length, Contains}
use Rattle.ts_base.specs.Bytes.{Bytes}
use Rattle.ts_io.specs.declared.mem_sink.MemSink.{MemSink}
use Rattle.ts_io.specs.Room.{sink_room}

-- the bytes that were taken
abbrev pub bytes_of : MemSink → Bytes
bytes_of s = s.bytes.items

-- the most bytes that a write takes
abbrev pub most_of : MemSink → ℕ
most_of s = s.most

-- the numbers of the writes that fail
abbrev pub failing_of : MemSink → List ℕ
failing_of s = s.failing.items

-- how many writes were made, which is the next one's number
abbrev pub writes_of : MemSink → ℕ
writes_of s = s.writes

-- how many of the writes failed
abbrev pub faults_of : MemSink → ℕ
faults_of s = s.faults

-- how many more bytes there is room for
abbrev pub room_of : MemSink → ℕ
room_of s = sink_room - length (bytes_of s)

-- how many of so many bytes the next write takes, unless it fails
abbrev pub count_of : MemSink → ℕ → ℕ
count_of s offered = min (min (most_of s) offered) (room_of s)

-- The next write fails: its number is listed, or it brings bytes to a full room.
abbrev pub Fails : MemSink → Bytes → Type 0
Fails s bytes = Contains (failing_of s) (writes_of s) ⊎ ((bytes ≢ []) × (room_of s ≡ 0))
