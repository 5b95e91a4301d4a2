-- What the sink of the standard output keeps.
use Rattle.std.specs.Prelude.{ℕ}
use Rattle.ts_io.specs.declared.out_sink.OutSink.{OutSink}

-- how many of the writes failed
abbrev pub faults_of : {R : Type 0} → OutSink R → ℕ
faults_of s = s.faults
