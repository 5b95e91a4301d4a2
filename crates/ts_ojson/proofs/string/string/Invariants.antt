use Rattle.std.proofs.Common.{◌≤◌, ◌-◌, length, []}
use Rattle.std.specs.Prelude.{string_bytes}
use Rattle.ts_ojson.specs.declared.escape.Escape.TheVariants.{Plain}
use Rattle.ts_ojson.specs.Machine.{Frames}
use Rattle.ts_ojson.specs.Roles.{Role}
use Rattle.ts_ojson.specs.States.{text}
use Rattle.ts_ojson.specs.Places.{Reaches, NoPlain}
use Rattle.ts_ojson.proofs.string.string.Given as goal

abbrev pub invariant-loop-read : goal.invariant-loop-read
invariant-loop-read l = record {
  within : (l.from ≤ l.end) × (l.end ≤ length l.text);
  stop : NoPlain l.text l.end;
  reaches : (role : Role) (k : Frames) → Reaches l.text l.from (text Plain [] role) k → Reaches l.text l.end (text Plain (string_bytes l.read) role) k;
}

abbrev pub decreases-loop-read : goal.decreases-loop-read
decreases-loop-read l = length l.text - l.end
