-- The names of what there can be too much of in a grammar.
use Rattle.std.specs.Prelude.{codes}
use Rattle.ts_base.specs.Bytes.{Bytes}
use Rattle.ts_core.specs.declared.limits.Limited.{Limited}
use Rattle.ts_core.specs.declared.limits.Limited.TheVariants.{File, Rules, Symbols, Productions, Steps, Positions, Fields}

-- the name under which a limit is told
abbrev pub limit_name : Limited → Bytes
limit_name File = codes "file"
limit_name Rules = codes "rules"
limit_name Symbols = codes "symbols"
limit_name Productions = codes "productions"
limit_name Steps = codes "steps"
limit_name Positions = codes "positions"
limit_name Fields = codes "fields"
