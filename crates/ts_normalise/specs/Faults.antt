-- What the faults of the parts of a normal form are as faults of the whole.
use Rattle.ts_form.specs.declared.fault.FormFault.{FormFault}
use Rattle.ts_tokens.specs.declared.fault.PatternFault.{PatternFault}
use Rattle.ts_tokens.specs.declared.inlining.InlineFault.{InlineFault}
use Rattle.ts_normalise.specs.declared.fault.NFault.{NFault}
use Rattle.ts_normalise.specs.declared.fault.NFault.TheVariants as fault

-- an inlined rule that can't be one
abbrev pub inline_told : InlineFault → NFault
inline_told (InlineFault.Bad name) = fault.BadInline name
inline_told InlineFault.Memory = fault.Memory

-- a pattern that can't be read
abbrev pub pattern_told : PatternFault → NFault
pattern_told (PatternFault.Refused rule cause) = fault.Pattern rule cause
pattern_told PatternFault.Memory = fault.Memory

-- a limit that is passed
abbrev pub form_told : FormFault → NFault
form_told (FormFault.Limit limit) = fault.Limit limit
form_told FormFault.Memory = fault.Memory
