mod DraftLemmas
mod FormLemmas
mod LineLemmas
mod SaidLemmas
mod ScriptLemmas
