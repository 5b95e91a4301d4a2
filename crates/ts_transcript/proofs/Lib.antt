mod BatchLemmas
mod ColumnLemmas
mod LineLemmas
mod MadeLemmas
mod PieceLemmas
mod RunLemmas
mod SyncLemmas
