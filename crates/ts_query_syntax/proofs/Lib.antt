mod BuiltLemmas
mod FaultLemmas
mod JudgeLemmas
mod JudgingLemmas
mod LoopLemmas
mod NumberLemmas
mod PieceLemmas
mod PredicateLemmas
