use Rattle.ts_pattern.proofs.SpellingLemmas.{spelling_short, spelled_ranges, spelled_counts}
use Rattle.ts_pattern.proofs.laws.spellings_are_formed.Goals as goal

pub returns-clause-short : goal.returns-clause-short
returns-clause-short c w ignore_case p tree = spelling_short ignore_case w p tree

pub returns-clause-ranges : goal.returns-clause-ranges
returns-clause-ranges c w ignore_case p ranges tree v = spelled_ranges ignore_case w p tree ranges v

pub returns-clause-counts : goal.returns-clause-counts
returns-clause-counts c w ignore_case p least most tree v = spelled_counts ignore_case w p tree least most v
