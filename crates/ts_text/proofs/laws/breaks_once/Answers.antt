use Rattle.ts_text.proofs.TextLemmas as lemma
use Rattle.ts_text.proofs.laws.breaks_once.Goals as goal

pub returns-clause-place : goal.returns-clause-place
returns-clause-place c bytes m n one other = lemma.breaks_once bytes m n one.breaks other.breaks

pub returns-clause-text : goal.returns-clause-text
returns-clause-text c bytes n is broken = lemma.whole_breaks_nowhere bytes n is.utf8 broken
