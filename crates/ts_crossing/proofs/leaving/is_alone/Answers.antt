use Rattle.std.proofs.Common.{◌≡◌, true, false, Some, None}
use Rattle.ts_crossing.proofs.DownLemmas.{next_is, not_alone, is_alone}
use Rattle.ts_crossing.proofs.leaving.is_alone.Goals as goal

pub returns-in-Some-clause-yes : goal.returns-in-Some-clause-yes
returns-in-Some-clause-yes c = λ e. absurd (let h : false ≡ true = e in cc)

pub returns-in-Some-clause-no : goal.returns-in-Some-clause-no
returns-in-Some-clause-no c = λ e. not_alone c.args.graph.now.links c.args.link c.requires c.in-Some.field-0 (next_is c.args.graph.now.links c.args.link c.next_down.result (Some c.in-Some.field-0) c.in-Some.is c.next_down.ensures)

pub returns-in-None-clause-yes : goal.returns-in-None-clause-yes
returns-in-None-clause-yes c = λ e. is_alone c.args.graph.now.links c.args.link (next_is c.args.graph.now.links c.args.link c.next_down.result None c.in-None.is c.next_down.ensures)

pub returns-in-None-clause-no : goal.returns-in-None-clause-no
returns-in-None-clause-no c = λ e. absurd (let h : true ≡ false = e in cc)
