use Rattle.ts_places.proofs.OutcomeLemmas.{ends_counted, none_is_best}
use Rattle.ts_places.proofs.end_laws.ends_account.Goals as goal

pub returns-clause-counted : goal.returns-clause-counted
returns-clause-counted c t text base g to ends best before after e is olds news from = ends_counted t text base g to ends best before after e is olds news from

pub returns-clause-none : goal.returns-clause-none
returns-clause-none c t text g heads none = none_is_best t text g heads none
