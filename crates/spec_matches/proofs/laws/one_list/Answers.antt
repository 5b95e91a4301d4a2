use Rattle.std.proofs.Common.{◌≡◌, true}
use Rattle.spec_matches.proofs.EqualLemmas.{one_list_is}
use Rattle.spec_matches.proofs.laws.one_list.Goals as goal

pub returns : goal.returns
returns c query nodes keeps = one_list_is query nodes (λ m. keeps m ≡ true)
