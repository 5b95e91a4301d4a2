use Rattle.spec_matches.proofs.EqualLemmas.{same_capture, same_captures, same_match, same_matches}
use Rattle.spec_matches.proofs.laws.one_order.Goals as goal

pub returns-clause-captures : goal.returns-clause-captures
returns-clause-captures c = same_captures

pub returns-clause-matches : goal.returns-clause-matches
returns-clause-matches c = same_matches

pub returns-clause-one_capture : goal.returns-clause-one_capture
returns-clause-one_capture c = same_capture

pub returns-clause-one_match : goal.returns-clause-one_match
returns-clause-one_match c = same_match
