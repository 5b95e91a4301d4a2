use Rattle.ts_ojson.proofs.CodeLemmas.{has_added}
use Rattle.ts_ojson.proofs.gathered.Claimed.with.Goals as goal

pub invariant_of-result : goal.invariant_of-result
invariant_of-result g c n = rw c.in_ok-push.ensures.ok (has_added n c.self.inside.name c.args.value c.self.inside.members _ (c.self.invariant n))
