use Rattle.std.proofs.Common.{sym}
use Rattle.ts_items.proofs.PoolLemmas.{kernel_grows, kernel_of, kernel_once, kernels_same}
use Rattle.ts_items.proofs.numbering.number_of.Goals as goal

pub returns-clause-grows : goal.returns-clause-grows
returns-clause-grows c = kernel_grows c.args.kernels.now.keys c.insert_full.new.self.keys c.args.kernel c.in_ok-number.ensures.keys

pub returns-clause-of : goal.returns-clause-of
returns-clause-of c = kernel_of c.args.kernels.now.keys c.insert_full.new.self.keys c.args.kernel c.in_ok-number.ensures.keys

pub returns-clause-once : goal.returns-clause-once
returns-clause-once c = kernel_once c.args.kernels.now.keys c.insert_full.new.self.keys c.args.kernel c.in_ok-number.ensures.keys

pub returns-clause-place : goal.returns-clause-place
returns-clause-place c = let s = c.in_ok-number.ensures.stored in (s.0, s.1, sym (kernels_same c.args.kernel s.0 s.2))
