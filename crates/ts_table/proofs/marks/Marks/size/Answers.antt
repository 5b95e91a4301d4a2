use Rattle.std.proofs.Common.{◌≡◌, length, arith}
use Rattle.ts_table.proofs.MarkLemmas.{right_size}
use Rattle.ts_table.proofs.marks.Marks.size.Goals as goal

pub returns : goal.returns
returns c g are =
    let e : c.len.result ≡ length c.index.result.now.steps.items = omega (arith, c.index.result.now.steps.ok.0, c.len.ensures) in
    right_size g c.args.self.now c.args.line c.from.result c.len.result c.index.result.now are (λ e. let h = c.requires in omega (arith, e, h.0)) c.from.ensures c.requires.1 c.index.ensures e
