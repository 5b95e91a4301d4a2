use Rattle.std.proofs.Common.{arith, subst}
use Rattle.ts_pattern.specs.declared.level.Finished.{Finished}
use Rattle.ts_pattern.specs.Machine.{IsFinish}
use Rattle.ts_pattern.proofs.StateLemmas.{stops_at_end, whole, empty_stack}
use Rattle.ts_pattern.proofs.state.end.Goals as goal

pub returns-then-len-gt0 : goal.returns-then-len-gt0
returns-then-len-gt0 c ignore_case w h e = stops_at_end ignore_case w c.args.state h e (omega (arith, c.len.ensures))

pub returns-in-Whole : goal.returns-in-Whole
returns-in-Whole c ignore_case w h e =
    let tree = whole ignore_case w c.args.state h e (empty_stack c.args.state.outer (omega (arith, c.len.ensures))) in
    let f = subst (λ (x : Finished). IsFinish h.inner x) c.in-Whole.is (c.in_ok-re.ensures h.inner h.level) in
    (h.inner, tree, f.0, f.1)

pub returns : goal.returns
returns c ignore_case w h e =
    let tree = whole ignore_case w c.args.state h e (empty_stack c.args.state.outer (omega (arith, c.len.ensures))) in
    (h.inner, tree, subst (λ (x : Finished). IsFinish h.inner x) c.in-Over.is (c.in_ok-re.ensures h.inner h.level))
