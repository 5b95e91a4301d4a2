use Rattle.std.proofs.Common.{◌≡◌, ◌∙◌, ap, refl, subst, List, length, slice_get, Some, arith}
use Rattle.ts_reductions.specs.declared.top.Top.{Top}
use Rattle.ts_places.specs.declared.sights.Span.{Span}
use Rattle.ts_places.proofs.looking.span_of.Goals as goal

pub span_at-requires : goal.span_at-requires
span_at-requires c =
    let t = c.loop-k-test.true in
    let a = ap (λ (l : List Top). length l) c.as_slice-tops.ensures.value in
    let b = ap (λ (l : List Span). length l) c.as_slice-spans.ensures.value in
    let n = c.requires in
    omega (arith, t, a, b, n)

pub returns-then-is_same : goal.returns-then-is_same
returns-then-is_same c = (
  c.loop-k.k,
  subst (λ (l : List Top). slice_get l c.loop-k.k ≡ Some c.args.top) c.as_slice-tops.ensures.value (c.top_at.ensures ∙ ap (λ (x : Top). Some x) (c.if-is_same.ensures refl)),
  subst (λ (l : List Span). slice_get l c.loop-k.k ≡ Some c.span_at.result) c.as_slice-spans.ensures.value c.span_at.ensures,
)
